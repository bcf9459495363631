-- What an event leaves of a file, beside what files keep.
use Rattle.std.proofs.Common.{◌≡◌, ℕ, Bool, true, false, List, [], ◌∷◌, Option, refl, sym, ap, ◌∙◌, not, arith}
use Rattle.std.specs.Prelude.{◌==◌, filter, is_some, if◌then◌else◌}
use Rattle.std.proofs.lemmas.Grind.{common_steps}
use Rattle.pg_bytes.specs.Order.{in_order}
use Rattle.pg_digest.specs.Kinds.{Hash}
use Rattle.cs_policy.specs.declared.access.Access.{Access}
use Rattle.cs_policy.specs.declared.access.Access.TheVariants.{Read, Write, Execute}
use Rattle.cs_policy.specs.declared.region.Region.{Region}
use Rattle.cs_policy.specs.declared.file.FileEvent.{FileEvent}
use Rattle.cs_policy.specs.declared.file.FileEvent.TheVariants as event
use Rattle.cs_policy.specs.declared.file.FileReply.TheVariants as reply
use Rattle.cs_policy.specs.ProcFlags.{guarded}
use Rattle.cs_blob.specs.Signature.{Signature}
use Rattle.pg_regions.specs.Lookups.{region_of, region_before, is_region}
use Rattle.pg_plain.specs.PlainFile.{PlainFile, has_copy, page_of}
use Rattle.pg_plain.specs.Given.{put_at, entered, at_hand, granted, stripped, copied, written_to, given_page}
use Rattle.pg_plain.specs.Steps.{Answer, without_regions, file_step}
use Rattle.pg_history.specs.Content.{regions_after}
use Rattle.pg_sealing.proofs.StepCases.{step_leaves}

-- ---- what never changes

pub record Stays (file new : PlainFile) : Type 0 where
  pub layout : new.layout ≡ file.layout
  pub page_size : new.page_size ≡ file.page_size

at_hand_stays : (region : Region) (page : ℕ) (file : PlainFile) → Stays file (at_hand region page file)
at_hand_stays region page file = by_copy (has_copy file region.id page)
  where
    by_copy : (copy : Bool) → Stays file (if copy then file else entered page file)
    by_copy true = record { layout = refl; page_size = refl }
    by_copy false = record { layout = refl; page_size = refl }

copied_stays : (region : Region) (page : ℕ) (file : PlainFile) → Stays file (copied region page file)
copied_stays region page file = by_copy (has_copy file region.id page)
  where
    by_copy : (copy : Bool) → Stays file (if copy then file else record file { copies = put_at region.id page (page_of file page) file.copies })
    by_copy true = record { layout = refl; page_size = refl }
    by_copy false = record { layout = refl; page_size = refl }

through : (one two three : PlainFile) → Stays one two → Stays two three → Stays one three
through one two three first second = record { layout = second.layout ∙ first.layout; page_size = second.page_size ∙ first.page_size }

written_to_stays : (region : Region) (page : ℕ) (file : PlainFile) → Stays file (written_to region page file)
written_to_stays region page file = by_shared region.shared
  where
    by_shared : (shared : Bool) → Stays file (if shared then stripped page file else copied region page file)
    by_shared true = record { layout = refl; page_size = refl }
    by_shared false = copied_stays region page file

-- a page that is given leaves what is attached
at_hand_blobs : (region : Region) (page : ℕ) (file : PlainFile) → (at_hand region page file).blobs ≡ file.blobs
at_hand_blobs region page file = by_copy (has_copy file region.id page)
  where
    by_copy : (copy : Bool) → (if copy then file else entered page file).blobs ≡ file.blobs
    by_copy true = refl
    by_copy false = refl

copied_blobs : (region : Region) (page : ℕ) (file : PlainFile) → (copied region page file).blobs ≡ file.blobs
copied_blobs region page file = by_copy (has_copy file region.id page)
  where
    by_copy : (copy : Bool) → (if copy then file else record file { copies = put_at region.id page (page_of file page) file.copies }).blobs ≡ file.blobs
    by_copy true = refl
    by_copy false = refl

pub given_blobs : (region : Region) (page : ℕ) (access : Access) (under : Bool) (file : PlainFile) → (given_page region page access under file).blobs ≡ file.blobs
given_blobs region page Read under file = at_hand_blobs region page file
given_blobs region page Execute under file = at_hand_blobs region page file
given_blobs region page Write under file = by_shared region.shared ∙ at_hand_blobs region page file
  where
    by_shared : (shared : Bool)
        → (if shared then stripped page (granted region page Write under (at_hand region page file)) else copied region page (granted region page Write under (at_hand region page file))).blobs
        ≡ (at_hand region page file).blobs
    by_shared true = refl
    by_shared false = copied_blobs region page (granted region page Write under (at_hand region page file))

given_stays : (region : Region) (page : ℕ) (access : Access) (under : Bool) (file : PlainFile) → Stays file (given_page region page access under file)
given_stays region page Read under file =
    through file (at_hand region page file) (granted region page Read under (at_hand region page file)) (at_hand_stays region page file) (record { layout = refl; page_size = refl })
given_stays region page Execute under file =
    through file (at_hand region page file) (granted region page Execute under (at_hand region page file)) (at_hand_stays region page file) (record { layout = refl; page_size = refl })
given_stays region page Write under file =
    through file (at_hand region page file) (written_to region page (granted region page Write under (at_hand region page file))) (at_hand_stays region page file)
    (through (at_hand region page file) (granted region page Write under (at_hand region page file)) (written_to region page (granted region page Write under (at_hand region page file)))
    (record { layout = refl; page_size = refl }) (written_to_stays region page (granted region page Write under (at_hand region page file))))

pub step_stays : (hash : Hash) (file : PlainFile) (e : FileEvent) (blob : Option Signature) (outcome : ℕ) → Stays file (file_step hash file e blob outcome).1
step_stays hash file e blob outcome = step_leaves hash file (Stays file) e blob outcome (record {
  itself = record { layout = refl; page_size = refl };
  attached = λ slice cdhash read lookup number b is. record { layout = refl; page_size = refl };
  written_over = λ at piece bytes is. record { layout = refl; page_size = refl };
  mapped = λ region insert is. record { layout = refl; page_size = refl };
  dropped = λ id is. record { layout = refl; page_size = refl };
  dropped_all = λ pid is. record { layout = refl; page_size = refl };
  given = λ id page access flags resolve region is found. given_stays region page access (guarded flags) file;
  stored_copy = λ id page at bytes resolve is. record { layout = refl; page_size = refl };
  stored_page = λ id page at bytes resolve is. record { layout = refl; page_size = refl };
  left = λ page is. record { layout = refl; page_size = refl };
})

-- ---- the regions that stand

at_hand_regions : (region : Region) (page : ℕ) (file : PlainFile) → (at_hand region page file).regions ≡ file.regions
at_hand_regions region page file = by_copy (has_copy file region.id page)
  where
    by_copy : (copy : Bool) → (if copy then file else entered page file).regions ≡ file.regions
    by_copy true = refl
    by_copy false = refl

copied_regions : (region : Region) (page : ℕ) (file : PlainFile) → (copied region page file).regions ≡ file.regions
copied_regions region page file = by_copy (has_copy file region.id page)
  where
    by_copy : (copy : Bool) → (if copy then file else record file { copies = put_at region.id page (page_of file page) file.copies }).regions ≡ file.regions
    by_copy true = refl
    by_copy false = refl

given_regions : (region : Region) (page : ℕ) (access : Access) (under : Bool) (file : PlainFile) → (given_page region page access under file).regions ≡ file.regions
given_regions region page Read under file = at_hand_regions region page file
given_regions region page Execute under file = at_hand_regions region page file
given_regions region page Write under file = by_shared region.shared ∙ at_hand_regions region page file
  where
    by_shared : (shared : Bool)
        → (if shared then stripped page (granted region page Write under (at_hand region page file)) else copied region page (granted region page Write under (at_hand region page file))).regions
        ≡ (at_hand region page file).regions
    by_shared true = refl
    by_shared false = copied_regions region page (granted region page Write under (at_hand region page file))

-- the event changes no regions
abbrev no_regions : FileEvent → Bool
no_regions (event.AddRegion region insert) = false
no_regions (event.DropRegion id) = false
no_regions (event.DropPid pid) = false
no_regions e = true

clash : {X : Type 0} (e f : FileEvent) → no_regions e ≡ true → e ≡ f → no_regions f ≡ false → X
clash e f quiet is other = absurd (grind (arith, common_steps, quiet, ap no_regions is, other))

same_regions : (hash : Hash) (file : PlainFile) (e : FileEvent) (blob : Option Signature) (outcome : ℕ) → no_regions e ≡ true
    → (file_step hash file e blob outcome).1.regions ≡ file.regions
same_regions hash file e blob outcome quiet = step_leaves hash file (λ new. new.regions ≡ file.regions) e blob outcome (record {
  itself = refl;
  attached = λ slice cdhash read lookup number b is. refl;
  written_over = λ at piece bytes is. refl;
  mapped = λ region insert is. clash e (event.AddRegion region insert) quiet is refl;
  dropped = λ id is. clash e (event.DropRegion id) quiet is refl;
  dropped_all = λ pid is. clash e (event.DropPid pid) quiet is refl;
  given = λ id page access flags resolve region is found. given_regions region page access (guarded flags) file;
  stored_copy = λ id page at bytes resolve is. refl;
  stored_page = λ id page at bytes resolve is. refl;
  left = λ page is. refl;
})

-- where no region of the number stands, dropping it leaves all regions
none_dropped : (regions : List Region) (id : ℕ) → is_some (region_of regions id) ≡ false → filter (λ region. not (region.id == id)) regions ≡ regions
none_dropped [] id absent = refl
none_dropped (r ∷ rs) id absent = by_test (is_region id r) refl (none_dropped rs id)
  where
    by_test : (b : Bool) → is_region id r ≡ b → (is_some (region_of rs id) ≡ false → filter (λ region. not (region.id == id)) rs ≡ rs)
        → filter (λ region. not (region.id == id)) (r ∷ rs) ≡ r ∷ rs
    by_test true e rest = absurd (grind (arith, common_steps, e, absent))
    by_test false e rest = grind (arith, common_steps, e, rest (grind (arith, common_steps, e, absent)))

pub step_regions : (hash : Hash) (file : PlainFile) (e : FileEvent) (blob : Option Signature) (outcome : ℕ)
    → (file_step hash file e blob outcome).1.regions ≡ regions_after e file.regions
step_regions hash file (event.ReadSignature slice) blob outcome = refl
step_regions hash file (event.AddBlob slice cdhash read lookup) blob outcome = same_regions hash file (event.AddBlob slice cdhash read lookup) blob outcome refl
step_regions hash file (event.RefuseBlob read refusal) blob outcome = refl
step_regions hash file (event.Write at piece) blob outcome = same_regions hash file (event.Write at piece) blob outcome refl
step_regions hash file (event.AddRegion region insert) blob outcome = by_there (is_some (region_of file.regions region.id))
  where
    by_there : (there : Bool) → (if there then file else record file { regions = in_order region_before region file.regions }).regions
        ≡ (if there then file.regions else in_order region_before region file.regions)
    by_there true = refl
    by_there false = refl
step_regions hash file (event.DropRegion id) blob outcome = by_there (is_some (region_of file.regions id)) refl
  where
    by_there : (there : Bool) → is_some (region_of file.regions id) ≡ there
        → (if◌then◌else◌ {A = Answer} there (reply.Dropped, without_regions (λ region. region.id == id) file) (reply.NoRegion id, file)).1.regions ≡ filter (λ region. not (region.id == id)) file.regions
    by_there true e = refl
    by_there false e = sym (none_dropped file.regions id e)
step_regions hash file (event.DropPid pid) blob outcome = refl
step_regions hash file (event.Enter id page access flags resolve) blob outcome = same_regions hash file (event.Enter id page access flags resolve) blob outcome refl
step_regions hash file (event.Store id page at bytes resolve) blob outcome = same_regions hash file (event.Store id page at bytes resolve) blob outcome refl
step_regions hash file (event.Load id page at count resolve) blob outcome = same_regions hash file (event.Load id page at count resolve) blob outcome refl
step_regions hash file (event.Fetch id page at count resolve) blob outcome = same_regions hash file (event.Fetch id page at count resolve) blob outcome refl
step_regions hash file (event.Evict page) blob outcome = same_regions hash file (event.Evict page) blob outcome refl
