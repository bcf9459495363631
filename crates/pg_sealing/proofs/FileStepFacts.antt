-- What is known of a file after an event of its own.
use Rattle.std.proofs.Common.{◌≡◌, ◌<◌, ◌/◌, ℕ, Bool, true, false, List, [], ◌∷◌, ◌++◌, length, Option, Some, None, refl, sym, ap, subst, ◌∙◌, arith, inl, inr, not}
use Rattle.std.specs.Prelude.{◌==◌, IsTrue, IfSome, is_some, slice_get, slice_set, if◌then◌else◌}
use Rattle.std.specs.List.{AllByRecursion}
use Rattle.std.proofs.lemmas.Grind.{common_steps}
use Rattle.pg_bytes.specs.Order.{in_order}
use Rattle.pg_bytes.specs.PageSize.{IsPageSize}
use Rattle.pg_digest.specs.Kinds.{Hash}
use Rattle.cs_policy.specs.declared.access.Access.{Access}
use Rattle.cs_policy.specs.declared.flags.ProcFlags.{ProcFlags}
use Rattle.cs_policy.specs.declared.region.Region.{Region}
use Rattle.cs_policy.specs.declared.file.FileEvent.{FileEvent}
use Rattle.cs_policy.specs.declared.file.FileEvent.TheVariants as file
use Rattle.cs_policy.specs.declared.file.FileReply.{FileReply}
use Rattle.cs_policy.specs.declared.file.FileReply.TheVariants as file_reply
use Rattle.cs_policy.specs.declared.entry.Event.TheVariants as event
use Rattle.cs_policy.specs.declared.entry.Reply.TheVariants as reply
use Rattle.cs_policy.specs.declared.entry.Place.TheVariants as place
use Rattle.cs_policy.specs.ProcFlags.{guarded}
use Rattle.cs_blob.specs.Signature.{Signature}
use Rattle.cs_blob.specs.Signed.{signature}
use Rattle.pg_regions.specs.Lookups.{region_of, region_before}
use Rattle.pg_plain.specs.PlainFile.{Attached}
use Rattle.pg_plain.specs.Covers.{Fits}
use Rattle.pg_plain.specs.Content.{content_after}
use Rattle.pg_plain.proofs.StepFacts.{step_keep}
use Rattle.pg_plain.proofs.ContentFacts.{pages_are_content}
use Rattle.pg_process.specs.ProcessStep.{PlainProcess}
use Rattle.pg_process.proofs.GuardFacts.{IsUnguarded}
use Rattle.pg_history.specs.Machine.{Line, Reading, FilePart, Machine, reading_at, signed_range, blob_of, outcome_of, slice_read, bytes_read, with_reading, part_step}
use Rattle.pg_history.specs.Opening.{Opening, numbers_of, seat_in}
use Rattle.pg_history.specs.Calls.{admits}
use Rattle.pg_history.specs.Content.{Told, regions_after, told_after, told_at, told_over}
use Rattle.pg_history.specs.Links.{IsNamed, NamesLookup, LinksBlob, LinksRegion, LinksResolved, IsLinkedAt}
use Rattle.pg_history.specs.Sealing.{Admitted}
use Rattle.pg_history.proofs.ListFacts.{get-front, get-before, get-last, get-end, find-front, find-last, all-append, all-map, all-filter, all-in_order}
use Rattle.pg_sealing.proofs.FileFacts.{Stays, step_stays, step_regions}
use Rattle.pg_sealing.proofs.UnguardedFacts.{gives_unguarded, step_adds}
use Rattle.pg_sealing.proofs.BlobFacts.{blob_is, unbroken_fits, Attaches, step_blobs}
use Rattle.pg_sealing.proofs.Holds.{untold, IsOwned, FileHolds, WasResolved, Holds}
use Rattle.pg_sealing.proofs.ExtendFacts.{with_line, told-append, longer, early_later, admitted_later}

-- ---- readings

-- a reading that is found stays found
kept_reading : (stamp k : ℕ) (slice : Option ℕ) (bytes : Option (List ℕ)) (readings : List Reading) (r : Reading) → reading_at readings k ≡ Some r
    → reading_at (with_reading stamp slice bytes readings) k ≡ Some r
kept_reading stamp k (Some slice) (Some bytes) readings r found =
    find-front (λ reading. reading.stamp == k) readings (record { stamp = stamp; slice = slice; bytes = bytes } ∷ []) r found
kept_reading stamp k (Some slice) None readings r found = found
kept_reading stamp k None bytes readings r found = found

-- a new one is found by its stamp
new_reading : (stamp slice : ℕ) (bytes : List ℕ) (readings : List Reading) → AllByRecursion (λ reading. reading.stamp < stamp) readings
    → reading_at (with_reading stamp (Some slice) (Some bytes) readings) stamp ≡ Some (record { stamp = stamp; slice = slice; bytes = bytes })
new_reading stamp slice bytes readings early =
    find-last (λ reading. reading.stamp == stamp) readings (record { stamp = stamp; slice = slice; bytes = bytes })
    (all-map (λ reading. reading.stamp < stamp) (λ reading. (reading.stamp == stamp) ≡ false) (λ reading less. grind (arith, common_steps, less)) readings early)
    (grind (arith, common_steps))

early_readings : (stamp most : ℕ) (slice : Option ℕ) (bytes : Option (List ℕ)) (readings : List Reading) → stamp < most → AllByRecursion (λ reading. reading.stamp < most) readings
    → AllByRecursion (λ reading. reading.stamp < most) (with_reading stamp slice bytes readings)
early_readings stamp most (Some slice) (Some bytes) readings less all =
    all-append (λ reading. reading.stamp < most) readings (record { stamp = stamp; slice = slice; bytes = bytes } ∷ []) all (less, tt)
early_readings stamp most (Some slice) None readings less all = all
early_readings stamp most None bytes readings less all = all

-- ---- regions

owned_either : (there : Bool) (region : Region) (regions : List Region) → IsOwned region → AllByRecursion IsOwned regions
    → AllByRecursion IsOwned (if there then regions else in_order region_before region regions)
owned_either true region regions one all = all
owned_either false region regions one all = all-in_order IsOwned region_before region regions one all

-- a new region names its process
abbrev NewOwned : FileEvent → Type 0
NewOwned e = (region : Region) (insert : ℕ) → e ≡ file.AddRegion region insert → IsOwned region

owned_after : (e : FileEvent) (regions : List Region) → NewOwned e → AllByRecursion IsOwned regions → AllByRecursion IsOwned (regions_after e regions)
owned_after (file.AddRegion region insert) regions new all = owned_either (is_some (region_of regions region.id)) region regions (new region insert refl) all
owned_after (file.DropRegion id) regions new all = all-filter IsOwned (λ region. not (region.id == id)) regions all
owned_after (file.DropPid pid) regions new all = all-filter IsOwned (λ region. not (region.pid == pid)) regions all
owned_after (file.ReadSignature slice) regions new all = all
owned_after (file.AddBlob slice cdhash read lookup) regions new all = all
owned_after (file.RefuseBlob read refusal) regions new all = all
owned_after (file.Write at piece) regions new all = all
owned_after (file.Enter id page access flags resolve) regions new all = all
owned_after (file.Store id page at bytes resolve) regions new all = all
owned_after (file.Load id page at count resolve) regions new all = all
owned_after (file.Fetch id page at count resolve) regions new all = all
owned_after (file.Evict page) regions new all = all

-- ---- faults

-- a fault of a process that was not guarded is of one that is not guarded now
abbrev NewUnguarded : Machine → FileEvent → Type 0
NewUnguarded m e = (id page : ℕ) (access : Access) (flags : ProcFlags) (resolve : ℕ) → e ≡ file.Enter id page access flags resolve → guarded flags ≡ false
    → (p : PlainProcess) → slice_get m.processes (id / 4096) ≡ Some p → IsUnguarded p

entered_unguarded : (m : Machine) (e : FileEvent) (i : ℕ) → NewUnguarded m e → gives_unguarded e i → (p : PlainProcess) → slice_get m.processes (i / 4096) ≡ Some p → IsUnguarded p
entered_unguarded m (file.Enter id page access flags resolve) i new gives p there =
    new id page access flags resolve refl gives.1 p (subst (λ j. slice_get m.processes (j / 4096) ≡ Some p) gives.0 there)
entered_unguarded m (file.ReadSignature slice) i new gives p there = absurd gives
entered_unguarded m (file.AddBlob slice cdhash read lookup) i new gives p there = absurd gives
entered_unguarded m (file.RefuseBlob read refusal) i new gives p there = absurd gives
entered_unguarded m (file.Write at piece) i new gives p there = absurd gives
entered_unguarded m (file.AddRegion region insert) i new gives p there = absurd gives
entered_unguarded m (file.DropRegion id) i new gives p there = absurd gives
entered_unguarded m (file.DropPid pid) i new gives p there = absurd gives
entered_unguarded m (file.Store id page at bytes resolve) i new gives p there = absurd gives
entered_unguarded m (file.Load id page at count resolve) i new gives p there = absurd gives
entered_unguarded m (file.Fetch id page at count resolve) i new gives p there = absurd gives
entered_unguarded m (file.Evict page) i new gives p there = absurd gives

-- ---- the event

two_told : (p q : List (List ℕ)) (r s : List Region) → p ≡ q → r ≡ s → ◌≡◌ {A = Told} (record { pages = p; regions = r }) (record { pages = q; regions = s })
two_told p q r s same_pages same_regions = rw (same_pages, same_regions) refl

itself : (n : ℕ) → (n == n) ≡ true
itself n = grind (arith, common_steps)

file_inside : (e f : FileEvent) → event.File e ≡ event.File f → e ≡ f
file_inside e f is = grind (arith, common_steps, is)

reply_inside : (a b : FileReply) → reply.File a ≡ reply.File b → a ≡ b
reply_inside a b is = grind (arith, common_steps, is)

signature_inside : (a b : Signature) → Some a ≡ Some b → a ≡ b
signature_inside a b is = grind (arith, common_steps, is)

module _ (hash : Hash) (o : Opening) (known : IsPageSize o.page_size) (history later : List Line) (m : Machine) (e : Line) (holds : Holds hash o history m) (stamp : e.stamp ≡ length history)
    (number : ℕ) (fe : FileEvent) (part : FilePart) (here : e.entry.place ≡ place.File number) (is : e.entry.event ≡ event.File fe) (there : slice_get m.files number ≡ Some part)
    (answer : e.entry.reply ≡ reply.File (part_step hash e.stamp part fe).0)
    (link : IsLinkedAt hash (numbers_of o) (history ++ e ∷ later) e (place.File number) (event.File fe)) where
  old : FileHolds hash o history m number part
  old = holds.files number part there

  abbrev blob : Option Signature
  blob = blob_of hash part fe

  abbrev outcome : ℕ
  outcome = outcome_of hash part fe

  abbrev new : FilePart
  new = (part_step hash e.stamp part fe).1

  before : (s : ℕ) (x : Line) → IsNamed (history ++ e ∷ later) e s x → slice_get history s ≡ Some x
  before s x named = get-before history (e ∷ later) s x (subst (λ n. s < n) stamp named.earlier) named.here

  ends : slice_get (with_line history e) e.stamp ≡ Some e
  ends = ap (λ k. slice_get (with_line history e) k) stamp ∙ get-end history e []

  -- ---- an AddBlob

  module _ (slice : ℕ) (cdhash : List ℕ) (read lookup : ℕ) (l : LinksBlob hash (numbers_of o) (history ++ e ∷ later) e number slice cdhash read lookup) where
    abbrev signed : Signature
    signed = signature hash l.bytes l.range (Some o.page_size)

    found : blob_of hash part (file.AddBlob slice cdhash read lookup) ≡ Some signed
    found =
        blob_is hash part slice cdhash read lookup (record { stamp = read; slice = slice; bytes = l.bytes }) l.range
        (old.readings read l.is_read.reading slice l.bytes (before read l.is_read.reading l.is_read.named) l.is_read.place l.is_read.event l.is_read.reply)
        (sym (old.ranges slice) ∙ l.signed)
        ∙ ap (λ size. Some (signature hash l.bytes l.range (Some size))) old.page_size

    blob_fits : IfSome (blob_of hash part (file.AddBlob slice cdhash read lookup)) (Fits part.file.page_size)
    blob_fits = subst (λ b. IfSome b (Fits part.file.page_size)) (sym found)
        (subst (λ size. Fits size signed) (sym old.page_size) (unbroken_fits hash l.bytes l.range o.page_size known l.unbroken))

    lookup_here : NamesLookup (with_line history e) e lookup cdhash l.answer
    lookup_here = record {
      lookup = l.looked_up.lookup;
      named = record {
        here = get-front history (e ∷ []) lookup l.looked_up.lookup (before lookup l.looked_up.lookup l.looked_up.named);
        earlier = l.looked_up.named.earlier;
        same_call = l.looked_up.named.same_call;
      };
      place = l.looked_up.place;
      event = l.looked_up.event;
      reply = l.looked_up.reply;
    }

    attached_admitted : (k : ℕ) (attached : Attached) → fe ≡ file.AddBlob slice cdhash read lookup → attached.slice ≡ slice → attached.signature ≡ signed
        → e.entry.reply ≡ reply.File (file_reply.Attached k) → Admitted o (with_line history e) number k attached
    attached_admitted k attached event_is slice_is signature_is replies =
        let cdhash_is : cdhash ≡ attached.signature.cdhash = l.same ∙ ap (λ (s : Signature). s.cdhash) (sym signature_is) in
        record {
          adding = e;
          read = read;
          lookup = lookup;
          answer = l.answer;
          here = ends;
          place = here;
          event = is ∙ ap (λ f. event.File f) event_is ∙ ap (λ s. event.File (file.AddBlob s cdhash read lookup)) (sym slice_is)
              ∙ ap (λ c. event.File (file.AddBlob attached.slice c read lookup)) cdhash_is;
          reply = replies;
          looked_up = subst (λ c. NamesLookup (with_line history e) e lookup c l.answer) cdhash_is lookup_here;
          admitted = subst (λ s. IsTrue (admits o.adhoc s l.answer)) (sym signature_is) l.admitted;
        }

  fits_by : (f : FileEvent) → IsLinkedAt hash (numbers_of o) (history ++ e ∷ later) e (place.File number) (event.File f) → IfSome (blob_of hash part f) (Fits part.file.page_size)
  fits_by (file.AddBlob slice cdhash read lookup) l = blob_fits slice cdhash read lookup l
  fits_by (file.ReadSignature slice) l = tt
  fits_by (file.RefuseBlob read refusal) l = tt
  fits_by (file.Write at piece) l = tt
  fits_by (file.AddRegion region insert) l = tt
  fits_by (file.DropRegion id) l = tt
  fits_by (file.DropPid pid) l = tt
  fits_by (file.Enter id page access flags resolve) l = tt
  fits_by (file.Store id page at bytes resolve) l = tt
  fits_by (file.Load id page at count resolve) l = tt
  fits_by (file.Fetch id page at count resolve) l = tt
  fits_by (file.Evict page) l = tt

  new_admitted : (k : ℕ) (attached : Attached) → Attaches hash part.file fe blob outcome k attached → Admitted o (with_line history e) number k attached
  new_admitted k attached a =
      let l : LinksBlob hash (numbers_of o) (history ++ e ∷ later) e number a.slice a.cdhash a.read a.lookup =
      subst (λ f. IsLinkedAt hash (numbers_of o) (history ++ e ∷ later) e (place.File number) (event.File f)) a.is link in
      attached_admitted a.slice a.cdhash a.read a.lookup l k attached a.is a.same
      (signature_inside attached.signature (signed a.slice a.cdhash a.read a.lookup l)
      (sym a.given ∙ ap (blob_of hash part) a.is ∙ found a.slice a.cdhash a.read a.lookup l))
      (answer ∙ ap (λ r. reply.File r) a.reply)

  -- ---- regions and faults

  new_owned : NewOwned fe
  new_owned region insert event_is =
      let l : LinksRegion (history ++ e ∷ later) e number region insert =
      subst (λ f. IsLinkedAt hash (numbers_of o) (history ++ e ∷ later) e (place.File number) (event.File f)) event_is link in
      holds.inserted insert l.insert region.pid l.at number l.file_pages region.first region.pages region.prot region.shared region.id
      (before insert l.insert l.named) l.place l.event l.reply

  new_unguarded : NewUnguarded m fe
  new_unguarded id page access flags resolve event_is free p process_there =
      let l : LinksResolved (history ++ e ∷ later) e number id page flags resolve =
      subst (λ f. IsLinkedAt hash (numbers_of o) (history ++ e ∷ later) e (place.File number) (event.File f)) event_is link in
      let was : WasResolved m l.pid id flags =
      holds.resolved resolve l.resolve l.pid l.addr l.access id number page flags (before resolve l.resolve l.named) l.place l.event l.reply in
      was.unguarded free p (subst (λ k. slice_get m.processes k ≡ Some p) was.owner process_there)

  -- ---- content

  content_is : told_after o.page_size fe (part_step hash e.stamp part fe).0 (record { pages = part.file.pages; regions = part.file.regions })
      ≡ record { pages = new.file.pages; regions = new.file.regions }
  content_is = two_told (content_after o.page_size part.file.regions fe (part_step hash e.stamp part fe).0 part.file.pages) new.file.pages
      (regions_after fe part.file.regions) new.file.regions
      (ap (λ size. content_after size part.file.regions fe (part_step hash e.stamp part fe).0 part.file.pages) (sym old.page_size)
      ∙ sym (pages_are_content hash part.file fe blob outcome old.keep))
      (sym (step_regions hash part.file fe blob outcome))

  told_here : (told : Told) → told_at o.page_size number e.entry.place e.entry.event e.entry.reply told ≡ told_after o.page_size fe (part_step hash e.stamp part fe).0 told
  told_here told = rw (here, is, answer, itself number) refl

  content : told_over o.page_size number (with_line history e) (untold o number) ≡ record { pages = new.file.pages; regions = new.file.regions }
  content =
      told-append o.page_size number history (e ∷ []) (untold o number)
      ∙ ap (λ told. told_at o.page_size number e.entry.place e.entry.event e.entry.reply told) old.content
      ∙ told_here (record { pages = part.file.pages; regions = part.file.regions })
      ∙ content_is

  -- ---- all of it

  stays : Stays part.file new.file
  stays = step_stays hash part.file fe blob outcome

  read_here : (x : Line) (slice : ℕ) (bytes : List ℕ) → e ≡ x → x.entry.event ≡ event.File (file.ReadSignature slice) → x.entry.reply ≡ reply.File (file_reply.Read bytes)
      → reading_at new.readings (length history) ≡ Some (record { stamp = length history; slice = slice; bytes = bytes })
  read_here x slice bytes same event_is reply_is =
      let read : fe ≡ file.ReadSignature slice = file_inside fe (file.ReadSignature slice) (sym is ∙ ap (λ (l : Line). l.entry.event) same ∙ event_is) in
      let gave : (part_step hash e.stamp part fe).0 ≡ file_reply.Read bytes =
      reply_inside (part_step hash e.stamp part fe).0 (file_reply.Read bytes) (sym answer ∙ ap (λ (l : Line). l.entry.reply) same ∙ reply_is) in
      ap (λ s. reading_at (with_reading e.stamp s (bytes_read (part_step hash e.stamp part fe).0) part.readings) (length history)) (ap slice_read read)
      ∙ ap (λ b. reading_at (with_reading e.stamp (Some slice) b part.readings) (length history)) (ap bytes_read gave)
      ∙ ap (λ k. reading_at (with_reading k (Some slice) (Some bytes) part.readings) (length history)) stamp
      ∙ new_reading (length history) slice bytes part.readings old.early

  pub stepped_holds : FileHolds hash o (with_line history e) (record m { files = slice_set m.files number new }) number new
  stepped_holds = record {
    keep = step_keep hash part.file fe blob outcome old.keep (fits_by fe link);
    page_size = stays.page_size ∙ old.page_size;
    ranges = λ slice. old.ranges slice ∙ ap (λ l. signed_range (seat_in slice l)) (sym stays.layout);
    content = content;
    readings = λ k x slice bytes stands at event_is reply_is. elim (get-last history e x k stands) [
      | inl earlier ↦ kept_reading e.stamp k (slice_read fe) (bytes_read (part_step hash e.stamp part fe).0) part.readings (record { stamp = k; slice = slice; bytes = bytes })
          (old.readings k x slice bytes earlier at event_is reply_is)
      | inr last ↦ subst (λ n. reading_at new.readings n ≡ Some (record { stamp = n; slice = slice; bytes = bytes })) (sym last.0) (read_here x slice bytes last.1 event_is reply_is)
    ];
    early = early_readings e.stamp (length (with_line history e)) (slice_read fe) (bytes_read (part_step hash e.stamp part fe).0) part.readings
        (omega (arith, stamp, longer history e)) (early_later history e part.readings old.early);
    admitted = λ k attached stands. elim (step_blobs hash part.file fe blob outcome k attached stands) [
      | inl earlier ↦ admitted_later o history e number k attached (old.admitted k attached earlier)
      | inr attaches ↦ new_admitted k attached attaches
    ];
    owned = subst (AllByRecursion IsOwned) (sym (step_regions hash part.file fe blob outcome)) (owned_after fe part.file.regions new_owned old.owned);
    unguarded = λ id page given p stands. elim (step_adds part.file hash fe blob outcome id page given) [
      | inl earlier ↦ old.unguarded id page earlier p stands
      | inr gives ↦ entered_unguarded m fe id new_unguarded gives p stands
    ];
  }
