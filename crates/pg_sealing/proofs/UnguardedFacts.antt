-- Which pages a file lets be executed that were given to no guarded process: an event adds one only where it is a fault of
-- a process that is not guarded.
use Rattle.std.proofs.Common.{◌≡◌, ◌⊎◌, ℕ, Bool, true, false, Option, Some, None, refl, sym, subst, ◌∙◌, not, arith, inl, inr}
use Rattle.std.specs.Prelude.{◌==◌, ◌&&◌, unwrap_or, length, if◌then◌else◌}
use Rattle.std.specs.Option.{option_map, option_map_or}
use Rattle.std.proofs.lemmas.Grind.{common_steps}
use Rattle.pg_digest.specs.Kinds.{Hash}
use Rattle.cs_policy.specs.declared.access.Access.{Access}
use Rattle.cs_policy.specs.declared.access.Access.TheVariants.{Read, Write, Execute}
use Rattle.cs_policy.specs.declared.flags.ProcFlags.{ProcFlags}
use Rattle.cs_policy.specs.declared.region.Region.{Region}
use Rattle.cs_policy.specs.declared.region.Record.{Record}
use Rattle.cs_policy.specs.declared.file.FileEvent.{FileEvent}
use Rattle.cs_policy.specs.declared.file.FileEvent.TheVariants as event
use Rattle.cs_policy.specs.ProcFlags.{guarded}
use Rattle.cs_blob.specs.Signature.{Signature}
use Rattle.pg_regions.specs.Lookups.{region_of, is_region, has_page}
use Rattle.pg_regions.specs.Steps.{blank, given}
use Rattle.pg_regions.proofs.ListFacts.{found_passes}
use Rattle.pg_plain.specs.PlainFile.{Resident, PlainFile, having, region_with, has_copy, page_of}
use Rattle.pg_plain.specs.Given.{put_at, victim, unexecuted, records_left, entered, at_hand, granted, stripped, copied, given_page}
use Rattle.pg_plain.specs.Steps.{is_reached, is_gone, file_step}
use Rattle.pg_plain.proofs.LeaveFacts.{chosen}
use Rattle.pg_sealing.proofs.StepCases.{step_leaves}

-- the record permits execution, and was last given it for a process that was not guarded
abbrev pub unguarded : Record → Bool
unguarded r = r.execute && not r.guarded

abbrev pub executes_unguarded : PlainFile → ℕ → ℕ → Bool
executes_unguarded file id page = option_map_or unguarded (file.records id page) false

-- the event is a fault of a process that is not guarded, by the region of this number
abbrev pub gives_unguarded : FileEvent → ℕ → Type 0
gives_unguarded (event.Enter id page access flags resolve) i = (i ≡ id) × (guarded flags ≡ false)
gives_unguarded e i = ⊥

abbrev pub Adds : PlainFile → FileEvent → PlainFile → Type 0
Adds file e new = (i p : ℕ) → executes_unguarded new i p ≡ true → (executes_unguarded file i p ≡ true) ⊎ gives_unguarded e i

-- ---- a page that is given

stripped_less : (b : Bool) (r : Option Record) → option_map_or unguarded (if b then option_map unexecuted r else r) false ≡ true → option_map_or unguarded r false ≡ true
stripped_less true None e = e
stripped_less true (Some r) e = absurd (grind (arith, common_steps, e))
stripped_less false r e = e

left_less : (left : Option Resident) (file : PlainFile) (i p : ℕ) → option_map_or unguarded (records_left file left i p) false ≡ true → executes_unguarded file i p ≡ true
left_less None file i p e = e
left_less (Some resident) file i p e = (chosen (p == resident.page && not (has_copy file i p)) (file.records i p) unguarded e).1

at_hand_less : (region : Region) (page : ℕ) (file : PlainFile) (i p : ℕ) → executes_unguarded (at_hand region page file) i p ≡ true → executes_unguarded file i p ≡ true
at_hand_less region page file i p = by_copy (has_copy file region.id page)
  where
    by_copy : (copy : Bool) → executes_unguarded (if copy then file else entered page file) i p ≡ true → executes_unguarded file i p ≡ true
    by_copy true e = e
    by_copy false e = left_less (victim file page) file i p e

copied_less : (region : Region) (page : ℕ) (file : PlainFile) (i p : ℕ) → executes_unguarded (copied region page file) i p ≡ true → executes_unguarded file i p ≡ true
copied_less region page file i p = by_copy (has_copy file region.id page)
  where
    by_copy : (copy : Bool) → executes_unguarded (if copy then file else record file { copies = put_at region.id page (page_of file page) file.copies }) i p ≡ true
        → executes_unguarded file i p ≡ true
    by_copy true e = e
    by_copy false e = e

-- by what stood there, and the access
record_less : (access : Access) (under : Bool) (old : Option Record) (id page : ℕ) → unguarded (given access under (unwrap_or old (blank id page))) ≡ true
    → (option_map_or unguarded old false ≡ true) ⊎ (under ≡ false)
record_less Read under None id page e = absurd (grind (arith, common_steps, e))
record_less Read under (Some r) id page e = inl e
record_less Write under old id page e = absurd (grind (arith, common_steps, e))
record_less Execute true old id page e = absurd (grind (arith, common_steps, e))
record_less Execute false old id page e = inr refl

both : (a b : Bool) → (a && b) ≡ true → (a ≡ true) × (b ≡ true)
both true true e = (refl, refl)
both true false e = absurd (grind (arith, common_steps, e))
both false b e = absurd (grind (arith, common_steps, e))

same : (i j : ℕ) → (i == j) ≡ true → i ≡ j
same i j e = grind (arith, common_steps, e)

granted_less : (region : Region) (page : ℕ) (access : Access) (under : Bool) (file : PlainFile) (i p : ℕ) → executes_unguarded (granted region page access under file) i p ≡ true
    → (executes_unguarded file i p ≡ true) ⊎ ((i ≡ region.id) × (under ≡ false))
granted_less region page access under file i p = by_here (i == region.id && p == page) refl
  where
    new : Record
    new = given access under (unwrap_or (file.records region.id page) (blank region.id page))

    by_here : (here : Bool) → (i == region.id && p == page) ≡ here → option_map_or unguarded (if here then Some new else file.records i p) false ≡ true
        → (executes_unguarded file i p ≡ true) ⊎ ((i ≡ region.id) × (under ≡ false))
    by_here false f e = inl e
    by_here true f e =
        let at = both (i == region.id) (p == page) f in
        elim (record_less access under (file.records region.id page) region.id page e) [
          | inl stood ↦ inl (subst (λ j. executes_unguarded file j p ≡ true) (sym (same i region.id at.0)) (subst (λ q. executes_unguarded file region.id q ≡ true) (sym (same p page at.1)) stood))
          | inr free ↦ inr (same i region.id at.0, free)
        ]

given_less : (region : Region) (page : ℕ) (access : Access) (under : Bool) (file : PlainFile) (i p : ℕ) → executes_unguarded (given_page region page access under file) i p ≡ true
    → (executes_unguarded file i p ≡ true) ⊎ ((i ≡ region.id) × (under ≡ false))
given_less region page access under file i p e = by_access access e
  where
    held : PlainFile
    held = at_hand region page file

    before : (a : Access) → executes_unguarded (granted region page a under held) i p ≡ true → (executes_unguarded file i p ≡ true) ⊎ ((i ≡ region.id) × (under ≡ false))
    before a f = elim (granted_less region page a under held i p f) [
      | inl stood ↦ inl (at_hand_less region page file i p stood)
      | inr free ↦ inr free
    ]

    by_shared : (shared : Bool) → executes_unguarded (if shared then stripped page (granted region page Write under held) else copied region page (granted region page Write under held)) i p ≡ true
        → executes_unguarded (granted region page Write under held) i p ≡ true
    by_shared true f = stripped_less (p == page) ((granted region page Write under held).records i p) f
    by_shared false f = copied_less region page (granted region page Write under held) i p f

    by_access : (a : Access) → executes_unguarded (given_page region page a under file) i p ≡ true → (executes_unguarded file i p ≡ true) ⊎ ((i ≡ region.id) × (under ≡ false))
    by_access Read f = before Read f
    by_access Execute f = before Execute f
    by_access Write f = before Write (by_shared region.shared f)

-- ---- any event

-- a region that was found has the number
found_id : (file : PlainFile) (id page : ℕ) (region : Region) → region_with file id page ≡ Some region → region.id ≡ id
found_id file id page region = by_found (region_of file.regions id) refl
  where
    of_test : (r : Region) (has : Bool) → has_page page r ≡ has → (if has then Some r else None) ≡ Some region → r ≡ region
    of_test r true f e = grind (arith, common_steps, e)
    of_test r false f e = absurd (grind (arith, common_steps, e))

    by_found : (found : Option Region) → region_of file.regions id ≡ found → having page found ≡ Some region → region.id ≡ id
    by_found None f e = absurd (grind (arith, common_steps, e))
    by_found (Some r) f e =
        subst (λ (q : Region). q.id ≡ id) (of_test r (has_page page r) refl e) (grind (arith, common_steps, found_passes (is_region id) file.regions r f))

module _ (file : PlainFile) where
  entered_adds : (id page : ℕ) (access : Access) (flags : ProcFlags) (resolve : ℕ) (region : Region) → region_with file id page ≡ Some region
      → Adds file (event.Enter id page access flags resolve) (given_page region page access (guarded flags) file)
  entered_adds id page access flags resolve region found i p e = elim (given_less region page access (guarded flags) file i p e) [
    | inl stood ↦ inl stood
    | inr free ↦ inr (free.0 ∙ found_id file id page region found, free.1)
  ]

  pub step_adds : (hash : Hash) (e : FileEvent) (blob : Option Signature) (outcome : ℕ) → Adds file e (file_step hash file e blob outcome).1
  step_adds hash e blob outcome = step_leaves hash file (Adds file e) e blob outcome (record {
    itself = λ i p f. inl f;
    attached = λ slice cdhash read lookup number b is. λ i p f. inl f;
    written_over = λ at piece bytes is. λ i p f. inl (stripped_less (is_reached file.page_size at (length bytes) p) (file.records i p) f);
    mapped = λ region insert is. λ i p f. inl f;
    dropped = λ id is. λ i p f. inl (chosen (is_gone (λ region. region.id == id) file i) (file.records i p) unguarded f).1;
    dropped_all = λ pid is. λ i p f. inl (chosen (is_gone (λ region. region.pid == pid) file i) (file.records i p) unguarded f).1;
    given = λ id page access flags resolve region is found. subst (λ f. Adds file f (given_page region page access (guarded flags) file)) (sym is) (entered_adds id page access flags resolve region found);
    stored_copy = λ id page at bytes resolve is. λ i p f. inl f;
    stored_page = λ id page at bytes resolve is. λ i p f. inl f;
    left = λ page is. λ i p f. inl (chosen (p == page && not (has_copy file i p)) (file.records i p) unguarded f).1;
  })
