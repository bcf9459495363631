-- Every history that the machine answers and whose links hold keeps the sealing after each of its entries.
use Rattle.std.proofs.Common.{◌≡◌, ◌≤◌, ◌/◌, ℕ, zero, suc, Bool, true, false, List, [], ◌∷◌, ◌++◌, length, Option, Some, None, refl, sym, ap, subst, ◌∙◌, arith, append_assoc, not}
use Rattle.std.specs.Prelude.{◌&&◌, IsSomeAnd, slice_get, slice_index_or, find, take}
use Rattle.std.specs.Option.{option_map_or}
use Rattle.std.specs.List.{AllByRecursion}
use Rattle.std.proofs.lemmas.Grind.{common_steps}
use Rattle.std.proofs.lemmas.List.{append-nil}
use Rattle.pg_bytes.specs.PageSize.{IsPageSize}
use Rattle.pg_digest.specs.Kinds.{Hash}
use Rattle.cs_policy.specs.declared.region.Region.{Region}
use Rattle.cs_policy.specs.declared.region.Record.{Record}
use Rattle.pg_regions.specs.Lookups.{is_region}
use Rattle.pg_regions.proofs.ListFacts.{found_passes}
use Rattle.pg_plain.specs.PlainFile.{Attached, may_execute_guarded, has_copy, page_of}
use Rattle.pg_plain.specs.Covers.{covers, covering, Sealed}
use Rattle.pg_process.proofs.GuardFacts.{IsUnguarded}
use Rattle.pg_history.specs.Machine.{Line, FilePart, Machine, Answered, after, replay}
use Rattle.pg_history.specs.Opening.{Opening, IsOpening, numbers_of}
use Rattle.pg_history.specs.Content.{Told, content}
use Rattle.pg_history.specs.Links.{IsLinked}
use Rattle.pg_history.specs.Legal.{Linked}
use Rattle.pg_history.specs.Sealing.{IsExecutable, IsSealedIn, SealInv, SealedThroughout, KeptThroughout, FewThroughout}
use Rattle.pg_history.proofs.ListFacts.{get-end}
use Rattle.pg_sealing.proofs.UnguardedFacts.{executes_unguarded, unguarded}
use Rattle.pg_sealing.proofs.Holds.{IsOwned, FileHolds, Holds, FewRegions}
use Rattle.pg_sealing.proofs.ExtendFacts.{with_line}
use Rattle.pg_sealing.proofs.StepHolds.{step_holds}
use Rattle.pg_sealing.proofs.OpeningFacts.{opening_holds}

-- ---- what is known gives the sealing

-- what is found stands at a place
record Stands {X : Type 0} (xs : List X) (x : X) : Type 0 where
  place : ℕ
  there : slice_get xs place ≡ Some x

found_stands : {X : Type 0} (q : X → Bool) (xs : List X) (x : X) → find q xs ≡ Some x → Stands xs x
found_stands q [] x e = absurd (grind (arith, common_steps, e))
found_stands q (y ∷ ys) x e = by_test (q y) refl (found_stands q ys x)
  where
    by_test : (b : Bool) → q y ≡ b → (find q ys ≡ Some x → Stands ys x) → Stands (y ∷ ys) x
    by_test true f rest = record { place = 0; there = grind (arith, common_steps, f, e) }
    by_test false f rest =
        let s = rest (grind (arith, common_steps, f, e)) in
        record { place = suc s.place; there = grind (arith, common_steps, s.there) }

-- what holds of all elements holds of one that is found
found_owned : (q : Region → Bool) (xs : List Region) (x : Region) → find q xs ≡ Some x → AllByRecursion IsOwned xs → IsOwned x
found_owned q [] x e all = absurd (grind (arith, common_steps, e))
found_owned q (y ∷ ys) x e all = by_test (q y) refl (found_owned q ys x)
  where
    first : q y ≡ true → y ≡ x
    first f = grind (arith, common_steps, f, e)

    by_test : (b : Bool) → q y ≡ b → (find q ys ≡ Some x → AllByRecursion IsOwned ys → IsOwned x) → IsOwned x
    by_test true f rest = subst IsOwned (first f) all.0
    by_test false f rest = rest (grind (arith, common_steps, f, e)) all.1

-- a record that permits execution was given it for a guarded process, or not
guarded_else : (r : Option Record) → option_map_or (λ r. r.execute) r false ≡ true → option_map_or unguarded r false ≡ false → option_map_or (λ r. r.execute && r.guarded) r false ≡ true
guarded_else None e f = absurd (grind (arith, common_steps, e))
guarded_else (Some r) e f = by_bits r.execute r.guarded e f
  where
    by_bits : (a b : Bool) → a ≡ true → (a && not b) ≡ false → (a && b) ≡ true
    by_bits true true g h = refl
    by_bits true false g h = absurd (grind (arith, common_steps, h))
    by_bits false b g h = absurd (grind (arith, common_steps, g))

module _ (hash : Hash) (o : Opening) (history : List Line) (m : Machine) (holds : Holds hash o history m) (number : ℕ) (part : FilePart) (there : slice_get m.files number ≡ Some part)
    (id page : ℕ) (x : IsExecutable m part.file id page) where
  file_holds : FileHolds hash o history m number part
  file_holds = holds.files number part there

  same_id : x.region.id ≡ id
  same_id = grind (arith, common_steps, found_passes (is_region id) part.file.regions x.region x.stands)

  owner : slice_get m.processes (id / 4096) ≡ Some x.process
  owner =
      ap (λ k. slice_get m.processes (k / 4096)) (sym same_id)
      ∙ ap (λ k. slice_get m.processes k) (found_owned (is_region id) part.file.regions x.region x.stands file_holds.owned)
      ∙ x.owner

  was_guarded : may_execute_guarded part.file id page ≡ true
  was_guarded = guarded_else (part.file.records id page) x.given (by_test (executes_unguarded part.file id page) refl)
    where
      free : executes_unguarded part.file id page ≡ true → ⊥
      free e =
          let is : IsUnguarded x.process = file_holds.unguarded id page e x.process owner in
          absurd (grind (arith, common_steps, is.unguarded, x.is_guarded))

      by_test : (b : Bool) → executes_unguarded part.file id page ≡ b → b ≡ false
      by_test false e = refl
      by_test true e = absurd (free e)

  no_copy : has_copy part.file id page ≡ false
  no_copy = file_holds.keep.uncopied id page was_guarded

  sealed_by : (found : Option Attached) → covering part.file page ≡ found
      → IsSomeAnd found (λ attached. Sealed hash part.file.page_size attached.signature page (page_of part.file page)) → IsSealedIn hash o history number part.file page
  sealed_by None e none = absurd none
  sealed_by (Some attached) e is_sealed =
      let stands = found_stands (λ a. covers part.file.page_size a.signature page) part.file.blobs attached e in
      record {
        blob = stands.place;
        attached = attached;
        kept = stands.there;
        admitted = file_holds.admitted stands.place attached stands.there;
        is_sealed = subst (λ size. Sealed hash size attached.signature page (slice_index_or (content o number history) page [])) file_holds.page_size
            (subst (λ pages. Sealed hash part.file.page_size attached.signature page (slice_index_or pages page [])) (sym (ap (λ (told : Told). told.pages) file_holds.content)) is_sealed);
      }

  is_sealed : IsSealedIn hash o history number part.file page
  is_sealed = sealed_by (covering part.file page) refl (file_holds.keep.is_sealed id page was_guarded)

seal_holds : (hash : Hash) (o : Opening) (history : List Line) → Holds hash o history (replay hash o.machine history) → SealInv hash o history
seal_holds hash o history holds = record {
  is_sealed = λ number part id page there x. is_sealed hash o history (replay hash o.machine history) holds number part there id page x;
  uncopied = λ number part id page there x. no_copy hash o history (replay hash o.machine history) holds number part there id page x;
}

-- ---- a whole history

module _ (hash : Hash) (o : Opening) (known : IsPageSize o.page_size) (whole : List Line)
    (stamps : (k : ℕ) (e : Line) → slice_get whole k ≡ Some e → e.stamp ≡ k)
    (links : (k : ℕ) (e : Line) → slice_get whole k ≡ Some e → IsLinked hash (numbers_of o) whole e) where
  -- from what is known after some entries, to what is known after more of those that follow
  through : (rest before : List Line) (m : Machine) → whole ≡ before ++ rest → Holds hash o before m → Answered hash m rest
      → ((k : ℕ) → k ≤ length rest → FewRegions (replay hash m (take k rest))) → (k : ℕ) → k ≤ length rest → Holds hash o (before ++ take k rest) (replay hash m (take k rest))
  through rest before m is holds answered few zero le = subst (λ h. Holds hash o h m) (sym (append-nil before)) holds
  through [] before m is holds answered few (suc k) le = absurd (omega (arith, le))
  through (e ∷ es) before m is holds answered few (suc k) le =
      let here : slice_get whole (length before) ≡ Some e = ap (λ h. slice_get h (length before)) is ∙ get-end before e es in
      let link : IsLinked hash (numbers_of o) (before ++ e ∷ es) e = subst (λ h. IsLinked hash (numbers_of o) h e) is (links (length before) e here) in
      subst (λ h. Holds hash o h (replay hash (after hash m e) (take k es))) (append_assoc before (e ∷ []) (take k es))
      (through es (with_line before e) (after hash m e) (is ∙ sym (append_assoc before (e ∷ []) es))
      (step_holds hash o known before es m e holds (stamps (length before) e here) link (few 0 (omega arith)) (few 1 (omega arith)) answered.0)
      answered.1 (λ j less. few (suc j) (omega (arith, less))) k (omega (arith, le)))

holds_throughout : (hash : Hash) (o : Opening) → IsOpening o → (history : List Line) → Linked hash o history → FewThroughout hash o history
    → (k : ℕ) → k ≤ length history → Holds hash o (take k history) (replay hash o.machine (take k history))
holds_throughout hash o opens history linked few k le =
    through hash o opens.known history linked.stamps linked.links history [] o.machine refl (opening_holds hash o opens) linked.replies few k le

pub linked_keeps : (hash : Hash) (o : Opening) → IsOpening o → (history : List Line) → Linked hash o history → FewThroughout hash o history → KeptThroughout hash o history
linked_keeps hash o opens history linked few k le number part there = ((holds_throughout hash o opens history linked few k le).files number part there).keep

pub linked_seals : (hash : Hash) (o : Opening) → IsOpening o → (history : List Line) → Linked hash o history → FewThroughout hash o history → SealedThroughout hash o history
linked_seals hash o opens history linked few k le = seal_holds hash o (take k history) (holds_throughout hash o opens history linked few k le)
