-- What calls on pages do to the marks of one page.
use Rattle.std.proofs.Common.{false, ◌≡◌, ℕ, zero, suc, ◌<◌, ◌==◌, Bool, true, List, [], ◌∷◌, length, Option, Some, None, refl, sym, ap, subst, ◌∙◌, arith}
use Rattle.std.specs.Prelude.{nat_lt, Result, Ok, Err, IfSome, is_some, slice_set, if◌then◌else◌}
use Rattle.std.specs.Option.{option_map}
use Rattle.std.proofs.lemmas.Grind.{common_steps}
use Rattle.std.proofs.Math.ListN.{length-set}
use Rattle.pg_cache.specs.Held.{Held, find_held}
use Rattle.pg_cache.specs.Cache.{CacheNow, resident_page, IsBeside, IsListed}
use Rattle.pg_cache.specs.declared.fault.PagerFault.{PagerFault}
use Rattle.pg_pages.specs.Marks.{Seal, Marks, blank, marks_of}
use Rattle.pg_pages.specs.MarkSteps.{spare_gone, written, cleared}
use Rattle.pg_object.specs.Writes.{IsLess}

-- ---- one change at a page: these are the rows of the table of `pg_pages`

abbrev pub Change : Type 0
Change = Marks → Marks

abbrev pub changed : Change
changed marks = record { validated = None; tainted = false; writable = marks.writable }

abbrev pub other : Change
other marks = record { validated = None; tainted = true; writable = marks.writable }

abbrev pub maps : Change
maps marks = record { validated = None; tainted = marks.tainted; writable = true }

abbrev pub unmaps : Change
unmaps marks = record { validated = marks.validated; tainted = marks.tainted; writable = false }

abbrev pub goes : Change
goes marks = blank

abbrev pub marked : Change → ℕ → List Marks → List Marks
marked change page marks = slice_set marks page (change (marks_of marks page))

abbrev pub marked_if : Change → Option ℕ → List Marks → List Marks
marked_if change None marks = marks
marked_if change (Some page) marks = marked change page marks

pub marked_other : (row : Change) (page : ℕ) (marks : List Marks) (q : ℕ) → (q == page) ≡ false → marks_of (marked row page marks) q ≡ marks_of marks q
marked_other row page marks q apart = grind (arith, common_steps, apart)

pub marked_here : (row : Change) (page : ℕ) (marks : List Marks) → page < length marks → marks_of (marked row page marks) page ≡ row (marks_of marks page)
marked_here row page marks inside = grind (arith, common_steps, inside)

pub length-marked : (row : Change) (page : ℕ) (marks : List Marks) → length (marked row page marks) ≡ length marks
length-marked row page marks = length-set marks page (row (marks_of marks page))

-- beyond the last page there is nothing to mark
marked_past : (row : Change) (page : ℕ) (marks : List Marks) → (page < length marks → ⊥) → marked row page marks ≡ marks
marked_past row page marks past = past_of marks page past (row (marks_of marks page))
  where
    past_of : (ms : List Marks) (i : ℕ) → (i < length ms → ⊥) → (m : Marks) → slice_set ms i m ≡ ms
    past_of [] i p m = refl
    past_of (x ∷ ms) zero p m = absurd (p (omega arith))
    past_of (x ∷ ms) (suc i) p m = ap (λ rest. x ∷ rest) (past_of ms i (λ l. p (omega arith)) m)

-- ---- less is said

pub less_refl : (marks : Marks) → IsLess marks marks
less_refl marks = record { validated = λ seal e. e; writable = λ e. e }

pub less_same : (old new : Marks) → new ≡ old → IsLess old new
less_same old new same = subst (IsLess old) (sym same) (less_refl old)

pub less_both : (old mid new : Marks) → IsLess old mid → IsLess mid new → IsLess old new
less_both old mid new first second = record {
  validated = λ seal e. first.validated seal (second.validated seal e);
  writable = λ e. first.writable (second.writable e);
}

none_some : {X : Type 0} (x : X) → None ≡ Some x → ⊥
none_some x e = cc

-- where nothing was kept, nothing is
pub less_none : (old new : Marks) → IsLess old new → old.validated ≡ None → new.validated ≡ None
less_none old new less none = by_kept new.validated refl
  where
    by_kept : (o : Option Seal) → new.validated ≡ o → o ≡ None
    by_kept None e = refl
    by_kept (Some seal) e = absurd (none_some seal (sym none ∙ less.validated seal e))

-- a row that says less
pub LessRow : Change → Type 0
LessRow row = (marks : Marks) → IsLess marks (row marks)

pub changed_less : LessRow changed
unfolding LessRow
changed_less marks = record { validated = λ seal e. absurd (none_some seal e); writable = λ e. e }

pub other_less : LessRow other
unfolding LessRow
other_less marks = record { validated = λ seal e. absurd (none_some seal e); writable = λ e. e }

pub goes_less : LessRow goes
unfolding LessRow
goes_less marks = record { validated = λ seal e. absurd (none_some seal e); writable = λ e. absurd (grind (arith, common_steps, e)) }

pub unmaps_less : LessRow unmaps
unfolding LessRow
unmaps_less marks = record { validated = λ seal e. e; writable = λ e. absurd (grind (arith, common_steps, e)) }

pub marked_less : (row : Change) → LessRow row → (page : ℕ) (marks : List Marks) (q : ℕ) → IsLess (marks_of marks q) (marks_of (marked row page marks) q)
unfolding LessRow
marked_less row less page marks q = by_test (q == page) refl
  where
    by_test : (b : Bool) → (q == page) ≡ b → IsLess (marks_of marks q) (marks_of (marked row page marks) q)
    by_test false e = less_same (marks_of marks q) (marks_of (marked row page marks) q) (marked_other row page marks q e)
    by_test true e = by_inside (nat_lt page (length marks)) refl (grind (arith, common_steps, e))
      where
        by_inside : (b : Bool) → nat_lt page (length marks) ≡ b → q ≡ page → IsLess (marks_of marks q) (marks_of (marked row page marks) q)
        by_inside true l same =
            subst (λ p. IsLess (marks_of marks p) (marks_of (marked row page marks) p)) (sym same)
            (subst (IsLess (marks_of marks page)) (sym (marked_here row page marks (grind (arith, common_steps, l)))) (less (marks_of marks page)))
        by_inside false l same =
            less_same (marks_of marks q) (marks_of (marked row page marks) q) (ap (λ ms. marks_of ms q) (marked_past row page marks (λ inside. absurd (grind (arith, common_steps, l, inside)))))

-- where it is only said that no writer maps a page, what was kept is kept
pub unmaps_validated : (page : ℕ) (marks : List Marks) (q : ℕ) → (marks_of (marked unmaps page marks) q).validated ≡ (marks_of marks q).validated
unmaps_validated page marks q = by_test (q == page) refl
  where
    by_test : (b : Bool) → (q == page) ≡ b → (marks_of (marked unmaps page marks) q).validated ≡ (marks_of marks q).validated
    by_test false e = ap (λ (m : Marks). m.validated) (marked_other unmaps page marks q e)
    by_test true e = by_inside (nat_lt page (length marks)) refl (grind (arith, common_steps, e))
      where
        by_inside : (b : Bool) → nat_lt page (length marks) ≡ b → q ≡ page → (marks_of (marked unmaps page marks) q).validated ≡ (marks_of marks q).validated
        by_inside true l same =
            ap (λ p. (marks_of (marked unmaps page marks) p).validated) same ∙ ap (λ (m : Marks). m.validated) (marked_here unmaps page marks (grind (arith, common_steps, l)))
            ∙ ap (λ p. (marks_of marks p).validated) (sym same)
        by_inside false l same = ap (λ ms. (marks_of ms q).validated) (marked_past unmaps page marks (λ inside. absurd (grind (arith, common_steps, l, inside))))

pub cleared_validated : (cache : CacheNow) (page : ℕ) (marks : List Marks) (q : ℕ) → (marks_of (cleared cache page marks) q).validated ≡ (marks_of marks q).validated
cleared_validated cache page marks q = by_resident (is_some (resident_page cache page))
  where
    by_resident : (b : Bool) → (marks_of (if b then marked unmaps page marks else marks) q).validated ≡ (marks_of marks q).validated
    by_resident true = unmaps_validated page marks q
    by_resident false = refl

pub cleared_less : (cache : CacheNow) (page : ℕ) (marks : List Marks) (q : ℕ) → IsLess (marks_of marks q) (marks_of (cleared cache page marks) q)
cleared_less cache page marks q = by_resident (is_some (resident_page cache page))
  where
    by_resident : (b : Bool) → IsLess (marks_of marks q) (marks_of (if b then marked unmaps page marks else marks) q)
    by_resident true = marked_less unmaps unmaps_less page marks q
    by_resident false = less_refl (marks_of marks q)

pub length-cleared : (cache : CacheNow) (page : ℕ) (marks : List Marks) → length (cleared cache page marks) ≡ length marks
length-cleared cache page marks = by_resident (is_some (resident_page cache page))
  where
    by_resident : (b : Bool) → length (if b then marked unmaps page marks else marks) ≡ length marks
    by_resident true = length-marked unmaps page marks
    by_resident false = refl

-- ---- the page in the spare buffer goes

pub gone_less : (cache : CacheNow) (marks : List Marks) (q : ℕ) → IsLess (marks_of marks q) (marks_of (spare_gone cache marks) q)
gone_less cache marks q = by_spare (option_map (λ held. held.page) cache.spare)
  where
    by_spare : (spare : Option ℕ) → IsLess (marks_of marks q) (marks_of (marked_if goes spare marks) q)
    by_spare None = less_refl (marks_of marks q)
    by_spare (Some page) = marked_less goes goes_less page marks q

-- of a resident page all marks stay
pub gone_other : (cache : CacheNow) (marks : List Marks) (q : ℕ) → IsListed cache → is_some (resident_page cache q) ≡ true → marks_of (spare_gone cache marks) q ≡ marks_of marks q
gone_other cache marks q listed resident = by_spare cache.spare listed.beside
  where
    by_spare : (spare : Option Held) → IfSome spare (IsBeside cache.pager.pages cache.pager.told cache.held) → marks_of (marked_if goes (option_map (λ held. held.page) spare) marks) q ≡ marks_of marks q
    by_spare None beside = refl
    by_spare (Some held) beside = marked_other goes held.page marks q (by_test (q == held.page) refl)
      where
        by_test : (b : Bool) → (q == held.page) ≡ b → b ≡ false
        by_test false e = refl
        by_test true e =
            let same : q ≡ held.page = grind (arith, common_steps, e) in
            let none : find_held cache.held q ≡ None = ap (find_held cache.held) same ∙ beside.absent in
            absurd (grind (arith, common_steps, none, resident))

pub length-gone : (cache : CacheNow) (marks : List Marks) → length (spare_gone cache marks) ≡ length marks
length-gone cache marks = by_spare (option_map (λ held. held.page) cache.spare)
  where
    by_spare : (spare : Option ℕ) → length (marked_if goes spare marks) ≡ length marks
    by_spare None = refl
    by_spare (Some page) = length-marked goes page marks

-- ---- a write

pub written_less : (cache : CacheNow) (page : ℕ) (result : Result (Unit {0}) PagerFault) (marks : List Marks) (q : ℕ) → IsLess (marks_of marks q) (marks_of (written cache page result marks) q)
written_less cache page (Ok done) marks q =
    less_both (marks_of marks q) (marks_of (spare_gone cache marks) q) (marks_of (marked changed page (spare_gone cache marks)) q) (gone_less cache marks q) (marked_less changed changed_less page (spare_gone cache marks) q)
written_less cache page (Err fault) marks q = gone_less cache marks q
