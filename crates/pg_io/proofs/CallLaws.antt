-- For the layers above: calls of a pager one after another fail by their numbers.
use Rattle.std.proofs.Common.{◌≡◌, ℕ, zero, suc, ◌+◌, ◌-◌, ◌<◌, ◌^◌, List, [], ◌∷◌, ◌++◌, length, Bool, true, false, Option, Some, None, refl, ap, sym, subst, ◌∙◌, arith, length-append}
use Rattle.std.specs.Prelude.{IfSome, IsSomeAnd, min, slice_get, if◌then◌else◌}
use Rattle.std.specs.Option.{option_map}
use Rattle.pg_io.specs.Calls.{next_count, is_to_fail, count_after, fails_at, outcomes, one_later, first_failed, first_failing}
use Rattle.pg_io.specs.Pager.{ToldPages, PagerNow, next_fails, after_call, with_page, IsRead, IsWrite, Follow, MadeCalls}

-- ---- counts and outcomes

-- the count goes on by one for each call, as far as it goes
pub count_after-is : (made more : ℕ) → made < 2 ^ 64 → count_after made more ≡ min (made + more) (2 ^ 64 - 1)
count_after-is made zero below = omega arith
count_after-is made (suc more) below = count_after-is (next_count made) more (omega arith) ∙ omega arith

-- the outcome of the call at a place of those that follow
pub outcome_at : (made : ℕ) (fails : List ℕ) (count place : ℕ) → place < count → slice_get (outcomes made fails count) place ≡ Some (fails_at made fails place)
outcome_at made fails zero place inside = absurd (omega arith)
outcome_at made fails (suc count) zero inside = refl
outcome_at made fails (suc count) (suc place) inside = outcome_at (next_count made) fails count place (omega arith)

pub length-outcomes : (made : ℕ) (fails : List ℕ) (count : ℕ) → length (outcomes made fails count) ≡ count
length-outcomes made fails zero = refl
length-outcomes made fails (suc count) = ap suc (length-outcomes (next_count made) fails count)

pub count_after-add : (made more others : ℕ) → count_after made (more + others) ≡ count_after (count_after made more) others
count_after-add made zero others = ap (count_after made) {x = 0 + others} {y = others} (omega arith)
count_after-add made (suc more) others = ap (count_after made) {x = suc more + others} {y = suc (more + others)} (omega arith) ∙ count_after-add (next_count made) more others

pub outcomes-append : (made : ℕ) (fails : List ℕ) (count others : ℕ) → outcomes made fails (count + others) ≡ outcomes made fails count ++ outcomes (count_after made count) fails others
outcomes-append made fails zero others = ap (outcomes made fails) {x = 0 + others} {y = others} (omega arith)
outcomes-append made fails (suc count) others =
    ap (outcomes made fails) {x = suc count + others} {y = suc (count + others)} (omega arith)
    ∙ ap (λ (rest : List Bool). is_to_fail made fails ∷ rest) (outcomes-append (next_count made) fails count others)

-- no call fails where none is to fail
pub none_failing : (made : ℕ) (fails : List ℕ) (count : ℕ) → ((place : ℕ) → place < count → fails_at made fails place ≡ false) → first_failing made fails count ≡ 0
none_failing made fails zero well = refl
none_failing made fails (suc count) well =
    subst (λ b. first_failed (b ∷ outcomes (next_count made) fails count) ≡ 0) (sym (well 0 (omega arith)))
    (ap one_later (none_failing (next_count made) fails count (λ place inside. well (suc place) (omega arith))))

-- the first that is to fail, before which none is
pub first_failing-at : (made : ℕ) (fails : List ℕ) (count place : ℕ) → place < count → fails_at made fails place ≡ true → ((before : ℕ) → before < place → fails_at made fails before ≡ false) → first_failing made fails count ≡ suc place
first_failing-at made fails zero place inside failing well = absurd (omega arith)
first_failing-at made fails (suc count) zero inside failing well =
    subst (λ b. first_failed (b ∷ outcomes (next_count made) fails count) ≡ 1) (sym failing) refl
first_failing-at made fails (suc count) (suc place) inside failing well =
    subst (λ b. first_failed (b ∷ outcomes (next_count made) fails count) ≡ suc (suc place)) (sym (well 0 (omega arith)))
    (ap one_later (first_failing-at (next_count made) fails count place (omega arith) failing (λ before less. well (suc before) (omega arith))))

-- ---- calls of a pager

follow_one : (old new : ToldPages) (failed : Bool) → failed ≡ next_fails old → new.made ≡ next_count old.made → new.fails ≡ old.fails → Follow old (failed ∷ []) new
follow_one old new failed outcome made fails = record {
  made = made;
  fails = fails;
  outcomes = ap (λ b. b ∷ []) outcome;
}

follow_both : (old between new : ToldPages) (first second : List Bool) → Follow old first between → Follow between second new → Follow old (first ++ second) new
follow_both old between new first second one two =
    let long = length-append first second in
    let counted : between.made ≡ count_after old.made (length first) = one.made in
    record {
      made = two.made ∙ ap (λ m. count_after m (length second)) counted ∙ sym (count_after-add old.made (length first) (length second)) ∙ ap (count_after old.made) (sym long);
      fails = two.fails ∙ one.fails;
      outcomes = both counted ∙ sym (outcomes-append old.made old.fails (length first) (length second)) ∙ ap (outcomes old.made old.fails) (sym long);
    }
  where
    both : between.made ≡ count_after old.made (length first) → first ++ second ≡ outcomes old.made old.fails (length first) ++ outcomes (count_after old.made (length first)) old.fails (length second)
    both counted =
        ap (λ (l : List Bool). l ++ second) one.outcomes
        ∙ ap (λ (l : List Bool). outcomes old.made old.fails (length first) ++ l) (two.outcomes ∙ ap (λ m. outcomes m between.fails (length second)) counted
        ∙ ap (λ f. outcomes (count_after old.made (length first)) f (length second)) one.fails)

-- no call
pub no_calls : (pager : PagerNow) → MadeCalls pager [] pager
no_calls pager = none_of pager.told
  where
    none_of : (told : Option ToldPages) → IfSome told (λ before. IsSomeAnd told (λ now. Follow before [] now))
    none_of None = tt
    none_of (Some t) = record { made = refl; fails = refl; outcomes = refl }

-- one read
pub read_made : (old new : PagerNow) (page : ℕ) (failed : Bool) (bytes : List ℕ) → IsRead old page failed bytes new → MadeCalls old (failed ∷ []) new
read_made old new page failed bytes read = subst (λ now. IfSome old.told (λ before. IsSomeAnd now (λ t. Follow before (failed ∷ []) t))) (sym read.told) (read_of old.told read.outcome)
  where
    read_of : (told : Option ToldPages) → IfSome told (λ t. failed ≡ next_fails t) → IfSome told (λ before. IsSomeAnd (option_map after_call told) (λ now. Follow before (failed ∷ []) now))
    read_of None outcome = tt
    read_of (Some t) outcome = follow_one t (after_call t) failed outcome refl refl

-- one write
abbrev written : ℕ → List ℕ → Bool → ToldPages → ToldPages
written page bytes failed told = if failed then after_call told else with_page page bytes told

pub write_made : (old new : PagerNow) (page : ℕ) (failed : Bool) (bytes : List ℕ) → IsWrite old page failed bytes new → MadeCalls old (failed ∷ []) new
write_made old new page failed bytes write = subst (λ now. IfSome old.told (λ before. IsSomeAnd now (λ t. Follow before (failed ∷ []) t))) (sym write.told) (write_of failed old.told write.outcome)
  where
    write_of : (f : Bool) (told : Option ToldPages) → IfSome told (λ t. f ≡ next_fails t) → IfSome told (λ before. IsSomeAnd (option_map (written page bytes f) told) (λ now. Follow before (f ∷ []) now))
    write_of f None outcome = tt
    write_of true (Some t) outcome = follow_one t (after_call t) true outcome refl refl
    write_of false (Some t) outcome = follow_one t (with_page page bytes t) false outcome refl refl

-- some calls, and then others
pub calls_made : (old between new : PagerNow) (first second : List Bool) → MadeCalls old first between → MadeCalls between second new → MadeCalls old (first ++ second) new
calls_made old between new first second one two = made_of old.told between.told new.told one two
  where
    made_of : (o b n : Option ToldPages) → IfSome o (λ before. IsSomeAnd b (λ now. Follow before first now)) → IfSome b (λ before. IsSomeAnd n (λ now. Follow before second now))
        → IfSome o (λ before. IsSomeAnd n (λ now. Follow before (first ++ second) now))
    made_of None b n one two = tt
    made_of (Some o) None n one two = absurd one
    made_of (Some o) (Some b) None one two = absurd two
    made_of (Some o) (Some b) (Some n) one two = follow_both o b n first second one two

-- each call failed exactly where it was to fail by its number
pub failed_by_number : (old new : ToldPages) (failed : List Bool) (place : ℕ) → Follow old failed new → place < length failed → slice_get failed place ≡ Some (fails_at old.made old.fails place)
failed_by_number old new failed place follow inside =
    ap (λ (l : List Bool). slice_get l place) follow.outcomes ∙ outcome_at old.made old.fails (length failed) place inside
