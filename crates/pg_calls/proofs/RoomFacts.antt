-- What the entries of a call use of each part.
use Rattle.std.proofs.Common.{◌≡◌, ℕ, Bool, true, false, List, [], ◌∷◌, ◌++◌, refl, sym, ap, subst, ◌∙◌, arith}
use Rattle.std.specs.Prelude.{◌==◌, ◌&&◌, if◌then◌else◌}
use Rattle.std.proofs.lemmas.Grind.{common_steps}
use Rattle.pg_book.specs.declared.needs.Needs.{Needs}
use Rattle.pg_book.specs.Needs.{nothing_needed}
use Rattle.cs_policy.specs.declared.entry.Event.{Event}
use Rattle.cs_policy.specs.declared.entry.Place.{Place}
use Rattle.cs_policy.specs.declared.entry.Place.TheVariants as place
use Rattle.pg_history.specs.Machine.{Line}
use Rattle.pg_history.specs.ByParts.{is_at}
use Rattle.pg_calls.specs.Room.{plus, Within, event_uses, used_by, is_within, Use, use_at, uses_at}

-- ---- no more of any kind

pub within-refl : (one : Needs) → Within one one
within-refl one = record {
  entries = omega arith;
  regions = omega arith;
  records = omega arith;
  copies = omega arith;
  blobs = omega arith;
  numbers = omega arith;
}

pub within-trans : (one two three : Needs) → Within one two → Within two three → Within one three
within-trans one two three a b = record {
  entries = omega (arith, a.entries, b.entries);
  regions = omega (arith, a.regions, b.regions);
  records = omega (arith, a.records, b.records);
  copies = omega (arith, a.copies, b.copies);
  blobs = omega (arith, a.blobs, b.blobs);
  numbers = omega (arith, a.numbers, b.numbers);
}

pub within-plus : (one two three four : Needs) → Within one two → Within three four → Within (plus one three) (plus two four)
within-plus one two three four a b = record {
  entries = omega (arith, a.entries, b.entries);
  regions = omega (arith, a.regions, b.regions);
  records = omega (arith, a.records, b.records);
  copies = omega (arith, a.copies, b.copies);
  blobs = omega (arith, a.blobs, b.blobs);
  numbers = omega (arith, a.numbers, b.numbers);
}

pub within-nothing : (one : Needs) → Within nothing_needed one
within-nothing one = record {
  entries = omega arith;
  regions = omega arith;
  records = omega arith;
  copies = omega arith;
  blobs = omega arith;
  numbers = omega arith;
}

pub within-behind : (one two three : Needs) → Within one three → Within one (plus two three)
within-behind one two three a = record {
  entries = omega (arith, a.entries);
  regions = omega (arith, a.regions);
  records = omega (arith, a.records);
  copies = omega (arith, a.copies);
  blobs = omega (arith, a.blobs);
  numbers = omega (arith, a.numbers);
}

pub within-front : (one two three : Needs) → Within one two → Within one (plus two three)
within-front one two three a = record {
  entries = omega (arith, a.entries);
  regions = omega (arith, a.regions);
  records = omega (arith, a.records);
  copies = omega (arith, a.copies);
  blobs = omega (arith, a.blobs);
  numbers = omega (arith, a.numbers);
}

-- where two are within what is left beside one, their sum with it is
pub within-join : (one two three four five : Needs) → Within (plus one four) five → Within (plus two three) four → Within (plus (plus one two) three) five
within-join one two three four five a b = record {
  entries = omega (arith, a.entries, b.entries);
  regions = omega (arith, a.regions, b.regions);
  records = omega (arith, a.records, b.records);
  copies = omega (arith, a.copies, b.copies);
  blobs = omega (arith, a.blobs, b.blobs);
  numbers = omega (arith, a.numbers, b.numbers);
}

abbrev NeedsAre : Needs → Needs → Type 0
NeedsAre one two = ◌≡◌ {A = Needs} one two

pub needs-same : (one two : Needs) → one.entries ≡ two.entries → one.regions ≡ two.regions → one.records ≡ two.records
    → one.copies ≡ two.copies → one.blobs ≡ two.blobs → one.numbers ≡ two.numbers → NeedsAre one two
needs-same one two a b c d e f =
    λ i. record { entries = a i; regions = b i; records = c i; copies = d i; blobs = e i; numbers = f i }

pub plus-assoc : (one two three : Needs) → NeedsAre (plus (plus one two) three) (plus one (plus two three))
plus-assoc one two three = needs-same _ _ (omega arith) (omega arith) (omega arith) (omega arith) (omega arith) (omega arith)

pub nothing-plus : (one : Needs) → NeedsAre (plus nothing_needed one) one
nothing-plus one = needs-same _ _ (omega arith) (omega arith) (omega arith) (omega arith) (omega arith) (omega arith)

-- ---- places

same_number : (a b : ℕ) → (a == b) ≡ true → a ≡ b
same_number a b e = grind (arith, common_steps, e)

pub number-same : (a : ℕ) → (a == a) ≡ true
number-same a = grind (arith, common_steps)

pub is_at-same : (a b : Place) → is_at a b ≡ true → a ≡ b
is_at-same (place.File a) (place.File b) e = ap (λ n. place.File n) (same_number a b e)
is_at-same (place.File a) (place.Process b) e = absurd (grind (arith, common_steps, e))
is_at-same (place.File a) place.Trust e = absurd (grind (arith, common_steps, e))
is_at-same (place.Process a) (place.File b) e = absurd (grind (arith, common_steps, e))
is_at-same (place.Process a) (place.Process b) e = ap (λ n. place.Process n) (same_number a b e)
is_at-same (place.Process a) place.Trust e = absurd (grind (arith, common_steps, e))
is_at-same place.Trust (place.File b) e = absurd (grind (arith, common_steps, e))
is_at-same place.Trust (place.Process b) e = absurd (grind (arith, common_steps, e))
is_at-same place.Trust place.Trust e = refl

-- ---- entries and uses

-- the event at this place is one of this use
pub record FitsOne (one : Use) (at : Place) (e : Event) : Type 0 where
  pub there : is_within one.where_it_is at ≡ true
  pub uses : Within (event_uses e) one.uses

-- each entry is one of the use at its place in the list
abbrev pub Fit : List Use → List Line → Type 0
Fit ss [] = Unit {0}
Fit [] (x ∷ xs) = ⊥
Fit (s ∷ ss) (x ∷ xs) = FitsOne s x.entry.place x.entry.event × Fit ss xs

-- and an event behind them is one of the next
abbrev pub FitsNext : List Use → List Line → Place → Event → Type 0
FitsNext [] xs at e = ⊥
FitsNext (s ∷ ss) [] at e = FitsOne s at e
FitsNext (s ∷ ss) (x ∷ xs) at e = FitsNext ss xs at e

pub fit-snoc : (ss : List Use) (xs : List Line) (x : Line) → Fit ss xs → FitsNext ss xs x.entry.place x.entry.event → Fit ss (xs ++ x ∷ [])
fit-snoc [] [] x fit next = absurd next
fit-snoc (s ∷ ss) [] x fit next = (next, tt)
fit-snoc [] (y ∷ ys) x fit next = absurd fit
fit-snoc (s ∷ ss) (y ∷ ys) x fit next = (fit.0, fit-snoc ss ys x fit.1 next)

-- what one entry uses of a part
abbrev pub used_one : ℕ → Place → Line → Needs
used_one worker at x =
    if x.entry.who.worker == worker && is_at at x.entry.place then event_uses x.entry.event else nothing_needed

pub used_by-cons : (worker : ℕ) (at : Place) (x : Line) (xs : List Line)
    → NeedsAre (used_by worker at (x ∷ xs)) (plus (used_one worker at x) (used_by worker at xs))
used_by-cons worker at x xs = by_test (x.entry.who.worker == worker && is_at at x.entry.place)
  where
    by_test : (b : Bool) → NeedsAre (if b then plus (event_uses x.entry.event) (used_by worker at xs) else used_by worker at xs)
        (plus (if b then event_uses x.entry.event else nothing_needed) (used_by worker at xs))
    by_test true = refl
    by_test false = sym (nothing-plus (used_by worker at xs))

pub used_by-append : (worker : ℕ) (at : Place) (xs ys : List Line)
    → NeedsAre (used_by worker at (xs ++ ys)) (plus (used_by worker at xs) (used_by worker at ys))
used_by-append worker at [] ys = sym (nothing-plus (used_by worker at ys))
used_by-append worker at (x ∷ xs) ys =
    used_by-cons worker at x (xs ++ ys)
    ∙ ap (λ n. plus (used_one worker at x) n) (used_by-append worker at xs ys)
    ∙ sym (plus-assoc (used_one worker at x) (used_by worker at xs) (used_by worker at ys))
    ∙ ap (λ n. plus n (used_by worker at ys)) (sym (used_by-cons worker at x xs))

-- an entry uses no more of a part than the use that it is of
pub one-within : (worker : ℕ) (at : Place) (s : Use) (x : Line) → FitsOne s x.entry.place x.entry.event → Within (used_one worker at x) (use_at at s)
one-within worker at s x fits = by_place (is_at at x.entry.place) refl
  where
    there : is_at at x.entry.place ≡ true → is_within s.where_it_is at ≡ true
    there e = subst (λ p. is_within s.where_it_is p ≡ true) (sym (is_at-same at x.entry.place e)) fits.there

    by_worker : (b : Bool) → Within (if b && true then event_uses x.entry.event else nothing_needed) s.uses
    by_worker true = fits.uses
    by_worker false = within-nothing s.uses

    at_use : is_within s.where_it_is at ≡ true → Within (if x.entry.who.worker == worker && true then event_uses x.entry.event else nothing_needed) (use_at at s)
    at_use e = subst (λ b. Within (if x.entry.who.worker == worker && true then event_uses x.entry.event else nothing_needed) (if b then s.uses else nothing_needed)) (sym e) (by_worker (x.entry.who.worker == worker))

    other_worker : (b : Bool) (n : Needs) → Within (if b && false then event_uses x.entry.event else nothing_needed) n
    other_worker true n = within-nothing n
    other_worker false n = within-nothing n

    by_place : (b : Bool) → is_at at x.entry.place ≡ b → Within (if x.entry.who.worker == worker && b then event_uses x.entry.event else nothing_needed) (use_at at s)
    by_place true e = at_use (there e)
    by_place false e = other_worker (x.entry.who.worker == worker) (use_at at s)

pub fit-used : (worker : ℕ) (at : Place) (ss : List Use) (xs : List Line) → Fit ss xs → Within (used_by worker at xs) (uses_at at ss)
fit-used worker at ss [] fit = within-nothing (uses_at at ss)
fit-used worker at [] (x ∷ xs) fit = absurd fit
fit-used worker at (s ∷ ss) (x ∷ xs) fit =
    subst (λ n. Within n (uses_at at (s ∷ ss))) (sym (used_by-cons worker at x xs))
    (within-plus _ _ _ _ (one-within worker at s x fit.0) (fit-used worker at ss xs fit.1))

-- and neither do the entries with the event that follows them
pub fit-next : (worker : ℕ) (at : Place) (e : Event) (ss : List Use) (xs : List Line) → Fit ss xs → FitsNext ss xs at e
    → Within (plus (used_by worker at xs) (event_uses e)) (uses_at at ss)
fit-next worker at e [] xs fit next = absurd next
fit-next worker at e (s ∷ ss) [] fit next =
    subst (λ n. Within n (uses_at at (s ∷ ss))) (sym (nothing-plus (event_uses e)))
    (subst (λ b. Within (event_uses e) (plus (if b then s.uses else nothing_needed) (uses_at at ss))) (sym next.there)
    (within-front _ _ _ next.uses))
fit-next worker at e (s ∷ ss) (x ∷ xs) fit next =
    subst (λ n. Within n (uses_at at (s ∷ ss)))
    (sym (ap (λ n. plus n (event_uses e)) (used_by-cons worker at x xs) ∙ plus-assoc (used_one worker at x) (used_by worker at xs) (event_uses e)))
    (within-plus _ _ _ _ (one-within worker at s x fit.0) (fit-next worker at e ss xs fit.1 next))
