-- What the first broken rule of a list tells, whatever the rules are.
use Rattle.std.proofs.Common.{◌≡◌, ℕ, ◌+◌, ◌-◌, ◌<◌, subst, ◌≤◌, List, [], length, drop, get_or, map, Option, Some, None, refl, sym, ◌∙◌, arith, add-one, drop-cons}
use Rattle.std.proofs.lemmas.Grind.{common_steps}
use Rattle.std.proofs.lemmas.List.FromFn.{get_or-range_with_len}
use Rattle.cs_blob.specs.declared.refusal.BlobRefusal.{BlobRefusal}
use Rattle.cs_blob.specs.Rules.{first_of, earliest, slot_types}

-- Rules that stand one for each element: those of the first `i` are kept.
pub record KeptBefore {X : Type 0} (rule : X → Option BlobRefusal) (xs : List X) (i : ℕ) : Type 0 where
  pub same : earliest (map rule (drop i xs)) ≡ earliest (map rule xs)

-- the rules from an element on, by that of the element
from_here : {X : Type 0} (rule : X → Option BlobRefusal) (xs : List X) (i : ℕ) (d : X) → i < length xs → earliest (map rule (drop i xs)) ≡ first_of (rule (get_or xs i d)) (earliest (map rule (drop (i + 1) xs)))
from_here rule xs i d lt = rw (add-one, drop-cons xs i d) refl

pub KeptBefore-start : {X : Type 0} (rule : X → Option BlobRefusal) (xs : List X) → KeptBefore rule xs 0
KeptBefore-start rule xs = record { same = refl }

pub KeptBefore-next : {X : Type 0} (rule : X → Option BlobRefusal) (xs : List X) (i : ℕ) (d : X) → KeptBefore rule xs i → i < length xs → rule (get_or xs i d) ≡ None → KeptBefore rule xs (i + 1)
KeptBefore-next rule xs i d known lt kept =
    let here = from_here rule xs i d lt in
    let step : first_of (rule (get_or xs i d)) (earliest (map rule (drop (i + 1) xs))) ≡ earliest (map rule (drop (i + 1) xs)) = rw kept refl in
    record { same = sym (here ∙ step) ∙ known.same }

pub broken_at : {X : Type 0} (rule : X → Option BlobRefusal) (xs : List X) (i : ℕ) (d : X) (refusal : BlobRefusal) → KeptBefore rule xs i → i < length xs → rule (get_or xs i d) ≡ Some refusal → earliest (map rule xs) ≡ Some refusal
broken_at rule xs i d refusal known lt broken =
    let here = from_here rule xs i d lt in
    let step : first_of (rule (get_or xs i d)) (earliest (map rule (drop (i + 1) xs))) ≡ Some refusal = rw broken refl in
    sym known.same ∙ (here ∙ step)

pub KeptBefore-end : {X : Type 0} (rule : X → Option BlobRefusal) (xs : List X) (i : ℕ) → KeptBefore rule xs i → length xs ≤ i → earliest (map rule xs) ≡ None
KeptBefore-end rule xs i known le =
    let gone : drop i xs ≡ [] = grind (arith, common_steps) in
    sym known.same ∙ rw gone refl

pub slot_at : (t : ℕ) → 0 < t → t < 12 → get_or slot_types (t - 1) 0 ≡ t
unfolding slot_types
slot_at t positive lt =
    let within : t - 1 < 11 = omega arith in
    get_or-range_with_len 1 11 (t - 1) 0 within ∙ omega arith

pub length-slot_types : length slot_types ≡ 11
unfolding slot_types
length-slot_types = refl

-- the rules on special slots, where those below slot `t` are kept
pub slots_start : (rule : ℕ → Option BlobRefusal) → KeptBefore rule slot_types (1 - 1)
slots_start rule = record { same = refl }

pub slots_next : (rule : ℕ → Option BlobRefusal) (t : ℕ) → KeptBefore rule slot_types (t - 1) → 0 < t → t < 12 → rule t ≡ None → KeptBefore rule slot_types (t + 1 - 1)
slots_next rule t known positive lt kept =
    let here : rule (get_or slot_types (t - 1) 0) ≡ None = rw (slot_at t positive lt) kept in
    let next = KeptBefore-next rule slot_types (t - 1) 0 known (omega (arith, length-slot_types)) here in
    let same : (t - 1) + 1 ≡ t + 1 - 1 = omega arith in
    let P : ℕ → Type 0 = λ i. KeptBefore rule slot_types i in
    subst P same next

pub slots_broken : (rule : ℕ → Option BlobRefusal) (t : ℕ) (refusal : BlobRefusal) → KeptBefore rule slot_types (t - 1) → 0 < t → t < 12 → rule t ≡ Some refusal → earliest (map rule slot_types) ≡ Some refusal
slots_broken rule t refusal known positive lt broken =
    let here : rule (get_or slot_types (t - 1) 0) ≡ Some refusal = rw (slot_at t positive lt) broken in
    broken_at rule slot_types (t - 1) 0 refusal known (omega (arith, length-slot_types)) here

pub slots_end : (rule : ℕ → Option BlobRefusal) (t : ℕ) → KeptBefore rule slot_types (t - 1) → 12 ≤ t → earliest (map rule slot_types) ≡ None
slots_end rule t known le = KeptBefore-end rule slot_types (t - 1) known (omega (arith, length-slot_types))
