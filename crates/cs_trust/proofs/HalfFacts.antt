-- What a search by halves knows of a table, and what it costs.
use Rattle.std.proofs.Common.{◌≡◌, ◌≢◌, ℕ, suc, ◌+◌, ◌-◌, ◌*◌, ◌^◌, ◌<◌, ◌≤◌, false, List, [], length, get_or, Option, Some, None, MatchOption, eqb, refl, sym, ◌∙◌, ap, ⊎_elim, arith, pow-suc, mul-le-mul_left, mul_comm, mul_assoc, eq-eqb}
use Rattle.std.proofs.lemmas.Bool.{cases_lt, ne_eqb}
use Rattle.std.proofs.lemmas.Cmp.{nat_list_cmp_total, is_eq_index}
use Rattle.std.proofs.lemmas.List.Sorted.{searchable_from_sorted}
use Rattle.std.proofs.Math.Nat.{pow-le-pow_right}
use Rattle.std.specs.Prelude.{position, IsSorted}
use Rattle.std.proofs.Math.ListN.{get_or-map, length-map}
use Rattle.cs_trust.specs.declared.entries.Entry.{Entry}
use Rattle.std.specs.declared.cmp.Ordering.{Ordering}
use Rattle.std.specs.declared.cmp.Ordering.TheVariants.{Less, Equal, Greater}
use Rattle.std.specs.Ordering.{ordering_index, nat_cmp}
use Rattle.std.specs.Cmp.Lexicographic.{lists_ties}
use Rattle.std.specs.Cmp.{unsigned_ties}
use Rattle.cs_trust.specs.Order.{order, is_same, cdhashes_of}
use Rattle.cs_trust.specs.Listed.{listing, place_of}
use Rattle.cs_trust.proofs.PlaceFacts.{position_is, position_none, position-mapped}

-- how the entry at a place compares to the cdhash: 0 where it is less, 1 where it is the same, 2 where it is greater
unfoldable pub rank : List (List ℕ) → List ℕ → ℕ → ℕ
rank entries cdhash k = ordering_index (order (get_or entries k []) cdhash)

-- What is known once all places outside `low..high` are ruled out: those before are less than the cdhash, and those
-- behind are greater, or the first of them was found to be the same.
pub record Halved (entries : List (List ℕ)) (cdhash : List ℕ) (low high : ℕ) (found : Option ℕ) : Type 0 where
  pub ordered : low ≤ high
  pub within : high ≤ length entries
  pub before : (k : ℕ) → k < low → rank entries cdhash k ≡ 0
  pub behind : MatchOption found ((k : ℕ) → high ≤ k → k < length entries → rank entries cdhash k ≡ 2) (λ place. (place ≡ high) × (high < length entries) × (rank entries cdhash high ≡ 1))

-- the cdhash of an entry, among all cdhashes
pub cdhash_at : (entries : List Entry) (k : ℕ) → get_or (cdhashes_of entries) k [] ≡ (get_or entries k (listing [])).cdhash
cdhash_at entries k = get_or-map (λ (entry : Entry). entry.cdhash) entries k (listing [])

pub length-cdhashes : (entries : List Entry) → length (cdhashes_of entries) ≡ length entries
length-cdhashes entries = length-map entries (λ (entry : Entry). entry.cdhash)

-- the place of an entry, by the cdhashes alone
pub place_of-cdhashes : (entries : List Entry) (cdhash : List ℕ) → place_of entries cdhash ≡ position (λ entry. is_same entry cdhash) (cdhashes_of entries)
unfolding place_of
place_of-cdhashes entries cdhash = position-mapped (λ entry. entry.cdhash) (λ entry. is_same entry cdhash) entries

-- the rank by what a comparison answers
pub rank_is : (entries : List (List ℕ)) (cdhash : List ℕ) (k : ℕ) (o : Ordering) → o ≡ order (get_or entries k []) cdhash → rank entries cdhash k ≡ ordering_index o
unfolding rank
rank_is entries cdhash k o e = ap ordering_index (sym e)

-- the same, for an entry among others
pub rank_of : (entries : List Entry) (cdhash : List ℕ) (k : ℕ) (o : Ordering) → o ≡ order (get_or entries k (listing [])).cdhash cdhash → rank (cdhashes_of entries) cdhash k ≡ ordering_index o
rank_of entries cdhash k o e =
    rank_is (cdhashes_of entries) cdhash k o (e ∙ ap (λ (x : List ℕ). order x cdhash) (sym (cdhash_at entries k)))

-- the greatest of the three
index_limit : (o : Ordering) → ordering_index o ≤ 2
index_limit Less = omega arith
index_limit Equal = omega arith
index_limit Greater = omega arith

rank_limit : (entries : List (List ℕ)) (cdhash : List ℕ) (k : ℕ) → rank entries cdhash k ≤ 2
unfolding rank
rank_limit entries cdhash k = index_limit (order (get_or entries k []) cdhash)

-- the order of a table goes over to how its entries compare
pub rank_rises : (entries : List (List ℕ)) (cdhash : List ℕ) → IsSorted order entries → (i j : ℕ) → i ≤ j → j < length entries → rank entries cdhash i ≤ rank entries cdhash j
unfolding rank
rank_rises entries cdhash table i j le lt = searchable_from_sorted nat_list_cmp_total (λ x. x) entries cdhash table i j [] le lt

pub halved_none : (entries : List (List ℕ)) (cdhash : List ℕ) → Halved entries cdhash 0 (length entries) None
halved_none entries cdhash = record {
  ordered = omega arith;
  within = omega arith;
  before = λ k lt. absurd (omega arith);
  behind = λ k le lt. absurd (omega arith);
}

pub halved_less : (entries : List (List ℕ)) (cdhash : List ℕ) (low high middle : ℕ) (found : Option ℕ) → IsSorted order entries → Halved entries cdhash low high found → middle < high → rank entries cdhash middle ≡ 0 → Halved entries cdhash (middle + 1) high found
halved_less entries cdhash low high middle found table known lt less = record {
  ordered = omega arith;
  within = known.within;
  before = λ k below. omega (arith, rank_rises entries cdhash table k middle (omega arith) (omega (arith, known.within)));
  behind = known.behind;
}

pub halved_same : (entries : List (List ℕ)) (cdhash : List ℕ) (low high middle : ℕ) (found : Option ℕ) → Halved entries cdhash low high found → low ≤ middle → middle < high → rank entries cdhash middle ≡ 1 → Halved entries cdhash low middle (Some middle)
halved_same entries cdhash low high middle found known le lt same = record {
  ordered = le;
  within = omega (arith, known.within);
  before = known.before;
  behind = (refl, omega (arith, known.within), same);
}

pub halved_greater : (entries : List (List ℕ)) (cdhash : List ℕ) (low high middle : ℕ) (found : Option ℕ) → IsSorted order entries → Halved entries cdhash low high found → low ≤ middle → middle < high → rank entries cdhash middle ≡ 2 → Halved entries cdhash low middle found
halved_greater entries cdhash low high middle None table known le lt greater = record {
  ordered = le;
  within = omega (arith, known.within);
  before = known.before;
  behind = λ k above below. omega (arith, rank_limit entries cdhash k, rank_rises entries cdhash table middle k above below);
}
halved_greater entries cdhash low high middle (Some place) table known le lt greater = absurd (omega (arith, known.behind.2, rank_rises entries cdhash table middle high (omega arith) known.behind.1))

-- an entry is the cdhash where it compares as the same
same-rank : (entries : List (List ℕ)) (cdhash : List ℕ) (k : ℕ) → is_same (get_or entries k []) cdhash ≡ eqb (rank entries cdhash k) 1
unfolding rank
same-rank entries cdhash k = lists_ties nat_cmp unsigned_ties (get_or entries k []) cdhash ∙ is_eq_index (order (get_or entries k []) cdhash)

-- an entry that compares otherwise is another
other : (entries : List (List ℕ)) (cdhash : List ℕ) (k : ℕ) → rank entries cdhash k ≢ 1 → is_same (get_or entries k []) cdhash ≡ false
other entries cdhash k differs = same-rank entries cdhash k ∙ ne_eqb (rank entries cdhash k) 1 differs

-- what is found once no place is left
pub halved_all : (entries : List (List ℕ)) (cdhash : List ℕ) (low high : ℕ) (found : Option ℕ) → Halved entries cdhash low high found → high ≤ low → found ≡ position (λ entry. is_same entry cdhash) entries
halved_all entries cdhash low high None known done =
    sym (position_none (λ entry. is_same entry cdhash) entries []
    (λ k lt. other entries cdhash k (⊎_elim (λ below. let less = known.before k below in λ same. omega arith) (λ above. let greater = known.behind k (omega (arith, known.ordered)) lt in λ same. omega arith) (cases_lt k low))))
halved_all entries cdhash low high (Some place) known done =
    let first : position (λ entry. is_same entry cdhash) entries ≡ Some high =
    position_is (λ entry. is_same entry cdhash) entries high [] known.behind.1
    (λ k lt. other entries cdhash k (let less = known.before k (omega (arith, known.ordered)) in λ same. omega arith))
    (same-rank entries cdhash high ∙ eq-eqb (rank entries cdhash high) 1 known.behind.2) in
    ap Some known.behind.0 ∙ sym first

-- Of n entries `width` are left after the steps from `before` to `now`.
pub record Costs (before now width n : ℕ) : Type 0 where
  pub later : before ≤ now
  pub halved : 2 ^ (now - before) * width ≤ n
  pub bounded : 2 ^ (now - before) ≤ 2 * n + 1
  pub counted : width < n → before < now

pub costs_none : (before n : ℕ) → Costs before before n n
costs_none before n =
    let none : before - before ≡ 0 = omega arith in
    record {
      later = omega arith;
      halved = rw none (omega arith);
      bounded = rw none (omega arith);
      counted = λ lt. absurd (omega arith);
    }

-- twice as many steps' worth of half of what was left
double : (power width less n : ℕ) → power * width ≤ n → 0 < width → 2 * less ≤ width → (2 * power * less ≤ n) × (2 * power ≤ 2 * n + 1)
double power width less n all some half =
    let least : power * 1 ≤ power * width = mul-le-mul_left power some in
    let halves : power * (2 * less) ≤ power * width = mul-le-mul_left power half in
    let same : 2 * power * less ≡ power * (2 * less) = ap (λ n. n * less) (mul_comm 2 power) ∙ mul_assoc power 2 less in
    (omega arith, omega arith)

pub costs_more : (before now width less n : ℕ) → Costs before now width n → 0 < width → 2 * less ≤ width → Costs before (now + 1) less n
costs_more before now width less n known some half =
    let one_more : (now + 1) - before ≡ suc (now - before) = omega (arith, known.later) in
    let twice : 2 ^ suc (now - before) ≡ 2 * 2 ^ (now - before) = pow-suc 2 (now - before) ∙ mul_comm (2 ^ (now - before)) 2 in
    let after = double (2 ^ (now - before)) width less n known.halved some half in
    record {
      later = omega (arith, known.later);
      halved = rw (one_more, twice) after.0;
      bounded = rw (one_more, twice) after.1;
      counted = λ lt. omega (arith, known.later);
    }

-- a number of steps, by what two to its power is below
pub few_steps : (most steps bound : ℕ) → 2 ^ steps ≤ bound → bound < 2 ^ (most + 1) → steps ≤ most
few_steps most steps bound within below =
    ⊎_elim (λ more. let above : 2 ^ (most + 1) ≤ 2 ^ steps = pow-le-pow_right (omega arith) (omega arith) in absurd (omega arith)) (λ le. le) (cases_lt most steps)

-- so many steps at most, where a trust cache has no more entries than that
pub at_most_17 : (steps n : ℕ) → 2 ^ steps ≤ 2 * n + 1 → n ≤ 65536 → steps ≤ 17
at_most_17 steps n bound limit = few_steps 17 steps (2 * n + 1) bound (omega arith)
