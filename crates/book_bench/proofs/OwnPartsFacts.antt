-- Needs of callers on the parts of their own numbers alone: a book can be opened for them, and each caller may draw.
use Rattle.std.proofs.Common.{◌≡◌, ℕ, zero, suc, ◌+◌, ◌*◌, ◌^◌, ◌<◌, ◌≤◌, Bool, true, false, cond, eqb, List, [], length, map, get_or, refl, sym, ap, ◌∙◌, arith}
use Rattle.std.specs.List.{range_with_len}
use Rattle.std.proofs.lemmas.Bool.{eqb-true, eq-eqb, ne_eqb}
use Rattle.std.proofs.lemmas.List.FromFn.{length-map-range_with_len, get_or-map-range_with_len}
use Rattle.pg_book.specs.declared.needs.Needs.{Needs}
use Rattle.pg_book.specs.Needs.{parts_of, names_of, entries_at, row_entries, all_entries, nothing_needed}
use Rattle.pg_book.specs.Opening.{IsOpenable}
use Rattle.book_bench.specs.OwnParts.{own_needs, own_row, own_table}

module _ (draws : ℕ) where
  row_none : (caller a n : ℕ) → caller < a → row_entries (map (own_needs draws caller) (range_with_len a n)) ≡ 0
  row_none caller a zero lt = refl
  row_none caller a (suc n) lt =
      let other : eqb a caller ≡ false = ne_eqb a caller (λ e. omega arith) in
      ap (λ (b : Bool). cond b draws 0 + row_entries (map (own_needs draws caller) (range_with_len (a + 1) n))) other ∙ (let k = row_none caller (a + 1) n (omega arith) in omega arith)

  row_one : (caller a n : ℕ) → row_entries (map (own_needs draws caller) (range_with_len a n)) ≤ draws
  row_one caller a zero = omega arith
  row_one caller a (suc n) = pick (eqb a caller) refl (row_one caller (a + 1) n)
    where
      pick : (b : Bool) → eqb a caller ≡ b → row_entries (map (own_needs draws caller) (range_with_len (a + 1) n)) ≤ draws → cond b draws 0 + row_entries (map (own_needs draws caller) (range_with_len (a + 1) n)) ≤ draws
      pick true e h = let is = eqb-true a caller e in let k = row_none caller (a + 1) n (omega arith) in omega arith
      pick false e h = omega arith

  table_entries : (callers a n : ℕ) → all_entries (map (own_row callers draws) (range_with_len a n)) ≤ n * draws
  table_entries callers a zero = omega arith
  table_entries callers a (suc n) = let k = table_entries callers (a + 1) n in let r = row_one a 0 callers in omega arith

  pub own_parts : (callers : ℕ) → parts_of (own_table callers draws) ≡ callers
  own_parts zero = refl
  own_parts (suc n) = length-map-range_with_len (own_needs draws 0) 0 (suc n)

  pub own_callers : (callers : ℕ) → length (own_table callers draws) ≡ callers
  own_callers callers = length-map-range_with_len (own_row callers draws) 0 callers

  pub own_names : (callers : ℕ) → names_of (own_table callers draws) ≡ callers + callers
  own_names callers = omega (arith, own_parts callers, own_callers callers)

  pub openable : (callers : ℕ) → 0 < callers → callers < 2 ^ 32 → callers * draws < 2 ^ 63 → IsOpenable (own_table callers draws)
  openable callers some few small = record {
    caller = omega (arith, own_callers callers);
    callers = omega (arith, own_callers callers);
    parts = omega (arith, own_parts callers);
    even = λ k d lt. ap length (get_or-map-range_with_len (own_row callers draws) 0 callers k k d (omega (arith, own_callers callers)) (omega arith)) ∙ length-map-range_with_len (own_needs draws k) 0 callers ∙ sym (own_parts callers);
    entries = let k = table_entries callers 0 callers in omega arith;
  }

  pub own_entries : (callers caller : ℕ) → caller < callers → entries_at (own_table callers draws) caller caller ≡ draws
  own_entries callers caller lt =
      ap (λ (row : List Needs). (get_or row caller nothing_needed).entries) (get_or-map-range_with_len (own_row callers draws) 0 callers caller caller [] lt (omega arith))
      ∙ ap (λ (n : Needs). n.entries) (get_or-map-range_with_len (own_needs draws caller) 0 callers caller caller nothing_needed lt (omega arith))
      ∙ ap (λ (b : Bool). cond b draws 0) (eq-eqb caller caller refl)
