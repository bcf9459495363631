-- Draws as tests make them.
use Rattle.std.proofs.Common.{◌≡◌, ℕ, zero, suc, ◌+◌, ◌*◌, ◌<◌, ◌≤◌, Bool, true, false, cond, filter, List, [], ◌∷◌, ◌++◌, length, get_or, set, replicate, refl, sym, ap, ◌∙◌, subst, arith, eqb, length-append, length-set}
use lib.ListN.{length-replicate, get_or-replicate}
use Rattle.atomic_table.specs.Seated.{TableId}
use Rattle.pg_book.specs.declared.needs.Needs.{Needs}
use Rattle.pg_book.specs.declared.receipt.Receipt.{Receipt}
use Rattle.pg_book.specs.Needs.{parts_of, entries_at, row_entries, all_entries, nothing_needed}
use Rattle.pg_book.specs.Knowing.{HasRoom}
use Rattle.pg_book.specs.Models.{SpineOf, PassOf, BookOf, pass_receipts, IsSpineAt, IsPassAt}
use Rattle.pg_book.specs.Opening.{EachFrom, IsOpenable, IsOpened, IsNewSpine, IsNewPass}
use Rattle.pg_book.specs.Outcomes.{Draws}
use Rattle.pg_book.specs.Trials.{IsRun, HasRoomFor, IsDrawing, evenly}
use Rattle.pg_book.proofs.Placing.{each_map}

pub replicate_push : {A : Type 0} (n : ℕ) (a : A) → replicate n a ++ a ∷ [] ≡ replicate (n + 1) a
replicate_push zero a = refl
replicate_push (suc n) a =
    let e : suc (n + 1) ≡ suc n + 1 = omega arith in
    ap (λ l. a ∷ l) (replicate_push n a) ∙ ap (λ (k : ℕ). replicate k a) e

row_sum : (parts entries : ℕ) → parts ≤ 100 → entries ≤ 1000 → row_entries (replicate parts (evenly entries)) ≤ parts * 1000
row_sum zero entries a b = omega arith
row_sum (suc parts) entries a b = let k = row_sum parts entries (omega arith) b in omega arith

all_sum : (callers parts entries : ℕ) → parts ≤ 100 → entries ≤ 1000 → all_entries (replicate callers (replicate parts (evenly entries))) ≤ callers * 100000
all_sum zero parts entries a b = omega arith
all_sum (suc callers) parts entries a b = let k = all_sum callers parts entries a b in let r = row_sum parts entries a b in omega arith

pub openable : (callers parts entries : ℕ) → 0 < callers → callers ≤ 100 → parts ≤ 100 → entries ≤ 1000 → (needs : List (List Needs)) → needs ≡ replicate callers (replicate parts (evenly entries)) → IsOpenable needs × HasRoomFor needs entries
openable zero parts entries some few b d needs is = absurd (omega arith)
openable (suc callers) parts entries some few b d needs is = subst (λ (n : List (List Needs)). IsOpenable n × HasRoomFor n entries) (sym is) (ok, room)
  where
    first : parts_of (replicate (suc callers) (replicate parts (evenly entries))) ≡ parts
    first = length-replicate parts (evenly entries)

    many : length (replicate (suc callers) (replicate parts (evenly entries))) ≡ suc callers
    many = length-replicate (suc callers) (replicate parts (evenly entries))

    ok : IsOpenable (replicate (suc callers) (replicate parts (evenly entries)))
    ok = record {
      caller = omega (arith, many);
      callers = omega (arith, many);
      parts = omega (arith, first);
      even = λ k r lt. ap length (get_or-replicate (suc callers) k (replicate parts (evenly entries)) r (omega (arith, many)));
      entries = let k = all_sum (suc callers) parts entries b d in omega arith;
    }

    room : HasRoomFor (replicate (suc callers) (replicate parts (evenly entries))) entries
    room caller part lt lp =
        let a = get_or-replicate (suc callers) caller (replicate parts (evenly entries)) [] (omega (arith, many)) in
        let e = get_or-replicate parts part (evenly entries) nothing_needed (omega (arith, first)) in
        let f : entries_at (replicate (suc callers) (replicate parts (evenly entries))) caller part ≡ entries = ap (λ row. (get_or row part nothing_needed).entries) a ∙ ap (λ (n : Needs). n.entries) e in
        omega (arith, f)

module _ {A : Type 0} where
  pub each_index : (P : ℕ → A → Type 0) (n i : ℕ) (xs : List A) (d : A) → EachFrom P n xs → i < length xs → P (n + i) (get_or xs i d)
  each_index P n i [] d h lt = absurd (omega arith)
  each_index P n zero (x ∷ xs) d h lt = subst (λ (k : ℕ). P k x) (omega arith) h.0
  each_index P n (suc i) (x ∷ xs) d h lt = subst (λ (k : ℕ). P k (get_or xs i d)) (omega arith) (each_index P (suc n) i xs d h.1 (omega arith))

  pub each_set : (P : ℕ → A → Type 0) (n i : ℕ) (xs : List A) (y : A) → EachFrom P n xs → P (n + i) y → EachFrom P n (set xs i y)
  each_set P n i [] y h p = tt
  each_set P n zero (x ∷ xs) y h p = (subst (λ (k : ℕ). P k y) (omega arith) p, h.1)
  each_set P n (suc i) (x ∷ xs) y h p = (h.0, each_set P (suc n) i xs y h.1 (subst (λ (k : ℕ). P k y) (omega arith) p))

length-filter_le : {A : Type 0} (test : A → Bool) (xs : List A) → length (filter test xs) ≤ length xs
length-filter_le test [] = omega arith
length-filter_le test (x ∷ xs) = pick (test x) (length-filter_le test xs)
  where
    pick : (b : Bool) → length (filter test xs) ≤ length xs → length (cond b (x ∷ filter test xs) (filter test xs)) ≤ suc (length xs)
    pick true h = omega arith
    pick false h = omega arith

module _ {E : Type 0} where
  pub run_begins : (needs : List (List Needs)) (book : BookOf E) (spines : List (SpineOf E)) (passes : List (PassOf E)) → IsOpened needs book spines passes → IsRun book 0 spines passes
  run_begins needs book spines passes o = record {
    spines_are = record { count = o.spine_count ∙ ap parts_of (sym o.knows.needs_are); each = each_map (IsNewSpine needs book.book) (IsSpineAt book.book) 0 spines (λ k s x. x.place) o.spines_are };
    passes_are = record { count = o.pass_count ∙ ap length (sym o.knows.needs_are); each = each_map (IsNewPass needs book.book) (IsPassAt book.book) 0 passes (λ k s x. x.place) o.passes_are };
    drawn = each_map (IsNewPass needs book.book) (λ c p. (p.view.needs ≡ book.view.needs) × (length (pass_receipts p) ≤ 0)) 0 passes (λ k p x. (x.view.needs_are ∙ sym o.knows.needs_are, (let a = ap length (x.view.lists (parts_of p.view.needs + p.caller)) in omega arith))) o.passes_are;
  }

  module _ (book : BookOf E) (used : ℕ) (spines : List (SpineOf E)) (passes : List (PassOf E)) (run : IsRun book used spines passes) (room : HasRoomFor book.view.needs (used + 1)) (part caller : ℕ) (in_parts : part < length spines) (in_callers : caller < length passes) (s : SpineOf E) (p : PassOf E) (is_s : s ≡ get_or spines part s) (is_p : p ≡ get_or passes caller p) where
    at_part : IsSpineAt book.book part s
    at_part = subst (λ (x : SpineOf E). IsSpineAt book.book part x) (sym is_s) (subst (λ (k : ℕ). IsSpineAt book.book k (get_or spines part s)) (omega arith) (each_index (IsSpineAt book.book) 0 part spines s run.spines_are.each in_parts))

    at_caller : IsPassAt book.book caller p
    at_caller = subst (λ (x : PassOf E). IsPassAt book.book caller x) (sym is_p) (subst (λ (k : ℕ). IsPassAt book.book k (get_or passes caller p)) (omega arith) (each_index (IsPassAt book.book) 0 caller passes p run.passes_are.each in_callers))

    few : (p.view.needs ≡ book.view.needs) × (length (pass_receipts p) ≤ used)
    few = subst (λ (x : PassOf E). (x.view.needs ≡ book.view.needs) × (length (pass_receipts x) ≤ used)) (sym is_p) (each_index (λ c x. (x.view.needs ≡ book.view.needs) × (length (pass_receipts x) ≤ used)) 0 caller passes p run.drawn in_callers)

    pub same_book : s.book ≡ p.book
    same_book = at_part.same_book ∙ sym at_caller.same_book

    pub may_run : HasRoom s.part p.caller p.view
    may_run =
        let a = room caller part (omega (arith, run.passes_are.count)) (omega (arith, run.spines_are.count)) in
        let b : used + 1 ≤ entries_at p.view.needs p.caller s.part = subst (λ (x : List (List Needs) × (ℕ × ℕ)). used + 1 ≤ entries_at x.0 x.1.0 x.1.1) (λ i. (sym few.0 i, (sym at_caller.is_caller i, sym at_part.is_part i))) a in
        let c = length-filter_le (λ (r : Receipt E). eqb r.part s.part) (pass_receipts p) in
        let d = few.1 in
        omega arith

    pub runs_on : (entry : E) (r : Receipt E) (s' : SpineOf E) (p' : PassOf E) → Draws s p entry r s' p' → IsRun book (used + 1) (set spines part s') (set passes caller p')
    runs_on entry r s' p' d = record {
      spines_are = record { count = length-set spines part s' ∙ run.spines_are.count; each = each_set (IsSpineAt book.book) 0 part spines s' run.spines_are.each record { same_book = d.same_books.0 ∙ at_part.same_book; is_part = d.same_part ∙ at_part.is_part ∙ omega arith } };
      passes_are = record { count = length-set passes caller p' ∙ run.passes_are.count; each = each_set (IsPassAt book.book) 0 caller passes p' run.passes_are.each record { same_book = d.same_books.1 ∙ at_caller.same_book; is_caller = d.same_caller ∙ at_caller.is_caller ∙ omega arith } };
      drawn = each_set (λ c x. (x.view.needs ≡ book.view.needs) × (length (pass_receipts x) ≤ used + 1)) 0 caller passes p'
          (each_map (λ c x. (x.view.needs ≡ book.view.needs) × (length (pass_receipts x) ≤ used)) (λ c x. (x.view.needs ≡ book.view.needs) × (length (pass_receipts x) ≤ used + 1)) 0 passes (λ k x y. (y.0, (let l = y.1 in omega arith))) run.drawn)
          (d.pass_kept.needs ∙ few.0, (let l = few.1 in let e = ap length d.pass_list in omega (arith, length-append (pass_receipts p) (r ∷ []))));
    }

  module _ (book : TableId) (number : ℕ) (small : number < 100) (s : SpineOf E) (p : PassOf E) (first : IsSpineAt book 0 s) (d : IsDrawing book 100 number p) where
    pub may_draw : HasRoom s.part p.caller p.view
    may_draw =
        let a : 100 ≤ entries_at p.view.needs p.caller s.part = subst (λ (k : ℕ). 100 ≤ entries_at p.view.needs p.caller k) (sym first.is_part) d.room in
        let b = length-filter_le (λ (r : Receipt E). eqb r.part s.part) (pass_receipts p) in
        let c = d.few in
        let lt = small in
        omega arith

    pub draws_on : (entry : E) (r : Receipt E) (s' : SpineOf E) (p' : PassOf E) → Draws s p entry r s' p' → IsDrawing book 100 (number + 1) p'
    draws_on entry r s' p' drew = record {
      same_book = drew.same_books.1 ∙ d.same_book;
      room = subst (λ (x : List (List Needs) × ℕ). 100 ≤ entries_at x.0 x.1 0) (λ i. (sym drew.pass_kept.needs i, sym drew.same_caller i)) d.room;
      few = let l = d.few in let e = ap length drew.pass_list in omega (arith, length-append (pass_receipts p) (r ∷ []));
    }
