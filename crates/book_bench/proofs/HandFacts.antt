-- The draws of one hand.
use Rattle.std.proofs.Common.{◌≡◌, ℕ, zero, suc, ◌+◌, ◌<◌, ◌≤◌, eqb, List, [], ◌∷◌, ◌++◌, length, sym, ap, ◌∙◌, subst, arith, append_assoc, length-append}
use Rattle.std.specs.List.{range_with_len}
use Rattle.std.proofs.lemmas.List.{map-append, length-map}
use Rattle.std.proofs.lemmas.List.Elements.{filter-append}
use Rattle.std.proofs.lemmas.List.FromFn.{length-range_with_len}
use Rattle.std.proofs.lemmas.List.Sums.{length-filter, count_by-le-length}
use Rattle.pg_book.specs.declared.needs.Needs.{Needs}
use Rattle.pg_book.specs.declared.receipt.Receipt.{Receipt}
use Rattle.pg_book.specs.Needs.{entries_at}
use Rattle.pg_book.specs.Lists.{of_part}
use Rattle.pg_book.specs.Models.{SpineOf, PassOf, pass_receipts}
use Rattle.pg_book.specs.Knowing.{HasRoom}
use Rattle.pg_book.specs.Outcomes.{Draws}
use Rattle.book_bench.specs.declared.hand.Hand.{Hand}
use Rattle.book_bench.specs.Hands.{CanDraw, DrewAll}

pub range_push : (a n : ℕ) → range_with_len a n ++ (a + n) ∷ [] ≡ range_with_len a (n + 1)
range_push a zero = ap (λ (k : ℕ). k ∷ []) (omega arith)
range_push a (suc n) =
    let e : a + suc n ≡ (a + 1) + n = omega arith in
    let f : suc (n + 1) ≡ suc n + 1 = omega arith in
    ap (λ (k : ℕ). a ∷ (range_with_len (a + 1) n ++ k ∷ [])) e ∙ ap (λ l. a ∷ l) (range_push (a + 1) n) ∙ ap (λ (k : ℕ). range_with_len a k) f

module _ (hand : Hand) (number : ℕ) (now : Hand) (so_far : DrewAll number hand now) where
  pub may_draw : (draws : ℕ) → number < draws → CanDraw draws hand → HasRoom now.spine.part now.pass.caller now.pass.view
  may_draw draws below can =
      let room = can.room in
      let count : length so_far.drawn ≡ number = sym (length-map so_far.drawn (λ (r : Receipt ℕ). r.entry)) ∙ ap length so_far.numbers ∙ length-range_with_len 0 number in
      let all : of_part hand.spine.part (pass_receipts now.pass) ≡ of_part hand.spine.part (pass_receipts hand.pass) ++ of_part hand.spine.part so_far.drawn = ap (of_part hand.spine.part) so_far.pass_list ∙ filter-append _ (pass_receipts hand.pass) so_far.drawn in
      let few : length (of_part hand.spine.part so_far.drawn) ≤ length so_far.drawn = omega (arith, length-filter (λ (r : Receipt ℕ). eqb r.part hand.spine.part) so_far.drawn, count_by-le-length (λ (r : Receipt ℕ). eqb r.part hand.spine.part) so_far.drawn) in
      let enough : length (of_part hand.spine.part (pass_receipts now.pass)) < entries_at hand.pass.view.needs hand.pass.caller hand.spine.part = omega (arith, ap length all, length-append (of_part hand.spine.part (pass_receipts hand.pass)) (of_part hand.spine.part so_far.drawn)) in
      subst (λ (x : ℕ × (ℕ × List (List Needs))). length (of_part x.0 (pass_receipts now.pass)) < entries_at x.1.1 x.1.0 x.0) (λ i. (sym so_far.same_part i, (sym so_far.same_caller i, sym so_far.same_needs i))) enough

  pub draws_on : (r : Receipt ℕ) (s' : SpineOf ℕ) (p' : PassOf ℕ) → Draws now.spine now.pass number r s' p' → DrewAll (number + 1) hand record { spine = s'; pass = p' }
  draws_on r s' p' d = record {
    same_books = (d.same_books.0 ∙ so_far.same_books.0, d.same_books.1 ∙ so_far.same_books.1);
    same_part = d.same_part ∙ so_far.same_part;
    same_caller = d.same_caller ∙ so_far.same_caller;
    same_needs = d.pass_kept.needs ∙ so_far.same_needs;
    drawn = so_far.drawn ++ r ∷ [];
    numbers = map-append (λ (x : Receipt ℕ). x.entry) so_far.drawn (r ∷ []) ∙ ap (λ l. l ++ r.entry ∷ []) so_far.numbers ∙ ap (λ (k : ℕ). range_with_len 0 number ++ k ∷ []) (let e = d.entered in omega arith) ∙ range_push 0 number;
    spine_list = d.spine_list ∙ ap (λ l. l ++ r ∷ []) so_far.spine_list ∙ append_assoc _ so_far.drawn (r ∷ []);
    pass_list = d.pass_list ∙ ap (λ l. l ++ r ∷ []) so_far.pass_list ∙ append_assoc _ so_far.drawn (r ∷ []);
  }
