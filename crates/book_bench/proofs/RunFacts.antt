-- The hands of a book that was just opened, and of one that is closed after their draws.
use Rattle.std.proofs.Common.{◌≡◌, ℕ, suc, ◌+◌, ◌*◌, ◌<◌, ◌≤◌, List, [], ◌∷◌, ◌++◌, length, map, refl, sym, ap, ◌∙◌, subst, arith, length-append}
use Rattle.std.specs.Prelude.{All}
use Rattle.std.specs.List.{AllZip, zip, range_with_len}
use Rattle.std.proofs.lemmas.List.{length-map}
use Rattle.std.proofs.lemmas.List.Elements.{length_all_zip}
use Rattle.std.proofs.lemmas.List.FromFn.{length-range_with_len}
use Rattle.atomic_table.specs.Seated.{TableId}
use Rattle.pg_book.specs.declared.needs.Needs.{Needs}
use Rattle.pg_book.specs.declared.receipt.Receipt.{Receipt}
use Rattle.pg_book.specs.declared.receipt.Stamped.{Stamped}
use Rattle.pg_book.specs.Needs.{parts_of, entries_at}
use Rattle.pg_book.specs.Lists.{of_part}
use Rattle.pg_book.specs.Models.{SpineOf, PassOf, BookOf, spine_receipts, pass_receipts, IsSpineAt, IsPassAt}
use Rattle.pg_book.specs.Opening.{EachFrom, IsOpened, IsNewSpine, IsNewPass}
use Rattle.pg_book.specs.Closing.{stamped, flat, AreSpinesOf, ArePassesOf, IsHistory}
use Rattle.pg_book.proofs.Placing.{each_map, each_all}
use Rattle.pg_book.proofs.Closings.{each_both, each_get, each_unmap}
use Rattle.book_bench.specs.declared.hand.Hand.{Hand}
use Rattle.book_bench.specs.Hands.{hand_of, CanDraw, DrewAll}
use Rattle.book_bench.specs.OwnParts.{own_table}
use Rattle.book_bench.specs.Runs.{IsReadyHand, IsReady, IsRunHistory, by_caller, on_part}
use Rattle.book_bench.proofs.OwnPartsFacts.{own_parts, own_callers, own_entries}
use Rattle.book_bench.proofs.ListFacts.{each_mapped}

length-zip : {A B : Type 0} (xs : List A) (ys : List B) → length xs ≡ length ys → length (zip xs ys) ≡ length xs
length-zip [] ys e = refl
length-zip (x ∷ xs) [] e = absurd (omega arith)
length-zip (x ∷ xs) (y ∷ ys) e = ap suc (length-zip xs ys (omega arith))

module _ (callers draws : ℕ) (book : TableId) where
  ready_hand : (k : ℕ) (s : SpineOf ℕ) (p : PassOf ℕ) → k < callers → IsNewSpine (own_table callers draws) book k s → IsNewPass (own_table callers draws) book k p → IsReadyHand draws book k record { spine = s; pass = p }
  ready_hand k s p lt news newp = record {
    spine = news.place;
    pass = newp.place;
    no_entries = news.view.lists s.part;
    no_draws = none;
    can_draw = record { same_book = news.place.same_book ∙ sym newp.place.same_book; room = room };
  }
    where
      none : pass_receipts p ≡ []
      none = newp.view.lists (parts_of p.view.needs + p.caller)

      enough : draws ≤ entries_at p.view.needs p.caller s.part
      enough =
          let e = own_entries draws callers k lt in
          let own : draws ≤ entries_at (own_table callers draws) k k = omega arith in
          subst (λ (x : List (List Needs) × (ℕ × ℕ)). draws ≤ entries_at x.0 x.1.0 x.1.1) (λ i. (sym newp.view.needs_are i, (sym newp.place.is_caller i, sym news.place.is_part i))) own

      room : length (of_part s.part (pass_receipts p)) + draws ≤ entries_at p.view.needs p.caller s.part
      room = let e : length (of_part s.part (pass_receipts p)) ≡ 0 = ap (λ l. length (of_part s.part l)) none in let h = enough in omega arith

  ready_hands : (n : ℕ) (ss : List (SpineOf ℕ)) (ps : List (PassOf ℕ)) → length ss ≡ length ps → n + length ss ≤ callers → EachFrom (IsNewSpine (own_table callers draws) book) n ss → EachFrom (IsNewPass (own_table callers draws) book) n ps → EachFrom (IsReadyHand draws book) n (map hand_of (zip ss ps))
  ready_hands n [] ps same within news newp = tt
  ready_hands n (s ∷ ss) [] same within news newp = absurd (omega arith)
  ready_hands n (s ∷ ss) (p ∷ ps) same within news newp = (ready_hand n s p (omega arith) news.0 newp.0, ready_hands (suc n) ss ps (omega arith) (omega arith) news.1 newp.1)

pub is_ready : (callers draws : ℕ) (book : BookOf ℕ) (spines : List (SpineOf ℕ)) (passes : List (PassOf ℕ)) → IsOpened (own_table callers draws) book spines passes → IsReady callers draws book (map hand_of (zip spines passes))
is_ready callers draws book spines passes o =
    let ss : length spines ≡ callers = o.spine_count ∙ own_parts draws callers in
    let ps : length passes ≡ callers = o.pass_count ∙ own_callers draws callers in
    record {
      part_count = ap parts_of o.knows.needs_are ∙ own_parts draws callers;
      caller_count = ap length o.knows.needs_are ∙ own_callers draws callers;
      hand_count = length-map (zip spines passes) hand_of ∙ length-zip spines passes (ss ∙ sym ps) ∙ ss;
      each = ready_hands callers draws book.book 0 spines passes (ss ∙ sym ps) (omega arith) o.spines_are o.passes_are;
    }

pub can_draw : (callers draws : ℕ) (book : BookOf ℕ) (hands : List Hand) → IsReady callers draws book hands → All (CanDraw draws) hands
can_draw callers draws book hands ready = each_all (IsReadyHand draws book.book) (CanDraw draws) 0 hands (λ k h r. r.can_draw) ready.each

-- The hand has the book's caller and part of this number. The caller drew the numbers from 0 on, so many, and the part has its draws and no others
record IsDrawnHand (draws : ℕ) (book : TableId) (number : ℕ) (hand : Hand) : Type 0 where
  spine : IsSpineAt book number hand.spine
  pass : IsPassAt book number hand.pass
  own_part : spine_receipts hand.spine ≡ pass_receipts hand.pass
  numbers : map (λ (r : Receipt ℕ). r.entry) (pass_receipts hand.pass) ≡ range_with_len 0 draws

drawn_hand : (book : TableId) (draws k : ℕ) (before after : Hand) → IsReadyHand draws book k before → DrewAll draws before after → IsDrawnHand draws book k after
drawn_hand book draws k before after r d = record {
  spine = record { same_book = d.same_books.0 ∙ r.spine.same_book; is_part = d.same_part ∙ r.spine.is_part };
  pass = record { same_book = d.same_books.1 ∙ r.pass.same_book; is_caller = d.same_caller ∙ r.pass.is_caller };
  own_part = d.spine_list ∙ ap (λ l. l ++ d.drawn) (r.no_entries ∙ sym r.no_draws) ∙ sym d.pass_list;
  numbers = ap (map (λ (x : Receipt ℕ). x.entry)) (d.pass_list ∙ ap (λ l. l ++ d.drawn) r.no_draws) ∙ d.numbers;
}

drawn_hands : (book : TableId) (draws n : ℕ) (xs ys : List Hand) → EachFrom (IsReadyHand draws book) n xs → AllZip (DrewAll draws) xs ys → EachFrom (IsDrawnHand draws book) n ys
drawn_hands book draws n [] [] h z = tt
drawn_hands book draws n [] (y ∷ ys) h z = absurd z
drawn_hands book draws n (x ∷ xs) [] h z = absurd z
drawn_hands book draws n (x ∷ xs) (y ∷ ys) h z = (drawn_hand book draws n x y h.0 z.0, drawn_hands book draws (suc n) xs ys h.1 z.1)

entries_drawn : (book : TableId) (draws n : ℕ) (hands : List Hand) → EachFrom (IsDrawnHand draws book) n hands → length (flat (map (λ (h : Hand). h.spine) hands)) ≡ length hands * draws
entries_drawn book draws n [] h = omega arith
entries_drawn book draws n (x ∷ xs) h =
    let own : length (spine_receipts x.spine) ≡ draws = ap length h.0.own_part ∙ sym (length-map (pass_receipts x.pass) (λ (r : Receipt ℕ). r.entry)) ∙ ap length h.0.numbers ∙ length-range_with_len 0 draws in
    let rest = entries_drawn book draws (suc n) xs h.1 in
    omega (arith, length-append (spine_receipts x.spine) (flat (map (λ (h : Hand). h.spine) xs)))

entries_stamped : (rs : List (Receipt ℕ)) → map (λ (e : Stamped ℕ). e.entry) (map stamped rs) ≡ map (λ (r : Receipt ℕ). r.entry) rs
entries_stamped [] = refl
entries_stamped (r ∷ rs) = ap (λ l. r.entry ∷ l) (entries_stamped rs)

module _ (callers draws : ℕ) (book : BookOf ℕ) (before after : List Hand) (ready : IsReady callers draws book before) (drew : AllZip (DrewAll draws) before after) where
  drawn : EachFrom (IsDrawnHand draws book.book) 0 after
  drawn = drawn_hands book.book draws 0 before after ready.each drew

  count : length after ≡ callers
  count = sym (length_all_zip (DrewAll draws) before after drew) ∙ ready.hand_count

  pub spines_are : AreSpinesOf book (map (λ (h : Hand). h.spine) after)
  spines_are = record {
    count = length-map after (λ (h : Hand). h.spine) ∙ count ∙ sym ready.part_count;
    each = each_mapped (IsSpineAt book.book) (λ (h : Hand). h.spine) 0 after (each_map (IsDrawnHand draws book.book) (λ k h. IsSpineAt book.book k h.spine) 0 after (λ k h x. x.spine) drawn);
  }

  pub passes_are : ArePassesOf book (map (λ (h : Hand). h.pass) after)
  passes_are = record {
    count = length-map after (λ (h : Hand). h.pass) ∙ count ∙ sym ready.caller_count;
    each = each_mapped (IsPassAt book.book) (λ (h : Hand). h.pass) 0 after (each_map (IsDrawnHand draws book.book) (λ k h. IsPassAt book.book k h.pass) 0 after (λ k h x. x.pass) drawn);
  }

  module _ (history : List (Stamped ℕ)) (is : IsHistory (map (λ (h : Hand). h.spine) after) (map (λ (h : Hand). h.pass) after) history) where
    -- what is known of each hand and its number
    each : EachFrom (λ k (h : Hand). (IsDrawnHand draws book.book k h) × ((on_part k history ≡ map stamped (spine_receipts h.spine)) × (by_caller k history ≡ map stamped (pass_receipts h.pass)))) 0 after
    each = each_both _ _ 0 after drawn (each_both _ _ 0 after
        (each_unmap (λ (h : Hand). h.spine) (λ part (s : SpineOf ℕ). on_part part history ≡ map stamped (spine_receipts s)) 0 after is.of_spines)
        (each_unmap (λ (h : Hand). h.pass) (λ caller (p : PassOf ℕ). by_caller caller history ≡ map stamped (pass_receipts p)) 0 after is.of_passes))

    pub is_run_history : IsRunHistory callers draws history
    is_run_history = record {
      count = is.count ∙ entries_drawn book.book draws 0 after drawn ∙ ap (λ (n : ℕ). n * draws) count;
      stamps = is.stamps;
      of_callers = λ k e at. let lt = (is.of_book k e at).1 in omega (arith, length-map after (λ (h : Hand). h.pass), count);
      numbers = λ k lt. let x = (each_get _ 0 k after (omega arith) (omega (arith, count)) each).1 in ap (map (λ (e : Stamped ℕ). e.entry)) x.1.1 ∙ entries_stamped _ ∙ x.0.numbers;
      own_parts = λ k lt. let x = (each_get _ 0 k after (omega arith) (omega (arith, count)) each).1 in x.1.0 ∙ ap (map stamped) x.0.own_part ∙ sym x.1.1;
    }
