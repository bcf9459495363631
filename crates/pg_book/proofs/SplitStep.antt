-- The first view meets the rule, and a note keeps it.
use Rattle.std.proofs.Common.{◌≡◌, ℕ, zero, suc, ◌+◌, ◌<◌, ◌^◌, false, true≢false, List, [], ◌∷◌, ◌++◌, map, length, refl, sym, ap, ◌∙◌, subst, ⊎_elim, arith}
use mathlib.Core.Option.{some, some-injective, some-ne-none}
use lib.ListN.{get_elem?, length-replicate}
use Rattle.atomic_table.specs.Table.{Splits}
use Rattle.atomic_table.proofs.Lists.{at_longer, at_snoc, set_again}
use Rattle.pg_book.specs.declared.needs.Needs.{Needs}
use Rattle.pg_book.specs.declared.receipt.Receipt.{Receipt}
use Rattle.pg_book.specs.declared.view.Name.{Name}
use Rattle.pg_book.specs.declared.view.View.{View}
use Rattle.pg_book.specs.Needs.{parts_of, names_of, all_entries}
use Rattle.pg_book.specs.Lists.{Among, IsPrefix}
use Rattle.pg_book.specs.Views.{blank, name_at, list_at, Holds, Stands, IsListOf, Sound}
use Rattle.pg_book.specs.Kinds.{first, note, not_held}
use Rattle.pg_book.specs.Rule.{Truth, Fits, Kept}
use Rattle.pg_book.proofs.ListFacts.{prefix_nil}
use Rattle.pg_book.proofs.ViewFacts.{get_or-replicated, note_name, note_list, note_holds, due_stands}

pub none_held : (E : Type 0) (needs : List (List Needs)) (k : ℕ) → Holds (first {E = E} needs) k → ⊥
none_held E needs k h = true≢false (sym h ∙ ap (λ (n : Name E). n.held) (get_or-replicated (names_of needs) k blank))

module _ {E : Type 0} where
  -- a view of empty lists
  first_name : (needs : List (List Needs)) (k : ℕ) → name_at (first {E = E} needs) k ≡ blank
  first_name needs k = get_or-replicated (names_of needs) k blank

  pub first_list : (needs : List (List Needs)) (k : ℕ) → list_at (first {E = E} needs) k ≡ []
  first_list needs k = ap (λ (n : Name E). n.list) (first_name needs k)

  none_among : (needs : List (List Needs)) (k : ℕ) (r : Receipt E) → Among r (list_at (first {E = E} needs) k) → ⊥
  none_among needs k r a = subst (Among r) (first_list needs k) a

  pub first_sound : (needs : List (List Needs)) → all_entries needs < 2 ^ 63 → Sound (first {E = E} needs)
  first_sound needs small = record {
    live = refl;
    same_needs = refl;
    small = small;
    whole = length-replicate (names_of needs) blank;
    former = λ k. subst (λ (n : Name E). IsPrefix n.former n.list) (sym (first_name needs k)) (prefix_nil []);
    former_other = λ k. subst (λ (n : Name E). IsPrefix n.former_other n.list) (sym (first_name needs k)) (prefix_nil []);
    lists = λ k. subst (IsListOf needs 0 k) (sym (first_list needs k)) record { rising = tt; below = λ r a. absurd a; of_part = λ r h a. absurd a; callers = λ r h a. absurd a; within = λ c h. omega arith };
    callers = λ c r a. absurd (none_among needs _ r a);
    due = λ r e. absurd (cc);
    sent = λ r e. absurd (cc);
    settled = λ k r h held a. absurd (none_held E needs k held);
  }

  pub begins : (needs : List (List Needs)) → all_entries needs < 2 ^ 63 → Kept needs (0 ∷ 0 ∷ []) (first {E = E} needs ∷ [])
  begins needs small = record {
    truth = t;
    is = record {
      words_are = refl;
      few = omega arith;
      small = small;
      logged = record { numbered = tt; parts = λ r a. absurd a; callers = λ r a. absurd a; within = λ c p. omega arith };
      parts = λ k h. refl;
      empty = λ k h. refl;
      owned = λ k h. absurd (omega arith);
      fits = one;
    };
  }
    where
      t : Truth E
      t = record { log = []; registered = 0; own = λ k. []; owner = λ k. 0 }

      mine : Fits needs t 0 (first needs)
      mine = record {
        same = refl;
        floor = omega arith;
        registered = λ k h. absurd (none_held E needs k h);
        owner = λ k h. refl;
        own = λ k h. absurd (none_held E needs k h);
        known = λ k. subst (λ (l : List (Receipt E)). IsPrefix l []) (sym (first_list needs k)) (prefix_nil []);
        sound = first_sound needs small;
      }

      one : (seat : ℕ) (v : View E) → get_elem? (first {E = E} needs ∷ []) seat ≡ some v → v.spent ≡ false → Fits needs t seat v
      one zero v e live = subst (Fits needs t 0) (some-injective _ _ e) mine
      one (suc seat) v e live = absurd (some-ne-none v (sym e))

  pub note_sound : (v : View E) → Sound v → Sound (note v)
  note_sound v s = record {
    live = s.live;
    same_needs = refl;
    small = s.small;
    whole = length-not_held v.names ∙ s.whole;
    former = λ k. subst (λ (n : Name E). IsPrefix n.former n.list) (sym (note_name v k)) (prefix_nil _);
    former_other = λ k. subst (λ (n : Name E). IsPrefix n.former_other n.list) (sym (note_name v k)) (prefix_nil _);
    lists = λ k. subst (IsListOf v.needs v.floor k) (sym (note_list v k)) (s.lists k);
    callers = λ c r a. let k = s.callers c r (subst (Among r) (note_list v (parts_of v.needs + c)) a) in (k.0, stands r k.1);
    due = λ r e. absurd (cc);
    sent = λ r e. stands r (due_stands v r (s.due r e));
    settled = λ k r h held a. absurd (note_holds v k held);
  }
    where
      length-not_held : (names : List (Name E)) → length (map not_held names) ≡ length names
      length-not_held [] = refl
      length-not_held (x ∷ xs) = ap suc (length-not_held xs)

      stands : (r : Receipt E) → Stands v r → Stands (note v) r
      stands r h = record { part = h.part; there = subst (Among r) (sym (note_list v r.part)) h.there }

  note_fits : (needs : List (List Needs)) (t : Truth E) (seat other : ℕ) (v : View E) → Fits needs t seat v → Fits needs t other (note v)
  note_fits needs t seat other v f = record {
    same = f.same;
    floor = f.floor;
    registered = λ k h. absurd (note_holds v k h);
    owner = λ k h. absurd (note_holds v k h);
    own = λ k h. absurd (note_holds v k h);
    known = λ k. subst (λ (l : List (Receipt E)). IsPrefix l (t.own k)) (sym (note_list v k)) (f.known k);
    sound = note_sound v f.sound;
  }

  kept_note : (needs : List (List Needs)) (words : List ℕ) (views : List (View E)) (id : ℕ) (v : View E) → v.spent ≡ false → get_elem? views id ≡ some v → Kept needs words views → Kept needs words (views ++ note v ∷ [])
  kept_note needs words views id v live at h = record {
    truth = h.truth;
    is = record {
      words_are = h.is.words_are;
      few = h.is.few;
      small = h.is.small;
      logged = h.is.logged;
      parts = h.is.parts;
      empty = h.is.empty;
      owned = λ k lt. let o = h.is.owned k lt in record { view = o.view; there = at_longer views (note v ∷ []) _ _ o.there; live = o.live; holds = o.holds };
      fits = λ j x e alive. ⊎_elim
          (λ (was : get_elem? views j ≡ some x). h.is.fits j x was alive)
          (λ (same : note v ≡ x). subst (Fits needs h.truth j) same (note_fits needs h.truth id j v (h.is.fits id v at live)))
          (at_snoc views (note v) x j e);
    };
  }

  pub splits : (needs : List (List Needs)) (id : ℕ) (v : View E) → v.spent ≡ false → Splits {S = Unit {0}} (λ s. Kept needs s.words s.views) id v v (note v)
  splits needs id v live s h at = subst (λ (l : List (View E)). Kept needs s.words (l ++ note v ∷ [])) (sym (set_again s.views id v at)) (kept_note needs s.words s.views id v live at h)
