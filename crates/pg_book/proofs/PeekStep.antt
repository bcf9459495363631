-- A peek keeps the rule, and tells what it says of the view.
use Rattle.std.proofs.Common.{◌≡◌, ℕ, ◌<◌, ◌≤◌, false, List, length, refl, sym, ap, ◌∙◌, subst, le_of_eq, lt_of_lt_of_le, eqb}
use Rattle.std.specs.Prelude.{slice_index, slice_set}
use mathlib.Core.Option.{none}
use Rattle.atomic_table.specs.Table.{Me, step, Allows, keeps}
use Rattle.pg_book.specs.declared.needs.Needs.{Needs}
use Rattle.pg_book.specs.declared.view.View.{View}
use Rattle.pg_book.specs.Needs.{parts_of}
use Rattle.pg_book.specs.Lists.{Among, IsLog}
use Rattle.pg_book.specs.Views.{Sound}
use Rattle.pg_book.specs.Kinds.{looked}
use Rattle.pg_book.specs.Rule.{Truth, Fits, IsTruth, Kept}
use Rattle.pg_book.specs.Tells.{Sees, Looked}
use Rattle.pg_book.proofs.ListFacts.{prefix_among, among_filter}
use Rattle.pg_book.proofs.KeptFacts.{fits_set, held_set}

module _ {E : Type 0} where
  -- the same view with a floor that is no lower
  pub looked_sound : (v : View E) (n : ℕ) → v.floor ≤ n → Sound v → Sound (looked v n)
  looked_sound v n le s = record {
    live = s.live;
    same_needs = s.same_needs;
    small = s.small;
    whole = s.whole;
    former = s.former;
    former_other = s.former_other;
    lists = λ k. let l = s.lists k in record { rising = l.rising; below = λ r a. lt_of_lt_of_le (l.below r a) le; of_part = l.of_part; callers = l.callers; within = l.within };
    callers = λ c r a. let k = s.callers c r a in (k.0, record { part = k.1.part; there = k.1.there });
    due = λ r e. let d = s.due r e in record { part = d.part; held = d.held; before = d.before; last = d.last };
    sent = λ r e. let d = s.sent r e in record { part = d.part; there = d.there };
    settled = s.settled;
  }

  looked_fits : (needs : List (List Needs)) (t : Truth E) (id : ℕ) (v : View E) → Fits needs t id v → Fits needs t id (looked v (length t.log))
  looked_fits needs t id v f = record {
    same = f.same;
    floor = le_of_eq refl;
    registered = f.registered;
    owner = f.owner;
    own = f.own;
    known = f.known;
    sound = looked_sound v (length t.log) f.floor f.sound;
  }

  sees : (needs : List (List Needs)) (words : List ℕ) (views : List (View E)) (t : Truth E) (id : ℕ) (v : View E) → IsTruth needs words views t → Fits needs t id v → Sees (looked v (length t.log))
  sees needs words views t id v h f = record {
    log = t.log;
    logged = subst (λ (n : List (List Needs)). IsLog n t.log) (sym f.same) h.logged;
    floor = refl;
    parts = λ k lt held. f.own k held ∙ h.parts k (subst (λ (n : List (List Needs)). k < parts_of n) f.same lt);
    known = λ k r lt a. (among_filter (λ s. eqb s.part k) r t.log (subst (Among r) (h.parts k (subst (λ (n : List (List Needs)). k < parts_of n) f.same lt)) (prefix_among r _ _ (f.known k) a))).0;
  }

  pub looks : (needs : List (List Needs)) (slots id : ℕ) (me : Me (Unit {0}) (View E)) → me.0.spent ≡ false → Allows (λ s. Kept needs s.words s.views) slots id me 0 (λ n. n) (Looked (step slots 0 0 0 none) me)
  looks needs slots id me live s h len at lt =
      let found = slice_index s.words 0 in
      let n : found ≡ length h.truth.log = ap (λ (ws : List ℕ). slice_index ws 0) h.is.words_are in
      let f = h.is.fits id me.0 at live in
      let fits' : Fits needs h.truth id (looked me.0 found) = subst (λ (k : ℕ). Fits needs h.truth id (looked me.0 k)) (sym n) (looked_fits needs h.truth id me.0 f) in
      let told : Sees (looked me.0 found) = subst (λ (k : ℕ). Sees (looked me.0 k)) (sym n) (sees needs s.words s.views h.truth id me.0 h.is f) in (
        looked me.0 found,
        keeps,
        tt,
        record {
          truth = h.truth;
          is = record {
            words_are = ap (λ (ws : List ℕ). slice_set ws 0 (slice_index ws 0)) h.is.words_are;
            few = h.is.few;
            small = h.is.small;
            logged = h.is.logged;
            parts = h.is.parts;
            empty = h.is.empty;
            owned = λ k b. held_set s.views id me.0 (looked me.0 found) _ k at live (λ x. x) (h.is.owned k b);
            fits = fits_set needs h.truth s.views id (looked me.0 found) fits' (λ j x _ e alive. h.is.fits j x e alive);
          };
        },
        record { slots = refl; view = refl; sound = fits'.sound; sees = told },
      )
