-- From views to what contracts see.
use Rattle.std.proofs.Common.{◌≡◌, ℕ, ◌-◌, subst, arith, lt_of_not-le, [], ◌∷◌, ◌++◌, refl, sym, ap, ◌∙◌}
use mathlib.Core.Logic.{dite}
use native.Mathlib.Decide.{dec_le}
use Rattle.atomic_table.specs.Seated.{TableId}
use Rattle.pg_book.specs.declared.view.View.{View}
use Rattle.pg_book.specs.declared.receipt.Receipt.{Receipt}
use Rattle.pg_book.specs.Needs.{parts_of}
use Rattle.pg_book.specs.Lists.{Among}
use Rattle.pg_book.specs.Views.{list_at, caller_list, Sound}
use Rattle.pg_book.specs.Kinds.{receipt_of}
use Rattle.pg_book.specs.Knowing.{HasDrawn}
use Rattle.pg_book.specs.Outcomes.{Meets, Draws}
use Rattle.pg_book.proofs.Meetings.{HasMet}

module _ {E : Type 0} where
  -- a known receipt stands in the list of its part
  stands_there : (t : View E) → Sound t → (k : ℕ) (r : Receipt E) → Among r (list_at t k) → Among r (list_at t r.part)
  stands_there t sound k r a = dite (dec_le (parts_of t.needs) k)
      (λ le. (sound.callers (k - parts_of t.needs) r (subst (λ (j : ℕ). Among r (list_at t j)) (omega arith) a)).1.there)
      (λ no. subst (λ (j : ℕ). Among r (list_at t j)) (sym ((sound.lists k).of_part r (lt_of_not-le no) a)) a)

  pub meets_of : (b c d : TableId) (part caller : ℕ) (s p q : View E) → d ≡ c → HasMet part caller s p q → Meets record { book = b; part = part; view = s } record { book = c; caller = caller; view = p } record { book = d; caller = caller; view = q }
  meets_of b c d part caller s p q same m = record {
    same_book = same;
    same_caller = refl;
    same_receipts = m.own;
    kept = m.kept;
    told = m.told;
    own = m.met;
  }

  pub draws_of : (b b' c c' : TableId) (part caller stamp : ℕ) (entry twin : E) (s p t q : View E) → twin ≡ entry → (b' ≡ b) × (c' ≡ c) → HasDrawn part caller entry stamp s p t q
      → Draws record { book = b; part = part; view = s } record { book = c; caller = caller; view = p } entry record { part = part; caller = caller; stamp = stamp; entry = twin } record { book = b'; part = part; view = t } record { book = c'; caller = caller; view = q }
  draws_of b b' c c' part caller stamp entry twin s p t q same tables d = record {
    same_books = tables;
    same_part = refl;
    same_caller = refl;
    part = refl;
    caller = refl;
    entered = same;
    above_spine = d.above_spine;
    above_pass = d.above_pass;
    spine_list = d.spine_list ∙ ap (λ (e : E). list_at s part ++ receipt_of part caller e stamp ∷ []) (sym same);
    pass_list = d.pass_list ∙ ap (λ (e : E). caller_list p caller ++ receipt_of part caller e stamp ∷ []) (sym same);
    spine_kept = d.spine_kept;
    spine_told = d.spine_told;
    own_part = λ k r a at. subst (λ (j : ℕ). Among r (list_at t j)) at (stands_there t d.spine.ready.sound k r a);
    pass_kept = d.pass_kept;
    pass_told = d.pass_told;
  }
