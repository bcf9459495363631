-- The views of new spines and passes.
use Rattle.std.proofs.Common.{◌≡◌, ℕ, ◌+◌, ◌<◌, ◌^◌, List, [], length, refl, sym, ap, ◌∙◌, subst, ⊎_elim, arith}
use Rattle.pg_book.specs.declared.needs.Needs.{Needs}
use Rattle.pg_book.specs.declared.view.Name.{Name}
use Rattle.pg_book.specs.declared.view.View.{View}
use Rattle.pg_book.specs.Needs.{parts_of, names_of, all_entries}
use Rattle.pg_book.specs.Views.{list_at, Holds, Sound}
use Rattle.pg_book.specs.Kinds.{first, note, named}
use Rattle.pg_book.specs.Models.{IsReady, IsSpineView, IsPassView, IsBookView}
use Rattle.pg_book.specs.Opening.{KnowsNothing}
use Rattle.pg_book.proofs.ViewFacts.{note_list, note_holds}
use Rattle.pg_book.proofs.SplitStep.{first_list, first_sound, none_held, note_sound}
use Rattle.pg_book.proofs.NameStep.{named_here, named_list, named_held}

module _ (E : Type 0) (needs : List (List Needs)) (small : all_entries needs < 2 ^ 63) (k : ℕ) (lt : k < names_of needs) where
  abbrev before : View E
  before = note (first needs)

  abbrev made : View E
  made = named before k

  within : k < length (before).names
  within = subst (λ (n : ℕ). k < n) (sym (note_sound (first {E = E} needs) (first_sound needs small)).whole) lt

  empty : (j : ℕ) → list_at before j ≡ []
  empty j = note_list (first needs) j ∙ first_list needs j

  pub knows_nothing : KnowsNothing needs made
  knows_nothing = record { needs_are = refl; lists = λ j. named_list before k within (empty k) j ∙ empty j }

  pub holds_it : Holds made k
  holds_it = ap (λ (n : Name E). n.held) (named_here before k within (empty k))

  pub holds_only : (j : ℕ) → Holds made j → j ≡ k
  holds_only j h = ⊎_elim (λ e. e) (λ (b : Holds before j). absurd (note_holds (first needs) j b)) (named_held before k within (empty k) j h)

  pub ready : Sound made → IsReady made
  ready s = record { sound = s; settled = refl; unsent = refl }

module _ {E : Type 0} where
  pub new_spine : (needs : List (List Needs)) (small : all_entries needs < 2 ^ 63) (k : ℕ) → k < parts_of needs → Sound {E = E} (named (note (first needs)) k) → IsSpineView {E = E} k (named (note (first needs)) k)
  new_spine needs small k lt s = let b : k < names_of needs = omega arith in record { ready = ready E needs small k b s; is_part = lt; holds = holds_it E needs small k b; only = holds_only E needs small k b }

  pub new_pass : (needs : List (List Needs)) (small : all_entries needs < 2 ^ 63) (caller : ℕ) → caller < length needs → Sound {E = E} (named (note (first needs)) (parts_of needs + caller)) → IsPassView {E = E} caller (named (note (first needs)) (parts_of needs + caller))
  new_pass needs small caller lt s =
      let k : ℕ = parts_of needs + caller in
      let b : parts_of needs + caller < names_of needs = omega arith in
      record { ready = ready E needs small (parts_of needs + caller) b s; is_caller = lt; holds = holds_it E needs small (parts_of needs + caller) b; only = holds_only E needs small (parts_of needs + caller) b }

  pub new_book : (needs : List (List Needs)) → all_entries needs < 2 ^ 63 → IsBookView {E = E} (first needs)
  new_book needs small = record { ready = record { sound = first_sound needs small; settled = refl; unsent = refl }; nothing = none_held E needs }

  pub book_nothing : (needs : List (List Needs)) → KnowsNothing {E = E} needs (first needs)
  book_nothing needs = record { needs_are = refl; lists = first_list needs }
