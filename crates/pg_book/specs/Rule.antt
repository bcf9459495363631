-- The rule of a book, over its two words and the views of all its seats.
-- Word 0 is the next stamp, and word 1 counts the names that are registered.
use Rattle.std.specs.Prelude.{◌≡◌, ℕ, ◌<◌, ◌≤◌, ◌^◌, false, List, [], ◌∷◌, length}
use mathlib.Core.Option.{some}
use lib.ListN.{get_elem?}
use Rattle.pg_book.specs.declared.needs.Needs.{Needs}
use Rattle.pg_book.specs.declared.receipt.Receipt.{Receipt}
use Rattle.pg_book.specs.declared.view.View.{View}
use Rattle.pg_book.specs.Needs.{parts_of, names_of, all_entries}
use Rattle.pg_book.specs.Lists.{IsPrefix, IsLog, of_part}
use Rattle.pg_book.specs.Views.{list_at, Holds, Sound}

-- What the rule knows: all receipts, how many names are registered, and for each name its true list and the seat that holds it
pub record Truth (E : Type 0) : Type 0 where
  pub log : List (Receipt E)
  pub registered : ℕ
  pub own : ℕ → List (Receipt E)
  pub owner : ℕ → ℕ

module _ {E : Type 0} where
  -- the seat's view holds the name
  pub record HoldsAt (views : List (View E)) (seat k : ℕ) : Type 0 where
    pub view : View E
    pub there : get_elem? views seat ≡ some view
    pub live : view.spent ≡ false
    pub holds : Holds view k

  -- What the rule says of the view of a seat: its floor is no stamp to come, what it holds is registered and its own and has the true list, and each list is the beginning of the true one
  pub record Fits (needs : List (List Needs)) (t : Truth E) (seat : ℕ) (v : View E) : Type 0 where
    pub same : v.needs ≡ needs
    pub floor : v.floor ≤ length t.log
    pub registered : (k : ℕ) → Holds v k → k < t.registered
    pub owner : (k : ℕ) → Holds v k → t.owner k ≡ seat
    pub own : (k : ℕ) → Holds v k → list_at v k ≡ t.own k
    pub known : (k : ℕ) → IsPrefix (list_at v k) (t.own k)
    pub sound : Sound v

  pub record IsTruth (needs : List (List Needs)) (words : List ℕ) (views : List (View E)) (t : Truth E) : Type 0 where
    pub words_are : words ≡ length t.log ∷ t.registered ∷ []
    pub few : t.registered ≤ names_of needs
    pub small : all_entries needs < 2 ^ 63
    pub logged : IsLog needs t.log
    -- a part's true list has all receipts of the part
    pub parts : (k : ℕ) → k < parts_of needs → t.own k ≡ of_part k t.log
    pub empty : (k : ℕ) → t.registered ≤ k → t.own k ≡ []
    pub owned : (k : ℕ) → k < t.registered → HoldsAt views (t.owner k) k
    pub fits : (seat : ℕ) (v : View E) → get_elem? views seat ≡ some v → v.spent ≡ false → Fits needs t seat v

  pub record Kept (needs : List (List Needs)) (words : List ℕ) (views : List (View E)) : Type 0 where
    pub truth : Truth E
    pub is : IsTruth needs words views truth
