-- What is known to a view, and what a draw leaves of two views.
use Rattle.std.specs.Prelude.{◌≡◌, ℕ, ◌<◌, [], ◌∷◌, ◌++◌, length}
use Rattle.pg_book.specs.declared.receipt.Receipt.{Receipt}
use Rattle.pg_book.specs.declared.view.View.{View}
use Rattle.pg_book.specs.Lists.{Among, IsPrefix, of_part}
use Rattle.pg_book.specs.Needs.{entries_at, part_entries}
use Rattle.pg_book.specs.Views.{list_at, caller_list}
use Rattle.pg_book.specs.Kinds.{receipt_of}
use Rattle.pg_book.specs.Models.{IsSpineView, IsPassView}

module _ {E : Type 0} where
  -- all that the first view knows is known to the second: each list of the second begins with that of the first
  pub record IsKnownTo (v w : View E) : Type 0 where
    pub needs : w.needs ≡ v.needs
    pub lists : (k : ℕ) → IsPrefix (list_at v k) (list_at w k)

  -- the caller has fewer entries on the part than it needs there
  abbrev pub HasRoom : ℕ → ℕ → View E → Type 0
  HasRoom part caller p = length (of_part part (caller_list p caller)) < entries_at p.needs caller part

  -- What a draw leaves: there was room, the stamp is above all of both lists, which grow by the receipt, and each of the two knows all that both knew
  pub record HasDrawn (part caller : ℕ) (entry : E) (stamp : ℕ) (s p t q : View E) : Type 0 where
    pub space : length (list_at s part) < part_entries s.needs part
    pub spine : IsSpineView part t
    pub pass : IsPassView caller q
    pub above_spine : (r : Receipt E) → Among r (list_at s part) → r.stamp < stamp
    pub above_pass : (r : Receipt E) → Among r (caller_list p caller) → r.stamp < stamp
    pub spine_list : list_at t part ≡ list_at s part ++ receipt_of part caller entry stamp ∷ []
    pub pass_list : caller_list q caller ≡ caller_list p caller ++ receipt_of part caller entry stamp ∷ []
    pub spine_kept : IsKnownTo s t
    pub spine_told : IsKnownTo p t
    pub pass_kept : IsKnownTo p q
    pub pass_told : IsKnownTo s q
