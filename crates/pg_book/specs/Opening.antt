-- What `open` asks, and what it gives.
use Rattle.std.specs.Prelude.{◌≡◌, ℕ, suc, ◌<◌, ◌^◌, List, [], ◌∷◌, length, All}
use Rattle.atomic_table.specs.Seated.{TableId}
use Rattle.pg_book.specs.declared.needs.Needs.{Needs}
use Rattle.pg_book.specs.declared.view.View.{View}
use Rattle.pg_book.specs.Needs.{parts_of, all_entries}
use Rattle.pg_book.specs.Views.{list_at}
use Rattle.pg_book.specs.Models.{SpineOf, PassOf, BookOf, IsSpineAt, IsPassAt}

-- P of each element and its place, where the first has the place n
abbrev pub EachFrom : {A : Type 0} → (ℕ → A → Type 0) → ℕ → List A → Type 0
EachFrom P n [] = Unit {0}
EachFrom P n (x ∷ xs) = P n x × EachFrom P (suc n) xs

-- There is a caller, there are fewer than 2 ^ 32 callers and parts, each caller's list has an element for each part, and the entries sum to less than 2 ^ 63
pub record IsOpenable (needs : List (List Needs)) : Type 0 where
  pub caller : 0 < length needs
  pub callers : length needs < 2 ^ 32
  pub parts : parts_of needs < 2 ^ 32
  pub even : All (λ (row : List Needs). length row ≡ parts_of needs) needs
  pub entries : all_entries needs < 2 ^ 63

module _ {E : Type 0} where
  -- the view knows the needs, and no receipt
  pub record KnowsNothing (needs : List (List Needs)) (v : View E) : Type 0 where
    pub needs_are : v.needs ≡ needs
    pub lists : (k : ℕ) → list_at v k ≡ []

  -- a spine of the book with this part, on which nothing was drawn
  pub record IsNewSpine (needs : List (List Needs)) (book : TableId) (part : ℕ) (s : SpineOf E) : Type 0 where
    pub place : IsSpineAt book part s
    pub view : KnowsNothing needs s.view

  -- a pass of the book with this caller number, which drew nothing
  pub record IsNewPass (needs : List (List Needs)) (book : TableId) (caller : ℕ) (p : PassOf E) : Type 0 where
    pub place : IsPassAt book caller p
    pub view : KnowsNothing needs p.view

  -- A book with one spine for each part and one pass for each caller, each at the place of its number
  pub record IsOpened (needs : List (List Needs)) (book : BookOf E) (spines : List (SpineOf E)) (passes : List (PassOf E)) : Type 0 where
    pub knows : KnowsNothing needs book.view
    pub spine_count : length spines ≡ parts_of needs
    pub pass_count : length passes ≡ length needs
    pub spines_are : EachFrom (IsNewSpine needs book.book) 0 spines
    pub passes_are : EachFrom (IsNewPass needs book.book) 0 passes
