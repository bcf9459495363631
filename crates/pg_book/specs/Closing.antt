-- What `close` asks, and what it gives.
use Rattle.std.specs.Prelude.{◌≡◌, ℕ, ◌<◌, List, [], ◌∷◌, ◌++◌, length, map, filter, eqb, All, Some, slice_get}
use Rattle.pg_book.specs.declared.receipt.Receipt.{Receipt}
use Rattle.pg_book.specs.declared.receipt.Stamped.{Stamped}
use Rattle.pg_book.specs.Needs.{parts_of}
use Rattle.pg_book.specs.Lists.{Among, Rising}
use Rattle.pg_book.specs.Views.{list_at}
pub use Rattle.pg_book.specs.Stamps.{stamped}
use Rattle.pg_book.specs.Models.{SpineOf, PassOf, BookOf, spine_receipts, pass_receipts, IsSpineAt, IsPassAt}
use Rattle.pg_book.specs.Opening.{EachFrom}

module _ {E : Type 0} where
  -- the receipts of all spines, one spine after another
  abbrev pub flat : List (SpineOf E) → List (Receipt E)
  flat [] = []
  flat (s ∷ spines) = spine_receipts s ++ flat spines

  -- all spines of the book, the k-th with part k
  pub record AreSpinesOf (book : BookOf E) (spines : List (SpineOf E)) : Type 0 where
    pub count : length spines ≡ parts_of book.view.needs
    pub each : EachFrom (IsSpineAt book.book) 0 spines

  -- all passes of the book, the k-th with caller number k
  pub record ArePassesOf (book : BookOf E) (passes : List (PassOf E)) : Type 0 where
    pub count : length passes ≡ length book.view.needs
    pub each : EachFrom (IsPassAt book.book) 0 passes

  -- The entry of a receipt stands at its stamp
  abbrev pub StandsIn : List (Stamped E) → Receipt E → Type 0
  StandsIn history r = slice_get history r.stamp ≡ Some (stamped r)

  -- The history of a book: the k-th entry has the stamp k, the entries of a part are its spine's list, those of a caller are its pass's list, and the entry of each receipt that a spine or a pass knew stands at its stamp
  pub record IsHistory (spines : List (SpineOf E)) (passes : List (PassOf E)) (history : List (Stamped E)) : Type 0 where
    -- there are as many entries as the spines have receipts
    pub count : length history ≡ length (flat spines)
    pub stamps : (k : ℕ) (e : Stamped E) → slice_get history k ≡ Some e → e.stamp ≡ k
    -- each entry's part is that of a spine, and its caller that of a pass
    pub of_book : (k : ℕ) (e : Stamped E) → slice_get history k ≡ Some e → (e.part < length spines) × (e.caller < length passes)
    pub of_spines : EachFrom (λ part s. filter (λ (e : Stamped E). eqb e.part part) history ≡ map stamped (spine_receipts s)) 0 spines
    pub of_passes : EachFrom (λ caller p. filter (λ (e : Stamped E). eqb e.caller caller) history ≡ map stamped (pass_receipts p)) 0 passes
    pub rising : All (λ p. Rising (pass_receipts p)) passes
    pub known_to_spines : All (λ s. (k : ℕ) (r : Receipt E) → Among r (list_at s.view k) → StandsIn history r) spines
    pub known_to_passes : All (λ p. (k : ℕ) (r : Receipt E) → Among r (list_at p.view k) → StandsIn history r) passes
