-- Views that take in those of spines and passes, one after another.
use Rattle.std.specs.Prelude.{◌≡◌, ℕ, ◌<◌, List, ◌++◌, length, map}
use Rattle.pg_book.specs.declared.needs.Needs.{Needs}
use Rattle.pg_book.specs.declared.view.View.{View}
use Rattle.pg_book.specs.Needs.{parts_of}
use Rattle.pg_book.specs.Views.{list_at, Holds}
use Rattle.pg_book.specs.Kinds.{joined}
use Rattle.pg_book.specs.Steps.{HasLooked}
use Rattle.pg_book.specs.Models.{SpineOf, PassOf, IsReady, IsSpineView, IsPassView}
use Rattle.pg_book.specs.Knowing.{IsKnownTo}
use Rattle.pg_book.specs.Opening.{EachFrom}

module _ {E : Type 0} where
  -- the view of a spine or a pass was taken in, and the next stamp was looked at
  pub record TakesSpine (s : SpineOf E) (v w : View E) : Type 0 where
    pub view : IsSpineView s.part s.view
    pub looked : HasLooked (joined v s.view) w

  pub record TakesPass (p : PassOf E) (v w : View E) : Type 0 where
    pub view : IsPassView p.caller p.view
    pub looked : HasLooked (joined v p.view) w

  -- the view holds the name of another view, has its list, and knows all that it knew
  pub record Taken (k : ℕ) (x v : View E) : Type 0 where
    pub holds : Holds v k
    pub list : list_at v k ≡ list_at x k
    pub knows : IsKnownTo x v

  -- a view that took in these views, of which the first holds the name 0, the next the name 1, and so on
  pub record Gathered (needs : List (List Needs)) (xs : List (View E)) (v : View E) : Type 0 where
    pub ready : IsReady v
    pub needs_are : v.needs ≡ needs
    pub held : (k : ℕ) → Holds v k → k < length xs
    pub each : EachFrom (λ k x. Taken k x v) 0 xs

  abbrev pub spine_views : List (SpineOf E) → List (View E)
  spine_views spines = map (λ (s : SpineOf E). s.view) spines

  abbrev pub pass_views : List (PassOf E) → List (View E)
  pass_views passes = map (λ (p : PassOf E). p.view) passes

  -- a view that took in one view for each part
  pub record HasParts (v : View E) : Type 0 where
    pub views : List (View E)
    pub count : length views ≡ parts_of v.needs
    pub gathered : Gathered v.needs views v

  -- the passes are taken in behind whatever was taken in for the parts
  abbrev pub TakesPasses : List (PassOf E) → View E → View E → Type 0
  TakesPasses passes v w = (views : List (View E)) → length views ≡ parts_of v.needs → Gathered v.needs views v → Gathered v.needs (views ++ pass_views passes) w
