-- Lists that stand in an order.
use Rattle.std.specs.Prelude.{Bool, List, [], ◌∷◌, if◌then◌else◌}

-- one element more, before the first that does not come before it
abbrev pub in_order : {X : Type 0} → (X → X → Bool) → X → List X → List X
in_order before new [] = new ∷ []
in_order before new (x ∷ xs) = if before x new then x ∷ in_order before new xs else new ∷ x ∷ xs
