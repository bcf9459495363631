-- `Any` of a list, by its first element and the others.
use Rattle.std.proofs.Common.{zero, suc, ◌⊎◌, List, [], ◌∷◌, refl, sym, subst, inl, inr, arith}
use Rattle.std.specs.List.{Any}

pub any_first : {X : Type 0} (P : X → Type 0) (x : X) (xs : List X) → P x → Any P (x ∷ xs)
any_first P x xs h = (0, x, omega arith, refl, h)

pub any_later : {X : Type 0} (P : X → Type 0) (x : X) (xs : List X) → Any P xs → Any P (x ∷ xs)
any_later P x xs (k, y, within, at, h) = (suc k, y, omega arith, at, h)

pub any_cases : {X : Type 0} (P : X → Type 0) (x : X) (xs : List X) → Any P (x ∷ xs) → P x ⊎ Any P xs
any_cases P x xs (zero, y, within, at, h) = inl (subst P (sym at) h)
any_cases P x xs (suc k, y, within, at, h) = inr (k, y, omega arith, at, h)

pub any_none : {X : Type 0} (P : X → Type 0) → Any P [] → ⊥
any_none P (k, y, within, at, h) = omega arith
