-- What a list of words holds that was collected from an iterator.
use Rattle.std.proofs.Common.{◌≡◌, List, map, Result, Ok, Err, IfOk, ap, ◌∙◌, Option}
use Rattle.std.specs.Bool.{⊤}
use Rattle.std.specs.Iterator.{DrainsIf}
use Rattle.std.proofs.lemmas.Iterator.{YieldsList, items_from_drains}

-- a value that holds just the items that were yielded, of which f reads each
pub read_from_collect : {S A B V E : Type 0} {steps : S → Option A → S → Type 0} {f : A → B} {s : S} {all : List B} (items : V → List A) (r : Result V E) →
    IfOk r (λ v. (xs : List A) × DrainsIf steps ⊤ s xs × (items v ≡ xs)) → YieldsList steps f s all → IfOk r (λ v. map f (items v) ≡ all)
read_from_collect {S} {A} {B} {V} {E} {steps} {f} items (Ok v) ran road = ap (map f) ran.2 ∙ items_from_drains ran.0 ran.1 road
read_from_collect items (Err e) ran road = tt
