-- A list of which one value was written.
use Rattle.std.proofs.Common.{◌≡◌, ℕ, ◌<◌, List, [], ◌∷◌, ◌++◌, length, take, drop, set, get_or, sym, ap, ◌∙◌, add-one, drop-cons}
use lib.Seq.{set_split}
use Rattle.std.specs.List.{refill}
use Rattle.pg_rows.specs.Parts.{with_part}

pub with_part_one : {X : Type 0} (values part : List X) (place : ℕ) (value : X) → place < length values → part ≡ take 1 (drop place values)
    → with_part values place 1 (set part 0 value) ≡ set values place value
with_part_one {X} values part place value lt is =
    let here = get_or values place value in
    let one : take 1 (drop place values) ≡ here ∷ [] = ap (take 1) (drop-cons values place value lt) in
    let written : List X → List X → ℕ → List X = λ old now n. take place values ++ (refill 1 old (set now 0 value) ++ drop n values) in
    (λ j. written (one j) ((is ∙ one) j) (add-one place j)) ∙ sym (set_split values place value lt)
