-- How the program ends.
use Rattle.std.specs.Prelude.{ℕ, List, [], ◌∷◌}
use Rattle.book_bench.specs.declared.fail.BenchFail.{BenchFail}
use Rattle.book_bench.specs.declared.fail.BenchFail.TheVariants.{NoMemory, NoClock, NotOpened}
use Rattle.book_bench.specs.declared.ending.TheConstants.{GIVEN_UP, NO_MEMORY}
use Rattle.book_bench.specs.Asked.{IsCount}

-- the exit status of a run that was given up
abbrev pub code_of : BenchFail → ℕ
code_of NoMemory = NO_MEMORY
code_of NoClock = GIVEN_UP
code_of (NotOpened wanted found) = GIVEN_UP

-- words that ask for nothing: one that is no number of draws, or more than one
abbrev pub IsUnasked : List (List ℕ) → Type 0
IsUnasked [] = ⊥
IsUnasked (word ∷ []) = ¬ IsCount word
IsUnasked (word ∷ (other ∷ words)) = Unit {0}
