-- What the words of the command line ask for.
use Rattle.std.specs.Prelude.{◌≡◌, ◌<◌, ◌≤◌, List, [], ◌∷◌, ℕ, true, false, Option, IsNone, IsSomeAnd, MatchOption}
use Rattle.std.specs.Str.Parse.{IsNumeral, digits_value, without_leading_plus}
use Rattle.book_bench.specs.declared.asked.TheConstants.{MOST, FEW}
use Rattle.book_bench.specs.declared.asked.Asked.{Asked}

-- a word that is a numeral of 1 to the most draws
pub record IsCount (word : List ℕ) : Type 0 where
  pub numeral : IsNumeral 10 (without_leading_plus word)
  pub some : 0 < digits_value 10 (without_leading_plus word)
  pub within : digits_value 10 (without_leading_plus word) ≤ MOST

-- so many draws a caller, with or without times
abbrev pub IsAskedBy : List ℕ → Option Asked → Type 0
IsAskedBy word asked = MatchOption asked (¬ IsCount word) (λ (a : Asked). IsCount word × (a.draws ≡ digits_value 10 (without_leading_plus word)) × (a.timed ≡ true))

-- no word asks for the few draws, one for its number of them and the times, and others for nothing
abbrev pub IsAsked : List (List ℕ) → Option Asked → Type 0
IsAsked [] asked = IsSomeAnd asked (λ (a : Asked). (a.draws ≡ FEW) × (a.timed ≡ false))
IsAsked (word ∷ []) asked = IsAskedBy word asked
IsAsked (word ∷ (other ∷ words)) asked = IsNone asked
