-- Calls that are counted, and the list of those that are to fail.
use Rattle.std.specs.Prelude.{ℕ, zero, suc, ◌+◌, ◌-◌, ◌^◌, ◌==◌, min, List, [], ◌∷◌, Bool, true, false}
use Rattle.std.specs.List.{list_any}

-- the count after one more: it stands still once it is 2 ^ 64 - 1
abbrev pub next_count : ℕ → ℕ
next_count n = min (n + 1) (2 ^ 64 - 1)

-- whether the call that follows so many is to fail, by its number: the first call is number 1
abbrev pub is_to_fail : ℕ → List ℕ → Bool
is_to_fail made fails = list_any (λ number. number == made + 1) fails

-- ---- the calls that follow

-- the count after so many more
abbrev pub count_after : ℕ → ℕ → ℕ
count_after made zero = made
count_after made (suc more) = count_after (next_count made) more

-- whether the call at this place of those that follow is to fail: the next call is at place 0
abbrev pub fails_at : ℕ → List ℕ → ℕ → Bool
fails_at made fails place = is_to_fail (count_after made place) fails

-- which of the next calls, so many, are to fail, in their order
abbrev pub outcomes : ℕ → List ℕ → ℕ → List Bool
outcomes made fails zero = []
outcomes made fails (suc count) = is_to_fail made fails ∷ outcomes (next_count made) fails count

-- the number of the first call that failed, counted from 1, or 0 where none did
abbrev pub one_later : ℕ → ℕ
one_later zero = 0
one_later (suc number) = suc (suc number)

abbrev pub first_failed : List Bool → ℕ
first_failed [] = 0
first_failed (true ∷ others) = 1
first_failed (false ∷ others) = one_later (first_failed others)

-- the same of the next calls, so many
abbrev pub first_failing : ℕ → List ℕ → ℕ → ℕ
first_failing made fails count = first_failed (outcomes made fails count)
