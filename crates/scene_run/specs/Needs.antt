-- What scripts need of each part.
use Rattle.std.specs.Prelude.{ℕ, ◌+◌, ◌-◌, ◌≤◌, nat_lt, List, [], ◌∷◌, length, map, if◌then◌else◌}
use Rattle.std.specs.List.{range_with_len}
use Rattle.cs_policy.specs.declared.entry.Place.{Place}
use Rattle.cs_policy.specs.declared.entry.Place.TheVariants as place
use Rattle.cs_policy.specs.declared.call.Call.{Call}
use Rattle.cs_policy.specs.declared.call.Call.TheVariants as call
use Rattle.pg_history.specs.Legal.{calls_in}
use Rattle.pg_book.specs.declared.needs.Needs.{Needs}
use Rattle.pg_calls.specs.Scripts.{calls_use}

-- so much of each kind
abbrev pub of_each : ℕ → Needs
of_each n = record { entries = n; regions = n; records = n; copies = n; blobs = n; numbers = n }

-- the place of a part, where there are so many files and processes
abbrev pub place_of : ℕ → ℕ → ℕ → Place
place_of files processes part =
    if nat_lt part files then place.File part else
    (if nat_lt part (files + processes) then place.Process (part - files) else place.Trust)

-- what a script needs of each part: what its calls may use of it
abbrev pub row_of : ℕ → ℕ → List Call → List Needs
row_of files processes script = map (λ part. calls_use script (place_of files processes part)) (range_with_len 0 (files + processes + 1))

-- The scripts that callers play. Where there is none, one caller plays an empty one.
abbrev pub played : List (List Call) → List (List Call)
played [] = [] ∷ []
played scripts = scripts

-- what each caller needs of each part
abbrev pub needs_of : ℕ → ℕ → List (List Call) → List (List Needs)
needs_of files processes scripts = map (row_of files processes) (played scripts)

-- ---- how much it is at most

-- the call attaches a signature
abbrev pub attaches_one : Call → ℕ
attaches_one (call.Attach number slice) = 1
attaches_one other = 0

-- how many calls do
abbrev pub attaches : List Call → ℕ
attaches [] = 0
attaches (c ∷ cs) = attaches_one c + attaches cs

-- how many calls of all scripts do
abbrev pub attaches_in : List (List Call) → ℕ
attaches_in [] = 0
attaches_in (script ∷ scripts) = attaches script + attaches_in scripts

-- The scripts are few, have few calls, and attach few signatures.
pub record AreFew (scripts : List (List Call)) : Type 0 where
  pub workers : length scripts ≤ 8
  pub calls : calls_in scripts ≤ 4096
  pub attaches : attaches_in scripts ≤ 64

-- more than the callers of such scripts need of a part
abbrev pub most_needed : Needs
most_needed = record { entries = 12288; regions = 4096; records = 4096; copies = 4096; blobs = 64; numbers = 4096 }
