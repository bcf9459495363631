-- Why a run is given up.
use Rattle.std.specs.Prelude.{◌≢◌, ℕ, ◌+◌, ◌<◌}
use Rattle.book_bench.specs.declared.fail.BenchFail.{BenchFail}
use Rattle.book_bench.specs.declared.fail.BenchFail.TheVariants.{NoMemory, NoClock, NotOpened}

-- why so many callers have no run: where their book was not opened, another number was found than that of one of its names
abbrev pub IsRunFail : ℕ → BenchFail → Type 0
IsRunFail callers NoMemory = Unit {0}
IsRunFail callers NoClock = Unit {0}
IsRunFail callers (NotOpened wanted found) = (wanted < callers + callers) × (found ≢ wanted)
