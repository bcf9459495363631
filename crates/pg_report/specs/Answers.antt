-- What the reader of journals answers, beside what a text says.
use Rattle.std.specs.Prelude.{◌≡◌, ℕ, Result, Ok, Err}
use Rattle.pg_report.specs.declared.line.JournalFail.{JournalFail}
use Rattle.pg_report.specs.declared.line.JournalFail.TheVariants.{NoMemory, Bad}

-- the bad line is the one that is said, unless memory ran out
abbrev pub Fails : {Y : Type 0} → JournalFail → Result Y ℕ → Type 0
Fails NoMemory said = Unit {0}
Fails (Bad line) said = said ≡ Err line

-- what was answered, seen by `view`, is what is said, unless memory ran out
abbrev pub Reads : {X Y : Type 0} → (X → Y) → Result X JournalFail → Result Y ℕ → Type 0
Reads view (Ok x) said = said ≡ Ok (view x)
Reads view (Err e) said = Fails e said
