-- The exit codes of the programs.
use Rattle.std.specs.Prelude.{ℕ}
use Rattle.pg_bytes.specs.declared.status.Status.{Status}
use Rattle.pg_bytes.specs.declared.status.Status.TheVariants.{Done, NotSealed, Usage, SceneBad, FileFault, SinkFault, Limit, TrustBad, NoMemory}

-- the exit code of each status
abbrev pub code_of : Status → ℕ
code_of Done = 0
code_of NotSealed = 1
code_of Usage = 2
code_of (SceneBad _ _) = 3
code_of (FileFault _) = 4
code_of SinkFault = 5
code_of (Limit _ _) = 6
code_of (TrustBad _ _ _) = 7
code_of NoMemory = 8
