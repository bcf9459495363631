-- What a run prints whose scripts were played by threads.
use Rattle.std.specs.Prelude.{ℕ, List}
use Rattle.pg_digest.specs.Kinds.{Hash}
use Rattle.scene_run.specs.Ending.{Run, Prints}
use Rattle.scene_run.specs.Runs.{IsSound}

-- The text is the journal of a legal history of the run's scripts from its opening, and of no other. Throughout the history
-- the sealing stands, and each denial states the first rule that was broken.
abbrev pub PrintsSound : Hash → Run → List ℕ → Type 0
PrintsSound hash = Prints hash (IsSound hash)
