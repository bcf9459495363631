use Rattle.std.proofs.Common.{◌≡◌, Some, drop, fold}
use Rattle.cs_blob.specs.Candidates.{stronger, strongest}
use Rattle.cs_blob.proofs.candidates.strongest.Given as goal

abbrev pub invariant-loop-candidate : goal.invariant-loop-candidate
invariant-loop-candidate l = Some (fold stronger l.best (drop l.candidate-index l.candidate-items)) ≡ strongest l.found
