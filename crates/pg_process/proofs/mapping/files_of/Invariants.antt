-- the files of the regions so far
use Rattle.std.proofs.Common.{◌≡◌, take}
use Rattle.pg_process.specs.Regions.{files_of}
use Rattle.pg_process.proofs.mapping.files_of.Given as goal

abbrev pub invariant-loop-mapping : goal.invariant-loop-mapping
invariant-loop-mapping l = l.files ≡ files_of (take l.mapping-index l.mappings)
