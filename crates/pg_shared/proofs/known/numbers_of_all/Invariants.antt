use Rattle.std.proofs.Common.{◌≡◌, map, take}
use Rattle.pg_shared.specs.Opening.{known_of}
use Rattle.pg_shared.proofs.known.numbers_of_all.Given as goal

abbrev pub invariant-loop-object : goal.invariant-loop-object
invariant-loop-object g l = l.numbers.items ≡ map known_of (take l.object-index l.files)
