use Rattle.std.proofs.Common.{◌<◌, length}
use Rattle.pg_trusted.proofs.tests.one_cache_many_times.Given as goal

abbrev pub invariant-loop-module : goal.invariant-loop-module
invariant-loop-module g l = 0 < length l.list.caches
