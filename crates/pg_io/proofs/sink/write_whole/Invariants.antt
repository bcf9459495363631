use Rattle.std.proofs.Common.{length, ◌-◌}
use Rattle.pg_io.proofs.SinkFacts.{OutSoFar}
use Rattle.pg_io.proofs.sink.write_whole.Given as goal

abbrev pub invariant-loop-at : goal.invariant-loop-at
invariant-loop-at g l =
    OutSoFar g.K.Sink.written g.K.Sink.faults l.initial.out l.out l.bytes l.at

abbrev pub decreases-loop-at : goal.decreases-loop-at
decreases-loop-at g l = length l.bytes - l.at
