use Rattle.std.proofs.Common.{◌<◌, arith}
use Rattle.pg_io.proofs.SinkFacts.{next_out}
use Rattle.pg_io.proofs.sink.write_whole.Goals as goal

pub loop-at-preserved : goal.loop-at-preserved
loop-at-preserved g c =
    let e = c.in_ok-count.ensures in
    let some : 0 < c.in_ok-count.count = omega arith in
    next_out g.K.Sink.written g.K.Sink.faults _ _ c.write.new.self _ _ c.in_ok-count.count
    c.loop-at.invariant e.count e.written (e.sound some)
