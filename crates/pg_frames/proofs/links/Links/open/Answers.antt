use Rattle.std.proofs.Common.{◌∷◌, [], ◌-◌, ◌∙◌, ap, arith}
use Rattle.pg_frames.specs.Queues.{stands}
use Rattle.pg_frames.proofs.LinkFacts.{queues}
use Rattle.pg_frames.proofs.ListFacts.{absent_from_on, from_on_more}
use Rattle.pg_frames.proofs.links.Links.open.Goals as goal

pub put_free-requires-clause-not_free : goal.put_free-requires-clause-not_free
put_free-requires-clause-not_free c =
    let n = c.loop-number.number in
    ap (λ q. stands (n - 1) q.free) c.loop-number.invariant.1 ∙ absent_from_on (n - 1) n (c.args.count - n) (omega (arith, c.loop-number-test.true))

pub loop-number-preserved : goal.loop-number-preserved
loop-number-preserved c =
    let n = c.loop-number.number in let was = c.loop-number.invariant in (
      omega (arith, was.0),
      c.put_free.ensures.puts ∙ ap (λ q. queues q.count q.queue ((n - 1) ∷ q.free)) was.1
          ∙ ap (queues c.args.count []) (from_on_more (n - 1) n c.args.count (omega (arith, c.loop-number-test.true)) was.0),
      c.put_free.ensures.order,
    )
