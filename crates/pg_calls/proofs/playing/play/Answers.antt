use Rattle.std.proofs.Common.{◌≡◌, length, sym, subst, arith}
use Rattle.pg_calls.proofs.PlayFacts.{Played, played-none, played-one, played-all, next-rest}
use Rattle.pg_calls.proofs.playing.play.Goals as goal

pub loop-number-init : goal.loop-number-init
loop-number-init g c = (played-none _ _ _ _ c.requires.room, c.requires.serves)

pub loop-number-preserved : goal.loop-number-preserved
loop-number-preserved g c = (
  played-one g.T.Parts.hash c.args.worker c.args.script.now (g.T.Parts.shows c.args.parts.now) c.loop-number.number _ c.index-script-number.result _
      c.loop-number.invariant.0
      (next-rest g.T.Parts.hash c.args.worker c.args.script.now (g.T.Parts.shows c.args.parts.now) c.loop-number.number c.index-script-number.result c.loop-number-test.true (sym c.index-script-number.is))
      c.in_ok-make.ensures.made,
  c.in_ok-make.ensures.serves,
)

pub returns-clause-plays : goal.returns-clause-plays
returns-clause-plays g c =
    let whole : c.loop-number.number ≡ length c.args.script.now = omega (arith, c.loop-number-test.false, c.loop-number.auto.number-end) in
    played-all g.T.Parts.hash c.args.worker c.args.script.now (g.T.Parts.shows c.args.parts.now) _
    (subst (λ n. Played g.T.Parts.hash c.args.worker c.args.script.now n (g.T.Parts.shows c.args.parts.now) (g.T.Parts.shows c.loop-number.parts)) whole c.loop-number.invariant.0)
