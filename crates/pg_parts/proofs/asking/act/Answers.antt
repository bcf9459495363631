use Rattle.std.proofs.Common.{refl}
use Rattle.cs_policy.specs.declared.file.FileEvent.TheVariants as event
use Rattle.pg_parts.proofs.ReplyFacts.{plain-answers, holds-none}
use Rattle.pg_parts.proofs.asking.act.Goals as goal

pub returns-in-Enter-clause-small : goal.returns-in-Enter-clause-small
returns-in-Enter-clause-small g c =
    let e = event.Enter c.in-Enter.id c.in-Enter.page c.in-Enter.access c.in-Enter.flags c.in-Enter.resolve in
    holds-none e c.enter.result refl (plain-answers g.D.Digester.hash c.args.object.now c.enter.new.self e c.enter.result tt c.enter.ensures.acts)
