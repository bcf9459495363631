use Rattle.std.proofs.Common.{refl}
use Rattle.pg_object.proofs.AccessFacts.{fetches, fetches_nothing}
use Rattle.pg_object.proofs.object.Object.fetch.Goals as goal

pub returns-then-not-may_execute : goal.returns-then-not-may_execute
returns-then-not-may_execute g c =
    let done = fetches_nothing g.D.Digester.hash c.args.self.now c.may_execute.ensures.kept c.args.id c.args.page c.args.at c.args.count c.args.resolve c.may_execute.result c.may_execute.ensures.answer c.if-not-may_execute.true in
    record { acts = done.acts; checked = done.checked; unhashed = done.unhashed; kept = done.kept; unchanged = refl }

pub returns : goal.returns
returns g c =
    let done = fetches g.D.Digester.hash c.args.self.now c.may_execute.ensures.kept c.args.id c.args.page c.args.at c.args.count c.args.resolve c.may_execute.result c.look.result c.may_execute.ensures.answer c.if-not-may_execute.false c.look.ensures in
    record { acts = done.acts; checked = done.checked; unhashed = done.unhashed; kept = done.kept; unchanged = refl }
