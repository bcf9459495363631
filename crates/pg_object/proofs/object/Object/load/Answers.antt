use Rattle.std.proofs.Common.{refl}
use Rattle.pg_object.proofs.AccessFacts.{loads, loads_nothing}
use Rattle.pg_object.proofs.object.Object.load.Goals as goal

pub returns-then-not-may_read : goal.returns-then-not-may_read
returns-then-not-may_read g c =
    let done = loads_nothing g.D.Digester.hash c.args.self.now c.may_read.ensures.kept c.args.id c.args.page c.args.at c.args.count c.args.resolve c.may_read.result c.may_read.ensures.answer c.if-not-may_read.true in
    record { acts = done.acts; checked = done.checked; unhashed = done.unhashed; kept = done.kept; unchanged = refl }

pub returns : goal.returns
returns g c =
    let done = loads g.D.Digester.hash c.args.self.now c.may_read.ensures.kept c.args.id c.args.page c.args.at c.args.count c.args.resolve c.may_read.result c.look.result c.may_read.ensures.answer c.if-not-may_read.false c.look.ensures in
    record { acts = done.acts; checked = done.checked; unhashed = done.unhashed; kept = done.kept; unchanged = refl }
