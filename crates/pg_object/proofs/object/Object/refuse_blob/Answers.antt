use Rattle.std.proofs.Common.{subst}
use Rattle.pg_object.specs.Kept.{IsKept}
use Rattle.pg_object.proofs.RegionFacts.{refuses}
use Rattle.pg_object.proofs.object.Object.refuse_blob.Goals as goal

pub returns : goal.returns
returns g c =
    let done = refuses g.D.Digester.hash c.args.self.now c.args.read c.args.refusal (subst (IsKept g.D.Digester.hash) c.self.view_is c.self.invariant) in
    record { acts = done.acts; checked = done.checked; unhashed = done.unhashed; kept = done.kept }
