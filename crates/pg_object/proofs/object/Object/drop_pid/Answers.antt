use Rattle.std.proofs.Common.{None, subst}
use Rattle.cs_policy.specs.declared.file.FileEvent.TheVariants as event
use Rattle.cs_policy.specs.declared.file.FileReply.TheVariants as reply
use Rattle.pg_object.specs.Object.{ObjectNow, object_of}
use Rattle.pg_object.proofs.QuietFacts.{Does}
use Rattle.pg_object.proofs.RegionFacts.{pid_goes}
use Rattle.pg_object.proofs.object.Object.drop_pid.Goals as goal

pub returns : goal.returns
returns g c =
    let call = c.drop_pid-count in
    let old = object_of c.self.inside.pages c.self.inside.regions c.self.inside.blobs c.self.inside.length c.self.inside.layout in
    let done = subst (λ (start : ObjectNow). Does g.D.Digester.hash start (event.DropPid c.args.pid) None (reply.DroppedAll call.result) (record old { regions = call.new.self })) c.self.view_is
    (pid_goes g.D.Digester.hash old c.self.invariant call.new.self call.ensures.sound call.ensures.room c.args.pid call.result call.ensures.count call.ensures.after call.ensures.found) in
    record { acts = done.acts; checked = done.checked; unhashed = done.unhashed; kept = done.kept }

pub invariant_of-self : goal.invariant_of-self
invariant_of-self g c =
    let call = c.drop_pid-count in
    let old = object_of c.self.inside.pages c.self.inside.regions c.self.inside.blobs c.self.inside.length c.self.inside.layout in
    (pid_goes g.D.Digester.hash old c.self.invariant call.new.self call.ensures.sound call.ensures.room c.args.pid call.result call.ensures.count call.ensures.after call.ensures.found).kept
