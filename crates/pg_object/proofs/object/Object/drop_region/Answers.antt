use Rattle.std.proofs.Common.{None, subst, refl}
use Rattle.std.specs.Prelude.{if◌then◌else◌}
use Rattle.cs_policy.specs.declared.file.FileEvent.TheVariants as event
use Rattle.cs_policy.specs.declared.file.FileReply.TheVariants as reply
use Rattle.pg_object.specs.Object.{ObjectNow, object_of}
use Rattle.pg_object.proofs.QuietFacts.{Does}
use Rattle.pg_object.proofs.RegionFacts.{drops, answers_dropped, answers_none}
use Rattle.pg_object.proofs.object.Object.drop_region.Goals as goal
use Rattle.pg_object.proofs.object.Object.drop_region.Goals.{then-drop_region, else-drop_region}

pub returns : goal.returns
returns g c =
    let call = c.drop_region in
    let answer = c.if-drop_region.result in
    let old = object_of c.self.inside.pages c.self.inside.regions c.self.inside.blobs c.self.inside.length c.self.inside.layout in
    let done = subst (λ (start : ObjectNow). Does g.D.Digester.hash start (event.DropRegion c.args.id) None answer (record old { regions = call.new.self })) c.self.view_is
    (drops g.D.Digester.hash old c.self.invariant call.new.self call.ensures.sound call.ensures.room c.args.id call.result answer
    call.ensures.answer call.ensures.unchanged call.ensures.after call.ensures.found
    (elim c.if-drop_region.branch [
      | then-drop_region w ↦ answers_dropped answer call.result c.args.id w.if-drop_region.true w.result-is
      | else-drop_region w ↦ answers_none answer call.result c.args.id w.if-drop_region.false w.result-is
    ])) in
    record { acts = done.acts; checked = done.checked; unhashed = done.unhashed; kept = done.kept }

pub invariant_of-self : goal.invariant_of-self
invariant_of-self g c =
    let call = c.drop_region in
    let old = object_of c.self.inside.pages c.self.inside.regions c.self.inside.blobs c.self.inside.length c.self.inside.layout in
    (drops g.D.Digester.hash old c.self.invariant call.new.self call.ensures.sound call.ensures.room c.args.id call.result (if call.result then reply.Dropped else reply.NoRegion c.args.id)
    call.ensures.answer call.ensures.unchanged call.ensures.after call.ensures.found refl).kept
