use Rattle.std.proofs.Common.{None, subst, sym, ap, not, ◌∙◌, ◌<◌}
use Rattle.pg_regions.specs.RegionsNow.{spare}
use Rattle.pg_object.specs.Kept.{IsInside}
use Rattle.cs_policy.specs.declared.file.FileEvent.TheVariants as event
use Rattle.cs_policy.specs.declared.file.FileReply.TheVariants as reply
use Rattle.pg_object.specs.Object.{ObjectNow, object_of}
use Rattle.pg_object.proofs.QuietFacts.{Does}
use Rattle.pg_object.proofs.RegionFacts.{region_comes, region_stands, none_copied, some_copied}
use Rattle.pg_object.proofs.object.Object.add_region.Goals as goal
use Rattle.pg_object.proofs.object.Object.add_region.Goals.{then-is_none, else-is_none}

pub returns : goal.returns
returns g c =
    let hash = g.D.Digester.hash in
    let old = object_of c.self.inside.pages c.self.inside.regions c.self.inside.blobs c.self.inside.length c.self.inside.layout in
    let inside = subst (λ (start : ObjectNow). IsInside start.pages.cache.pager.pages c.args.region) (sym c.self.view_is) c.requires.inside in
    let room = subst (λ (start : ObjectNow). 0 < (spare start.regions).regions) (sym c.self.view_is) c.requires.room in
    let done = subst (λ (start : ObjectNow). Does hash start (event.AddRegion c.args.region c.args.insert) None reply.Added c.if-is_none.self) c.self.view_is
    (elim c.if-is_none.branch [
      | then-is_none w ↦ subst (Does hash old (event.AddRegion c.args.region c.args.insert) None reply.Added) (sym w.self-is)
          (region_comes hash old c.args.region c.args.insert c.self.invariant w.add.new.self inside room
          (none_copied c.find.result _ c.find.ensures.found (c.is_none.ensures ∙ ap not w.if-is_none.true))
          w.add.ensures.after w.add.ensures.found w.add.ensures.fresh w.add.ensures.room w.add.ensures.sound)
      | else-is_none w ↦ subst (Does hash old (event.AddRegion c.args.region c.args.insert) None reply.Added) (c.self.view_is ∙ sym w.self-is)
          (region_stands hash old c.args.region c.args.insert c.self.invariant
          (some_copied c.find.result _ c.find.ensures.found (c.is_none.ensures ∙ ap not w.if-is_none.false)))
    ]) in
    record { acts = done.acts; checked = done.checked; unhashed = done.unhashed; kept = done.kept }

pub invariant_of-self : goal.invariant_of-self
invariant_of-self g c =
    let old = object_of c.self.inside.pages c.self.inside.regions c.self.inside.blobs c.self.inside.length c.self.inside.layout in
    let inside = subst (λ (start : ObjectNow). IsInside start.pages.cache.pager.pages c.args.region) (sym c.self.view_is) c.requires.inside in
    let room = subst (λ (start : ObjectNow). 0 < (spare start.regions).regions) (sym c.self.view_is) c.requires.room in
    (region_comes g.D.Digester.hash old c.args.region c.args.insert c.self.invariant c.add.new.self inside room
    (none_copied c.find.result _ c.find.ensures.found (c.is_none.ensures ∙ ap not c.if-is_none.true))
    c.add.ensures.after c.add.ensures.found c.add.ensures.fresh c.add.ensures.room c.add.ensures.sound).kept
