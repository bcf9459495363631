use Rattle.std.proofs.Common.{◌∙◌, ◌==◌, List, not, false, filter, get_or, vec_capacity, refl, ap, sym}
use Rattle.std.specs.Global.{Vec}
use Rattle.cs_policy.specs.declared.access.Prot.TheVariants.{R}
use Rattle.cs_policy.specs.declared.region.Region.{Region}
use Rattle.cs_policy.specs.declared.region.Record.{Record}
use Rattle.pg_regions.specs.Lookups.{Copy}
use Rattle.pg_regions.specs.Copies.{CopiesNow}
use Rattle.pg_regions.proofs.DropFacts.{left-dropped, left-skipped, left-first}
use Rattle.pg_regions.proofs.regions.drop_records_and_copies.Goals as goal
use Rattle.pg_regions.proofs.regions.drop_records_and_copies.Goals.{then-region-pid, else-region-pid}

pub loop-region-init : goal.loop-region-init
loop-region-init c = record {
  records = sym (left-first (λ (r : Record). r.region) c.args.regions.now c.args.pid c.args.records.now.items);
  copies =
      ap (λ (l : List Copy). record { page = c.args.copies.now.page; list = l; room = c.args.copies.now.room })
      (sym (left-first (λ (copy : Copy). copy.region) c.args.regions.now c.args.pid c.args.copies.now.list));
  room = refl;
}

pub loop-region-preserved : goal.loop-region-preserved
loop-region-preserved c =
    let with_list : List Copy → CopiesNow = λ l. record { page = c.args.copies.now.page; list = l; room = c.args.copies.now.room } in
    let regions = c.args.regions.now in
    let i = c.loop-region.region-index in
    let here = c.loop-region-test.true in
    let none : Region = record { id = 0; pid = 0; first = 0; pages = 0; prot = R; shared = false } in
    let next = get_or regions i none in
    elim c.if-region-pid.branch [
      | then-region-pid w ↦ record {
        records =
            ap (λ (v : Vec Record). v.items) w.records-is ∙ w.drop_of.ensures.records
            ∙ ap (filter (λ (r : Record). not (r.region == next.id))) c.loop-region.invariant.records
            ∙ left-dropped (λ (r : Record). r.region) regions c.args.pid i none here c.requires w.if-region-pid.true c.args.records.now.items;
        copies =
            w.copies-is ∙ w.drop_of-then-region-pid.ensures
            ∙ ap (λ (v : CopiesNow). record v { list = filter (λ (copy : Copy). not (copy.region == next.id)) v.list }) c.loop-region.invariant.copies
            ∙ ap with_list (left-dropped (λ (copy : Copy). copy.region) regions c.args.pid i none here c.requires w.if-region-pid.true c.args.copies.now.list);
        room = ap (λ (v : Vec Record). vec_capacity v) w.records-is ∙ w.drop_of.ensures.room ∙ c.loop-region.invariant.room;
      }
      | else-region-pid w ↦ record {
        records =
            ap (λ (v : Vec Record). v.items) w.records-is ∙ c.loop-region.invariant.records
            ∙ left-skipped (λ (r : Record). r.region) regions c.args.pid i none here c.requires w.if-region-pid.false c.args.records.now.items;
        copies =
            w.copies-is ∙ c.loop-region.invariant.copies
            ∙ ap with_list (left-skipped (λ (copy : Copy). copy.region) regions c.args.pid i none here c.requires w.if-region-pid.false c.args.copies.now.list);
        room = ap (λ (v : Vec Record). vec_capacity v) w.records-is ∙ c.loop-region.invariant.room;
      }
    ]
