use Rattle.std.proofs.Common.{not, arith}
use Rattle.std.proofs.lemmas.List.Elements.{All-filter}
use Rattle.pg_process.specs.Regions.{IsInFile, begins_at}
use Rattle.pg_process.proofs.OrderFacts.{in_order_filter}
use Rattle.pg_process.proofs.process.Process.remove.Goals as goal

pub invariant_of-self : goal.invariant_of-self
invariant_of-self c = record {
  pid = c.self.invariant.pid;
  page = c.self.invariant.page;
  made = c.self.invariant.made;
  few = omega (arith, c.drop_at.ensures.fewer);
  room = omega (arith, c.drop_at.ensures.room);
  in_files =
      rw c.drop_at.ensures.regions (All-filter (λ m. not (begins_at c.args.at m)) IsInFile c.self.inside.regions.items c.self.invariant.in_files);
  in_order =
      rw c.drop_at.ensures.regions (in_order_filter c.self.inside.page (λ m. not (begins_at c.args.at m)) c.self.inside.regions.items c.self.invariant.in_order);
}
