use Rattle.std.proofs.Common.{rules, ◌≡◌, List, length, sym, ap, ◌∙◌, subst, arith}
use Rattle.pg_digest.specs.Digests.{sha_hash}
use Rattle.pg_book.specs.Opening.{EachFrom}
use Rattle.scene_threads.specs.declared.worker.Worker.{Worker}
use Rattle.scene_threads.specs.Workers.{IsIdle, IsDone}
use Rattle.scene_threads.proofs.EachFacts.{each-of, each-here, written-whole}
use Rattle.scene_threads.proofs.playing.work_all.Goals as goal

pub for_each_mut-requires-clause-accepts : goal.for_each_mut-requires-clause-accepts
for_each_mut-requires-clause-accepts g c = λ κs lives i p lt is.
    let idle : EachFrom (IsIdle g.B.Naming.plan) 0 c.as_mut_slice.result.now =
    subst (λ (l : List Worker). EachFrom (IsIdle g.B.Naming.plan) 0 l) (sym c.as_mut_slice.ensures.value) c.requires.idle in (
      c.requires.may,
      subst (λ (w : Worker). IsIdle g.B.Naming.plan i w) (sym is) (each-here (IsIdle g.B.Naming.plan) c.as_mut_slice.result.now idle i p.now lt),
    )

pub returns-clause-done : goal.returns-clause-done
returns-clause-done g c =
    let same : length c.as_mut_slice.result.now ≡ length c.args.workers.items = ap length c.as_mut_slice.ensures.value in
    let long : length c.for_each_mut.new.s ≡ length c.args.workers.items = search rules in
    let size : c.args.workers.len ≡ length c.args.workers.items = search rules in
    subst (λ (l : List Worker). EachFrom (IsDone sha_hash g.B.Naming.plan c.args.scripts.now) 0 l)
    (sym (written-whole c.args.workers.len c.for_each_mut.new.s c.args.workers.items long (size ∙ sym long)))
    (each-of (IsDone sha_hash g.B.Naming.plan c.args.scripts.now) c.for_each_mut.new.s (λ i d lt.
    let at = (c.for_each_mut.ensures i d (omega (arith, lt, long, same))).1 in
    subst (λ (w : Worker). IsDone sha_hash g.B.Naming.plan c.args.scripts.now i w) at.left at.call))
