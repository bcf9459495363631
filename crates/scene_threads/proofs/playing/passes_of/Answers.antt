use Rattle.std.proofs.Common.{ℕ, ◌+◌, List, [], ◌∷◌, ◌++◌, length, append_assoc, length-append, sym, ap, ◌∙◌, subst, arith}
use Rattle.std.specs.Prelude.{IfSome}
use Rattle.std.specs.Vec.Iter.{into_iter_items}
use Rattle.pg_digest.specs.Digests.{sha_hash}
use Rattle.cs_policy.specs.declared.entry.Entry.{Entry}
use Rattle.pg_book.specs.Models.{PassOf}
use Rattle.pg_book.specs.Opening.{EachFrom}
use Rattle.pg_book.proofs.Placing.{each_push}
use Rattle.scene_threads.specs.declared.worker.Worker.{Worker}
use Rattle.scene_threads.specs.Workers.{IsDone, HasPlayedAt}
use Rattle.scene_threads.proofs.EachFacts.{here-of}
use Rattle.scene_threads.proofs.playing.passes_of.Goals as goal

pub unreachable-requires : goal.unreachable-requires
unreachable-requires g c =
    let done : IsDone sha_hash g.B.Naming.plan c.args.scripts.now (length c.loop-worker.yielded) c.in-Some.worker =
    here-of (IsDone sha_hash g.B.Naming.plan c.args.scripts.now) c.loop-worker.yielded c.in-Some.worker (into_iter_items c.next.new.self) (into_iter_items c.loop-worker.worker-iterator) c.args.workers.items
    c.in-Some.ensures.steps.0 c.loop-worker.invariant.0 c.requires.done in
    c.in_default.not-Some done.pass done.has

pub loop-worker-preserved : goal.loop-worker-preserved
loop-worker-preserved g c =
    let at = c.loop-worker in
    let done : IsDone sha_hash g.B.Naming.plan c.args.scripts.now (length at.yielded) c.in-Some.worker =
    here-of (IsDone sha_hash g.B.Naming.plan c.args.scripts.now) at.yielded c.in-Some.worker (into_iter_items c.next.new.self) (into_iter_items at.worker-iterator) c.args.workers.items
    c.in-Some.ensures.steps.0 at.invariant.0 c.requires.done in
    let one : HasPlayedAt sha_hash g.B.Naming.plan c.args.scripts.now (length at.yielded) c.in-Some-pass.pass =
    subst (λ o. IfSome o (HasPlayedAt sha_hash g.B.Naming.plan c.args.scripts.now (length at.yielded))) (sym done.has ∙ c.in-Some-pass.is) (done.played c.if-not-played.false) in (
      append_assoc at.yielded (c.in-Some.worker ∷ []) _ ∙ sym (ap (λ (l : List Worker). at.yielded ++ l) c.in-Some.ensures.steps.0) ∙ at.invariant.0,
      ap length c.in_ok-push.ensures.items ∙ length-append at.passes.items (c.in-Some-pass.pass ∷ []) ∙ ap (λ (n : ℕ). n + 1) at.invariant.1 ∙ sym (length-append at.yielded (c.in-Some.worker ∷ [])),
      subst (λ (l : List (PassOf Entry)). EachFrom (HasPlayedAt sha_hash g.B.Naming.plan c.args.scripts.now) 0 l) (sym c.in_ok-push.ensures.items)
          (each_push (HasPlayedAt sha_hash g.B.Naming.plan c.args.scripts.now) 0 (length at.yielded) at.passes.items c.in-Some-pass.pass at.invariant.2 (omega (arith, at.invariant.1)) one),
    )
