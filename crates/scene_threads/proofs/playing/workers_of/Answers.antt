use Rattle.std.proofs.Common.{◌≡◌, ℕ, ◌+◌, List, [], ◌∷◌, ◌++◌, length, append_assoc, length-append, refl, sym, ap, ◌∙◌, subst, arith}
use Rattle.std.specs.Vec.Iter.{into_iter_items}
use Rattle.cs_policy.specs.declared.entry.Entry.{Entry}
use Rattle.pg_book.specs.Models.{PassOf}
use Rattle.pg_book.specs.Opening.{EachFrom}
use Rattle.pg_book.proofs.Placing.{each_push, each_at}
use Rattle.pg_shared.specs.Opening.{IsNewPassOf}
use Rattle.scene_threads.specs.declared.worker.Worker.{Worker}
use Rattle.scene_threads.specs.Workers.{IsIdle}
use Rattle.scene_threads.proofs.playing.workers_of.Goals as goal

pub loop-pass-preserved : goal.loop-pass-preserved
loop-pass-preserved g c =
    let at = c.loop-pass in
    let plan = g.B.Naming.plan in
    let steps : into_iter_items at.pass-iterator ≡ c.in-Some.pass ∷ into_iter_items c.next.new.self = c.in-Some.ensures.steps.0 in
    let whole : at.yielded ++ c.in-Some.pass ∷ into_iter_items c.next.new.self ≡ c.args.passes.items =
    sym (ap (λ l. at.yielded ++ l) steps) ∙ at.invariant.0 in
    let place : 0 + length at.yielded ≡ length at.yielded = omega arith in
    let new : IsNewPassOf plan (length at.yielded) c.in-Some.pass =
    subst (λ k. IsNewPassOf plan k c.in-Some.pass) place
    (each_at (IsNewPassOf plan) 0 at.yielded (into_iter_items c.next.new.self) c.in-Some.pass
    (subst (λ (l : List (PassOf Entry)). EachFrom (IsNewPassOf plan) 0 l) (sym whole) c.requires.new)) in (
      append_assoc at.yielded (c.in-Some.pass ∷ []) _ ∙ whole,
      ap length c.in_ok-push.ensures.items ∙ length-append at.workers.items _ ∙ ap (λ (n : ℕ). n + 1) at.invariant.1 ∙ sym (length-append at.yielded (c.in-Some.pass ∷ [])),
      subst (λ (l : List Worker). EachFrom (IsIdle plan) 0 l) (sym c.in_ok-push.ensures.items)
          (each_push (IsIdle plan) 0 (length at.yielded) at.workers.items _ at.invariant.2 (omega (arith, at.invariant.1))
          (record { pass = c.in-Some.pass; has = refl; new = new })),
    )
