use Rattle.std.proofs.Common.{rules, ◌≡◌, ◌≤◌, length, sym, ap, subst, ◌∙◌}
use Rattle.std.specs.Prelude.{IfSome}
use Rattle.pg_digest.specs.Digests.{sha_hash}
use Rattle.pg_book.specs.Opening.{EachFrom}
use Rattle.pg_parts.specs.Opened.{opening_in}
use Rattle.pg_shared.specs.Plan.{Plan}
use Rattle.pg_shared.specs.Opening.{IsNewPassOf}
use Rattle.scene_run.specs.Runs.{IsSound}
use Rattle.scene_threads.specs.Workers.{MayPlay}
use Rattle.scene_threads.proofs.HistoryFacts.{passes-played, sound-if-told}
use Rattle.scene_threads.proofs.running.run_named.Goals as goal

pub play_all-requires-clause-may : goal.play_all-requires-clause-may
play_all-requires-clause-may g c = λ κs lives. subst (λ (p : Plan). MayPlay p c.args.scripts.now) (sym c.requires.name) c.requires.may

pub play_all-requires-clause-new : goal.play_all-requires-clause-new
play_all-requires-clause-new g c = λ κs lives.
    subst (λ (p : Plan). EachFrom (IsNewPassOf p) 0 c.args.passes.items) (sym c.requires.name) c.requires.opened.each

pub close-requires-clause-passes : goal.close-requires-clause-passes
close-requires-clause-passes g c =
    let needs : length c.args.ready.start.needs ≡ length g.B.Naming.plan.start.needs = ap (λ (p : Plan). length p.start.needs) (sym c.requires.name) in
    passes-played sha_hash g.B.Naming.plan c.args.scripts.now c.in_ok-passes.passes.items
    (c.in_ok-passes.ensures.count ∙ c.requires.opened.count ∙ needs) c.in_ok-passes.ensures.played

pub returns : goal.returns
returns g c =
    let needs : length c.args.ready.start.needs ≡ length g.B.Naming.plan.start.needs = ap (λ (p : Plan). length p.start.needs) (sym c.requires.name) in
    let behind : length c.args.scripts.now ≤ length c.in_ok-passes.passes.items = search rules in
    subst (λ (p : Plan). IfSome (opening_in p.start) (λ o. IsSound sha_hash o c.args.scripts.now c.in_ok-closed.closed.history.items)) c.requires.name
    (sound-if-told sha_hash g.B.Naming.plan c.args.scripts.now c.in_ok-passes.passes.items c.in_ok-closed.closed.history.items _ behind
    (c.in_ok-passes.ensures.count ∙ c.requires.opened.count ∙ needs) c.in_ok-passes.ensures.played c.in_ok-closed.ensures.closed c.requires.few)
