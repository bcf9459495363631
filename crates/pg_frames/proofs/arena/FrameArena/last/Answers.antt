use Rattle.std.proofs.Common.{subst, ◌≡◌, true, [], ◌∷◌, ◌++◌}
use Rattle.pg_frames.specs.Queues.{stands, without}
use Rattle.pg_frames.specs.Arena.{IsQueued, IsSound}
use Rattle.pg_frames.proofs.ArenaFacts.{sound-from_arena, queued, ends, if_some, if_last}
use Rattle.pg_frames.proofs.arena.FrameArena.last.Goals as goal

pub returns-clause-queued : goal.returns-clause-queued
returns-clause-queued c = let i = c.self.inside in
    if_some c.last_queued.result (λ frame. stands frame i.links.queue ≡ true) (IsQueued c.args.self.now)
    (queued i.bytes i.page i.links c.args.self.now c.self.view_is c.self.invariant) c.last_queued.ensures.queued

pub returns-clause-sound : goal.returns-clause-sound
returns-clause-sound c = let i = c.self.inside in subst IsSound c.self.view_is (sound-from_arena i.bytes i.page i.links c.self.invariant)

pub returns-clause-ends : goal.returns-clause-ends
returns-clause-ends c = let i = c.self.inside in
    if_last c.last_queued.result i.links.queue (λ frame. c.args.self.now.queue ≡ without frame c.args.self.now.queue ++ frame ∷ []) c.last_queued.ensures.last
    (ends i.bytes i.page i.links c.args.self.now c.self.view_is c.self.invariant)
