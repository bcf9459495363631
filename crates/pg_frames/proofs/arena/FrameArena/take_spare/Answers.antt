use Rattle.std.proofs.Common.{ap, sym, ◌∙◌, subst, length, ◌+◌}
use Rattle.pg_frames.specs.Arena.{IsSound}
use Rattle.pg_frames.proofs.ArenaFacts.{sound-from_arena, first_free, was_free, taken, taken_held, still_sound, fewer}
use Rattle.pg_frames.proofs.arena.FrameArena.take_spare.Goals as goal

pub returns-in_err-frame-clause-sound : goal.returns-in_err-frame-clause-sound
returns-in_err-frame-clause-sound c = let i = c.self.inside in subst IsSound c.self.view_is (sound-from_arena i.bytes i.page i.links c.self.invariant)

pub detach-requires : goal.detach-requires
detach-requires c = let i = c.self.inside in
    first_free i.bytes i.page i.links c.args.self.now c.self.view_is c.self.invariant c.in_ok-frame.frame (sym c.first_free.ensures ∙ c.in_ok-frame.was)

pub returns-clause-takes : goal.returns-clause-takes
returns-clause-takes c = let i = c.self.inside in
    taken i.bytes i.page i.links c.args.self.now c.self.view_is c.in_ok-frame.frame c.detach.new.self c.detach.ensures.detaches c.self.invariant (sym c.first_free.ensures ∙ c.in_ok-frame.was)

pub returns-clause-was_free : goal.returns-clause-was_free
returns-clause-was_free c = let i = c.self.inside in was_free i.bytes i.page i.links c.args.self.now c.self.view_is c.in_ok-frame.frame (sym c.first_free.ensures ∙ c.in_ok-frame.was)

pub returns-clause-held : goal.returns-clause-held
returns-clause-held c = let i = c.self.inside in
    taken_held i.bytes i.page i.links c.args.self.now c.self.view_is c.in_ok-frame.frame c.detach.new.self c.detach.ensures.detaches c.self.invariant (sym c.first_free.ensures ∙ c.in_ok-frame.was)

pub returns-clause-queue : goal.returns-clause-queue
returns-clause-queue c = ap (λ a. a.queue) (returns-clause-takes c)

pub returns-clause-sound : goal.returns-clause-sound
returns-clause-sound c = let i = c.self.inside in
    still_sound i.bytes i.page i.links c.args.self.now c.self.view_is c.detach.new.self (ap (λ q. q.count) c.detach.ensures.detaches) c.detach.ensures.order c.self.invariant

pub returns-clause-fewer : goal.returns-clause-fewer
returns-clause-fewer c = let i = c.self.inside in
    ap (λ a. length a.free + 1) (returns-clause-takes c) ∙ fewer i.bytes i.page i.links c.args.self.now c.self.view_is c.in_ok-frame.frame (sym c.first_free.ensures ∙ c.in_ok-frame.was)
