use Rattle.std.proofs.Common.{ap, ◌∙◌, length}
use Rattle.pg_frames.proofs.ArenaFacts.{inside, mid_inside, off_queue, off_free, given_back, still_sound, shorter}
use Rattle.pg_frames.proofs.arena.FrameArena.give_back.Goals as goal

pub detach-requires : goal.detach-requires
detach-requires c = let i = c.self.inside in inside i.bytes i.page i.links c.args.self.now c.self.view_is c.args.frame c.requires.in_range

pub put_free-requires-clause-inside : goal.put_free-requires-clause-inside
put_free-requires-clause-inside c = let i = c.self.inside in
    mid_inside i.bytes i.page i.links c.args.self.now c.self.view_is c.args.frame c.detach.new.self c.detach.ensures.detaches c.requires.in_range

pub put_free-requires-clause-not_queued : goal.put_free-requires-clause-not_queued
put_free-requires-clause-not_queued c = let i = c.self.inside in
    off_queue i.bytes i.page i.links c.args.self.now c.self.view_is c.args.frame c.detach.new.self c.detach.ensures.detaches

pub put_free-requires-clause-not_free : goal.put_free-requires-clause-not_free
put_free-requires-clause-not_free c = let i = c.self.inside in
    off_free i.bytes i.page i.links c.args.self.now c.self.view_is c.args.frame c.detach.new.self c.detach.ensures.detaches

pub returns-clause-gives : goal.returns-clause-gives
returns-clause-gives c = let i = c.self.inside in
    given_back i.bytes i.page i.links c.args.self.now c.self.view_is c.args.frame c.detach.new.self c.detach.ensures.detaches c.requires.not_free c.put_free.new.self c.put_free.ensures.puts

pub returns-clause-free : goal.returns-clause-free
returns-clause-free c = ap (λ a. a.free) (returns-clause-gives c)

pub returns-clause-sound : goal.returns-clause-sound
returns-clause-sound c = let i = c.self.inside in
    still_sound i.bytes i.page i.links c.args.self.now c.self.view_is c.put_free.new.self (ap (λ q. q.count) c.put_free.ensures.puts ∙ ap (λ q. q.count) c.detach.ensures.detaches) c.put_free.ensures.order c.self.invariant

pub returns-clause-length : goal.returns-clause-length
returns-clause-length c = let i = c.self.inside in
    ap (λ a. length a.queue) (returns-clause-gives c) ∙ shorter i.bytes i.page i.links c.args.self.now c.self.view_is c.self.invariant c.args.frame
