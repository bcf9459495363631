use Rattle.std.proofs.Common.{ap, ◌∙◌, length, arith}
use Rattle.pg_frames.proofs.ArenaFacts.{inside, mid_inside, off_queue, off_free, touched, still_sound, shorter}
use Rattle.pg_frames.proofs.arena.FrameArena.touch.Goals as goal

pub detach-requires : goal.detach-requires
detach-requires c = let i = c.self.inside in inside i.bytes i.page i.links c.args.self.now c.self.view_is c.args.frame c.requires.in_range

pub put_queued-requires-clause-inside : goal.put_queued-requires-clause-inside
put_queued-requires-clause-inside c = let i = c.self.inside in
    mid_inside i.bytes i.page i.links c.args.self.now c.self.view_is c.args.frame c.detach.new.self c.detach.ensures.detaches c.requires.in_range

pub put_queued-requires-clause-not_queued : goal.put_queued-requires-clause-not_queued
put_queued-requires-clause-not_queued c = let i = c.self.inside in
    off_queue i.bytes i.page i.links c.args.self.now c.self.view_is c.args.frame c.detach.new.self c.detach.ensures.detaches

pub put_queued-requires-clause-not_free : goal.put_queued-requires-clause-not_free
put_queued-requires-clause-not_free c = let i = c.self.inside in
    off_free i.bytes i.page i.links c.args.self.now c.self.view_is c.args.frame c.detach.new.self c.detach.ensures.detaches

pub returns-clause-touches : goal.returns-clause-touches
returns-clause-touches c = let i = c.self.inside in
    touched i.bytes i.page i.links c.args.self.now c.self.view_is c.args.frame c.detach.new.self c.detach.ensures.detaches c.requires.not_free c.put_queued.new.self c.put_queued.ensures.puts

pub returns-clause-free : goal.returns-clause-free
returns-clause-free c = ap (λ a. a.free) (returns-clause-touches c)

pub returns-clause-sound : goal.returns-clause-sound
returns-clause-sound c = let i = c.self.inside in
    still_sound i.bytes i.page i.links c.args.self.now c.self.view_is c.put_queued.new.self (ap (λ q. q.count) c.put_queued.ensures.puts ∙ ap (λ q. q.count) c.detach.ensures.detaches) c.put_queued.ensures.order c.self.invariant

pub returns-clause-length : goal.returns-clause-length
returns-clause-length c = let i = c.self.inside in
    omega (arith, ap (λ a. length a.queue) (returns-clause-touches c), shorter i.bytes i.page i.links c.args.self.now c.self.view_is c.self.invariant c.args.frame)
