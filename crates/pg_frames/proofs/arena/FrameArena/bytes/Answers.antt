use Rattle.std.proofs.Common.{◌≡◌, ◌+◌, ◌-◌, ◌*◌, ap, sym, ◌∙◌, subst, take, drop, [], length, get_or, arith}
use Rattle.pg_frames.specs.Arena.{IsSound}
use Rattle.pg_frames.proofs.BlockFacts.{within, pages_at}
use Rattle.pg_frames.proofs.ArenaFacts.{sound-from_arena, inside}
use Rattle.pg_frames.proofs.arena.FrameArena.bytes.Goals as goal

pub slice_bounds-result-end : goal.slice_bounds-result-end
slice_bounds-result-end c = let i = c.self.inside in
    let lt = inside i.bytes i.page i.links c.args.self.now c.self.view_is c.args.frame c.requires.in_range in
    omega (arith, within c.args.frame i.links.count i.page lt, c.self.invariant.long, ap length c.as_slice.ensures)

pub returns-clause-bytes : goal.returns-clause-bytes
returns-clause-bytes c = let i = c.self.inside in let from = c.args.frame * i.page in
    let lt = inside i.bytes i.page i.links c.args.self.now c.self.view_is c.args.frame c.requires.in_range in
    let len : from + i.page - from ≡ i.page = omega arith in
    (λ j. take (len j) (drop from (c.as_slice.ensures j))) ∙ sym (pages_at i.links.count i.page i.bytes c.args.frame [] lt) ∙ ap (λ a. get_or a.frames c.args.frame []) c.self.view_is

pub returns-clause-sound : goal.returns-clause-sound
returns-clause-sound c = let i = c.self.inside in subst IsSound c.self.view_is (sound-from_arena i.bytes i.page i.links c.self.invariant)
