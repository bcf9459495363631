use Rattle.std.proofs.Common.{ap, sym, ◌∙◌, subst, refl, [], get_or, arith}
use Rattle.pg_frames.specs.Arena.{IsSound}
use Rattle.pg_frames.proofs.BlockFacts.{within, pages_at}
use Rattle.pg_frames.proofs.ArenaFacts.{sound-from_arena, inside, written}
use Rattle.pg_frames.proofs.arena.FrameArena.bytes_mut.Goals as goal

pub slice_mut-requires : goal.slice_mut-requires
slice_mut-requires c = let i = c.self.inside in
    let lt = inside i.bytes i.page i.links c.args.self.now c.self.view_is c.args.frame c.requires.in_range in
    omega (arith, within c.args.frame i.links.count i.page lt, c.self.invariant.long)

pub returns : goal.returns
returns c = let i = c.self.inside in
    let lt = inside i.bytes i.page i.links c.args.self.now c.self.view_is c.args.frame c.requires.in_range in (
      (refl, written i.bytes i.page i.links c.args.self.now c.self.view_is c.self.invariant c.args.frame lt),
      record {
        after_borrow = tt;
        bytes = c.slice_mut.ensures.value ∙ sym (pages_at i.links.count i.page i.bytes c.args.frame [] lt) ∙ ap (λ a. get_or a.frames c.args.frame []) c.self.view_is;
        whole = c.slice_mut.ensures.long ∙ ap (λ a. a.page) c.self.view_is;
        sound = subst IsSound c.self.view_is (sound-from_arena i.bytes i.page i.links c.self.invariant);
      },
    )
