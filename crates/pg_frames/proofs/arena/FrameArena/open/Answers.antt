use Rattle.std.proofs.Common.{◌+◌, ◌*◌, ap, sym, ◌∙◌, length, arith}
use Rattle.std.proofs.lemmas.List.{length-replicate}
use Rattle.pg_frames.proofs.BlockFacts.{length_pages}
use Rattle.pg_frames.proofs.ArenaFacts.{sound-from_arena, opened_arena}
use Rattle.pg_frames.proofs.arena.FrameArena.open.Goals as goal

pub returns-clause-opened : goal.returns-clause-opened
returns-clause-opened c = opened_arena c.args.limit c.args.page c.in_ok-bytes.bytes c.in_ok-links.links c.in_ok-bytes.ensures.filled c.in_ok-links.ensures.opened

pub returns-clause-count : goal.returns-clause-count
returns-clause-count c = length_pages c.in_ok-links.links.count c.args.page c.in_ok-bytes.bytes ∙ ap (λ q. q.count) c.in_ok-links.ensures.opened

pub returns-clause-sound : goal.returns-clause-sound
returns-clause-sound c = let count = ap (λ q. q.count) c.in_ok-links.ensures.opened in
    sound-from_arena c.in_ok-bytes.bytes c.args.page c.in_ok-links.links (record {
      size = c.requires.page;
      some = omega (arith, count, c.requires.some);
      most = omega (arith, count, c.requires.most);
      long = ap length c.in_ok-bytes.ensures.filled ∙ length-replicate ((c.args.limit + 1) * c.args.page) 0 ∙ ap (λ n. n * c.args.page) (sym count);
      order = c.in_ok-links.ensures.order;
    })
