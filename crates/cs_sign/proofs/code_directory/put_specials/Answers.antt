use Rattle.std.proofs.Common.{ℕ, ◌-◌}
use Rattle.cs_sign.specs.Directory.{special_hash}
use Rattle.cs_sign.proofs.PieceFacts.{piece_added}
use Rattle.cs_sign.proofs.code_directory.put_specials.Goals as goal

pub loop-later-preserved : goal.loop-later-preserved
loop-later-preserved g c =
    piece_added (λ (later : ℕ). special_hash g.D.Digester.hash c.args.parts.now (c.args.slots - later)) _ _ _ _ _ c.loop-later-test.true c.loop-later.invariant c.in_ok-put_special.ensures
