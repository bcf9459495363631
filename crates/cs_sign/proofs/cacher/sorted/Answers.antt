use Rattle.std.proofs.Common.{sym, ◌∙◌}
use Rattle.std.proofs.lemmas.List.{get_or_default}
use Rattle.cs_sign.proofs.CacheFacts.{listed-more, listed-none}
use Rattle.cs_sign.proofs.cacher.sorted.Goals as goal

pub loop-hash-init : goal.loop-hash-init
loop-hash-init c = c.new-set.ensures.empty ∙ sym listed-none

pub loop-hash-preserved : goal.loop-hash-preserved
loop-hash-preserved c =
    listed-more c.args.hashes.now c.loop-hash.hash-index _ _ _ c.loop-hash-test.true
    (get_or_default c.args.hashes.now c.loop-hash.hash-index _ _ c.loop-hash-test.true) c.loop-hash.invariant c.in_ok-insert.ensures.keys
