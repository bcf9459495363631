use Rattle.std.proofs.Common.{arith}
use Rattle.std.proofs.lemmas.Result.{err_from_is_err_and}
use Rattle.pg_bytes.proofs.CountFacts.{RoseBy-none}
use Rattle.cs_blob.proofs.RuleFacts.{slots_start, slots_next, slots_broken, slots_end}
use Rattle.cs_blob.proofs.DigestFacts.{next_slot, special_blobs-zero}
use Rattle.cs_blob.proofs.checks.specials.Goals as goal

pub returns-in_err-special-clause-tries : goal.returns-in_err-special-clause-tries
returns-in_err-special-clause-tries g c =
    let exit = err_from_is_err_and c.from_residual.result c.from_residual.ensures.1 in
    rw (exit.1, exit.2) (slots_broken _ c.loop-slot.slot _ c.loop-slot.invariant.kept (omega arith) (omega arith) c.in_err-special.ensures.tries)

pub loop-slot-init : goal.loop-slot-init
loop-slot-init g c = record {
  kept = slots_start _;
  digests = rw (special_blobs-zero c.args.entries.now) (RoseBy-none _);
}

pub loop-slot-preserved : goal.loop-slot-preserved
loop-slot-preserved g c = record {
  kept = slots_next _ c.loop-slot.slot c.loop-slot.invariant.kept (omega arith) (omega arith) c.in_ok-special.ensures.tries;
  digests = rw (next_slot c.loop-slot.slot) (c.in_ok-special.ensures.digests _ c.loop-slot.invariant.digests);
}

pub returns-clause-tries : goal.returns-clause-tries
returns-clause-tries g c = slots_end _ c.loop-slot.slot c.loop-slot.invariant.kept (omega arith)
