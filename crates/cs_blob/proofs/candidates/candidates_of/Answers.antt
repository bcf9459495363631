use Rattle.std.proofs.Common.{sym, arith}
use Rattle.std.proofs.lemmas.List.Elements.{All-push}
use Rattle.cs_blob.specs.Signed.{IsCandidate}
use Rattle.cs_blob.proofs.RuleFacts.{KeptBefore-next}
use Rattle.cs_blob.proofs.CandidateFacts.{among-more}
use Rattle.cs_blob.proofs.candidates.candidates_of.Goals as goal

pub loop-seat-preserved : goal.loop-seat-preserved
loop-seat-preserved c = record {
  found = rw (c.in_ok-push.ensures.items, c.loop-seat.invariant.found, c.in_ok-candidate_at.ensures.found) (sym (among-more c.args.bytes.now c.args.seats.now c.loop-seat.seat-index _ (omega arith)));
  sound = rw c.in_ok-push.ensures.items (All-push (IsCandidate c.args.bytes.now) _ _ c.loop-seat.invariant.sound c.in_ok-candidate_at.ensures.sound);
  kept = KeptBefore-next _ _ c.loop-seat.seat-index _ c.loop-seat.invariant.kept (omega arith) c.in_ok-candidate_at.ensures.tries;
}
