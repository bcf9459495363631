use Rattle.std.proofs.Common.{◌≡◌, All, take}
use Rattle.cs_blob.specs.Candidates.{among}
use Rattle.cs_blob.specs.Rules.{directory_rule}
use Rattle.cs_blob.specs.Signed.{IsCandidate}
use Rattle.cs_blob.proofs.RuleFacts.{KeptBefore}
use Rattle.cs_blob.proofs.candidates.candidates_of.Given as goal

abbrev pub invariant-loop-seat : goal.invariant-loop-seat
invariant-loop-seat l = record {
  found : l.found.items ≡ among l.bytes (take l.seat-index l.seats);
  sound : All (IsCandidate l.bytes) l.found.items;
  kept : KeptBefore (directory_rule l.bytes) l.seats l.seat-index;
}
