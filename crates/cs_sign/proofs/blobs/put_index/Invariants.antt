use Rattle.std.proofs.Common.{◌≡◌, ◌++◌, ◌+◌, drop}
use Rattle.cs_sign.specs.Blobs.{index, parts_length}
use Rattle.cs_sign.proofs.blobs.put_index.Given as goal

abbrev pub invariant-loop-part : goal.invariant-loop-part
invariant-loop-part l = record {
  put : l.out.items ++ index l.at (drop l.part-index l.parts) ≡ l.fn.out.items ++ index l.fn.at l.parts;
  place : l.at + parts_length (drop l.part-index l.parts) ≡ l.fn.at + parts_length l.parts;
}
