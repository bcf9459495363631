use Rattle.std.proofs.Common.{◌≡◌, ◌*◌, ◌≤◌, [], length, drop, map, string_bytes, Some}
use Rattle.pg_digest.specs.Digests.{sha_hash}
use Rattle.pg_io.specs.Files.{Told}
use Rattle.cs_sign.specs.Reading.{cached, finds, after_reads}
use Rattle.cs_sign.proofs.ReadingFacts.{Taken}
use Rattle.cs_sign.proofs.reading.cached.Given as goal

abbrev pub invariant-loop-item : goal.invariant-loop-item
invariant-loop-item g l = record {
  told : (told : Told) → g.F.Files.tells l.fn.files ≡ Some told →
      (g.F.Files.tells l.files ≡ Some (after_reads l.item told))
      × (cached sha_hash l.item (finds (after_reads l.item told) (drop l.item (map string_bytes l.paths))) l.found.items ≡ cached sha_hash 0 (finds told (map string_bytes l.paths)) []);
  taken : Taken sha_hash l.item l.found.items;
  faults : g.F.Files.faults l.files ≡ g.F.Files.faults l.fn.files;
  few : length l.found.items ≤ 32 * l.item;
}
