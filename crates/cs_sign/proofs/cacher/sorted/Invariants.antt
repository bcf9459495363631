use Rattle.std.proofs.Common.{◌≡◌, take}
use Rattle.cs_sign.specs.Caches.{listed}
use Rattle.cs_sign.proofs.cacher.sorted.Given as goal

abbrev pub invariant-loop-hash : goal.invariant-loop-hash
invariant-loop-hash l = l.set.keys ≡ listed (take l.hash-index l.hashes)
