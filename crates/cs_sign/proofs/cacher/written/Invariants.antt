use Rattle.std.proofs.Common.{◌≡◌, ◌++◌}
use Rattle.std.specs.List.{flat_map}
use Rattle.cs_sign.specs.Caches.{entry_bytes, trust_cache}
use Rattle.cs_sign.proofs.cacher.written.Given as goal

abbrev pub invariant-loop-hash : goal.invariant-loop-hash
invariant-loop-hash l = l.out.items ++ flat_map (entry_bytes l.version) l.hash-iterator ≡ trust_cache l.version l.uuid l.fn.set.keys
