use Rattle.std.proofs.Common.{◌≡◌, ◌++◌, ◌-◌}
use Rattle.std.specs.List.{flat_map, range_with_len}
use Rattle.cs_sign.specs.Directory.{special_hash}
use Rattle.cs_sign.proofs.code_directory.put_specials.Given as goal

abbrev pub invariant-loop-later : goal.invariant-loop-later
invariant-loop-later g l =
    l.out.items ++ flat_map (λ later. special_hash g.D.Digester.hash l.parts (l.slots - later)) (range_with_len l.later (l.slots - l.later))
    ≡ l.fn.out.items ++ flat_map (λ later. special_hash g.D.Digester.hash l.parts (l.slots - later)) (range_with_len 0 l.slots)
