use Rattle.std.proofs.Common.{◌≡◌, take}
use Rattle.std.specs.String.{string_bytes}
use Rattle.std.specs.List.{flat_map, enumerate_from}
use Rattle.cs_verify.specs.Text.{slice_lines}
use Rattle.cs_verify.proofs.text.verify_text.Given as goal

abbrev pub invariant-loop-i : goal.invariant-loop-i
invariant-loop-i l = string_bytes l.text ≡ flat_map (λ numbered. slice_lines numbered.0 numbered.1) (take l.i (enumerate_from 0 l.reports))
