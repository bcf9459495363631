use Rattle.std.proofs.Common.{◌≡◌, ◌++◌, take}
use Rattle.std.specs.String.{string_bytes}
use Rattle.std.specs.List.{flat_map}
use Rattle.cs_verify.specs.Text.{page_line}
use Rattle.cs_verify.proofs.text.put_bad.Given as goal

abbrev pub invariant-loop-page : goal.invariant-loop-page
invariant-loop-page l = string_bytes l.text ≡ string_bytes l.fn.text ++ flat_map (page_line l.i) (take l.page-index l.bad)
