use Rattle.std.proofs.Common.{◌≡◌, ◌+◌, ◌-◌, refl, arith}
use Rattle.cs_trust.specs.Layout.{entry_at}
use Rattle.cs_trust.proofs.grammar.entry_at.Goals as goal

pub returns : goal.returns
unfolding entry_at
returns c =
    let one : c.place_of_entry-at.result + 20 - c.place_of_entry-at.result ≡ 20 = omega arith in
    rw (c.copy_from_slice.ensures.after, one, c.more_at.ensures, c.place_of_entry-at.ensures.value, c.requires.version) refl
