use Rattle.std.proofs.Common.{◌≡◌, sym, arith}
use Rattle.std.proofs.lemmas.List.FromFn.{map-range_with_len_more}
use Rattle.cs_trust.specs.Layout.{entry_at}
use Rattle.cs_trust.proofs.RuleFacts.{entries_are, entry_place-rises}
use Rattle.cs_trust.proofs.grammar.entries_of.Goals as goal

pub loop-place-preserved : goal.loop-place-preserved
loop-place-preserved c =
    rw (c.in_ok-push.ensures.items, c.loop-place.invariant, c.entry_at.ensures)
    (sym (map-range_with_len_more (entry_at c.args.bytes.now) 0 c.loop-place.place c.loop-place.place (omega arith)))

pub entry_at-requires-clause-within : goal.entry_at-requires-clause-within
entry_at-requires-clause-within c =
    omega (arith, c.requires.length, entry_place-rises c.args.frame.version c.loop-place.place c.args.frame.count (omega arith))

pub returns : goal.returns
returns c =
    let done : c.loop-place.place ≡ c.args.frame.count = omega arith in
    entries_are _ _ _ c.requires.count (rw done at c.loop-place.invariant)
