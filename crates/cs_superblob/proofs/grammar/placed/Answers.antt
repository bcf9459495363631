use Rattle.std.proofs.Common.{sym, arith}
use Rattle.std.proofs.lemmas.Result.{err_from_is_err_and}
use Rattle.std.proofs.lemmas.List.FromFn.{map-range_with_len_more}
use Rattle.cs_superblob.specs.Layout.{seat_at}
use Rattle.pg_bytes.proofs.RuleFacts.{KeptBelow-next, broken_here}
use Rattle.cs_superblob.proofs.grammar.placed.Goals as goal

pub returns-in_err-placed_entry-clause-refused : goal.returns-in_err-placed_entry-clause-refused
returns-in_err-placed_entry-clause-refused c =
    let exit = err_from_is_err_and c.from_residual-in_err-placed_entry.result c.from_residual-in_err-placed_entry.ensures.1 in
    let here = c.in_err-placed_entry.ensures.out in
    rw (exit.1, exit.2, here.value) (broken_here _ _ _ c.loop-i.invariant.kept (omega arith) here.outside)

pub loop-i-preserved : goal.loop-i-preserved
loop-i-preserved c =
    let here = c.in_ok-placed_entry.ensures.placed in
    record {
      found = rw (c.in_ok-push.ensures.items, c.loop-i.invariant.found, here.value) (sym (map-range_with_len_more (seat_at c.args.bytes.now) 0 c.loop-i.i c.loop-i.i (omega arith)));
      kept = KeptBelow-next _ _ _ c.loop-i.invariant.kept (omega arith) here.inside;
    }
