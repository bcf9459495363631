use Rattle.std.proofs.Common.{◌≡◌, ◌+◌, replicate}
use Rattle.pg_rows.proofs.row.Row.filled.Given as goal

abbrev pub invariant-loop-filled : goal.invariant-loop-filled
invariant-loop-filled g l = (l.places.at ≡ l.start.ptr) × (l.places.items ≡ replicate l.filled l.value) × (l.places.empty + l.filled ≡ l.len)
