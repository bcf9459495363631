-- What a row ends as, once a `&mut` to a part of it has ended.
use Rattle.std.specs.Prelude.{ℕ, List}
use Rattle.std.specs.Borrow.{Fml, RattleType, MutBor, Array, Lends}
use Rattle.pg_rows.specs.Parts.{with_part}
use Rattle.pg_rows.specs.contracts.row.Row.{the_row}

abbrev pub LendsPart : (R : RattleType) → MutBor (List R.Denot) → ℕ → ℕ → MutBor (List R.Denot) → Fml
LendsPart R row from len result = Lends (the_row R) (Array R 0) row result (with_part row.now from len)
