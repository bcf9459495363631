-- What the places end as, once a `&mut` to a part of the filled ones has ended.
use Rattle.std.specs.Prelude.{ℕ, List}
use Rattle.std.specs.Borrow.{Fml, RattleType, MutBor, Array, Lends}
use Rattle.pg_rows.specs.Parts.{with_part}
use Rattle.pg_rows.specs.declared.places.Places.{Places}
use Rattle.pg_rows.specs.contracts.places.Places.{the_row}

abbrev pub with_items : {X : Type 0} → Places X → ℕ → ℕ → List X → Places X
with_items places from len part = record { mark = places.mark; at = places.at; items = with_part places.items from len part; empty = places.empty }

abbrev pub lends_items : (R : RattleType) → MutBor (Places R.Denot) → ℕ → ℕ → MutBor (List R.Denot) → Fml
lends_items R places from len result = Lends (the_row R) (Array R 0) places result (with_items places.now from len)
