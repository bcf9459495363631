-- The memory of a book before its names are registered.
use Rattle.std.specs.Prelude.{◌≡◌, ◌≢◌, ℕ, ◌<◌, ◌^◌, List, [], length, vec_len, vec_capacity}
use Rattle.std.specs.Arc.{arc_value}
use Rattle.atomic_table.specs.Seated.{TableId}
use Rattle.atomic_table.specs.Table.{Me}
use Rattle.pg_book.specs.declared.needs.Needs.{Needs}
use Rattle.pg_book.specs.declared.open.PartRoom.{PartRoom}
use Rattle.pg_book.specs.declared.open.Prepared.{Prepared}
use Rattle.pg_book.specs.declared.open.Missed.{Missed}
use Rattle.pg_book.specs.declared.view.View.{View}
use Rattle.pg_book.specs.Needs.{parts_of, names_of, all_entries, part_entries}
use Rattle.pg_book.specs.Kinds.{first}
use Rattle.pg_book.specs.Steps.{IsSeatOf}
use Rattle.pg_book.specs.Opening.{EachFrom}

module _ {E : Type 0} where
  -- an empty list with this room, beside the table
  pub record IsPartRoom (table : TableId) (room : ℕ) (r : PartRoom E) : Type 0 where
    pub same : (arc_value r.table).shared.table_id ≡ table
    pub empty : r.entries.items ≡ []
    pub count : vec_len r.entries ≡ 0
    pub roomy : vec_capacity r.entries ≡ room

  -- the first seat, room for each part, and room for the spines and passes
  pub record IsPrepared (needs : List (List Needs)) (p : Prepared E) : Type 0 where
    pub seat : IsSeatOf (arc_value p.table).shared.table_id p.seat.table_id
    pub view : p.seat.me ≡ (first needs, [])
    pub room_count : length p.rooms.items ≡ parts_of needs
    pub rooms_are : EachFrom (λ k r. IsPartRoom p.seat.table_id (part_entries needs k) r) 0 p.rooms.items
    pub no_spines : (p.spines.items ≡ []) × (vec_len p.spines ≡ 0)
    pub no_passes : (p.passes.items ≡ []) × (vec_len p.passes ≡ 0)
    pub spine_room : vec_capacity p.spines ≡ parts_of needs
    pub pass_room : vec_capacity p.passes ≡ length needs

  -- the first view, of a seat that has no slot
  pub record IsFirst (me : Me (Unit {0}) (View E)) : Type 0 where
    pub is : me ≡ (first me.0.needs, [])
    pub small : all_entries me.0.needs < 2 ^ 63

-- the number that was wanted is that of a name, and another was found
pub record IsMissed (needs : List (List Needs)) (m : Missed) : Type 0 where
  pub name : m.wanted < names_of needs
  pub other : m.found ≢ m.wanted
