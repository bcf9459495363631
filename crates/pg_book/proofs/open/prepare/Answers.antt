use Rattle.std.proofs.Common.{◌≡◌, List, length, sym, ap, ◌∙◌, subst}
use Rattle.std.specs.Arc.{arc_value}
use Rattle.std.specs.Global.{Vec}
use Rattle.atomic_table.specs.Seated.{TableId}
use Rattle.pg_book.specs.declared.needs.Needs.{Needs}
use Rattle.pg_book.specs.Needs.{rows_of, part_entries}
use Rattle.pg_book.specs.Opening.{EachFrom}
use Rattle.pg_book.specs.Prepared.{IsPartRoom}
use Rattle.pg_book.proofs.SplitStep.{begins}
use Rattle.pg_book.proofs.Placing.{length-rows_of}
use Rattle.pg_book.proofs.open.prepare.Goals as goal

pub of_words-requires : goal.of_words-requires
of_words-requires g c = begins _ c.requires.small

pub returns : goal.returns
returns g c =
    let e = c.in_ok-table.ensures in
    let same = c.in_ok-table-2.ensures.ok in
    let table : c.in_ok-table.seat.table_id ≡ (arc_value c.in_ok-table-2.table).shared.table_id = e.2 ∙ sym (ap (λ t. t.shared.table_id) same) in
    let s = c.in_ok-rooms.ensures in
    let each = subst (λ (x : TableId × List (Vec Needs)). EachFrom (λ k s. IsPartRoom x.0 (part_entries (rows_of x.1) k) s) 0 c.in_ok-rooms.rooms.items) (λ i. (sym table i, c.as_slice.ensures.value i)) s.each in
    record {
      seat = record { same = table; words = ap (λ t. t.shared.table_id.words) same ∙ e.0 };
      view = e.4;
      room_count = s.count ∙ c.requires.parts;
      rooms_are = each;
      no_spines = (c.in_ok-with_capacity.ensures.items, c.in_ok-with_capacity.ensures.len);
      no_passes = (c.in_ok-with_capacity-2.ensures.items, c.in_ok-with_capacity-2.ensures.len);
      spine_room = c.in_ok-with_capacity.ensures.exact ∙ c.requires.parts;
      pass_room = c.in_ok-with_capacity-2.ensures.exact ∙ c.len.ensures ∙ sym (c.as_slice.ensures.len) ∙ ap length c.as_slice.ensures.value ∙ sym (length-rows_of c.args.needs.now.items);
    }
