use Rattle.std.proofs.Common.{◌≡◌, ◌++◌, length, drop}
use Rattle.std.specs.Vec.Iter.{into_iter_items}
use Rattle.pg_book.specs.Needs.{rows_of}
use Rattle.scene_run.specs.Parts.{AreFiles}
use Rattle.scene_run.proofs.parts.open_files.Given as goal

abbrev pub invariant-loop-pager : goal.invariant-loop-pager
invariant-loop-pager l =
    (l.yielded ++ into_iter_items l.pager-iterator ≡ l.fn.pagers.items)
    × (into_iter_items l.layouts ≡ drop (length l.yielded) l.fn.layouts.items)
    × AreFiles l.resident (rows_of l.needs) l.yielded l.fn.layouts.items l.files.items
