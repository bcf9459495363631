-- The entries that were drawn on a part, and those that a worker drew, in the order of their stamps.
use Rattle.std.specs.Prelude.{List, map}
use Rattle.pg_book.specs.declared.receipt.Receipt.{Receipt}
use Rattle.pg_book.specs.Models.{SpineOf, PassOf, spine_receipts, pass_receipts}
use Rattle.pg_book.specs.Closing.{stamped}
use Rattle.cs_policy.specs.declared.entry.Entry.{Entry}
use Rattle.pg_history.specs.Machine.{Line}

abbrev pub lines_in : List (Receipt Entry) → List Line
lines_in receipts = map stamped receipts

abbrev pub drawn_on : SpineOf Entry → List Line
drawn_on spine = lines_in (spine_receipts spine)

abbrev pub drawn_by : PassOf Entry → List Line
drawn_by pass = lines_in (pass_receipts pass)
