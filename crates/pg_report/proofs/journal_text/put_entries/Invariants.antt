use Rattle.std.proofs.Common.{◌≡◌, ◌++◌, take}
use Rattle.std.specs.List.{flat_map}
use Rattle.pg_report.specs.Journal.{stamped_text}
use Rattle.pg_report.proofs.journal_text.put_entries.Given as goal

abbrev pub invariant-loop-stamped : goal.invariant-loop-stamped
invariant-loop-stamped l = l.text.items ≡ l.fn.text.items ++ flat_map stamped_text (take l.stamped-index l.history)
