use Rattle.std.proofs.Common.{◌≡◌, length, []}
use Rattle.pg_words.specs.Lines.{lines_of}
use Rattle.pg_report.specs.Reading.{said_behind}
use Rattle.pg_report.proofs.journal_lines.read_lines.Given as goal

abbrev pub invariant-events : goal.invariant-events
invariant-events l = said_behind l.lines.items (lines_of l.rest) ≡ said_behind [] (lines_of l.initial.rest)

abbrev pub decreases-events : goal.decreases-events
decreases-events l = length l.rest
