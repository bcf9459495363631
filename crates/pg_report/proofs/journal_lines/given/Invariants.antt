use Rattle.std.proofs.Common.{◌≡◌, count_by, take}
use Rattle.pg_report.specs.Journal.{is_given}
use Rattle.pg_report.proofs.journal_lines.given.Given as goal

abbrev pub invariant-loop-line : goal.invariant-loop-line
invariant-loop-line l = l.count ≡ count_by (λ l. is_given l.entry.reply) (take l.line-index l.lines)
