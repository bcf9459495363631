use Rattle.std.proofs.Common.{◌≡◌, count_by, take}
use Rattle.pg_report.specs.Journal.{is_given}
use Rattle.pg_report.proofs.journal_text.given.Given as goal

abbrev pub invariant-loop-stamped : goal.invariant-loop-stamped
invariant-loop-stamped l = l.count ≡ count_by (λ s. is_given s.entry.reply) (take l.stamped-index l.history)
