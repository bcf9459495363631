use Rattle.std.proofs.Common.{◌≡◌, take, drop, option_map}
use Rattle.pg_words.specs.Lines.{texts}
use Rattle.pg_report.specs.Reading.{at_arrow}
use Rattle.pg_report.proofs.ArrowFacts.{with_front}
use Rattle.pg_report.proofs.journal_lines.at_arrow.Given as goal

abbrev pub invariant-loop-i : goal.invariant-loop-i
invariant-loop-i l = option_map (with_front (take l.i (texts l.words))) (at_arrow (drop l.i (texts l.words))) ≡ at_arrow (texts l.words)
