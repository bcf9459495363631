use Rattle.pg_report.proofs.FirstBad.{reads_journal, reads_again}
use Rattle.pg_report.proofs.journal_lines.read_journal.Goals as goal

pub returns-clause-exact : goal.returns-clause-exact
returns-clause-exact c = reads_journal c.args.text.now c.read_text.result c.read_text.ensures.short c.read_text.ensures.said

pub returns-clause-read_again : goal.returns-clause-read_again
returns-clause-read_again c = reads_again c.args.text.now c.read_text.result c.read_text.ensures.said
