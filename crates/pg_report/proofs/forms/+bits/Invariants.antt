use Rattle.pg_report.proofs.forms.+bits.Given as goal

abbrev pub decreases-bits : goal.decreases-bits
decreases-bits l = l.count
