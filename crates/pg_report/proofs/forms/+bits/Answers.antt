use Rattle.std.proofs.Common.{arith}
use Rattle.pg_report.proofs.BitFacts.{odd_fits, even_fits}
use Rattle.pg_report.proofs.forms.+bits.Goals as goal

pub returns-in_ok-bits-clause-fits : goal.returns-in_ok-bits-clause-fits
returns-in_ok-bits-clause-fits t c = odd_fits c.args.count c.in_ok-bits.field-0 (omega arith) c.in_ok-bits.ensures.fits

pub returns-in_ok-bits-2-clause-fits : goal.returns-in_ok-bits-2-clause-fits
returns-in_ok-bits-2-clause-fits t c = even_fits c.args.count c.in_ok-bits-2.field-0 (omega arith) c.in_ok-bits-2.ensures.fits
