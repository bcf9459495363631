use Rattle.cs_verify.specs.Pages.{bad_pages}
use Rattle.cs_verify.proofs.PageFacts.{slotted-all}
use Rattle.cs_verify.proofs.pages.bad_pages.Goals as goal

pub returns-clause-bad : goal.returns-clause-bad
unfolding bad_pages
returns-clause-bad g c = rw (c.pages_of.ensures, c.limit.ensures) at c.bad_between.ensures.bad

pub returns-clause-digests : goal.returns-clause-digests
returns-clause-digests g c = rw (c.pages_of.ensures, slotted-all _ _) at c.bad_between.ensures.digests
