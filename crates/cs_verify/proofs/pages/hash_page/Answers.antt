use Rattle.std.proofs.lemmas.List.{take_min}
use Rattle.cs_verify.specs.Pages.{hash_page}
use Rattle.cs_verify.proofs.pages.hash_page.Goals as goal

pub returns : goal.returns
unfolding hash_page
returns c = rw (c.min.ensures, c.split_at.ensures.back) (take_min c.args.size _)
