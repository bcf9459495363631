use Rattle.pg_object.proofs.PagerCallFacts.{calls_pages}
use Rattle.pg_object.proofs.laws.calls_have_pages.Goals as goal

pub returns : goal.returns
returns c = λ hash file e. calls_pages hash file e
