use Rattle.pg_plain.proofs.ContentFacts.{pages_are_content}
use Rattle.pg_plain.proofs.laws.pages_are_content.Goals as goal

pub returns : goal.returns
returns c = λ hash file event blob outcome keep. pages_are_content hash file event blob outcome keep
