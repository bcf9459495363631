use Rattle.pg_object.proofs.ReadFacts.{found_page}
use Rattle.pg_object.proofs.signatures.read_page.Goals as goal

pub returns-clause-found : goal.returns-clause-found
returns-clause-found g c =
    found_page c.args.pages.now.cache c.peek.follows.lender-at-none.cache c.args.page c.peek.result c.in_ok-peek.field-0 c.in_ok-peek.was c.page_size.ensures.sound c.requires.inside
    c.peek.follows.holds-at-none.0 c.bytes-seen.result.now c.bytes-seen.ensures.bytes c.bytes-seen.ensures.whole
