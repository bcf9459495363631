use Rattle.std.proofs.Common.{arith, ◌≤◌, ◌∙◌, List, ℕ, subst}
use Rattle.std.proofs.lemmas.List.{take-replicate}
use Rattle.pg_io.proofs.PageSizeFacts.{greatest_page}
use Rattle.pg_cache.specs.Gives.{WriteGives}
use Rattle.pg_object.proofs.write.fill_page.Goals as goal

pub write-requires-clause-fits : goal.write-requires-clause-fits
write-requires-clause-fits g c =
    let long = c.front.ensures.length in
    let fits = c.requires.fits in
    omega arith

pub returns-clause-gives : goal.returns-clause-gives
returns-clause-gives g c =
    let most = greatest_page c.page_size-size.result c.page_size-size.ensures.known in
    let size = c.page_size-size.ensures.size in
    let fits = c.requires.fits in
    let few : c.args.count ≤ 16384 = omega arith in
    subst (λ (bytes : List ℕ). WriteGives c.args.pages.now.cache c.args.page c.args.offset bytes c.write.result c.write.new.self.cache)
    (c.front.ensures.bytes ∙ take-replicate c.args.count 16384 c.args.byte few) c.write.ensures.gives
