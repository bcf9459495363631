use Rattle.std.proofs.Common.{ℕ, ◌-◌, List, take, drop, subst}
use Rattle.pg_cache.specs.Gives.{WriteGives}
use Rattle.pg_object.proofs.PartFacts.{IsPart, gives_bytes, gives_filled}
use Rattle.pg_object.proofs.write.write_page.Goals as goal

pub returns-in-Fill-clause-gives : goal.returns-in-Fill-clause-gives
returns-in-Fill-clause-gives g c =
    let part = c.part_of-part.result in
    let of = c.part_of-part.ensures in
    let is = subst (λ n. IsPart n c.args.at c.args.count c.args.page part) c.page_size.ensures.size
    (record { offset = of.offset; start = of.start; stop = of.stop }) in
    gives_filled c.args.pages.now.cache c.fill_page.new.pages.cache c.args.at c.args.page c.fill_page.result c.args.piece.now c.args.count part c.requires.count is
    c.in-Fill.byte c.in-Fill.count c.in-Fill.is c.fill_page.ensures.gives

pub returns-in-Hex-clause-gives : goal.returns-in-Hex-clause-gives
returns-in-Hex-clause-gives g c =
    let part = c.part_of-part.result in
    let of = c.part_of-part.ensures in
    let is = subst (λ n. IsPart n c.args.at c.args.count c.args.page part) c.page_size.ensures.size
    (record { offset = of.offset; start = of.start; stop = of.stop }) in
    gives_bytes c.args.pages.now.cache c.write.new.self.cache c.args.at c.args.page c.write.result c.args.piece.now c.args.count part c.requires.count is
    c.in-Hex.bytes c.in-Hex.is
    (subst (λ (bytes : List ℕ). WriteGives c.args.pages.now.cache c.args.page part.offset (take (part.stop - part.start) (drop part.start bytes)) c.write.result c.write.new.self.cache)
    c.bytes.ensures c.write.ensures.gives)
