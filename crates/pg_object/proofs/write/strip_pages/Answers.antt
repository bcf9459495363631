use Rattle.std.proofs.Common.{◌≡◌, subst, arith}
use Rattle.pg_object.specs.Strips.{Strips}
use Rattle.pg_object.proofs.StripFacts.{strips_none, strips_more}
use Rattle.pg_object.proofs.write.strip_pages.Goals as goal

pub loop-page-init : goal.loop-page-init
loop-page-init c = strips_none c.args.regions.now c.args.first c.requires.sound

pub loop-page-preserved : goal.loop-page-preserved
loop-page-preserved c =
    strips_more c.args.regions.now c.loop-page.regions c.strip.new.self c.args.first c.loop-page.page c.loop-page.auto.page c.loop-page.invariant
    c.strip.ensures.after c.strip.ensures.found c.strip.ensures.room c.strip.ensures.sound

pub returns : goal.returns
returns c =
    let past = c.loop-page-test.false in
    let most = c.loop-page.auto.page-end c.requires.order in
    let end : c.loop-page.page ≡ c.args.end = omega arith in
    subst (λ n. Strips c.args.regions.now c.args.first n c.loop-page.regions) end c.loop-page.invariant
