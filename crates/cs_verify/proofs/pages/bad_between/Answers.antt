use Rattle.std.proofs.Common.{◌∙◌, sym, arith}
use Rattle.cs_verify.specs.Pages.{bad_between}
use Rattle.cs_verify.proofs.PageFacts.{page_matches, page_is_bad, pages_noted, hashed-next, hashed-all}
use Rattle.cs_verify.proofs.pages.bad_between.Goals as goal
use Rattle.cs_verify.proofs.pages.bad_between.Goals.{in-Some+in_ok-push, in_default}

pub loop-page-preserved : goal.loop-page-preserved
loop-page-preserved g c =
    let hashed = hashed-next _ c.args.from c.loop-page.page _ _ _ c.loop-page.invariant.begun c.loop-page.invariant.hashed c.bad_page.ensures.once in
    elim c.match-bad_page.branch [
      | in-Some+in_ok-push w ↦ rw (w.bad-is, w.in_ok-push.ensures.items) (record {
        found = page_is_bad _ _ _ c.loop-page.page _ w.in-Some.wrong c.loop-page-test.true (sym c.bad_page.ensures.wrong ∙ w.in-Some.is) c.loop-page.invariant.found;
        hashed = hashed;
        begun = omega arith;
        within = omega arith;
      })
      | in_default w ↦ rw w.bad-is (record {
        found = page_matches _ _ _ c.loop-page.page _ c.loop-page-test.true (sym c.bad_page.ensures.wrong ∙ w.in_default.is) c.loop-page.invariant.found;
        hashed = hashed;
        begun = omega arith;
        within = omega arith;
      })
    ]

pub returns-clause-bad : goal.returns-clause-bad
unfolding bad_between
returns-clause-bad g c = pages_noted _ _ _ c.loop-page.page _ c.loop-page-test.false c.loop-page.invariant.found

pub returns-clause-digests : goal.returns-clause-digests
returns-clause-digests g c =
    hashed-all _ c.args.from c.args.to c.loop-page.page _ _ c.loop-page.invariant.begun c.loop-page.invariant.within c.loop-page-test.false c.loop-page.invariant.hashed
