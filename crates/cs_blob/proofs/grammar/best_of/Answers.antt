use Rattle.std.proofs.Common.{◌∙◌, ap}
use Rattle.std.proofs.lemmas.Result.{err_from_is_err_and}
use Rattle.cs_blob.specs.Candidates.{among}
use Rattle.cs_blob.specs.Signed.{IsCandidate}
use Rattle.cs_blob.proofs.CandidateFacts.{All-strongest, best-from, strongest-greatest}
use Rattle.cs_blob.proofs.GrammarFacts.{Refuses-parts, Refuses-directories, AreKept-from, broken_by_ranks, broken_by_cms, broken_by_special, broken_by_fit}
use Rattle.cs_blob.proofs.DigestFacts.{no_digests}
use Rattle.cs_blob.specs.declared.refusal.BlobFail.TheVariants.{Refused}
use Rattle.cs_blob.proofs.grammar.best_of.Goals as goal

pub returns-in_err-parts-clause-refused : goal.returns-in_err-parts-clause-refused
returns-in_err-parts-clause-refused g c =
    let exit = err_from_is_err_and c.from_residual.result c.from_residual.ensures.1 in
    rw (exit.1, exit.2) (Refuses-parts _ _ _ _ _ c.in_err-parts.ensures.refused)

pub returns-in_err-found-clause-refused : goal.returns-in_err-found-clause-refused
returns-in_err-found-clause-refused g c =
    let exit = err_from_is_err_and c.from_residual-in_err-found.result c.from_residual-in_err-found.ensures.1 in
    let seats = c.deref.ensures.value ∙ c.in_ok-parts.ensures.placed.directories in
    rw (exit.1, exit.2) (Refuses-directories _ _ _ _ _ c.in_ok-parts.ensures.kept (rw seats at c.in_err-found.ensures.refused))

pub returns-in_err-distinct_ranks-clause-refused : goal.returns-in_err-distinct_ranks-clause-refused
returns-in_err-distinct_ranks-clause-refused g c =
    let exit = err_from_is_err_and c.from_residual-in_err-distinct_ranks.result c.from_residual-in_err-distinct_ranks.ensures.1 in
    let seats = c.deref.ensures.value ∙ c.in_ok-parts.ensures.placed.directories in
    let kept = AreKept-from _ _ seats c.in_ok-parts.ensures.kept c.in_ok-found.ensures.kept in
    let found = c.in_ok-found.ensures.found ∙ ap (among c.args.bytes.now) seats in
    rw (exit.1, exit.2) (broken_by_ranks _ _ _ _ _ kept (rw (c.deref-2.ensures.value ∙ found) at c.in_err-distinct_ranks.ensures.tries))

pub returns-in_err-no_cms-clause-refused : goal.returns-in_err-no_cms-clause-refused
returns-in_err-no_cms-clause-refused g c =
    let exit = err_from_is_err_and c.from_residual-in_err-no_cms.result c.from_residual-in_err-no_cms.ensures.1 in
    let seats = c.deref.ensures.value ∙ c.in_ok-parts.ensures.placed.directories in
    let kept = AreKept-from _ _ seats c.in_ok-parts.ensures.kept c.in_ok-found.ensures.kept in
    let found = c.in_ok-found.ensures.found ∙ ap (among c.args.bytes.now) seats in
    let ranks = rw (c.deref-2.ensures.value ∙ found) at c.in_ok-distinct_ranks.ensures.tries in
    let cms = rw (c.deref-3.ensures.value ∙ c.in_ok-parts.ensures.placed.entries) at c.in_err-no_cms.ensures.tries in
    rw (exit.1, exit.2) (broken_by_cms _ _ _ _ _ kept ranks cms)

pub specials-requires-clause-best : goal.specials-requires-clause-best
specials-requires-clause-best g c =
    All-strongest (IsCandidate c.args.bytes.now) _ _ (rw c.deref-4.ensures.value c.in_ok-found.ensures.sound) c.strongest-best.ensures

pub returns-in_err-specials-clause-refused : goal.returns-in_err-specials-clause-refused
returns-in_err-specials-clause-refused g c =
    let exit = err_from_is_err_and c.from_residual-in_err-specials.result c.from_residual-in_err-specials.ensures.1 in
    let seats = c.deref.ensures.value ∙ c.in_ok-parts.ensures.placed.directories in
    let kept = AreKept-from _ _ seats c.in_ok-parts.ensures.kept c.in_ok-found.ensures.kept in
    let found = c.in_ok-found.ensures.found ∙ ap (among c.args.bytes.now) seats in
    let ranks = rw (c.deref-2.ensures.value ∙ found) at c.in_ok-distinct_ranks.ensures.tries in
    let cms = rw (c.deref-3.ensures.value ∙ c.in_ok-parts.ensures.placed.entries) at c.in_ok-no_cms.ensures.tries in
    let best = best-from _ _ _ (c.deref-4.ensures.value ∙ found) c.strongest-best.ensures in
    let specials = rw (c.deref-5.ensures.value ∙ c.in_ok-parts.ensures.placed.entries, best) at c.in_err-specials.ensures.tries in
    rw (exit.1, exit.2) (broken_by_special _ _ _ _ _ kept ranks cms specials)

pub returns-in_err-fits-clause-refused : goal.returns-in_err-fits-clause-refused
returns-in_err-fits-clause-refused g c =
    let exit = err_from_is_err_and c.from_residual-in_err-fits.result c.from_residual-in_err-fits.ensures.1 in
    let seats = c.deref.ensures.value ∙ c.in_ok-parts.ensures.placed.directories in
    let kept = AreKept-from _ _ seats c.in_ok-parts.ensures.kept c.in_ok-found.ensures.kept in
    let found = c.in_ok-found.ensures.found ∙ ap (among c.args.bytes.now) seats in
    let ranks = rw (c.deref-2.ensures.value ∙ found) at c.in_ok-distinct_ranks.ensures.tries in
    let cms = rw (c.deref-3.ensures.value ∙ c.in_ok-parts.ensures.placed.entries) at c.in_ok-no_cms.ensures.tries in
    let best = best-from _ _ _ (c.deref-4.ensures.value ∙ found) c.strongest-best.ensures in
    let specials = rw (c.deref-5.ensures.value ∙ c.in_ok-parts.ensures.placed.entries, best) at c.in_ok-specials.ensures.tries in
    rw (exit.1, exit.2) (broken_by_fit _ _ _ _ _ kept ranks cms specials (rw best at c.in_err-fits.ensures.tries))

pub returns-clause-accepted : goal.returns-clause-accepted
returns-clause-accepted g c =
    let seats = c.deref.ensures.value ∙ c.in_ok-parts.ensures.placed.directories in
    let kept = AreKept-from _ _ seats c.in_ok-parts.ensures.kept c.in_ok-found.ensures.kept in
    let found = c.in_ok-found.ensures.found ∙ ap (among c.args.bytes.now) seats in
    let ranks = rw (c.deref-2.ensures.value ∙ found) at c.in_ok-distinct_ranks.ensures.tries in
    let cms = rw (c.deref-3.ensures.value ∙ c.in_ok-parts.ensures.placed.entries) at c.in_ok-no_cms.ensures.tries in
    let best = best-from _ _ _ (c.deref-4.ensures.value ∙ found) c.strongest-best.ensures in
    let specials = rw (c.deref-5.ensures.value ∙ c.in_ok-parts.ensures.placed.entries, best) at c.in_ok-specials.ensures.tries in
    record {
      unbroken = broken_by_fit _ _ _ _ _ kept ranks cms specials (rw best at c.in_ok-fits.ensures.tries);
      value = best;
      found = All-strongest (IsCandidate c.args.bytes.now) _ _ (rw c.deref-4.ensures.value c.in_ok-found.ensures.sound) c.strongest-best.ensures;
      greatest = rw (c.deref-4.ensures.value ∙ found) at (strongest-greatest _ _ c.strongest-best.ensures);
    }

pub returns-in_err-parts-clause-digests : goal.returns-in_err-parts-clause-digests
returns-in_err-parts-clause-digests g c =
    let exit = err_from_is_err_and c.from_residual.result c.from_residual.ensures.1 in
    rw (exit.1, exit.2) (no_digests _ _ _ c.in_err-parts.ensures.early)

pub returns-in_err-found-clause-digests : goal.returns-in_err-found-clause-digests
returns-in_err-found-clause-digests g c =
    let exit = err_from_is_err_and c.from_residual-in_err-found.result c.from_residual-in_err-found.ensures.1 in
    rw (exit.1, exit.2) (no_digests _ _ _ c.in_err-found.ensures.early)

pub returns-in_err-distinct_ranks-clause-digests : goal.returns-in_err-distinct_ranks-clause-digests
returns-in_err-distinct_ranks-clause-digests g c =
    let exit = err_from_is_err_and c.from_residual-in_err-distinct_ranks.result c.from_residual-in_err-distinct_ranks.ensures.1 in
    rw (exit.1, exit.2) (no_digests _ (Refused _) _ c.in_err-distinct_ranks.ensures.early)

pub returns-in_err-no_cms-clause-digests : goal.returns-in_err-no_cms-clause-digests
returns-in_err-no_cms-clause-digests g c =
    let exit = err_from_is_err_and c.from_residual-in_err-no_cms.result c.from_residual-in_err-no_cms.ensures.1 in
    rw (exit.1, exit.2) (no_digests _ (Refused _) _ c.in_err-no_cms.ensures.early)
