use Rattle.std.proofs.Common.{◌≡◌, ◌≢◌, ◌+◌, ◌*◌, ◌-◌, ◌∙◌, take, drop, arith, rules, sym, ap}
use Rattle.pg_digest.specs.Kinds.{size_of}
use Rattle.pg_pages.proofs.PartFacts.{cut, cut_as, next_rose, more_equal}
use Rattle.pg_pages.proofs.parts.compare.Goals as goal

pub returns-then-ne-clause-answer : goal.returns-then-ne-clause-answer
returns-then-ne-clause-answer g c =
    let at = c.loop-place.place in
    let size : c.from-size.result ≡ size_of c.args.kind = search rules in
    let other : c.hash-found.result ≢ take (at * c.from-size.result + c.from-size.result - at * c.from-size.result) (drop (at * c.from-size.result) c.args.wanted.now) = search rules in
    record {
      inside = c.loop-place-test.true;
      before = c.loop-place.invariant.before;
      found = c.hash-found.ensures.value ∙ ap (g.D.Digester.hash c.args.kind) (cut c.args.part (at * c.args.part) c.args.bytes.now);
      other = λ e. other (e ∙ sym (cut_as c.from-size.result (size_of c.args.kind) at c.args.wanted.now size));
    }

pub returns-then-ne-clause-counted : goal.returns-then-ne-clause-counted
returns-then-ne-clause-counted g c = next_rose _ _ _ c.loop-place.place c.loop-place.invariant.first c.loop-place.invariant.counted c.hash-found.ensures.counted

pub loop-place-preserved : goal.loop-place-preserved
loop-place-preserved g c =
    let at = c.loop-place.place in
    let size : c.from-size.result ≡ size_of c.args.kind = search rules in
    let same : c.hash-found.result ≡ take (at * c.from-size.result + c.from-size.result - at * c.from-size.result) (drop (at * c.from-size.result) c.args.wanted.now) = search rules in
    let found = c.hash-found.ensures.value ∙ ap (g.D.Digester.hash c.args.kind) (cut c.args.part (at * c.args.part) c.args.bytes.now) in
    record {
      inside = omega arith;
      before = more_equal _ _ at c.loop-place.invariant.before (sym found ∙ same ∙ cut_as c.from-size.result (size_of c.args.kind) at c.args.wanted.now size);
      first = λ none. absurd (omega arith);
      counted = λ _. next_rose _ _ _ at c.loop-place.invariant.first c.loop-place.invariant.counted c.hash-found.ensures.counted;
      once = omega (arith, c.hash-found.ensures.once);
    }
