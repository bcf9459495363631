use Rattle.pg_pages.proofs.CallFacts.{resident_leaves, known_seals, validated_seals, lazy_marks}
use Rattle.pg_pages.proofs.pages.Pages.check.Goals as goal

pub returns-then-is_sealed-clause-leaves : goal.returns-then-is_sealed-clause-leaves
returns-then-is_sealed-clause-leaves g c =
    let there = c.is_sealed.ensures.answer.0 c.if-is_sealed.true in
    resident_leaves g.D.Digester.hash c.args.self.now.cache c.args.page c.is_sealed.ensures.sound c.requires.inside there.0

pub returns-then-is_sealed-clause-known : goal.returns-then-is_sealed-clause-known
returns-then-is_sealed-clause-known g c =
    let there = c.is_sealed.ensures.answer.0 c.if-is_sealed.true in
    known_seals g.D.Digester.hash c.args.self.now.cache c.args.page (record { kind = c.args.kind; part = c.args.part; digests = c.args.wanted.now }) c.is_sealed.ensures.sound c.requires.inside (validated_seals g.D.Digester.hash _ _ c.args.page (record { kind = c.args.kind; part = c.args.part; digests = c.args.wanted.now }) c.is_sealed.ensures.marked there.1)

pub returns-then-is_sealed-clause-checked : goal.returns-then-is_sealed-clause-checked
returns-then-is_sealed-clause-checked g c =
    let there = c.is_sealed.ensures.answer.0 c.if-is_sealed.true in
    validated_seals g.D.Digester.hash _ _ c.args.page (record { kind = c.args.kind; part = c.args.part; digests = c.args.wanted.now }) c.is_sealed.ensures.marked there.1

pub returns-then-is_sealed-clause-marks : goal.returns-then-is_sealed-clause-marks
returns-then-is_sealed-clause-marks g c =
    let there = c.is_sealed.ensures.answer.0 c.if-is_sealed.true in
    lazy_marks g.D.Digester.hash c.args.self.now.cache c.args.self.now.marks c.args.page (record { kind = c.args.kind; part = c.args.part; digests = c.args.wanted.now }) there.0 c.is_sealed.ensures.marked there.1
