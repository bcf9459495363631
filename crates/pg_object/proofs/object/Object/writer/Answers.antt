use Rattle.std.proofs.Common.{◌≡◌, ℕ, List, [], Option, None, Some, sym, ap, ◌∙◌}
use Rattle.pg_pages.specs.Pages.{PagesNow}
use Rattle.pg_pages.specs.Marks.{marks_of}
use Rattle.pg_plain.specs.PlainFile.{writer}
use Rattle.pg_object.specs.Object.{ObjectNow, object_of, seen}
use Rattle.pg_object.proofs.RuleFacts.{writer_is, checked_unwritten}
use Rattle.pg_object.proofs.object.Object.writer.Goals as goal

pub returns-then-is_validated : goal.returns-then-is_validated
returns-then-is_validated g c =
    let now = object_of c.self.inside.pages c.self.inside.regions c.self.inside.blobs c.self.inside.length c.self.inside.layout in
    sym (writer_is now c.args.page c.self.invariant.regions_sound None tt
    (checked_unwritten now c.args.page c.self.invariant.seals (sym c.is_validated.ensures.validated ∙ c.if-is_validated.true)))
    ∙ ap (λ (n : ObjectNow). writer (seen n []) c.args.page) c.self.view_is

pub returns : goal.returns
returns g c =
    let now = object_of c.self.inside.pages c.self.inside.regions c.self.inside.blobs c.self.inside.length c.self.inside.layout in
    sym (writer_is now c.args.page c.self.invariant.regions_sound c.writer.result c.writer.ensures.least c.writer.ensures.none)
    ∙ ap (λ (n : ObjectNow). writer (seen n []) c.args.page) c.self.view_is
