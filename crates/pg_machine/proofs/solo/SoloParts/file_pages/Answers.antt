use Rattle.std.proofs.Common.{◌≡◌, List, Some, None, length, refl, sym, ap, ◌∙◌}
use Rattle.std.specs.Prelude.{slice_get}
use Rattle.std.proofs.lemmas.Option.{slice_get_read, slice_get_past}
use Rattle.pg_object.specs.Object.{ObjectNow}
use Rattle.pg_machine.proofs.SoloFacts.{seen-pages, unseen-pages}
use Rattle.pg_machine.proofs.solo.SoloParts.file_pages.Goals as goal

pub returns-in-Some : goal.returns-in-Some
returns-in-Some g c =
    let found = c.in-Some.ensures.lookup in
    let there : slice_get c.self.inside.files.items c.args.file ≡ Some c.in-Some.object.now =
    sym (ap (λ (l : List ObjectNow). slice_get l c.args.file) c.deref.ensures.value)
    ∙ slice_get_read c.deref.result.now (length c.deref.result.now) c.args.file c.in-Some.object.now refl found.3.0 found.1 in
    record { pages = c.file_pages.ensures.pages ∙ sym (seen-pages g.D.Digester.hash _ _ _ c.self.invariant.0 _ c.self.view_is c.args.file c.in-Some.object.now there) }

pub returns-in-None : goal.returns-in-None
returns-in-None g c =
    let none : slice_get c.self.inside.files.items c.args.file ≡ None =
    sym (ap (λ (l : List ObjectNow). slice_get l c.args.file) c.deref.ensures.value) ∙ slice_get_past c.deref.result.now c.args.file c.in-None.ensures.lookup.3 in
    record { pages = sym (unseen-pages g.D.Digester.hash _ _ _ c.self.invariant.0 _ c.self.view_is c.args.file none) }
