use Rattle.std.proofs.Common.{◌≡◌, List, Some, length, refl, sym, ap, ◌∙◌}
use Rattle.std.specs.Prelude.{slice_get}
use Rattle.std.proofs.lemmas.Option.{slice_get_read}
use Rattle.pg_object.specs.Object.{ObjectNow}
use Rattle.pg_history.specs.Machine.{signed_range}
use Rattle.pg_history.specs.Opening.{seat_in}
use Rattle.pg_machine.proofs.SoloFacts.{seen-range}
use Rattle.pg_machine.proofs.solo.SoloParts.slice.Goals as goal

pub returns : goal.returns
returns g c =
    let found = c.in_ok-object.ensures.lookup in
    let there : slice_get c.self.inside.files.items c.args.file ≡ Some c.in_ok-object.object.now =
    sym (ap (λ (l : List ObjectNow). slice_get l c.args.file) c.deref.ensures.value)
    ∙ slice_get_read c.deref.result.now (length c.deref.result.now) c.args.file c.in_ok-object.object.now refl found.3.0 found.1 in
    record {
      range = c.signed_range.ensures ∙ ap (λ l. signed_range (seat_in c.args.slice l)) c.layout.ensures.layout
          ∙ sym (seen-range g.D.Digester.hash _ _ _ c.self.invariant.0 _ c.self.view_is c.args.file c.args.slice c.in_ok-object.object.now there);
    }
