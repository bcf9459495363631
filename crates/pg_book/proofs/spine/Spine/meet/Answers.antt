use Rattle.std.proofs.Common.{ap, ◌∙◌, subst}
use Rattle.pg_book.specs.Models.{SpineOf, PassOf}
use Rattle.pg_book.specs.Outcomes.{Meets}
use Rattle.pg_book.proofs.Meetings.{met}
use Rattle.pg_book.proofs.Models.{meets_of}
use Rattle.pg_book.proofs.spine.Spine.meet.Goals as goal

pub invariant_of-pass : goal.invariant_of-pass
invariant_of-pass g c = (
  c.tell.ensures.slots ∙ c.pass.invariant.0,
  ap (λ z. z.words) c.tell.ensures.tables.1 ∙ c.pass.invariant.1,
  (met _ _ _ _ _ c.self.invariant.2 c.pass.invariant.2 c.tell.ensures.told).view,
)

pub returns-clause-pass : goal.returns-clause-pass
returns-clause-pass g c =
    let m = met c.self.inside.part c.pass.inside.number c.self.inside.seat.me.0 c.pass.inside.seat.me.0 c.tell.new.to.me.0 c.self.invariant.2 c.pass.invariant.2 c.tell.ensures.told in
    subst (λ (x : SpineOf g.row.E.Denot × PassOf g.row.E.Denot). Meets x.0 x.1 record { book = c.tell.new.to.table_id; caller = c.pass.inside.number; view = c.tell.new.to.me.0 }) (λ i. (c.self.view_is i, c.pass.view_is i)) (meets_of _ _ _ _ _ _ _ _ c.tell.ensures.tables.1 m)
