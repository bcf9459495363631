use Rattle.std.proofs.Common.{sym, ap, ◌∙◌}
use Rattle.pg_regions.specs.Lookups.{is_copy}
use Rattle.pg_regions.proofs.PlaceFacts.{copy_position, no_copy_position, position_past}
use Rattle.pg_regions.proofs.copies.place_of.Goals.{else-place-copies-via-then-place-copies+else-is_of, else-place-copies-via-else-place-copies}
use Rattle.pg_regions.proofs.copies.place_of.Goals as goal

pub returns-then-is_of : goal.returns-then-is_of
returns-then-is_of c =
    sym (copy_position c.args.page c.args.id c.args.copies.now c.before-place.result c.index-copies-place.result c.if-place-copies.true c.before-place.ensures.lesser
    (ap (is_copy c.args.id c.args.page) (sym c.index-copies-place.is) ∙ sym c.if-is_of.ensures))

pub returns : goal.returns
returns c =
    elim c.else-place-copies.branch [
      | else-place-copies-via-then-place-copies+else-is_of w ↦
          sym (no_copy_position c.args.page c.args.id c.args.copies.now c.before-place.result w.index-copies-place.result c.requires c.before-place.ensures.lesser c.before-place.ensures.others
          (λ within. ap (is_copy c.args.id c.args.page) (sym w.index-copies-place.is) ∙ sym w.if-is_of.ensures))
      | else-place-copies-via-else-place-copies w ↦
          sym (position_past c.args.page c.args.id c.args.copies.now c.before-place.result c.before-place.ensures.lesser w.if-place-copies.false)
    ]
