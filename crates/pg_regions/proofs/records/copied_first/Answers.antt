use Rattle.std.proofs.Common.{◌≡◌, ◌<◌, not, get_or, length, sym, ◌∙◌, arith}
use Rattle.std.proofs.lemmas.List.{take_all, get_or_default}
use Rattle.std.proofs.lemmas.List.Filters.{FiltersInPlace-all, FiltersInPlace-more_swap, FiltersInPlace-more_no}
use Rattle.pg_bytes.proofs.SplitFacts.{filters_start}
use Rattle.pg_regions.specs.Steps.{blank, is_without_copy}
use Rattle.pg_regions.proofs.PlaceFacts.{others_stay, none_goes}
use Rattle.pg_regions.proofs.records.copied_first.Goals as goal
use Rattle.pg_regions.proofs.records.copied_first.Goals.{then-stays, else-stays}

pub loop-place-init : goal.loop-place-init
loop-place-init c =
    filters_start (λ r. not (is_without_copy c.args.copies.now.list c.args.page r)) c.before-start.result c.args.records.now c.before-start.ensures.within (λ k d le lt. others_stay c.args.copies.now.list c.args.page (get_or c.args.records.now k d) (λ same. let less = c.before-start.ensures.lesser k d le lt in omega arith))

pub loop-place-preserved : goal.loop-place-preserved
loop-place-preserved c =
    let records = c.loop-place.records in
    let place = c.loop-place.place in
    let here : place < length records = omega arith in
    let r = get_or records place (blank 0 0) in
    let read : r ≡ get_or records place r = get_or_default records place (blank 0 0) r here in
    elim c.if-stays.branch [
      | then-stays w ↦ rw (w.records-is, w.kept-is) (FiltersInPlace-more_swap c.loop-place.invariant here (sym w.if-stays.ensures) read w.swap.ensures.by_index)
      | else-stays w ↦ rw (w.records-is, w.kept-is) (FiltersInPlace-more_no c.loop-place.invariant here (sym w.if-stays.ensures) read)
    ]

pub returns-then-through-start-clause-stay : goal.returns-then-through-start-clause-stay
returns-then-through-start-clause-stay c =
    take_all (length c.args.records.now) c.args.records.now (omega arith)
    ∙ sym (none_goes c.args.records.now c.args.copies.now.list c.args.page c.before-start.result c.through.result c.if-through-start.true c.before-start.ensures.lesser c.through.ensures.greater)

pub returns-clause-stay : goal.returns-clause-stay
returns-clause-stay c = FiltersInPlace-all c.loop-place.invariant c.loop-place-test.false
