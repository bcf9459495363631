use Rattle.std.proofs.Common.{◌≡◌, ◌+◌, [], ◌∷◌, ◌++◌, length, drop, append_assoc, add-one, sym, ap, ◌∙◌, subst, rules}
use Rattle.std.specs.Vec.Iter.{into_iter_items}
use Rattle.std.specs.Prelude.{slice_get, Some}
use Rattle.std.proofs.lemmas.List.{length-append}
use Rattle.pg_book.specs.Needs.{rows_of}
use Rattle.pg_history.proofs.ListFacts.{get-end}
use Rattle.pg_parts.specs.Rooms.{part_needs}
use Rattle.scene_run.specs.Parts.{IsFileOf, AreFiles}
use Rattle.scene_run.proofs.FileFacts.{drop-at, drop-more, no-files, one-more}
use Rattle.scene_run.proofs.parts.open_files.Goals as goal

pub loop-pager-init : goal.loop-pager-init
loop-pager-init c =
    let gives = c.into_iter-pager-iterator.ensures.into_iter_gives in
    (gives.0, search rules, subst (λ fs. AreFiles c.args.resident (rows_of c.args.needs.now) [] c.args.layouts.items fs) (search rules) (no-files c.args.resident (rows_of c.args.needs.now) c.args.layouts.items))

pub open_file-requires-clause-fits : goal.open_file-requires-clause-fits
open_file-requires-clause-fits c =
    let at = c.loop-pager in
    let p = c.in-Some.pager in
    let l = c.in-Some-next.layout in
    let steps : into_iter_items at.pager-iterator ≡ p ∷ into_iter_items c.next.new.self = c.in-Some.ensures.steps.0 in
    let all : c.args.pagers.items ≡ at.yielded ++ p ∷ into_iter_items c.next.new.self = sym at.invariant.0 ∙ ap (λ xs. at.yielded ++ xs) steps in
    let one : slice_get c.args.pagers.items (length at.yielded) ≡ Some p = ap (λ xs. slice_get xs (length at.yielded)) all ∙ get-end at.yielded p (into_iter_items c.next.new.self) in
    let behind : drop (length at.yielded) c.args.layouts.items ≡ l ∷ into_iter_items c.next-in-loop-pager.new.self = sym at.invariant.1 ∙ c.in-Some-next.ensures.items in
    c.requires.fits (length at.yielded) p l one (drop-at c.args.layouts.items (into_iter_items c.next-in-loop-pager.new.self) (length at.yielded) l behind)

pub loop-pager-preserved : goal.loop-pager-preserved
loop-pager-preserved c =
    let at = c.loop-pager in
    let p = c.in-Some.pager in
    let l = c.in-Some-next.layout in
    let steps : into_iter_items at.pager-iterator ≡ p ∷ into_iter_items c.next.new.self = c.in-Some.ensures.steps.0 in
    let behind : drop (length at.yielded) c.args.layouts.items ≡ l ∷ into_iter_items c.next-in-loop-pager.new.self = sym at.invariant.1 ∙ c.in-Some-next.ensures.items in
    let longer : length (at.yielded ++ p ∷ []) ≡ length at.yielded + 1 = length-append at.yielded (p ∷ []) in
    let needs_are : c.part_needs-needs.result ≡ part_needs (rows_of c.args.needs.now) (length at.files.items) = c.part_needs-needs.ensures ∙ ap (λ n. part_needs (rows_of c.args.needs.now) n) (search rules) in (
      append_assoc at.yielded (p ∷ []) _ ∙ sym (ap (λ xs. at.yielded ++ xs) steps) ∙ at.invariant.0,
      sym (drop-more c.args.layouts.items (into_iter_items c.next-in-loop-pager.new.self) (length at.yielded) l behind) ∙ ap (λ n. drop n c.args.layouts.items) (sym (longer ∙ add-one (length at.yielded))),
      subst (λ fs. AreFiles c.args.resident (rows_of c.args.needs.now) (at.yielded ++ p ∷ []) c.args.layouts.items fs) (sym c.in_ok-push.ensures.items)
          (one-more c.args.resident (rows_of c.args.needs.now) c.args.layouts.items at.yielded at.files.items p l c.in_ok-open_file.field-0 at.invariant.2
          (drop-at c.args.layouts.items (into_iter_items c.next-in-loop-pager.new.self) (length at.yielded) l behind)
          (subst (λ n. IsFileOf c.args.resident n p l c.in_ok-open_file.field-0) needs_are c.in_ok-open_file.ensures)),
    )
