use Rattle.std.proofs.Common.{◌≡◌, ℕ, ◌+◌, List, [], ◌∷◌, ◌++◌, length, append_assoc, length-append, sym, ap, ◌∙◌, subst, arith}
use Rattle.std.specs.Vec.Iter.{into_iter_items}
use Rattle.cs_policy.specs.declared.entry.Entry.{Entry}
use Rattle.pg_book.specs.Models.{SpineOf}
use Rattle.pg_object.specs.Object.{ObjectNow}
use Rattle.pg_shared.specs.Cells.{FileCellNow, IsFileOf}
use Rattle.pg_shared.specs.Closing.{AreKept}
use Rattle.pg_shared.proofs.FileCellFacts.{file-here}
use Rattle.pg_shared.proofs.CloseFacts.{FileAt, kept-push}
use Rattle.pg_shared.proofs.closing.take_files.Goals as goal

pub loop-cell-preserved : goal.loop-cell-preserved
loop-cell-preserved g c =
    let at = c.loop-cell in
    let plan = g.B.Naming.plan in
    let p = c.into_parts-object.result.0 in
    let s = c.into_parts-object.result.1 in
    let cell = c.into_inner-cell.result in
    let steps : into_iter_items at.cell-iterator ≡ c.in-Some.cell ∷ into_iter_items c.next.new.self = c.in-Some.ensures.steps.0 in
    let parts : ◌≡◌ {A = FileCellNow} (record { object = p; spine = s }) cell = c.into_parts-object.ensures.parts in
    let number : cell.spine.part ≡ length at.files.items =
    omega (arith, c.part.ensures.number, c.if-part-len.false, c.len-in-loop-cell.ensures, at.files.ok.0) in
    let one : FileAt g.D.Digester.hash plan (length at.files.items) p s =
    file-here g.D.Digester.hash plan (record { object = p; spine = s }) (subst (IsFileOf g.D.Digester.hash plan) (sym parts) c.into_parts-object.ensures.kept) (length at.files.items)
    (ap (λ (x : FileCellNow). x.spine.part) parts ∙ number) in (
      append_assoc at.yielded (c.in-Some.cell ∷ []) _ ∙ sym (ap (λ l. at.yielded ++ l) steps) ∙ at.invariant.0,
      ap length c.in_ok-push.ensures.items ∙ length-append at.files.items (p ∷ []) ∙ ap (λ (n : ℕ). n + 1) at.invariant.1 ∙ sym (length-append at.yielded (c.in-Some.cell ∷ [])),
      subst (λ (l : List ObjectNow). AreKept (FileAt g.D.Digester.hash plan) 0 l c.push-in-loop-cell.new.self.items) (sym c.in_ok-push.ensures.items)
          (subst (λ (l : List (SpineOf Entry)). AreKept (FileAt g.D.Digester.hash plan) 0 (at.files.items ++ p ∷ []) l) (sym c.in_ok-push-2.ensures.items)
          (kept-push (FileAt g.D.Digester.hash plan) 0 at.files.items at.spines.items (length at.files.items) p s at.invariant.2 (omega arith) one)),
    )
