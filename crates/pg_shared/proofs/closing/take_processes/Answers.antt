use Rattle.std.proofs.Common.{◌≡◌, ℕ, ◌+◌, List, [], ◌∷◌, ◌++◌, length, append_assoc, length-append, sym, ap, ◌∙◌, subst, arith}
use Rattle.std.specs.Vec.Iter.{into_iter_items}
use Rattle.cs_policy.specs.declared.entry.Entry.{Entry}
use Rattle.cs_policy.specs.declared.entry.Place.TheVariants as place
use Rattle.pg_book.specs.Models.{SpineOf}
use Rattle.pg_process.specs.ProcessStep.{PlainProcess}
use Rattle.pg_machine.proofs.AskFacts.{length-numbers}
use Rattle.pg_shared.specs.Plan.{number_at}
use Rattle.pg_shared.specs.Cells.{ProcessCellNow, IsProcessOf}
use Rattle.pg_shared.specs.Closing.{AreKept}
use Rattle.pg_shared.proofs.ProcessCellFacts.{process-here}
use Rattle.pg_shared.proofs.CloseFacts.{ProcessAt, kept-push}
use Rattle.pg_shared.proofs.closing.take_processes.Goals as goal

pub loop-cell-preserved : goal.loop-cell-preserved
loop-cell-preserved g c =
    let at = c.loop-cell in
    let plan = g.B.Naming.plan in
    let p = c.into_parts-process.result.0 in
    let s = c.into_parts-process.result.1 in
    let cell = c.into_inner-cell.result in
    let steps : into_iter_items at.cell-iterator ≡ c.in-Some.cell ∷ into_iter_items c.next.new.self = c.in-Some.ensures.steps.0 in
    let parts : ◌≡◌ {A = ProcessCellNow} (record { process = p; spine = s }) cell = c.into_parts-process.ensures.parts in
    let long = length-numbers plan.start.files in
    let number : cell.spine.part ≡ number_at plan (place.Process (length at.processes.items)) =
    omega (arith, c.part.ensures.number, c.if-part-files.false, c.len-in-loop-cell.ensures, c.requires.files, long, at.processes.ok.0) in
    let one : ProcessAt plan (length at.processes.items) p s =
    process-here plan (record { process = p; spine = s }) (subst (IsProcessOf plan) (sym parts) c.into_parts-process.ensures.kept) (length at.processes.items)
    (ap (λ (x : ProcessCellNow). x.spine.part) parts ∙ number) in (
      append_assoc at.yielded (c.in-Some.cell ∷ []) _ ∙ sym (ap (λ l. at.yielded ++ l) steps) ∙ at.invariant.0,
      ap length c.in_ok-push.ensures.items ∙ length-append at.processes.items (p ∷ []) ∙ ap (λ (n : ℕ). n + 1) at.invariant.1 ∙ sym (length-append at.yielded (c.in-Some.cell ∷ [])),
      subst (λ (l : List PlainProcess). AreKept (ProcessAt plan) 0 l c.push-in-loop-cell.new.self.items) (sym c.in_ok-push.ensures.items)
          (subst (λ (l : List (SpineOf Entry)). AreKept (ProcessAt plan) 0 (at.processes.items ++ p ∷ []) l) (sym c.in_ok-push-2.ensures.items)
          (kept-push (ProcessAt plan) 0 at.processes.items at.spines.items (length at.processes.items) p s at.invariant.2 (omega arith) one)),
    )
