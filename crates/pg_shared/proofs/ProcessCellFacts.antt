-- A process is asked behind its lock.
use Rattle.std.proofs.Common.{◌≡◌, ℕ, ◌+◌, ◌≤◌, length, sym, ap, subst, ◌∙◌, arith}
use Rattle.pg_book.specs.declared.receipt.Receipt.{Receipt}
use Rattle.pg_book.specs.Knowing.{HasRoom}
use Rattle.pg_book.specs.Models.{SpineOf, PassOf}
use Rattle.pg_book.specs.Outcomes.{Meets, Draws}
use Rattle.pg_book.specs.Closing.{stamped}
use Rattle.cs_policy.specs.declared.process.ProcEvent.{ProcEvent}
use Rattle.cs_policy.specs.declared.process.ProcReply.{ProcReply}
use Rattle.cs_policy.specs.declared.process.ProcEvent.TheVariants as process
use Rattle.cs_policy.specs.declared.entry.Event.TheVariants as event
use Rattle.cs_policy.specs.declared.entry.Reply.TheVariants as reply
use Rattle.cs_policy.specs.declared.entry.Place.TheVariants as place
use Rattle.cs_policy.specs.declared.entry.Who.{Who}
use Rattle.cs_policy.specs.declared.entry.Entry.{Entry}
use Rattle.cs_policy.specs.Entry.{part_number}
use Rattle.pg_process.specs.ProcessStep.{PlainProcess, process_step}
use Rattle.pg_calls.specs.Room.{plus, Within, process_uses}
use Rattle.pg_calls.specs.Parts as parts
use Rattle.pg_calls.specs.Parts.{Asks}
use Rattle.pg_calls.specs.Asking.{IsProperOf}
use Rattle.pg_parts.specs.Opened.{numbers_in}
use Rattle.pg_parts.specs.Rooms.{part_needs, uses_in}
use Rattle.pg_parts.specs.Asking.{MayAskProcess}
use Rattle.pg_parts.specs.Replays.{ProcessWent}
use Rattle.pg_parts.proofs.ProcessFacts.{process-replies, process-agrees}
use Rattle.pg_parts.proofs.ReplayFacts.{process-goes}
use Rattle.pg_machine.proofs.AskFacts.{length-numbers}
use Rattle.pg_shared.specs.Plan.{Plan, number_at}
use Rattle.pg_shared.specs.Drawn.{drawn_on}
use Rattle.pg_shared.specs.Passes.{shown, IsPassOf}
use Rattle.pg_shared.specs.Cells.{ProcessCellNow, IsProcessKept, IsProcessOf}
use Rattle.pg_shared.proofs.SpineFacts.{entry_of, uses-fit, may-draw, entered, drawn-more, spine-draws, pass-draws, asks-draws}

-- the cell of this part is that of the process with this number
pub process-here : (plan : Plan) (cell : ProcessCellNow) (of : IsProcessOf plan cell) (pid : ℕ) → cell.spine.part ≡ number_at plan (place.Process pid) → IsProcessKept plan pid cell
process-here plan cell of pid part =
    let is : of.pid ≡ pid = let e = sym of.kept.spine.part ∙ part in omega (arith, e) in
    subst (λ (n : ℕ). IsProcessKept plan n cell) is of.kept

module _ (plan : Plan) (p : PlainProcess) (spine : SpineOf Entry) (pid : ℕ) (kept : IsProcessKept plan pid (record { process = p; spine = spine })) (who : Who)
    (pass : PassOf Entry) (own : IsPassOf plan who.worker pass) (met : PassOf Entry) (meets : Meets spine pass met) (asked : ProcEvent)
    (proper : IsProperOf (numbers_in plan.start) asked) (room : parts.HasRoom (shown plan pass) who (place.Process pid) (event.Proc asked)) where
  -- the process has a number left for a region that the event may make
  made_fits : p.made + (process_uses asked).numbers ≤ 4096
  made_fits =
      let opened = kept.numbers in
      let more = kept.went.made in
      let fit = subst (λ n. Within (plus (uses_in (drawn_on spine)) (process_uses asked)) (part_needs plan.start.needs (part_number n (length plan.start.processes) (place.Process pid)))) (length-numbers plan.start.files)
      (uses-fit plan (place.Process pid) spine kept.spine who pass own met meets (event.Proc asked) room) in
      omega (arith, opened, more, fit.numbers)

  pub may-ask-process : MayAskProcess p asked
  may-ask-process = by_event asked proper made_fits
    where
      by_event : (v : ProcEvent) → IsProperOf (numbers_in plan.start) v → p.made + (process_uses v).numbers ≤ 4096 → MayAskProcess p v
      by_event (process.Insert at number file_pages first pages prot shared) proper fits =
          let few = kept.few_files in let long = length-numbers plan.start.files in
          (omega (arith, proper.0, few, long), proper.1, omega (arith, fits))
      by_event process.Start proper fits = tt
      by_event (process.Resolve addr access) proper fits = tt
      by_event (process.Remove at) proper fits = tt
      by_event process.Debug proper fits = tt
      by_event process.Punish proper fits = tt
      by_event process.ClearValid proper fits = tt
      by_event process.Exit proper fits = tt

  pub may-draw-process : HasRoom spine.part met.caller met.view
  may-draw-process = may-draw plan (place.Process pid) spine kept.spine who pass own met meets (event.Proc asked) room

  module _ (entry : Entry) (same : entry ≡ entry_of who (place.Process pid) (event.Proc asked) (reply.Proc (process_step p asked).0))
      (receipt : Receipt Entry) (spine' : SpineOf Entry) (pass' : PassOf Entry) (draws : Draws spine met entry receipt spine' pass') where
    abbrev line_is : receipt.entry ≡ entry_of who (place.Process pid) (event.Proc asked) (reply.Proc (process_step p asked).0)
    line_is = entered plan (place.Process pid) spine kept.spine who pass own met meets (event.Proc asked) room (reply.Proc (process_step p asked).0) entry same receipt spine' pass' draws

    went_on : ProcessWent (length (numbers_in plan.start).files) kept.opened (drawn_on spine') (process_step p asked).1
    went_on =
        subst (λ es. ProcessWent (length (numbers_in plan.start).files) kept.opened es (process_step p asked).1)
        (sym (drawn-more plan (place.Process pid) spine kept.spine who pass own met meets (event.Proc asked) room (reply.Proc (process_step p asked).0) entry same receipt spine' pass' draws))
        (process-goes (numbers_in plan.start) kept.opened p (drawn_on spine) (stamped receipt) asked kept.went proper (ap (λ (n : Entry). n.event) line_is) (ap (λ (n : Entry). n.reply) line_is))

    -- the cell with its next state
    pub process-kept : IsProcessOf plan (record { process = (process_step p asked).1; spine = spine' })
    process-kept = record {
      pid = pid;
      kept = record {
        opened = kept.opened;
        here = kept.here;
        few_files = kept.few_files;
        numbers = kept.numbers;
        spine = spine-draws plan (place.Process pid) spine kept.spine who pass own met meets (event.Proc asked) room (reply.Proc (process_step p asked).0) entry same receipt spine' pass' draws;
        went = went_on;
      };
    }

    pub process-asks : Asks (shown plan pass) who (place.Process pid) (event.Proc asked) receipt (shown plan pass')
    process-asks =
        asks-draws plan (place.Process pid) spine kept.spine who pass own met meets (event.Proc asked) room (reply.Proc (process_step p asked).0) entry same receipt spine' pass' draws
        (process-replies (numbers_in plan.start) p asked kept.went.declared proper, process-agrees (numbers_in plan.start) p asked kept.went.declared proper)

    pub process-replied : receipt.entry.reply ≡ reply.Proc (process_step p asked).0
    process-replied = ap (λ (n : Entry). n.reply) line_is

    pub process-passes : IsPassOf plan who.worker pass'
    process-passes = pass-draws plan (place.Process pid) spine kept.spine who pass own met meets (event.Proc asked) room (reply.Proc (process_step p asked).0) entry same receipt spine' pass' draws

-- What a draw on a process leaves: the cell and the pass stand, and the receipt is of what was asked.
pub record Stands (plan : Plan) (pid : ℕ) (who : Who) (pass : PassOf Entry) (asked : ProcEvent) (receipt : Receipt Entry) (p : PlainProcess) (spine : SpineOf Entry) (after : PassOf Entry) : Type 0 where
  pub kept : IsProcessOf plan (record { process = p; spine = spine })
  pub asks : Asks (shown plan pass) who (place.Process pid) (event.Proc asked) receipt (shown plan after)
  pub is_pass : IsPassOf plan who.worker after

module _ (plan : Plan) (cell : ProcessCellNow) (p : PlainProcess) (spine : SpineOf Entry) (of : IsProcessOf plan (record { process = p; spine = spine })) (view : ◌≡◌ {A = ProcessCellNow} (record { process = p; spine = spine }) cell)
    (pid : ℕ) (part : cell.spine.part ≡ number_at plan (place.Process pid)) (who : Who) (pass : PassOf Entry) (own : IsPassOf plan who.worker pass) (met : PassOf Entry) (meets : Meets spine pass met) (asked : ProcEvent)
    (proper : IsProperOf (numbers_in plan.start) asked) (room : parts.HasRoom (shown plan pass) who (place.Process pid) (event.Proc asked)) where
  kept : IsProcessKept plan pid (record { process = p; spine = spine })
  kept = process-here plan (record { process = p; spine = spine }) of pid (ap (λ (c : ProcessCellNow). c.spine.part) view ∙ part)

  pub asks-process : MayAskProcess p asked
  asks-process = may-ask-process plan p spine pid kept who pass own met meets asked proper room

  module _ (now : SpineOf Entry) (same : now ≡ spine) where
    pub draws-process : HasRoom now.part met.caller met.view
    draws-process = subst (λ (s : SpineOf Entry). HasRoom s.part met.caller met.view) (sym same) (may-draw-process plan p spine pid kept who pass own met meets asked proper room)

    pub process-stands : (answer : ProcReply) (new : PlainProcess) → answer ≡ (process_step p asked).0 → new ≡ (process_step p asked).1
        → (entry : Entry) → ◌≡◌ {A = Entry} entry (entry_of who (place.Process pid) (event.Proc asked) (reply.Proc answer))
        → (receipt : Receipt Entry) (after : SpineOf Entry) (pass' : PassOf Entry) → Draws now met entry receipt after pass' → Stands plan pid who pass asked receipt new after pass'
    process-stands answer new answer_is new_is entry entry_is receipt after pass' draws =
        let drawn = subst (λ (s : SpineOf Entry). Draws s met entry receipt after pass') same draws in
        let is : ◌≡◌ {A = Entry} entry (entry_of who (place.Process pid) (event.Proc asked) (reply.Proc (process_step p asked).0)) =
        entry_is ∙ ap (λ (r : ProcReply). entry_of who (place.Process pid) (event.Proc asked) (reply.Proc r)) answer_is in
        record {
          kept = subst (λ (q : PlainProcess). IsProcessOf plan (record { process = q; spine = after })) (sym new_is) (process-kept plan p spine pid kept who pass own met meets asked proper room entry is receipt after pass' drawn);
          asks = process-asks plan p spine pid kept who pass own met meets asked proper room entry is receipt after pass' drawn;
          is_pass = process-passes plan p spine pid kept who pass own met meets asked proper room entry is receipt after pass' drawn;
        }
