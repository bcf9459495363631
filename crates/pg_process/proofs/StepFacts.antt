-- What each row of the step keeps, any events keep.
use Rattle.std.proofs.Common.{Bool, true, false, cond, List, [], ◌∷◌, Option, Some, None}
use Rattle.cs_policy.specs.declared.process.ProcEvent.{ProcEvent}
use Rattle.cs_policy.specs.declared.process.ProcReply.{ProcReply}
use Rattle.pg_process.specs.ProcessStep.{PlainProcess, answered, before_rows, row, process_step}
use Rattle.pg_process.specs.Laws.{after_events}

module _ (Kept : PlainProcess → Type 0) where
  -- of two steps, whichever is taken
  pub either_step : (b : Bool) (x y : ProcReply × PlainProcess) → Kept x.1 → Kept y.1 → Kept (cond b x y).1
  either_step true x y p q = p
  either_step false x y p q = q

  -- a reply that comes before the rows changes nothing
  answered_keeps : (early : Option ProcReply) (p : PlainProcess) (by_row : ProcReply × PlainProcess) → Kept p → Kept by_row.1 → Kept (answered early p by_row).1
  answered_keeps (Some early) p by_row kept after = kept
  answered_keeps None p by_row kept after = after

  pub events_keep : ((p : PlainProcess) (e : ProcEvent) → Kept p → Kept (row p e).1) → (events : List ProcEvent) (p : PlainProcess) → Kept p → Kept (after_events p events)
  events_keep row_keeps [] p kept = kept
  events_keep row_keeps (e ∷ es) p kept =
      events_keep row_keeps es (process_step p e).1 (answered_keeps (before_rows p.state e) p (row p e) kept (row_keeps p e kept))
