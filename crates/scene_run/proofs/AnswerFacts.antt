-- How a run ends whose answer, a text or an early end, is written at once.
use Rattle.std.proofs.Common.{◌≡◌, ℕ, ◌≤◌, List, Option, Result, Ok, Err, inl, inr, refl, sym, subst, ◌∙◌, arith}
use Rattle.std.specs.Prelude.{◌≢◌, IfErr}
use Rattle.std.specs.Global.{Vec}
use Rattle.pg_bytes.specs.declared.status.Status.{Status}
use Rattle.pg_bytes.specs.declared.status.Status.TheVariants as status
use Rattle.pg_io.specs.Sink.{SentPart}
use Rattle.scene_run.specs.Ending.{Ending, Run, early_end, GoesTo, EarlyIsCaused, OverSome, Answers, AnswerIsCaused, IsEndOf, EndsTo, Finishes, IsEarlyEnd, EndsBy, RunsTo, CountsFaults}
use Rattle.scene_run.proofs.EndingFacts.{map-some}

module _ (prints : Run → List ℕ → Type 0) (goes : Result Run Status) (before now : Option (List ℕ)) where
  ends_done : (text : List ℕ) → GoesTo prints goes text → IsEndOf prints goes (record { status = status.Done; text = text })
  ends_done text to = subst (λ (r : Result Run Status). IsEndOf prints r (record { status = status.Done; text = text })) (sym to.is) (refl, to.prints)

  ends_early : (s : Status) → goes ≡ Err s → IsEndOf prints goes (early_end s)
  ends_early s is = subst (λ (r : Result Run Status). IsEndOf prints r (early_end s)) (sym is) refl

  faulted : (e : Ending) (s : Status) → IsEndOf prints goes e → s ≡ status.SinkFault → SentPart before now e.text → EndsTo prints goes s before now
  faulted e s is fault part = subst (λ (x : Status). EndsTo prints goes x before now) (sym fault) (e, is, part)

  -- the run of what was answered ends as it was found to go
  pub ends-to : (answer : Result (Vec ℕ) Status) (a b : ℕ) (s : Status) → Answers prints goes answer → AnswerIsCaused a b answer → EndsBy answer s before now
      → EndsTo prints goes s before now
  ends-to (Ok text) a b s to caused (inl out) = subst (λ (x : Status). EndsTo prints goes x before now) (sym out.0) (_, ends_done text.items to, (refl, out.1))
  ends-to (Ok text) a b s to caused (inr out) = faulted _ s (ends_done text.items to) out.0 out.1
  ends-to (Err status.NoMemory) a b s to caused out = subst (λ (x : Status). EndsTo prints goes x before now) (sym out.0) out.1
  ends-to (Err (status.SceneBad line kind)) a b s to caused (inl out) = subst (λ (x : Status). EndsTo prints goes x before now) (sym out.0) (_, ends_early (status.SceneBad line kind) to, (refl, out.1))
  ends-to (Err (status.SceneBad line kind)) a b s to caused (inr out) = faulted _ s (ends_early (status.SceneBad line kind) to) out.0 out.1
  ends-to (Err (status.FileFault item)) a b s to caused (inl out) = subst (λ (x : Status). EndsTo prints goes x before now) (sym out.0) (_, ends_early (status.FileFault item) to, (refl, out.1))
  ends-to (Err (status.FileFault item)) a b s to caused (inr out) = faulted _ s (ends_early (status.FileFault item) to) out.0 out.1
  ends-to (Err (status.Limit which number)) a b s to caused (inl out) = subst (λ (x : Status). EndsTo prints goes x before now) (sym out.0) (_, ends_early (status.Limit which number) to, (refl, out.1))
  ends-to (Err (status.Limit which number)) a b s to caused (inr out) = faulted _ s (ends_early (status.Limit which number) to) out.0 out.1
  ends-to (Err (status.TrustBad item number arg)) a b s to caused (inl out) = subst (λ (x : Status). EndsTo prints goes x before now) (sym out.0) (_, ends_early (status.TrustBad item number arg) to, (refl, out.1))
  ends-to (Err (status.TrustBad item number arg)) a b s to caused (inr out) = faulted _ s (ends_early (status.TrustBad item number arg) to) out.0 out.1
  ends-to (Err status.Done) a b s to caused out = absurd caused
  ends-to (Err status.NotSealed) a b s to caused out = absurd caused
  ends-to (Err status.Usage) a b s to caused out = absurd caused
  ends-to (Err status.SinkFault) a b s to caused out = absurd caused

  never : (s kind : Status) → s ≡ kind → s ≡ status.Done → kind ≢ status.Done → RunsTo prints goes before now
  never s kind is done other = absurd (other (sym is ∙ done))

  -- what was done has gone out whole
  pub runs-to : (answer : Result (Vec ℕ) Status) (a b : ℕ) (s : Status) → Answers prints goes answer → AnswerIsCaused a b answer → EndsBy answer s before now
      → s ≡ status.Done → RunsTo prints goes before now
  runs-to (Ok text) a b s to caused (inl out) done = record { run = to.run; is = to.is; text = text.items; wrote = out.1; prints = to.prints }
  runs-to (Ok text) a b s to caused (inr out) done = never s status.SinkFault out.0 done (λ e. cc)
  runs-to (Err status.NoMemory) a b s to caused out done = never s status.NoMemory out.0 done (λ e. cc)
  runs-to (Err (status.SceneBad line kind)) a b s to caused (inl out) done = never s (status.SceneBad line kind) out.0 done (λ e. cc)
  runs-to (Err (status.SceneBad line kind)) a b s to caused (inr out) done = never s status.SinkFault out.0 done (λ e. cc)
  runs-to (Err (status.FileFault item)) a b s to caused (inl out) done = never s (status.FileFault item) out.0 done (λ e. cc)
  runs-to (Err (status.FileFault item)) a b s to caused (inr out) done = never s status.SinkFault out.0 done (λ e. cc)
  runs-to (Err (status.Limit which number)) a b s to caused (inl out) done = never s (status.Limit which number) out.0 done (λ e. cc)
  runs-to (Err (status.Limit which number)) a b s to caused (inr out) done = never s status.SinkFault out.0 done (λ e. cc)
  runs-to (Err (status.TrustBad item number arg)) a b s to caused (inl out) done = never s (status.TrustBad item number arg) out.0 done (λ e. cc)
  runs-to (Err (status.TrustBad item number arg)) a b s to caused (inr out) done = never s status.SinkFault out.0 done (λ e. cc)
  runs-to (Err status.Done) a b s to caused out done = absurd caused
  runs-to (Err status.NotSealed) a b s to caused out done = absurd caused
  runs-to (Err status.Usage) a b s to caused out done = absurd caused
  runs-to (Err status.SinkFault) a b s to caused out done = absurd caused

-- the same over some bytes
pub finishes-some : (prints : Run → List ℕ → Type 0) (before now : Option (List ℕ)) (answer : Result (Vec ℕ) Status) (a b : ℕ) (s : Status)
    → OverSome (λ goes. Answers prints goes answer) → AnswerIsCaused a b answer → EndsBy answer s before now → OverSome (Finishes prints s before now)
finishes-some prints before now answer a b s some caused out =
    map-some (λ goes. Answers prints goes answer) (Finishes prints s before now)
    (λ goes is. record { ends = ends-to prints goes before now answer a b s is caused out; done = λ done. runs-to prints goes before now answer a b s is caused out done }) some

-- What a run's status says of the count of the files' faults, whatever the files tell.
pub record IsEnded (a b : ℕ) (s : Status) (before now : Option (List ℕ)) : Type 0 where
  pub no_usage : s ≢ status.Usage
  pub no_verdict : s ≢ status.NotSealed
  pub faults : CountsFaults s a b
  pub no_memory : s ≡ status.NoMemory → now ≡ before

module _ (a b : ℕ) (before now : Option (List ℕ)) where
  abbrev Ended : Status → Type 0
  Ended s = IsEnded a b s before now

  cut : (s : Status) → s ≡ status.SinkFault → a ≤ b → Ended s
  cut s is le = subst Ended (sym is) (record { no_usage = λ e. cc; no_verdict = λ e. cc; faults = le; no_memory = λ e. cc })

  same : b ≡ a → a ≤ b
  same e = omega (arith, e)

  -- each status of what was answered
  pub is-ended : (answer : Result (Vec ℕ) Status) (s : Status) → AnswerIsCaused a b answer → EndsBy answer s before now → Ended s
  is-ended (Ok text) s caused (inl out) = subst Ended (sym out.0)
      (record { no_usage = λ e. cc; no_verdict = λ e. cc; faults = caused; no_memory = λ e. cc })
  is-ended (Ok text) s caused (inr out) = cut s out.0 (same caused)
  is-ended (Err status.NoMemory) s caused out = subst Ended (sym out.0)
      (record { no_usage = λ e. cc; no_verdict = λ e. cc; faults = caused; no_memory = λ e. out.1 })
  is-ended (Err (status.SceneBad line kind)) s caused (inl out) = subst Ended (sym out.0)
      (record { no_usage = λ e. cc; no_verdict = λ e. cc; faults = caused; no_memory = λ e. cc })
  is-ended (Err (status.SceneBad line kind)) s caused (inr out) = cut s out.0 (same caused)
  is-ended (Err (status.FileFault item)) s caused (inl out) = subst Ended (sym out.0)
      (record { no_usage = λ e. cc; no_verdict = λ e. cc; faults = caused; no_memory = λ e. cc })
  is-ended (Err (status.FileFault item)) s caused (inr out) = cut s out.0 caused.later
  is-ended (Err (status.Limit which number)) s caused (inl out) = subst Ended (sym out.0)
      (record { no_usage = λ e. cc; no_verdict = λ e. cc; faults = caused; no_memory = λ e. cc })
  is-ended (Err (status.Limit which number)) s caused (inr out) = cut s out.0 (same caused)
  is-ended (Err (status.TrustBad item number arg)) s caused (inl out) = subst Ended (sym out.0)
      (record { no_usage = λ e. cc; no_verdict = λ e. cc; faults = caused; no_memory = λ e. cc })
  is-ended (Err (status.TrustBad item number arg)) s caused (inr out) = cut s out.0 (same caused)
  is-ended (Err status.Done) s caused out = absurd caused
  is-ended (Err status.NotSealed) s caused out = absurd caused
  is-ended (Err status.Usage) s caused out = absurd caused
  is-ended (Err status.SinkFault) s caused out = absurd caused

-- a status that was answered is one with which a run can end early
pub early-end : (a b : ℕ) (s : Status) → EarlyIsCaused a b s → IsEarlyEnd s
early-end a b status.NoMemory caused = tt
early-end a b (status.SceneBad line kind) caused = tt
early-end a b (status.FileFault item) caused = tt
early-end a b (status.Limit which number) caused = tt
early-end a b (status.TrustBad item number arg) caused = tt
early-end a b status.Done caused = absurd caused
early-end a b status.NotSealed caused = absurd caused
early-end a b status.Usage caused = absurd caused
early-end a b status.SinkFault caused = absurd caused

pub early-answer : (a b : ℕ) (answer : Result (Vec ℕ) Status) → AnswerIsCaused a b answer → IfErr answer IsEarlyEnd
early-answer a b (Ok text) caused = tt
early-answer a b (Err s) caused = early-end a b s caused
