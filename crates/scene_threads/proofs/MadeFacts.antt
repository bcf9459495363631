-- How a run of a made scene ends.
use Rattle.std.proofs.Common.{◌≡◌, ℕ, List, Option, Some, None, Result, Ok, Err, inl, inr, refl, sym, subst, ◌∙◌, arith}
use Rattle.std.specs.Prelude.{◌≢◌, IfOk, IfErr}
use Rattle.std.specs.Global.{Vec}
use Rattle.pg_bytes.specs.declared.status.Status.{Status}
use Rattle.pg_bytes.specs.declared.status.Status.TheVariants as status
use Rattle.pg_digest.specs.Kinds.{Hash}
use Rattle.scene_run.specs.Ending.{run_items, EndsBy, CountsFaults, IsEarlyEnd}
use Rattle.scene_threads.specs.Made.{PrintsMade, EndsMade}
use Rattle.pg_io.specs.Files.{Told}
use Rattle.pg_report.specs.Journal.{summary}
use Rattle.pg_history.specs.Machine.{Line}
use Rattle.pg_history.specs.Legal.{calls_in}
use Rattle.scene_text.specs.declared.whole.Scene.{Scene}
use Rattle.scene_open.specs.declared.open_scene.OpenScene.{OpenScene}
use Rattle.scene_open.specs.Items.{Item, items_told, items_end}
use Rattle.scene_open.specs.Ends.{OpensTo, Opens}
use Rattle.scene_open.specs.Opening.{opening_with}
use Rattle.scene_made.specs.Made as made
use Rattle.scene_run.specs.Runs.{IsSound}
use Rattle.scene_run.proofs.EndingFacts.{items-go}

-- what each clause says of such a run
pub record IsMadeEnd (hash : Hash) (n : ℕ) (s : Status) (before now : Option (List ℕ)) : Type 0 where
  pub made : EndsMade hash n s before now
  pub no_usage : s ≢ status.Usage
  pub no_verdict : s ≢ status.NotSealed
  pub no_memory : s ≡ status.NoMemory → now ≡ before
  pub faults : (count : ℕ) → CountsFaults s count count

module _ (hash : Hash) (n : ℕ) (before now : Option (List ℕ)) where
  memory_ended : (s : Status) → (s ≡ status.NoMemory) × (now ≡ before) → IsMadeEnd hash n s before now
  memory_ended s out = subst (λ (x : Status). IsMadeEnd hash n x before now) (sym out.0)
      (record { made = out.1; no_usage = λ e. cc; no_verdict = λ e. cc; no_memory = λ e. out.1; faults = λ count. refl })

  pub made-ended : (answer : Result (Vec ℕ) Status) (s : Status) → IfOk answer (λ text. PrintsMade hash n text.items) → IfErr answer (λ e. e ≡ status.NoMemory)
      → EndsBy answer s before now → IsMadeEnd hash n s before now
  made-ended (Ok text) s prints memory (inl out) = subst (λ (x : Status). IsMadeEnd hash n x before now) (sym out.0)
      (record { made = (text.items, out.1, prints); no_usage = λ e. cc; no_verdict = λ e. cc; no_memory = λ e. cc; faults = λ count. refl })
  made-ended (Ok text) s prints memory (inr out) = subst (λ (x : Status). IsMadeEnd hash n x before now) (sym out.0)
      (record { made = (text.items, out.1, prints); no_usage = λ e. cc; no_verdict = λ e. cc; no_memory = λ e. cc; faults = λ count. omega arith })
  made-ended (Err e) s prints memory out = memory_ended s (subst (λ (x : Status). EndsBy (Err x) s before now) memory out)

pub made-early : (answer : Result (Vec ℕ) Status) → IfErr answer (λ e. e ≡ status.NoMemory) → IfErr answer IsEarlyEnd
made-early (Ok text) memory = tt
made-early (Err e) memory = subst IsEarlyEnd (sym memory) tt

-- the same number
pub made-same : (hash : Hash) (n m : ℕ) (s : Status) (before now : Option (List ℕ)) → n ≡ m → EndsMade hash n s before now → EndsMade hash m s before now
made-same hash n m s before now same ends = subst (λ (k : ℕ). EndsMade hash k s before now) same ends

-- ---- what such a run prints

no-end : (s : Status) → ◌≡◌ {A = Option Status} None (Some s) → ⊥
no-end s e = absurd cc

pub prints-made : (hash : Hash) (n : ℕ) (scene : Scene) (told : Told) (o : OpenScene) (history : List Line) (text : List ℕ)
    → scene ≡ made.scene hash n → told ≡ made.told hash n → OpensTo (items_told told scene.head) o
    → IsSound hash (opening_with scene.head o.files.items o.layouts.items o.trust) scene.scripts history
    → text ≡ summary history (calls_in scene.scripts) → PrintsMade hash n text
prints-made hash n scene told o history text is tells opens sound printed = record {
  run = record { opening = opening_with scene.head o.files.items o.layouts.items o.trust; scripts = scene.scripts };
  goes = (λ i. run_items (items_told (sym tells i) (sym is i).head) (sym is i).scripts) ∙ items-go told scene.head scene.scripts o opens;
  history = history;
  printed = printed;
  sound = sound;
}

-- where no item ends the run early, only want of memory does
pub only-memory : (items : List Item) (s : Status) → Opens items (Err s) → items_end 1 items ≡ None → s ≡ status.NoMemory
only-memory items status.NoMemory ends none = refl
only-memory items status.Done ends none = absurd (no-end status.Done (sym none ∙ ends))
only-memory items status.NotSealed ends none = absurd (no-end status.NotSealed (sym none ∙ ends))
only-memory items status.Usage ends none = absurd (no-end status.Usage (sym none ∙ ends))
only-memory items (status.SceneBad line kind) ends none = absurd (no-end (status.SceneBad line kind) (sym none ∙ ends))
only-memory items (status.FileFault item) ends none = absurd (no-end (status.FileFault item) (sym none ∙ ends))
only-memory items status.SinkFault ends none = absurd (no-end status.SinkFault (sym none ∙ ends))
only-memory items (status.Limit which number) ends none = absurd (no-end (status.Limit which number) (sym none ∙ ends))
only-memory items (status.TrustBad item number arg) ends none = absurd (no-end (status.TrustBad item number arg) (sym none ∙ ends))
