-- How a run ends whose scripts were run one after another.
use Rattle.std.proofs.Common.{◌≡◌, ℕ, List, Option, Some, Result, Ok, Err, sym, ap, subst, ◌∙◌}
use Rattle.pg_bytes.specs.declared.status.Status.{Status}
use Rattle.pg_bytes.specs.declared.status.Status.TheVariants as status
use Rattle.pg_digest.specs.Kinds.{Hash}
use Rattle.pg_history.specs.Legal.{calls_in}
use Rattle.pg_history.proofs.SoloFacts.{ordered_is_solo}
use Rattle.pg_report.specs.Journal.{journal}
use Rattle.pg_io.specs.Files.{Told}
use Rattle.scene_open.specs.Items.{ReadsWithin}
use Rattle.scene_run.specs.Ending.{Ending, Run, run_path, run_by, most_reads, reads_by, ended, Ends, Prints, PrintsLegal, RunsTo, OverSome, IsEndOf, EndsTo, Finishes, FinishesSolo}
use Rattle.scene_run.proofs.EndingFacts.{map-some}
use Rattle.scene_run.specs.Runs.{RunsSolo}

module _ (hash : Hash) where
  prints-legal : (run : Run) (text : List ℕ) → Prints hash (RunsSolo hash) run text → PrintsLegal hash run text
  prints-legal run text prints = record {
    history = prints.history;
    printed = prints.printed;
    sound = prints.given.sound;
    fixed = prints.fixed;
    only = λ other legal order. ordered_is_solo hash run.opening run.scripts other legal order ∙ sym prints.given.is_solo;
  }

  same-end : (goes : Result Run Status) (e : Ending) → IsEndOf (Prints hash (RunsSolo hash)) goes e → e ≡ ended hash goes
  same-end (Err s) e is = is
  same-end (Ok run) e is = λ i. record {
    status = is.0 i;
    text = (is.1.printed ∙ ap (λ h. journal h (calls_in run.scripts)) is.1.given.is_solo) i;
  }

  solo-ends : (goes : Result Run Status) (s : Status) (before now : Option (List ℕ)) → EndsTo (Prints hash (RunsSolo hash)) goes s before now → Ends (ended hash goes) s before now
  solo-ends goes status.NoMemory before now ends = ends
  solo-ends goes status.Done before now ends = subst (λ (e : Ending). Ends e status.Done before now) (same-end goes ends.0 ends.1) ends.2
  solo-ends goes status.NotSealed before now ends = subst (λ (e : Ending). Ends e status.NotSealed before now) (same-end goes ends.0 ends.1) ends.2
  solo-ends goes status.Usage before now ends = subst (λ (e : Ending). Ends e status.Usage before now) (same-end goes ends.0 ends.1) ends.2
  solo-ends goes (status.SceneBad line kind) before now ends = subst (λ (e : Ending). Ends e (status.SceneBad line kind) before now) (same-end goes ends.0 ends.1) ends.2
  solo-ends goes (status.FileFault item) before now ends = subst (λ (e : Ending). Ends e (status.FileFault item) before now) (same-end goes ends.0 ends.1) ends.2
  solo-ends goes status.SinkFault before now ends = subst (λ (e : Ending). Ends e status.SinkFault before now) (same-end goes ends.0 ends.1) ends.2
  solo-ends goes (status.Limit which number) before now ends = subst (λ (e : Ending). Ends e (status.Limit which number) before now) (same-end goes ends.0 ends.1) ends.2
  solo-ends goes (status.TrustBad item number arg) before now ends = subst (λ (e : Ending). Ends e (status.TrustBad item number arg) before now) (same-end goes ends.0 ends.1) ends.2

  solo-runs : (goes : Result Run Status) (before now : Option (List ℕ)) → RunsTo (Prints hash (RunsSolo hash)) goes before now → RunsTo (PrintsLegal hash) goes before now
  solo-runs goes before now runs = record {
    run = runs.run;
    is = runs.is;
    text = runs.text;
    wrote = runs.wrote;
    prints = prints-legal runs.run runs.text runs.prints;
  }

  pub solo-some : (s : Status) (before now : Option (List ℕ)) → OverSome (Finishes (Prints hash (RunsSolo hash)) s before now) → OverSome (FinishesSolo hash s before now)
  solo-some s before now some =
      map-some (Finishes (Prints hash (RunsSolo hash)) s before now) (FinishesSolo hash s before now)
      (λ goes is. record { ends = solo-ends goes s before now is.ends; done = λ done. solo-runs goes before now (is.done done) }) some

  -- ---- of words that name this path

  pub solo-output : (told : Told) (named : Option (List ℕ)) (path : List ℕ) (s : Status) (before now : Option (List ℕ)) → named ≡ Some path
      → EndsTo (Prints hash (RunsSolo hash)) (run_path told path) s before now → Ends (ended hash (run_by told named)) s before now
  solo-output told named path s before now is ends =
      subst (λ (p : Option (List ℕ)). Ends (ended hash (run_by told p)) s before now) (sym is) (solo-ends (run_path told path) s before now ends)

  pub solo-legal : (told : Told) (named : Option (List ℕ)) (path : List ℕ) (before now : Option (List ℕ)) → named ≡ Some path
      → RunsTo (Prints hash (RunsSolo hash)) (run_path told path) before now → RunsTo (PrintsLegal hash) (run_by told named) before now
  solo-legal told named path before now is runs =
      subst (λ (p : Option (List ℕ)). RunsTo (PrintsLegal hash) (run_by told p) before now) (sym is) (solo-runs (run_path told path) before now runs)

pub path-reads : (told : Told) (named : Option (List ℕ)) (path : List ℕ) (now : Option Told) → named ≡ Some path
    → ReadsWithin told (most_reads told path) now → ReadsWithin told (reads_by named told) now
path-reads told named path now is reads = subst (λ (p : Option (List ℕ)). ReadsWithin told (reads_by p told) now) (sym is) reads
