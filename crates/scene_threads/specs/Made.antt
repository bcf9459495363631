-- What a run of a made scene prints, and how it ends.
use Rattle.std.specs.Prelude.{ℕ, ◌≡◌, List, Option, None, Ok}
use Rattle.std.specs.Io.KnownBytes.{append_known}
use Rattle.pg_bytes.specs.declared.status.Status.{Status}
use Rattle.pg_bytes.specs.declared.status.Status.TheVariants as status
use Rattle.pg_digest.specs.Kinds.{Hash}
use Rattle.pg_io.specs.Sink.{SentPart}
use Rattle.pg_report.specs.Journal.{summary}
use Rattle.pg_history.specs.Machine.{Line}
use Rattle.pg_history.specs.Legal.{calls_in}
use Rattle.scene_open.specs.Items.{Item, items_told, items_end}
use Rattle.scene_run.specs.Ending.{Run, run_items}
use Rattle.scene_run.specs.Runs.{IsSound}
use Rattle.scene_made.specs.Made as made

-- the header lines of the scene that is made of a number, with its files
abbrev pub made_items : Hash → ℕ → List Item
made_items hash n = items_told (made.told hash n) (made.heads hash n)

-- no item of that scene ends its run early
abbrev pub OpensMade : Hash → ℕ → Type 0
OpensMade hash n = items_end 1 (made_items hash n) ≡ None

-- The text is the summary of a legal history of the scripts of the scene that is made of a number, from the opening of its
-- items. Throughout the history the sealing stands, and each denial states the first rule
-- that was broken.
pub record PrintsMade (hash : Hash) (n : ℕ) (text : List ℕ) : Type 0 where
  pub run : Run
  pub goes : run_items (made_items hash n) (made.scene hash n).scripts ≡ Ok run
  pub history : List Line
  pub printed : text ≡ summary history (calls_in run.scripts)
  pub sound : IsSound hash run.opening run.scripts history

-- Such a text went out whole, or the sink faulted and a first part of one went out, or memory ran out and nothing was
-- written. The run ends in no other way.
abbrev pub EndsMade : Hash → ℕ → Status → Option (List ℕ) → Option (List ℕ) → Type 0
EndsMade hash n status.Done before now = (text : List ℕ) × (now ≡ append_known before text) × PrintsMade hash n text
EndsMade hash n status.SinkFault before now = (text : List ℕ) × SentPart before now text × PrintsMade hash n text
EndsMade hash n status.NoMemory before now = now ≡ before
EndsMade hash n other before now = ⊥
