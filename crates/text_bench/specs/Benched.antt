-- Texts that are read and printed again.
use Rattle.std.specs.Prelude.{◌≡◌, ℕ, List, map}
use Rattle.cs_policy.specs.declared.entry.Entry.{Entry}
use Rattle.pg_book.specs.declared.receipt.Stamped.{Stamped}
use Rattle.scene_text.specs.declared.whole.Scene.{Scene}
use Rattle.scene_text.specs.Texts.{printed, IsScene}
use Rattle.pg_report.specs.declared.line.Line.{Line}
use Rattle.pg_report.specs.Journal.{journal}
use Rattle.pg_report.specs.Grammar.{IsJournal}

-- what was printed is the one form of what the text says
pub record IsSceneAgain (text again : List ℕ) : Type 0 where
  pub scene : Scene
  pub says : IsScene text scene
  pub is : again ≡ printed scene

-- the entry of a line with its stamp
abbrev pub stamped_of : Line → Stamped Entry
stamped_of l = record { stamp = l.stamp; part = 0; caller = 0; entry = l.entry }

abbrev pub history_of : List Line → List (Stamped Entry)
history_of lines = map stamped_of lines

-- what was printed is the journal of the entries that the text has
pub record IsJournalAgain (text again : List ℕ) : Type 0 where
  pub lines : List Line
  pub calls : ℕ
  pub says : IsJournal text lines calls
  pub is : again ≡ journal (history_of lines) calls
