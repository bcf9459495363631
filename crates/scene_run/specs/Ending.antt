-- How a run ends: its status, and the text that it writes.
use Rattle.std.specs.Prelude.{ℕ, ◌≡◌, ◌⊎◌, ◌≤◌, ◌+◌, List, [], ◌∷◌, codes, Option, Some, None, is_some, unwrap_or, Result, Ok, Err, if◌then◌else◌}
use Rattle.std.specs.Result.{result_err, result_ok}
use Rattle.std.specs.Global.{Vec}
use Rattle.std.specs.Str.{bytes_eq}
use Rattle.std.specs.Io.KnownBytes.{append_known}
use Rattle.pg_bytes.specs.Counts.{Rose}
use Rattle.pg_bytes.specs.declared.status.Status.{Status}
use Rattle.pg_bytes.specs.declared.status.Status.TheVariants as status
use Rattle.pg_io.specs.Files.{Told, next_read, after_read}
use Rattle.pg_io.specs.Sink.{SentPart}
use Rattle.pg_digest.specs.Kinds.{Hash}
use Rattle.cs_policy.specs.declared.call.Call.{Call}
use Rattle.pg_history.specs.Machine.{Line}
use Rattle.pg_history.specs.Opening.{Opening}
use Rattle.pg_history.specs.Legal.{Legal, calls_in}
use Rattle.pg_history.specs.Solo.{solo, InOrder}
use Rattle.scene_text.specs.declared.head.Head.{Head}
use Rattle.scene_text.specs.declared.whole.Scene.{Scene}
use Rattle.scene_text.specs.declared.line.Line.TheVariants as line
use Rattle.scene_text.specs.declared.line.Line as scene_line
use Rattle.scene_text.specs.Texts.{said}
use Rattle.pg_report.specs.Journal.{journal}
use Rattle.scene_open.specs.Ends.{scene_end}
use Rattle.scene_open.specs.Items.{Item, heads_of, items_told, items_end, files_read}
use Rattle.scene_open.specs.Opening.{opening_of, opening_with}
use Rattle.scene_open.specs.declared.open_scene.OpenScene.{OpenScene}
use Rattle.scene_run.specs.Texts.{early_line}
use Rattle.scene_run.specs.Runs.{IsSound}

-- a status, and the whole text that goes with it
pub record Ending : Type 0 where
  pub status : Status
  pub text : List ℕ

-- ---- what a scene's lines say

-- the header lines
abbrev pub heads_in : List scene_line.Line → List Head
heads_in [] = []
heads_in (line.Head head ∷ lines) = head ∷ heads_in lines
heads_in (line.Script ∷ lines) = heads_in lines
heads_in (line.Call call ∷ lines) = heads_in lines

-- the calls of the first of some scripts, which has begun, and those of the others
abbrev pub scripts_from : List scene_line.Line → List Call × List (List Call)
scripts_from [] = ([], [])
scripts_from (line.Head head ∷ lines) = scripts_from lines
scripts_from (line.Script ∷ lines) = ([], (scripts_from lines).0 ∷ (scripts_from lines).1)
scripts_from (line.Call call ∷ lines) = (call ∷ (scripts_from lines).0, (scripts_from lines).1)

-- the calls of each script
abbrev pub scripts_in : List scene_line.Line → List (List Call)
scripts_in lines = (scripts_from lines).1

-- the lines that were found in a scene's file
abbrev pub lines_found : Option (List ℕ) → List scene_line.Line
lines_found None = []
lines_found (Some text) = unwrap_or (result_ok (said text)) []

-- ---- how a run goes

-- The opening from which the scripts run.
pub record Run : Type 0 where
  pub opening : Opening
  pub scripts : List (List Call)

-- where no step ends the run, it goes on so
abbrev pub unless_ends : Option Status → Result Run Status → Result Run Status
unless_ends (Some s) others = Err s
unless_ends None others = others

-- the items of a scene are opened, and its scripts are run
abbrev pub run_items : List Item → List (List Call) → Result Run Status
run_items items scripts =
    unless_ends (items_end 1 items) (Ok (record { opening = opening_of items; scripts = scripts }))

-- what was found of a scene's file, and of the files that its items name, says how the run goes
abbrev pub run_over : Option (List ℕ) → List Item → Result Run Status
run_over found items = unless_ends (scene_end found) (run_items items (scripts_in (lines_found found)))

-- the same of a scene's file, where this is told behind its read
abbrev pub run_found : Told → Option (List ℕ) → Result Run Status
run_found told found = run_over found (items_told told (heads_in (lines_found found)))

-- the scene in the file of this path
abbrev pub run_path : Told → List ℕ → Result Run Status
run_path told path = run_found (after_read told) (next_read told path)

-- the path that the words of a command line name: a path alone, or behind the word `solo`
abbrev pub path_of : List (List ℕ) → Option (List ℕ)
path_of (path ∷ []) = Some path
path_of (word ∷ path ∷ []) = if bytes_eq word (codes "solo") then Some path else None
path_of _ = None

-- the words are `solo` and a path
abbrev pub AreSolo : List (List ℕ) → Type 0
AreSolo words = (path : List ℕ) × (words ≡ codes "solo" ∷ path ∷ [])

-- how a run of these words goes
abbrev pub run_by : Told → Option (List ℕ) → Result Run Status
run_by told None = Err status.Usage
run_by told (Some path) = run_path told path

abbrev pub run_of : List (List ℕ) → Told → Result Run Status
run_of words told = run_by told (path_of words)

-- the status with which it ends before the first event, or none
abbrev pub early : List (List ℕ) → Told → Option Status
early words told = result_err (run_of words told)

-- ---- how it ends

-- early with its one line
abbrev pub early_end : Status → Ending
early_end s = record { status = s; text = early_line s }

-- early, or with the journal of the scripts one after another
abbrev pub ended : Hash → Result Run Status → Ending
ended hash (Err s) = early_end s
ended hash (Ok run) = record {
  status = status.Done;
  text = journal (solo hash run.opening run.scripts) (calls_in run.scripts);
}

abbrev pub ending_of : Hash → List (List ℕ) → Told → Ending
ending_of hash words told = ended hash (run_of words told)

-- The run has this status and this text. Where the sink faults, its text is cut short; where memory runs out,
-- nothing is written.
abbrev pub Ends : Ending → Status → Option (List ℕ) → Option (List ℕ) → Type 0
Ends ending status.NoMemory before now = now ≡ before
Ends ending status.SinkFault before now = SentPart before now ending.text
Ends ending other before now = (other ≡ ending.status) × (now ≡ append_known before ending.text)

-- ---- what a run that is done has printed

-- of all legal histories of the run's scripts from its opening, this one alone has this journal
abbrev pub FixesHistory : Hash → Run → List ℕ → List Line → Type 0
FixesHistory hash run text history =
    (other : List Line) → Legal hash run.opening run.scripts other → text ≡ journal other (calls_in run.scripts) → other ≡ history

-- The text is the journal of a history of the run's scripts from its opening, of which this is true. It fixes the history.
pub record Prints (hash : Hash) (gives : Opening → List (List Call) → List Line → Type 0) (run : Run) (text : List ℕ) : Type 0 where
  pub history : List Line
  pub printed : text ≡ journal history (calls_in run.scripts)
  pub given : gives run.opening run.scripts history
  pub fixed : FixesHistory hash run text history

-- The text is the journal of a legal history of the run's scripts from its opening, throughout which the sealing stands. It
-- fixes the history. No other legal history has the entries of each script before those of the next.
pub record PrintsLegal (hash : Hash) (run : Run) (text : List ℕ) : Type 0 where
  pub history : List Line
  pub printed : text ≡ journal history (calls_in run.scripts)
  pub sound : IsSound hash run.opening run.scripts history
  pub fixed : FixesHistory hash run text history
  pub only : (other : List Line) → Legal hash run.opening run.scripts other → InOrder other → other ≡ history

-- no step ended the run, and what it has written is such a text of it
pub record RunsTo (IsText : Run → List ℕ → Type 0) (goes : Result Run Status) (before now : Option (List ℕ)) : Type 0 where
  pub run : Run
  pub is : goes ≡ Ok run
  pub text : List ℕ
  pub wrote : now ≡ append_known before text
  pub prints : IsText run text

abbrev pub RunsLegal : Hash → Result Run Status → Option (List ℕ) → Option (List ℕ) → Type 0
RunsLegal hash = RunsTo (PrintsLegal hash)

-- ---- the run over some bytes of its files, whatever they tell

-- The scene's file, and each file that its header lines name, could not be read or has some bytes, and this is true of how
-- the run goes over these.
pub record OverSome (Is : Result Run Status → Type 0) : Type 0 where
  -- what was found of the scene's file
  pub found : Option (List ℕ)
  -- the header lines, each with what was found of the file that it names
  pub items : List Item
  pub lines : heads_of items ≡ heads_in (lines_found found)
  pub is : Is (run_over found items)

-- ---- how far a run goes before its scripts

-- the run of a scene that was read, and of what its items opened to
abbrev pub run_with : Scene → OpenScene → Run
run_with scene opened = record {
  opening = opening_with scene.head opened.files.items opened.layouts.items opened.trust;
  scripts = scene.scripts;
}

-- it ends with this status before its scripts; want of memory is tied to nothing
abbrev pub EndsAt : Result Run Status → Status → Type 0
EndsAt goes status.NoMemory = Unit {0}
EndsAt goes s = goes ≡ Err s

-- what the scene and its items opened to is what the run goes on with, or this is the status of its early end
abbrev pub GoesOn : Result Run Status → Result (Scene × OpenScene) Status → Type 0
GoesOn goes (Ok both) = goes ≡ Ok (run_with both.0 both.1)
GoesOn goes (Err s) = EndsAt goes s

-- What each status of an early end comes by: the count of the files' faults before and now. The others do not come.
abbrev pub EarlyIsCaused : ℕ → ℕ → Status → Type 0
EarlyIsCaused before now (status.SceneBad line kind) = now ≡ before
EarlyIsCaused before now (status.FileFault item) = Rose before now
EarlyIsCaused before now (status.Limit which number) = now ≡ before
EarlyIsCaused before now (status.TrustBad item number arg) = now ≡ before
EarlyIsCaused before now status.NoMemory = now ≡ before
EarlyIsCaused before now other = ⊥

-- the same of what a scene and its items were found to open to
abbrev pub StartIsCaused : ℕ → ℕ → Result (Scene × OpenScene) Status → Type 0
StartIsCaused before now (Ok both) = now ≡ before
StartIsCaused before now (Err s) = EarlyIsCaused before now s

-- ---- the text of a run

-- nothing ends the run early, and this is such a text of it
pub record GoesTo (IsText : Run → List ℕ → Type 0) (goes : Result Run Status) (text : List ℕ) : Type 0 where
  pub run : Run
  pub is : goes ≡ Ok run
  pub prints : IsText run text

-- what was answered is such a text of the run, or the status of its early end
abbrev pub Answers : (Run → List ℕ → Type 0) → Result Run Status → Result (Vec ℕ) Status → Type 0
Answers IsText goes (Ok text) = GoesTo IsText goes text.items
Answers IsText goes (Err s) = EndsAt goes s

-- the cause of what was answered
abbrev pub AnswerIsCaused : ℕ → ℕ → Result (Vec ℕ) Status → Type 0
AnswerIsCaused before now (Ok text) = now ≡ before
AnswerIsCaused before now (Err s) = EarlyIsCaused before now s

-- the run ends early by its one line, or is done with such a text of it
abbrev pub IsEndOf : (Run → List ℕ → Type 0) → Result Run Status → Ending → Type 0
IsEndOf IsText (Err s) ending = ending ≡ early_end s
IsEndOf IsText (Ok run) ending = (ending.status ≡ status.Done) × IsText run ending.text

-- The run has the status and the text of such an end. Where the sink faults, its text is cut short; where memory runs out,
-- nothing is written.
abbrev pub EndsTo : (Run → List ℕ → Type 0) → Result Run Status → Status → Option (List ℕ) → Option (List ℕ) → Type 0
EndsTo IsText goes status.NoMemory before now = now ≡ before
EndsTo IsText goes other before now = (ending : Ending) × IsEndOf IsText goes ending × Ends ending other before now

-- The run has the status and the text of such an end, and where it is done, it goes on so.
pub record Finishes (IsText : Run → List ℕ → Type 0) (s : Status) (before now : Option (List ℕ)) (goes : Result Run Status) : Type 0 where
  pub ends : EndsTo IsText goes s before now
  pub done : s ≡ status.Done → RunsTo IsText goes before now

-- the same of the scripts one after another, whose text is fixed
pub record FinishesSolo (hash : Hash) (s : Status) (before now : Option (List ℕ)) (goes : Result Run Status) : Type 0 where
  pub ends : Ends (ended hash goes) s before now
  pub done : s ≡ status.Done → RunsLegal hash goes before now

-- ---- what goes out

-- the status is one with which a run can end before its scripts
abbrev pub IsEarlyEnd : Status → Type 0
IsEarlyEnd status.Usage = Unit {0}
IsEarlyEnd (status.SceneBad line kind) = Unit {0}
IsEarlyEnd (status.FileFault item) = Unit {0}
IsEarlyEnd (status.Limit which number) = Unit {0}
IsEarlyEnd (status.TrustBad item number arg) = Unit {0}
IsEarlyEnd status.NoMemory = Unit {0}
IsEarlyEnd other = ⊥

-- the whole text went out, and this is its status; or the sink faulted, and a first part of the text went out
abbrev pub GoesOut : Ending → Status → Option (List ℕ) → Option (List ℕ) → Type 0
GoesOut ending s before now =
    ((s ≡ ending.status) × (now ≡ append_known before ending.text)) ⊎ ((s ≡ status.SinkFault) × SentPart before now ending.text)

-- so what was answered goes out: a text, or the line of an early end; for want of memory nothing does
abbrev pub EndsBy : Result (Vec ℕ) Status → Status → Option (List ℕ) → Option (List ℕ) → Type 0
EndsBy (Ok text) s before now = GoesOut (record { status = status.Done; text = text.items }) s before now
EndsBy (Err status.NoMemory) s before now = (s ≡ status.NoMemory) × (now ≡ before)
EndsBy (Err kind) s before now = GoesOut (early_end kind) s before now

-- The count of the files' faults rises where the run ends with a file that could not be read, and else stays; a fault of
-- the sink may come in the place of that end.
abbrev pub CountsFaults : Status → ℕ → ℕ → Type 0
CountsFaults (status.FileFault item) before now = Rose before now
CountsFaults status.SinkFault before now = before ≤ now
CountsFaults other before now = now ≡ before

-- ---- reads

-- how many files a run reads at most, where this was found of its scene's file and this is told behind the read of it: the
-- scene's file and, where that does not end the run, those that its items name up to the first that does
abbrev pub most_behind : Told → Option (List ℕ) → ℕ
most_behind told found =
    1 + (if is_some (scene_end found) then 0 else files_read (items_told told (heads_in (lines_found found))))

-- the same of a run over the scene in the file of this path
abbrev pub most_reads : Told → List ℕ → ℕ
most_reads told path = most_behind (after_read told) (next_read told path)

-- how many a run of these words does
abbrev pub reads_by : Option (List ℕ) → Told → ℕ
reads_by None told = 0
reads_by (Some path) told = most_reads told path
