-- The history of scripts that run one after another.
use Rattle.std.specs.Prelude.{ℕ, zero, suc, ◌+◌, ◌≤◌, List, [], ◌∷◌, ◌++◌, length, Option, Some, None}
use Rattle.std.specs.List.{AllByRecursion}
use Rattle.pg_digest.specs.Kinds.{Hash}
use Rattle.cs_policy.specs.declared.call.Call.{Call}
use Rattle.cs_policy.specs.declared.entry.Who.{Who}
use Rattle.cs_policy.specs.declared.entry.Reply.{Reply}
use Rattle.cs_policy.specs.Entry.{part_number}
use Rattle.pg_history.specs.Machine.{Line, Machine, step, replay}
use Rattle.pg_history.specs.Opening.{Opening, Numbers, numbers_of}
use Rattle.pg_history.specs.Calls.{Asked, next_event}

-- the entry of an event that was asked, with its reply
abbrev pub line_of : Numbers → ℕ → Who → Asked → Reply → Line
line_of numbers stamp who asked answer = record {
  stamp = stamp;
  part = part_number (length numbers.files) numbers.processes asked.0;
  caller = who.worker;
  entry = record { who = who; place = asked.0; event = asked.1; reply = answer };
}

-- an event that was answered is entered, and the rest of the call's entries behind it
abbrev pub entered : Numbers → ℕ → Who → Asked → List Line → (Machine → List Line → List Line) → Option (Reply × Machine) → List Line
entered numbers stamp who asked made others None = []
entered numbers stamp who asked made others (Some answer) =
    line_of numbers stamp who asked answer.0 ∷ others answer.1 (made ++ line_of numbers stamp who asked answer.0 ∷ [])

-- the machine answers the event, if there is one
abbrev pub entered_if : Hash → Numbers → Machine → ℕ → Who → List Line → (Machine → List Line → List Line) → Option Asked → List Line
entered_if hash numbers m stamp who made others None = []
entered_if hash numbers m stamp who made others (Some asked) =
    entered numbers stamp who asked made others (step hash m stamp asked.0 asked.1)

-- the entries of a call behind those that it has made, at most so many, from this machine and stamp on
abbrev pub entries_from : ℕ → Hash → Numbers → Machine → ℕ → Who → Call → List Line → List Line
entries_from zero hash numbers m stamp who call made = []
entries_from (suc most) hash numbers m stamp who call made =
    entered_if hash numbers m stamp who made
    (λ m' made'. entries_from most hash numbers m' (stamp + 1) who call made')
    (next_event hash numbers call made)

-- the most entries of one call: an exit drops the regions of a process in each of 16 files
abbrev pub most_entries : ℕ
most_entries = 17

-- all entries of a call
abbrev pub entries_of : Hash → Numbers → Machine → ℕ → Who → Call → List Line
entries_of hash numbers m stamp who call = entries_from most_entries hash numbers m stamp who call []

-- a worker's calls from this number on
abbrev pub calls_of : ℕ → ℕ → List Call → List (Who × Call)
calls_of worker number [] = []
calls_of worker number (call ∷ calls) = (record { worker = worker; call = number }, call) ∷ calls_of worker (number + 1) calls

-- all calls, one script after another, where the first script has this number
abbrev pub all_calls : ℕ → List (List Call) → List (Who × Call)
all_calls worker [] = []
all_calls worker (script ∷ scripts) = calls_of worker 0 script ++ all_calls (worker + 1) scripts

-- the history of these calls one after another, from this machine and stamp on
unfoldable pub history_of : Hash → Numbers → Machine → ℕ → List (Who × Call) → List Line
history_of hash numbers m stamp [] = []
history_of hash numbers m stamp (made ∷ others) =
    let es = entries_of hash numbers m stamp made.0 made.1 in
    es ++ history_of hash numbers (replay hash m es) (stamp + length es) others

-- the history of the scripts, each of whose entries stand before those of the next
abbrev pub solo : Hash → Opening → List (List Call) → List Line
solo hash o scripts = history_of hash (numbers_of o) o.machine 0 (all_calls 0 scripts)

-- the entries of each script stand before those of the next
abbrev pub InOrder : List Line → Type 0
InOrder [] = Unit {0}
InOrder (e ∷ es) = AllByRecursion (λ later. e.entry.who.worker ≤ later.entry.who.worker) es × InOrder es
