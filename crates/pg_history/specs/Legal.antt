-- Legal histories.
use Rattle.std.specs.Prelude.{ℕ, ◌≡◌, ◌+◌, ◌==◌, List, [], ◌∷◌, ◌++◌, length, filter, slice_get, slice_index_or, Some, None}
use Rattle.pg_digest.specs.Kinds.{Hash}
use Rattle.cs_policy.specs.declared.call.Call.{Call}
use Rattle.cs_policy.specs.Entry.{part_number}
use Rattle.pg_history.specs.Machine.{Line, Answered}
use Rattle.pg_history.specs.Opening.{Opening, Numbers, numbers_of}
use Rattle.pg_history.specs.Calls.{next_event}
use Rattle.pg_history.specs.Links.{IsLinked}

-- ---- the entries of a call

-- The entries are the events that the call makes after those, one after another, and the call is complete with them.
abbrev pub Follows : Hash → Numbers → Call → List Line → List Line → Type 0
Follows hash numbers call made [] = next_event hash numbers call made ≡ None
Follows hash numbers call made (e ∷ es) =
    (next_event hash numbers call made ≡ Some (e.entry.place, e.entry.event)) × Follows hash numbers call (made ++ e ∷ []) es

-- the entries are of this worker's call of that number
abbrev pub AreOf : ℕ → ℕ → List Line → Type 0
AreOf worker number [] = Unit {0}
AreOf worker number (e ∷ es) =
    (e.entry.who ≡ record { worker = worker; call = number }) × AreOf worker number es

-- the entries of one call, and the entries behind them
pub record Begins (hash : Hash) (numbers : Numbers) (worker number : ℕ) (call : Call) (es own others : List Line) : Type 0 where
  pub whole : es ≡ own ++ others
  pub same_call : AreOf worker number own
  pub follows : Follows hash numbers call [] own

-- The entries are those of the worker's calls, each call's once and complete, in the order of the calls, and there are no
-- others. The first call has this number.
abbrev pub Scripted : Hash → Numbers → ℕ → ℕ → List Call → List Line → Type 0
Scripted hash numbers worker number [] es = es ≡ []
Scripted hash numbers worker number (call ∷ calls) es =
    (own : List Line) × (others : List Line) × Begins hash numbers worker number call es own others
    × Scripted hash numbers worker (number + 1) calls others

-- ---- a history

-- the entries of a worker
abbrev pub entries_by : ℕ → List Line → List Line
entries_by worker history = filter (λ e. e.entry.who.worker == worker) history

-- the script of a number; behind the last one they are empty
abbrev pub script_at : List (List Call) → ℕ → List Call
script_at scripts worker = slice_index_or scripts worker []

-- how many calls the scripts have
abbrev pub calls_in : List (List Call) → ℕ
calls_in [] = 0
calls_in (script ∷ scripts) = length script + calls_in scripts

-- the part and the caller that stand with an entry are those of its place and of its worker
pub record AgreesIn (numbers : Numbers) (e : Line) : Type 0 where
  pub part : e.part ≡ part_number (length numbers.files) numbers.processes e.entry.place
  pub caller : e.caller ≡ e.entry.who.worker

-- each entry has its place in the history as its stamp
abbrev pub IsStamped : List Line → Type 0
IsStamped history = (k : ℕ) (e : Line) → slice_get history k ≡ Some e → e.stamp ≡ k

abbrev pub Agrees : Numbers → List Line → Type 0
Agrees numbers history = (k : ℕ) (e : Line) → slice_get history k ≡ Some e → AgreesIn numbers e

-- each script's calls are there once and in their order, and nothing else is
abbrev pub AreScripted : Hash → Numbers → List (List Call) → List Line → Type 0
AreScripted hash numbers scripts history = (worker : ℕ) → Scripted hash numbers worker 0 (script_at scripts worker) (entries_by worker history)

-- A history that the machine answers, each of whose entries rests on earlier ones of its call.
pub record Linked (hash : Hash) (o : Opening) (history : List Line) : Type 0 where
  pub stamps : IsStamped history
  pub agrees : Agrees (numbers_of o) history
  -- each reply is what the machine replies then
  pub replies : Answered hash o.machine history
  -- each stamp that an event names is of an earlier entry of its call, on which it rests
  pub links : (k : ℕ) (e : Line) → slice_get history k ≡ Some e → IsLinked hash (numbers_of o) history e

-- A legal history of scripts from an opening.
pub record Legal (hash : Hash) (o : Opening) (scripts : List (List Call)) (history : List Line) : Type 0 where
  pub linked : Linked hash o history
  pub calls : AreScripted hash (numbers_of o) scripts history
