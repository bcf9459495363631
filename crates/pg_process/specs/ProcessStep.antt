-- The plain step of a process: what it answers to an event, and what it is then.
use Rattle.std.specs.Prelude.{ℕ, ◌+◌, ◌*◌, not, ◌&&◌, nat_lt, if◌then◌else◌, List, [], length, map, filter, find, Option, Some, None}
use Rattle.cs_policy.specs.declared.flags.ProcFlags.{ProcFlags}
use Rattle.cs_policy.specs.declared.access.Access.{Access}
use Rattle.cs_policy.specs.declared.process.ProcEvent.{ProcEvent}
use Rattle.cs_policy.specs.declared.process.ProcEvent.TheVariants.{Start, Insert, Resolve, Remove, Debug, Punish, ClearValid, Exit}
use Rattle.cs_policy.specs.declared.process.ProcReply.{ProcReply}
use Rattle.cs_policy.specs.declared.process.ProcReply.TheVariants as reply
use Rattle.cs_policy.specs.Access.{permits}
use Rattle.cs_policy.specs.ProcFlags.{valid, kill, killed, debugged, is_set, with_flag, without_flag}
use Rattle.pg_process.specs.declared.mapping.Mapping.{Mapping}
use Rattle.pg_process.specs.declared.state.State.{State}
use Rattle.pg_process.specs.declared.state.State.TheVariants.{Fresh, Alive, Killed, Gone}
use Rattle.pg_process.specs.Regions.{met, has_address, begins_at, file_page, least, files_of, with_mapping}

-- A process: its number, the size of its pages, the flags that it was declared with and those that it has, its state, how
-- many regions it ever made, and the regions that stand, in the order of their addresses.
pub record PlainProcess : Type 0 where
  pub pid : ℕ
  pub page : ℕ
  pub declared : ProcFlags
  pub flags : ProcFlags
  pub state : State
  pub made : ℕ
  pub regions : List Mapping

-- a process that was not started
abbrev pub fresh : ℕ → ProcFlags → ℕ → PlainProcess
fresh pid declared page =
    record { pid = pid; page = page; declared = declared; flags = declared; state = Fresh; made = 0; regions = [] }

-- ---- the replies that come before the rows

-- to an event other than Start and Exit: one that was not started or has exited is dead
abbrev pub unless_alive : State → Option ProcReply
unless_alive Fresh = Some reply.Dead
unless_alive Alive = None
unless_alive Killed = Some reply.Killed
unless_alive Gone = Some reply.Dead

-- to Exit, to which a killed process answers as one that is alive
abbrev pub unless_standing : State → Option ProcReply
unless_standing Fresh = Some reply.Dead
unless_standing Alive = None
unless_standing Killed = None
unless_standing Gone = Some reply.Dead

abbrev pub before_rows : State → ProcEvent → Option ProcReply
before_rows state Start = None
before_rows state Exit = unless_standing state
before_rows state event = unless_alive state

-- ---- the rows

-- Start: once, with the declared flags and VALID
abbrev pub started : State → PlainProcess → ProcReply × PlainProcess
started Fresh p =
    (reply.Began (with_flag p.declared valid), record p { state = Alive; flags = with_flag p.declared valid })
started state p = (reply.Started p.pid, p)

-- the number of the next region: 4,096 numbers a process, which are never used again
abbrev pub next_id : PlainProcess → ℕ
next_id p = p.pid * 4096 + p.made

-- Insert of pages that the file has: unless they meet a region, or 256 regions stand
abbrev pub inserted : Option ℕ → PlainProcess → Mapping → ProcReply × PlainProcess
inserted (Some id) p m = (reply.Overlap id, p)
inserted None p m =
    if nat_lt (length p.regions) 256
    then (reply.Inserted m.id, record p { made = p.made + 1; regions = with_mapping m p.regions })
    else (reply.Full 256, p)

-- Resolve: the page of the region that has the address, where it permits the access
abbrev pub resolved : Option Mapping → ℕ → ℕ → Access → ProcFlags → ProcReply
resolved None page addr access flags = reply.NoMap
resolved (Some m) page addr access flags =
    if permits m.prot access then reply.Region m.id m.file (file_page page m addr) flags else reply.Prot m.id

-- Remove: the region that begins at the address goes
abbrev pub removed : Option Mapping → ℕ → PlainProcess → ProcReply × PlainProcess
removed None at p = (reply.NoMap, p)
removed (Some m) at p =
    (reply.Removed m.id m.file, record p { regions = filter (λ m. not (begins_at at m)) p.regions })

-- Punish: KILL counts unless the process is debugged
abbrev pub punished : PlainProcess → ProcReply × PlainProcess
punished p =
    if is_set p.flags kill && not (is_set p.flags debugged)
    then (reply.Kill, record p { state = Killed; flags = with_flag p.flags killed })
    else (reply.Spare, p)

abbrev pub row : PlainProcess → ProcEvent → ProcReply × PlainProcess
row p Start = started p.state p
row p (Insert at file file_pages first pages prot shared) =
    if nat_lt file_pages (first + pages) then (reply.OutOfFile file_pages, p)
    else inserted (least (map (λ m. m.id) (met p.page at pages p.regions))) p
    (record { at = at; id = next_id p; file = file; first = first; pages = pages; prot = prot; shared = shared })
row p (Resolve addr access) = (resolved (find (λ m. has_address p.page addr m) p.regions) p.page addr access p.flags, p)
row p (Remove at) = removed (find (λ m. begins_at at m) p.regions) at p
row p Debug =
    (reply.Debugged (with_flag p.flags debugged), record p { flags = with_flag p.flags debugged })
row p Punish = punished p
row p ClearValid = (reply.Cleared (without_flag p.flags valid), record p { flags = without_flag p.flags valid })
row p Exit = (reply.Exited (files_of p.regions), record p { state = Gone; regions = [] })

-- ---- the step

abbrev pub answered : Option ProcReply → PlainProcess → ProcReply × PlainProcess → ProcReply × PlainProcess
answered (Some early) p by_row = (early, p)
answered None p by_row = by_row

-- the reply to an event, and the process after it
abbrev pub process_step : PlainProcess → ProcEvent → ProcReply × PlainProcess
process_step p event = answered (before_rows p.state event) p (row p event)
