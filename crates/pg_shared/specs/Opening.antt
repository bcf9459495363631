-- A run is opened: what its parts must be, what is known of them without their locks, and what its cells are made of.
use Rattle.std.specs.Prelude.{ℕ, ◌≡◌, ◌+◌, ◌<◌, ◌^◌, Bool, List, [], length, map, slice_get, All, Option}
use Rattle.std.specs.Option.{option_map_or, option_and_then}
use Rattle.pg_bytes.specs.declared.fields.Range.{Range}
use Rattle.cs_trust.specs.Listed.{Table}
use Rattle.cs_policy.specs.declared.flags.ProcFlags.{ProcFlags}
use Rattle.cs_policy.specs.declared.entry.Entry.{Entry}
use Rattle.pg_digest.specs.Kinds.{Hash}
use Rattle.pg_book.specs.declared.needs.Needs.{Needs}
use Rattle.pg_book.specs.Models.{SpineOf, PassOf, BookOf, pass_receipts}
use Rattle.pg_book.specs.Opening.{EachFrom, IsNewSpine}
use Rattle.pg_object.specs.Object.{ObjectNow}
use Rattle.pg_process.specs.ProcessStep.{PlainProcess}
use Rattle.pg_trusted.specs.TrustStep.{TrustList}
use Rattle.pg_history.specs.Machine.{signed_range}
use Rattle.pg_history.specs.Opening.{FileNumbers, seat_in}
use Rattle.pg_parts.specs.Opened.{OpenedNow, IsOpenable}
use Rattle.pg_shared.specs.Plan.{Plan}
use Rattle.pg_shared.specs.Passes.{IsPassOf}

abbrev pub parts_in : OpenedNow → ℕ
parts_in start = length start.files + length start.processes + 1

-- There is a worker, there are fewer than 2 ^ 32, and the list of each has an element for each part.
pub record IsShared (start : OpenedNow) : Type 0 where
  pub some : 0 < length start.needs
  pub few : length start.needs < 2 ^ 32
  pub even : All (λ (row : List Needs). length row ≡ parts_in start) start.needs

-- ---- what is known of the parts without their locks

abbrev pub known_of : ObjectNow → FileNumbers
known_of object = record { pages = object.pages.cache.pager.pages; layout = object.layout }

abbrev pub declared_of : PlainProcess → ProcFlags
declared_of p = p.declared

-- the number of pages of a file, 0 where there is no such file
abbrev pub pages_known : List FileNumbers → ℕ → ℕ
pages_known files number = option_map_or (λ known. known.pages) (slice_get files number) 0

-- the range of a slice of a file, where the file has such a slice that is a signed image
abbrev pub range_known : List FileNumbers → ℕ → ℕ → Option Range
range_known files number slice = signed_range (option_and_then (λ known. seat_in slice known.layout) (slice_get files number))

pub record KnownNow : Type 0 where
  pub files : List FileNumbers
  pub declared : List ProcFlags
  pub fixed : List Table

-- it is that of these parts
pub record IsKnown (start : OpenedNow) (now : KnownNow) : Type 0 where
  pub files : now.files ≡ map known_of start.files
  pub declared : now.declared ≡ map declared_of start.processes
  pub fixed : now.fixed ≡ start.trust.fixed

-- ---- before the run has its name

-- the parts, and what the book's opening gave
pub record ReadyNow : Type 0 where
  pub page_size : ℕ
  pub adhoc : Bool
  pub files : List ObjectNow
  pub processes : List PlainProcess
  pub trust : TrustList
  pub known : KnownNow
  pub book : BookOf Entry
  pub spines : List (SpineOf Entry)

-- they are those of the run, on which nothing was drawn yet
pub record IsReady (hash : Hash) (plan : Plan) (now : ReadyNow) : Type 0 where
  pub openable : IsOpenable hash plan.start
  pub page_size : now.page_size ≡ plan.start.page_size
  pub adhoc : now.adhoc ≡ plan.start.adhoc
  pub files : now.files ≡ plan.start.files
  pub processes : now.processes ≡ plan.start.processes
  pub trust : now.trust ≡ plan.start.trust
  pub known : IsKnown plan.start now.known
  pub book : now.book.book ≡ plan.book
  pub needs : now.book.view.needs ≡ plan.start.needs
  pub count : length now.spines ≡ parts_in plan.start
  pub spines : EachFrom (IsNewSpine plan.start.needs plan.book) 0 now.spines
  pub even : All (λ (row : List Needs). length row ≡ parts_in plan.start) plan.start.needs
  pub some : 0 < length plan.start.needs

-- the pass of a worker that drew nothing
pub record IsNewPassOf (plan : Plan) (worker : ℕ) (pass : PassOf Entry) : Type 0 where
  pub is_pass : IsPassOf plan worker pass
  pub unmade : pass_receipts pass ≡ []

-- The run's parts as they were handed in, with a pass for each worker.
pub record IsOpenedAs (start : OpenedNow) (plan : Plan) (passes : List (PassOf Entry)) : Type 0 where
  pub same_start : plan.start ≡ start
  pub count : length passes ≡ length start.needs
  pub each : EachFrom (IsNewPassOf plan) 0 passes

-- ---- behind locks

-- the book is that of the run
pub record IsBookOf (plan : Plan) (book : BookOf Entry) : Type 0 where
  pub same_book : book.book ≡ plan.book
  pub needs : book.view.needs ≡ plan.start.needs

-- what a run has beside the cells of its parts: the size of a page, the policy, what is known of the parts, and how many
-- files and processes lie behind locks
pub record SharedNow : Type 0 where
  pub page_size : ℕ
  pub adhoc : Bool
  pub known : KnownNow
  pub files : ℕ
  pub processes : ℕ

pub record IsSharedOf (hash : Hash) (plan : Plan) (now : SharedNow) : Type 0 where
  pub openable : IsOpenable hash plan.start
  pub page_size : now.page_size ≡ plan.start.page_size
  pub adhoc : now.adhoc ≡ plan.start.adhoc
  pub known : IsKnown plan.start now.known
  pub files : now.files ≡ length plan.start.files
  pub processes : now.processes ≡ length plan.start.processes
  pub even : All (λ (row : List Needs). length row ≡ parts_in plan.start) plan.start.needs
  pub some : 0 < length plan.start.needs
