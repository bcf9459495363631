-- What a call of an object does: there are bytes of all pages with which it is the plain step of its event.
use Rattle.std.specs.Prelude.{ℕ, zero, suc, ◌≡◌, ◌+◌, ◌≤◌, Bool, true, false, List, [], ◌∷◌, ◌++◌, length, replicate, Option, None, Some, IfSome, IsSomeAnd}
use Rattle.pg_digest.specs.Kinds.{Hash}
use Rattle.cs_policy.specs.declared.access.Access.{Access}
use Rattle.cs_policy.specs.declared.access.Access.TheVariants.{Read, Write, Execute}
use Rattle.cs_policy.specs.declared.file.FileEvent.{FileEvent}
use Rattle.cs_policy.specs.declared.file.FileEvent.TheVariants as event
use Rattle.cs_policy.specs.declared.file.FileReply.{FileReply}
use Rattle.cs_policy.specs.declared.file.FileReply.TheVariants as reply
use Rattle.cs_blob.specs.Signature.{Signature}
use Rattle.pg_io.specs.Calls.{count_after, first_failing}
use Rattle.pg_io.specs.Pager.{ToldPages, FaultsAfter}
use Rattle.pg_cache.specs.Cache.{KeepsSizes}
use Rattle.pg_cache.specs.Finds.{Finds}
use Rattle.pg_regions.specs.RegionsNow.{RegionsNow, Room, spare}
use Rattle.pg_plain.specs.Calls.{page_calls, calls_made}
use Rattle.pg_plain.specs.Steps.{file_step}
use Rattle.pg_object.specs.Object.{ObjectNow, seen}
use Rattle.pg_object.specs.PagerCalls.{calls_done, Called, reads_made, ReadsAfter}

-- ---- pager calls

-- a call failed: the outcome is the number of that call, counted from 1, and else 0
abbrev pub has_failed : ℕ → Bool
has_failed zero = false
has_failed (suc before) = true

-- which of these calls failed: the last, where one did
abbrev pub results : ℕ → ℕ → List Bool
results count zero = replicate count false
results count (suc before) = replicate before false ++ true ∷ []

-- What a pager that tells says of an event with so many calls: the first that fails is the first whose number is to
-- fail, and the count goes on by those that were made.
pub record Tells (old : ToldPages) (count outcome : ℕ) (new : ToldPages) : Type 0 where
  pub first : outcome ≡ first_failing old.made old.fails count
  pub made : new.made ≡ count_after old.made (calls_made outcome count)
  pub fails : new.fails ≡ old.fails

-- ---- room

-- how much room for regions, records and private copies an event uses at most
abbrev pub room_of_access : Access → Room
room_of_access Read = record { regions = 0; records = 1; copies = 0 }
room_of_access Write = record { regions = 0; records = 1; copies = 1 }
room_of_access Execute = record { regions = 0; records = 1; copies = 0 }

abbrev pub room_used : FileEvent → Room
room_used (event.AddRegion region insert) = record { regions = 1; records = 0; copies = 0 }
room_used (event.Enter id page access flags resolve) = room_of_access access
room_used _ = record { regions = 0; records = 0; copies = 0 }

-- of what was left, all but this is left still
pub record LeavesRoom (used : Room) (old new : RegionsNow) : Type 0 where
  pub regions : (spare old).regions ≤ (spare new).regions + used.regions
  pub records : (spare old).records ≤ (spare new).records + used.records
  pub copies : (spare old).copies ≤ (spare new).copies + used.copies

-- the kinds of room that an event gives back
pub record GivenBack : Type 0 where
  pub regions : Bool
  pub records : Bool
  pub copies : Bool

abbrev pub nothing_back : GivenBack
nothing_back = record { regions = false; records = false; copies = false }

abbrev pub all_back : GivenBack
all_back = record { regions = true; records = true; copies = true }

-- a page that leaves gives back the room of its records
abbrev pub leaving_back : Option ℕ → GivenBack
leaving_back None = nothing_back
leaving_back (Some page) = record { regions = false; records = true; copies = false }

-- by the reply: regions that go give back the room of all that they were given
abbrev pub given_back : FileReply → GivenBack
given_back reply.Dropped = all_back
given_back (reply.DroppedAll count) = all_back
given_back (reply.Given left noted) = leaving_back left
given_back reply.Evicted = record { regions = false; records = true; copies = false }
given_back _ = nothing_back

-- How many of each kind there can be stays, and no more is left of a kind than was, unless room of that kind is given back.
pub record GainsRoom (back : GivenBack) (old new : RegionsNow) : Type 0 where
  pub room : new.room ≡ old.room
  pub regions : back.regions ≡ false → (spare new).regions ≤ (spare old).regions
  pub records : back.records ≡ false → (spare new).records ≤ (spare old).records
  pub copies : back.copies ≡ false → (spare new).copies ≤ (spare old).copies

-- ---- the call

pub record Acts (hash : Hash) (old : ObjectNow) (e : FileEvent) (blob : Option Signature) (answer : FileReply) (new : ObjectNow) : Type 0 where
  -- the bytes of all pages, as the reads of the call found them, and after it
  pub pages : List (List ℕ)
  pub pages_after : List (List ℕ)
  -- the number of the first pager call that failed, or 0: no event makes more calls than these
  pub outcome : ℕ
  pub few : outcome ≤ length (page_calls hash (seen old pages) e)
  pub found : Finds old.pages.cache pages
  pub found_after : Finds new.pages.cache pages_after
  pub step : (answer, seen new pages_after) ≡ file_step hash (seen old pages) e blob outcome
  -- a pager call fails only where the pager's count of faults rises
  pub faults : FaultsAfter (has_failed outcome) old.pages.cache.pager.faults new.pages.cache.pager.faults
  -- where the pager tells, it is the first of the event's calls whose number is to fail
  pub told : IfSome old.pages.cache.pager.told (λ before. IsSomeAnd new.pages.cache.pager.told (λ now.
      Tells before (length (page_calls hash (seen old pages) e)) outcome now))
  -- the calls up to that one were made, one after another, and no other
  pub calls : Called old.pages.cache.pager (calls_done hash (seen old pages) e outcome)
      new.pages.cache.pager
  -- and so its count of reads goes on by those among them
  pub reads : ReadsAfter (reads_made hash (seen old pages) e outcome) old.pages.cache.pager.reads new.pages.cache.pager.reads
  -- the number of the file's pages, their size and the limit of resident ones stay
  pub sizes : KeepsSizes old.pages.cache new.pages.cache
  pub room : LeavesRoom (room_used e) old.regions new.regions
  pub gains : GainsRoom (given_back answer) old.regions new.regions
