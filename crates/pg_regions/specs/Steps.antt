-- What each call on the regions of a file leaves, and what is found then.
use Rattle.std.specs.Prelude.{ℕ, ◌≡◌, ◌-◌, ◌≤◌, ◌==◌, ◌&&◌, not, Bool, true, false, List, length, map, filter, insert, Option, None, MatchOption, option_map, is_some, unwrap_or, if◌then◌else◌}
use Rattle.cs_policy.specs.declared.access.Access.{Access}
use Rattle.cs_policy.specs.declared.access.Access.TheVariants.{Read, Write, Execute}
use Rattle.cs_policy.specs.declared.region.Region.{Region}
use Rattle.cs_policy.specs.declared.region.Record.{Record}
use Rattle.pg_bytes.specs.Order.{in_order}
use Rattle.pg_io.specs.PageBytes.{written_over}
use Rattle.pg_regions.specs.Lookups.{Copy, region_of, record_of, copy_of, is_record, is_copy, is_of_pid, region_before, copy_before}
use Rattle.pg_regions.specs.RegionsNow.{RegionsNow, Room, spare}

-- ---- what is found after a change

-- Under this number `found` is found, and under each other number what was found before.
pub record ChangesRegion (old new : RegionsNow) (id : ℕ) (found : Option Region) : Type 0 where
  pub here : region_of new.regions id ≡ found
  pub others : (i : ℕ) → (i == id) ≡ false → region_of new.regions i ≡ region_of old.regions i

-- For this region and page `found` is found, and for all others what was found before.
pub record ChangesRecord (old new : RegionsNow) (id page : ℕ) (found : Option Record) : Type 0 where
  pub here : record_of new.records id page ≡ found
  pub others : (i p : ℕ) → (i == id && p == page) ≡ false → record_of new.records i p ≡ record_of old.records i p

-- the same of copies
pub record ChangesCopy (old new : RegionsNow) (id page : ℕ) (found : Option Copy) : Type 0 where
  pub here : copy_of new.copies id page ≡ found
  pub others : (i p : ℕ) → (i == id && p == page) ≡ false → copy_of new.copies i p ≡ copy_of old.copies i p

-- the region has no record and no copy, on any page
pub record IsFresh (now : RegionsNow) (id : ℕ) : Type 0 where
  pub no_record : (page : ℕ) → record_of now.records id page ≡ None
  pub no_copy : (page : ℕ) → copy_of now.copies id page ≡ None

-- ---- room

abbrev pub one_region_less : Room → Room
one_region_less room = record room { regions = room.regions - 1 }

abbrev pub one_record_less : Room → Room
one_record_less room = record room { records = room.records - 1 }

abbrev pub one_copy_less : Room → Room
one_copy_less room = record room { copies = room.copies - 1 }

-- there can be at least as many more of each as before
pub record KeepsRoom (old new : RegionsNow) : Type 0 where
  pub regions : (spare old).regions ≤ (spare new).regions
  pub records : (spare old).records ≤ (spare new).records
  pub copies : (spare old).copies ≤ (spare new).copies

-- ---- regions

-- one more region, in its order
abbrev pub with_region : Region → RegionsNow → RegionsNow
with_region region now = record now { regions = in_order region_before region now.regions }

-- a region goes with its records and copies
abbrev pub without_region : ℕ → RegionsNow → RegionsNow
without_region id now = record now {
  regions = filter (λ region. not (region.id == id)) now.regions;
  records = filter (λ r. not (r.region == id)) now.records;
  copies = filter (λ copy. not (copy.region == id)) now.copies;
}

-- all regions of a process go in the same way
abbrev pub without_pid : ℕ → RegionsNow → RegionsNow
without_pid pid now = record now {
  regions = filter (λ region. not (region.pid == pid)) now.regions;
  records = filter (λ r. not (is_of_pid now.regions pid r.region)) now.records;
  copies = filter (λ copy. not (is_of_pid now.regions pid copy.region)) now.copies;
}

-- Nothing is found of a region that is gone, and of all others what was found before.
pub record AreGone (gone : ℕ → Bool) (old new : RegionsNow) : Type 0 where
  pub regions : (id : ℕ) → region_of new.regions id ≡ (if gone id then None else region_of old.regions id)
  pub records : (id page : ℕ) → record_of new.records id page ≡ (if gone id then None else record_of old.records id page)
  pub copies : (id page : ℕ) → copy_of new.copies id page ≡ (if gone id then None else copy_of old.copies id page)

-- ---- records

-- a record that permits nothing yet
abbrev pub blank : ℕ → ℕ → Record
blank id page = record { region = id; page = page; read = false; write = false; execute = false; guarded = false }

-- A record after an access was given. Each access permits reading. Write takes the permission to execute away, and
-- Execute keeps whether the process was guarded.
abbrev pub given : Access → Bool → Record → Record
given Read guarded r = record r { read = true }
given Write guarded r = record r { read = true; write = true; execute = false }
given Execute guarded r = record r { read = true; execute = true; guarded = guarded }

-- the same, where this is the record of the region and page
abbrev pub given_at : ℕ → ℕ → Access → Bool → Record → Record
given_at id page access guarded r = if is_record id page r then given access guarded r else r

-- one more element, at some place
pub record IsOneMore (old : List Record) (r : Record) (new : List Record) : Type 0 where
  pub place : ℕ
  pub within : place ≤ length old
  pub inserted : new ≡ insert old place r

-- Grant: the region's record of the page is given the access. Where there is none yet, a blank record is, and stands
-- among the others then.
abbrev pub IsGranted : ℕ → ℕ → Access → Bool → List Record → List Record → Type 0
IsGranted id page access guarded old new = MatchOption (record_of old id page)
    (IsOneMore old (given access guarded (blank id page)) new)
    (λ _. new ≡ map (given_at id page access guarded) old)

-- the region's record of the page after it
abbrev pub granted : ℕ → ℕ → Access → Bool → RegionsNow → Record
granted id page access guarded old =
    given access guarded (unwrap_or (record_of old.records id page) (blank id page))

-- how many more there can be after it: one record less where there was none of the region and page
abbrev pub spare_granted : ℕ → ℕ → RegionsNow → Room
spare_granted id page old =
    if is_some (record_of old.records id page) then spare old else one_record_less (spare old)

-- a record of the page without the permission to execute
abbrev pub without_execute : ℕ → Record → Record
without_execute page r = if r.page == page then record r { execute = false } else r

-- Strip: no record of the page permits execution.
abbrev pub stripped : ℕ → RegionsNow → RegionsNow
stripped page now = record now { records = map (without_execute page) now.records }

-- of each region and page the record that was found before, without that permission where it is of this page
abbrev pub FindsStripped : RegionsNow → RegionsNow → ℕ → Type 0
FindsStripped old new page =
    (i p : ℕ) → record_of new.records i p ≡ option_map (without_execute page) (record_of old.records i p)

-- the record is of the page, and its region has no private copy of it
abbrev pub is_without_copy : List Copy → ℕ → Record → Bool
is_without_copy copies page r = (r.page == page) && not (is_some (copy_of copies r.region page))

-- Unmap: these records go.
abbrev pub unmapped : ℕ → RegionsNow → RegionsNow
unmapped page now = record now { records = filter (λ r. not (is_without_copy now.copies page r)) now.records }

-- none of these is found then, and of all others what was found before
abbrev pub FindsUnmapped : RegionsNow → RegionsNow → ℕ → Type 0
FindsUnmapped old new page =
    (i p : ℕ) → record_of new.records i p
    ≡ (if p == page && not (is_some (copy_of old.copies i page)) then None else record_of old.records i p)

-- ---- private copies

-- the copy of a region and page with these bytes
abbrev pub private_copy : ℕ → ℕ → List ℕ → Copy
private_copy id page bytes = record { region = id; page = page; bytes = bytes }

-- one more copy, in its order
abbrev pub with_copy : Copy → RegionsNow → RegionsNow
with_copy copy now = record now { copies = in_order copy_before copy now.copies }

-- a copy with bytes written over a part of it
abbrev pub copy_with_piece : ℕ → List ℕ → Copy → Copy
copy_with_piece at bytes copy = record copy { bytes = written_over copy.bytes at bytes }

-- the same, where it is the copy of the region and page
abbrev pub put_at : ℕ → ℕ → ℕ → List ℕ → Copy → Copy
put_at id page at bytes copy = if is_copy id page copy then copy_with_piece at bytes copy else copy

-- Put: the bytes are written over a part of the copy of the region and page.
abbrev pub with_bytes : ℕ → ℕ → ℕ → List ℕ → RegionsNow → RegionsNow
with_bytes id page at bytes now = record now { copies = map (put_at id page at bytes) now.copies }

-- the copy of the region and page after it
abbrev pub rewritten : ℕ → ℕ → ℕ → List ℕ → RegionsNow → Option Copy
rewritten id page at bytes old = option_map (copy_with_piece at bytes) (copy_of old.copies id page)
