-- What a fault does to the pages of a file, and to its records and private copies.
use Rattle.std.specs.Prelude.{ℕ, ◌≡◌, ◌+◌, ◌/◌, ◌≤◌, ◌==◌, ◌⊎◌, ◌&&◌, not, MatchBool, Bool, true, false, IsTrue, List, find, slice_set, Option, None, Some, IsSome, IsSomeAnd, Result, Ok, Err, IfOk, IfErr, is_err, is_some, unwrap_or, if◌then◌else◌}
use Rattle.std.specs.Option.{option_map}
use Rattle.pg_bytes.specs.PageSize.{is_page_size}
use Rattle.pg_digest.specs.Kinds.{Hash}
use Rattle.cs_directory.specs.Directory.{IsDirectory}
use Rattle.cs_policy.specs.declared.access.Access.{Access}
use Rattle.cs_policy.specs.declared.access.Access.TheVariants.{Read, Write, Execute}
use Rattle.cs_policy.specs.declared.denial.Denial.{Denial}
use Rattle.cs_policy.specs.declared.denial.Denial.TheVariants.{Mismatch}
use Rattle.cs_policy.specs.declared.region.Region.{Region}
use Rattle.cs_policy.specs.declared.region.Record.{Record}
use Rattle.cs_blob.specs.Signature.{Signature}
use Rattle.pg_cache.specs.Cache.{CacheNow, resident_page, at_hand}
use Rattle.pg_cache.specs.Gives.{PeekLeaves, BringGives}
use Rattle.pg_cache.specs.declared.fault.PagerFault.{PagerFault}
use Rattle.pg_pages.specs.Marks.{Seal, Marks, marks_of, sealed_at}
use Rattle.pg_pages.specs.MarkSteps.{peeked, brought, cleared}
use Rattle.pg_pages.specs.Pages.{PagesNow, IsMarked, IsValidated}
use Rattle.pg_regions.specs.Lookups.{record_of, copy_of, bytes_of}
use Rattle.pg_regions.specs.RegionsNow.{RegionsNow, spare, IsSound}
use Rattle.pg_regions.specs.Steps.{blank, given, spare_granted, KeepsRoom}
use Rattle.pg_plain.specs.PlainFile.{Attached}
use Rattle.pg_plain.specs.Covers.{Fits, covers, is_below_limit, hash_page, parts}
use Rattle.pg_plain.specs.Verdict.{differs}
use Rattle.pg_plain.specs.Given.{put_at, unexecuted}
use Rattle.pg_object.specs.declared.take.Taken.{Taken}
use Rattle.pg_object.specs.declared.take.Taken.TheVariants.{Failed, Denied, Ready}
use Rattle.pg_object.specs.Acts.{LeavesRoom, nothing_back, GainsRoom}
use Rattle.pg_object.specs.Seals.{seal_for, hashes_to}

-- ---- a page beside its slots

-- A signature holds the digests of a page: it covers the page, and all of the page lies below its limit and has slots.
pub record Holds (size : ℕ) (blob : Signature) (page : ℕ) : Type 0 where
  pub known : IsTrue (is_page_size size)
  pub fits : Fits size blob
  pub covered : IsTrue (covers size blob page)
  pub below : IsTrue (is_below_limit size blob page)
  pub directory : IsDirectory blob.best_bytes blob.best

-- the first hash page of these bytes that does not hash to its slot
abbrev pub difference : Hash → ℕ → Signature → ℕ → List ℕ → Option Denial
difference hash size blob page bytes =
    option_map (λ p. Mismatch page p.slot (hash blob.best.kind p.bytes) p.wanted) (find (differs hash blob) (parts size blob page bytes))

-- the page was found to differ, and has not changed since
abbrev pub found_other : ℕ → List Marks → List Marks
found_other page marks = slice_set marks page (record { validated = None; tainted = true; writable = (marks_of marks page).writable })

-- what was found of the page is kept
abbrev pub compared : ℕ → Seal → Result (Option Denial) PagerFault → List Marks → List Marks
compared page seal (Ok None) marks = sealed_at seal page marks
compared page seal (Ok (Some denial)) marks = found_other page marks
compared page seal (Err fault) marks = marks

-- ---- a page is looked at

-- What its bytes say, where it is held against the slots of a signature, or nothing where against none.
abbrev pub says : Hash → ℕ → Option Signature → ℕ → List ℕ → Option Denial
says hash size None page bytes = None
says hash size (Some blob) page bytes = difference hash size blob page bytes

-- the marks afterwards: where the page is held against slots, no writer maps it
abbrev pub marks_looked : ℕ → CacheNow → Option Signature → ℕ → Result (Option Denial) PagerFault → List Marks → List Marks
marks_looked size cache None page noted marks = peeked cache page marks
marks_looked size cache (Some blob) page noted marks = compared page (seal_for size blob page) noted (peeked cache page (cleared cache page marks))

-- how many hash pages are hashed at most: none where the page could not be read, and else those up to one that differs
abbrev pub hashed_for : ℕ → Signature → ℕ → Result (Option Denial) PagerFault → ℕ
hashed_for size blob page (Err fault) = 0
hashed_for size blob page (Ok (Some (Mismatch p slot found wanted))) = hashes_to size blob page slot
hashed_for size blob page (Ok told) = size / hash_page blob

-- how often the digester was called, and that it was not for a page that was found sealed before
pub record Hashes (size : ℕ) (blob : Signature) (old : PagesNow) (page : ℕ) (noted : Result (Option Denial) PagerFault) (new : PagesNow) : Type 0 where
  pub few : new.calls ≤ old.calls + size / hash_page blob
  pub once : new.calls ≤ old.calls + hashed_for size blob page noted
  pub unread : is_err noted ≡ true → new.calls ≡ old.calls
  pub lazy : IsSome (resident_page old.cache page) → IsValidated old page (seal_for size blob page) → (noted ≡ Ok None) × (new.calls ≡ old.calls)

abbrev pub Counts : ℕ → Option Signature → PagesNow → ℕ → Result (Option Denial) PagerFault → PagesNow → Type 0
Counts size None old page noted new = new.calls ≡ old.calls
Counts size (Some blob) old page noted new = Hashes size blob old page noted new

pub record Looks (hash : Hash) (size : ℕ) (blob : Option Signature) (old : PagesNow) (page : ℕ) (noted : Result (Option Denial) PagerFault) (new : PagesNow) : Type 0 where
  pub leaves : PeekLeaves old.cache page (is_err noted) new.cache
  pub says : IfOk noted (λ noted. IsSomeAnd (at_hand new.cache page) (λ held. noted ≡ says hash size blob page held.bytes))
  pub fault : IfErr noted (λ fault. fault.page ≡ page)
  pub counts : Counts size blob old page noted new
  pub marks : new.marks ≡ marks_looked size old.cache blob page noted old.marks
  pub marked : IsMarked hash new.cache new.marks

-- the signature against which a page is held: the one that covers it, for an execution that breaks no other rule
abbrev pub against : ℕ → List Attached → ℕ → Access → Option Denial → Option Signature
against size blobs page Execute None = option_map (λ attached. attached.signature) (find (λ attached. covers size attached.signature page) blobs)
against size blobs page _ broken = None

-- ---- a page is taken

-- how it ended once the page was brought: with the page that left for it and what its bytes say
abbrev pub taken : Option Denial → Result (Option ℕ) PagerFault → Taken
taken noted (Ok left) = Ready left noted
taken noted (Err fault) = Failed fault.page

pub record Brought (hash : Hash) (old : PagesNow) (page : ℕ) (noted : Option Denial) (result : Taken) (new : PagesNow) : Type 0 where
  pub left : Result (Option ℕ) PagerFault
  pub gives : BringGives old.cache page left new.cache
  pub marks : new.marks ≡ brought old.cache page left old.marks
  pub marked : IsMarked hash new.cache new.marks
  pub calls : new.calls ≡ old.calls
  pub ends : result ≡ taken noted left

-- by what its bytes say: under guard it is not brought where they break the rule
abbrev pub GoesOn : Hash → Bool → PagesNow → ℕ → Result (Option Denial) PagerFault → Taken → PagesNow → Type 0
GoesOn hash guarded old page (Err fault) result new = (result ≡ Failed fault.page) × (new ≡ old)
GoesOn hash guarded old page (Ok None) result new = Brought hash old page None result new
GoesOn hash false old page (Ok (Some denial)) result new = Brought hash old page (Some denial) result new
GoesOn hash true old page (Ok (Some denial)) result new = (result ≡ Denied denial) × (new ≡ old)

-- A page is looked at, and then brought.
pub record Takes (hash : Hash) (size : ℕ) (blob : Option Signature) (guarded : Bool) (old : PagesNow) (page : ℕ) (result : Taken) (new : PagesNow) : Type 0 where
  pub seen : PagesNow
  pub noted : Result (Option Denial) PagerFault
  pub looks : Looks hash size blob old page noted seen
  pub goes_on : GoesOn hash guarded seen page noted result new

-- ---- a page leaves

-- the records of the page that left are gone, where their regions have no private copy of it
abbrev pub records_gone : RegionsNow → Option ℕ → ℕ → ℕ → Option Record
records_gone old None id p = record_of old.records id p
records_gone old (Some left) id p = if p == left && not (is_some (bytes_of old.copies id p)) then None else record_of old.records id p

pub record Unmaps (old : RegionsNow) (left : Option ℕ) (new : RegionsNow) : Type 0 where
  pub records : (id p : ℕ) → record_of new.records id p ≡ records_gone old left id p
  pub others : new ≡ record old { records = new.records }
  pub none : left ≡ None → new ≡ old
  pub room : KeepsRoom old new
  pub sound : IsSound new

-- ---- what the region is given

-- the page is at hand for a region: as the private copy of a private region, or as a resident page
abbrev pub IsAtHand : CacheNow → RegionsNow → Region → ℕ → Type 0
IsAtHand cache regions region page =
    ((region.shared ≡ false) × IsSome (copy_of regions.copies region.id page)) ⊎ IsSome (resident_page cache page)

-- The region's record of the page is given the access.
pub record Grants (old : RegionsNow) (region : Region) (page : ℕ) (access : Access) (guarded : Bool) (new : RegionsNow) : Type 0 where
  pub records : (id p : ℕ) → record_of new.records id p
      ≡ put_at region.id page (given access guarded (unwrap_or (record_of old.records region.id page) (blank region.id page))) (record_of old.records) id p
  pub others : new ≡ record old { records = new.records }
  pub room : spare new ≡ spare_granted region.id page old
  pub sound : IsSound new

-- A write to a shared region takes the permission to execute from every record of the page.
pub record StripsPage (old : RegionsNow) (page : ℕ) (new : RegionsNow) : Type 0 where
  pub records : (id p : ℕ) → record_of new.records id p ≡ (if p == page then option_map unexecuted (record_of old.records id p) else record_of old.records id p)
  pub others : new ≡ record old { records = new.records }
  pub room : spare new ≡ spare old
  pub sound : IsSound new

-- A write to a private region makes a copy with these bytes, where it has none.
pub record Copies (old : RegionsNow) (region : Region) (page : ℕ) (bytes : List ℕ) (new : RegionsNow) : Type 0 where
  pub copies : (id p : ℕ) → bytes_of new.copies id p
      ≡ (if is_some (bytes_of old.copies region.id page) then bytes_of old.copies id p else put_at region.id page bytes (bytes_of old.copies) id p)
  pub others : new ≡ record old { copies = new.copies }
  pub room : LeavesRoom (record { regions = 0; records = 0; copies = 1 }) old new
  pub gains : GainsRoom nothing_back old new
  pub sound : IsSound new

abbrev pub WritesTo : RegionsNow → Region → ℕ → List ℕ → RegionsNow → Type 0
WritesTo old region page bytes new = MatchBool region.shared (StripsPage old page new) (Copies old region page bytes new)

abbrev pub GivesTo : RegionsNow → Region → ℕ → Access → Bool → List ℕ → RegionsNow → Type 0
GivesTo old region page Write guarded bytes new = (mid : RegionsNow) × (Grants old region page Write guarded mid × WritesTo mid region page bytes new)
GivesTo old region page Read guarded bytes new = Grants old region page Read guarded new
GivesTo old region page Execute guarded bytes new = Grants old region page Execute guarded new

-- a writer maps the page
abbrev pub mapped : ℕ → List Marks → List Marks
mapped page marks = slice_set marks page (record { validated = None; tainted = (marks_of marks page).tainted; writable = true })

-- the marks afterwards: a shared region that writes maps the page
abbrev pub marks_written : Region → ℕ → List Marks → List Marks
marks_written region page marks = if region.shared then mapped page marks else marks

abbrev pub marks_given : Region → ℕ → Access → List Marks → List Marks
marks_given region page Write marks = marks_written region page marks
marks_given region page Read marks = marks
marks_given region page Execute marks = marks
