-- Which checks of pages an object keeps.
use Rattle.std.specs.Prelude.{ℕ, ◌≡◌, ◌≢◌, ◌+◌, ◌/◌, ◌==◌, ◌≤◌, ◌&&◌, not, Bool, true, false, List, [], filter, find, Option, None, Some, is_some}
use Rattle.std.specs.Option.{option_map_or}
use Rattle.pg_digest.specs.Kinds.{Hash}
use Rattle.cs_policy.specs.declared.access.Access.{Access}
use Rattle.cs_policy.specs.declared.access.Access.TheVariants.{Write, Execute}
use Rattle.cs_policy.specs.declared.file.FileEvent.{FileEvent}
use Rattle.cs_policy.specs.declared.file.FileEvent.TheVariants as event
use Rattle.cs_policy.specs.declared.file.FileReply.{FileReply}
use Rattle.cs_policy.specs.declared.file.FileReply.TheVariants as reply
use Rattle.cs_policy.specs.declared.denial.Denial.{Denial}
use Rattle.cs_policy.specs.declared.denial.Denial.TheVariants.{Mismatch}
use Rattle.pg_cache.specs.Cache.{resident, resident_page}
use Rattle.pg_cache.specs.Finds.{Finds}
use Rattle.pg_pages.specs.Marks.{marks_of}
use Rattle.pg_regions.specs.Lookups.{copy_of, is_shared, HasNoWriter}
use Rattle.pg_plain.specs.PlainFile.{region_with}
use Rattle.pg_plain.specs.Covers.{hash_page}
use Rattle.pg_plain.specs.Verdict.{verdict_without_bytes}
use Rattle.pg_plain.specs.Steps.{is_reached}
use Rattle.pg_plain.specs.Content.{count_written}
use Rattle.pg_plain.specs.Keep.{IsSealedNow}
use Rattle.pg_object.specs.Object.{ObjectNow, seen, cover_of}
use Rattle.pg_object.specs.Seals.{hashes_to}

abbrev pub is_validated : ObjectNow → ℕ → Bool
is_validated now page = is_some (marks_of now.pages.marks page).validated

-- the resident pages that were found sealed and have not changed since, most recent first
abbrev pub checked : ObjectNow → List ℕ
checked now = filter (is_validated now) (resident now.pages.cache)

-- the page is one of them
abbrev pub is_checked : ObjectNow → ℕ → Bool
is_checked now page = is_some (find (λ q. q == page) (checked now))

abbrev pub is_resident : ObjectNow → ℕ → Bool
is_resident now page = is_some (resident_page now.pages.cache page)

-- What is true of a page that is checked, where these are the bytes of all pages.
pub record StandsChecked (hash : Hash) (now : ObjectNow) (pages : List (List ℕ)) (page : ℕ) : Type 0 where
  pub resident : is_resident now page ≡ true
  -- a signature covers it, and each of its hash pages hashes to its slot there now
  pub is_sealed : IsSealedNow hash (seen now pages) page
  -- no shared region may write it: while one may, the page is not checked
  pub unwritten : HasNoWriter now.regions.regions now.regions.records page

-- All that is true of each page that is checked.
abbrev pub AreSealedNow : Hash → ObjectNow → Type 0
AreSealedNow hash now = (pages : List (List ℕ)) → Finds now.pages.cache pages → (page : ℕ) → is_checked now page ≡ true
    → StandsChecked hash now pages page

-- ---- what an event with its reply does to these pages

-- it wrote a byte of the page, or gave it to a shared region to be written
abbrev pub takes_out : ObjectNow → FileEvent → FileReply → ℕ → Bool
takes_out old (event.Write at piece) answer page = is_reached old.pages.cache.pager.page_size at (count_written answer) page
takes_out old (event.Enter id p Write flags resolve) (reply.Given left noted) page = (p == page) && is_shared old.regions.regions id
takes_out old _ answer page = false

-- the page that was asked for is given, and no rule was broken
abbrev pub is_given : FileReply → Bool
is_given (reply.Given left noted) = not (is_some noted)
is_given _ = false

-- it gave the page to be executed
abbrev pub takes_in : FileEvent → FileReply → ℕ → Bool
takes_in (event.Enter id p Execute flags resolve) answer page = (p == page) && is_given answer
takes_in _ answer page = false

-- Which pages are checked after an event.
pub record KeepsChecked (old : ObjectNow) (e : FileEvent) (answer : FileReply) (new : ObjectNow) : Type 0 where
  -- a page that was checked is so exactly where the event did not take it out and it is still resident
  pub stays : (page : ℕ) → is_checked old page ≡ true → is_checked new page ≡ (not (takes_out old e answer page) && is_resident new page)
  -- and one that was not is so only where the event took it in
  pub comes : (page : ℕ) → is_checked old page ≡ false → is_checked new page ≡ true → takes_in e answer page ≡ true

-- Each page that was checked is resident as it was: with the same bytes.
abbrev pub LeavesChecked : ObjectNow → ObjectNow → Type 0
LeavesChecked old new = (page : ℕ) → is_checked old page ≡ true
    → resident_page new.pages.cache page ≡ resident_page old.pages.cache page

-- ---- a fault

-- how many hash pages the page has in the signature that covers it, if one does
abbrev pub hash_pages : ObjectNow → ℕ → ℕ
hash_pages now page = option_map_or (λ attached. now.pages.cache.pager.page_size / hash_page attached.signature) (cover_of now page) 0

-- how many of them there are up to the one of this slot, with it
abbrev pub hash_pages_to : ObjectNow → ℕ → ℕ → ℕ
hash_pages_to now page slot =
    option_map_or (λ attached. hashes_to now.pages.cache.pager.page_size attached.signature page slot) (cover_of now page) 0

-- the rule that a reply tells as broken
abbrev pub told_broken : FileReply → Option Denial
told_broken (reply.Denied denial) = Some denial
told_broken (reply.Given left noted) = noted
told_broken _ = None

-- an access is judged by the page's bytes: an execution, through a region that has the page, that breaks no other rule
abbrev pub needs_bytes : ObjectNow → ℕ → ℕ → Access → Bool
needs_bytes now id page Execute =
    option_map_or (λ region. not (is_some (verdict_without_bytes (seen now []) region page Execute))) (region_with (seen now []) id page) false
needs_bytes now id page _ = false

-- How often the digester is called, and which reads are made, at a fault.
pub record IsLazy (old : ObjectNow) (id page : ℕ) (access : Access) (answer : FileReply) (new : ObjectNow) : Type 0 where
  -- for an execution alone, and then at most once for each 4,096 bytes of the page
  pub unhashed : access ≢ Execute → new.pages.calls ≡ old.pages.calls
  pub few : new.pages.calls ≤ old.pages.calls + old.pages.cache.pager.page_size / 4096
  -- and no more than once for each of its hash pages
  pub hashed : new.pages.calls ≤ old.pages.calls + hash_pages old page
  -- where one of them is told that does not hash to its slot, at most once for each up to that one
  pub to_slot : (p slot : ℕ) (found wanted : List ℕ) → told_broken answer ≡ Some (Mismatch p slot found wanted)
      → new.pages.calls ≤ old.pages.calls + hash_pages_to old page slot
  -- not where the page could not be read
  pub unread : answer ≡ reply.PagerFault page → new.pages.calls ≡ old.pages.calls
  -- not where the access is judged without the page's bytes
  pub unneeded : needs_bytes old id page access ≡ false → new.pages.calls ≡ old.pages.calls
  -- not for a page that is checked
  pub no_hash : is_checked old page ≡ true → new.pages.calls ≡ old.pages.calls
  -- a page that is given to be executed, and breaks no rule, is checked then
  pub kept : access ≡ Execute → copy_of old.regions.copies id page ≡ None → is_given answer ≡ true → is_checked new page ≡ true
  -- a resident page is not read
  pub no_read : is_resident old page ≡ true → new.pages.cache.pager.reads ≡ old.pages.cache.pager.reads
