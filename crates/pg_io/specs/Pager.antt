-- What is known of a file's pages behind a pager.
use Rattle.std.specs.Prelude.{ℕ, ◌≡◌, List, [], ◌∷◌, ◌++◌, length, All, Bool, false, MatchBool, Option, Some, IfSome, IsSomeAnd, slice_get, slice_set, if◌then◌else◌}
use Rattle.std.specs.Option.{option_map}
use Rattle.pg_bytes.specs.Counts.{Rose}
use Rattle.pg_io.specs.declared.pager_call.PagerCall.{PagerCall}
use Rattle.pg_io.specs.declared.pager_call.PagerCall.TheVariants.{Reads, Writes}
use Rattle.pg_io.specs.Calls.{next_count, is_to_fail, count_after, outcomes}

-- what a pager that tells its content shows
pub record ToldPages : Type 0 where
  -- the bytes of each page
  pub holds : List (List ℕ)
  -- how many calls were made, of reads and writes together
  pub made : ℕ
  -- the numbers of the calls that are to fail: the first call is number 1
  pub fails : List ℕ

-- a pager as it is seen
pub record PagerNow : Type 0 where
  -- how many pages there are
  pub pages : ℕ
  -- how many bytes each of them has
  pub page_size : ℕ
  -- its content, where that is known
  pub told : Option ToldPages
  -- how many calls have failed
  pub faults : ℕ
  -- how many reads were made
  pub reads : ℕ
  -- the calls that were made, one after another
  pub calls : List PagerCall

-- the pages that are told are as many as there are, and each is whole
abbrev pub TellsWhole : PagerNow → Type 0
TellsWhole pager = IfSome pager.told (λ told. (length told.holds ≡ pager.pages) × All (λ bytes. length bytes ≡ pager.page_size) told.holds)

-- A failed call raises the count of faults, and a call that succeeded leaves it: no fault is hidden.
abbrev pub FaultsAfter : Bool → ℕ → ℕ → Type 0
FaultsAfter failed before now = MatchBool failed (Rose before now) (now ≡ before)

-- whether the next call is to fail
abbrev pub next_fails : ToldPages → Bool
next_fails told = is_to_fail told.made told.fails

-- what is told after a call that changed no page
abbrev pub after_call : ToldPages → ToldPages
after_call told = record told { made = next_count told.made }

-- what is told after this page was written
abbrev pub with_page : ℕ → List ℕ → ToldPages → ToldPages
with_page page bytes told = record { holds = slice_set told.holds page bytes; made = next_count told.made; fails = told.fails }

-- One read of a page. Where it succeeded, these are the page's bytes.
pub record IsRead (old : PagerNow) (page : ℕ) (failed : Bool) (bytes : List ℕ) (new : PagerNow) : Type 0 where
  pub pages : new.pages ≡ old.pages
  pub page_size : new.page_size ≡ old.page_size
  pub reads : Rose old.reads new.reads
  pub calls : new.calls ≡ old.calls ++ Reads page ∷ []
  pub faults : FaultsAfter failed old.faults new.faults
  pub outcome : IfSome old.told (λ told. failed ≡ next_fails told)
  pub content : IfSome old.told (λ told. failed ≡ false → slice_get told.holds page ≡ Some bytes)
  pub told : new.told ≡ option_map after_call old.told

-- One write of these bytes to a page. Where it failed, the page is as it was.
pub record IsWrite (old : PagerNow) (page : ℕ) (failed : Bool) (bytes : List ℕ) (new : PagerNow) : Type 0 where
  pub pages : new.pages ≡ old.pages
  pub page_size : new.page_size ≡ old.page_size
  pub reads : new.reads ≡ old.reads
  pub calls : new.calls ≡ old.calls ++ Writes page ∷ []
  pub faults : FaultsAfter failed old.faults new.faults
  pub outcome : IfSome old.told (λ told. failed ≡ next_fails told)
  pub told : new.told ≡ option_map (λ told. if failed then after_call told else with_page page bytes told) old.told

-- ---- calls one after another

-- What is told after calls of which these failed: the count went on by one for each, and each failed exactly where it
-- was to fail.
pub record Follow (old : ToldPages) (failed : List Bool) (new : ToldPages) : Type 0 where
  pub made : new.made ≡ count_after old.made (length failed)
  pub fails : new.fails ≡ old.fails
  pub outcomes : failed ≡ outcomes old.made old.fails (length failed)

-- The same of a pager, where it tells.
abbrev pub MadeCalls : PagerNow → List Bool → PagerNow → Type 0
MadeCalls old failed new = IfSome old.told (λ before. IsSomeAnd new.told (λ now. Follow before failed now))
