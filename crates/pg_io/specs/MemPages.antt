-- Pages that stand in memory.
use Rattle.std.specs.Prelude.{ℕ, zero, suc, ◌-◌, ◌*◌, ◌/◌, Bool, List, [], ◌∷◌, ◌++◌, length, take, drop, replicate, Some, if◌then◌else◌}
use Rattle.std.specs.Int.{div_ceil}
use Rattle.pg_io.specs.declared.pager_call.PagerCall.{PagerCall}
use Rattle.pg_io.specs.declared.pager_call.PagerCall.TheVariants.{Reads, Writes}
use Rattle.pg_io.specs.Calls.{next_count, is_to_fail}
use Rattle.pg_io.specs.Pager.{PagerNow}
use Rattle.pg_io.specs.PageBytes.{written_over}

-- a pager in memory
pub record MemPagerNow : Type 0 where
  -- the bytes of its pages, one after another
  pub bytes : List ℕ
  -- how many bytes a page has
  pub page_size : ℕ
  -- how many bytes it was made of, before zeros filled the last page
  pub length : ℕ
  -- how many calls were made
  pub made : ℕ
  -- the numbers of the calls that are to fail: the first call is number 1
  pub fails : List ℕ
  -- how many calls have failed
  pub faults : ℕ
  -- how many reads were made
  pub reads : ℕ
  -- the calls that were made, one after another
  pub calls : List PagerCall

-- how many pages of this size so many bytes reach
abbrev pub pages_reached : ℕ → ℕ → ℕ
pages_reached size bytes = div_ceil bytes size

-- these bytes, with zeros up to a whole page of this size
abbrev pub whole_pages : ℕ → List ℕ → List ℕ
whole_pages size bytes = bytes ++ replicate (size * pages_reached size (length bytes) - length bytes) 0

-- the first pages of these bytes, so many, each of so many bytes
abbrev pub first_pages : ℕ → ℕ → List ℕ → List (List ℕ)
first_pages size zero bytes = []
first_pages size (suc count) bytes = take size bytes ∷ first_pages size count (drop size bytes)

-- the whole pages of this size in these bytes
unfoldable pub pages_of : ℕ → List ℕ → List (List ℕ)
pages_of size bytes = first_pages size (length bytes / size) bytes

-- whether the next call is to fail
abbrev pub call_fails : MemPagerNow → Bool
call_fails pager = is_to_fail pager.made pager.fails

-- how many calls have failed after one more
abbrev pub faults_after : MemPagerNow → ℕ
faults_after pager = if call_fails pager then next_count pager.faults else pager.faults

-- the pager after a read of a page
abbrev pub after_page_read : ℕ → MemPagerNow → MemPagerNow
after_page_read page pager = record pager {
  made = next_count pager.made;
  faults = faults_after pager;
  reads = next_count pager.reads;
  calls = pager.calls ++ Reads page ∷ [];
}

-- the pager after a write of these bytes to a page: where it is to fail, the page is as it was
abbrev pub after_page_write : ℕ → List ℕ → MemPagerNow → MemPagerNow
after_page_write page from pager = record pager {
  bytes = if call_fails pager then pager.bytes else written_over pager.bytes (page * pager.page_size) from;
  made = next_count pager.made;
  faults = faults_after pager;
  calls = pager.calls ++ Writes page ∷ [];
}

-- what a pager in memory shows
abbrev pub shown : MemPagerNow → PagerNow
shown pager = record {
  pages = length pager.bytes / pager.page_size;
  page_size = pager.page_size;
  told = Some (record { holds = pages_of pager.page_size pager.bytes; made = pager.made; fails = pager.fails });
  faults = pager.faults;
  reads = pager.reads;
  calls = pager.calls;
}
