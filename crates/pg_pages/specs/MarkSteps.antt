-- What each call does to the marks.
use Rattle.std.specs.Prelude.{ℕ, List, Bool, true, false, Option, Result, Ok, Err, is_some, if◌then◌else◌}
use Rattle.std.specs.Option.{option_map}
use Rattle.pg_cache.specs.Cache.{CacheNow, resident_page, at_hand}
use Rattle.pg_cache.specs.declared.fault.PagerFault.{PagerFault}
use Rattle.pg_pages.specs.declared.check.Check.{Check}
use Rattle.pg_pages.specs.declared.check.Check.TheVariants.{Sealed, NotSealed}
use Rattle.pg_pages.specs.declared.row.Row.TheVariants.{FoundOther, Changed, ClearsWritable, Enters, Goes}
use Rattle.pg_pages.specs.Marks.{Seal, Marks, marked, marked_if, sealed_at}

-- the spare buffer is read into or written over: the page that stood there is gone
abbrev pub spare_gone : CacheNow → List Marks → List Marks
spare_gone cache marks = marked_if Goes (option_map (λ held. held.page) cache.spare) marks

-- A peek reads a page that is not resident into the spare buffer.
abbrev pub peeked : CacheNow → ℕ → List Marks → List Marks
peeked cache page marks = if is_some (resident_page cache page) then marks else spare_gone cache marks

-- What a check found is kept.
abbrev pub kept : Seal → ℕ → Check → List Marks → List Marks
kept seal page Sealed marks = sealed_at seal page marks
kept seal page (NotSealed _ _) marks = marked FoundOther page marks

-- A check peeks, and keeps what it found.
abbrev pub checked : CacheNow → ℕ → Seal → Result Check PagerFault → List Marks → List Marks
checked cache page seal (Ok check) marks = kept seal page check (peeked cache page marks)
checked cache page seal (Err _) marks = peeked cache page marks

-- A bring reads a page that is not at hand into the spare buffer.
abbrev pub filled : CacheNow → ℕ → List Marks → List Marks
filled cache page marks = if is_some (at_hand cache page) then marks else spare_gone cache marks

-- Then that page enters the list, and the victim is gone.
abbrev pub brought : CacheNow → ℕ → Result (Option ℕ) PagerFault → List Marks → List Marks
brought cache page (Ok left) marks =
    if is_some (resident_page cache page) then marks else marked_if Goes left (marked Enters page (filled cache page marks))
brought cache page (Err _) marks = filled cache page marks

-- A write uses the spare buffer. Where it succeeds the page has changed.
abbrev pub written : CacheNow → ℕ → Result (Unit {0}) PagerFault → List Marks → List Marks
written cache page (Ok _) marks = marked Changed page (spare_gone cache marks)
written cache page (Err _) marks = spare_gone cache marks

-- An evicted page is gone.
abbrev pub evicted : ℕ → Result Bool PagerFault → List Marks → List Marks
evicted page (Ok true) marks = marked Goes page marks
evicted page (Ok false) marks = marks
evicted page (Err _) marks = marks

-- Of a page that is not resident nothing says that a writer maps it.
abbrev pub cleared : CacheNow → ℕ → List Marks → List Marks
cleared cache page marks = if is_some (resident_page cache page) then marked ClearsWritable page marks else marks
