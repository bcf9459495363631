-- What each pager call of an event is: a read of a page, or a write of one.
--
-- The pages of these calls, in their order, are those of `page_calls`.
use Rattle.std.specs.Prelude.{ℕ, ◌≡◌, ◌+◌, ◌-◌, ◌^◌, ◌≤◌, ◌||◌, min, nat_lt, Bool, true, false, List, [], ◌∷◌, ◌++◌, length, map, filter, take, if◌then◌else◌}
use Rattle.std.specs.List.{flat_map}
use Rattle.pg_digest.specs.Kinds.{Hash}
use Rattle.cs_policy.specs.Data.{data_bytes}
use Rattle.cs_policy.specs.declared.file.FileEvent.{FileEvent}
use Rattle.cs_policy.specs.declared.file.FileEvent.TheVariants as event
use Rattle.pg_io.specs.declared.pager_call.PagerCall.{PagerCall}
use Rattle.pg_io.specs.declared.pager_call.PagerCall.TheVariants.{Reads, Writes}
use Rattle.pg_io.specs.Pager.{PagerNow}
use Rattle.pg_plain.specs.PlainFile.{PlainFile, is_resident}
use Rattle.pg_plain.specs.Calls.{reached, is_whole, page_calls, calls_made}

abbrev pub called_page : PagerCall → ℕ
called_page (Reads page) = page
called_page (Writes page) = page

abbrev pub is_read : PagerCall → Bool
is_read (Reads page) = true
is_read (Writes page) = false

-- ---- each event

-- of a page that data reach: one that is resident or that the data cover is written, and another is read and then written
abbrev pub reached_calls : Bool → ℕ → List PagerCall
reached_calls true page = Writes page ∷ []
reached_calls false page = Reads page ∷ Writes page ∷ []

abbrev pub calls_for_data : PlainFile → ℕ → ℕ → List PagerCall
calls_for_data file at count =
    if nat_lt file.length (at + count) then []
    else flat_map (λ page. reached_calls (is_resident file page || is_whole file.page_size at count page) page) (reached file.page_size at count)

-- of a fault: the page that was asked for is read, and then a page that leaves for it is written
abbrev pub calls_of_fault : List ℕ → List PagerCall
calls_of_fault [] = []
calls_of_fault (page ∷ leaving) = Reads page ∷ map Writes leaving

-- A signature is read, and a page that is evicted is written. Other events make no call.
abbrev pub pager_calls : Hash → PlainFile → FileEvent → List PagerCall
pager_calls hash file (event.ReadSignature slice) = map Reads (page_calls hash file (event.ReadSignature slice))
pager_calls hash file (event.AddBlob slice cdhash read lookup) = []
pager_calls hash file (event.RefuseBlob read refusal) = []
pager_calls hash file (event.Write at piece) = calls_for_data file at (length (data_bytes piece))
pager_calls hash file (event.AddRegion region insert) = []
pager_calls hash file (event.DropRegion id) = []
pager_calls hash file (event.DropPid pid) = []
pager_calls hash file (event.Enter id page access flags resolve) = calls_of_fault (page_calls hash file (event.Enter id page access flags resolve))
pager_calls hash file (event.Store id page at bytes resolve) = []
pager_calls hash file (event.Load id page at count resolve) = []
pager_calls hash file (event.Fetch id page at count resolve) = []
pager_calls hash file (event.Evict page) = map Writes (page_calls hash file (event.Evict page))

-- ---- the calls that are made

-- the calls that an event makes, by its outcome: none behind one that failed
abbrev pub calls_done : Hash → PlainFile → FileEvent → ℕ → List PagerCall
calls_done hash file e outcome =
    take (calls_made outcome (length (page_calls hash file e))) (pager_calls hash file e)

-- the pager made just these calls, one after another
abbrev pub Called : PagerNow → List PagerCall → PagerNow → Type 0
Called old calls new = new.calls ≡ old.calls ++ calls

-- ---- reads

-- how many of some calls are reads
abbrev pub reads_of : List PagerCall → ℕ
reads_of calls = length (filter is_read calls)

-- how many reads an event makes, by its outcome
abbrev pub reads_made : Hash → PlainFile → FileEvent → ℕ → ℕ
reads_made hash file e outcome = reads_of (calls_done hash file e outcome)

-- A pager's count of reads after so many of them. It never falls, rises at least by one for each up to 2 ^ 64 - 1, and
-- stays where there was none.
pub record ReadsAfter (reads before now : ℕ) : Type 0 where
  pub later : before ≤ now
  pub counted : min (before + reads) (2 ^ 64 - 1) ≤ now
  pub none : reads ≡ 0 → now ≡ before
