-- What reading a range of the file's bytes does, page by page.
use Rattle.std.specs.Prelude.{ℕ, ◌≡◌, ◌⊎◌, ◌+◌, ◌-◌, ◌*◌, ◌/◌, ◌<◌, ◌≤◌, not, true, false, List, [], ◌∷◌, ◌++◌, filter, length, map, take, drop, min, replicate, Option, Some, None, is_some, unwrap_or, option_map, slice_set}
use Rattle.std.specs.List.{concat, range_with_len}
use Rattle.pg_bytes.specs.Counts.{Rose}
use Rattle.pg_bytes.specs.declared.fields.Range.{Range}
use Rattle.pg_digest.specs.Kinds.{Hash}
use Rattle.pg_io.specs.declared.pager_call.PagerCall.TheVariants.{Reads}
use Rattle.pg_io.specs.Pager.{MadeCalls}
use Rattle.cs_policy.specs.declared.file.FileReply.{FileReply}
use Rattle.cs_policy.specs.declared.file.FileReply.TheVariants as reply
use Rattle.cs_policy.specs.declared.layout.SliceSeat.TheVariants as seat
use Rattle.pg_cache.specs.Cache.{CacheNow, resident_page, at_hand, contents, IsSound, KeepsSizes}
use Rattle.pg_cache.specs.Finds.{Finds}
use Rattle.pg_pages.specs.Marks.{blank, marks_of}
use Rattle.pg_pages.specs.Pages.{PagesNow, IsMarked}
use Rattle.pg_plain.specs.Calls.{seat_of, signature_calls}
use Rattle.pg_plain.specs.Steps.{read_signature}
use Rattle.pg_object.specs.declared.signatures.Unsigned.{Unsigned}
use Rattle.pg_object.specs.declared.signatures.Unsigned.TheVariants.{NoSlices, NoSlice, NoImage}
use Rattle.pg_object.specs.Object.{ObjectNow, seen}
use Rattle.pg_object.specs.PagerCalls.{Called, ReadsAfter}
use Rattle.pg_object.specs.Writes.{end_reached}

-- ---- where a signature lies

-- The slice of this number is signed, and its signature is this range of the file.
pub record HasSignature (now : ObjectNow) (slice : ℕ) (range : Range) : Type 0 where
  pub signed : Range
  pub seat : seat_of (seen now []) slice ≡ Some (seat.Signed signed range)
  pub within : range.at + range.len ≤ now.length

-- There is no such slice, or it is not signed, which is answered without a pager call.
pub record HasNoSignature (now : ObjectNow) (slice : ℕ) (answer : FileReply) : Type 0 where
  pub answers : (pages : List (List ℕ)) (failed : Option ℕ) → answer ≡ read_signature (seen now pages) slice failed
  pub uncalled : (pages : List (List ℕ)) → signature_calls (seen now pages) (seat_of (seen now pages) slice) ≡ []

-- the answer
abbrev pub unsigned_reply : Unsigned → FileReply
unsigned_reply (NoSlices refusal) = reply.NoSlices refusal
unsigned_reply (NoSlice count) = reply.NoSlice count
unsigned_reply (NoImage refusal) = reply.NoImage refusal

-- ---- the pages of a range

-- the bytes of a page that is at hand
abbrev pub hand_bytes : CacheNow → ℕ → List ℕ
hand_bytes cache page = unwrap_or (option_map (λ held. held.bytes) (at_hand cache page)) []

-- those of a page's bytes that lie in a range
abbrev pub range_on : ℕ → ℕ → ℕ → ℕ → List ℕ → List ℕ
range_on size at count page bytes =
    take (min (count - (page * size - at)) (size - (at - page * size))) (drop (at - page * size) bytes)

-- those before this page that are not resident: each is read once
abbrev pub unread_before : CacheNow → ℕ → ℕ → List ℕ
unread_before cache at page =
    filter (λ q. not (is_some (resident_page cache q))) (range_with_len (at / cache.pager.page_size) (page - at / cache.pager.page_size))

-- Looking at pages leaves the list, and forgets at most what was found of pages that are not resident.
pub record OnlyLooks (hash : Hash) (old new : PagesNow) : Type 0 where
  pub held : new.cache.held ≡ old.cache.held
  pub content : contents new.cache ≡ contents old.cache
  pub marks : (page : ℕ) → (marks_of new.marks page ≡ marks_of old.marks page) ⊎ ((resident_page old.cache page ≡ None) × (marks_of new.marks page ≡ blank))
  pub calls : new.calls ≡ old.calls
  pub sizes : KeepsSizes old.cache new.cache
  pub sound : IsSound new.cache
  pub marked : IsMarked hash new.cache new.marks

-- These may be the bytes of a page, before it was looked at and afterwards.
pub record FindsPage (old : CacheNow) (page : ℕ) (bytes : List ℕ) (new : CacheNow) : Type 0 where
  pub before : (pages : List (List ℕ)) → Finds old pages → Finds old (slice_set pages page bytes)
  pub after : (pages : List (List ℕ)) → Finds old pages → Finds new (slice_set pages page bytes)
  pub whole : length bytes ≡ old.pager.page_size

-- The bytes of the range that lie before this page were read, and no read failed.
pub record ReadBefore (hash : Hash) (old : PagesNow) (at count page : ℕ) (bytes : List ℕ) (new : PagesNow) : Type 0 where
  -- the bytes of all pages, as the reads found them
  pub pages : List (List ℕ)
  pub before : Finds old.cache pages
  pub after : Finds new.cache pages
  pub read : bytes ≡ take (min count (page * old.cache.pager.page_size - at)) (drop at (concat pages))
  pub looks : OnlyLooks hash old new
  pub made : MadeCalls old.cache.pager (replicate (length (unread_before old.cache at page)) false) new.cache.pager
  pub called : Called old.cache.pager (map Reads (unread_before old.cache at page)) new.cache.pager
  pub reads : ReadsAfter (length (unread_before old.cache at page)) old.cache.pager.reads new.cache.pager.reads
  pub faults : new.cache.pager.faults ≡ old.cache.pager.faults

-- The read of this page failed, and none before it.
pub record ReadFailed (hash : Hash) (old : PagesNow) (at count page : ℕ) (new : PagesNow) : Type 0 where
  pub pages : List (List ℕ)
  pub before : Finds old.cache pages
  pub after : Finds new.cache pages
  pub looks : OnlyLooks hash old new
  pub made : MadeCalls old.cache.pager (replicate (length (unread_before old.cache at page)) false ++ true ∷ []) new.cache.pager
  pub called : Called old.cache.pager (map Reads (unread_before old.cache at page) ++ Reads page ∷ []) new.cache.pager
  pub reads : ReadsAfter (length (unread_before old.cache at page) + 1) old.cache.pager.reads new.cache.pager.reads
  pub faults : Rose old.cache.pager.faults new.cache.pager.faults
  pub unread : resident_page old.cache page ≡ None
  pub first : at / old.cache.pager.page_size ≤ page
  pub last : page < end_reached old.cache.pager.page_size at count
