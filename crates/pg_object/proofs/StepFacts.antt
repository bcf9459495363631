-- One page more of a write.
use Rattle.std.proofs.Common.{◌≡◌, ℕ, zero, suc, ◌+◌, ◌-◌, ◌*◌, ◌/◌, ◌<◌, ◌≤◌, ◌==◌, Bool, true, false, List, [], ◌∷◌, ◌++◌, length, map, take, drop, replicate, Option, Some, None, refl, sym, ap, subst, ◌∙◌, arith, inl, inr, length-append}
use Rattle.std.specs.Prelude.{◌||◌, ◌&&◌, ◌⊎◌, IsTrue, min, nat_le, IfSome, MatchOption, MatchBool, Result, Ok, Err, is_err, is_some, slice_get, if◌then◌else◌}
use Rattle.std.specs.List.{range_with_len, flat_map}
use Rattle.std.proofs.lemmas.Grind.{common_steps, flat_map-append}
use Rattle.std.proofs.lemmas.Bool.{false≢true}
use Rattle.std.proofs.lemmas.List.{replicate-append-replicate, append-nil}
use Rattle.pg_bytes.specs.Counts.{Rose}
use Rattle.pg_bytes.specs.PageSize.{is_page_size}
use Rattle.pg_digest.specs.Kinds.{Hash}
use Rattle.pg_io.specs.PageBytes.{written_over}
use Rattle.pg_io.specs.Pager.{MadeCalls}
use Rattle.pg_io.proofs.CallLaws.{no_calls, calls_made}
use Rattle.pg_cache.specs.Held.{Held, find_held}
use Rattle.pg_cache.specs.Cache.{CacheNow, resident_page, IsSound, KeepsSizes}
use Rattle.pg_cache.specs.Cache as cache
use Rattle.pg_cache.specs.Finds.{Finds}
use Rattle.pg_cache.specs.Gives.{ChangesPage, rewritten, WriteGives}
use Rattle.pg_cache.specs.Gives as gives
use Rattle.pg_cache.specs.Steps.{ReadsSpare, WritesThrough, ReadsAndWrites, Writes}
use Rattle.pg_cache.specs.declared.fault.PagerFault.{PagerFault}
use Rattle.pg_cache.proofs.Laws.{write_finds, write_failed_finds}
use Rattle.pg_cache.proofs.MadeLaws.{Unread, ReadAndWritten, write_once_made, write_part_made}
use Rattle.pg_cache.proofs.GiveFacts.{sizes_both}
use Rattle.pg_pages.specs.Marks.{Marks, marks_of}
use Rattle.pg_pages.specs.MarkSteps.{spare_gone, written}
use Rattle.pg_pages.specs.Pages.{PagesNow, IsMarked}
use Rattle.pg_plain.specs.PlainFile.{Resident}
use Rattle.pg_plain.specs.Calls.{is_whole}
use Rattle.pg_plain.specs.Steps.{is_reached, written_pages, cleaned}
use Rattle.pg_io.specs.declared.pager_call.PagerCall.{PagerCall}
use Rattle.pg_cache.proofs.CalledLaws.{called_none, called_both}
use Rattle.std.proofs.Math.Seq.{take-append-add}
use Rattle.pg_object.specs.Object.{resident_of}
use Rattle.pg_object.specs.Writes.{offset_on, part_on, part_before, IsLess, Wrote, calls_on, calls_before, kinds_on, kinds_before, Went, Stopped, end_reached, WroteBefore, WroteAll, WroteSoFar}
use Rattle.pg_object.specs.PagerCalls.{reached_calls, Called, reads_of, ReadsAfter}
use Rattle.pg_object.proofs.PagerCallFacts.{no_reads, one_read, reads_both, reads_are, take_whole, reads_append, reads_front}
use Rattle.pg_object.proofs.SizeFacts.{each_size}
use Rattle.pg_object.proofs.ReachFacts.{Reaches, reached_from, reached_here, not_reached, reached_other}
use Rattle.pg_object.proofs.ContentFacts.{nothing_written, written_next}
use Rattle.pg_object.proofs.KeepFacts.{some_map}
use Rattle.pg_object.proofs.MarkFacts.{changed, less_none, marked_here, marked_other, length-gone, less_refl, less_both, gone_other, written_less}

-- ---- residents

abbrev plain : cache.Resident → Resident
plain r = record { page = r.page; dirty = r.dirty }

pub plain_residents : (held : List Held) → map plain (map cache.resident_of held) ≡ map resident_of held
plain_residents [] = refl
plain_residents (h ∷ held) = ap (λ rest. resident_of h ∷ rest) (plain_residents held)

-- the resident page of this number is clean
abbrev clean_at : ℕ → Resident → Resident
clean_at page r = if r.page == page then record r { dirty = false } else r

plain_marked : (page : ℕ) (rs : List cache.Resident) → map plain (gives.marked page false rs) ≡ map (clean_at page) (map plain rs)
plain_marked page [] = refl
plain_marked page (r ∷ rs) = ap (λ x. x ∷ map plain (gives.marked page false rs)) (by_test (r.page == page)) ∙ ap (λ rest. clean_at page (plain r) ∷ rest) (plain_marked page rs)
  where
    by_test : (b : Bool) → plain (if b then record r { dirty = false } else r) ≡ (if b then record (plain r) { dirty = false } else plain r)
    by_test true = refl
    by_test false = refl

-- ---- what a page needs

iff : (a b : Bool) → (a ≡ true → b ≡ true) → (b ≡ true → a ≡ true) → a ≡ b
iff true b there back = sym (there refl)
iff false true there back = back refl
iff false false there back = refl

-- the data are a whole page where their part on it is as long as one
whole_numbers : (p size at len m : ℕ) → 0 < size → p < at + len → m ≡ min (p + size - (at + (p - at))) (len - (p - at)) → (nat_le at p && nat_le (p + size) (at + len)) ≡ nat_le size m
whole_numbers p size at len m some begins e = iff (nat_le at p && nat_le (p + size) (at + len)) (nat_le size m) (λ f. grind (arith, common_steps, f, e)) (λ f. grind (arith, common_steps, f, e, some, begins))

module _ (size at : ℕ) (bytes : List ℕ) (page : ℕ) (known : IsTrue (is_page_size size)) (reaches : Reaches size at (length bytes) page) where
  abbrev before : List ℕ
  before = part_before size at bytes page

  abbrev next : List ℕ
  next = part_before size at bytes (page + 1)

  clean_next : (rs : List Resident) → map (clean_at page) (map (cleaned size at (length before)) rs) ≡ map (cleaned size at (length next)) rs
  clean_next [] = refl
  clean_next (r ∷ rs) = ap (λ x. x ∷ map (clean_at page) (map (cleaned size at (length before)) rs)) (by_test (r.page == page) refl) ∙ ap (λ rest. cleaned size at (length next) r ∷ rest) (clean_next rs)
    where
      number : (b : Bool) → (if b then record r { dirty = false } else r).page ≡ r.page
      number true = refl
      number false = refl

      by_test : (b : Bool) → (r.page == page) ≡ b → clean_at page (cleaned size at (length before) r) ≡ cleaned size at (length next) r
      by_test true e =
          let same : r.page ≡ page = grind (arith, common_steps, e) in
          let now : is_reached size at (length next) r.page ≡ true = ap (is_reached size at (length next)) same ∙ reached_here size at bytes page known reaches in
          let was : is_reached size at (length before) r.page ≡ false = ap (is_reached size at (length before)) same ∙ not_reached size at bytes page known reaches in
          ap (λ b. clean_at page (if b then record r { dirty = false } else r)) was
          ∙ ap (λ b. if b then record r { dirty = false } else r) e
          ∙ sym (ap (λ b. if b then record r { dirty = false } else r) now)
      by_test false e =
          ap (λ b. if b then record (cleaned size at (length before) r) { dirty = false } else cleaned size at (length before) r)
          (ap (λ n. n == page) (number (is_reached size at (length before) r.page)) ∙ e)
          ∙ ap (λ b. if b then record r { dirty = false } else r) (sym (reached_other size at bytes page known reaches r.page e))

  fits_on : offset_on size at page + length (part_on size at bytes page) ≤ size
  fits_on =
      let few : length (take (page * size + size - (at + (page * size - at))) (drop (page * size - at) bytes)) ≤ page * size + size - (at + (page * size - at)) = grind (arith, common_steps) in
      let ends = reaches.1 in
      omega arith

  -- the data are the whole page where their part is as long as one
  whole_is : is_whole size at (length bytes) page ≡ nat_le size (length (part_on size at bytes page))
  whole_is = whole_numbers (page * size) size at (length bytes) (length (part_on size at bytes page)) (each_size (λ s. 0 < s) size known (omega arith) (omega arith)) reaches.2
      (grind (arith, common_steps))

-- ---- pager calls

range_more : (first n : ℕ) → range_with_len first (suc n) ≡ range_with_len first n ++ (first + n) ∷ []
range_more first zero = ap (λ m. m ∷ []) {x = first} {y = first + 0} (omega arith)
range_more first (suc n) = ap (λ rest. first ∷ rest) (range_more (first + 1) n ∙ ap (λ m. range_with_len (first + 1) n ++ m ∷ []) {x = first + 1 + n} {y = first + suc n} (omega arith))

pages_next : {X : Type 0} (f : ℕ → List X) (first page : ℕ) → first ≤ page → flat_map f (range_with_len first (page + 1 - first)) ≡ flat_map f (range_with_len first (page - first)) ++ f page
pages_next f first page later =
    ap (λ n. flat_map f (range_with_len first n)) {x = page + 1 - first} {y = suc (page - first)} (omega arith)
    ∙ ap (flat_map f) (range_more first (page - first))
    ∙ flat_map-append f (range_with_len first (page - first)) ((first + (page - first)) ∷ [])
    ∙ ap (λ n. flat_map f (range_with_len first (page - first)) ++ flat_map f (n ∷ [])) {x = first + (page - first)} {y = page} (omega arith)
    ∙ ap (λ l. flat_map f (range_with_len first (page - first)) ++ l) (append-nil (f page))

pub calls_next : (c : CacheNow) (at count page : ℕ) → at / c.pager.page_size ≤ page → calls_before c at count (page + 1) ≡ calls_before c at count page ++ calls_on c at count page
calls_next c at count page later = pages_next (calls_on c at count) (at / c.pager.page_size) page later

pub kinds_next : (c : CacheNow) (at count page : ℕ) → at / c.pager.page_size ≤ page → kinds_before c at count (page + 1) ≡ kinds_before c at count page ++ kinds_on c at count page
kinds_next c at count page later = pages_next (kinds_on c at count) (at / c.pager.page_size) page later

-- they are as many
kinds_one : (c : CacheNow) (at count page : ℕ) → length (kinds_on c at count page) ≡ length (calls_on c at count page)
kinds_one c at count page = by_test (is_some (resident_page c page) || is_whole c.pager.page_size at count page)
  where
    by_test : (b : Bool) → length (reached_calls b page) ≡ length (if b then page ∷ [] else page ∷ page ∷ [])
    by_test true = refl
    by_test false = refl

kinds_all : (c : CacheNow) (at count : ℕ) (pages : List ℕ) → length (flat_map (kinds_on c at count) pages) ≡ length (flat_map (calls_on c at count) pages)
kinds_all c at count [] = refl
kinds_all c at count (page ∷ pages) =
    length-append (kinds_on c at count page) (flat_map (kinds_on c at count) pages)
    ∙ ap (λ n. n + length (flat_map (kinds_on c at count) pages)) (kinds_one c at count page)
    ∙ ap (λ n. length (calls_on c at count page) + n) (kinds_all c at count pages)
    ∙ sym (length-append (calls_on c at count page) (flat_map (calls_on c at count) pages))

pub kinds_many : (c : CacheNow) (at count page : ℕ) → length (kinds_before c at count page) ≡ length (calls_before c at count page)
kinds_many c at count page = kinds_all c at count (range_with_len (at / c.pager.page_size) (page - at / c.pager.page_size))

-- the calls for a page, by what the cache did: which of them failed
pub record Made (old : CacheNow) (at count page : ℕ) (failed : Bool) (new : CacheNow) : Type 0 where
  -- how many succeeded before the last
  pub before : ℕ
  pub made : MadeCalls old.pager (replicate before false ++ failed ∷ []) new.pager
  pub called : Called old.pager (take (suc before) (kinds_on old at count page)) new.pager
  pub reads : ReadsAfter (reads_of (take (suc before) (kinds_on old at count page))) old.pager.reads new.pager.reads
  -- a call that failed is one of these, and where none did all were made
  pub here : slice_get (calls_on old at count page) before ≡ Some page
  pub all : failed ≡ false → length (calls_on old at count page) ≡ suc before

-- a part of a page that is not resident: one read, whether it failed or the write behind it
part_reads : (old new : CacheNow) (page at : ℕ) (bytes : List ℕ) (failed : Bool) → ReadsAndWrites old page at bytes failed new → ReadsAfter 1 old.pager.reads new.pager.reads
part_reads old new page at bytes failed both = by_unread both.unread both.filled both.reads both.writes
  where
    by_unread : (unread : Bool) (filled : CacheNow) → ReadsSpare old page unread filled
        → MatchBool unread ((failed ≡ true) × (new ≡ filled)) (IfSome filled.spare (λ held. WritesThrough filled page (written_over held.bytes at bytes) failed new))
        → ReadsAfter 1 old.pager.reads new.pager.reads
    by_unread true filled reads ends = one_read old.pager.reads new.pager.reads (subst (λ (c : CacheNow). Rose old.pager.reads c.pager.reads) (sym ends.1) reads.read.reads)
    by_unread false filled reads writes =
        let through = subst (λ o. IfSome o (λ (held : Held). WritesThrough filled page (written_over held.bytes at bytes) failed new)) reads.spare writes in
        one_read old.pager.reads new.pager.reads (subst (λ n. Rose old.pager.reads n) (sym through.write.reads) reads.read.reads)

made_calls : (old new : CacheNow) (at count page part_at : ℕ) (part : List ℕ) (failed : Bool)
    → is_whole old.pager.page_size at count page ≡ nat_le old.pager.page_size (length part) → Writes old page part_at part failed new → Made old at count page failed new
made_calls old new at count page part_at part failed whole writes = by_held (resident_page old page) refl writes
  where
    once : (bytes : List ℕ) → (is_some (resident_page old page) || is_whole old.pager.page_size at count page) ≡ true → WritesThrough old page bytes failed new → Made old at count page failed new
    once bytes e through = record {
      before = 0;
      made = write_once_made old new page bytes failed through;
      called = subst (λ b. Called old.pager (take 1 (reached_calls b page)) new.pager) (sym e) through.write.calls;
      reads = subst (λ b. ReadsAfter (reads_of (take 1 (reached_calls b page))) old.pager.reads new.pager.reads) (sym e) (no_reads old.pager.reads new.pager.reads through.write.reads);
      here = ap (λ b. slice_get (if b then page ∷ [] else page ∷ page ∷ []) 0) e;
      all = λ f. ap (λ b. length (if b then page ∷ [] else page ∷ page ∷ [])) e;
    }

    twice : (is_some (resident_page old page) || is_whole old.pager.page_size at count page) ≡ false → ReadsAndWrites old page part_at part failed new → Made old at count page failed new
    twice e both = by_made (write_part_made old new page part_at part failed both)
      where
        by_made : Unread old page failed new ⊎ ReadAndWritten old page failed new → Made old at count page failed new
        by_made (inl unread) = record {
          before = 0;
          made = subst (λ b. MadeCalls old.pager (b ∷ []) new.pager) (sym unread.0) unread.1.0;
          called = subst (λ b. Called old.pager (take 1 (reached_calls b page)) new.pager) (sym e) unread.1.1;
          reads = subst (λ b. ReadsAfter (reads_of (take 1 (reached_calls b page))) old.pager.reads new.pager.reads) (sym e) (part_reads old new page part_at part failed both);
          here = ap (λ b. slice_get (if b then page ∷ [] else page ∷ page ∷ []) 0) e;
          all = λ f. absurd (grind (arith, common_steps, f, unread.0));
        }
        by_made (inr done) = record {
          before = 1;
          made = done.0;
          called = subst (λ b. Called old.pager (take 2 (reached_calls b page)) new.pager) (sym e) done.1;
          reads = subst (λ b. ReadsAfter (reads_of (take 2 (reached_calls b page))) old.pager.reads new.pager.reads) (sym e) (part_reads old new page part_at part failed both);
          here = ap (λ b. slice_get (if b then page ∷ [] else page ∷ page ∷ []) 1) e;
          all = λ f. ap (λ b. length (if b then page ∷ [] else page ∷ page ∷ [])) e;
        }

    by_held : (o : Option Held) → resident_page old page ≡ o
        → MatchOption o (MatchBool (nat_le old.pager.page_size (length part)) (WritesThrough old page part failed new) (ReadsAndWrites old page part_at part failed new))
        (λ held. WritesThrough old page (written_over held.bytes part_at part) failed new) → Made old at count page failed new
    by_held (Some held) e w = once (written_over held.bytes part_at part) (ap (λ o. is_some o || is_whole old.pager.page_size at count page) e) w
    by_held None e w = by_long (nat_le old.pager.page_size (length part)) refl w
      where
        by_long : (b : Bool) → nat_le old.pager.page_size (length part) ≡ b → MatchBool b (WritesThrough old page part failed new) (ReadsAndWrites old page part_at part failed new) → Made old at count page failed new
        by_long true f w = once part (ap (λ o. is_some o || is_whole old.pager.page_size at count page) e ∙ whole ∙ f) w
        by_long false f w = twice (ap (λ o. is_some o || is_whole old.pager.page_size at count page) e ∙ whole ∙ f) w

-- ---- the pages before this one, and this one

slice_behind : {X : Type 0} (xs ys : List X) (i : ℕ) → slice_get (xs ++ ys) (length xs + i) ≡ slice_get ys i
slice_behind [] ys i = ap (slice_get ys) {x = 0 + i} {y = i} (omega arith)
slice_behind (x ∷ xs) ys i = ap (slice_get (x ∷ xs ++ ys)) {x = suc (length xs) + i} {y = suc (length xs + i)} (omega arith) ∙ slice_behind xs ys i

append_both : {X : Type 0} (xs ys zs : List X) → (xs ++ ys) ++ zs ≡ xs ++ (ys ++ zs)
append_both [] ys zs = refl
append_both (x ∷ xs) ys zs = ap (λ rest. x ∷ rest) (append_both xs ys zs)

pub starts_wrote : (hash : Hash) (old : PagesNow) (at : ℕ) (bytes : List ℕ) → IsTrue (is_page_size old.cache.pager.page_size) → IsSound old.cache → IsMarked hash old.cache old.marks
    → WroteSoFar hash old at bytes (at / old.cache.pager.page_size) old
starts_wrote hash old at bytes known sound marked = record {
  wrote = subst (λ piece. Wrote hash old at piece old) (sym nothing) (record {
    found = λ pages finds. subst (Finds old.cache) (sym (nothing_written old.cache.pager.page_size at 0 pages)) finds;
    residents = all_stay (map resident_of old.cache.held);
    resident = λ page. refl;
    less = λ page. less_refl (marks_of old.marks page);
    changed = λ page e. absurd (grind (arith, common_steps, e));
    others = λ page e f. refl;
    calls = refl;
    sizes = record { limit = refl; pages = refl; page_size = refl };
    sound = sound;
    marked = marked;
  });
  went = record {
    made = subst (λ n. MadeCalls old.cache.pager (replicate (length (flat_map (calls_on old.cache at (length bytes)) (range_with_len (at / old.cache.pager.page_size) n))) false) old.cache.pager)
        {x = 0} {y = at / old.cache.pager.page_size - at / old.cache.pager.page_size} (omega arith) (no_calls old.cache.pager);
    called = subst (λ n. Called old.cache.pager (flat_map (kinds_on old.cache at (length bytes)) (range_with_len (at / old.cache.pager.page_size) n)) old.cache.pager)
        {x = 0} {y = at / old.cache.pager.page_size - at / old.cache.pager.page_size} (omega arith) (called_none old.cache.pager);
    reads = subst (λ n. ReadsAfter (reads_of (flat_map (kinds_on old.cache at (length bytes)) (range_with_len (at / old.cache.pager.page_size) n))) old.cache.pager.reads old.cache.pager.reads)
        {x = 0} {y = at / old.cache.pager.page_size - at / old.cache.pager.page_size} (omega arith) (no_reads old.cache.pager.reads old.cache.pager.reads refl);
    faults = refl;
  };
}
  where
    nothing : part_before old.cache.pager.page_size at bytes (at / old.cache.pager.page_size) ≡ []
    nothing = each_size (λ s. take (at / s * s - at) bytes ≡ []) old.cache.pager.page_size known
        (ap (λ n. take n bytes) {x = at / 4096 * 4096 - at} {y = 0} (omega arith)) (ap (λ n. take n bytes) {x = at / 16384 * 16384 - at} {y = 0} (omega arith))

    all_stay : (rs : List Resident) → rs ≡ map (cleaned old.cache.pager.page_size at 0) rs
    all_stay [] = refl
    all_stay (r ∷ rs) = ap (λ rest. r ∷ rest) (all_stay rs)

same_number : (q page : ℕ) → (q == page) ≡ true → q ≡ page
same_number q page e = grind (arith, common_steps, e)

-- what stands and what was called before a page, and what the write of that page did
module _ (hash : Hash) (old mid new : PagesNow) (at : ℕ) (bytes : List ℕ) (page : ℕ) (known : IsTrue (is_page_size old.cache.pager.page_size))
    (reaches : Reaches old.cache.pager.page_size at (length bytes) page) (inside : page < old.cache.pager.pages)
    (so_far : WroteSoFar hash old at bytes page mid) (marked : IsMarked hash new.cache new.marks) (calls : new.calls ≡ mid.calls) where
  later : at / old.cache.pager.page_size ≤ page
  later = each_size (λ s. Reaches s at (length bytes) page → at / s ≤ page) old.cache.pager.page_size known (λ r. let ends = r.1 in omega arith) (λ r. let ends = r.1 in omega arith) reaches

  resident_on : (c : CacheNow) → KeepsSizes old.cache c → ((q : ℕ) → is_some (resident_page c q) ≡ is_some (resident_page old.cache q)) → calls_on c at (length bytes) page ≡ calls_on old.cache at (length bytes) page
  resident_on c sizes same =
      ap (λ b. if b || is_whole c.pager.page_size at (length bytes) page then page ∷ [] else page ∷ page ∷ []) (same page)
      ∙ ap (λ s. if is_some (resident_page old.cache page) || is_whole s at (length bytes) page then page ∷ [] else page ∷ page ∷ []) sizes.page_size

  kinds_still : kinds_on mid.cache at (length bytes) page ≡ kinds_on old.cache at (length bytes) page
  kinds_still =
      ap (λ b. reached_calls (b || is_whole mid.cache.pager.page_size at (length bytes) page) page) (so_far.wrote.resident page)
      ∙ ap (λ s. reached_calls (is_some (resident_page old.cache page) || is_whole s at (length bytes) page) page) so_far.wrote.sizes.page_size

  -- the calls for the pages before, and so many for this one
  called_on : (before : ℕ) → Called mid.cache.pager (take (suc before) (kinds_on mid.cache at (length bytes) page)) new.cache.pager
      → Called old.cache.pager (kinds_before old.cache at (length bytes) page ++ take (suc before) (kinds_on old.cache at (length bytes) page)) new.cache.pager
  called_on before called = called_both old.cache.pager mid.cache.pager new.cache.pager (kinds_before old.cache at (length bytes) page) (take (suc before) (kinds_on old.cache at (length bytes) page))
      so_far.went.called (subst (λ (calls : List PagerCall). Called mid.cache.pager (take (suc before) calls) new.cache.pager) kinds_still called)

  -- the reads among them
  reads_on : (before : ℕ) → ReadsAfter (reads_of (take (suc before) (kinds_on mid.cache at (length bytes) page))) mid.cache.pager.reads new.cache.pager.reads
      → ReadsAfter (reads_of (kinds_before old.cache at (length bytes) page) + reads_of (take (suc before) (kinds_on old.cache at (length bytes) page))) old.cache.pager.reads new.cache.pager.reads
  reads_on before reads = reads_both (reads_of (kinds_before old.cache at (length bytes) page)) (reads_of (take (suc before) (kinds_on old.cache at (length bytes) page)))
      old.cache.pager.reads mid.cache.pager.reads new.cache.pager.reads so_far.went.reads
      (subst (λ (calls : List PagerCall). ReadsAfter (reads_of (take (suc before) calls)) mid.cache.pager.reads new.cache.pager.reads) kinds_still reads)

  made_of : (failed : Bool) → Writes mid.cache page (offset_on old.cache.pager.page_size at page) (part_on old.cache.pager.page_size at bytes page) failed new.cache → Made mid.cache at (length bytes) page failed new.cache
  made_of failed writes = made_calls mid.cache new.cache at (length bytes) page (offset_on old.cache.pager.page_size at page) (part_on old.cache.pager.page_size at bytes page) failed
      (subst (λ s. is_whole s at (length bytes) page ≡ nat_le s (length (part_on old.cache.pager.page_size at bytes page))) (sym so_far.wrote.sizes.page_size) (whole_is old.cache.pager.page_size at bytes page known reaches)) writes

  pub page_written : (done : Unit {0}) → WriteGives mid.cache page (offset_on old.cache.pager.page_size at page) (part_on old.cache.pager.page_size at bytes page) (Ok done) new.cache
      → new.marks ≡ written mid.cache page (Ok done) mid.marks → WroteSoFar hash old at bytes (page + 1) new
  page_written done gives marks = record { wrote = wrote; went = went (made_of false gives.steps) }
    where
      found_resident : (q : ℕ) (b : Bool) → (q == page) ≡ b → is_some (resident_page new.cache q) ≡ is_some (resident_page mid.cache q)
      found_resident q true e =
          let same : q ≡ page = same_number q page e in
          ap (λ p. is_some (resident_page new.cache p)) same ∙ ap is_some gives.found.here
          ∙ some_map (rewritten (offset_on old.cache.pager.page_size at page) (part_on old.cache.pager.page_size at bytes page)) (resident_page mid.cache page)
          ∙ ap (λ p. is_some (resident_page mid.cache p)) (sym same)
      found_resident q false e = ap is_some (gives.found.others q e)

      changed_of : (q : ℕ) (b : Bool) → (q == page) ≡ b → is_reached old.cache.pager.page_size at (length (part_before old.cache.pager.page_size at bytes (page + 1))) q ≡ true → (marks_of new.marks q).validated ≡ None
      changed_of q true e reach =
          let same : q ≡ page = same_number q page e in
          let count = so_far.wrote.marked.count in
          let pages = so_far.wrote.sizes.pages in
          let long = length-gone mid.cache mid.marks in
          ap (λ p. (marks_of new.marks p).validated) same ∙ ap (λ (ms : List Marks). (marks_of ms page).validated) marks
          ∙ ap (λ (m : Marks). m.validated) (marked_here changed page (spare_gone mid.cache mid.marks) (omega arith))
      changed_of q false e reach =
          less_none (marks_of mid.marks q) (marks_of new.marks q)
          (subst (λ (ms : List Marks). IsLess (marks_of mid.marks q) (marks_of ms q)) (sym marks) (written_less mid.cache page (Ok done) mid.marks q))
          (so_far.wrote.changed q (sym (reached_other old.cache.pager.page_size at bytes page known reaches q e) ∙ reach))

      others_of : (q : ℕ) (b : Bool) → (q == page) ≡ b → is_reached old.cache.pager.page_size at (length (part_before old.cache.pager.page_size at bytes (page + 1))) q ≡ false
          → is_some (resident_page old.cache q) ≡ true → (marks_of new.marks q).validated ≡ (marks_of old.marks q).validated
      others_of q true e apart resident =
          let same : q ≡ page = same_number q page e in
          absurd (false≢true (sym apart ∙ ap (is_reached old.cache.pager.page_size at (length (part_before old.cache.pager.page_size at bytes (page + 1)))) same ∙ reached_here old.cache.pager.page_size at bytes page known reaches))
      others_of q false e apart resident =
          ap (λ (ms : List Marks). (marks_of ms q).validated) marks
          ∙ ap (λ (m : Marks). m.validated) (marked_other changed page (spare_gone mid.cache mid.marks) q e
          ∙ gone_other mid.cache mid.marks q so_far.wrote.sound.listed (so_far.wrote.resident q ∙ resident))
          ∙ so_far.wrote.others q (sym (reached_other old.cache.pager.page_size at bytes page known reaches q e) ∙ apart) resident

      wrote : Wrote hash old at (part_before old.cache.pager.page_size at bytes (page + 1)) new
      wrote = record {
        found = λ pages finds.
            let many = finds.count in
            let fits = fits_on old.cache.pager.page_size at bytes page known reaches in
            let count = so_far.wrote.sizes.pages in
            let long = so_far.wrote.sizes.page_size in
            subst (Finds new.cache) (written_next old.cache.pager.page_size at bytes page known reaches pages (omega arith))
            (write_finds mid.cache new.cache page (offset_on old.cache.pager.page_size at page) (part_on old.cache.pager.page_size at bytes page) done
            (written_pages old.cache.pager.page_size at (part_before old.cache.pager.page_size at bytes page) 0 pages) (omega arith) (omega arith) gives (so_far.wrote.found pages finds));
        residents =
            sym (plain_residents new.cache.held) ∙ ap (map plain) gives.list ∙ plain_marked page (cache.residents mid.cache)
            ∙ ap (map (clean_at page)) (plain_residents mid.cache.held ∙ so_far.wrote.residents)
            ∙ clean_next old.cache.pager.page_size at bytes page known reaches (map resident_of old.cache.held);
        resident = λ q. found_resident q (q == page) refl ∙ so_far.wrote.resident q;
        less = λ q. less_both (marks_of old.marks q) (marks_of mid.marks q) (marks_of new.marks q) (so_far.wrote.less q)
            (subst (λ (ms : List Marks). IsLess (marks_of mid.marks q) (marks_of ms q)) (sym marks) (written_less mid.cache page (Ok done) mid.marks q));
        changed = λ q e. changed_of q (q == page) refl e;
        others = λ q e f. others_of q (q == page) refl e f;
        calls = calls ∙ so_far.wrote.calls;
        sizes = sizes_both old.cache mid.cache new.cache so_far.wrote.sizes gives.sizes;
        sound = gives.sound;
        marked = marked;
      }

      went : Made mid.cache at (length bytes) page false new.cache → Went old.cache at (length bytes) (page + 1) new.cache
      went made = record {
        made =
            let on = resident_on mid.cache so_far.wrote.sizes so_far.wrote.resident in
            let count : length (calls_before old.cache at (length bytes) (page + 1)) ≡ length (calls_before old.cache at (length bytes) page) + (made.before + 1) =
            ap length (calls_next old.cache at (length bytes) page later) ∙ length-append (calls_before old.cache at (length bytes) page) (calls_on old.cache at (length bytes) page)
            ∙ ap (λ n. length (calls_before old.cache at (length bytes) page) + n) (ap length (sym on) ∙ made.all refl ∙ omega arith) in
            subst (λ l. MadeCalls old.cache.pager l new.cache.pager)
            (ap (λ l. replicate (length (calls_before old.cache at (length bytes) page)) false ++ l) (replicate-append-replicate made.before 1 false)
            ∙ replicate-append-replicate (length (calls_before old.cache at (length bytes) page)) (made.before + 1) false ∙ ap (λ n. replicate n false) (sym count))
            (calls_made old.cache.pager mid.cache.pager new.cache.pager (replicate (length (calls_before old.cache at (length bytes) page)) false) (replicate made.before false ++ false ∷ []) so_far.went.made made.made);
        called =
            let long : length (kinds_on old.cache at (length bytes) page) ≡ suc made.before =
            kinds_one old.cache at (length bytes) page ∙ ap length (sym (resident_on mid.cache so_far.wrote.sizes so_far.wrote.resident)) ∙ made.all refl in
            subst (λ (calls : List PagerCall). Called old.cache.pager calls new.cache.pager)
            (ap (λ (calls : List PagerCall). kinds_before old.cache at (length bytes) page ++ calls) (take_whole (suc made.before) (kinds_on old.cache at (length bytes) page) (omega arith))
            ∙ sym (kinds_next old.cache at (length bytes) page later))
            (called_on made.before made.called);
        reads =
            let long : length (kinds_on old.cache at (length bytes) page) ≡ suc made.before =
            kinds_one old.cache at (length bytes) page ∙ ap length (sym (resident_on mid.cache so_far.wrote.sizes so_far.wrote.resident)) ∙ made.all refl in
            reads_are (reads_of (kinds_before old.cache at (length bytes) page) + reads_of (take (suc made.before) (kinds_on old.cache at (length bytes) page)))
            (reads_of (kinds_before old.cache at (length bytes) (page + 1))) old.cache.pager.reads new.cache.pager.reads
            (ap (λ (calls : List PagerCall). reads_of (kinds_before old.cache at (length bytes) page) + reads_of calls) (take_whole (suc made.before) (kinds_on old.cache at (length bytes) page) (omega arith))
            ∙ sym (ap reads_of (kinds_next old.cache at (length bytes) page later) ∙ reads_append (kinds_before old.cache at (length bytes) page) (kinds_on old.cache at (length bytes) page)))
            (reads_on made.before made.reads);
        faults = gives.faults ∙ so_far.went.faults;
      }

  pub page_failed : (fault : PagerFault) → WriteGives mid.cache page (offset_on old.cache.pager.page_size at page) (part_on old.cache.pager.page_size at bytes page) (Err fault) new.cache
      → new.marks ≡ written mid.cache page (Err fault) mid.marks → WroteBefore hash old at bytes page new
  page_failed fault gives marks = record {
    wrote = record {
      found = λ pages finds. write_failed_finds mid.cache new.cache page (offset_on old.cache.pager.page_size at page) (part_on old.cache.pager.page_size at bytes page) fault
          (written_pages old.cache.pager.page_size at (part_before old.cache.pager.page_size at bytes page) 0 pages) gives (so_far.wrote.found pages finds);
      residents = ap (map resident_of) gives.unchanged ∙ so_far.wrote.residents;
      resident = λ q. ap (λ (held : List Held). is_some (find_held held q)) gives.unchanged ∙ so_far.wrote.resident q;
      less = λ q. less_both (marks_of old.marks q) (marks_of mid.marks q) (marks_of new.marks q) (so_far.wrote.less q)
          (subst (λ (ms : List Marks). IsLess (marks_of mid.marks q) (marks_of ms q)) (sym marks) (written_less mid.cache page (Err fault) mid.marks q));
      changed = λ q e. less_none (marks_of mid.marks q) (marks_of new.marks q)
          (subst (λ (ms : List Marks). IsLess (marks_of mid.marks q) (marks_of ms q)) (sym marks) (written_less mid.cache page (Err fault) mid.marks q)) (so_far.wrote.changed q e);
      others = λ q e resident.
          ap (λ (ms : List Marks). (marks_of ms q).validated) marks
          ∙ ap (λ (m : Marks). m.validated) (gone_other mid.cache mid.marks q so_far.wrote.sound.listed (so_far.wrote.resident q ∙ resident))
          ∙ so_far.wrote.others q e resident;
      calls = calls ∙ so_far.wrote.calls;
      sizes = sizes_both old.cache mid.cache new.cache so_far.wrote.sizes gives.sizes;
      sound = gives.sound;
      marked = marked;
    };
    reached = reached_from old.cache.pager.page_size at (length bytes) page known reaches;
    stopped = stopped (made_of true gives.steps);
  }
    where
      stopped : Made mid.cache at (length bytes) page true new.cache → Stopped old.cache at (length bytes) page new.cache
      stopped made =
          let on = resident_on mid.cache so_far.wrote.sizes so_far.wrote.resident in
          record {
            outcome = suc (length (calls_before old.cache at (length bytes) page) + made.before);
            made = subst (λ l. MadeCalls old.cache.pager l new.cache.pager)
                (sym (append_both (replicate (length (calls_before old.cache at (length bytes) page)) false) (replicate made.before false) (true ∷ []))
                ∙ ap (λ l. l ++ true ∷ []) (replicate-append-replicate (length (calls_before old.cache at (length bytes) page)) made.before false))
                (calls_made old.cache.pager mid.cache.pager new.cache.pager (replicate (length (calls_before old.cache at (length bytes) page)) false) (replicate made.before false ++ true ∷ []) so_far.went.made made.made);
            called =
                let long = kinds_many old.cache at (length bytes) page in
                subst (λ (calls : List PagerCall). Called old.cache.pager calls new.cache.pager)
                (sym (ap (λ n. take n (kinds_before old.cache at (length bytes) page ++ kinds_on old.cache at (length bytes) page))
                {x = suc (length (calls_before old.cache at (length bytes) page) + made.before)} {y = length (kinds_before old.cache at (length bytes) page) + suc made.before} (omega arith)
                ∙ take-append-add (kinds_before old.cache at (length bytes) page) (kinds_on old.cache at (length bytes) page) (suc made.before)))
                (called_on made.before made.called);
            reads =
                let long = kinds_many old.cache at (length bytes) page in
                reads_are (reads_of (kinds_before old.cache at (length bytes) page) + reads_of (take (suc made.before) (kinds_on old.cache at (length bytes) page)))
                (reads_of (take (suc (length (calls_before old.cache at (length bytes) page) + made.before)) (kinds_before old.cache at (length bytes) page ++ kinds_on old.cache at (length bytes) page)))
                old.cache.pager.reads new.cache.pager.reads
                (sym (ap (λ n. reads_of (take n (kinds_before old.cache at (length bytes) page ++ kinds_on old.cache at (length bytes) page)))
                {x = suc (length (calls_before old.cache at (length bytes) page) + made.before)} {y = length (kinds_before old.cache at (length bytes) page) + suc made.before} (omega arith)
                ∙ reads_front (kinds_before old.cache at (length bytes) page) (kinds_on old.cache at (length bytes) page) (suc made.before)))
                (reads_on made.before made.reads);
            failed = slice_behind (calls_before old.cache at (length bytes) page) (calls_on old.cache at (length bytes) page) made.before ∙ ap (λ l. slice_get l made.before) (sym on) ∙ made.here;
            faults = subst (λ n. Rose n new.cache.pager.faults) so_far.went.faults gives.faults;
          }

-- ---- all pages

pub reaches_in : (size at count page : ℕ) → IsTrue (is_page_size size) → at / size ≤ page → page < end_reached size at count → Reaches size at count page
reaches_in size at zero page known from to = absurd (omega arith)
reaches_in size at (suc count) page known from to =
    each_size (λ s. at / s ≤ page → page < (at + (suc count - 1)) / s + 1 → Reaches s at (suc count) page) size known
    (λ f t. (omega arith, omega arith, omega arith)) (λ f t. (omega arith, omega arith, omega arith)) from to

pub inside_of : (size at count page pages : ℕ) → IsTrue (is_page_size size) → Reaches size at count page → at + count ≤ pages * size → page < pages
inside_of size at count page pages known reaches within =
    each_size (λ s. Reaches s at count page → at + count ≤ pages * s → page < pages) size known
    (λ r w. let begins = r.2 in omega arith) (λ r w. let begins = r.2 in omega arith) reaches within

take_enough : {X : Type 0} (n : ℕ) (xs : List X) → length xs ≤ n → take n xs ≡ xs
take_enough n xs enough = grind (arith, common_steps, enough)

pub all_before : (size at : ℕ) (bytes : List ℕ) → IsTrue (is_page_size size) → part_before size at bytes (end_reached size at (length bytes)) ≡ bytes
all_before size at [] known = take_enough (end_reached size at 0 * size - at) [] (omega arith)
all_before size at (b ∷ bytes) known = take_enough (end_reached size at (length (b ∷ bytes)) * size - at) (b ∷ bytes)
    (each_size (λ s. suc (length bytes) ≤ ((at + (suc (length bytes) - 1)) / s + 1) * s - at) size known (omega arith) (omega arith))

pub ends_wrote : (hash : Hash) (old new : PagesNow) (at : ℕ) (bytes : List ℕ) → IsTrue (is_page_size old.cache.pager.page_size)
    → WroteSoFar hash old at bytes (end_reached old.cache.pager.page_size at (length bytes)) new → WroteAll hash old at bytes new
ends_wrote hash old new at bytes known so_far = record {
  wrote = subst (λ piece. Wrote hash old at piece new) (all_before old.cache.pager.page_size at bytes known) so_far.wrote;
  went = so_far.went;
}

-- ---- a turn of the loop

-- what is known of its page
pub record Turn (old : PagesNow) (at : ℕ) (bytes : List ℕ) (page : ℕ) : Type 0 where
  pub known : IsTrue (is_page_size old.cache.pager.page_size)
  pub reaches : Reaches old.cache.pager.page_size at (length bytes) page
  pub inside : page < old.cache.pager.pages

pub turn_of : (old : PagesNow) (at count : ℕ) (bytes : List ℕ) (page size from to : ℕ) → size ≡ old.cache.pager.page_size → IsTrue (is_page_size size) → from ≡ size → to ≡ end_reached size at count
    → count ≡ length bytes → at / from ≤ page → page < to → at + count ≤ old.cache.pager.pages * old.cache.pager.page_size → Turn old at bytes page
turn_of old at count bytes page size from to same known e f counted first last within =
    let is_known = subst (λ s. IsTrue (is_page_size s)) same known in
    let begin = subst (λ s. at / s ≤ page) (e ∙ same) first in
    let ends : page < end_reached old.cache.pager.page_size at (length bytes) = subst (λ n. page < n) (f ∙ ap (λ s. end_reached s at count) same ∙ ap (end_reached old.cache.pager.page_size at) counted) last in
    let reaches = reaches_in old.cache.pager.page_size at (length bytes) page is_known begin ends in
    record {
      known = is_known;
      reaches = reaches;
      inside = inside_of old.cache.pager.page_size at (length bytes) page old.cache.pager.pages is_known reaches (subst (λ n. at + n ≤ old.cache.pager.pages * old.cache.pager.page_size) counted within);
    }

module _ (hash : Hash) (old mid new : PagesNow) (at : ℕ) (bytes : List ℕ) (page : ℕ) (turn : Turn old at bytes page) (so_far : WroteSoFar hash old at bytes page mid) where
  pub turn_inside : page < mid.cache.pager.pages
  turn_inside = let same = so_far.wrote.sizes.pages in let inside = turn.inside in omega arith

  pub turn_begins : (count : ℕ) → count ≡ length bytes → page * mid.cache.pager.page_size < at + count
  turn_begins count counted = subst (λ s. page * s < at + count) (sym so_far.wrote.sizes.page_size) (subst (λ n. page * old.cache.pager.page_size < at + n) (sym counted) turn.reaches.2)

  pub turn_ends : at < page * mid.cache.pager.page_size + mid.cache.pager.page_size
  turn_ends = subst (λ s. at < page * s + s) (sym so_far.wrote.sizes.page_size) turn.reaches.1

  given : (result : Result (Unit {0}) PagerFault) → WriteGives mid.cache page (offset_on mid.cache.pager.page_size at page) (part_on mid.cache.pager.page_size at bytes page) result new.cache
      → WriteGives mid.cache page (offset_on old.cache.pager.page_size at page) (part_on old.cache.pager.page_size at bytes page) result new.cache
  given result gives = subst (λ s. WriteGives mid.cache page (offset_on s at page) (part_on s at bytes page) result new.cache) so_far.wrote.sizes.page_size gives

  pub turns : (result : Result (Unit {0}) PagerFault) → is_err result ≡ false → IsMarked hash new.cache new.marks → new.calls ≡ mid.calls
      → WriteGives mid.cache page (offset_on mid.cache.pager.page_size at page) (part_on mid.cache.pager.page_size at bytes page) result new.cache
      → new.marks ≡ written mid.cache page result mid.marks → WroteSoFar hash old at bytes (page + 1) new
  turns (Ok done) e marked calls gives marks = page_written hash old mid new at bytes page turn.known turn.reaches turn.inside so_far marked calls done (given (Ok done) gives) marks
  turns (Err fault) e marked calls gives marks = absurd (grind (arith, common_steps, e))

  pub stops : (result : Result (Unit {0}) PagerFault) → is_err result ≡ true → IsMarked hash new.cache new.marks → new.calls ≡ mid.calls
      → WriteGives mid.cache page (offset_on mid.cache.pager.page_size at page) (part_on mid.cache.pager.page_size at bytes page) result new.cache
      → new.marks ≡ written mid.cache page result mid.marks → WroteBefore hash old at bytes page new
  stops (Ok done) e marked calls gives marks = absurd (grind (arith, common_steps, e))
  stops (Err fault) e marked calls gives marks = page_failed hash old mid new at bytes page turn.known turn.reaches turn.inside so_far marked calls fault (given (Err fault) gives) marks

pub ends_at : (hash : Hash) (old new : PagesNow) (at count : ℕ) (bytes : List ℕ) (page size from to : ℕ) → size ≡ old.cache.pager.page_size → IsTrue (is_page_size size) → from ≡ size → to ≡ end_reached size at count
    → count ≡ length bytes → page ≡ to → WroteSoFar hash old at bytes page new → WroteAll hash old at bytes new
ends_at hash old new at count bytes page size from to same known e f counted last so_far =
    ends_wrote hash old new at bytes (subst (λ s. IsTrue (is_page_size s)) same known)
    (subst (λ p. WroteSoFar hash old at bytes p new) (last ∙ f ∙ ap (λ s. end_reached s at count) same ∙ ap (end_reached old.cache.pager.page_size at) counted) so_far)

pub from_before_end : (size at count from to : ℕ) → IsTrue (is_page_size size) → from ≡ size → to ≡ end_reached size at count → at / from ≤ to
from_before_end size at count from to known e f = subst (λ s. at / s ≤ to) (sym e) (subst (λ n. at / size ≤ n) (sym f) (by_count count))
  where
    by_count : (n : ℕ) → at / size ≤ end_reached size at n
    by_count zero = omega arith
    by_count (suc n) = each_size (λ s. at / s ≤ (at + (suc n - 1)) / s + 1) size known (omega arith) (omega arith)
