-- Stores, loads and fetches are the plain steps of their events.
use Rattle.std.proofs.Common.{◌≡◌, ◌≢◌, ℕ, ◌+◌, ◌<◌, ◌≤◌, Bool, true, false, List, [], Option, Some, None, length, take, drop, refl, sym, ap, subst, ◌∙◌, arith, inl}
use Rattle.std.specs.Prelude.{◌⊎◌, ◌==◌, ◌&&◌, All, IsSome, IsSomeAnd, is_some, unwrap_or, slice_index_or, option_map, if◌then◌else◌}
use Rattle.std.specs.Option.{option_map_or, option_copied}
use Rattle.std.specs.Borrow.{Bor}
use Rattle.std.proofs.lemmas.Bool.{false≢true}
use Rattle.std.proofs.lemmas.Grind.{common_steps}
use Rattle.std.proofs.lemmas.Option.{get_or_from_slice_get}
use Rattle.pg_digest.specs.Kinds.{Hash}
use Rattle.cs_policy.specs.declared.file.FileEvent.{FileEvent}
use Rattle.cs_policy.specs.declared.file.FileEvent.TheVariants as event
use Rattle.cs_policy.specs.declared.file.FileReply.{FileReply}
use Rattle.cs_policy.specs.declared.file.FileReply.TheVariants as reply
use Rattle.cs_policy.specs.declared.region.Record.{Record}
use Rattle.pg_io.specs.PageBytes.{written_over}
use Rattle.pg_cache.specs.Held.{Held, dirtied}
use Rattle.pg_cache.specs.Cache.{CacheNow, resident_page, at_hand}
use Rattle.pg_cache.specs.Contents.{with_piece}
use Rattle.pg_cache.specs.Gives.{PutGives}
use Rattle.pg_cache.specs.Finds.{Finds}
use Rattle.pg_cache.proofs.GiveFacts.{hand_resident}
use Rattle.pg_cache.proofs.Laws.{some_pages, some_finds, put_finds}
use Rattle.pg_regions.specs.Lookups.{Copy, IsWriter, is_shared, record_of, copy_of, bytes_of}
use Rattle.pg_regions.specs.RegionsNow.{RegionsNow, Room, spare, IsSound}
use Rattle.pg_regions.specs.Steps.{ChangesCopy, with_bytes, copy_with_piece, rewritten}
use Rattle.pg_pages.specs.Marks.{Marks, marks_of}
use Rattle.pg_pages.specs.Pages.{PagesNow, IsMarked}
use Rattle.pg_pages.proofs.MarkFacts.{resident_inside}
use Rattle.pg_pages.proofs.MarkLaws.{ChangesAt, changed_here, changed_other}
use Rattle.pg_plain.specs.PlainFile.{PlainFile, has_record, may_read, may_write, may_execute}
use Rattle.pg_plain.specs.Steps.{put_copy, put_page, stored, looked_at, seen_by}
use Rattle.pg_plain.specs.Keep.{Keep}
use Rattle.pg_plain.proofs.FewerFacts.{writes_has}
use Rattle.pg_io.specs.declared.pager_call.PagerCall.{PagerCall}
use Rattle.pg_cache.proofs.CalledLaws.{called_none}
use Rattle.pg_object.specs.Object.{ObjectNow, seen}
use Rattle.pg_object.specs.Kept.{IsInside, IsKept}
use Rattle.pg_object.specs.Acts.{LeavesRoom, nothing_back, Acts}
use Rattle.pg_object.specs.Checked.{takes_out, LeavesChecked}
use Rattle.pg_object.proofs.PagerCallFacts.{no_reads}
use Rattle.pg_object.proofs.RoomFacts.{gains_same, gains_spare}
use Rattle.pg_object.proofs.KeepFacts.{resident_is}
use Rattle.pg_object.proofs.CheckedFacts.{checked_quietly, checked_validated}
use Rattle.pg_object.proofs.QuietFacts.{Does, Quiet, does_quietly, room_stays}
use Rattle.pg_object.proofs.SameFacts.{plain_is, dirtied_residents, uncalled_tells, acts_same}
use Rattle.pg_object.proofs.SealFacts.{with_parts, Same, Gone, Fates, does_parts, fewer_same}

-- ---- bytes that are looked at

-- the bytes that a region sees of a page are answered
abbrev pub Shows : ObjectNow → ℕ → ℕ → ℕ → ℕ → FileReply → Type 0
Shows now id page at count answer =
    (pages : List (List ℕ)) → Finds now.pages.cache pages → answer ≡ reply.Got (take count (drop at (seen_by (seen now pages) id page)))

looked : (permitted : Bool) (now : ObjectNow) (id page at count : ℕ) (answer : FileReply) (pages : List (List ℕ)) → permitted ≡ true
    → answer ≡ reply.Got (take count (drop at (seen_by (seen now pages) id page))) → (answer, seen now pages) ≡ looked_at permitted (seen now pages) id page at count
looked true now id page at count answer pages e got = ap (λ a. (a, seen now pages)) got
looked false now id page at count answer pages e got = absurd (cc)

unlooked : (permitted : Bool) (file : PlainFile) (id page at count : ℕ) → permitted ≡ false → (reply.NotMapped, file) ≡ looked_at permitted file id page at count
unlooked true file id page at count e = absurd (cc)
unlooked false file id page at count e = refl

module _ (hash : Hash) (old : ObjectNow) (kept : IsKept hash old) (id page at count resolve : ℕ) (answer : FileReply) where
  pub load_acts : may_read (seen old []) id page ≡ true → Shows old id page at count answer → Acts hash old (event.Load id page at count resolve) None answer old
  load_acts permitted shows =
      acts_same hash old (event.Load id page at count resolve) answer kept (λ pages. refl)
      (λ pages found. looked (may_read (seen old pages) id page) old id page at count answer pages permitted (shows pages found))

  pub no_load_acts : may_read (seen old []) id page ≡ false → answer ≡ reply.NotMapped → Acts hash old (event.Load id page at count resolve) None answer old
  no_load_acts permitted is =
      acts_same hash old (event.Load id page at count resolve) answer kept (λ pages. refl)
      (λ pages found. ap (λ a. (a, seen old pages)) is ∙ unlooked (may_read (seen old pages) id page) (seen old pages) id page at count permitted)

  pub fetch_acts : may_execute (seen old []) id page ≡ true → Shows old id page at count answer → Acts hash old (event.Fetch id page at count resolve) None answer old
  fetch_acts permitted shows =
      acts_same hash old (event.Fetch id page at count resolve) answer kept (λ pages. refl)
      (λ pages found. looked (may_execute (seen old pages) id page) old id page at count answer pages permitted (shows pages found))

  pub no_fetch_acts : may_execute (seen old []) id page ≡ false → answer ≡ reply.NotMapped → Acts hash old (event.Fetch id page at count resolve) None answer old
  no_fetch_acts permitted is =
      acts_same hash old (event.Fetch id page at count resolve) answer kept (λ pages. refl)
      (λ pages found. ap (λ a. (a, seen old pages)) is ∙ unlooked (may_execute (seen old pages) id page) (seen old pages) id page at count permitted)

-- ---- bytes that are stored

spare_left : (old new : RegionsNow) → spare new ≡ spare old → LeavesRoom (record { regions = 0; records = 0; copies = 0 }) old new
spare_left old new same =
    let regions = ap (λ (room : Room). room.regions) same in
    let records = ap (λ (room : Room). room.records) same in
    let copies = ap (λ (room : Room). room.copies) same in
    record { regions = omega arith; records = omega arith; copies = omega arith }

abbrev store_by : Bool → PlainFile → PlainFile → FileReply × PlainFile
store_by permitted file after = if permitted then (reply.Stored, after) else (reply.NotMapped, file)

-- no record permits writing
pub no_store_acts : (hash : Hash) (old : ObjectNow) (id page at : ℕ) (bytes : List ℕ) (resolve : ℕ) (answer : FileReply) → IsKept hash old → may_write (seen old []) id page ≡ false
    → answer ≡ reply.NotMapped → Acts hash old (event.Store id page at bytes resolve) None answer old
no_store_acts hash old id page at bytes resolve answer kept permitted is =
    acts_same hash old (event.Store id page at bytes resolve) answer kept (λ pages. refl)
    (λ pages found. ap (λ a. (a, seen old pages)) is ∙ ap (λ (b : Bool). store_by b (seen old pages) (stored (seen old pages) id page at bytes)) (sym permitted))

module _ (old : ObjectNow) (regions : RegionsNow) (id page at : ℕ) (bytes : List ℕ) where
  copy_put : (pages : List (List ℕ)) → is_some (bytes_of old.regions.copies id page) ≡ true → ChangesCopy old.regions regions id page (rewritten id page at bytes old.regions)
      → (i p : ℕ) → bytes_of regions.copies i p ≡ (put_copy (seen old pages) id page at bytes).copies i p
  copy_put pages there found i p = by_test (i == id && p == page) refl
    where
      here : (o : Option Copy) → copy_of old.regions.copies id page ≡ o → is_some (option_map (λ (copy : Copy). copy.bytes) o) ≡ true
          → option_map (λ (copy : Copy). copy.bytes) (option_map (copy_with_piece at bytes) o) ≡ Some (written_over (unwrap_or (option_map (λ (copy : Copy). copy.bytes) o) (slice_index_or pages page [])) at bytes)
      here None e some = absurd (grind (arith, common_steps, some))
      here (Some copy) e some = refl

      by_test : (b : Bool) → (i == id && p == page) ≡ b
          → bytes_of regions.copies i p ≡ (if i == id && p == page then Some (written_over (seen_by (seen old pages) id page) at bytes) else bytes_of old.regions.copies i p)
      by_test false e =
          ap (option_map (λ (copy : Copy). copy.bytes)) (found.others i p e)
          ∙ sym (ap (λ (b : Bool). if b then Some (written_over (seen_by (seen old pages) id page) at bytes) else bytes_of old.regions.copies i p) e)
      by_test true e =
          let region : i ≡ id = grind (arith, common_steps, e) in
          let number : p ≡ page = grind (arith, common_steps, e) in
          ap (λ (j : ℕ). bytes_of regions.copies j p) region ∙ ap (λ (q : ℕ). bytes_of regions.copies id q) number
          ∙ ap (option_map (λ (copy : Copy). copy.bytes)) found.here ∙ here (copy_of old.regions.copies id page) refl there
          ∙ sym (ap (λ (b : Bool). if b then Some (written_over (seen_by (seen old pages) id page) at bytes) else bytes_of old.regions.copies i p) e)

  copy_seen : (pages : List (List ℕ)) → is_some (bytes_of old.regions.copies id page) ≡ true → regions ≡ with_bytes id page at bytes old.regions
      → ChangesCopy old.regions regions id page (rewritten id page at bytes old.regions) → seen (record old { regions = regions }) pages ≡ put_copy (seen old pages) id page at bytes
  copy_seen pages there after found =
      plain_is (seen (record old { regions = regions }) pages) (put_copy (seen old pages) id page at bytes) refl refl refl refl refl refl
      (ap (λ (r : RegionsNow). r.regions) after) (λ i p. ap (λ (r : RegionsNow). record_of r.records i p) after) (copy_put pages there found) refl

-- into the region's private copy of the page
pub store_copy_quiet : (hash : Hash) (old : ObjectNow) (regions : RegionsNow) (id page at : ℕ) (bytes : List ℕ) (resolve : ℕ) → may_write (seen old []) id page ≡ true
    → is_some (bytes_of old.regions.copies id page) ≡ true → regions ≡ with_bytes id page at bytes old.regions → ChangesCopy old.regions regions id page (rewritten id page at bytes old.regions)
    → spare regions ≡ spare old.regions → Quiet hash old (event.Store id page at bytes resolve) None reply.Stored (record old { regions = regions })
store_copy_quiet hash old regions id page at bytes resolve permitted there after found room = record {
  same = refl;
  room = spare_left old.regions regions room;
  gains = gains_spare nothing_back old.regions regions room (ap (λ (r : RegionsNow). r.room) after);
  untaken = λ p. refl;
  uncalled = λ pages. refl;
  step = λ pages.
      ap (λ file. (reply.Stored, file)) (copy_seen old regions id page at bytes pages there after found)
      ∙ ap (λ (b : Bool). (reply.Stored, if b then put_copy (seen old pages) id page at bytes else put_page (seen old pages) page at bytes)) (sym there)
      ∙ ap (λ (b : Bool). store_by b (seen old pages) (stored (seen old pages) id page at bytes)) (sym permitted);
}

-- a page that may be written and of which the region has no copy is resident
pub written_resident : (hash : Hash) (old : ObjectNow) (id page : ℕ) → IsKept hash old → may_write (seen old []) id page ≡ true → is_some (bytes_of old.regions.copies id page) ≡ false
    → IsSome (resident_page old.pages.cache page)
written_resident hash old id page kept permitted none =
    let pages = some_pages old.pages.cache in
    let keep = kept.keep pages (some_finds old.pages.cache kept.sound) in
    sym (resident_is old pages page) ∙ keep.at_hand id page (writes_has (seen old pages) id page permitted) none

-- into the page
pub store_page_acts : (hash : Hash) (old : ObjectNow) (now : PagesNow) (id page at : ℕ) (bytes : List ℕ) (resolve : ℕ) → IsKept hash old → may_write (seen old []) id page ≡ true
    → is_some (bytes_of old.regions.copies id page) ≡ false → page < old.pages.cache.pager.pages → at + length bytes ≤ old.pages.cache.pager.page_size
    → PutGives old.pages.cache page at bytes now.cache → Acts hash old (event.Store id page at bytes resolve) None reply.Stored (record old { pages = now })
store_page_acts hash old now id page at bytes resolve kept permitted none inside fits gives = record {
  pages = pages;
  pages_after = with_piece page at bytes pages;
  outcome = 0;
  few = omega arith;
  found = found;
  found_after = put_finds old.pages.cache now.cache page at bytes pages inside fits gives found;
  step =
      ap (λ file. (reply.Stored, file)) put_seen
      ∙ ap (λ (b : Bool). (reply.Stored, if b then put_copy (seen old pages) id page at bytes else put_page (seen old pages) page at bytes)) (sym none)
      ∙ ap (λ (b : Bool). store_by b (seen old pages) (stored (seen old pages) id page at bytes)) (sym permitted);
  faults = ap (λ (c : CacheNow). c.pager.faults) gives.after;
  told = uncalled_tells old.pages.cache.pager now.cache.pager [] (ap (λ (c : CacheNow). c.pager) gives.after) refl;
  calls = ap (λ (c : CacheNow). c.pager.calls) gives.after ∙ called_none old.pages.cache.pager;
  reads = no_reads old.pages.cache.pager.reads now.cache.pager.reads (ap (λ (c : CacheNow). c.pager.reads) gives.after);
  sizes = record {
    limit = ap (λ (c : CacheNow). c.limit) gives.after;
    pages = ap (λ (c : CacheNow). c.pager.pages) gives.after;
    page_size = ap (λ (c : CacheNow). c.pager.page_size) gives.after;
  };
  room = room_stays old.regions;
  gains = gains_same nothing_back old.regions;
}
  where
    pages : List (List ℕ)
    pages = some_pages old.pages.cache

    found : Finds old.pages.cache pages
    found = some_finds old.pages.cache kept.sound

    put_seen : seen (record old { pages = now }) (with_piece page at bytes pages) ≡ put_page (seen old pages) page at bytes
    put_seen =
        plain_is (seen (record old { pages = now }) (with_piece page at bytes pages)) (put_page (seen old pages) page at bytes)
        (ap (λ (c : CacheNow). c.pager.page_size) gives.after) refl (ap (λ (c : CacheNow). c.limit) gives.after) refl refl refl refl (λ i p. refl) (λ i p. refl)
        (dirtied_residents old.pages.cache now.cache page gives.list)

-- ---- all that the contracts say

-- a call that leaves all as it is
does_same : (hash : Hash) (old : ObjectNow) (e : FileEvent) (answer : FileReply) → IsKept hash old → ((page : ℕ) → takes_out old e answer page ≡ false) → Acts hash old e None answer old
    → Does hash old e None answer old
does_same hash old e answer kept untaken acts = record { acts = acts; checked = checked_quietly old old e answer refl untaken; unhashed = refl; kept = kept }

module _ (hash : Hash) (old : ObjectNow) (kept : IsKept hash old) (id page at count resolve : ℕ) (permitted : Bool) where
  pub loads : (answer : FileReply) → permitted ≡ may_read (seen old []) id page → permitted ≡ true → Shows old id page at count answer
      → Does hash old (event.Load id page at count resolve) None answer old
  loads answer is e shows =
      does_same hash old (event.Load id page at count resolve) answer kept (λ p. refl) (load_acts hash old kept id page at count resolve answer (sym is ∙ e) shows)

  pub loads_nothing : permitted ≡ may_read (seen old []) id page → permitted ≡ false → Does hash old (event.Load id page at count resolve) None reply.NotMapped old
  loads_nothing is e =
      does_same hash old (event.Load id page at count resolve) reply.NotMapped kept (λ p. refl) (no_load_acts hash old kept id page at count resolve reply.NotMapped (sym is ∙ e) refl)

  pub fetches : (answer : FileReply) → permitted ≡ may_execute (seen old []) id page → permitted ≡ true → Shows old id page at count answer
      → Does hash old (event.Fetch id page at count resolve) None answer old
  fetches answer is e shows =
      does_same hash old (event.Fetch id page at count resolve) answer kept (λ p. refl) (fetch_acts hash old kept id page at count resolve answer (sym is ∙ e) shows)

  pub fetches_nothing : permitted ≡ may_execute (seen old []) id page → permitted ≡ false → Does hash old (event.Fetch id page at count resolve) None reply.NotMapped old
  fetches_nothing is e =
      does_same hash old (event.Fetch id page at count resolve) reply.NotMapped kept (λ p. refl) (no_fetch_acts hash old kept id page at count resolve reply.NotMapped (sym is ∙ e) refl)

-- a record that permits an access stands
pub reads_has : (old : ObjectNow) (id page : ℕ) → may_read (seen old []) id page ≡ true → has_record (seen old []) id page ≡ true
reads_has old id page = by_record (record_of old.regions.records id page)
  where
    by_record : (r : Option Record) → option_map_or (λ r. r.read) r false ≡ true → is_some r ≡ true
    by_record None e = e
    by_record (Some r) e = refl

pub runs_has : (old : ObjectNow) (id page : ℕ) → may_execute (seen old []) id page ≡ true → has_record (seen old []) id page ≡ true
runs_has old id page = by_record (record_of old.regions.records id page)
  where
    by_record : (r : Option Record) → option_map_or (λ r. r.execute) r false ≡ true → is_some r ≡ true
    by_record None e = e
    by_record (Some r) e = refl

-- a page of which a region has a record and no copy is resident
pub mapped_resident : (hash : Hash) (old : ObjectNow) (id page : ℕ) → IsKept hash old → has_record (seen old []) id page ≡ true → bytes_of old.regions.copies id page ≡ None
    → IsSome (resident_page old.pages.cache page)
mapped_resident hash old id page kept stands none =
    let pages = some_pages old.pages.cache in
    let keep = kept.keep pages (some_finds old.pages.cache kept.sound) in
    sym (resident_is old pages page) ∙ keep.at_hand id page stands (ap is_some none)

-- and its bytes are those that the region sees
pub resident_shows : (old : ObjectNow) (id page : ℕ) (bytes : List ℕ) → IsSome (resident_page old.pages.cache page) → bytes_of old.regions.copies id page ≡ None
    → option_map (λ held. held.bytes) (at_hand old.pages.cache page) ≡ Some bytes
    → (pages : List (List ℕ)) → Finds old.pages.cache pages → bytes ≡ seen_by (seen old pages) id page
resident_shows old id page bytes there none held pages found = by_page (resident_page old.pages.cache page) refl there
  where
    by_page : (o : Option Held) → resident_page old.pages.cache page ≡ o → IsSome o → bytes ≡ seen_by (seen old pages) id page
    by_page None e some = absurd (cc)
    by_page (Some h) e some =
        let own : Some h.bytes ≡ Some bytes = sym (ap (option_map (λ (x : Held). x.bytes)) (hand_resident old.pages.cache page h e)) ∙ held in
        let same : h.bytes ≡ bytes = cc in
        sym (ap (λ o. unwrap_or o (slice_index_or pages page [])) none ∙ get_or_from_slice_get pages page h.bytes [] (found.resident page h e) ∙ same)

module _ (hash : Hash) (old : ObjectNow) (kept : IsKept hash old) (id page at : ℕ) (bytes : List ℕ) (resolve : ℕ) (permitted : Bool) (is : permitted ≡ may_write (seen old []) id page) where
  pub stores_nothing : permitted ≡ false → Does hash old (event.Store id page at bytes resolve) None reply.NotMapped old
  stores_nothing e =
      does_same hash old (event.Store id page at bytes resolve) reply.NotMapped kept (λ p. refl) (no_store_acts hash old id page at bytes resolve reply.NotMapped kept (sym is ∙ e) refl)

  pub stores_copy : (regions : RegionsNow) → permitted ≡ true → is_some (bytes_of old.regions.copies id page) ≡ true → regions ≡ with_bytes id page at bytes old.regions
      → ChangesCopy old.regions regions id page (rewritten id page at bytes old.regions) → spare regions ≡ spare old.regions → IsSound regions
      → Does hash old (event.Store id page at bytes resolve) None reply.Stored (record old { regions = regions })
  stores_copy regions e there after found room sound =
      does_quietly hash old regions (event.Store id page at bytes resolve) reply.Stored kept
      (store_copy_quiet hash old regions id page at bytes resolve (sym is ∙ e) there after found room)
      (record {
        sound = sound;
        page = ap (λ (r : RegionsNow). r.page) after;
        inside = subst (λ (r : RegionsNow). All (IsInside old.pages.cache.pager.pages) r.regions) (sym after) kept.inside;
        writers = λ p i writer. subst (λ (r : RegionsNow). IsWriter r.regions r.records p i) after writer;
      })

  module _ (e : permitted ≡ true) (none : is_some (bytes_of old.regions.copies id page) ≡ false) where
    pub stored_there : IsSome (resident_page old.pages.cache page)
    stored_there = written_resident hash old id page kept (sym is ∙ e) none

    -- a shared region may write the page
    writer : IsWriter old.regions.regions old.regions.records page id
    writer = record { shared = by_test (is_shared old.regions.regions id) refl; writes = writes_of (record_of old.regions.records id page) (sym is ∙ e) }
      where
        keep : Keep hash (seen old (some_pages old.pages.cache))
        keep = kept.keep (some_pages old.pages.cache) (some_finds old.pages.cache kept.sound)

        by_test : (b : Bool) → is_shared old.regions.regions id ≡ b → b ≡ true
        by_test true f = refl
        by_test false f = absurd (let copied = keep.copied id page (sym is ∙ e) f in cc)

        writes_of : (o : Option Record) → option_map_or (λ r. r.write) o false ≡ true → IsSomeAnd o (λ r. r.write ≡ true)
        writes_of None f = absurd (cc)
        writes_of (Some r) f = f

    -- nothing was kept of the page, and nothing is
    fates : (now : PagesNow) → PutGives old.pages.cache page at bytes now.cache → ChangesAt page old.pages.marks now.marks → Fates old (with_parts old now old.regions)
    fates now gives marks q = by_test (q == page) refl
      where
        inside : page < length old.pages.marks
        inside = let below = resident_inside old.pages.cache page kept.sound stored_there in let long = kept.marked.count in omega arith

        changed_of : (o : Option Held) → is_some (option_map (dirtied at bytes) o) ≡ is_some o
        changed_of None = refl
        changed_of (Some h) = refl

        by_test : (b : Bool) → (q == page) ≡ b → Same old (with_parts old now old.regions) q ⊎ Gone (with_parts old now old.regions) q
        by_test true f =
            let same : q ≡ page = grind (arith, common_steps, f) in
            let here = changed_here old.pages.marks now.marks page marks inside in
            inl (subst (Same old (with_parts old now old.regions)) (sym same) (record {
              validated = ap (λ (m : Marks). m.validated) here ∙ sym (kept.seals.unwritten page id writer);
              writable = ap (λ (m : Marks). m.writable) here;
              resident = ap is_some gives.found.here ∙ changed_of (resident_page old.pages.cache page);
            }))
        by_test false f =
            let apart : q ≢ page = grind (arith, common_steps, f) in
            let here = changed_other old.pages.marks now.marks page marks q apart in
            inl (record {
              validated = ap (λ (m : Marks). m.validated) here;
              writable = ap (λ (m : Marks). m.writable) here;
              resident = ap is_some (gives.found.others q f);
            })

    -- a page that is checked is another
    pub stores_elsewhere : (now : PagesNow) → PutGives old.pages.cache page at bytes now.cache → LeavesChecked old (with_parts old now old.regions)
    stores_elsewhere now gives q there = by_test (q == page) refl
      where
        by_test : (b : Bool) → (q == page) ≡ b → resident_page now.cache q ≡ resident_page old.pages.cache q
        by_test true f =
            let same : q ≡ page = grind (arith, common_steps, f) in
            absurd (false≢true (sym (ap is_some (kept.seals.unwritten page id writer)) ∙ ap (λ n. is_some (marks_of old.pages.marks n).validated) (sym same) ∙ checked_validated old q there))
        by_test false f = gives.found.others q f

    pub stores_page : (now : PagesNow) → at + length bytes ≤ old.pages.cache.pager.page_size → PutGives old.pages.cache page at bytes now.cache
        → ChangesAt page old.pages.marks now.marks → IsMarked hash now.cache now.marks → now.calls ≡ old.pages.calls
        → Does hash old (event.Store id page at bytes resolve) None reply.Stored (with_parts old now old.regions)
    stores_page now fits gives marks marked counted =
        does_parts hash old now old.regions (event.Store id page at bytes resolve) reply.Stored kept
        (store_page_acts hash old now id page at bytes resolve kept (sym is ∙ e) none (resident_inside old.pages.cache page kept.sound stored_there) fits gives)
        gives.sound marked counted (fates now gives marks) (fewer_same hash old kept) (λ p. refl)

-- what was found is there where the value behind it is
pub some_found : {X : Type 0} (found : Option (Bor X)) (there : Option X) → option_copied found ≡ there → is_some there ≡ is_some found
some_found None there e = ap is_some (sym e)
some_found (Some x) there e = ap is_some (sym e)
