-- A write is the plain step of its event.
use Rattle.std.proofs.Common.{take, ◌≡◌, ℕ, zero, suc, ◌+◌, ◌-◌, ◌*◌, ◌/◌, ◌<◌, ◌≤◌, Bool, true, false, List, [], ◌∷◌, ◌++◌, length, map, replicate, Option, Some, None, refl, sym, ap, subst, ◌∙◌, arith, not, inl, inr, ◌^◌}
use Rattle.std.specs.Prelude.{◌&&◌, ◌||◌, ◌⊎◌, IsTrue, IsSomeAnd, nat_le, nat_lt, is_some, slice_get, if◌then◌else◌}
use Rattle.std.specs.List.{range_with_len, flat_map}
use Rattle.std.specs.Option.{option_map}
use Rattle.std.proofs.lemmas.Bool.{false≢true}
use Rattle.std.proofs.lemmas.Grind.{common_steps, flat_map-append}
use Rattle.std.proofs.lemmas.Option.{slice_get_within}
use mathlib.Core.Path.{fun_ext}
use Rattle.pg_bytes.specs.PageSize.{is_page_size}
use Rattle.pg_digest.specs.Kinds.{Hash}
use Rattle.pg_io.specs.Pager.{MadeCalls, FaultsAfter}
use Rattle.cs_policy.specs.Data.{data_bytes}
use Rattle.cs_policy.specs.declared.data.Data.{Data}
use Rattle.cs_policy.specs.declared.region.Record.{Record}
use Rattle.cs_policy.specs.declared.file.FileEvent.{FileEvent}
use Rattle.cs_policy.specs.declared.file.FileEvent.TheVariants as event
use Rattle.cs_policy.specs.declared.file.FileReply.{FileReply}
use Rattle.cs_policy.specs.declared.file.FileReply.TheVariants as reply
use Rattle.pg_cache.specs.Cache.{CacheNow}
use Rattle.pg_cache.proofs.Laws.{some_pages, some_finds}
use Rattle.pg_pages.specs.Marks.{Seal, marks_of}
use Rattle.pg_pages.specs.Pages.{PagesNow}
use Rattle.pg_regions.specs.Lookups.{record_of, bytes_of, is_shared, IsWriter}
use Rattle.pg_regions.specs.RegionsNow.{RegionsNow, Room, spare}
use Rattle.pg_plain.specs.PlainFile.{Resident, is_resident}
use Rattle.pg_plain.specs.Calls.{reached, is_whole, calls_of_page, page_calls, calls_made, failed_page}
use Rattle.pg_plain.specs.Given.{unexecuted}
use Rattle.pg_plain.specs.Content.{count_written}
use Rattle.pg_plain.specs.Steps.{is_reached, written_pages, cleaned, written, write_by}
use Rattle.pg_io.specs.declared.pager_call.PagerCall.{PagerCall}
use Rattle.std.proofs.lemmas.List.{take-append-le}
use Rattle.pg_object.specs.Object.{ObjectNow, resident_of, seen}
use Rattle.pg_object.specs.Kept.{IsKept}
use Rattle.pg_object.specs.Acts.{has_failed, results, LeavesRoom, nothing_back, Acts}
use Rattle.pg_object.specs.Checked.{is_validated, is_checked, takes_out, KeepsChecked}
use Rattle.pg_object.specs.Checked as checked
use Rattle.pg_object.specs.Strips.{Strips}
use Rattle.pg_object.specs.Writes.{part_before, end_reached, Wrote, calls_on, calls_before, kinds_on, kinds_before, WroteBefore, WroteAll}
use Rattle.pg_object.specs.PagerCalls.{reached_calls, pager_calls, calls_done, Called, reads_of, reads_made}
use Rattle.pg_object.proofs.PagerCallFacts.{reads_are, reads_all, done_all}
use Rattle.pg_object.proofs.RoomFacts.{gains_same, gains_spare}
use Rattle.pg_object.proofs.TellFacts.{tells_of}
use Rattle.pg_object.proofs.KeepFacts.{resident_is}
use Rattle.pg_object.proofs.CheckedFacts.{checked_is, checked_resident, checked_validated}
use Rattle.pg_object.proofs.QuietFacts.{Does, does_nothing, room_stays}
use Rattle.pg_object.proofs.ReachFacts.{Reaches, reached_true, reached_from, long_before}
use Rattle.pg_object.proofs.SizeFacts.{each_size}
use Rattle.pg_object.proofs.StepFacts.{calls_next, kinds_next, kinds_many, from_before_end}
use Rattle.pg_object.proofs.AfterFacts.{with_parts, kept_after, seals_less}

iff : (a b : Bool) → (a ≡ true → b ≡ true) → (b ≡ true → a ≡ true) → a ≡ b
iff true b there back = sym (there refl)
iff false true there back = back refl
iff false false there back = refl

-- ---- past the end

pub writes_past : (hash : Hash) (old : ObjectNow) (at : ℕ) (piece : Data) → IsKept hash old → nat_lt old.length (at + length (data_bytes piece)) ≡ true
    → Does hash old (event.Write at piece) None (reply.PastEnd old.length) old
writes_past hash old at piece kept past = does_nothing hash old (event.Write at piece) (reply.PastEnd old.length) kept (record {
  same = refl;
  uncalled = λ pages. ap (λ b. if b then [] else flat_map (calls_of_page (seen old pages) at (length (data_bytes piece))) (reached old.pages.cache.pager.page_size at (length (data_bytes piece)))) past;
  step = λ pages. ap (λ b. if b then (reply.PastEnd old.length, seen old pages) else write_by (failed_page (page_calls hash (seen old pages) (event.Write at piece)) 0) (seen old pages) at (data_bytes piece)) (sym past);
  room = room_stays old.regions;
  gains = gains_same nothing_back old.regions;
  untaken = λ page. refl;
})

-- ---- which pages are stripped

-- the pages that all data reach
pub reached_all : (size at count page : ℕ) → IsTrue (is_page_size size) → is_reached size at count page ≡ (nat_le (at / size) page && nat_lt page (end_reached size at count))
reached_all size at zero page known = iff (is_reached size at 0 page) (nat_le (at / size) page && nat_lt page (at / size)) (λ e. absurd (grind (arith, common_steps, e))) (λ e. absurd (grind (arith, common_steps, e)))
reached_all size at (suc count) page known = iff (is_reached size at (suc count) page) (nat_le (at / size) page && nat_lt page ((at + (suc count - 1)) / size + 1))
    (λ e. each_size (λ s. Reaches s at (suc count) page → (nat_le (at / s) page && nat_lt page ((at + (suc count - 1)) / s + 1)) ≡ true) size known
    (λ r. grind (arith, common_steps, r.1, r.2)) (λ r. grind (arith, common_steps, r.1, r.2)) (reached_true size at (suc count) page known e))
    (λ e. reached_from size at (suc count) page known (each_size (λ s. (nat_le (at / s) page && nat_lt page ((at + (suc count - 1)) / s + 1)) ≡ true → Reaches s at (suc count) page) size known
    (λ f. (omega arith, grind (arith, common_steps, f), grind (arith, common_steps, f))) (λ f. (omega arith, grind (arith, common_steps, f), grind (arith, common_steps, f))) e))

-- the pages that the data before a page reach
pub reached_before : (size at : ℕ) (bytes : List ℕ) (stop page : ℕ) → IsTrue (is_page_size size) → Reaches size at (length bytes) stop
    → is_reached size at (length (part_before size at bytes stop)) page ≡ (nat_le (at / size) page && nat_lt page stop)
reached_before size at bytes stop page known reaches =
    ap (λ n. is_reached size at n page) (long_before size at bytes stop known reaches)
    ∙ iff (is_reached size at (stop * size - at) page) (nat_le (at / size) page && nat_lt page stop)
    (λ e. each_size (λ s. Reaches s at (length bytes) stop → Reaches s at (stop * s - at) page → (nat_le (at / s) page && nat_lt page stop) ≡ true) size known
    (λ t r. grind (arith, common_steps, r.1, r.2, r.0)) (λ t r. grind (arith, common_steps, r.1, r.2, r.0)) reaches (reached_true size at (stop * size - at) page known e))
    (λ e. reached_from size at (stop * size - at) page known (each_size (λ s. Reaches s at (length bytes) stop → (nat_le (at / s) page && nat_lt page stop) ≡ true → Reaches s at (stop * s - at) page) size known
    (λ t f. (grind (arith, common_steps, f), grind (arith, common_steps, f), grind (arith, common_steps, f))) (λ t f. (grind (arith, common_steps, f), grind (arith, common_steps, f), grind (arith, common_steps, f))) reaches e))

-- ---- the pages and regions afterwards are those of the plain file

module _ (hash : Hash) (old : ObjectNow) (at : ℕ) (b : List ℕ) (pages : PagesNow) (regions : RegionsNow) (first end : ℕ)
    (wrote : Wrote hash old.pages at b pages) (strips : Strips old.regions first end regions)
    (same : (page : ℕ) → (nat_le first page && nat_lt page end) ≡ is_reached old.pages.cache.pager.page_size at (length b) page) where
  same_records : record_of regions.records ≡ (written (seen old []) at b).records
  same_records = fun_ext (λ id. fun_ext (λ page. strips.found id page
      ∙ ap (λ there. if there then option_map unexecuted (record_of old.regions.records id page) else record_of old.regions.records id page) (same page)))

  pub seen_written : (content : List (List ℕ)) → seen (with_parts old pages regions) (written_pages old.pages.cache.pager.page_size at b 0 content) ≡ written (seen old content) at b
  seen_written content =
      ap (λ n. record (seen (with_parts old pages regions) bytes) { page_size = n }) wrote.sizes.page_size
      ∙ ap (λ n. record (seen (with_parts old pages regions) bytes) { page_size = size; limit = n }) wrote.sizes.limit
      ∙ ap (λ rs. record (seen (with_parts old pages regions) bytes) { page_size = size; limit = limit; residents = rs }) wrote.residents
      ∙ ap (λ rs. record (seen (with_parts old pages regions) bytes) { page_size = size; limit = limit; residents = residents; records = rs }) same_records
      ∙ ap (λ (now : RegionsNow). record (seen old bytes) { residents = residents; records = (written (seen old []) at b).records; regions = now.regions; copies = bytes_of now.copies }) strips.others
    where
      size : ℕ
      size = old.pages.cache.pager.page_size

      limit : ℕ
      limit = old.pages.cache.limit

      bytes : List (List ℕ)
      bytes = written_pages old.pages.cache.pager.page_size at b 0 content

      residents : List Resident
      residents = map (cleaned old.pages.cache.pager.page_size at (length b)) (map resident_of old.pages.cache.held)

  -- no writer comes
  writers : (page id : ℕ) → IsWriter regions.regions regions.records page id → IsWriter old.regions.regions old.regions.records page id
  writers page id writer = record {
    shared = ap (λ (now : RegionsNow). is_shared now.regions id) (sym strips.others) ∙ writer.shared;
    writes = by_record (nat_le first page && nat_lt page end) (record_of old.regions.records id page)
        (subst (λ o. IsSomeAnd o (λ (r : Record). r.write ≡ true)) (strips.found id page) writer.writes);
  }
    where
      by_record : (b : Bool) (o : Option Record) → IsSomeAnd (if b then option_map unexecuted o else o) (λ (r : Record). r.write ≡ true) → IsSomeAnd o (λ (r : Record). r.write ≡ true)
      by_record false o there = there
      by_record true None there = absurd there
      by_record true (Some r) there = there

  pub kept_written : (e : FileEvent) (answer : FileReply) → IsKept hash old → Acts hash old e None answer (with_parts old pages regions) → IsKept hash (with_parts old pages regions)
  kept_written e answer kept acts =
      kept_after hash old pages regions e answer kept acts wrote.sound wrote.marked strips.sound (ap (λ (now : RegionsNow). now.page) strips.others) (ap (λ (now : RegionsNow). now.regions) strips.others)
      (seals_less old pages regions wrote.sizes kept.seals wrote.less (λ page gone. inl (sym (wrote.resident page) ∙ gone)) writers)

  pub checked_written : (piece : Data) (answer : FileReply) → count_written answer ≡ length b → KeepsChecked old (event.Write at piece) answer (with_parts old pages regions)
  checked_written piece answer counted = record {
    stays = λ page there. stays page there (is_reached old.pages.cache.pager.page_size at (length b) page) refl;
    comes = λ page gone there. absurd (comes page gone there);
  }
    where
      new : ObjectNow
      new = with_parts old pages regions

      stays : (page : ℕ) → is_checked old page ≡ true → (r : Bool) → is_reached old.pages.cache.pager.page_size at (length b) page ≡ r
          → is_checked (with_parts old pages regions) page ≡ (not (takes_out old (event.Write at piece) answer page) && checked.is_resident (with_parts old pages regions) page)
      stays page there r e =
          let resident : checked.is_resident (with_parts old pages regions) page ≡ true = wrote.resident page ∙ checked_resident old page there in
          let out : takes_out old (event.Write at piece) answer page ≡ r = ap (λ n. is_reached old.pages.cache.pager.page_size at n page) counted ∙ e in
          checked_is (with_parts old pages regions) page
          ∙ ap (λ b. b && is_validated (with_parts old pages regions) page) resident
          ∙ by_reached r e
          ∙ sym (ap (λ b. not b && checked.is_resident (with_parts old pages regions) page) out ∙ ap (λ b. not r && b) resident)
        where
          by_reached : (r : Bool) → is_reached old.pages.cache.pager.page_size at (length b) page ≡ r → (true && is_validated (with_parts old pages regions) page) ≡ (not r && true)
          by_reached true e = ap is_some (wrote.changed page e)
          by_reached false e = ap is_some (wrote.others page e (checked_resident old page there)) ∙ checked_validated old page there

      comes : (page : ℕ) → is_checked old page ≡ false → is_checked (with_parts old pages regions) page ≡ true → ⊥
      comes page gone there =
          let resident : checked.is_resident old page ≡ true = sym (wrote.resident page) ∙ checked_resident (with_parts old pages regions) page there in
          let valid : is_validated old page ≡ true = still (marks_of pages.marks page).validated refl (checked_validated (with_parts old pages regions) page there) in
          false≢true (sym gone ∙ checked_is old page ∙ ap (λ b. b && is_validated old page) resident ∙ valid)
        where
          still : (o : Option Seal) → (marks_of pages.marks page).validated ≡ o → is_some (marks_of pages.marks page).validated ≡ true → is_validated old page ≡ true
          still None e some = absurd (false≢true (sym (ap is_some e) ∙ some))
          still (Some seal) e some = ap is_some ((wrote.less page).validated seal e)

-- ---- the pager calls

same_calls : (old : ObjectNow) (content : List (List ℕ)) (at count : ℕ) → calls_of_page (seen old content) at count ≡ calls_on old.pages.cache at count
same_calls old content at count = fun_ext (λ page.
    ap (λ b. if b || is_whole old.pages.cache.pager.page_size at count page then page ∷ [] else page ∷ page ∷ []) (resident_is old content page))

same_reached : (size at count : ℕ) → reached size at count ≡ range_with_len (at / size) (end_reached size at count - at / size)
same_reached size at zero = ap (range_with_len (at / size)) {x = 0} {y = at / size - at / size} (omega arith)
same_reached size at (suc count) = refl

all_calls : (hash : Hash) (old : ObjectNow) (content : List (List ℕ)) (at : ℕ) (piece : Data) → nat_lt old.length (at + length (data_bytes piece)) ≡ false
    → page_calls hash (seen old content) (event.Write at piece) ≡ calls_before old.pages.cache at (length (data_bytes piece)) (end_reached old.pages.cache.pager.page_size at (length (data_bytes piece)))
all_calls hash old content at piece within =
    ap (λ b. if b then [] else flat_map (calls_of_page (seen old content) at (length (data_bytes piece))) (reached old.pages.cache.pager.page_size at (length (data_bytes piece)))) within
    ∙ ap (λ f. flat_map f (reached old.pages.cache.pager.page_size at (length (data_bytes piece)))) (same_calls old content at (length (data_bytes piece)))
    ∙ ap (flat_map (calls_on old.pages.cache at (length (data_bytes piece)))) (same_reached old.pages.cache.pager.page_size at (length (data_bytes piece)))

-- what each of them is
same_kinds : (old : ObjectNow) (content : List (List ℕ)) (at count : ℕ)
    → (λ page. reached_calls (is_resident (seen old content) page || is_whole old.pages.cache.pager.page_size at count page) page) ≡ kinds_on old.pages.cache at count
same_kinds old content at count = fun_ext (λ page. ap (λ b. reached_calls (b || is_whole old.pages.cache.pager.page_size at count page) page) (resident_is old content page))

all_kinds : (hash : Hash) (old : ObjectNow) (content : List (List ℕ)) (at : ℕ) (piece : Data) → nat_lt old.length (at + length (data_bytes piece)) ≡ false
    → pager_calls hash (seen old content) (event.Write at piece) ≡ kinds_before old.pages.cache at (length (data_bytes piece)) (end_reached old.pages.cache.pager.page_size at (length (data_bytes piece)))
all_kinds hash old content at piece within =
    ap (λ b. if b then [] else flat_map (λ page. reached_calls (is_resident (seen old content) page || is_whole old.pages.cache.pager.page_size at (length (data_bytes piece)) page) page)
    (reached old.pages.cache.pager.page_size at (length (data_bytes piece)))) within
    ∙ ap (λ f. flat_map f (reached old.pages.cache.pager.page_size at (length (data_bytes piece)))) (same_kinds old content at (length (data_bytes piece)))
    ∙ ap (flat_map (kinds_on old.pages.cache at (length (data_bytes piece)))) (same_reached old.pages.cache.pager.page_size at (length (data_bytes piece)))

-- those for the pages before one and for that one come first
range_split : (first m n : ℕ) → range_with_len first (m + n) ≡ range_with_len first m ++ range_with_len (first + m) n
range_split first zero n = ap (λ k. range_with_len k (0 + n)) {x = first} {y = first + 0} (omega arith) ∙ ap (range_with_len (first + 0)) {x = 0 + n} {y = n} (omega arith)
range_split first (suc m) n =
    ap (range_with_len first) {x = suc m + n} {y = suc (m + n)} (omega arith)
    ∙ ap (λ rest. first ∷ rest) (range_split (first + 1) m n ∙ ap (λ k. range_with_len (first + 1) m ++ range_with_len k n) {x = first + 1 + m} {y = first + suc m} (omega arith))

pages_first : {X : Type 0} (f : ℕ → List X) (first page end : ℕ) → first ≤ page → page < end → flat_map f (range_with_len first (page + 1 - first)) ≡ flat_map f (range_with_len first (page - first)) ++ f page
    → flat_map f (range_with_len first (end - first)) ≡ (flat_map f (range_with_len first (page - first)) ++ f page) ++ flat_map f (range_with_len (page + 1) (end - (page + 1)))
pages_first f first page end later before next =
    ap (λ n. flat_map f (range_with_len first n)) {x = end - first} {y = page + 1 - first + (end - (page + 1))} (omega arith)
    ∙ ap (flat_map f) (range_split first (page + 1 - first) (end - (page + 1)))
    ∙ flat_map-append f (range_with_len first (page + 1 - first)) (range_with_len (first + (page + 1 - first)) (end - (page + 1)))
    ∙ ap (λ l. l ++ flat_map f (range_with_len (first + (page + 1 - first)) (end - (page + 1)))) next
    ∙ ap (λ n. (flat_map f (range_with_len first (page - first)) ++ f page) ++ flat_map f (range_with_len n (end - (page + 1)))) {x = first + (page + 1 - first)} {y = page + 1} (omega arith)

calls_first : (c : CacheNow) (at count page end : ℕ) → at / c.pager.page_size ≤ page → page < end
    → calls_before c at count end ≡ (calls_before c at count page ++ calls_on c at count page) ++ flat_map (calls_on c at count) (range_with_len (page + 1) (end - (page + 1)))
calls_first c at count page end later before = pages_first (calls_on c at count) (at / c.pager.page_size) page end later before (calls_next c at count page later)

kinds_first : (c : CacheNow) (at count page end : ℕ) → at / c.pager.page_size ≤ page → page < end
    → kinds_before c at count end ≡ (kinds_before c at count page ++ kinds_on c at count page) ++ flat_map (kinds_on c at count) (range_with_len (page + 1) (end - (page + 1)))
kinds_first c at count page end later before = pages_first (kinds_on c at count) (at / c.pager.page_size) page end later before (kinds_next c at count page later)

get_first : {X : Type 0} (xs ys : List X) (i : ℕ) (x : X) → slice_get xs i ≡ Some x → slice_get (xs ++ ys) i ≡ Some x
get_first [] ys i x e = absurd (cc)
get_first (z ∷ xs) ys zero x e = e
get_first (z ∷ xs) ys (suc i) x e = get_first xs ys i x e

-- a call that failed is one of them, also where there are others behind it
failed_more : (xs ys : List ℕ) (outcome page : ℕ) → failed_page xs outcome ≡ Some page → failed_page (xs ++ ys) outcome ≡ Some page
failed_more xs ys zero page e = absurd (cc)
failed_more xs ys (suc k) page e = get_first xs ys k page e

failed_within : (xs : List ℕ) (outcome page : ℕ) → failed_page xs outcome ≡ Some page → outcome ≤ length xs
failed_within xs zero page e = omega arith
failed_within xs (suc k) page e = let inside = slice_get_within xs k page e in omega arith

failed_some : (xs : List ℕ) (outcome page : ℕ) → failed_page xs outcome ≡ Some page → has_failed outcome ≡ true
failed_some xs zero page e = absurd (cc)
failed_some xs (suc k) page e = refl

failed_made : (xs : List ℕ) (outcome page : ℕ) → failed_page xs outcome ≡ Some page → (count : ℕ) → calls_made outcome count ≡ outcome
failed_made xs zero page e count = absurd (cc)
failed_made xs (suc k) page e count = refl

failed_results : (xs : List ℕ) (outcome page : ℕ) → failed_page xs outcome ≡ Some page → (count : ℕ) → results 0 outcome ≡ results count outcome
failed_results xs zero page e count = absurd (cc)
failed_results xs (suc k) page e count = refl

-- ---- the whole call

room_same : (old new : RegionsNow) → spare new ≡ spare old → LeavesRoom (record { regions = 0; records = 0; copies = 0 }) old new
room_same old new same = record {
  regions = let now = ap (λ (room : Room). room.regions) same in omega arith;
  records = let now = ap (λ (room : Room). room.records) same in omega arith;
  copies = let now = ap (λ (room : Room). room.copies) same in omega arith;
}

module _ (hash : Hash) (old : ObjectNow) (at : ℕ) (piece : Data) (pages : PagesNow) (regions : RegionsNow) (kept : IsKept hash old)
    (within : nat_lt old.length (at + length (data_bytes piece)) ≡ false) where
  abbrev size : ℕ
  size = old.pages.cache.pager.page_size

  abbrev bytes : List ℕ
  bytes = data_bytes piece

  abbrev content : List (List ℕ)
  content = some_pages old.pages.cache

  known : IsTrue (is_page_size old.pages.cache.pager.page_size)
  known = kept.sound.sized.size

  in_range : (page : ℕ) → (nat_le (at / old.pages.cache.pager.page_size) page && nat_lt page (end_reached old.pages.cache.pager.page_size at (length (data_bytes piece)))) ≡ true
      → (at / old.pages.cache.pager.page_size ≤ page) × (page < end_reached old.pages.cache.pager.page_size at (length (data_bytes piece)))
  in_range page e = (grind (arith, common_steps, e), grind (arith, common_steps, e))

  -- all data stand
  pub writes_all : WroteAll hash old.pages at (data_bytes piece) pages → Strips old.regions (at / old.pages.cache.pager.page_size) (end_reached old.pages.cache.pager.page_size at (length (data_bytes piece))) regions
      → Does hash old (event.Write at piece) None (reply.Written (length (data_bytes piece))) (with_parts old pages regions)
  writes_all all strips = record {
    acts = acts;
    checked = checked_written hash old at bytes pages regions (at / size) (end_reached size at (length bytes)) all.wrote strips same piece (reply.Written (length bytes)) refl;
    unhashed = all.wrote.calls;
    kept = kept_written hash old at bytes pages regions (at / size) (end_reached size at (length bytes)) all.wrote strips same (event.Write at piece) (reply.Written (length bytes)) kept acts;
  }
    where
      same : (page : ℕ) → (nat_le (at / old.pages.cache.pager.page_size) page && nat_lt page (end_reached old.pages.cache.pager.page_size at (length (data_bytes piece)))) ≡ is_reached old.pages.cache.pager.page_size at (length (data_bytes piece)) page
      same page = sym (reached_all old.pages.cache.pager.page_size at (length (data_bytes piece)) page known)

      count : length (page_calls hash (seen old (some_pages old.pages.cache)) (event.Write at piece)) ≡ length (calls_before old.pages.cache at (length (data_bytes piece)) (end_reached old.pages.cache.pager.page_size at (length (data_bytes piece))))
      count = ap length (all_calls hash old (some_pages old.pages.cache) at piece within)

      acts : Acts hash old (event.Write at piece) None (reply.Written (length (data_bytes piece))) (with_parts old pages regions)
      acts = record {
        pages = content;
        pages_after = written_pages size at bytes 0 content;
        outcome = 0;
        few = omega arith;
        calls = subst (λ (calls : List PagerCall). Called old.pages.cache.pager calls pages.cache.pager)
            (sym (done_all hash (seen old content) (event.Write at piece) ∙ all_kinds hash old content at piece within)) all.went.called;
        reads = reads_are (reads_of (kinds_before old.pages.cache at (length bytes) (end_reached size at (length bytes)))) (reads_made hash (seen old content) (event.Write at piece) 0)
            old.pages.cache.pager.reads pages.cache.pager.reads
            (sym (reads_all hash (seen old content) (event.Write at piece) ∙ ap reads_of (all_kinds hash old content at piece within))) all.went.reads;
        found = some_finds old.pages.cache kept.sound;
        found_after = all.wrote.found content (some_finds old.pages.cache kept.sound);
        step = ap (λ file. (reply.Written (length bytes), file)) (seen_written hash old at bytes pages regions (at / size) (end_reached size at (length bytes)) all.wrote strips same content)
            ∙ sym (ap (λ b. if b then (reply.PastEnd old.length, seen old content) else write_by None (seen old content) at bytes) within);
        faults = all.went.faults;
        told = tells_of old.pages.cache.pager pages.cache.pager (length (page_calls hash (seen old content) (event.Write at piece))) 0 (omega arith)
            (subst (λ n. MadeCalls old.pages.cache.pager (replicate n false) pages.cache.pager) (sym count) all.went.made);
        sizes = all.wrote.sizes;
        room = room_same old.regions regions strips.room;
        gains = gains_spare nothing_back old.regions regions strips.room (ap (λ (now : RegionsNow). now.room) strips.others);
      }

  -- the data before the page that failed stand
  pub writes_before : (stop : ℕ) → WroteBefore hash old.pages at (data_bytes piece) stop pages → Strips old.regions (at / old.pages.cache.pager.page_size) stop regions
      → Does hash old (event.Write at piece) None (reply.Short (stop * old.pages.cache.pager.page_size - at)) (with_parts old pages regions)
  writes_before stop some strips = record {
    acts = acts;
    checked = checked_written hash old at part pages regions (at / size) stop some.wrote strips same piece (reply.Short (stop * size - at)) (sym (long_before size at bytes stop known reaches));
    unhashed = some.wrote.calls;
    kept = kept_written hash old at part pages regions (at / size) stop some.wrote strips same (event.Write at piece) (reply.Short (stop * size - at)) kept acts;
  }
    where
      part : List ℕ
      part = part_before old.pages.cache.pager.page_size at (data_bytes piece) stop

      reaches : Reaches old.pages.cache.pager.page_size at (length (data_bytes piece)) stop
      reaches = reached_true old.pages.cache.pager.page_size at (length (data_bytes piece)) stop known some.reached

      same : (page : ℕ) → (nat_le (at / old.pages.cache.pager.page_size) page && nat_lt page stop) ≡ is_reached old.pages.cache.pager.page_size at (length (part_before old.pages.cache.pager.page_size at (data_bytes piece) stop)) page
      same page = sym (reached_before old.pages.cache.pager.page_size at (data_bytes piece) stop page known reaches)

      later : at / old.pages.cache.pager.page_size ≤ stop
      later = (in_range (stop) (sym (reached_all old.pages.cache.pager.page_size at (length (data_bytes piece)) stop known) ∙ some.reached)).0

      before : stop < end_reached old.pages.cache.pager.page_size at (length (data_bytes piece))
      before = (in_range (stop) (sym (reached_all old.pages.cache.pager.page_size at (length (data_bytes piece)) stop known) ∙ some.reached)).1

      rest : List ℕ
      rest = flat_map (calls_on old.pages.cache at (length (data_bytes piece))) (range_with_len (stop + 1) (end_reached old.pages.cache.pager.page_size at (length (data_bytes piece)) - (stop + 1)))

      firsts : List ℕ
      firsts = calls_before old.pages.cache at (length (data_bytes piece)) stop ++ calls_on old.pages.cache at (length (data_bytes piece)) stop

      calls : page_calls hash (seen old (some_pages old.pages.cache)) (event.Write at piece)
          ≡ (calls_before old.pages.cache at (length (data_bytes piece)) stop ++ calls_on old.pages.cache at (length (data_bytes piece)) stop)
          ++ flat_map (calls_on old.pages.cache at (length (data_bytes piece))) (range_with_len (stop + 1) (end_reached old.pages.cache.pager.page_size at (length (data_bytes piece)) - (stop + 1)))
      calls = all_calls hash old (some_pages old.pages.cache) at piece within
          ∙ calls_first old.pages.cache at (length (data_bytes piece)) stop (end_reached old.pages.cache.pager.page_size at (length (data_bytes piece))) later before

      -- the call that failed is for a page up to this one
      within_firsts : some.stopped.outcome ≤ length (kinds_before old.pages.cache at (length (data_bytes piece)) stop ++ kinds_on old.pages.cache at (length (data_bytes piece)) stop)
      within_firsts =
          let few = failed_within (calls_before old.pages.cache at (length (data_bytes piece)) stop ++ calls_on old.pages.cache at (length (data_bytes piece)) stop) some.stopped.outcome stop some.stopped.failed in
          let one = ap length (kinds_next old.pages.cache at (length (data_bytes piece)) stop later) in
          let other = ap length (calls_next old.pages.cache at (length (data_bytes piece)) stop later) in
          let many = kinds_many old.pages.cache at (length (data_bytes piece)) (stop + 1) in
          omega arith

      done_first : calls_done hash (seen old (some_pages old.pages.cache)) (event.Write at piece) some.stopped.outcome
          ≡ take some.stopped.outcome (kinds_before old.pages.cache at (length (data_bytes piece)) stop ++ kinds_on old.pages.cache at (length (data_bytes piece)) stop)
      done_first =
          ap (λ n. take n (pager_calls hash (seen old (some_pages old.pages.cache)) (event.Write at piece)))
          (failed_made (calls_before old.pages.cache at (length (data_bytes piece)) stop ++ calls_on old.pages.cache at (length (data_bytes piece)) stop) some.stopped.outcome stop some.stopped.failed
          (length (page_calls hash (seen old (some_pages old.pages.cache)) (event.Write at piece))))
          ∙ ap (λ (calls : List PagerCall). take some.stopped.outcome calls) (all_kinds hash old (some_pages old.pages.cache) at piece within
          ∙ kinds_first old.pages.cache at (length (data_bytes piece)) stop (end_reached old.pages.cache.pager.page_size at (length (data_bytes piece))) later before)
          ∙ take-append-le some.stopped.outcome (kinds_before old.pages.cache at (length (data_bytes piece)) stop ++ kinds_on old.pages.cache at (length (data_bytes piece)) stop)
          (flat_map (kinds_on old.pages.cache at (length (data_bytes piece))) (range_with_len (stop + 1) (end_reached old.pages.cache.pager.page_size at (length (data_bytes piece)) - (stop + 1))))
          within_firsts

      reads_first : reads_made hash (seen old (some_pages old.pages.cache)) (event.Write at piece) some.stopped.outcome
          ≡ reads_of (take some.stopped.outcome (kinds_before old.pages.cache at (length (data_bytes piece)) stop ++ kinds_on old.pages.cache at (length (data_bytes piece)) stop))
      reads_first = ap reads_of done_first

      failed : failed_page (page_calls hash (seen old (some_pages old.pages.cache)) (event.Write at piece)) some.stopped.outcome ≡ Some stop
      failed = ap (λ l. failed_page l some.stopped.outcome) calls
          ∙ failed_more (calls_before old.pages.cache at (length (data_bytes piece)) stop ++ calls_on old.pages.cache at (length (data_bytes piece)) stop)
          (flat_map (calls_on old.pages.cache at (length (data_bytes piece))) (range_with_len (stop + 1) (end_reached old.pages.cache.pager.page_size at (length (data_bytes piece)) - (stop + 1))))
          some.stopped.outcome stop some.stopped.failed

      acts : Acts hash old (event.Write at piece) None (reply.Short (stop * old.pages.cache.pager.page_size - at)) (with_parts old pages regions)
      acts = record {
        pages = content;
        pages_after = written_pages size at (part_before size at bytes stop) 0 content;
        outcome = some.stopped.outcome;
        few = failed_within (page_calls hash (seen old content) (event.Write at piece)) some.stopped.outcome stop failed;
        calls = subst (λ (calls : List PagerCall). Called old.pages.cache.pager calls pages.cache.pager) (sym done_first) some.stopped.called;
        reads = reads_are (reads_of (take some.stopped.outcome (kinds_before old.pages.cache at (length bytes) stop ++ kinds_on old.pages.cache at (length bytes) stop)))
            (reads_made hash (seen old content) (event.Write at piece) some.stopped.outcome) old.pages.cache.pager.reads pages.cache.pager.reads (sym reads_first) some.stopped.reads;
        found = some_finds old.pages.cache kept.sound;
        found_after = some.wrote.found content (some_finds old.pages.cache kept.sound);
        step = ap (λ file. (reply.Short (stop * size - at), file)) (seen_written hash old at (part_before size at bytes stop) pages regions (at / size) stop some.wrote strips same content)
            ∙ sym (ap (λ b. if b then (reply.PastEnd old.length, seen old content) else write_by (failed_page (page_calls hash (seen old content) (event.Write at piece)) some.stopped.outcome) (seen old content) at bytes) within
            ∙ ap (λ f. write_by f (seen old content) at bytes) failed);
        faults = subst (λ b. FaultsAfter b old.pages.cache.pager.faults pages.cache.pager.faults)
            (sym (failed_some (page_calls hash (seen old content) (event.Write at piece)) some.stopped.outcome stop failed)) some.stopped.faults;
        told = tells_of old.pages.cache.pager pages.cache.pager (length (page_calls hash (seen old content) (event.Write at piece))) some.stopped.outcome
            (failed_within (page_calls hash (seen old content) (event.Write at piece)) some.stopped.outcome stop failed)
            (subst (λ l. MadeCalls old.pages.cache.pager l pages.cache.pager)
            (failed_results (page_calls hash (seen old content) (event.Write at piece)) some.stopped.outcome stop failed (length (page_calls hash (seen old content) (event.Write at piece)))) some.stopped.made);
        sizes = some.wrote.sizes;
        room = room_same old.regions regions strips.room;
        gains = gains_spare nothing_back old.regions regions strips.room (ap (λ (now : RegionsNow). now.room) strips.others);
      }

  -- how the writing of the pages ended: at which page, and with which reply
  pub record AllDone (end : ℕ × FileReply) : Type 0 where
    pub all : WroteAll hash old.pages at (data_bytes piece) pages
    pub to : end.0 ≡ end_reached old.pages.cache.pager.page_size at (length (data_bytes piece))
    pub answer : end.1 ≡ reply.Written (length (data_bytes piece))

  pub record StoppedAt (end : ℕ × FileReply) : Type 0 where
    pub stop : ℕ
    pub before : WroteBefore hash old.pages at (data_bytes piece) stop pages
    pub to : end.0 ≡ stop
    pub answer : end.1 ≡ reply.Short (stop * old.pages.cache.pager.page_size - at)

  pub ends_late : (end : ℕ × FileReply) → AllDone end ⊎ StoppedAt end → at / old.pages.cache.pager.page_size ≤ end.0
  ends_late end (inl done) = subst (λ n. at / old.pages.cache.pager.page_size ≤ n) (sym done.to) (from_before_end old.pages.cache.pager.page_size at (length (data_bytes piece))
      old.pages.cache.pager.page_size (end_reached old.pages.cache.pager.page_size at (length (data_bytes piece))) known refl refl)
  ends_late end (inr stopped) = subst (λ n. at / old.pages.cache.pager.page_size ≤ n) (sym stopped.to)
      (in_range stopped.stop (sym (reached_all old.pages.cache.pager.page_size at (length (data_bytes piece)) stopped.stop known) ∙ stopped.before.reached)).0

  pub writes : (end : ℕ × FileReply) → AllDone end ⊎ StoppedAt end → Strips old.regions (at / old.pages.cache.pager.page_size) end.0 regions
      → Does hash old (event.Write at piece) None end.1 (with_parts old pages regions)
  writes end (inl done) strips =
      subst (λ answer. Does hash old (event.Write at piece) None answer (with_parts old pages regions)) (sym done.answer)
      (writes_all done.all (subst (λ n. Strips old.regions (at / old.pages.cache.pager.page_size) n regions) done.to strips))
  writes end (inr stopped) strips =
      subst (λ answer. Does hash old (event.Write at piece) None answer (with_parts old pages regions)) (sym stopped.answer)
      (writes_before stopped.stop stopped.before (subst (λ n. Strips old.regions (at / old.pages.cache.pager.page_size) n regions) stopped.to strips))

-- the first byte of the page that failed lies within the data
pub short_fits : (hash : Hash) (old : PagesNow) (new : PagesNow) (at count : ℕ) (bytes : List ℕ) (page size : ℕ) → IsTrue (is_page_size old.cache.pager.page_size) → WroteBefore hash old at bytes page new
    → size ≡ old.cache.pager.page_size → count ≡ length bytes → at + count < 2 ^ 64 → page * size < 2 ^ 64
short_fits hash old new at count bytes page size known before same counted below =
    let begins = (reached_true old.cache.pager.page_size at (length bytes) page known before.reached).2 in
    let less : page * size < at + count = subst (λ s. page * s < at + count) (sym same) (subst (λ n. page * old.cache.pager.page_size < at + n) (sym counted) begins) in
    omega arith
