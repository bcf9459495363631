-- The reading of a signature is the plain step.
use Rattle.std.proofs.Common.{◌≡◌, ℕ, zero, suc, ◌+◌, ◌-◌, ◌/◌, ◌<◌, ◌≤◌, false, List, [], ◌∷◌, ◌++◌, length, take, drop, replicate, Option, Some, None, refl, sym, ap, subst, ◌∙◌, arith, not, inl, inr, length-append, append_assoc, map}
use Rattle.std.specs.Prelude.{◌⊎◌, IsTrue, is_some, filter, slice_get}
use Rattle.std.specs.List.{concat, range_with_len}
use mathlib.Core.Path.{fun_ext}
use Rattle.pg_bytes.specs.PageSize.{is_page_size}
use Rattle.pg_bytes.specs.declared.fields.Range.{Range}
use Rattle.pg_digest.specs.Kinds.{Hash}
use Rattle.pg_io.specs.Pager.{MadeCalls}
use Rattle.cs_policy.specs.declared.file.FileEvent.TheVariants as event
use Rattle.cs_policy.specs.declared.file.FileReply.{FileReply}
use Rattle.cs_policy.specs.declared.file.FileReply.TheVariants as reply
use Rattle.cs_policy.specs.declared.layout.Layout.{Layout}
use Rattle.cs_policy.specs.declared.layout.Layout.TheVariants as layout
use Rattle.cs_policy.specs.declared.layout.SliceSeat.TheVariants as seat
use Rattle.pg_cache.specs.Held.{Held, find_held}
use Rattle.pg_cache.specs.Cache.{CacheNow, resident_page}
use Rattle.pg_pages.specs.Marks.{Marks, blank, marks_of}
use Rattle.pg_pages.specs.Pages.{PagesNow}
use Rattle.pg_plain.specs.PlainFile.{bytes_of_file}
use Rattle.pg_plain.specs.Calls.{reached, seat_of, signature_calls, page_calls, failed_page}
use Rattle.pg_plain.specs.Steps.{read_or_fault, read_slice, read_signature}
use Rattle.pg_io.specs.declared.pager_call.PagerCall.{PagerCall}
use Rattle.pg_io.specs.declared.pager_call.PagerCall.TheVariants.{Reads}
use Rattle.pg_object.specs.Object.{ObjectNow, seen}
use Rattle.pg_object.specs.Kept.{IsKept}
use Rattle.pg_object.specs.Acts.{nothing_back, Acts}
use Rattle.pg_object.proofs.RoomFacts.{gains_same}
use Rattle.pg_object.specs.Writes.{end_reached}
use Rattle.pg_object.specs.Reads.{HasSignature, HasNoSignature, unread_before, OnlyLooks, ReadBefore, ReadFailed}
use Rattle.pg_object.specs.PagerCalls.{Called, reads_made}
use Rattle.pg_object.proofs.PagerCallFacts.{reads_are, reads_of_reads, done_all, read_front}
use Rattle.pg_object.proofs.TellFacts.{tells_of}
use Rattle.pg_object.proofs.KeepFacts.{resident_is}
use Rattle.pg_object.proofs.CheckedFacts.{checked_quietly}
use Rattle.pg_object.proofs.QuietFacts.{Does, room_stays}
use Rattle.pg_object.proofs.SameFacts.{acts_same, unchanged_seen}
use Rattle.pg_object.proofs.SealFacts.{with_parts, Same, Gone, Fates, does_parts, fewer_same}
use Rattle.pg_object.proofs.RangeFacts.{all_read}
use Rattle.pg_object.proofs.ReadFacts.{unread, unread_next}

-- ---- the signature of a slice

has_read : (now : ObjectNow) (slice : ℕ) (range : Range) → HasSignature now slice range → (pages : List (List ℕ)) (failed : Option ℕ)
    → read_signature (seen now pages) slice failed ≡ read_or_fault failed (bytes_of_file (seen now pages) range.at range.len)
has_read now slice range has pages failed = by_layout now.layout has.seat
  where
    by_layout : (l : Layout) → seat_of (record (seen now []) { layout = l }) slice ≡ Some (seat.Signed has.signed range)
        → read_signature (record (seen now pages) { layout = l }) slice failed ≡ read_or_fault failed (bytes_of_file (seen now pages) range.at range.len)
    by_layout (layout.Refused refusal) e = absurd (cc)
    by_layout (layout.Slices seats) e = ap (λ o. read_slice (seen now pages) (length seats) o failed) e

-- ---- the pages that are read

reached_is : (size at count : ℕ) → reached size at count ≡ range_with_len (at / size) (end_reached size at count - at / size)
reached_is size at zero = ap (range_with_len (at / size)) {x = 0} {y = at / size - at / size} (omega arith)
reached_is size at (suc count) = refl

calls_are : (hash : Hash) (now : ObjectNow) (slice : ℕ) (range : Range) → HasSignature now slice range → (pages : List (List ℕ))
    → page_calls hash (seen now pages) (event.ReadSignature slice) ≡ unread_before now.pages.cache range.at (end_reached now.pages.cache.pager.page_size range.at range.len)
calls_are hash now slice range has pages =
    ap (signature_calls (seen now pages)) has.seat
    ∙ ap (λ f. filter f (reached now.pages.cache.pager.page_size range.at range.len)) (fun_ext (λ q. ap not (resident_is now pages q)))
    ∙ ap (filter (λ q. not (is_some (resident_page now.pages.cache q)))) (reached_is now.pages.cache.pager.page_size range.at range.len)

-- behind a page there are only more
more_unread : (cache : CacheNow) (at page : ℕ) → at / cache.pager.page_size ≤ page → (n : ℕ) → (rest : List ℕ) × (unread_before cache at (page + n) ≡ unread_before cache at page ++ rest)
more_unread cache at page first zero = ([], ap (unread_before cache at) {x = page + 0} {y = page} (omega arith) ∙ sym (append_nil (unread_before cache at page)))
  where
    append_nil : (xs : List ℕ) → xs ++ [] ≡ xs
    append_nil [] = refl
    append_nil (x ∷ xs) = ap (λ (l : List ℕ). x ∷ l) (append_nil xs)
more_unread cache at page first (suc n) =
    let before = more_unread cache at page first n in
    let here = unread (is_some (resident_page cache (page + n))) (page + n) in (
      before.0 ++ here,
      ap (unread_before cache at) {x = page + suc n} {y = page + n + 1} (omega arith) ∙ unread_next cache at (page + n) (omega arith)
          ∙ ap (λ (l : List ℕ). l ++ here) before.1 ∙ append_assoc (unread_before cache at page) before.0 here,
    )

get_middle : (xs : List ℕ) (x : ℕ) (rest : List ℕ) → slice_get ((xs ++ x ∷ []) ++ rest) (length xs) ≡ Some x
get_middle [] x rest = refl
get_middle (y ∷ xs) x rest = get_middle xs x rest

unread_at : (cache : CacheNow) (at page end : ℕ) → at / cache.pager.page_size ≤ page → page < end → resident_page cache page ≡ None
    → (slice_get (unread_before cache at end) (length (unread_before cache at page)) ≡ Some page) × ((length (unread_before cache at page) < length (unread_before cache at end))
    × ((rest : List ℕ) × (unread_before cache at end ≡ (unread_before cache at page ++ page ∷ []) ++ rest)))
unread_at cache at page end first last absent =
    let more = more_unread cache at (page + 1) (omega arith) (end - (page + 1)) in
    let here : unread_before cache at (page + 1) ≡ unread_before cache at page ++ page ∷ [] =
    unread_next cache at page first ∙ ap (λ (o : Option Held). unread_before cache at page ++ unread (is_some o) page) absent in
    let all : unread_before cache at end ≡ (unread_before cache at page ++ page ∷ []) ++ more.0 =
    ap (unread_before cache at) {x = end} {y = page + 1 + (end - (page + 1))} (omega arith) ∙ more.1 ∙ ap (λ (l : List ℕ). l ++ more.0) here in
    let long : length (unread_before cache at end) ≡ length (unread_before cache at page) + 1 + length more.0 =
    ap length all ∙ length-append (unread_before cache at page ++ page ∷ []) more.0 ∙ ap (λ n. n + length more.0) (length-append (unread_before cache at page) (page ∷ [])) in
    (ap (λ (l : List ℕ). slice_get l (length (unread_before cache at page))) all ∙ get_middle (unread_before cache at page) page more.0, (omega arith, (more.0, all)))

-- ---- the call

module _ (hash : Hash) (old : ObjectNow) (kept : IsKept hash old) (slice : ℕ) where
  -- there is no signature
  pub reads_none : (answer : FileReply) → HasNoSignature old slice answer → Does hash old (event.ReadSignature slice) None answer old
  reads_none answer none = record {
    acts = acts_same hash old (event.ReadSignature slice) answer kept none.uncalled (λ pages found. ap (λ a. (a, seen old pages)) (none.answers pages _));
    checked = checked_quietly old old (event.ReadSignature slice) answer refl (λ page. refl);
    unhashed = refl;
    kept = kept;
  }

  looks_fates : (now : PagesNow) → OnlyLooks hash old.pages now → Fates old (with_parts old now old.regions)
  looks_fates now looks page = by_case (looks.marks page)
    where
      resident : is_some (resident_page now.cache page) ≡ is_some (resident_page old.pages.cache page)
      resident = ap (λ (l : List Held). is_some (find_held l page)) looks.held

      by_case : (marks_of now.marks page ≡ marks_of old.pages.marks page) ⊎ ((resident_page old.pages.cache page ≡ None) × (marks_of now.marks page ≡ blank))
          → Same old (with_parts old now old.regions) page ⊎ Gone (with_parts old now old.regions) page
      by_case (inl same) = inl (record {
        validated = ap (λ (m : Marks). m.validated) same;
        writable = ap (λ (m : Marks). m.writable) same;
        resident = resident;
      })
      by_case (inr gone) = inr (record {
        validated = ap (λ (m : Marks). m.validated) gone.1;
        writable = ap (λ (m : Marks). m.writable) gone.1;
        absent = resident ∙ ap is_some gone.0;
      })

  module _ (range : Range) (has : HasSignature old slice range) (now : PagesNow) where
    abbrev end : ℕ
    end = end_reached old.pages.cache.pager.page_size range.at range.len

    does_by : (answer : FileReply) → OnlyLooks hash old.pages now → Acts hash old (event.ReadSignature slice) None answer (with_parts old now old.regions)
        → Does hash old (event.ReadSignature slice) None answer (with_parts old now old.regions)
    does_by answer looks acts =
        does_parts hash old now old.regions (event.ReadSignature slice) answer kept acts looks.sound looks.marked looks.calls (looks_fates now looks) (fewer_same hash old kept) (λ page. refl)

    -- all was read
    pub reads : (bytes : List ℕ) → IsTrue (is_page_size old.pages.cache.pager.page_size) → ReadBefore hash old.pages range.at range.len end bytes now
        → Does hash old (event.ReadSignature slice) None (reply.Read bytes) (with_parts old now old.regions)
    reads bytes known was = does_by (reply.Read bytes) was.looks (record {
      pages = was.pages;
      pages_after = was.pages;
      outcome = 0;
      few = omega arith;
      found = was.before;
      found_after = was.after;
      step =
          ap (λ b. (reply.Read b, seen (with_parts old now old.regions) was.pages)) (was.read ∙ ap (λ n. take n (drop range.at (concat was.pages))) (all_read old.pages.cache.pager.page_size range.at range.len known))
          ∙ ap (λ file. (reply.Read (bytes_of_file (seen old was.pages) range.at range.len), file)) (unchanged_seen old now was.pages was.looks.sizes was.looks.held)
          ∙ ap (λ a. (a, seen old was.pages)) (sym (has_read old slice range has was.pages None));
      faults = was.faults;
      told = tells_of old.pages.cache.pager now.cache.pager (length (page_calls hash (seen old was.pages) (event.ReadSignature slice))) 0 (omega arith)
          (subst (λ (l : List ℕ). MadeCalls old.pages.cache.pager (replicate (length l) false) now.cache.pager) (sym (calls_are hash old slice range has was.pages)) was.made);
      calls = subst (λ (calls : List PagerCall). Called old.pages.cache.pager calls now.cache.pager)
          (sym (done_all hash (seen old was.pages) (event.ReadSignature slice) ∙ ap (map Reads) (calls_are hash old slice range has was.pages))) was.called;
      reads = reads_are (length (unread_before old.pages.cache range.at end)) (reads_made hash (seen old was.pages) (event.ReadSignature slice) 0) old.pages.cache.pager.reads now.cache.pager.reads
          (sym (reads_of_reads (length (page_calls hash (seen old was.pages) (event.ReadSignature slice))) (page_calls hash (seen old was.pages) (event.ReadSignature slice)) (omega arith)
          ∙ ap length (calls_are hash old slice range has was.pages))) was.reads;
      sizes = was.looks.sizes;
      room = room_stays old.regions;
      gains = gains_same nothing_back old.regions;
    })

    -- the read of a page failed
    pub reads_to : (page : ℕ) → ReadFailed hash old.pages range.at range.len page now → Does hash old (event.ReadSignature slice) None (reply.PagerFault page) (with_parts old now old.regions)
    reads_to page was =
        let before = length (unread_before old.pages.cache range.at page) in
        let there = unread_at old.pages.cache range.at page end was.first was.last was.unread in
        let calls = calls_are hash old slice range has was.pages in
        let few : before < length (page_calls hash (seen old was.pages) (event.ReadSignature slice)) = subst (λ (l : List ℕ). before < length l) (sym calls) there.1.0 in
        let failed : failed_page (page_calls hash (seen old was.pages) (event.ReadSignature slice)) (suc before) ≡ Some page = ap (λ (l : List ℕ). slice_get l before) calls ∙ there.0 in
        does_by (reply.PagerFault page) was.looks (record {
          pages = was.pages;
          pages_after = was.pages;
          outcome = suc before;
          few = omega arith;
          found = was.before;
          found_after = was.after;
          step =
              ap (λ file. (reply.PagerFault page, file)) (unchanged_seen old now was.pages was.looks.sizes was.looks.held)
              ∙ ap (λ a. (a, seen old was.pages)) (sym (has_read old slice range has was.pages (Some page)))
              ∙ ap (λ o. (read_signature (seen old was.pages) slice o, seen old was.pages)) (sym failed);
          faults = was.faults;
          told = tells_of old.pages.cache.pager now.cache.pager (length (page_calls hash (seen old was.pages) (event.ReadSignature slice))) (suc before) (omega arith) was.made;
          calls = subst (λ (calls : List PagerCall). Called old.pages.cache.pager calls now.cache.pager)
              (sym (ap (λ (l : List ℕ). take (suc before) (map Reads l)) (calls ∙ there.1.1.1) ∙ read_front (unread_before old.pages.cache range.at page) page there.1.1.0)) was.called;
          reads = reads_are (before + 1) (reads_made hash (seen old was.pages) (event.ReadSignature slice) (suc before)) old.pages.cache.pager.reads now.cache.pager.reads
              (sym (reads_of_reads (suc before) (page_calls hash (seen old was.pages) (event.ReadSignature slice)) (omega arith) ∙ omega arith)) was.reads;
          sizes = was.looks.sizes;
          room = room_stays old.regions;
          gains = gains_same nothing_back old.regions;
        })
