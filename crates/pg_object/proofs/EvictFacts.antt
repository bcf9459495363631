-- A page that leaves memory: the call is the plain step.
use Rattle.std.proofs.Common.{◌≡◌, ◌≢◌, ℕ, Bool, true, false, List, [], ◌∷◌, Option, Some, None, length, refl, sym, ap, subst, ◌∙◌, arith, not, inl, inr, ◌≤◌, map, take, ◌++◌}
use Rattle.std.specs.Prelude.{◌⊎◌, ◌==◌, ◌&&◌, All, Result, Ok, Err, IfSome, IsSomeAnd, MatchOption, MatchBool, is_some, option_map, if◌then◌else◌}
use Rattle.std.specs.Option.{option_map_or}
use Rattle.std.proofs.lemmas.Grind.{common_steps}
use Rattle.pg_digest.specs.Kinds.{Hash}
use Rattle.cs_policy.specs.declared.file.FileEvent.TheVariants as event
use Rattle.cs_policy.specs.declared.file.FileReply.TheVariants as reply
use Rattle.cs_policy.specs.declared.region.Record.{Record}
use Rattle.pg_io.specs.Pager.{MadeCalls}
use Rattle.pg_cache.specs.Held.{Held, find_held}
use Rattle.pg_cache.specs.Cache.{CacheNow, resident_page, is_dirty}
use Rattle.pg_cache.specs.Steps.{Leaves, WritesBack}
use Rattle.pg_cache.specs.Gives.{EvictGives}
use Rattle.pg_cache.specs.declared.fault.PagerFault.{PagerFault}
use Rattle.pg_cache.proofs.Laws.{some_pages, some_finds, evict_finds, evict_failed_finds}
use Rattle.pg_cache.proofs.MadeLaws.{save_calls_of, evict_made}
use Rattle.pg_regions.specs.Lookups.{Copy, is_shared, record_of, copy_of, bytes_of}
use Rattle.pg_regions.specs.RegionsNow.{RegionsNow, IsSound}
use Rattle.pg_regions.specs.Steps.{FindsUnmapped, KeepsRoom}
use Rattle.pg_regions.specs.Steps as steps
use Rattle.pg_pages.specs.Marks.{Marks, blank, marks_of}
use Rattle.pg_pages.specs.MarkSteps.{evicted}
use Rattle.pg_pages.specs.Pages.{PagesNow, IsMarked}
use Rattle.pg_pages.proofs.MarkLaws.{gone_here, gone_other}
use Rattle.pg_plain.specs.PlainFile.{PlainFile}
use Rattle.pg_plain.specs.PlainFile as plain
use Rattle.pg_plain.specs.Given.{unmapped, without_page}
use Rattle.pg_plain.specs.Calls.{page_calls, failed_page}
use Rattle.pg_plain.specs.Steps.{Answer, evict_by}
use Rattle.pg_io.specs.declared.pager_call.PagerCall.{PagerCall}
use Rattle.pg_io.specs.declared.pager_call.PagerCall.TheVariants.{Reads, Writes}
use Rattle.pg_cache.proofs.CalledLaws.{saves_of, evict_called, page_found}
use Rattle.pg_object.specs.Object.{ObjectNow, seen}
use Rattle.pg_object.specs.Kept.{IsInside, IsKept}
use Rattle.pg_object.specs.Acts.{results, Tells, nothing_back, given_back, Acts}
use Rattle.pg_object.specs.PagerCalls.{pager_calls, reads_made}
use Rattle.pg_object.proofs.PagerCallFacts.{no_reads, reads_are, reads_of_writes, done_all}
use Rattle.pg_object.proofs.RoomFacts.{gains_same, gains_records}
use Rattle.pg_object.proofs.TellFacts.{tells_of}
use Rattle.pg_object.proofs.KeepFacts.{resident_is}
use Rattle.pg_object.proofs.SameFacts.{plain_is, left_residents, unchanged_seen, dirty_is, acts_same}
use Rattle.pg_object.proofs.QuietFacts.{Does, Fewer, room_stays, room_kept}
use Rattle.pg_object.proofs.SealFacts.{with_parts, Same, Gone, Fates, does_parts, fewer_same}

-- ---- the pager calls

-- the write of a dirty page, if it is one
abbrev calls : Bool → ℕ → List ℕ
calls dirty page = if dirty then page ∷ [] else []

evict_calls : (hash : Hash) (old : ObjectNow) (pages : List (List ℕ)) (page : ℕ) → page_calls hash (seen old pages) (event.Evict page) ≡ calls (is_dirty old.pages.cache page) page
evict_calls hash old pages page = ap (λ (b : Bool). calls b page) (dirty_is old pages page)

-- what they are
evict_done : (hash : Hash) (old : ObjectNow) (pages : List (List ℕ)) (page : ℕ) → pager_calls hash (seen old pages) (event.Evict page) ≡ saves_of (resident_page old.pages.cache page)
evict_done hash old pages page = ap (map Writes) (evict_calls hash old pages page) ∙ by_page (resident_page old.pages.cache page) refl
  where
    by_page : (o : Option Held) → resident_page old.pages.cache page ≡ o → map Writes (calls (option_map_or (λ (h : Held). h.dirty) o false) page) ≡ saves_of o
    by_page None e = refl
    by_page (Some h) e = by_dirty h.dirty
      where
        by_dirty : (b : Bool) → map Writes (calls b page) ≡ (if b then Writes h.page ∷ [] else [])
        by_dirty true = ap (λ p. Writes p ∷ []) (sym (page_found old.pages.cache.held page h e))
        by_dirty false = refl

-- which of them were made
abbrev made_calls : Bool → Bool → List Bool
made_calls dirty failed = if dirty then failed ∷ [] else []

save_calls_are : (cache : CacheNow) (page : ℕ) (failed : Bool) → save_calls_of failed (resident_page cache page) ≡ made_calls (is_dirty cache page) failed
save_calls_are cache page failed = by_page (resident_page cache page) refl
  where
    by_page : (o : Option Held) → resident_page cache page ≡ o → save_calls_of failed (resident_page cache page) ≡ (if is_dirty cache page then failed ∷ [] else [])
    by_page None e = grind (arith, common_steps, e)
    by_page (Some h) e = grind (arith, common_steps, e)

-- ---- what is left

record_left : (old : ObjectNow) (pages : List (List ℕ)) (page : ℕ) (regions : RegionsNow) → FindsUnmapped old.regions regions page
    → (id p : ℕ) → record_of regions.records id p ≡ unmapped page (seen old pages) id p
record_left old pages page regions found id p = found id p ∙ by_test (p == page) refl
  where
    copied : (o : Option Copy) → is_some (option_map (λ (copy : Copy). copy.bytes) o) ≡ is_some o
    copied None = refl
    copied (Some copy) = refl

    by_test : (b : Bool) → (p == page) ≡ b → (if p == page && not (is_some (copy_of old.regions.copies id page)) then None else record_of old.regions.records id p)
        ≡ (if p == page && not (is_some (bytes_of old.regions.copies id p)) then None else record_of old.regions.records id p)
    by_test false e = grind (arith, common_steps, e)
    by_test true e =
        let same : p ≡ page = grind (arith, common_steps, e) in
        ap (λ (b : Bool). if p == page && not b then None else record_of old.regions.records id p)
        (sym (copied (copy_of old.regions.copies id page)) ∙ ap (λ (q : ℕ). is_some (bytes_of old.regions.copies id q)) (sym same))

evicted_seen : (old : ObjectNow) (now : PagesNow) (regions : RegionsNow) (page : ℕ) (pages : List (List ℕ)) → EvictGives old.pages.cache page (Ok true) now.cache
    → regions ≡ steps.unmapped page old.regions → FindsUnmapped old.regions regions page
    → seen (with_parts old now regions) pages ≡ record (seen old pages) { residents = without_page page (seen old pages).residents; records = unmapped page (seen old pages) }
evicted_seen old now regions page pages gives after found =
    plain_is (seen (with_parts old now regions) pages) (record (seen old pages) { residents = without_page page (seen old pages).residents; records = unmapped page (seen old pages) })
    gives.sizes.page_size refl gives.sizes.limit refl refl refl (ap (λ (r : RegionsNow). r.regions) after)
    (record_left old pages page regions found)
    (λ id p. ap (λ (r : RegionsNow). bytes_of r.copies id p) after)
    (left_residents old.pages.cache now.cache page gives.list)

-- ---- the call

-- the reply and what is left, by the outcome
abbrev evict_answer : Bool → Option ℕ → PlainFile → ℕ → Answer
evict_answer there failed file page = if there then evict_by failed file page else (reply.NotResident, file)

there_seen : (old : ObjectNow) (now : CacheNow) (page : ℕ) (left : Bool) (pages : List (List ℕ)) → EvictGives old.pages.cache page (Ok left) now → plain.is_resident (seen old pages) page ≡ left
there_seen old now page left pages gives = resident_is old pages page ∙ sym gives.answer

pub evicted_acts : (hash : Hash) (old : ObjectNow) (now : PagesNow) (regions : RegionsNow) (page : ℕ) → IsKept hash old → EvictGives old.pages.cache page (Ok true) now.cache
    → regions ≡ steps.unmapped page old.regions → FindsUnmapped old.regions regions page → KeepsRoom old.regions regions
    → Acts hash old (event.Evict page) None reply.Evicted (with_parts old now regions)
evicted_acts hash old now regions page kept gives after found room = record {
  pages = pages;
  pages_after = pages;
  outcome = 0;
  few = omega arith;
  found = some_finds old.pages.cache kept.sound;
  found_after = evict_finds old.pages.cache now.cache page true pages gives (some_finds old.pages.cache kept.sound);
  step =
      ap (λ file. (reply.Evicted, file)) (evicted_seen old now regions page pages gives after found)
      ∙ ap (λ (b : Bool). evict_answer b None (seen old pages) page) (sym (there_seen old now.cache page true pages gives));
  faults = gives.faults;
  told = tells_of old.pages.cache.pager now.cache.pager (length (page_calls hash (seen old pages) (event.Evict page))) 0 (omega arith) made;
  calls = evict_called old.pages.cache now.cache page (Ok true) gives.steps
      ∙ ap (λ (calls : List PagerCall). old.pages.cache.pager.calls ++ calls) (sym (done_all hash (seen old pages) (event.Evict page) ∙ evict_done hash old pages page));
  reads = reads_are 0 (reads_made hash (seen old pages) (event.Evict page) 0) old.pages.cache.pager.reads now.cache.pager.reads
      (sym (reads_of_writes (length (page_calls hash (seen old pages) (event.Evict page))) (page_calls hash (seen old pages) (event.Evict page))))
      (no_reads old.pages.cache.pager.reads now.cache.pager.reads gives.reads);
  sizes = gives.sizes;
  room = room_kept old.regions regions room;
  gains = gains_records (given_back reply.Evicted) old.regions regions refl (after ∙ ap (λ (now : RegionsNow). record old.regions { records = now.records }) (sym after));
}
  where
    pages : List (List ℕ)
    pages = some_pages old.pages.cache

    calls_were : MadeCalls old.pages.cache.pager (made_calls (is_dirty old.pages.cache page) false) now.cache.pager
    calls_were = subst (λ l. MadeCalls old.pages.cache.pager l now.cache.pager) (save_calls_are old.pages.cache page false) (evict_made old.pages.cache now.cache page (Ok true) gives.steps)

    made : MadeCalls old.pages.cache.pager (results (length (page_calls hash (seen old pages) (event.Evict page))) 0) now.cache.pager
    made =
        subst (λ (l : List ℕ). MadeCalls old.pages.cache.pager (results (length l) 0) now.cache.pager) (sym (evict_calls hash old pages page))
        (by_dirty (is_dirty old.pages.cache page) calls_were)
      where
        by_dirty : (b : Bool) → MadeCalls old.pages.cache.pager (made_calls b false) now.cache.pager → MadeCalls old.pages.cache.pager (results (length (calls b page)) 0) now.cache.pager
        by_dirty true m = m
        by_dirty false m = m

-- the page is not resident: nothing changes
abbrev not_there : Result Bool PagerFault
not_there = Ok false

same_cache : (old now : CacheNow) (page : ℕ) → EvictGives old page (Ok false) now → now ≡ old
same_cache old now page gives = by_page (resident_page old page) refl gives.steps
  where
    by_page : (o : Option Held) → resident_page old page ≡ o → MatchOption o ((not_there ≡ not_there) × (now ≡ old)) (λ held. Leaves old held not_there now) → now ≡ old
    by_page None e s = s.1
    by_page (Some h) e l = absurd (let wrong = l.answer in cc)

same_pages : (old now : PagesNow) (page : ℕ) → EvictGives old.cache page (Ok false) now.cache → now.marks ≡ old.marks → now.calls ≡ old.calls → now ≡ old
same_pages old now page gives marks calls =
    ap (λ (c : CacheNow). record { cache = c; marks = now.marks; calls = now.calls }) (same_cache old.cache now.cache page gives)
    ∙ ap (λ m. record { cache = old.cache; marks = m; calls = now.calls }) marks ∙ ap (λ n. record { cache = old.cache; marks = old.marks; calls = n }) calls

clean_absent : (cache : CacheNow) (page : ℕ) → is_some (resident_page cache page) ≡ false → is_dirty cache page ≡ false
clean_absent cache page absent = by_page (resident_page cache page) refl absent
  where
    by_page : (o : Option Held) → resident_page cache page ≡ o → is_some o ≡ false → option_map_or (λ (h : Held). h.dirty) o false ≡ false
    by_page None e none = refl
    by_page (Some h) e none = absurd (cc)

pub absent_acts : (hash : Hash) (old : ObjectNow) (now : PagesNow) (page : ℕ) → IsKept hash old → EvictGives old.pages.cache page (Ok false) now.cache
    → now.marks ≡ old.pages.marks → now.calls ≡ old.pages.calls → Acts hash old (event.Evict page) None reply.NotResident (with_parts old now old.regions)
absent_acts hash old now page kept gives marks counted =
    subst (λ (p : PagesNow). Acts hash old (event.Evict page) None reply.NotResident (with_parts old p old.regions)) (sym (same_pages old.pages now page gives marks counted))
    (acts_same hash old (event.Evict page) reply.NotResident kept
    (λ pages. evict_calls hash old pages page ∙ ap (λ (b : Bool). calls b page) (clean_absent old.pages.cache page (sym gives.answer)))
    (λ pages found. ap (λ (b : Bool). evict_answer b (failed_page (page_calls hash (seen old pages) (event.Evict page)) 0) (seen old pages) page) (sym (there_seen old now.cache page false pages gives))))

-- its write failed: it is dirty, and stays
abbrev failed : PagerFault → Result Bool PagerFault
failed fault = Err fault

dirty_failed : (old now : CacheNow) (page : ℕ) (fault : PagerFault) → EvictGives old page (Err fault) now → (is_some (resident_page old page) ≡ true) × (is_dirty old page ≡ true)
dirty_failed old now page fault gives = by_page (resident_page old page) refl gives.steps
  where
    by_dirty : (h : Held) (saved : CacheNow) (b : Bool) → h.dirty ≡ b → MatchBool b (WritesBack old h true saved) ((true ≡ false) × (saved ≡ old)) → h.dirty ≡ true
    by_dirty h saved true e s = e
    by_dirty h saved false e s = absurd (let wrong = s.0 in cc)

    by_page : (o : Option Held) → resident_page old page ≡ o → MatchOption o ((failed fault ≡ not_there) × (now ≡ old)) (λ held. Leaves old held (failed fault) now)
        → (is_some (resident_page old page) ≡ true) × (is_dirty old page ≡ true)
    by_page None e s = absurd (let wrong = s.0 in cc)
    by_page (Some h) e l = (ap is_some e, ap (λ o. option_map_or (λ (x : Held). x.dirty) o false) e ∙ by_dirty h l.saved h.dirty refl l.saves)

pub failed_acts : (hash : Hash) (old : ObjectNow) (now : PagesNow) (page : ℕ) (fault : PagerFault) → IsKept hash old → EvictGives old.pages.cache page (Err fault) now.cache
    → Acts hash old (event.Evict page) None (reply.PagerFault page) (with_parts old now old.regions)
failed_acts hash old now page fault kept gives =
    let pages = some_pages old.pages.cache in
    let finds = some_finds old.pages.cache kept.sound in
    let there = dirty_failed old.pages.cache now.cache page fault gives in
    let one : page_calls hash (seen old pages) (event.Evict page) ≡ page ∷ [] = evict_calls hash old pages page ∙ ap (λ (b : Bool). calls b page) there.1 in
    let made = subst (λ l. MadeCalls old.pages.cache.pager l now.cache.pager) (save_calls_are old.pages.cache page true ∙ ap (λ (b : Bool). made_calls b true) there.1) (evict_made old.pages.cache now.cache page (Err fault) gives.steps) in
    record {
      pages = pages;
      pages_after = pages;
      outcome = 1;
      few = subst (λ (l : List ℕ). 1 ≤ length l) (sym one) (omega arith);
      found = finds;
      found_after = evict_failed_finds old.pages.cache now.cache page fault pages gives finds;
      step =
          ap (λ file. (reply.PagerFault page, file)) (unchanged_seen old now pages gives.sizes gives.unchanged)
          ∙ ap (λ (b : Bool). evict_answer b (Some page) (seen old pages) page) (sym (resident_is old pages page ∙ there.0))
          ∙ ap (λ (l : List ℕ). evict_answer (plain.is_resident (seen old pages) page) (failed_page l 1) (seen old pages) page) (sym one);
      faults = gives.faults;
      told = subst (λ (l : List ℕ). IfSome old.pages.cache.pager.told (λ b. IsSomeAnd now.cache.pager.told (λ n. Tells b (length l) 1 n))) (sym one) (tells_of old.pages.cache.pager now.cache.pager 1 1 (omega arith) made);
      calls = evict_called old.pages.cache now.cache page (Err fault) gives.steps
          ∙ ap (λ (calls : List PagerCall). old.pages.cache.pager.calls ++ calls) (sym (evict_done hash old pages page) ∙ ap (map Writes) one
          ∙ sym (ap (λ (l : List ℕ). take 1 (map Writes l)) one));
      reads = reads_are 0 (reads_made hash (seen old pages) (event.Evict page) 1) old.pages.cache.pager.reads now.cache.pager.reads
          (sym (reads_of_writes 1 (page_calls hash (seen old pages) (event.Evict page)))) (no_reads old.pages.cache.pager.reads now.cache.pager.reads gives.reads);
      sizes = gives.sizes;
      room = room_stays old.regions;
      gains = gains_same nothing_back old.regions;
    }

-- ---- the marks

apart_of : (q page : ℕ) → (q == page) ≡ false → q ≢ page
apart_of q page e = grind (arith, common_steps, e)

module _ (old : ObjectNow) (now : PagesNow) (page : ℕ) where
  -- of a page that left nothing is kept, and of the others what was kept before
  left_fates : (regions : RegionsNow) → EvictGives old.pages.cache page (Ok true) now.cache → now.marks ≡ evicted page (Ok true) old.pages.marks → Fates old (with_parts old now regions)
  left_fates regions gives marks q = by_test (q == page) refl
    where
      by_test : (b : Bool) → (q == page) ≡ b → Same old (with_parts old now regions) q ⊎ Gone (with_parts old now regions) q
      by_test true e =
          let same : q ≡ page = grind (arith, common_steps, e) in
          let is : marks_of now.marks q ≡ blank = ap (marks_of now.marks) same ∙ gone_here old.pages.marks now.marks page marks in
          inr (record {
            validated = ap (λ (m : Marks). m.validated) is;
            writable = ap (λ (m : Marks). m.writable) is;
            absent = ap (λ p. is_some (resident_page now.cache p)) same ∙ ap is_some gives.found.here;
          })
      by_test false e =
          let is : marks_of now.marks q ≡ marks_of old.pages.marks q = gone_other old.pages.marks now.marks page marks q (apart_of q page e) in
          inl (record {
            validated = ap (λ (m : Marks). m.validated) is;
            writable = ap (λ (m : Marks). m.writable) is;
            resident = ap is_some (gives.found.others q e);
          })

  -- after a failure all is kept
  kept_fates : now.cache.held ≡ old.pages.cache.held → now.marks ≡ old.pages.marks → Fates old (with_parts old now old.regions)
  kept_fates held marks q = inl (record {
    validated = ap (λ m. (marks_of m q).validated) marks;
    writable = ap (λ m. (marks_of m q).writable) marks;
    resident = ap (λ (l : List Held). is_some (find_held l q)) held;
  })

-- ---- all that the contract says

was_there : {X : Type 0} (gone : Bool) (found : Option X) (P : X → Type 0) → IsSomeAnd (if gone then None else found) P → IsSomeAnd found P
was_there true found P there = absurd there
was_there false found P there = there

module _ (hash : Hash) (old : ObjectNow) (kept : IsKept hash old) (now : PagesNow) (page : ℕ) (marked : IsMarked hash now.cache now.marks) (counted : now.calls ≡ old.pages.calls) where
  pub leaves : (left : Bool) (regions : RegionsNow) → left ≡ true → EvictGives old.pages.cache page (Ok left) now.cache → now.marks ≡ evicted page (Ok left) old.pages.marks
      → regions ≡ steps.unmapped page old.regions → FindsUnmapped old.regions regions page → KeepsRoom old.regions regions → IsSound regions
      → Does hash old (event.Evict page) None reply.Evicted (with_parts old now regions)
  leaves false regions e gives marks after found room sound = absurd (cc)
  leaves true regions e gives marks after found room sound =
      does_parts hash old now regions (event.Evict page) reply.Evicted kept (evicted_acts hash old now regions page kept gives after found room) gives.sound marked counted
      (left_fates old now page regions gives marks) fewer (λ p. refl)
    where
      fewer : Fewer old regions
      fewer = record {
        sound = sound;
        page = ap (λ (r : RegionsNow). r.page) after;
        inside = subst (λ (r : RegionsNow). All (IsInside old.pages.cache.pager.pages) r.regions) (sym after) kept.inside;
        writers = λ p id writer. record {
          shared = subst (λ (r : RegionsNow). is_shared r.regions id ≡ true) after writer.shared;
          writes = was_there (p == page && not (is_some (copy_of old.regions.copies id page))) (record_of old.regions.records id p) (λ r. r.write ≡ true)
              (subst (λ o. IsSomeAnd o (λ (r : Record). r.write ≡ true)) (found id p) writer.writes);
        };
      }

  pub stays_absent : (left : Bool) → left ≡ false → EvictGives old.pages.cache page (Ok left) now.cache → now.marks ≡ evicted page (Ok left) old.pages.marks
      → Does hash old (event.Evict page) None reply.NotResident (with_parts old now old.regions)
  stays_absent true e gives marks = absurd (cc)
  stays_absent false e gives marks =
      does_parts hash old now old.regions (event.Evict page) reply.NotResident kept (absent_acts hash old now page kept gives marks counted) gives.sound marked counted
      (kept_fates old now page (ap (λ (c : CacheNow). c.held) (same_cache old.pages.cache now.cache page gives)) marks) (fewer_same hash old kept) (λ p. refl)

  pub fails : (fault : PagerFault) → EvictGives old.pages.cache page (Err fault) now.cache → now.marks ≡ old.pages.marks
      → Does hash old (event.Evict page) None (reply.PagerFault page) (with_parts old now old.regions)
  fails fault gives marks =
      does_parts hash old now old.regions (event.Evict page) (reply.PagerFault page) kept (failed_acts hash old now page fault kept gives) gives.sound marked counted
      (kept_fates old now page gives.unchanged marks) (fewer_same hash old kept) (λ p. refl)
