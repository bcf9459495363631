-- Calls on the regions of an object are the plain steps of their events.
use Rattle.std.proofs.Common.{◌≡◌, ℕ, ◌<◌, Bool, true, false, List, [], ◌∷◌, Option, Some, None, refl, sym, ap, subst, ◌∙◌, arith, not}
use Rattle.std.specs.Prelude.{◌==◌, All, IsSomeAnd, filter, is_some, count_by, if◌then◌else◌}
use Rattle.std.specs.Option.{option_map, option_map_or, option_copied}
use Rattle.std.specs.Borrow.{Bor}
use Rattle.std.specs.Bool.{OnFalse}
use Rattle.std.proofs.lemmas.Grind.{common_steps}
use Rattle.std.specs.List.{AllByRecursion}
use Rattle.std.proofs.lemmas.List.Elements.{All-filter, All-from_recursion, recursion_from_All}
use mathlib.Core.Path.{fun_ext}
use Rattle.pg_bytes.specs.Order.{in_order}
use Rattle.pg_digest.specs.Kinds.{Hash}
use Rattle.cs_policy.specs.declared.region.Region.{Region}
use Rattle.cs_policy.specs.declared.region.Record.{Record}
use Rattle.cs_policy.specs.declared.refusal.Refusal.{Refusal}
use Rattle.cs_policy.specs.declared.file.FileEvent.TheVariants as event
use Rattle.cs_policy.specs.declared.file.FileReply.{FileReply}
use Rattle.cs_policy.specs.declared.file.FileReply.TheVariants as reply
use Rattle.pg_regions.specs.Lookups.{Copy, region_before, is_region, region_of, record_of, copy_of, bytes_of, is_of_pid, IsWriter}
use Rattle.pg_regions.specs.RegionsNow.{RegionsNow, Room, spare, IsSound}
use Rattle.pg_regions.specs.Steps.{one_region_less, KeepsRoom, ChangesRegion, IsFresh, with_region, without_region, without_pid, AreGone}
use Rattle.pg_regions.proofs.ListFacts.{found_passes}
use Rattle.pg_plain.specs.PlainFile.{PlainFile}
use Rattle.pg_plain.specs.Steps.{is_gone, without_regions}
use Rattle.pg_object.specs.Object.{ObjectNow, seen}
use Rattle.pg_object.specs.Kept.{IsInside, IsKept}
use Rattle.pg_object.specs.Acts.{nothing_back}
use Rattle.pg_object.proofs.RoomFacts.{gains_same, gains_region, gains_all}
use Rattle.pg_object.proofs.QuietFacts.{Does, Fewer, does_quietly, does_nothing, room_stays, room_kept}

-- ---- a region comes

-- all of these and another
all_in_order : (P : Region → Type 0) (region : Region) (regions : List Region) → P region → All P regions → All P (in_order region_before region regions)
all_in_order P region regions own all = All-from_recursion P (in_order region_before region regions) (by_recursion regions (recursion_from_All P regions all))
  where
    by_recursion : (rs : List Region) → AllByRecursion P rs → AllByRecursion P (in_order region_before region rs)
    by_recursion [] all = (own, tt)
    by_recursion (r ∷ rs) all = by_test (region_before r region) (by_recursion rs all.1)
      where
        by_test : (b : Bool) → AllByRecursion P (in_order region_before region rs) → AllByRecursion P (if b then r ∷ in_order region_before region rs else region ∷ r ∷ rs)
        by_test true rest = (all.0, rest)
        by_test false rest = (own, all)

module _ (hash : Hash) (old : ObjectNow) (region : Region) (insert : ℕ) (kept : IsKept hash old) where
  -- where none of its number stands
  pub region_comes : (regions : RegionsNow) → IsInside old.pages.cache.pager.pages region → 0 < (spare old.regions).regions
      → region_of old.regions.regions region.id ≡ None → regions ≡ with_region region old.regions
      → ChangesRegion old.regions regions region.id (Some region) → IsFresh regions region.id → spare regions ≡ one_region_less (spare old.regions) → IsSound regions
      → Does hash old (event.AddRegion region insert) None reply.Added (record old { regions = regions })
  region_comes regions inside room absent after found fresh less sound = does_quietly hash old regions (event.AddRegion region insert) reply.Added kept (record {
    same = refl;
    uncalled = λ pages. refl;
    step = λ pages.
        ap (λ (now : RegionsNow). (reply.Added, seen (record old { regions = now }) pages)) after
        ∙ ap (λ there. (reply.Added, if there then seen old pages else record (seen old pages) { regions = in_order region_before region old.regions.regions }))
        (sym (ap is_some absent));
    room = record {
      regions = let now = ap (λ (room : Room). room.regions) less in omega arith;
      records = let now = ap (λ (room : Room). room.records) less in omega arith;
      copies = let now = ap (λ (room : Room). room.copies) less in omega arith;
    };
    gains = gains_region nothing_back old.regions regions less (ap (λ (now : RegionsNow). now.room) after);
    untaken = λ page. refl;
  }) (record {
    sound = sound;
    page = ap (λ (now : RegionsNow). now.page) after;
    inside = subst (λ (now : RegionsNow). All (IsInside old.pages.cache.pager.pages) now.regions) (sym after)
        (all_in_order (IsInside old.pages.cache.pager.pages) region old.regions.regions inside kept.inside);
    writers = λ page id writer. writes page id (id == region.id) refl writer;
  })
    where
      writes : (page id : ℕ) (b : Bool) → (id == region.id) ≡ b → IsWriter regions.regions regions.records page id → IsWriter old.regions.regions old.regions.records page id
      writes page id true e writer =
          let same : id ≡ region.id = grind (arith, common_steps, e) in
          absurd (subst (λ o. IsSomeAnd o (λ (r : Record). r.write ≡ true)) (ap (λ i. record_of regions.records i page) same ∙ fresh.no_record page) writer.writes)
      writes page id false e writer = record {
        shared = ap (λ o. option_map_or (λ (r : Region). r.shared) o false) (sym (found.others id e)) ∙ writer.shared;
        writes = subst (λ (now : RegionsNow). IsSomeAnd (record_of now.records id page) (λ r. r.write ≡ true)) after writer.writes;
      }

  -- where one stands
  pub region_stands : is_some (region_of old.regions.regions region.id) ≡ true → Does hash old (event.AddRegion region insert) None reply.Added old
  region_stands stands = does_nothing hash old (event.AddRegion region insert) reply.Added kept (record {
    same = refl;
    uncalled = λ pages. refl;
    step = λ pages. ap (λ there. (reply.Added, if there then seen old pages else record (seen old pages) { regions = in_order region_before region old.regions.regions }))
        (sym stands);
    room = record { regions = omega arith; records = omega arith; copies = omega arith };
    gains = gains_same nothing_back old.regions;
    untaken = λ page. refl;
  })

-- ---- a region goes

-- a region of this number goes, where it stands, and no other
gone_is : (file : PlainFile) (id : ℕ) → is_some (region_of file.regions id) ≡ true → (i : ℕ) → is_gone (λ region. region.id == id) file i ≡ (i == id)
gone_is file id stands i = by_region (region_of file.regions i) refl
  where
    by_region : (found : Option Region) → region_of file.regions i ≡ found → option_map_or (λ region. region.id == id) found false ≡ (i == id)
    by_region (Some region) e = grind (arith, common_steps, found_passes (is_region i) file.regions region e)
    by_region None e = by_test (i == id) refl
      where
        same_number : (i == id) ≡ true → i ≡ id
        same_number f = grind (arith, common_steps, f)

        by_test : (b : Bool) → (i == id) ≡ b → false ≡ b
        by_test false f = refl
        by_test true f = sym (ap is_some e) ∙ ap (λ j. is_some (region_of file.regions j)) (same_number f) ∙ stands

-- bytes of the copy that is found
bytes_unless : (gone : Bool) (old new : Option Copy) → new ≡ (if gone then None else old) → option_map (λ copy. copy.bytes) new ≡ (if gone then None else option_map (λ copy. copy.bytes) old)
bytes_unless true old new e = ap (option_map (λ copy. copy.bytes)) e
bytes_unless false old new e = ap (option_map (λ copy. copy.bytes)) e

-- where these regions go, the file is the plain one without them
seen_without : (old : ObjectNow) (regions : RegionsNow) (goes : Region → Bool) (pages : List (List ℕ)) (gone : ℕ → Bool)
    → regions.regions ≡ filter (λ region. not (goes region)) old.regions.regions → ((i : ℕ) → is_gone goes (seen old pages) i ≡ gone i)
    → AreGone gone old.regions regions → seen (record old { regions = regions }) pages ≡ without_regions goes (seen old pages)
seen_without old regions goes pages gone left same found =
    ap (λ standing. record (seen old pages) { regions = standing; records = record_of regions.records; copies = bytes_of regions.copies }) left
    ∙ ap (λ records. record (seen old pages) { regions = filter (λ region. not (goes region)) old.regions.regions; records = records; copies = bytes_of regions.copies })
    (fun_ext (λ i. fun_ext (λ page. found.records i page ∙ ap (λ b. if b then None else record_of old.regions.records i page) (sym (same i)))))
    ∙ ap (λ copies. record (seen old pages) {
      regions = filter (λ region. not (goes region)) old.regions.regions;
      records = λ i page. if is_gone goes (seen old pages) i then None else record_of old.regions.records i page;
      copies = copies;
    })
    (fun_ext (λ i. fun_ext (λ page. bytes_unless (gone i) (copy_of old.regions.copies i page) (copy_of regions.copies i page) (found.copies i page)
    ∙ ap (λ b. if b then None else bytes_of old.regions.copies i page) (sym (same i)))))

-- a writer that is left was one
writes_left : (gone : ℕ → Bool) (old regions : RegionsNow) → AreGone gone old regions → (page id : ℕ) → IsWriter regions.regions regions.records page id → IsWriter old.regions old.records page id
writes_left gone old regions found page id writer = by_test (gone id) refl
  where
    by_test : (b : Bool) → gone id ≡ b → IsWriter old.regions old.records page id
    by_test true e = absurd (subst (λ o. IsSomeAnd o (λ (r : Record). r.write ≡ true)) (found.records id page ∙ ap (λ b. if b then None else record_of old.records id page) e) writer.writes)
    by_test false e = record {
      shared = ap (λ o. option_map_or (λ (r : Region). r.shared) o false) (sym (found.regions id ∙ ap (λ b. if b then None else region_of old.regions id) e)) ∙ writer.shared;
      writes = subst (λ o. IsSomeAnd o (λ (r : Record). r.write ≡ true)) (found.records id page ∙ ap (λ b. if b then None else record_of old.records id page) e) writer.writes;
    }

-- what is true of the regions that are left
fewer_left : (hash : Hash) (old : ObjectNow) (regions : RegionsNow) (goes : Region → Bool) (gone : ℕ → Bool) → IsKept hash old → IsSound regions → regions.page ≡ old.regions.page
    → regions.regions ≡ filter (λ region. not (goes region)) old.regions.regions → AreGone gone old.regions regions → Fewer old regions
fewer_left hash old regions goes gone kept sound page left found = record {
  sound = sound;
  page = page;
  inside = subst (All (IsInside old.pages.cache.pager.pages)) (sym left) (All-filter (λ region. not (goes region)) (IsInside old.pages.cache.pager.pages) old.regions.regions kept.inside);
  writers = writes_left gone old.regions regions found;
}

module _ (hash : Hash) (old : ObjectNow) (kept : IsKept hash old) (regions : RegionsNow) (sound : IsSound regions) (room : KeepsRoom old.regions regions) where
  pub pid_goes : (pid count : ℕ) → count ≡ count_by (λ region. region.pid == pid) old.regions.regions → regions ≡ without_pid pid old.regions
      → AreGone (is_of_pid old.regions.regions pid) old.regions regions
      → Does hash old (event.DropPid pid) None (reply.DroppedAll count) (record old { regions = regions })
  pid_goes pid count counted after found = does_quietly hash old regions (event.DropPid pid) (reply.DroppedAll count) kept (record {
    same = refl;
    uncalled = λ pages. refl;
    step = λ pages.
        ap (λ n. (reply.DroppedAll n, seen (record old { regions = regions }) pages)) counted
        ∙ ap (λ file. (reply.DroppedAll (count_by (λ region. region.pid == pid) old.regions.regions), file))
        (seen_without old regions (λ region. region.pid == pid) pages (is_of_pid old.regions.regions pid) (ap (λ now. now.regions) after) (λ i. refl) found);
    room = room_kept old.regions regions room;
    gains = gains_all old.regions regions (ap (λ (now : RegionsNow). now.room) after);
    untaken = λ page. refl;
  }) (fewer_left hash old regions (λ region. region.pid == pid) (is_of_pid old.regions.regions pid) kept sound (ap (λ now. now.page) after) (ap (λ now. now.regions) after) found)

  region_goes : (id : ℕ) → is_some (region_of old.regions.regions id) ≡ true → regions ≡ without_region id old.regions → AreGone (λ i. i == id) old.regions regions
      → Does hash old (event.DropRegion id) None reply.Dropped (record old { regions = regions })
  region_goes id stands after found = does_quietly hash old regions (event.DropRegion id) reply.Dropped kept (record {
    same = refl;
    uncalled = λ pages. refl;
    step = λ pages.
        ap (λ file. (reply.Dropped, file)) (seen_without old regions (λ region. region.id == id) pages (λ i. i == id) (ap (λ now. now.regions) after) (gone_is (seen old pages) id stands) found)
        ∙ ap (λ there. if there then (reply.Dropped, without_regions (λ region. region.id == id) (seen old pages)) else (reply.NoRegion id, seen old pages)) (sym stands);
    room = room_kept old.regions regions room;
    gains = gains_all old.regions regions (ap (λ (now : RegionsNow). now.room) after);
    untaken = λ page. refl;
  }) (fewer_left hash old regions (λ region. region.id == id) (λ i. i == id) kept sound (ap (λ now. now.page) after) (ap (λ now. now.regions) after) found)

  no_region : (id : ℕ) → is_some (region_of old.regions.regions id) ≡ false → Does hash old (event.DropRegion id) None (reply.NoRegion id) old
  no_region id absent = does_nothing hash old (event.DropRegion id) (reply.NoRegion id) kept (record {
    same = refl;
    uncalled = λ pages. refl;
    step = λ pages. ap (λ there. if there then (reply.Dropped, without_regions (λ region. region.id == id) (seen old pages)) else (reply.NoRegion id, seen old pages)) (sym absent);
    room = room_stays old.regions;
    gains = gains_same nothing_back old.regions;
    untaken = λ page. refl;
  })

  pub drops : (id : ℕ) (there : Bool) (answer : FileReply) → there ≡ is_some (region_of old.regions.regions id) → OnFalse there (regions ≡ old.regions)
      → regions ≡ without_region id old.regions → AreGone (λ i. i == id) old.regions regions → answer ≡ (if there then reply.Dropped else reply.NoRegion id)
      → Does hash old (event.DropRegion id) None answer (record old { regions = regions })
  drops id true answer e unchanged after found told =
      subst (λ (given : FileReply). Does hash old (event.DropRegion id) None given (record old { regions = regions })) (sym told) (region_goes id (sym e) after found)
  drops id false answer e unchanged after found told =
      subst (λ (given : FileReply). Does hash old (event.DropRegion id) None given (record old { regions = regions })) (sym told)
      (subst (λ (r : RegionsNow). Does hash old (event.DropRegion id) None (reply.NoRegion id) (record old { regions = r })) (sym unchanged) (no_region id (sym e)))

pub refuses : (hash : Hash) (old : ObjectNow) (read : ℕ) (refusal : Refusal) → IsKept hash old → Does hash old (event.RefuseBlob read refusal) None reply.Noted old
refuses hash old read refusal kept = does_nothing hash old (event.RefuseBlob read refusal) reply.Noted kept (record {
  same = refl;
  uncalled = λ pages. refl;
  step = λ pages. refl;
  room = room_stays old.regions;
  gains = gains_same nothing_back old.regions;
  untaken = λ page. refl;
})

-- what a dropping answers, by its test
pub answers_dropped : (answer : FileReply) (there : Bool) (id : ℕ) → there ≡ true → answer ≡ reply.Dropped → answer ≡ (if there then reply.Dropped else reply.NoRegion id)
answers_dropped answer there id e f = f ∙ ap (λ (b : Bool). if b then reply.Dropped else reply.NoRegion id) (sym e)

pub answers_none : (answer : FileReply) (there : Bool) (id : ℕ) → there ≡ false → answer ≡ reply.NoRegion id → answer ≡ (if there then reply.Dropped else reply.NoRegion id)
answers_none answer there id e f = f ∙ ap (λ (b : Bool). if b then reply.Dropped else reply.NoRegion id) (sym e)

-- ---- what was found

pub none_copied : {X : Type 0} (found : Option (Bor X)) (there : Option X) → option_copied found ≡ there → is_some found ≡ false → there ≡ None
none_copied None there e f = sym e
none_copied (Some x) there e f = absurd (grind (arith, common_steps, f))

pub some_copied : {X : Type 0} (found : Option (Bor X)) (there : Option X) → option_copied found ≡ there → is_some found ≡ true → is_some there ≡ true
some_copied found there e f = ap is_some (sym e) ∙ by_found found f
  where
    by_found : {X : Type 0} (found : Option (Bor X)) → is_some found ≡ true → is_some (option_copied found) ≡ true
    by_found None f = f
    by_found (Some x) f = refl
