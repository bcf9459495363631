-- When an object is seen as a plain file, and how its resident pages are seen after a call of the cache.
use Rattle.std.proofs.Common.{◌≡◌, ℕ, Bool, true, false, List, [], ◌∷◌, Option, Some, None, length, map, refl, sym, ap, subst, ◌∙◌, arith, ◌++◌}
use Rattle.std.specs.Prelude.{◌==◌, IfSome, IsSomeAnd, option_map}
use Rattle.std.specs.Option.{option_map_or}
use Rattle.std.proofs.lemmas.Grind.{common_steps}
use mathlib.Core.Path.{fun_ext}
use Rattle.pg_cache.specs.Held.{Held}
use Rattle.pg_cache.specs.Cache.{CacheNow, residents, resident_page}
use Rattle.pg_cache.specs.Cache as cache
use Rattle.pg_cache.specs.Gives.{other_residents, marked}
use Rattle.pg_plain.specs.PlainFile.{Resident, PlainFile, is_dirty}
use Rattle.pg_plain.specs.Given.{without_page}
use Rattle.pg_plain.specs.Steps.{dirtied}
use Rattle.pg_io.specs.declared.pager_call.PagerCall.{PagerCall}
use Rattle.pg_cache.proofs.CalledLaws.{called_none}
use Rattle.pg_object.specs.Object.{ObjectNow, resident_of, seen}
use Rattle.pg_cache.specs.Cache.{KeepsSizes}
use Rattle.pg_pages.specs.Pages.{PagesNow}
use Rattle.pg_digest.specs.Kinds.{Hash}
use Rattle.cs_policy.specs.declared.file.FileEvent.{FileEvent}
use Rattle.cs_policy.specs.declared.file.FileReply.{FileReply}
use Rattle.pg_io.specs.Pager.{PagerNow}
use Rattle.pg_io.proofs.CallLaws.{no_calls}
use Rattle.pg_cache.specs.Finds.{Finds}
use Rattle.pg_cache.proofs.Laws.{some_pages, some_finds}
use Rattle.pg_regions.specs.RegionsNow.{RegionsNow, Room}
use Rattle.pg_plain.specs.Calls.{page_calls}
use Rattle.pg_plain.specs.Steps.{file_step}
use Rattle.pg_object.specs.Kept.{IsKept}
use Rattle.pg_object.specs.Acts.{Tells, LeavesRoom, room_used, given_back, Acts}
use Rattle.pg_object.specs.PagerCalls.{reads_made}
use Rattle.pg_object.proofs.RoomFacts.{gains_same}
use Rattle.pg_object.proofs.TellFacts.{tells_of}
use Rattle.pg_object.proofs.PagerCallFacts.{no_reads, reads_are, reads_uncalled, done_uncalled}
use Rattle.pg_object.proofs.KeepFacts.{found_resident}

-- whether a resident page is dirty
pub dirty_is : (now : ObjectNow) (pages : List (List ℕ)) (page : ℕ) → is_dirty (seen now pages) page ≡ option_map_or (λ (h : Held). h.dirty) (resident_page now.pages.cache page) false
dirty_is now pages page =
    ap (λ o. option_map_or (λ (r : Resident). r.dirty) o false) (found_resident now.pages.cache.held page) ∙ mapped (resident_page now.pages.cache page)
  where
    mapped : (o : Option Held) → option_map_or (λ (r : Resident). r.dirty) (option_map resident_of o) false ≡ option_map_or (λ (h : Held). h.dirty) o false
    mapped None = refl
    mapped (Some h) = refl

-- two plain files are one where all their parts are
pub plain_is : (a b : PlainFile) → a.page_size ≡ b.page_size → a.length ≡ b.length → a.limit ≡ b.limit → a.pages ≡ b.pages → a.layout ≡ b.layout
    → a.blobs ≡ b.blobs → a.regions ≡ b.regions → ((id page : ℕ) → a.records id page ≡ b.records id page) → ((id page : ℕ) → a.copies id page ≡ b.copies id page)
    → a.residents ≡ b.residents → a ≡ b
plain_is a b size length limit pages layout blobs regions records copies residents =
    ap (λ x. record a { page_size = x }) size
    ∙ ap (λ x. record a { page_size = b.page_size; length = x }) length
    ∙ ap (λ x. record a { page_size = b.page_size; length = b.length; limit = x }) limit
    ∙ ap (λ x. record a { page_size = b.page_size; length = b.length; limit = b.limit; pages = x }) pages
    ∙ ap (λ x. record a { page_size = b.page_size; length = b.length; limit = b.limit; pages = b.pages; layout = x }) layout
    ∙ ap (λ x. record b { blobs = x; regions = a.regions; records = a.records; copies = a.copies; residents = a.residents }) blobs
    ∙ ap (λ x. record b { regions = x; records = a.records; copies = a.copies; residents = a.residents }) regions
    ∙ ap (λ x. record b { records = x; copies = a.copies; residents = a.residents }) (fun_ext (λ id. fun_ext (λ page. records id page)))
    ∙ ap (λ x. record b { copies = x; residents = a.residents }) (fun_ext (λ id. fun_ext (λ page. copies id page)))
    ∙ ap (λ x. record b { residents = x }) residents

-- ---- resident pages

-- a resident page of the cache as one of the plain file
abbrev plain : cache.Resident → Resident
plain r = record { page = r.page; dirty = r.dirty }

pub plain_residents : (c : CacheNow) → map resident_of c.held ≡ map plain (residents c)
plain_residents c = go c.held
  where
    go : (hs : List Held) → map resident_of hs ≡ map plain (map cache.resident_of hs)
    go [] = refl
    go (h ∷ hs) = ap (λ (rs : List Resident). resident_of h ∷ rs) (go hs)

-- the list without a page
plain_without : (page : ℕ) (rs : List cache.Resident) → map plain (other_residents page rs) ≡ without_page page (map plain rs)
plain_without page [] = refl
plain_without page (r ∷ rs) = by_test (r.page == page) refl (plain_without page rs)
  where
    by_test : (b : Bool) → (r.page == page) ≡ b → map plain (other_residents page rs) ≡ without_page page (map plain rs)
        → map plain (other_residents page (r ∷ rs)) ≡ without_page page (map plain (r ∷ rs))
    by_test true e rest = grind (arith, common_steps, e, rest)
    by_test false e rest = grind (arith, common_steps, e, rest)

pub left_residents : (old new : CacheNow) (page : ℕ) → residents new ≡ other_residents page (residents old) → map resident_of new.held ≡ without_page page (map resident_of old.held)
left_residents old new page list =
    plain_residents new ∙ ap (map plain) list ∙ plain_without page (residents old) ∙ ap (without_page page) (sym (plain_residents old))

-- the list with a page marked as dirty
plain_dirtied : (page : ℕ) (rs : List cache.Resident) → map plain (marked page true rs) ≡ map (dirtied page) (map plain rs)
plain_dirtied page [] = refl
plain_dirtied page (r ∷ rs) = by_test (r.page == page) refl (plain_dirtied page rs)
  where
    by_test : (b : Bool) → (r.page == page) ≡ b → map plain (marked page true rs) ≡ map (dirtied page) (map plain rs)
        → map plain (marked page true (r ∷ rs)) ≡ map (dirtied page) (map plain (r ∷ rs))
    by_test true e rest = grind (arith, common_steps, e, rest)
    by_test false e rest = grind (arith, common_steps, e, rest)

pub dirtied_residents : (old new : CacheNow) (page : ℕ) → residents new ≡ marked page true (residents old) → map resident_of new.held ≡ map (dirtied page) (map resident_of old.held)
dirtied_residents old new page list =
    plain_residents new ∙ ap (map plain) list ∙ plain_dirtied page (residents old) ∙ ap (map (dirtied page)) (sym (plain_residents old))

-- where the list stays, the object is seen as it was
pub unchanged_seen : (old : ObjectNow) (now : PagesNow) (pages : List (List ℕ)) → KeepsSizes old.pages.cache now.cache → now.cache.held ≡ old.pages.cache.held
    → seen (record old { pages = now }) pages ≡ seen old pages
unchanged_seen old now pages sizes held =
    plain_is (seen (record old { pages = now }) pages) (seen old pages) sizes.page_size refl sizes.limit refl refl refl refl (λ id page. refl) (λ id page. refl) (ap (map resident_of) held)

-- ---- a call that leaves all as it is

room_same : (used : Room) (now : RegionsNow) → LeavesRoom used now now
room_same used now = record { regions = omega arith; records = omega arith; copies = omega arith }

-- where an event makes no pager call, the same is told afterwards
pub uncalled_tells : (old new : PagerNow) (calls : List ℕ) → new ≡ old → calls ≡ [] → IfSome old.told (λ before. IsSomeAnd new.told (λ now. Tells before (length calls) 0 now))
uncalled_tells old new calls same none =
    subst (λ (l : List ℕ). IfSome old.told (λ before. IsSomeAnd new.told (λ now. Tells before (length l) 0 now))) (sym none)
    (subst (λ (n : PagerNow). IfSome old.told (λ before. IsSomeAnd n.told (λ now. Tells before 0 0 now))) (sym same) (tells_of old old 0 0 (omega arith) (no_calls old)))

-- an event that makes no pager call, by what is answered for the bytes that the pages may have
pub acts_same : (hash : Hash) (old : ObjectNow) (e : FileEvent) (answer : FileReply) → IsKept hash old
    → ((pages : List (List ℕ)) → page_calls hash (seen old pages) e ≡ [])
    → ((pages : List (List ℕ)) → Finds old.pages.cache pages → (answer, seen old pages) ≡ file_step hash (seen old pages) e None 0) → Acts hash old e None answer old
acts_same hash old e answer kept uncalled step =
    let pages = some_pages old.pages.cache in
    let found = some_finds old.pages.cache kept.sound in
    record {
      pages = pages;
      pages_after = pages;
      outcome = 0;
      few = omega arith;
      found = found;
      found_after = found;
      step = step pages found;
      faults = refl;
      told = uncalled_tells old.pages.cache.pager old.pages.cache.pager (page_calls hash (seen old pages) e) refl (uncalled pages);
      calls = called_none old.pages.cache.pager
          ∙ ap (λ (calls : List PagerCall). old.pages.cache.pager.calls ++ calls) (sym (done_uncalled hash (seen old pages) e 0 (uncalled pages)));
      reads = reads_are 0 (reads_made hash (seen old pages) e 0) old.pages.cache.pager.reads old.pages.cache.pager.reads (sym (reads_uncalled hash (seen old pages) e 0 (uncalled pages)))
          (no_reads old.pages.cache.pager.reads old.pages.cache.pager.reads refl);
      sizes = record { limit = refl; pages = refl; page_size = refl };
      room = room_same (room_used e) old.regions;
      gains = gains_same (given_back answer) old.regions;
    }
