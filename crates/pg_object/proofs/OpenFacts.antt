-- What is true of an object as it is opened.
use Rattle.std.proofs.Common.{◌≡◌, ℕ, ◌<◌, List, [], None, map, refl, sym, ap, subst, ◌∙◌, arith}
use Rattle.std.specs.Prelude.{filter}
use Rattle.std.proofs.lemmas.List.Elements.{All-nil}
use Rattle.pg_digest.specs.Kinds.{Hash}
use Rattle.cs_policy.specs.declared.layout.Layout.{Layout}
use Rattle.pg_io.specs.MemPages.{pages_reached}
use Rattle.pg_cache.specs.Held.{Held, find_held}
use Rattle.pg_cache.specs.Cache.{CacheNow, resident_page, IsSound}
use Rattle.pg_pages.specs.Marks.{Marks, blank, marks_of}
use Rattle.pg_pages.specs.MarkSteps.{spare_gone}
use Rattle.pg_pages.specs.Pages.{PagesNow, IsMarked}
use Rattle.pg_pages.proofs.MarkLaws.{forgotten_blank}
use Rattle.pg_regions.specs.RegionsNow.{RegionsNow, empty}
use Rattle.pg_regions.specs.RegionsNow as regions
use Rattle.pg_plain.specs.PlainFile.{Attached, opened}
use Rattle.pg_plain.specs.Covers.{Fits}
use Rattle.pg_plain.specs.Keep.{Keep}
use Rattle.pg_object.specs.declared.opening.Room.{Room}
use Rattle.pg_object.specs.Object.{ObjectNow, object_of, seen}
use Rattle.pg_object.specs.Kept.{IsLaid, IsInside, IsSigned, IsKept}
use Rattle.pg_object.specs.Checked.{is_validated}
use Rattle.pg_object.specs.Opened.{IsOpened}

-- the law of plain files that nobody has mapped yet
abbrev pub OpeningKeeps : Type 0
OpeningKeeps = (hash : Hash) (size bytes limit : ℕ) (pages : List (List ℕ)) (layout : Layout) → 0 < limit → Keep hash (opened size bytes limit pages layout)

module _ (hash : Hash) (pages now : PagesNow) (length : ℕ) (layout : Layout) (room : Room) (law : OpeningKeeps) (after : now ≡ record pages { marks = spare_gone pages.cache pages.marks })
    (vacant : pages.cache.held ≡ []) where
  abbrev object : ObjectNow
  object = object_of now (empty pages.cache.pager.page_size room.regions room.records room.copies) [] length layout

  same_cache : now.cache ≡ pages.cache
  same_cache = ap (λ (p : PagesNow). p.cache) after

  plain : (content : List (List ℕ)) → seen object content ≡ opened pages.cache.pager.page_size length pages.cache.limit content layout
  plain content =
      ap (λ (c : CacheNow). seen (record object { pages = record now { cache = c } }) content) same_cache
      ∙ ap (λ (h : List Held). seen (record object { pages = record now { cache = record pages.cache { held = h } } }) content) vacant

  none_resident : (page : ℕ) → resident_page now.cache page ≡ None
  none_resident page = ap (λ (c : CacheNow). resident_page c page) same_cache ∙ ap (λ (h : List Held). find_held h page) vacant

  unmarked : IsMarked hash now.cache now.marks → (page : ℕ) → marks_of now.marks page ≡ blank
  unmarked marked page =
      forgotten_blank hash pages.cache pages.marks now.marks (ap (λ (p : PagesNow). p.marks) after) (subst (λ (c : CacheNow). IsMarked hash c now.marks) same_cache marked)
      (λ q. ap (λ (h : List Held). find_held h q) vacant) page

  opens : IsOpened pages length layout room object
  opens = record {
    cache = same_cache;
    calls = ap (λ (p : PagesNow). p.calls) after;
    regions = refl;
    plain = plain;
    unchecked = ap (λ (h : List Held). filter (is_validated object) (map (λ (x : Held). x.page) h)) (ap (λ (c : CacheNow). c.held) same_cache ∙ vacant);
  }

  keeps : IsSound pages.cache → IsMarked hash now.cache now.marks → regions.IsSound (empty pages.cache.pager.page_size room.regions room.records room.copies)
      → pages.cache.pager.pages ≡ pages_reached pages.cache.pager.page_size length → IsLaid length layout → IsKept hash object
  keeps sound marked standing reached laid = record {
    keep = λ content found. subst (Keep hash) (sym (plain content))
        (law hash pages.cache.pager.page_size length pages.cache.limit content layout sound.listed.some);
    sound = subst IsSound (sym same_cache) sound;
    marked = marked;
    regions_sound = standing;
    page = ap (λ (c : CacheNow). c.pager.page_size) (sym same_cache);
    seals = record {
      signed = λ page seal e. absurd (let none = ap (λ (m : Marks). m.validated) (unmarked marked page) in cc);
      unmapped = λ page none. ap (λ (m : Marks). m.writable) (unmarked marked page);
      unwritten = λ page id writer. ap (λ (m : Marks). m.validated) (unmarked marked page);
    };
    reached = subst (λ (c : CacheNow). c.pager.pages ≡ pages_reached c.pager.page_size length) (sym same_cache) reached;
    laid = laid;
    inside = All-nil (IsInside now.cache.pager.pages);
    signatures = All-nil (IsSigned hash now.cache.pager.page_size);
    fits = All-nil (λ (attached : Attached). Fits now.cache.pager.page_size attached.signature);
    few_blobs = omega arith;
  }

  -- the same of regions and signatures that are these
  module _ (stand : RegionsNow) (blobs : List Attached) (size : ℕ) (same : size ≡ pages.cache.pager.page_size) (empty_regions : stand ≡ empty size room.regions room.records room.copies)
      (no_blobs : blobs ≡ []) where
    object_is : object_of now stand blobs length layout ≡ object
    object_is =
        ap (λ (r : RegionsNow). object_of now r blobs length layout) (empty_regions ∙ ap (λ n. empty n room.regions room.records room.copies) same)
        ∙ ap (λ (b : List Attached). object_of now (empty pages.cache.pager.page_size room.regions room.records room.copies) b length layout) no_blobs

    pub is_opened : IsOpened pages length layout room (object_of now stand blobs length layout)
    is_opened = subst (IsOpened pages length layout room) (sym object_is) opens

    pub is_kept : IsSound pages.cache → IsMarked hash now.cache now.marks → regions.IsSound stand → pages.cache.pager.pages ≡ pages_reached pages.cache.pager.page_size length
        → IsLaid length layout → IsKept hash (object_of now stand blobs length layout)
    is_kept sound marked standing reached laid =
        subst (IsKept hash) (sym object_is) (keeps sound marked
        (subst regions.IsSound (empty_regions ∙ ap (λ n. empty n room.regions room.records room.copies) same) standing) reached laid)
