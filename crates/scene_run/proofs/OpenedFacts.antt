-- The parts that were opened are those of the scene's opening, and there is room in them for what the scripts need.
use Rattle.std.proofs.Common.{◌≡◌, ℕ, zero, suc, ◌+◌, ◌/◌, ◌<◌, ◌≤◌, IsTrue, List, [], ◌∷◌, length, map, drop, Option, Some, refl, sym, ap, subst, ◌∙◌, arith}
use Rattle.std.specs.Prelude.{All, zip, slice_get, slice_index_or, unwrap_or, IfSome, ◌^◌}
use Rattle.pg_bytes.specs.PageSize.{is_page_size}
use Rattle.std.specs.Option.{option_map, option_and_then}
use Rattle.std.proofs.lemmas.Grind.{common_steps}
use Rattle.pg_digest.specs.Digests.{sha_hash}
use Rattle.pg_io.specs.MemPages.{MemPagerNow, first_pages, pages_of, pages_reached}
use Rattle.cs_policy.specs.declared.layout.Layout.{Layout}
use Rattle.cs_policy.specs.declared.call.Call.{Call}
use Rattle.pg_book.specs.declared.needs.Needs.{Needs}
use Rattle.pg_book.specs.Needs.{all_entries}
use Rattle.pg_cache.specs.Contents.{overlaid}
use Rattle.pg_plain.specs.PlainFile.{PlainFile, opened}
use Rattle.pg_process.specs.ProcessStep.{PlainProcess, fresh}
use Rattle.pg_history.specs.Machine.{FilePart}
use Rattle.pg_history.specs.Opening.{Opening, IsFresh, IsOpening, FileNumbers, numbers_of}
use Rattle.pg_trusted.specs.TrustStep.{TrustList}
use Rattle.pg_calls.specs.Room.{Within}
use Rattle.pg_object.specs.Object.{ObjectNow, seen}
use Rattle.pg_parts.specs.Rooms.{part_needs}
use Rattle.pg_parts.specs.Opened.{OpenedNow, told_part, told_parts, opening_in, numbers_in, IsFreshFile, IsOpenable}
use Rattle.scene_open.specs.Opening.{limit_of, part_of, processes_from}
use Rattle.cs_policy.specs.declared.flags.ProcFlags.{ProcFlags}
use Rattle.scene_open.specs.Fits.{IsFileBounded, IsBounded}
use Rattle.scene_run.specs.Needs.{needs_of, AreFew, most_needed}
use Rattle.scene_run.specs.Parts.{AllFit, IsFileOf, AreFiles}
use Rattle.scene_run.proofs.BoundFacts.{needs-within, entries-few}

-- ---- lists

same-place : {A B : Type 0} (xs : List A) (ys : List B) (k : ℕ) (x : A) → length xs ≡ length ys → slice_get xs k ≡ Some x → (y : B) × (slice_get ys k ≡ Some y)
same-place [] ys k x same is = absurd (grind (arith, common_steps, is))
same-place (a ∷ xs) [] k x same is = absurd (omega (arith, same))
same-place (a ∷ xs) (b ∷ ys) zero x same is = (b, refl)
same-place (a ∷ xs) (b ∷ ys) (suc k) x same is = same-place xs ys k x (omega (arith, same)) is

module _ {A B : Type 0} where
  both : (a x : A) (b y : B) → Some a ≡ Some x → Some b ≡ Some y → ◌≡◌ {A = Option (A × B)} (Some (a, b)) (Some (x, y))
  both a x b y one other =
      let first : a ≡ x = ap (λ o. unwrap_or o a) one in
      let second : b ≡ y = ap (λ o. unwrap_or o b) other in
      (λ i. Some (first i, second i))

  zip-at : (xs : List A) (ys : List B) (k : ℕ) (x : A) (y : B) → slice_get xs k ≡ Some x → slice_get ys k ≡ Some y
      → ◌≡◌ {A = Option (A × B)} (slice_get (zip xs ys) k) (Some (x, y))
  zip-at [] ys k x y one other = absurd (grind (arith, common_steps, one))
  zip-at (a ∷ xs) [] k x y one other = absurd (grind (arith, common_steps, other))
  zip-at (a ∷ xs) (b ∷ ys) zero x y one other = both a x b y one other
  zip-at (a ∷ xs) (b ∷ ys) (suc k) x y one other = zip-at xs ys k x y one other

map-at : {A B : Type 0} (f : A → B) (xs : List A) (k : ℕ) (x : A) → slice_get xs k ≡ Some x → slice_get (map f xs) k ≡ Some (f x)
map-at f [] k x is = absurd (grind (arith, common_steps, is))
map-at f (a ∷ xs) zero x is = ap (λ o. option_map f o) is
map-at f (a ∷ xs) (suc k) x is = map-at f xs k x is

zip-length : {A B : Type 0} (xs : List A) (ys : List B) → length xs ≡ length ys → length (zip xs ys) ≡ length xs
zip-length [] ys same = refl
zip-length (a ∷ xs) [] same = absurd (omega (arith, same))
zip-length (a ∷ xs) (b ∷ ys) same = ap suc (zip-length xs ys (omega (arith, same)))

map-length : {A B : Type 0} (f : A → B) (xs : List A) → length (map f xs) ≡ length xs
map-length f [] = refl
map-length f (x ∷ xs) = ap suc (map-length f xs)

at-place : {A : Type 0} (xs : List A) (k : ℕ) (x : A) → slice_get xs k ≡ Some x → (k < length xs) × (slice_index_or xs k x ≡ x)
at-place [] k x is = absurd (grind (arith, common_steps, is))
at-place (a ∷ xs) zero x is = (omega arith, grind (arith, common_steps, is))
at-place (a ∷ xs) (suc k) x is = (omega (arith, (at-place xs k x is).0), (at-place xs k x is).1)

all-at : {A : Type 0} (P : A → Type 0) (xs : List A) (k : ℕ) (x : A) → All P xs → slice_get xs k ≡ Some x → P x
all-at P xs k x all is = subst P (at-place xs k x is).1 (all k x (at-place xs k x is).0)

-- ---- a file

first-length : (size count : ℕ) (bytes : List ℕ) → length (first_pages size count bytes) ≡ count
first-length size zero bytes = refl
first-length size (suc count) bytes = ap suc (first-length size count (drop size bytes))

page-count : (size : ℕ) (bytes : List ℕ) → length (pages_of size bytes) ≡ length bytes / size
page-count size bytes = unfold pages_of in first-length size (length bytes / size) bytes

overlaid-none : (page : ℕ) (pages : List (List ℕ)) → overlaid [] page pages ≡ pages
overlaid-none page [] = refl
overlaid-none page (bytes ∷ others) = ap (λ xs. bytes ∷ xs) (overlaid-none (suc page) others)

told-one : (resident : ℕ) (needs : Needs) (pager : MemPagerNow) (layout : Layout) (object : ObjectNow) → IsFileOf resident needs pager layout object
    → told_part object [] ≡ Some (part_of resident (pager, layout))
told-one resident needs pager layout object is =
    ap (λ c. option_map (λ told. record {
      file = seen object (overlaid c.held 0 told.holds);
      made = told.made;
      fails = told.fails;
      readings = [];
    }) c.pager.told) is.cache
    ∙ ap (λ pages. Some (with_file (seen object pages))) (overlaid-none 0 (pages_of pager.page_size pager.bytes))
    ∙ ap (λ f. Some (with_file f)) (is.plain (pages_of pager.page_size pager.bytes))
    ∙ ap (λ n. Some (with_file (opened pager.page_size pager.length (limit_of resident n) (pages_of pager.page_size pager.bytes) layout))) (sym (page-count pager.page_size pager.bytes))
  where
    with_file : PlainFile → FilePart
    with_file f = record { file = f; made = pager.made; fails = pager.fails; readings = [] }

told-all : (resident : ℕ) (objects : List ObjectNow) (pagers : List MemPagerNow) (layouts : List Layout) → length objects ≡ length pagers → length pagers ≡ length layouts
    → ((k : ℕ) (object : ObjectNow) (pager : MemPagerNow) (layout : Layout) → slice_get objects k ≡ Some object → slice_get pagers k ≡ Some pager → slice_get layouts k ≡ Some layout
    → told_part object [] ≡ Some (part_of resident (pager, layout)))
    → told_parts objects ≡ Some (map (part_of resident) (zip pagers layouts))
told-all resident [] [] layouts one other each = refl
told-all resident [] (p ∷ ps) layouts one other each = absurd (omega (arith, one))
told-all resident (o ∷ os) [] layouts one other each = absurd (omega (arith, one))
told-all resident (o ∷ os) (p ∷ ps) [] one other each = absurd (omega (arith, other))
told-all resident (o ∷ os) (p ∷ ps) (l ∷ ls) one other each =
    ap (λ x. option_and_then (λ part. option_map (λ parts. part ∷ parts) (told_parts os)) x) (each 0 o p l refl refl refl)
    ∙ ap (λ x. option_map (λ parts. part_of resident (p, l) ∷ parts) x)
    (told-all resident os ps ls (omega (arith, one)) (omega (arith, other)) (λ k object pager layout a b c. each (suc k) object pager layout a b c))

pub files-told : (resident : ℕ) (needs : List (List Needs)) (objects : List ObjectNow) (pagers : List MemPagerNow) (layouts : List Layout) → length pagers ≡ length layouts
    → AreFiles resident needs pagers layouts objects → told_parts objects ≡ Some (map (part_of resident) (zip pagers layouts))
files-told resident needs objects pagers layouts paired are =
    told-all resident objects pagers layouts are.count paired (λ k object pager layout a b c. told-one resident (part_needs needs k) pager layout object (are.each k object pager layout a b c))

-- ---- its numbers

abbrev object_numbers : ObjectNow → FileNumbers
object_numbers object = record { pages = object.pages.cache.pager.pages; layout = object.layout }

abbrev part_numbers : FilePart → FileNumbers
part_numbers part = record { pages = length part.file.pages; layout = part.file.layout }

numbers-one : (resident : ℕ) (needs : Needs) (pager : MemPagerNow) (layout : Layout) (object : ObjectNow) → IsFileOf resident needs pager layout object
    → object_numbers object ≡ part_numbers (part_of resident (pager, layout))
numbers-one resident needs pager layout object is = λ i. record {
  pages = (ap (λ c. c.pager.pages) is.cache ∙ sym (page-count pager.page_size pager.bytes)) i;
  layout = ap (λ (f : PlainFile). f.layout) (is.plain []) i;
}

numbers-all : (resident : ℕ) (objects : List ObjectNow) (pagers : List MemPagerNow) (layouts : List Layout) → length objects ≡ length pagers → length pagers ≡ length layouts
    → ((k : ℕ) (object : ObjectNow) (pager : MemPagerNow) (layout : Layout) → slice_get objects k ≡ Some object → slice_get pagers k ≡ Some pager → slice_get layouts k ≡ Some layout
    → object_numbers object ≡ part_numbers (part_of resident (pager, layout)))
    → map object_numbers objects ≡ map part_numbers (map (part_of resident) (zip pagers layouts))
numbers-all resident [] [] layouts one other each = refl
numbers-all resident [] (p ∷ ps) layouts one other each = absurd (omega (arith, one))
numbers-all resident (o ∷ os) [] layouts one other each = absurd (omega (arith, one))
numbers-all resident (o ∷ os) (p ∷ ps) [] one other each = absurd (omega (arith, other))
numbers-all resident (o ∷ os) (p ∷ ps) (l ∷ ls) one other each =
    (λ i. each 0 o p l refl refl refl i
    ∷ numbers-all resident os ps ls (omega (arith, one)) (omega (arith, other)) (λ k object pager layout a b c. each (suc k) object pager layout a b c) i)

-- ---- what the opening says of a file

module _ (resident : ℕ) (pagers : List MemPagerNow) (layouts : List Layout) (o : Opening) (is_opening : IsOpening o) (bounded : IsBounded o)
    (files_are : o.machine.files ≡ map (part_of resident) (zip pagers layouts)) where
  part-at : (k : ℕ) (pager : MemPagerNow) (layout : Layout) → slice_get pagers k ≡ Some pager → slice_get layouts k ≡ Some layout
      → slice_get o.machine.files k ≡ Some (part_of resident (pager, layout))
  part-at k pager layout one other = ap (λ fs. slice_get fs k) files_are ∙ map-at (part_of resident) (zip pagers layouts) k (pager, layout) (zip-at pagers layouts k pager layout one other)

  fresh-at : (k : ℕ) (pager : MemPagerNow) (layout : Layout) → slice_get pagers k ≡ Some pager → slice_get layouts k ≡ Some layout
      → IsFresh o.page_size (part_of resident (pager, layout))
  fresh-at k pager layout one other = is_opening.files k (part_of resident (pager, layout)) (part-at k pager layout one other)

  size-at : (k : ℕ) (pager : MemPagerNow) (layout : Layout) → slice_get pagers k ≡ Some pager → slice_get layouts k ≡ Some layout → pager.page_size ≡ o.page_size
  size-at k pager layout one other = ap (λ (f : PlainFile). f.page_size) (fresh-at k pager layout one other).file

  bounded-at : (k : ℕ) (pager : MemPagerNow) (layout : Layout) → slice_get pagers k ≡ Some pager → slice_get layouts k ≡ Some layout
      → IsFileBounded o.page_size (part_of resident (pager, layout))
  bounded-at k pager layout one other = all-at (IsFileBounded o.page_size) o.machine.files k (part_of resident (pager, layout)) bounded.files (part-at k pager layout one other)

  pub all-fit : AllFit resident pagers layouts
  all-fit k pager layout one other =
      let same = size-at k pager layout one other in
      let is = bounded-at k pager layout one other in record {
        known = subst (λ n. IsTrue (is_page_size n)) (sym same) is_opening.known;
        reached = sym (page-count pager.page_size pager.bytes) ∙ is.pages ∙ ap (λ n. pages_reached n pager.length) (sym same);
        laid = is.laid;
        few = subst (λ n. limit_of resident n ≤ 4096) (page-count pager.page_size pager.bytes) is.limit;
      }

  -- ---- the parts

  module _ (scripts : List (List Call)) (now : OpenedNow) (are : AreFiles resident now.needs pagers layouts now.files)
      (paired : length pagers ≡ length layouts) (size : now.page_size ≡ o.page_size) (adhoc : now.adhoc ≡ o.adhoc) (trust : now.trust ≡ o.machine.trust)
      (processes_are : now.processes ≡ o.machine.processes) (needs : now.needs ≡ needs_of (length now.files) (length now.processes) scripts) (few : AreFew scripts) where
    pub opened-told : opening_in now ≡ Some o
    opened-told =
        ap (λ t. option_map (λ fs. record {
          page_size = now.page_size;
          adhoc = now.adhoc;
          machine = record { files = fs; processes = now.processes; trust = now.trust };
        }) t) (files-told resident now.needs now.files pagers layouts paired are)
        ∙ (λ i. Some (record {
          page_size = size i;
          adhoc = adhoc i;
          machine = record { files = sym files_are i; processes = processes_are i; trust = trust i };
        }))

    pub numbers-opened : numbers_in now ≡ numbers_of o
    numbers-opened = λ i. record {
      page_size = size i;
      adhoc = adhoc i;
      files = (numbers-all resident now.files pagers layouts are.count paired (λ k object pager layout a b c. numbers-one resident (part_needs now.needs k) pager layout object (are.each k object pager layout a b c))
          ∙ ap (λ fs. map part_numbers fs) (sym files_are)) i;
      processes = ap (λ (ps : List PlainProcess). length ps) processes_are i;
      caches = ap (λ (t : TrustList). length t.caches) trust i;
    }

    fresh-file : (k : ℕ) (object : ObjectNow) → slice_get now.files k ≡ Some object → IsFreshFile sha_hash now.page_size object
    fresh-file k object there = by_pager (same-place now.files pagers k object are.count there)
      where
        by_both : (pager : MemPagerNow) (layout : Layout) → slice_get pagers k ≡ Some pager → slice_get layouts k ≡ Some layout → IsFreshFile sha_hash now.page_size object
        by_both pager layout one other =
            let is = are.each k object pager layout there one other in record {
              kept = is.kept;
              plain = λ pages. is.plain pages ∙ (λ i. opened
                  ((size-at k pager layout one other ∙ sym size) i)
                  (sym (ap (λ (f : PlainFile). f.length) (is.plain [])) i)
                  (sym (ap (λ c. c.limit) is.cache) i) pages
                  (sym (ap (λ (f : PlainFile). f.layout) (is.plain [])) i));
              uncalled = subst (λ c. IfSome c.pager.told (λ told. told.made ≡ 0)) (sym is.cache) (fresh-at k pager layout one other).uncalled;
            }

        by_pager : (pager : MemPagerNow) × (slice_get pagers k ≡ Some pager) → IsFreshFile sha_hash now.page_size object
        by_pager one =
            let other = same-place pagers layouts k one.0 paired one.1 in
            by_both one.0 other.0 one.1 other.1

    small : (part : ℕ) → Within (part_needs now.needs part) most_needed
    small part = subst (λ ns. Within (part_needs ns part) most_needed) (sym needs) (needs-within (length now.files) (length now.processes) scripts part few)

    fresh-process : (k : ℕ) (p : PlainProcess) → slice_get now.processes k ≡ Some p → p ≡ fresh k p.declared now.page_size
    fresh-process k p there = is_opening.processes k p (ap (λ ps. slice_get ps k) (sym processes_are) ∙ there) ∙ ap (λ n. fresh k p.declared n) (sym size)

    file-count : length now.files ≡ length o.machine.files
    file-count = are.count ∙ sym (ap length files_are ∙ map-length (part_of resident) (zip pagers layouts) ∙ zip-length pagers layouts paired)

    few-files : length now.files ≤ 16
    few-files = omega (arith, file-count, bounded.few_files)

    few-processes : length now.processes ≤ 64
    few-processes = subst (λ ps. length ps ≤ 64) (sym processes_are) bounded.few_processes

    pub openable : IsOpenable sha_hash now
    openable = record {
      known = subst (λ n. IsTrue (is_page_size n)) (sym size) is_opening.known;
      few_files = few-files;
      few_processes = few-processes;
      files = fresh-file;
      spare = λ k object there.
          let one = same-place now.files pagers k object are.count there in
          let other = same-place pagers layouts k one.0 paired one.1 in
          (are.each k object one.0 other.0 there one.1 other.1).spare;
      processes = fresh-process;
      numbers = λ k p there. omega (arith, (small (length now.files + k)).numbers, ap (λ (q : PlainProcess). q.made) (fresh-process k p there));
      unloaded = ap (λ t. t.loaded) trust ∙ is_opening.unloaded;
      entries = subst (λ ns. all_entries ns < 2 ^ 63) (sym needs) (entries-few (length now.files) (length now.processes) scripts few-files few-processes few);
    }

-- ---- counts

fresh-count : (size number : ℕ) (flags : List ProcFlags) → length (processes_from size number flags) ≡ length flags
fresh-count size number [] = refl
fresh-count size number (f ∷ fs) = ap suc (fresh-count size (number + 1) fs)

pub few-fresh : (size number : ℕ) (flags : List ProcFlags) → length (processes_from size number flags) ≤ 64 → length flags ≤ 64
few-fresh size number flags le = omega (arith, le, fresh-count size number flags)

pub zip-few : (resident : ℕ) (pagers : List MemPagerNow) (layouts : List Layout) → length pagers ≡ length layouts
    → length (map (part_of resident) (zip pagers layouts)) ≤ 16 → length pagers ≤ 16
zip-few resident pagers layouts paired le = omega (arith, le, map-length (part_of resident) (zip pagers layouts), zip-length pagers layouts paired)

pub needed-as : (files files' processes processes' : ℕ) (scripts : List (List Call)) (needs : List (List Needs)) → files ≡ files' → processes ≡ processes'
    → needs ≡ needs_of files processes scripts → needs ≡ needs_of files' processes' scripts
needed-as files files' processes processes' scripts needs one other is = is ∙ (λ i. needs_of (one i) (other i) scripts)
