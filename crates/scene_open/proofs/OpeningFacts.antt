-- The opening of a scene is one, and is bounded.
use Rattle.std.proofs.Common.{◌≡◌, ℕ, zero, suc, ◌+◌, ◌*◌, ◌-◌, ◌/◌, ◌<◌, ◌≤◌, cond, Bool, true, false, ltb, List, [], ◌∷◌, map, length, replicate, Option, Some, None, refl, ap, sym, subst, ◌∙◌, arith}
use Rattle.std.specs.Prelude.{All, IsTrue, count_by, filter_map, zip, slice_get, min}
use Rattle.std.specs.List.{cons_option, AllByRecursion, list_any}
use Rattle.std.specs.Int.{div_ceil}
use Rattle.std.specs.Option.{option_or}
use Rattle.std.proofs.Math.Nat.{mul-div_cancel_left}
use Rattle.std.proofs.lemmas.List.{length-map, length-append, length-replicate}
use Rattle.std.proofs.lemmas.List.Elements.{All-nil, All-cons, recursion_from_All}
use Rattle.std.proofs.lemmas.List.Sums.{length-filter, sum_by-cons}
use Rattle.std.proofs.lemmas.Grind.{div_ceil_times}
use Rattle.std.proofs.lemmas.Option.{slice_get_within, get_or_from_slice_get}
use Rattle.std.proofs.lemmas.Slice.Zip.{length-zip}
use Rattle.std.proofs.lemmas.Bool.Decides.{nat_tests}
use Rattle.pg_bytes.specs.PageSize.{is_page_size}
use Rattle.pg_bytes.proofs.PageSizeFacts.{some_page}
use Rattle.pg_bytes.specs.declared.status.Status.{Status}
use Rattle.pg_io.specs.MemPages.{MemPagerNow, whole_pages, pages_of, pages_reached}
use Rattle.pg_io.specs.MemPagesLaws.{shown-TellsWhole}
use Rattle.cs_policy.specs.declared.call.Call.{Call}
use Rattle.cs_policy.specs.declared.flags.ProcFlags.{ProcFlags}
use Rattle.cs_policy.specs.declared.layout.Layout.{Layout}
use Rattle.pg_process.specs.ProcessStep.{PlainProcess, fresh}
use Rattle.pg_trusted.specs.TrustStep.{TrustList}
use Rattle.pg_history.specs.Machine.{FilePart}
use Rattle.pg_history.specs.Opening.{IsFresh}
use Rattle.scene_text.specs.declared.head.Head.{Head}
use Rattle.scene_text.specs.declared.head.Head.TheVariants as head
use Rattle.scene_text.specs.declared.line.Line.{Line}
use Rattle.scene_text.specs.declared.line.Line.TheVariants as line
use Rattle.scene_text.specs.declared.whole.Scene.{Scene}
use Rattle.scene_text.specs.Known.{large_from, page_bytes, is_file, is_process, is_cache, is_adhoc}
use Rattle.scene_text.specs.Scenes.{scene_lines}
use Rattle.scene_text.specs.Texts.{MeetsGrammar}
use Rattle.scene_open.specs.Limits.{is_static, IsWithin}
use Rattle.scene_open.specs.Items.{Item, heads_of, bytes_of, file_end, found_end, item_end, items_end}
use Rattle.scene_open.specs.Layouts.{macho_layout, raw_layout, IsLaid}
use Rattle.scene_open.specs.Opening.{declared, page_size_of, resident_after, resident_from, resident_of, limit_of, fails_of, flags_of, declares_file, files_among, layout_by, layout_of, layouts_of, pager_of, pagers_from, pagers_of, static_by, statics_of, cache_by, caches_of, trust_of, part_of, processes_from, opening_with, opening_of}
use Rattle.scene_open.specs.Fits.{IsFileBounded, IsOpeningFor}
use Rattle.scene_open.proofs.LayoutFacts.{macho_laid, raw_laid}
use Rattle.scene_open.proofs.CountFacts.{count-map, heads_count}
use Rattle.scene_open.proofs.FitFacts.{IsSaid, said_heads, large_heads, adhoc_heads, scene_calls}

-- ---- lists by lines

cons_more : {A : Type 0} (o : Option A) (xs : List A) → length (cons_option o xs) ≡ length (cons_option o []) + length xs
cons_more None xs = omega arith
cons_more (Some x) xs = omega arith

-- a value for each line of a kind
filter_map-count : {A B : Type 0} (f : A → Option B) (p : A → Bool) → ((x : A) → length (cons_option (f x) []) ≡ cond (p x) 1 0) → (xs : List A) → length (filter_map f xs) ≡ count_by p xs
filter_map-count f p one [] = refl
filter_map-count f p one (x ∷ xs) =
    cons_more (f x) (filter_map f xs) ∙ (λ i. one x i + filter_map-count f p one xs i) ∙ sym (sum_by-cons (λ y. cond (p y) 1 0) x xs)

one_static : (h : Head) (bytes : List ℕ) → length (cons_option (static_by h bytes) []) ≡ cond (is_static (line.Head h)) 1 0
one_static (head.PageSize bytes) b = refl
one_static head.Adhoc b = refl
one_static (head.Resident pages) b = refl
one_static (head.File path) b = refl
one_static (head.Raw path off len) b = refl
one_static (head.Static path) b = refl
one_static (head.Admit cdhash) b = refl
one_static (head.Cache path) b = refl
one_static (head.Process flags) b = refl
one_static (head.Fail file number) b = refl

one_cache : (h : Head) (bytes : List ℕ) → length (cons_option (cache_by h bytes) []) ≡ cond (is_cache (line.Head h)) 1 0
one_cache (head.PageSize bytes) b = refl
one_cache head.Adhoc b = refl
one_cache (head.Resident pages) b = refl
one_cache (head.File path) b = refl
one_cache (head.Raw path off len) b = refl
one_cache (head.Static path) b = refl
one_cache (head.Admit cdhash) b = refl
one_cache (head.Cache path) b = refl
one_cache (head.Process flags) b = refl
one_cache (head.Fail file number) b = refl

one_process : (h : Head) → length (cons_option (flags_of h) []) ≡ cond (is_process (line.Head h)) 1 0
one_process (head.PageSize bytes) = refl
one_process head.Adhoc = refl
one_process (head.Resident pages) = refl
one_process (head.File path) = refl
one_process (head.Raw path off len) = refl
one_process (head.Static path) = refl
one_process (head.Admit cdhash) = refl
one_process (head.Cache path) = refl
one_process (head.Process flags) = refl
one_process (head.Fail file number) = refl

-- how many lines of a kind a scene has, by its items
module _ (scene : Scene) (items : List Item) (lines : heads_of items ≡ scene.head) where
  by_items : (p : Line → Bool) → p line.Script ≡ false → ((c : Call) → p (line.Call c) ≡ false) → count_by (λ (x : Item). p (line.Head x.head)) items ≡ count_by p (scene_lines scene)
  by_items p script calls =
      sym (count-map (λ h. p (line.Head h)) (λ (x : Item). x.head) items) ∙ ap (count_by (λ h. p (line.Head h))) lines ∙ sym (heads_count p script calls scene)

  statics_count : length (statics_of items) ≡ count_by is_static (scene_lines scene)
  statics_count = filter_map-count _ (λ (x : Item). is_static (line.Head x.head)) (λ x. one_static x.head (bytes_of x)) items ∙ by_items is_static refl (λ c. refl)

  caches_count : length (caches_of items) ≡ count_by is_cache (scene_lines scene)
  caches_count = filter_map-count _ (λ (x : Item). is_cache (line.Head x.head)) (λ x. one_cache x.head (bytes_of x)) items ∙ by_items is_cache refl (λ c. refl)

  files_count : length (files_among items) ≡ count_by is_file (scene_lines scene)
  files_count = length-filter (λ (x : Item). declares_file x.head) items ∙ by_items is_file refl (λ c. refl)

processes_count : (scene : Scene) → length (filter_map flags_of scene.head) ≡ count_by is_process (scene_lines scene)
processes_count scene = filter_map-count flags_of (λ h. is_process (line.Head h)) one_process scene.head ∙ sym (heads_count is_process refl (λ c. refl) scene)

length-pagers : (heads : List Head) (n : ℕ) (files : List Item) → length (pagers_from heads n files) ≡ length files
length-pagers heads n [] = refl
length-pagers heads n (x ∷ files) = ap suc (length-pagers heads (n + 1) files)

length-processes : (size n : ℕ) (flags : List ProcFlags) → length (processes_from size n flags) ≡ length flags
length-processes size n [] = refl
length-processes size n (x ∷ flags) = ap suc (length-processes size (n + 1) flags)

length-parts : (resident : ℕ) (heads : List Head) (files : List Item) → length (map (part_of resident) (zip (pagers_from heads 0 files) (map layout_of files))) ≡ length files
length-parts resident heads files =
    let a = length-map (zip (pagers_from heads 0 files) (map layout_of files)) (part_of resident) in
    let b = length-zip (pagers_from heads 0 files) (map layout_of files) in
    let c = length-pagers heads 0 files in
    let d = length-map files layout_of in
    a ∙ b ∙ (λ i. min (c i) (d i)) ∙ min_same (length files)
  where
    min_same : (n : ℕ) → min n n ≡ n
    min_same n = grind arith

-- ---- pages

known_size : (large : Bool) → IsTrue (is_page_size (page_bytes large))
known_size true = refl
known_size false = refl

reached : (size n : ℕ) → 0 < size → n ≤ size * div_ceil n size
reached size n some = let t = div_ceil_times n size some in omega (arith, t.0)

length-whole : (size : ℕ) (bytes : List ℕ) → 0 < size → length (whole_pages size bytes) ≡ size * pages_reached size (length bytes)
length-whole size bytes some =
    let r = reached size (length bytes) some in
    let a = length-append bytes (replicate (size * pages_reached size (length bytes) - length bytes) 0) in
    let b = length-replicate {A = ℕ} (size * pages_reached size (length bytes) - length bytes) 0 in
    omega (arith, a, b, r)

pages_are : (size : ℕ) (fails bytes : List ℕ) → 0 < size → length (pages_of size (whole_pages size bytes)) ≡ pages_reached size (length bytes)
pages_are size fails bytes some =
    (shown-TellsWhole (pager_of size fails bytes)).0
    ∙ ap (λ n. n / size) (length-whole size bytes some) ∙ mul-div_cancel_left (pages_reached size (length bytes)) some

-- ---- files

layout_laid : (h : Head) (bytes : List ℕ) → IsLaid (length bytes) (layout_by h bytes)
layout_laid (head.PageSize n) bytes = macho_laid bytes
layout_laid head.Adhoc bytes = macho_laid bytes
layout_laid (head.Resident pages) bytes = macho_laid bytes
layout_laid (head.File path) bytes = macho_laid bytes
layout_laid (head.Raw path off len) bytes = raw_laid bytes (record { at = off; len = len })
layout_laid (head.Static path) bytes = macho_laid bytes
layout_laid (head.Admit cdhash) bytes = macho_laid bytes
layout_laid (head.Cache path) bytes = macho_laid bytes
layout_laid (head.Process flags) bytes = macho_laid bytes
layout_laid (head.Fail file number) bytes = macho_laid bytes

-- the file has no more bytes than it may
abbrev IsSmall : Item → Type 0
IsSmall item = length (bytes_of item) ≤ 67108864

small_by : (n : ℕ) (t : Bool) (x : Status) (o : Option Status) → ltb 67108864 n ≡ t → cond t (Some x) o ≡ None → n ≤ 67108864
small_by n true x o is e = absurd cc
small_by n false x o is e = grind (arith, nat_tests)

small_file : (bytes : List ℕ) (layout : Layout) → file_end bytes layout ≡ None → length bytes ≤ 67108864
small_file bytes layout kept = small_by (length bytes) (ltb 67108864 (length bytes)) _ _ refl kept

small_item : (n : ℕ) (h : Head) (found : Option (List ℕ)) → found_end n h found ≡ None → declares_file h ≡ true → IsSmall (record { head = h; found = found })
small_item n h None kept file = omega arith
small_item n (head.File path) (Some bytes) kept file = small_file bytes (macho_layout bytes) kept
small_item n (head.Raw path off len) (Some bytes) kept file = small_file bytes (raw_layout bytes (record { at = off; len = len })) kept
small_item n (head.PageSize b) (Some bytes) kept file = absurd cc
small_item n head.Adhoc (Some bytes) kept file = absurd cc
small_item n (head.Resident pages) (Some bytes) kept file = absurd cc
small_item n (head.Static path) (Some bytes) kept file = absurd cc
small_item n (head.Admit cdhash) (Some bytes) kept file = absurd cc
small_item n (head.Cache path) (Some bytes) kept file = absurd cc
small_item n (head.Process flags) (Some bytes) kept file = absurd cc
small_item n (head.Fail f number) (Some bytes) kept file = absurd cc

or_none : {A : Type 0} (a b : Option A) → option_or a b ≡ None → (a ≡ None) × (b ≡ None)
or_none None b e = (refl, e)
or_none (Some x) b e = absurd cc

small_files : (n : ℕ) (items : List Item) → items_end n items ≡ None → All IsSmall (files_among items)
small_files n [] kept = All-nil IsSmall
small_files n (x ∷ items) kept =
    let parts = or_none (item_end n x) (items_end (n + 1) items) kept in
    by (declares_file x.head) refl (small_files (n + 1) items parts.1) parts.0
  where
    by : (t : Bool) → declares_file x.head ≡ t → All IsSmall (files_among items) → item_end n x ≡ None → All IsSmall (cond t (x ∷ files_among items) (files_among items))
    by true file rest here = All-cons IsSmall x (files_among items) (small_item n x.head x.found here file) rest
    by false other rest here = rest

-- what is true of each part of small files
parts_all : (P : FilePart → Type 0) (resident : ℕ) (heads : List Head)
    → ((n : ℕ) (x : Item) → IsSmall x → P (part_of resident (pager_of (page_size_of heads) (fails_of heads n) (bytes_of x), layout_of x)))
    → (n : ℕ) (files : List Item) → AllByRecursion IsSmall files → All P (map (part_of resident) (zip (pagers_from heads n files) (map layout_of files)))
parts_all P resident heads give n [] small = All-nil P
parts_all P resident heads give n (x ∷ files) small = All-cons P _ _ (give n x small.0) (parts_all P resident heads give (n + 1) files small.1)

-- the limit in force
some_limit : (resident pages : ℕ) → 0 < limit_of resident pages
some_limit resident pages = grind arith

most_limit : (resident pages : ℕ) → resident ≤ 4096 → limit_of resident pages ≤ 4096
most_limit resident pages most = grind arith

said_resident : (before : ℕ) (h : Head) → before ≤ 4096 → IsSaid h → resident_after before h ≤ 4096
said_resident before (head.Resident pages) le said = let r = said.in_range in grind (arith, nat_tests)
said_resident before (head.PageSize n) le said = le
said_resident before head.Adhoc le said = le
said_resident before (head.File path) le said = le
said_resident before (head.Raw path off len) le said = le
said_resident before (head.Static path) le said = le
said_resident before (head.Admit cdhash) le said = le
said_resident before (head.Cache path) le said = le
said_resident before (head.Process flags) le said = le
said_resident before (head.Fail file number) le said = le

few_resident : (before : ℕ) (heads : List Head) → before ≤ 4096 → AllByRecursion IsSaid heads → resident_from before heads ≤ 4096
few_resident before [] le said = le
few_resident before (h ∷ heads) le said = few_resident (resident_after before h) heads (said_resident before h le said.0) said.1

-- ---- the whole

some_takes : {X : Type 0} (x y : X) → Some x ≡ Some y → x ≡ y
some_takes x y e = cc

processes_fresh : (size n : ℕ) (flags : List ProcFlags) (k : ℕ) (p : PlainProcess) → slice_get (processes_from size n flags) k ≡ Some p → p ≡ fresh (n + k) p.declared size
processes_fresh size n [] k p e = absurd cc
processes_fresh size n (f ∷ flags) zero p e =
    let same : n ≡ n + 0 = omega arith in
    subst (λ (q : PlainProcess). q ≡ fresh (n + 0) q.declared size) (some_takes (fresh n f size) p e) (ap (λ m. fresh m f size) same)
processes_fresh size n (f ∷ flags) (suc k) p e =
    let same : n + 1 + k ≡ n + suc k = omega arith in
    processes_fresh size (n + 1) flags k p e ∙ ap (λ m. fresh m p.declared size) same

all_get : {X : Type 0} (P : X → Type 0) (xs : List X) (k : ℕ) (x : X) → All P xs → slice_get xs k ≡ Some x → P x
all_get P xs k x all e = subst P (get_or_from_slice_get xs k x x e) (all k x (slice_get_within xs k x e))

opening_is : (scene : Scene) (items : List Item) → MeetsGrammar scene → IsWithin (scene_lines scene) → heads_of items ≡ scene.head → items_end 1 items ≡ None
    → IsOpeningFor scene (opening_of items)
opening_is scene items fit within lines passes =
    let heads = heads_of items in
    let size = page_size_of heads in
    let resident = resident_of heads in
    let files = files_among items in
    let known = known_size (declared heads).large in
    let some = some_page size known in
    let small = recursion_from_All IsSmall files (small_files 1 items passes) in
    let said : AllByRecursion IsSaid heads = rw lines (said_heads scene fit) in
    let most = few_resident 4096 heads (omega arith) said in
    let fresh_files = parts_all (IsFresh size) resident heads (λ n x s. record { file = refl; some = some_limit resident _; unread = refl; uncalled = refl }) 0 files small in
    let bounded = parts_all (IsFileBounded size) resident heads
    (λ n x s. record { bytes = s; pages = pages_are size (fails_of heads n) (bytes_of x) some; laid = layout_laid x.head (bytes_of x); limit = most_limit resident _ most }) 0 files small in
    let count = length-parts resident heads files ∙ files_count scene items lines in
    let processes = length-processes size 0 (filter_map flags_of heads) ∙ ap (λ hs. length (filter_map flags_of hs)) lines ∙ processes_count scene in
    let numbered = length-map (map (part_of resident) (zip (pagers_from heads 0 files) (map layout_of files))) _ ∙ count in
    record {
      opening = record {
        known = known;
        files = λ number part e. all_get (IsFresh size) _ number part fresh_files e;
        processes = λ number p e. processes_fresh size 0 (filter_map flags_of heads) number p e ∙ ap (λ m. fresh m p.declared size) (from_zero number);
        unloaded = refl;
      };
      bounded = record {
        few_files = rw count within.files;
        few_processes = rw processes within.processes;
        few_statics = rw (statics_count scene items lines) within.statics;
        few_caches = rw (caches_count scene items lines) within.caches;
        files = bounded;
      };
      numbers = record {
        page_size = ap page_bytes (ap (λ hs. large_from false (map (λ h. line.Head h) hs)) lines ∙ sym (large_heads scene));
        adhoc = ap (λ hs. list_any is_adhoc (map (λ h. line.Head h) hs)) lines ∙ sym (adhoc_heads scene);
        files = numbered;
        processes = processes;
        caches = caches_count scene items lines;
      };
      calls = scene_calls scene fit;
    }
  where
    from_zero : (n : ℕ) → 0 + n ≡ n
    from_zero n = omega arith

pub opening_fits : (scene : Scene) (items : List Item) (pagers : List MemPagerNow) (layouts : List Layout) (trust : TrustList)
    → MeetsGrammar scene → IsWithin (scene_lines scene) → heads_of items ≡ scene.head → items_end 1 items ≡ None
    → pagers ≡ pagers_of items → layouts ≡ layouts_of items → trust ≡ trust_of items → IsOpeningFor scene (opening_with scene.head pagers layouts trust)
opening_fits scene items pagers layouts trust fit within lines passes p l t =
    subst (IsOpeningFor scene) (λ i. opening_with (lines i) (sym p i) (sym l i) (sym t i)) (opening_is scene items fit within lines passes)

pub paired : (items : List Item) → length (pagers_of items) ≡ length (layouts_of items)
paired items = length-pagers (heads_of items) 0 (files_among items) ∙ sym (length-map (files_among items) layout_of)

pub few_statics : (scene : Scene) (items : List Item) → heads_of items ≡ scene.head → IsWithin (scene_lines scene) → length (statics_of items) ≤ 64
few_statics scene items lines within = rw (statics_count scene items lines) within.statics
