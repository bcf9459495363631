-- How the files of a run are read, one after another.
use Rattle.std.proofs.Common.{◌≡◌, ℕ, zero, suc, ◌+◌, ◌-◌, ◌<◌, ◌≤◌, List, [], ◌∷◌, ◌++◌, length, take, drop, get_or, map, replicate, Option, Some, None, Result, Ok, Err, string_bytes, refl, sym, ap, subst, ◌∙◌, inl, inr, arith, add-one, length-take, length-append}
use Rattle.std.specs.List.{filter_map, cons_option}
use Rattle.std.specs.Global.{Vec, Global}
use Rattle.std.specs.Prelude.{String}
use Rattle.std.proofs.lemmas.Bool.{cases_lt, lt-ltb}
use Rattle.std.proofs.lemmas.Bool.Decides.{nat_tests}
use Rattle.std.proofs.lemmas.List.{take_all, drop_all, drop_more, get_or-map, length-map, length-replicate, append_assoc, append-nil}
use Rattle.std.proofs.lemmas.List.FromFn.{length-map-range_with_len}
use Rattle.pg_bytes.specs.Rules.{first}
use Rattle.pg_bytes.proofs.RuleFacts.{kept-append, NoneBroken-from}
use Rattle.pg_digest.specs.Kinds.{Hash}
use Rattle.pg_io.specs.Files.{Told, GivesFirst, next_read, after_read}
use Rattle.macho_slices.specs.declared.form.Form.{Form}
use Rattle.macho_slices.specs.declared.refusal.FatRefusal.{FatRefusal}
use Rattle.macho_slices.specs.declared.form.Form.TheVariants.{Thin, Fat}
use Rattle.macho_slices.specs.declared.form.Width.{Width}
use Rattle.macho_slices.specs.Layout.{form_of, slices_by, fat_slices, slice_at, count}
use Rattle.macho_slices.specs.Rules.{start_rules, table_rules, place_rules, overlap_rules, form_rules}
use Rattle.macho_slices.specs.Rules as fat
use Rattle.cs_verify.specs.declared.report.SliceReport.{SliceReport}
use Rattle.cs_verify.specs.Report.{IsReport, slice_report}
use Rattle.cs_sign.specs.declared.early.Early.{Early}
use Rattle.cs_sign.specs.declared.early.Early.TheVariants.{Usage, Unread, TooLarge, Refused, NotSealed}
use Rattle.cs_sign.specs.declared.early.Stop.{Stop}
use Rattle.cs_sign.specs.declared.early.Stop.TheVariants as stop
use Rattle.cs_sign.specs.Early.{most}
use Rattle.cs_sign.specs.Words.{Text}
use Rattle.cs_sign.specs.Reading.{Found, limited, read_of, hash_in, hashes_in, matched_hashes, sealed_hashes, cached, finds, after_reads, ReadsWithin, Answers, GoesAs, ReadsSome, CachedSome, items_of, IsCaused}

-- ---- one file

-- its first bytes, one more than it may have, pass as all of them do
limited-first : (whole given : List ℕ) → given ≡ take 67108865 whole → limited given ≡ limited whole
limited-first whole given is = elim (cases_lt most (length whole)) [
  | inl long ↦
      let more : most < length given = omega (arith, ap length is, length-take 67108865 whole) in
      rw (lt-ltb most (length given) more, lt-ltb most (length whole) long) refl
  | inr short ↦
      let all : given ≡ whole = is ∙ take_all 67108865 whole (omega arith) in
      rw all refl
]

pub read-first : (item : ℕ) (found : Option (List ℕ)) (given : List ℕ) (result : Result (Vec ℕ) Stop) → GivesFirst found 67108865 given → Answers items_of (limited given) result → Answers items_of (read_of item found) result
read-first item found given result gives answers =
    let same : limited given ≡ read_of item found = limited-first gives.whole given gives.given_first ∙ ap (read_of item) (sym gives.found_whole) in
    let P : Result (List ℕ) Early → Type 0 = λ goes. Answers items_of goes result in
    subst P same answers

-- ---- what is told after reads

after-one-first : (n : ℕ) (told : Told) → after_reads n (after_read told) ≡ after_read (after_reads n told)
after-one-first zero told = refl
after-one-first (suc n) told = ap after_read (after-one-first n told)

after-both : (n i : ℕ) (told : Told) → after_reads n (after_reads i told) ≡ after_reads (n + i) told
after-both zero i told = let same : 0 + i ≡ i = omega arith in rw same refl
after-both (suc n) i told = let same : suc n + i ≡ suc (n + i) = omega arith in rw same (ap after_read (after-both n i told))

pub reads-none : (told : Told) (many : ℕ) (now : Option Told) → now ≡ Some told → ReadsWithin told many now
reads-none told many now is = record { reads = 0; few = omega arith; after = is }

pub reads-one : (told : Told) (many : ℕ) (now : Option Told) → 1 ≤ many → now ≡ Some (after_read told) → ReadsWithin told many now
reads-one told many now some is = record { reads = 1; few = some; after = is }

pub reads-all : (told : Told) (many i : ℕ) (now : Option Told) → i ≤ many → now ≡ Some (after_reads i told) → ReadsWithin told many now
reads-all told many i now few is = record { reads = i; few = few; after = is }

pub reads-behind : (told : Told) (many i more : ℕ) (now : Option Told) → i + more ≤ many → ReadsWithin (after_reads i told) more now → ReadsWithin told many now
reads-behind told many i more now few known = record {
  reads = known.reads + i;
  few = omega (arith, known.few);
  after = known.after ∙ ap (λ (t : Told). Some t) (after-both known.reads i told);
}

-- ---- whatever the files tell

-- a call answers as the run goes, and so it goes
pub goes-as : {T X : Type 0} (Goes : Result X Early → Type 0) (value : T → X) (goes : Result X Early) (result : Result T Stop) → Answers value goes result → Goes goes → GoesAs Goes value result
goes-as Goes value goes (Ok found) is known = subst Goes is known
goes-as Goes value goes (Err (stop.Early early)) is known = subst Goes is known
goes-as Goes value goes (Err stop.NoMemory) is known = tt

pub some-read : (item : ℕ) (bytes : List ℕ) (result : Result (Vec ℕ) Stop) → Answers items_of (limited bytes) result → GoesAs (ReadsSome item) items_of result
some-read item bytes result answers =
    goes-as (ReadsSome item) items_of (limited bytes) result answers (record { found = Some bytes; is = refl })

pub some-failed : (item : ℕ) → ReadsSome item (Err (Unread item))
some-failed item = record { found = None; is = refl }

-- ---- several files

-- the cdhashes of the files of several paths, where this is told
abbrev pub cached_told : Hash → Told → ℕ → List Text → List (List ℕ) → Result (List (List ℕ)) Early
cached_told hash told item paths hashes = cached hash item (finds told paths) hashes

pub cached-next : (hash : Hash) (item : ℕ) (found : Found) (others : List Found) (hashes more : List (List ℕ)) (bytes : List ℕ) → read_of item found ≡ Ok bytes → sealed_hashes hash item bytes ≡ Ok more → cached hash item (found ∷ others) hashes ≡ cached hash (item + 1) others (hashes ++ more)
cached-next hash item found others hashes more bytes read sealed = rw (read, sealed) refl

-- a file that does not pass ends the run
pub cached-unread : (hash : Hash) (item : ℕ) (found : Found) (others : List Found) (hashes : List (List ℕ)) (whole : Result (List (List ℕ)) Early) (s : Stop) → Answers {T = Vec ℕ} items_of (read_of item found) (Err s) → cached hash item (found ∷ others) hashes ≡ whole → Answers {T = Vec (List ℕ)} items_of whole (Err s)
cached-unread hash item found others hashes whole (stop.Early early) stops so_far = sym so_far ∙ rw stops refl
cached-unread hash item found others hashes whole stop.NoMemory stops so_far = tt

pub cached-unsealed : (hash : Hash) (item : ℕ) (found : Found) (others : List Found) (hashes : List (List ℕ)) (whole : Result (List (List ℕ)) Early) (bytes : List ℕ) (s : Stop) → read_of item found ≡ Ok bytes → Answers {T = Vec (List ℕ)} items_of (sealed_hashes hash item bytes) (Err s) → cached hash item (found ∷ others) hashes ≡ whole → Answers {T = Vec (List ℕ)} items_of whole (Err s)
cached-unsealed hash item found others hashes whole bytes (stop.Early early) read stops so_far = sym so_far ∙ rw (read, stops) refl
cached-unsealed hash item found others hashes whole bytes stop.NoMemory read stops so_far = tt

-- the paths from one on
pub paths-split : (paths : List (String Global)) (i : ℕ) (path : String Global) → i < length paths → path ≡ get_or paths i path → drop i (map string_bytes paths) ≡ string_bytes path ∷ drop (i + 1) (map string_bytes paths)
paths-split paths i path lt is =
    let long = length-map paths (string_bytes {Z = Global}) in
    drop_more (map string_bytes paths) i [] (omega (arith, long))
    ∙ ap (λ (text : List ℕ). text ∷ drop (i + 1) (map string_bytes paths)) (get_or-map (string_bytes {Z = Global}) paths i path [] lt ∙ ap string_bytes (sym is))

-- ---- a sealed file

pub sealed-is : (hash : Hash) (item : ℕ) (bytes : List ℕ) (reports given : List SliceReport) (result : Result (Vec (List ℕ)) Stop) → IsReport hash bytes reports → given ≡ reports → Answers items_of (matched_hashes item given) result → Answers items_of (sealed_hashes hash item bytes) result
unfolding sealed_hashes
sealed-is hash item bytes reports given result is same answers =
    let P : List SliceReport → Type 0 = λ said. Answers items_of (matched_hashes item said) result in
    let all = subst P (same ∙ is.says) answers in
    rw is.unbroken all

pub refused-is : (hash : Hash) (item : ℕ) (bytes : List ℕ) (refusal : FatRefusal) → fat.broken bytes ≡ Some refusal → sealed_hashes hash item bytes ≡ Err (NotSealed item)
unfolding sealed_hashes
refused-is hash item bytes refusal broken = rw broken refl

-- at most so many are kept
length-cons_option : {Y : Type 0} (o : Option Y) (kept : List Y) (n : ℕ) → length kept ≤ n → length (cons_option o kept) ≤ suc n
length-cons_option None kept n le = omega arith
length-cons_option (Some y) kept n le = omega arith

length-filter_map : {X Y : Type 0} (h : X → Option Y) (xs : List X) → length (filter_map h xs) ≤ length xs
length-filter_map h [] = omega arith
length-filter_map h (x ∷ xs) = length-cons_option (h x) (filter_map h xs) (length xs) (length-filter_map h xs)

-- a fat file has at most 32 slices
few-fat : (width : Width) (bytes : List ℕ) → first (table_rules width bytes ++ (place_rules width bytes ++ overlap_rules (fat_slices width bytes))) ≡ None → length (fat_slices width bytes) ≤ 32
few-fat width bytes kept =
    let none = NoneBroken-from (table_rules width bytes) (kept-append (table_rules width bytes) (place_rules width bytes ++ overlap_rules (fat_slices width bytes)) kept).0 in
    let few : count bytes ≤ 32 = grind (arith, nat_tests) in
    omega (arith, few, length-map-range_with_len (slice_at width bytes) 0 (count bytes))

few-by : (form : Option Form) (bytes : List ℕ) → first (form_rules form bytes) ≡ None → length (slices_by form bytes) ≤ 32
few-by None bytes kept = omega arith
few-by (Some Thin) bytes kept = omega arith
few-by (Some (Fat width)) bytes kept = few-fat width bytes kept

few-slices : (bytes : List ℕ) → fat.broken bytes ≡ None → length (slices_by (form_of bytes) bytes) ≤ 32
unfolding fat.broken
few-slices bytes kept = few-by (form_of bytes) bytes (kept-append (start_rules bytes) (form_rules (form_of bytes) bytes) kept).1

pub few-hashes : (hash : Hash) (bytes : List ℕ) (reports : List SliceReport) → IsReport hash bytes reports → length (hashes_in reports) ≤ 32
few-hashes hash bytes reports is =
    omega (arith, length-filter_map hash_in reports, ap length is.says, length-map (slices_by (form_of bytes) bytes) (slice_report hash bytes), few-slices bytes is.unbroken)

-- ---- one step of the loop over paths

module _ (hash : Hash) (told : Told) (i : ℕ) (paths : List (String Global)) (path : String Global) (text : Text) (lt : i < length paths) (is : path ≡ get_or paths i path) (named : text ≡ string_bytes path) where
  split : drop i (map string_bytes paths) ≡ text ∷ drop (i + 1) (map string_bytes paths)
  split = paths-split paths i path lt is ∙ ap (λ (word : Text). word ∷ drop (i + 1) (map string_bytes paths)) (sym named)

  pub cached-step : (found more new : List (List ℕ)) (bytes given : List ℕ) (whole : Result (List (List ℕ)) Early) → read_of i (next_read (after_reads i told) text) ≡ Ok bytes → given ≡ bytes → sealed_hashes hash i given ≡ Ok more → new ≡ found ++ more → cached_told hash (after_reads i told) i (drop i (map string_bytes paths)) found ≡ whole → cached_told hash (after_reads (i + 1) told) (i + 1) (drop (i + 1) (map string_bytes paths)) new ≡ whole
  cached-step found more new bytes given whole read same sealed grown so_far =
      let before = rw split at so_far in
      let hashes = rw same at sealed in
      let next = cached-next hash i (next_read (after_reads i told) text) (finds (after_read (after_reads i told)) (drop (i + 1) (map string_bytes paths))) found more bytes read hashes in
      rw (grown, add-one i) (rw (add-one i) at (sym next ∙ before))

  pub cached-stops-unread : (found : List (List ℕ)) (whole : Result (List (List ℕ)) Early) (s : Stop) → Answers {T = Vec ℕ} items_of (read_of i (next_read (after_reads i told) text)) (Err s) → cached_told hash (after_reads i told) i (drop i (map string_bytes paths)) found ≡ whole → Answers {T = Vec (List ℕ)} items_of whole (Err s)
  cached-stops-unread found whole s stops so_far =
      cached-unread hash i (next_read (after_reads i told) text) (finds (after_read (after_reads i told)) (drop (i + 1) (map string_bytes paths))) found whole s stops (rw split at so_far)

  pub cached-stops-unsealed : (found : List (List ℕ)) (bytes given : List ℕ) (whole : Result (List (List ℕ)) Early) (s : Stop) → read_of i (next_read (after_reads i told) text) ≡ Ok bytes → given ≡ bytes → Answers {T = Vec (List ℕ)} items_of (sealed_hashes hash i given) (Err s) → cached_told hash (after_reads i told) i (drop i (map string_bytes paths)) found ≡ whole → Answers {T = Vec (List ℕ)} items_of whole (Err s)
  cached-stops-unsealed found bytes given whole s read same stops so_far =
      let P : List ℕ → Type 0 = λ held. Answers {T = Vec (List ℕ)} items_of (sealed_hashes hash i held) (Err s) in
      cached-unsealed hash i (next_read (after_reads i told) text) (finds (after_read (after_reads i told)) (drop (i + 1) (map string_bytes paths))) found whole bytes s read (subst P same stops) (rw split at so_far)

-- no path is left
pub cached-done : (hash : Hash) (told : Told) (i : ℕ) (paths : List (String Global)) (found : List (List ℕ)) (whole : Result (List (List ℕ)) Early) → length paths ≤ i → cached_told hash (after_reads i told) i (drop i (map string_bytes paths)) found ≡ whole → whole ≡ Ok found
cached-done hash told i paths found whole past so_far =
    let none = drop_all i (map string_bytes paths) (omega (arith, past, length-map paths (string_bytes {Z = Global}))) in
    let last = rw none at so_far in
    sym last

-- ---- the same over some bytes of the files

-- So many files gave these cdhashes, for something that was found of each.
pub record Taken (hash : Hash) (many : ℕ) (hashes : List (List ℕ)) : Type 0 where
  pub found : List Found
  pub each : length found ≡ many
  pub is : (others : List Found) → cached hash 0 (found ++ others) [] ≡ cached hash many others hashes

pub taken-none : (hash : Hash) (hashes : List (List ℕ)) → hashes ≡ [] → Taken hash 0 hashes
taken-none hash hashes none = record { found = []; each = refl; is = λ others. rw none refl }

pub taken-more : (hash : Hash) (i : ℕ) (hashes more new : List (List ℕ)) (bytes given : List ℕ) → Taken hash i hashes → ReadsSome i (Ok bytes) → given ≡ bytes → sealed_hashes hash i given ≡ Ok more → new ≡ hashes ++ more → Taken hash (i + 1) new
taken-more hash i hashes more new bytes given known read same sealed grown = record {
  found = known.found ++ read.found ∷ [];
  each = omega (arith, length-append known.found (read.found ∷ []), known.each);
  is = λ others.
      ap (λ (all : List Found). cached hash 0 all []) (append_assoc known.found (read.found ∷ []) others)
      ∙ known.is (read.found ∷ others)
      ∙ cached-next hash i read.found others hashes more bytes (sym read.is) (rw same at sealed)
      ∙ rw grown refl;
}

-- a file that does not pass ends the run, whatever is found of those behind it
stopped : (hash : Hash) (i many : ℕ) (hashes : List (List ℕ)) (found : Found) (early : Early) → i < many → Taken hash i hashes → cached hash i (found ∷ replicate (many - (i + 1)) None) hashes ≡ Err early → CachedSome hash many (Err early)
stopped hash i many hashes found early lt known is = record {
  found = known.found ++ found ∷ replicate (many - (i + 1)) None;
  each = omega (arith, length-append known.found (found ∷ replicate (many - (i + 1)) None), known.each, length-replicate {A = Found} (many - (i + 1)) None);
  is = sym (known.is (found ∷ replicate (many - (i + 1)) None) ∙ is);
}

pub some-unread : (hash : Hash) (i many : ℕ) (hashes : List (List ℕ)) (s : Stop) → i < many → Taken hash i hashes → GoesAs {T = Vec ℕ} (ReadsSome i) items_of (Err s) → GoesAs {T = Vec (List ℕ)} (CachedSome hash many) items_of (Err s)
some-unread hash i many hashes (stop.Early early) lt known read =
    stopped hash i many hashes read.found early lt known (rw (← read.is) refl)
some-unread hash i many hashes stop.NoMemory lt known read = tt

pub some-unsealed : (hash : Hash) (i many : ℕ) (hashes : List (List ℕ)) (bytes given : List ℕ) (s : Stop) → i < many → Taken hash i hashes → ReadsSome i (Ok bytes) → given ≡ bytes → Answers {T = Vec (List ℕ)} items_of (sealed_hashes hash i given) (Err s) → GoesAs {T = Vec (List ℕ)} (CachedSome hash many) items_of (Err s)
some-unsealed hash i many hashes bytes given (stop.Early early) lt known read same stops =
    stopped hash i many hashes read.found early lt known (rw (← read.is, rw same at stops) refl)
some-unsealed hash i many hashes bytes given stop.NoMemory lt known read same stops = tt

pub some-done : (hash : Hash) (i many : ℕ) (hashes : List (List ℕ)) → i ≡ many → Taken hash i hashes → CachedSome hash many (Ok hashes)
some-done hash i many hashes same known = record {
  found = known.found;
  each = known.each ∙ same;
  is = sym (ap (λ (all : List Found). cached hash 0 all []) (sym (append-nil known.found)) ∙ known.is []);
}

-- ---- causes

pub caused-as : (T X : Type 0) (s : Stop) (start before now : ℕ) → before ≡ start → IsCaused {T = T} (Err s) before now → IsCaused {T = X} (Err s) start now
caused-as T X (stop.Early Usage) start before now same cause = absurd cause
caused-as T X (stop.Early (Unread item)) start before now same cause = rw (← same) cause
caused-as T X (stop.Early TooLarge) start before now same cause = cause ∙ same
caused-as T X (stop.Early (Refused refusal)) start before now same cause = cause ∙ same
caused-as T X (stop.Early (NotSealed item)) start before now same cause = cause ∙ same
caused-as T X stop.NoMemory start before now same cause = cause ∙ same

pub caused-still : (T X : Type 0) (s : Stop) (start now : ℕ) → now ≡ start → ((count : ℕ) → IsCaused {T = T} (Err s) count count) → IsCaused {T = X} (Err s) start now
caused-still T X s start now same cause =
    let P : ℕ → Type 0 = λ count. IsCaused {T = X} (Err s) start count in
    subst P (sym same) (caused-as T X s start start start refl (cause start))
