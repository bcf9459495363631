-- Reading a range page by page: what each step leaves.
use Rattle.std.proofs.Common.{◌≡◌, ℕ, zero, suc, ◌+◌, ◌-◌, ◌*◌, ◌/◌, ◌<◌, ◌≤◌, Bool, true, false, List, [], ◌∷◌, ◌++◌, length, take, drop, replicate, Option, Some, None, refl, sym, ap, subst, ◌∙◌, arith, not, inl, inr, length-append, map}
use Rattle.std.specs.Prelude.{◌⊎◌, IsTrue, MatchOption, vec_len, vec_capacity, Result, Ok, Err, OnOk, is_err, min, is_some, unwrap_or, filter, slice_set, option_map, if◌then◌else◌}
use Rattle.std.specs.List.{concat, range_with_len}
use Rattle.std.specs.Borrow.{Bor}
use Rattle.std.specs.Global.{Vec}
use Rattle.std.proofs.lemmas.List.{replicate-append-replicate}
use Rattle.std.proofs.lemmas.List.Elements.{filter-append}
use Rattle.pg_bytes.specs.PageSize.{is_page_size}
use Rattle.pg_bytes.specs.Counts.{Rose}
use Rattle.pg_digest.specs.Kinds.{Hash}
use Rattle.pg_io.specs.Pager.{MadeCalls}
use Rattle.pg_io.proofs.CallLaws.{no_calls, calls_made}
use Rattle.pg_cache.specs.Held.{Held, find_held}
use Rattle.pg_cache.specs.Cache.{CacheNow, resident_page, at_hand, IsSound, KeepsSizes}
use Rattle.pg_cache.specs.Gives.{PeekLeaves, PeekGives}
use Rattle.pg_cache.specs.Steps.{ReadsSpare, Peeks}
use Rattle.pg_cache.specs.Finds.{Finds}
use Rattle.pg_cache.specs.declared.fault.PagerFault.{PagerFault}
use Rattle.pg_cache.proofs.GiveFacts.{sizes_both}
use Rattle.pg_cache.proofs.Laws.{some_pages, some_finds, finds_same, peek_read_finds}
use Rattle.pg_cache.proofs.MadeLaws.{peek_made}
use Rattle.pg_pages.specs.Marks.{blank, marks_of}
use Rattle.pg_pages.specs.Pages.{PagesNow, IsMarked}
use Rattle.pg_io.specs.declared.pager_call.PagerCall.{PagerCall}
use Rattle.pg_io.specs.declared.pager_call.PagerCall.TheVariants.{Reads, Writes}
use Rattle.pg_cache.proofs.CalledLaws.{called_none, called_both, peek_called}
use Rattle.pg_object.specs.PagerCalls.{Called, ReadsAfter}
use Rattle.pg_object.proofs.PagerCallFacts.{no_reads, one_read, reads_both, reads_are, reads_more}
use Rattle.pg_object.specs.Writes.{end_reached}
use Rattle.pg_object.specs.Reads.{hand_bytes, range_on, unread_before, OnlyLooks, FindsPage, ReadBefore, ReadFailed}
use Rattle.pg_object.proofs.RangeFacts.{Reaches, page_reached, page_inside, none_read, next_read, longer, first_last}

-- ---- one page

pub hand_is : (cache : CacheNow) (page : ℕ) (bytes : List ℕ) → option_map (λ held. held.bytes) (at_hand cache page) ≡ Some bytes → hand_bytes cache page ≡ bytes
hand_is cache page bytes e = ap (λ (o : Option (List ℕ)). unwrap_or o []) e

pub found_page : (old new : CacheNow) (page : ℕ) (result : Result (Bor (List ℕ)) PagerFault) (lent : Bor (List ℕ)) → result ≡ Ok lent → IsSound old → page < old.pager.pages
    → PeekGives old page result new → (seen : List ℕ) → option_map (λ held. held.bytes) (at_hand new page) ≡ Some seen → length seen ≡ new.pager.page_size
    → FindsPage old page (hand_bytes new page) new
found_page old new page result lent done sound inside gives seen at_hand long =
    let lends : PeekGives old page (Ok lent) new = subst (λ (r : Result (Bor (List ℕ)) PagerFault). PeekGives old page r new) done gives in
    let is : hand_bytes new page ≡ lent.now = hand_is new page lent.now lends.bytes in
    record {
      before = λ pages finds. subst (λ (b : List ℕ). Finds old (slice_set pages page b)) (sym is) (peek_read_finds old new page lent pages sound inside lends finds).before;
      after = λ pages finds. subst (λ (b : List ℕ). Finds new (slice_set pages page b)) (sym is) (peek_read_finds old new page lent pages sound inside lends finds).after;
      whole = ap length (hand_is new page seen at_hand) ∙ long ∙ gives.leaves.sizes.page_size;
    }

-- ---- pages that were looked at

pub looks_both : (hash : Hash) (old between new : PagesNow) → OnlyLooks hash old between → OnlyLooks hash between new → OnlyLooks hash old new
looks_both hash old between new one two = record {
  held = two.held ∙ one.held;
  content = two.content ∙ one.content;
  marks = λ page. both page (one.marks page) (two.marks page);
  calls = two.calls ∙ one.calls;
  sizes = sizes_both old.cache between.cache new.cache one.sizes two.sizes;
  sound = two.sound;
  marked = two.marked;
}
  where
    both : (page : ℕ) → (marks_of between.marks page ≡ marks_of old.marks page) ⊎ ((resident_page old.cache page ≡ None) × (marks_of between.marks page ≡ blank))
        → (marks_of new.marks page ≡ marks_of between.marks page) ⊎ ((resident_page between.cache page ≡ None) × (marks_of new.marks page ≡ blank))
        → (marks_of new.marks page ≡ marks_of old.marks page) ⊎ ((resident_page old.cache page ≡ None) × (marks_of new.marks page ≡ blank))
    both page (inl a) (inl b) = inl (b ∙ a)
    both page (inr a) (inl b) = inr (a.0, b ∙ a.1)
    both page first (inr b) = inr (ap (λ (l : List Held). find_held l page) (sym one.held) ∙ b.0, b.1)

pub looks_same : (hash : Hash) (old : PagesNow) → IsSound old.cache → IsMarked hash old.cache old.marks → OnlyLooks hash old old
looks_same hash old sound marked = record {
  held = refl;
  content = refl;
  marks = λ page. inl refl;
  calls = refl;
  sizes = record { limit = refl; pages = refl; page_size = refl };
  sound = sound;
  marked = marked;
}

-- ---- the pager calls

range_more : (first count : ℕ) → range_with_len first (suc count) ≡ range_with_len first count ++ (first + count) ∷ []
range_more first zero = ap (λ n. n ∷ []) {x = first} {y = first + 0} (omega arith)
range_more first (suc count) =
    ap (λ (l : List ℕ). first ∷ l) (range_more (first + 1) count)
    ∙ ap (λ n. (first ∷ range_with_len (first + 1) count) ++ n ∷ []) {x = first + 1 + count} {y = first + suc count} (omega arith)

-- the page, unless it is resident
abbrev pub unread : Bool → ℕ → List ℕ
unread resident page = if resident then [] else page ∷ []

filter_one : (f : ℕ → Bool) (page : ℕ) → filter (λ q. not (f q)) (page ∷ []) ≡ unread (f page) page
filter_one f page = by_test (f page) refl
  where
    by_test : (b : Bool) → f page ≡ b → filter (λ q. not (f q)) (page ∷ []) ≡ unread b page
    by_test true e = ap (λ c. if not c then page ∷ [] else []) e
    by_test false e = ap (λ c. if not c then page ∷ [] else []) e

pub unread_next : (cache : CacheNow) (at page : ℕ) → at / cache.pager.page_size ≤ page
    → unread_before cache at (page + 1) ≡ unread_before cache at page ++ unread (is_some (resident_page cache page)) page
unread_next cache at page first =
    let start = at / cache.pager.page_size in
    let count : page + 1 - start ≡ suc (page - start) = omega arith in
    let last : start + (page - start) ≡ page = omega arith in
    ap (λ n. filter (λ q. not (is_some (resident_page cache q))) (range_with_len start n)) count
    ∙ ap (filter (λ q. not (is_some (resident_page cache q)))) (range_more start (page - start) ∙ ap (λ n. range_with_len start (page - start) ++ n ∷ []) last)
    ∙ filter-append (λ q. not (is_some (resident_page cache q))) (range_with_len start (page - start)) (page ∷ [])
    ∙ ap (λ (l : List ℕ). unread_before cache at page ++ l) (filter_one (λ q. is_some (resident_page cache q)) page)

well_more : (xs ys : List ℕ) → replicate (length xs) false ++ replicate (length ys) false ≡ replicate (length (xs ++ ys)) false
well_more xs ys = replicate-append-replicate (length xs) (length ys) false ∙ ap (λ n. replicate n false) (sym (length-append xs ys))

-- a page that is looked at is read once, unless it is resident
pub peek_reads : (old new : CacheNow) (page : ℕ) (failed : Bool) → Peeks old page failed new → ReadsAfter (length (unread (is_some (resident_page old page)) page)) old.pager.reads new.pager.reads
peek_reads old new page failed peeks = by_page (resident_page old page) peeks
  where
    by_page : (o : Option Held) → MatchOption o (ReadsSpare old page failed new) (λ _. (failed ≡ false) × (new ≡ old)) → ReadsAfter (length (unread (is_some o) page)) old.pager.reads new.pager.reads
    by_page None reads = one_read old.pager.reads new.pager.reads reads.read.reads
    by_page (Some held) same = no_reads old.pager.reads new.pager.reads (ap (λ (c : CacheNow). c.pager.reads) same.1)

module _ (hash : Hash) (old mid new : PagesNow) (at count page : ℕ) (bytes : List ℕ) (was : ReadBefore hash old at count page bytes mid) (first : at / old.cache.pager.page_size ≤ page)
    (looks : OnlyLooks hash mid new) where
  resident_still : is_some (resident_page mid.cache page) ≡ is_some (resident_page old.cache page)
  resident_still = ap (λ (l : List Held). is_some (find_held l page)) was.looks.held

  -- the page was read where it is not resident
  pub read_next : (found : List ℕ) (after : List ℕ) → PeekLeaves mid.cache page false new.cache → FindsPage mid.cache page found new.cache
      → after ≡ bytes ++ range_on old.cache.pager.page_size at count page found → IsTrue (is_page_size old.cache.pager.page_size) → page < old.cache.pager.pages
      → Reaches old.cache.pager.page_size at count page → ReadBefore hash old at count (page + 1) after new
  read_next found after leaves finds is known inside reaches = record {
    pages = slice_set was.pages page found;
    before = finds_same mid.cache old.cache (slice_set was.pages page found) (sym was.looks.held) (sym was.looks.content) back (finds.before was.pages was.after);
    after = finds.after was.pages was.after;
    read = is ∙ ap (λ (l : List ℕ). l ++ range_on old.cache.pager.page_size at count page found) was.read
        ∙ next_read old.cache.pager.page_size at count page was.pages found known was.before.whole (let n = was.before.count in omega arith)
        (finds.whole ∙ was.looks.sizes.page_size) reaches;
    looks = looks_both hash old mid new was.looks looks;
    made = subst (λ l. MadeCalls old.cache.pager l new.cache.pager) (one_more (is_some (resident_page old.cache page)) refl)
        (calls_made old.cache.pager mid.cache.pager new.cache.pager (replicate (length (unread_before old.cache at page)) false)
        (if is_some (resident_page mid.cache page) then [] else false ∷ []) was.made (peek_made mid.cache new.cache page false leaves.steps));
    called = subst (λ (calls : List PagerCall). Called old.cache.pager calls new.cache.pager) (next_reads (is_some (resident_page old.cache page)) refl)
        (called_both old.cache.pager mid.cache.pager new.cache.pager (map Reads (unread_before old.cache at page)) (if is_some (resident_page mid.cache page) then [] else Reads page ∷ [])
        was.called (peek_called mid.cache new.cache page false leaves.steps));
    reads = reads_are (length (unread_before old.cache at page) + length (unread (is_some (resident_page old.cache page)) page)) (length (unread_before old.cache at (page + 1))) old.cache.pager.reads new.cache.pager.reads
        (sym (ap length (unread_next old.cache at page first) ∙ length-append (unread_before old.cache at page) (unread (is_some (resident_page old.cache page)) page)))
        (reads_both (length (unread_before old.cache at page)) (length (unread (is_some (resident_page old.cache page)) page)) old.cache.pager.reads mid.cache.pager.reads new.cache.pager.reads was.reads
        (subst (λ b. ReadsAfter (length (unread b page)) mid.cache.pager.reads new.cache.pager.reads) resident_still (peek_reads mid.cache new.cache page false leaves.steps)));
    faults = leaves.faults ∙ was.faults;
  }
    where
      back : KeepsSizes mid.cache old.cache
      back = record { limit = sym was.looks.sizes.limit; pages = sym was.looks.sizes.pages; page_size = sym was.looks.sizes.page_size }

      next_reads : (b : Bool) → is_some (resident_page old.cache page) ≡ b
          → map Reads (unread_before old.cache at page) ++ (if is_some (resident_page mid.cache page) then [] else Reads page ∷ []) ≡ map Reads (unread_before old.cache at (page + 1))
      next_reads b e =
          ap (λ c. map Reads (unread_before old.cache at page) ++ (if c then [] else Reads page ∷ [])) (resident_still ∙ e)
          ∙ by_test b
          ∙ sym (ap (map Reads) (unread_next old.cache at page first ∙ ap (λ c. unread_before old.cache at page ++ unread c page) e)
          ∙ reads_more (unread_before old.cache at page) (unread b page))
        where
          by_test : (c : Bool) → map Reads (unread_before old.cache at page) ++ (if c then [] else Reads page ∷ []) ≡ map Reads (unread_before old.cache at page) ++ map Reads (unread c page)
          by_test true = refl
          by_test false = refl

      one_more : (b : Bool) → is_some (resident_page old.cache page) ≡ b
          → replicate (length (unread_before old.cache at page)) false ++ (if is_some (resident_page mid.cache page) then [] else false ∷ []) ≡ replicate (length (unread_before old.cache at (page + 1))) false
      one_more b e =
          ap (λ c. replicate (length (unread_before old.cache at page)) false ++ (if c then [] else false ∷ [])) (resident_still ∙ e)
          ∙ by_test b
          ∙ well_more (unread_before old.cache at page) (unread b page)
          ∙ ap (λ (l : List ℕ). replicate (length l) false) (ap (λ c. unread_before old.cache at page ++ unread c page) (sym e) ∙ sym (unread_next old.cache at page first))
        where
          by_test : (c : Bool) → replicate (length (unread_before old.cache at page)) false ++ (if c then [] else false ∷ [])
              ≡ replicate (length (unread_before old.cache at page)) false ++ replicate (length (unread c page)) false
          by_test true = refl
          by_test false = refl

  -- the read of the page failed
  pub read_failed : PeekLeaves mid.cache page true new.cache → page < end_reached old.cache.pager.page_size at count → ReadFailed hash old at count page new
  read_failed leaves last = record {
    pages = was.pages;
    before = was.before;
    after = finds_same mid.cache new.cache was.pages leaves.list leaves.content leaves.sizes was.after;
    looks = looks_both hash old mid new was.looks looks;
    made = by_page (resident_page mid.cache page) refl;
    called = called_both old.cache.pager mid.cache.pager new.cache.pager (map Reads (unread_before old.cache at page)) (Reads page ∷ []) was.called
        (subst (λ (o : Option Held). Called mid.cache.pager (if is_some o then [] else Reads page ∷ []) new.cache.pager) (absent (resident_page mid.cache page) refl) (peek_called mid.cache new.cache page true leaves.steps));
    reads = reads_both (length (unread_before old.cache at page)) 1 old.cache.pager.reads mid.cache.pager.reads new.cache.pager.reads was.reads
        (subst (λ o. ReadsAfter (length (unread (is_some o) page)) mid.cache.pager.reads new.cache.pager.reads) (absent (resident_page mid.cache page) refl) (peek_reads mid.cache new.cache page true leaves.steps));
    faults = subst (λ n. Rose n new.cache.pager.faults) was.faults leaves.faults;
    unread = ap (λ (l : List Held). find_held l page) (sym was.looks.held) ∙ absent (resident_page mid.cache page) refl;
    first = first;
    last = last;
  }
    where
      absent : (o : Option Held) → resident_page mid.cache page ≡ o → o ≡ None
      absent None e = refl
      absent (Some h) e = absurd (let wrong = (leaves.no_call (ap is_some e)).0 in cc)

      by_page : (o : Option Held) → resident_page mid.cache page ≡ o → MadeCalls old.cache.pager (replicate (length (unread_before old.cache at page)) false ++ true ∷ []) new.cache.pager
      by_page (Some h) e = absurd (let wrong = (leaves.no_call (ap is_some e)).0 in cc)
      by_page None e =
          calls_made old.cache.pager mid.cache.pager new.cache.pager (replicate (length (unread_before old.cache at page)) false) (true ∷ []) was.made
          (subst (λ o. MadeCalls mid.cache.pager (if is_some o then [] else true ∷ []) new.cache.pager) e (peek_made mid.cache new.cache page true leaves.steps))

-- nothing was read yet
pub read_none : (hash : Hash) (old : PagesNow) (at count : ℕ) → IsTrue (is_page_size old.cache.pager.page_size) → IsSound old.cache → IsMarked hash old.cache old.marks
    → ReadBefore hash old at count (at / old.cache.pager.page_size) [] old
read_none hash old at count known sound marked =
    let size = old.cache.pager.page_size in
    let pages = some_pages old.cache in
    record {
      pages = pages;
      before = some_finds old.cache sound;
      after = some_finds old.cache sound;
      read = sym (ap (λ n. take n (drop at (concat pages))) (none_read size at count known));
      looks = looks_same hash old sound marked;
      made = subst (λ n. MadeCalls old.cache.pager (replicate (length (filter (λ q. not (is_some (resident_page old.cache q))) (range_with_len (at / size) n))) false) old.cache.pager)
          {x = 0} {y = at / size - at / size} (omega arith) (no_calls old.cache.pager);
      called = subst (λ n. Called old.cache.pager (map Reads (filter (λ q. not (is_some (resident_page old.cache q))) (range_with_len (at / size) n))) old.cache.pager)
          {x = 0} {y = at / size - at / size} (omega arith) (called_none old.cache.pager);
      reads = subst (λ n. ReadsAfter (length (filter (λ q. not (is_some (resident_page old.cache q))) (range_with_len (at / size) n))) old.cache.pager.reads old.cache.pager.reads)
          {x = 0} {y = at / size - at / size} (omega arith) (no_reads old.cache.pager.reads old.cache.pager.reads refl);
      faults = refl;
    }

-- ---- the turns

-- the bytes of the range before a page were read, and there is room for all of them
pub record ReadSoFar (hash : Hash) (old : PagesNow) (at count page : ℕ) (bytes : Vec ℕ) (new : PagesNow) : Type 0 where
  pub read : ReadBefore hash old at count page bytes.items new
  pub long : vec_len bytes ≡ min count (page * old.cache.pager.page_size - at)
  pub room : count ≤ vec_capacity bytes

-- a turn of the loop: the page is one of those that are reached
pub record Turn (old : PagesNow) (at count page : ℕ) : Type 0 where
  pub known : IsTrue (is_page_size old.cache.pager.page_size)
  pub first : at / old.cache.pager.page_size ≤ page
  pub last : page < end_reached old.cache.pager.page_size at count
  pub within : at + count ≤ old.cache.pager.pages * old.cache.pager.page_size

pub turn_of : (old : PagesNow) (at count page size wide end : ℕ) → size ≡ old.cache.pager.page_size → IsTrue (is_page_size size) → wide ≡ size → end ≡ end_reached size at count
    → at / wide ≤ page → page < end → at + count ≤ old.cache.pager.pages * old.cache.pager.page_size → Turn old at count page
turn_of old at count page size wide end is known same ends first last within = record {
  known = subst (λ s. IsTrue (is_page_size s)) is known;
  first = subst (λ s. at / s ≤ page) (same ∙ is) first;
  last = subst (λ s. page < end_reached s at count) is (subst (λ e. page < e) ends last);
  within = within;
}

module _ (hash : Hash) (old mid : PagesNow) (at count page : ℕ) (bytes : Vec ℕ) (turn : Turn old at count page) (was : ReadSoFar hash old at count page bytes mid) where
  sizes : KeepsSizes old.cache mid.cache
  sizes = was.read.looks.sizes

  reaches : Reaches old.cache.pager.page_size at count page
  reaches = page_reached old.cache.pager.page_size at count page turn.known turn.first turn.last

  inside : page < old.cache.pager.pages
  inside = page_inside old.cache.pager.page_size at count page old.cache.pager.pages turn.known reaches.0 turn.within

  pub turn_inside : page < mid.cache.pager.pages
  turn_inside = subst (λ n. page < n) (sym sizes.pages) inside

  pub turn_begins : page * mid.cache.pager.page_size < at + count
  turn_begins = subst (λ n. page * n < at + count) (sym sizes.page_size) reaches.0

  pub turn_ends : at < page * mid.cache.pager.page_size + mid.cache.pager.page_size
  turn_ends = subst (λ n. at < page * n + n) (sym sizes.page_size) reaches.1

  pub turn_long : vec_len bytes ≡ page * mid.cache.pager.page_size - at
  turn_long =
      let begins = reaches.0 in
      was.long ∙ subst (λ n. min count (page * old.cache.pager.page_size - at) ≡ page * n - at) (sym sizes.page_size) (omega arith)

  module _ (new : PagesNow) (looks : OnlyLooks hash mid new) where
    pub stops : (failed : Bool) → failed ≡ true → PeekLeaves mid.cache page failed new.cache → ReadFailed hash old at count page new
    stops false e leaves = absurd (cc)
    stops true e leaves = read_failed hash old mid new at count page bytes.items was.read turn.first looks leaves turn.last

    pub turns : (failed : Bool) (after : Vec ℕ) → failed ≡ false → PeekLeaves mid.cache page failed new.cache → FindsPage mid.cache page (hand_bytes new.cache page) new.cache
        → after.items ≡ bytes.items ++ range_on mid.cache.pager.page_size at count page (hand_bytes new.cache page)
        → vec_len after ≡ vec_len bytes + min (count - (page * mid.cache.pager.page_size - at)) (mid.cache.pager.page_size - (at - page * mid.cache.pager.page_size))
        → vec_capacity bytes ≤ vec_capacity after → ReadSoFar hash old at count (page + 1) after new
    turns true after e leaves finds items long room = absurd (cc)
    turns false after e leaves finds items long room = record {
      read = read_next hash old mid new at count page bytes.items was.read turn.first looks (hand_bytes new.cache page) after.items leaves finds
          (subst (λ n. after.items ≡ bytes.items ++ range_on n at count page (hand_bytes new.cache page)) sizes.page_size items) turn.known inside reaches;
      long = subst (λ n. vec_len after ≡ vec_len bytes + min (count - (page * n - at)) (n - (at - page * n))) sizes.page_size long
          ∙ ap (λ m. m + min (count - (page * old.cache.pager.page_size - at)) (old.cache.pager.page_size - (at - page * old.cache.pager.page_size))) (subst (λ n. vec_len bytes ≡ page * n - at) sizes.page_size turn_long)
          ∙ sym (longer old.cache.pager.page_size at count page turn.known reaches);
      room = omega (arith, was.room, room);
    }

pub starts : (hash : Hash) (old : PagesNow) (at count : ℕ) (bytes : Vec ℕ) (wide size : ℕ) → size ≡ old.cache.pager.page_size → IsTrue (is_page_size size) → wide ≡ size
    → IsSound old.cache → IsMarked hash old.cache old.marks → bytes.items ≡ [] → vec_len bytes ≡ 0 → count ≤ vec_capacity bytes → ReadSoFar hash old at count (at / wide) bytes old
starts hash old at count bytes wide size is known same sound marked none empty room =
    let known_there = subst (λ s. IsTrue (is_page_size s)) is known in
    subst (λ s. ReadSoFar hash old at count (at / s) bytes old) (sym (same ∙ is)) (record {
      read = subst (λ (l : List ℕ). ReadBefore hash old at count (at / old.cache.pager.page_size) l old) (sym none) (read_none hash old at count known_there sound marked);
      long = empty ∙ sym (none_read old.cache.pager.page_size at count known_there);
      room = room;
    })

-- up to the page behind the last all bytes were read
pub ends_at : (hash : Hash) (old new : PagesNow) (at count page : ℕ) (bytes : Vec ℕ) (size end : ℕ) → size ≡ old.cache.pager.page_size → end ≡ end_reached size at count → page ≡ end
    → ReadSoFar hash old at count page bytes new → ReadBefore hash old at count (end_reached old.cache.pager.page_size at count) bytes.items new
ends_at hash old new at count page bytes size end is ends last was =
    subst (λ p. ReadBefore hash old at count p bytes.items new) (last ∙ ends ∙ ap (λ s. end_reached s at count) is) was.read

pub from_before_end : (size at count wide end : ℕ) → IsTrue (is_page_size size) → wide ≡ size → end ≡ end_reached size at count → at / wide ≤ end
from_before_end size at count wide end known same ends =
    let order = first_last size at count known in
    subst (λ s. at / s ≤ end) (sym same) (subst (λ e. at / size ≤ e) (sym ends) order)

-- what holds of a result that is `Ok`
pub of_ok : {T E : Type 0} {P : Type 0} (result : Result T E) → is_err result ≡ false → OnOk result P → P
of_ok (Ok t) e p = p
of_ok (Err err) e p = absurd (cc)
