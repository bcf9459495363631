-- The kinds of the pager calls of an event, and the count of its reads.
use Rattle.std.proofs.Common.{◌≡◌, ℕ, zero, suc, ◌+◌, ◌≤◌, Bool, true, false, List, [], ◌∷◌, ◌++◌, length, map, take, refl, ap, subst, ◌∙◌, arith, length-append}
use Rattle.std.specs.Prelude.{◌||◌, nat_lt, filter, if◌then◌else◌}
use Rattle.std.specs.List.{flat_map}
use Rattle.std.proofs.lemmas.List.Elements.{filter-append}
use Rattle.std.proofs.Math.Seq.{take-append-add}
use Rattle.std.proofs.lemmas.Grind.{common_steps}
use Rattle.pg_bytes.specs.Counts.{Rose}
use Rattle.pg_digest.specs.Kinds.{Hash}
use Rattle.cs_policy.specs.Data.{data_bytes}
use Rattle.cs_policy.specs.declared.file.FileEvent.{FileEvent}
use Rattle.cs_policy.specs.declared.file.FileEvent.TheVariants as event
use Rattle.pg_plain.specs.PlainFile.{PlainFile, is_resident}
use Rattle.pg_plain.specs.Calls.{reached, is_whole, calls_of_page, page_calls, calls_made}
use Rattle.pg_io.specs.declared.pager_call.PagerCall.{PagerCall}
use Rattle.pg_io.specs.declared.pager_call.PagerCall.TheVariants.{Reads, Writes}
use Rattle.pg_object.specs.PagerCalls.{called_page, is_read, reached_calls, calls_of_fault, pager_calls, calls_done, reads_of, reads_made, ReadsAfter}

-- ---- their pages

pages_of_reads : (pages : List ℕ) → map called_page (map Reads pages) ≡ pages
pages_of_reads [] = refl
pages_of_reads (page ∷ pages) = ap (λ l. page ∷ l) (pages_of_reads pages)

pages_of_writes : (pages : List ℕ) → map called_page (map Writes pages) ≡ pages
pages_of_writes [] = refl
pages_of_writes (page ∷ pages) = ap (λ l. page ∷ l) (pages_of_writes pages)

map-both : {X Y : Type 0} (f : X → Y) (xs ys : List X) → map f (xs ++ ys) ≡ map f xs ++ map f ys
map-both f [] ys = refl
map-both f (x ∷ xs) ys = ap (λ l. f x ∷ l) (map-both f xs ys)

pages_of_reached : (b : Bool) (page : ℕ) → map called_page (reached_calls b page) ≡ (if b then page ∷ [] else page ∷ page ∷ [])
pages_of_reached true page = refl
pages_of_reached false page = refl

pages_of_data : (file : PlainFile) (at count : ℕ) (pages : List ℕ)
    → map called_page (flat_map (λ page. reached_calls (is_resident file page || is_whole file.page_size at count page) page) pages) ≡ flat_map (calls_of_page file at count) pages
pages_of_data file at count [] = refl
pages_of_data file at count (page ∷ pages) =
    map-both called_page (reached_calls (is_resident file page || is_whole file.page_size at count page) page)
    (flat_map (λ page. reached_calls (is_resident file page || is_whole file.page_size at count page) page) pages)
    ∙ ap (λ l. l ++ map called_page (flat_map (λ page. reached_calls (is_resident file page || is_whole file.page_size at count page) page) pages))
    (pages_of_reached (is_resident file page || is_whole file.page_size at count page) page)
    ∙ ap (λ l. calls_of_page file at count page ++ l) (pages_of_data file at count pages)

pages_of_fault : (pages : List ℕ) → map called_page (calls_of_fault pages) ≡ pages
pages_of_fault [] = refl
pages_of_fault (page ∷ pages) = ap (λ l. page ∷ l) (pages_of_writes pages)

pub calls_pages : (hash : Hash) (file : PlainFile) (e : FileEvent) → map called_page (pager_calls hash file e) ≡ page_calls hash file e
calls_pages hash file (event.ReadSignature slice) = pages_of_reads (page_calls hash file (event.ReadSignature slice))
calls_pages hash file (event.AddBlob slice cdhash read lookup) = refl
calls_pages hash file (event.RefuseBlob read refusal) = refl
calls_pages hash file (event.Write at piece) = by_test (nat_lt file.length (at + length (data_bytes piece)))
  where
    by_test : (b : Bool)
        → map called_page (if b then [] else flat_map (λ page. reached_calls (is_resident file page || is_whole file.page_size at (length (data_bytes piece)) page) page) (reached file.page_size at (length (data_bytes piece))))
        ≡ (if b then [] else flat_map (calls_of_page file at (length (data_bytes piece))) (reached file.page_size at (length (data_bytes piece))))
    by_test true = refl
    by_test false = pages_of_data file at (length (data_bytes piece)) (reached file.page_size at (length (data_bytes piece)))
calls_pages hash file (event.AddRegion region insert) = refl
calls_pages hash file (event.DropRegion id) = refl
calls_pages hash file (event.DropPid pid) = refl
calls_pages hash file (event.Enter id page access flags resolve) = pages_of_fault (page_calls hash file (event.Enter id page access flags resolve))
calls_pages hash file (event.Store id page at bytes resolve) = refl
calls_pages hash file (event.Load id page at count resolve) = refl
calls_pages hash file (event.Fetch id page at count resolve) = refl
calls_pages hash file (event.Evict page) = pages_of_writes (page_calls hash file (event.Evict page))

-- ---- the count of reads

pub no_reads : (before now : ℕ) → now ≡ before → ReadsAfter 0 before now
no_reads before now same = record { later = omega arith; counted = omega arith; none = λ zero. same }

pub one_read : (before now : ℕ) → Rose before now → ReadsAfter 1 before now
one_read before now rose =
    let later = rose.later in
    let counted = rose.counted in
    record { later = omega arith; counted = omega arith; none = λ zero. absurd (omega arith) }

pub reads_both : (first second before between now : ℕ) → ReadsAfter first before between → ReadsAfter second between now → ReadsAfter (first + second) before now
reads_both first second before between now one two =
    let later = one.later in
    let counted = one.counted in
    let later_still = two.later in
    let counted_still = two.counted in
    record {
      later = omega arith;
      counted = omega arith;
      none = λ zero. two.none (omega arith) ∙ one.none (omega arith);
    }

pub reads_are : (reads other before now : ℕ) → reads ≡ other → ReadsAfter reads before now → ReadsAfter other before now
reads_are reads other before now same after = subst (λ n. ReadsAfter n before now) same after

-- ---- how many reads there are

pub take_whole : {X : Type 0} (n : ℕ) (xs : List X) → length xs ≤ n → take n xs ≡ xs
take_whole n xs enough = grind (arith, common_steps, enough)

pub take_none : {X : Type 0} (n : ℕ) → take {A = X} n [] ≡ []
take_none zero = refl
take_none (suc n) = refl

none_of_pages : (calls : List PagerCall) → map called_page calls ≡ [] → calls ≡ []
none_of_pages [] e = refl
none_of_pages (call ∷ calls) e = absurd (cc)

-- an event without calls makes none, and so no read
pub done_uncalled : (hash : Hash) (file : PlainFile) (e : FileEvent) (outcome : ℕ) → page_calls hash file e ≡ [] → calls_done hash file e outcome ≡ []
done_uncalled hash file e outcome none =
    ap (λ (calls : List PagerCall). take (calls_made outcome (length (page_calls hash file e))) calls) (none_of_pages (pager_calls hash file e) (calls_pages hash file e ∙ none))
    ∙ take_none {X = PagerCall} (calls_made outcome (length (page_calls hash file e)))

pub reads_uncalled : (hash : Hash) (file : PlainFile) (e : FileEvent) (outcome : ℕ) → page_calls hash file e ≡ [] → reads_made hash file e outcome ≡ 0
reads_uncalled hash file e outcome none = ap reads_of (done_uncalled hash file e outcome none)

long_calls : (hash : Hash) (file : PlainFile) (e : FileEvent) → length (pager_calls hash file e) ≡ length (page_calls hash file e)
long_calls hash file e = long_map (pager_calls hash file e) ∙ ap length (calls_pages hash file e)
  where
    long_map : (calls : List PagerCall) → length calls ≡ length (map called_page calls)
    long_map [] = refl
    long_map (call ∷ calls) = ap suc (long_map calls)

-- where no call failed, all were made
pub done_all : (hash : Hash) (file : PlainFile) (e : FileEvent) → calls_done hash file e 0 ≡ pager_calls hash file e
done_all hash file e =
    let long = long_calls hash file e in
    take_whole (length (page_calls hash file e)) (pager_calls hash file e) (omega arith)

pub reads_all : (hash : Hash) (file : PlainFile) (e : FileEvent) → reads_made hash file e 0 ≡ reads_of (pager_calls hash file e)
reads_all hash file e = ap reads_of (done_all hash file e)

-- some reads up to one of them
pub read_front : (before : List ℕ) (page : ℕ) (behind : List ℕ) → take (suc (length before)) (map Reads ((before ++ page ∷ []) ++ behind)) ≡ map Reads before ++ Reads page ∷ []
read_front [] page behind = refl
read_front (p ∷ before) page behind = ap (λ (calls : List PagerCall). Reads p ∷ calls) (read_front before page behind)

pub reads_more : (pages : List ℕ) (others : List ℕ) → map Reads (pages ++ others) ≡ map Reads pages ++ map Reads others
reads_more pages others = map-both Reads pages others

-- all calls are writes, or all are reads
pub reads_of_writes : (n : ℕ) (pages : List ℕ) → reads_of (take n (map Writes pages)) ≡ 0
reads_of_writes zero pages = refl
reads_of_writes (suc n) [] = refl
reads_of_writes (suc n) (page ∷ pages) = reads_of_writes n pages

pub reads_of_reads : (n : ℕ) (pages : List ℕ) → n ≤ length pages → reads_of (take n (map Reads pages)) ≡ n
reads_of_reads zero pages inside = refl
reads_of_reads (suc n) [] inside = absurd (omega arith)
reads_of_reads (suc n) (page ∷ pages) inside = ap suc (reads_of_reads n pages (omega arith))

-- the first call of a fault is the read, and no other
pub reads_of_fault : (n page : ℕ) (leaving : List ℕ) → reads_of (take (suc n) (calls_of_fault (page ∷ leaving))) ≡ 1
reads_of_fault n page leaving = ap suc (reads_of_writes n leaving)

-- so many calls of a fault, or all
pub fault_reads_to : (n : ℕ) (calls : List ℕ) (page : ℕ) (leaving : List ℕ) → calls ≡ page ∷ leaving → reads_of (take (suc n) (calls_of_fault calls)) ≡ 1
fault_reads_to n calls page leaving e = ap (λ (l : List ℕ). reads_of (take (suc n) (calls_of_fault l))) e ∙ reads_of_fault n page leaving

pub fault_reads : (calls : List ℕ) (page : ℕ) (leaving : List ℕ) → calls ≡ page ∷ leaving → reads_of (take (length calls) (calls_of_fault calls)) ≡ 1
fault_reads calls page leaving e = ap (λ (l : List ℕ). reads_of (take (length l) (calls_of_fault l))) e ∙ reads_of_fault (length leaving) page leaving

pub reads_append : (xs ys : List PagerCall) → reads_of (xs ++ ys) ≡ reads_of xs + reads_of ys
reads_append xs ys = ap length (filter-append is_read xs ys) ∙ length-append (filter is_read xs) (filter is_read ys)

-- some calls, and so many of those behind them
pub reads_front : (xs ys : List PagerCall) (n : ℕ) → reads_of (take (length xs + n) (xs ++ ys)) ≡ reads_of xs + reads_of (take n ys)
reads_front xs ys n = ap reads_of (take-append-add xs ys n) ∙ reads_append xs (take n ys)
