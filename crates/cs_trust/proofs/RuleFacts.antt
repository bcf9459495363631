-- What the rules of a trust cache tell of their first broken one.
use Rattle.std.proofs.Common.{◌≡◌, ℕ, ◌+◌, ◌-◌, ◌<◌, ◌≤◌, List, [], ◌∷◌, length, get_or, map, true, false, Option, Some, None, is_some, unwrap_or, refl, sym, ◌∙◌, ap, arith}
use Rattle.std.proofs.lemmas.Bool.{lt-ltb}
use Rattle.std.proofs.lemmas.Bool.Decides.{nat_tests}
use Rattle.std.specs.Prelude.{IsSorted}
use Rattle.std.proofs.lemmas.List.{get_or_default}
use Rattle.std.proofs.lemmas.List.FromFn.{length-map-range_with_len, length-range_with_len, get_or-range_with_len}
use Rattle.std.specs.List.{range_with_len}
use Rattle.std.specs.Ordering.{is_lt}
use Rattle.cs_trust.specs.declared.entries.Entry.{Entry}
use Rattle.cs_trust.specs.declared.refusal.TrustRefusal.{TrustRefusal}
use Rattle.cs_trust.specs.declared.refusal.TrustRefusal.TheVariants.{NotSorted}
use Rattle.cs_trust.specs.Order.{order, cdhashes_of, IsTable}
use Rattle.cs_trust.specs.Layout.{count, entry_place, entry_at, entries}
use Rattle.pg_bytes.specs.Rules.{first}
use Rattle.pg_bytes.proofs.RuleFacts.{first-append-kept, first-append-broken}
use Rattle.cs_trust.specs.Rules.{falls, first_fall, frame_rules, order_rules, broken}
use Rattle.cs_trust.specs.Listed.{listing}
use Rattle.cs_trust.proofs.HalfFacts.{cdhash_at}
use Rattle.cs_trust.proofs.PlaceFacts.{position_is, position_none, position_fails}

pub broken_by_frame : (bytes : List ℕ) (refusal : TrustRefusal) → first (frame_rules bytes) ≡ Some refusal → broken bytes ≡ Some refusal
unfolding broken
broken_by_frame bytes refusal e = first-append-broken (frame_rules bytes) (order_rules (cdhashes_of (entries bytes))) refusal e

-- the last rule, and what it answers
pub broken_by_order : (bytes : List ℕ) (answer : Option TrustRefusal) → first (frame_rules bytes) ≡ None → first (order_rules (cdhashes_of (entries bytes))) ≡ answer → broken bytes ≡ answer
unfolding broken
broken_by_order bytes answer frame e = first-append-kept (frame_rules bytes) (order_rules (cdhashes_of (entries bytes))) frame ∙ e

-- the entries, by a number of them that is known to be theirs
pub entries_are : (bytes : List ℕ) (found : List Entry) (number : ℕ) → number ≡ count bytes → found ≡ map (entry_at bytes) (range_with_len 0 number) → found ≡ entries bytes
unfolding entries
entries_are bytes found number counted made = made ∙ ap (λ n. map (entry_at bytes) (range_with_len 0 n)) counted

-- one entry more lies further on
pub entry_place-rises : (version place number : ℕ) → place < number → entry_place version (place + 1) ≤ entry_place version number
entry_place-rises version place number lt = grind (arith, nat_tests)

-- how many bytes an entry has
pub entry_place-next : (version place : ℕ) → entry_place version place + 22 ≤ entry_place version (place + 1)
entry_place-next version place = grind (arith, nat_tests)

pub entry_place-more : (version place : ℕ) → version ≡ 2 → entry_place version place + 24 ≤ entry_place version (place + 1)
entry_place-more version place e = grind (arith, nat_tests)

-- there are as many entries as the header says
pub length-entries : (bytes : List ℕ) → length (entries bytes) ≡ count bytes
unfolding entries
length-entries bytes = length-map-range_with_len (entry_at bytes) 0 (count bytes)

-- the test of a place, reached through the row of all places
falls-range : (entries : List (List ℕ)) (n k : ℕ) → k < n → falls entries (get_or (range_with_len 0 n) k 0) ≡ falls entries k
falls-range entries n k lt = ap (falls entries) (get_or-range_with_len 0 n k 0 lt ∙ omega arith)

-- the place of the first entry less than the one before
pub first_fall_is : (entries : List (List ℕ)) (i : ℕ) → i < length entries → ((k : ℕ) → k < i → falls entries k ≡ false) → falls entries i ≡ true → first_fall entries ≡ Some i
unfolding first_fall
first_fall_is entries i lt none here =
    let long = length-range_with_len 0 (length entries) in
    position_is (falls entries) (range_with_len 0 (length entries)) i 0 (omega arith)
    (λ k below. falls-range entries (length entries) k (omega arith) ∙ none k below)
    (falls-range entries (length entries) i lt ∙ here)

pub first_fall_none : (entries : List (List ℕ)) → ((k : ℕ) → k < length entries → falls entries k ≡ false) → first_fall entries ≡ None
unfolding first_fall
first_fall_none entries none =
    let long = length-range_with_len 0 (length entries) in
    position_none (falls entries) (range_with_len 0 (length entries)) 0
    (λ k below. falls-range entries (length entries) k (omega arith) ∙ none k (omega arith))

first_fall_fails : (entries : List (List ℕ)) → first_fall entries ≡ None → (k : ℕ) → k < length entries → falls entries k ≡ false
unfolding first_fall
first_fall_fails entries none k lt =
    let long = length-range_with_len 0 (length entries) in
    sym (falls-range entries (length entries) k lt)
    ∙ position_fails (falls entries) (range_with_len 0 (length entries)) none k 0 (omega arith)

-- the test of a place that has one before
pub falls-after : (entries : List (List ℕ)) (place before : ℕ) → place ≡ before + 1 → falls entries place ≡ is_lt (order (get_or entries place []) (get_or entries before []))
falls-after entries place before next =
    let some : 0 < place = omega arith in
    let back : place - 1 ≡ before = omega arith in
    rw (lt-ltb 0 place some, back) refl

-- the same, by the entries whose cdhashes they are
pub falls-entries : (entries : List Entry) (place before : ℕ) → place ≡ before + 1 → falls (cdhashes_of entries) place ≡ is_lt (order (get_or entries place (listing [])).cdhash (get_or entries before (listing [])).cdhash)
falls-entries entries place before next =
    falls-after (cdhashes_of entries) place before next ∙ rw (cdhash_at entries place, cdhash_at entries before) refl

-- where the rule on the order is kept, no entry is less than the one before
order_kept : (found : Option ℕ) → first ((is_some found, NotSorted (unwrap_or found 0)) ∷ []) ≡ None → found ≡ None
order_kept None e = refl
order_kept (Some place) e = absurd cc

sorted-from : (cdhashes : List (List ℕ)) → first (order_rules cdhashes) ≡ None → IsSorted order cdhashes
sorted-from cdhashes e = λ k d _ below.
    let lt : k + 1 < length cdhashes = below in
    let start : k < length cdhashes = omega arith in
    let kept = first_fall_fails cdhashes (order_kept (first_fall cdhashes) e) (k + 1) lt in
    rw (get_or_default cdhashes (k + 1) d [] lt, get_or_default cdhashes k d [] start) (sym (falls-after cdhashes (k + 1) k refl) ∙ kept)

pub IsTable-from : (entries : List Entry) → length entries ≤ 65536 → first (order_rules (cdhashes_of entries)) ≡ None → IsTable entries
IsTable-from entries limit e = record { sorted = sorted-from (cdhashes_of entries) e; limited = limit }
