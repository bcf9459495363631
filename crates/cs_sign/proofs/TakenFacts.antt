-- A trust cache that was built, read again: it breaks no rule, and its entries are those that were written.
use Rattle.std.proofs.Common.{◌≡◌, ◌↔◌, ℕ, zero, suc, ◌+◌, ◌-◌, ◌*◌, ◌^◌, ◌<◌, ◌≤◌, ◌⊎◌, inl, inr, true, false, cond, is_some, List, [], ◌∷◌, ◌++◌, length, map, take, drop, get_or, slice_index, nat_lt, ◌==◌, Option, Some, None, refl, sym, ap, ◌∙◌, arith, length-append, eq-eqb}
use Rattle.std.specs.Prelude.{All, IsSome, position}
use Rattle.std.specs.List.{flat_map, range_with_len, Contains, position_or_len}
use Rattle.std.specs.List.Sorted.{IsStrictlySortedBy}
use Rattle.std.specs.declared.cmp.Ordering.TheVariants.{Less}
use Rattle.std.specs.Ordering.{is_lt, ordering_reverse}
use Rattle.std.proofs.lemmas.Bool.{le-ltb}
use Rattle.std.proofs.lemmas.Bool.Decides.{nat_tests}
use Rattle.std.proofs.lemmas.Cmp.{nat_list_cmp_total}
use Rattle.std.proofs.lemmas.List.{append_assoc, take_at, drop_more, get_or-drop, get_or-append-add}
use Rattle.std.proofs.lemmas.List.Elements.{All-head, All-tail}
use Rattle.std.proofs.lemmas.List.Sums.{passes_at_first}
use Rattle.std.proofs.lemmas.Map.Keys.{Less-from_sorted}
use Rattle.std.proofs.lemmas.Slice.Eq.{bytes_eq-Decides}
use Rattle.byteorder.specs.Numbers.{little_number-reads_back}
use Rattle.byteorder.specs.Endian.{little_from}
use Rattle.pg_bytes.specs.Fields.{le32_at}
use Rattle.pg_bytes.specs.Rules.{first}
use Rattle.cs_trust.specs.Order.{order, is_same, cdhashes_of}
use Rattle.cs_trust.specs.Layout.{version, count, entry_place, entry_from, entry_at, entries}
use Rattle.cs_trust.specs.Listed.{place_of}
use Rattle.cs_trust.specs.Rules.{falls, first_fall, frame_rules, order_rules}
use Rattle.cs_trust.specs.Rules as trust
use Rattle.cs_trust.proofs.HalfFacts.{place_of-cdhashes}
use Rattle.cs_trust.proofs.PlaceFacts.{position_fails}
use Rattle.cs_trust.proofs.RuleFacts.{broken_by_order, entries_are, first_fall_none, falls-after}
use Rattle.cs_sign.specs.Body.{word_bytes}
use Rattle.cs_sign.specs.Caches.{listed, behind_hash, entry_bytes, entry_of, trust_cache, IsTaken}
use Rattle.cs_sign.proofs.BodyFacts.{length-word_bytes}
use Rattle.cs_sign.proofs.ListedFacts.{ascend-listed, each-listed, contains-listed}
use Rattle.cs_sign.proofs.TableFacts.{drop-behind}

-- ---- pieces of one size

-- the pieces from one on
pieces-from : {X : Type 0} (piece : X → List ℕ) (size : ℕ) (xs : List X) (i : ℕ) → All (λ x. length (piece x) ≡ size) xs → i ≤ length xs → drop (size * i) (flat_map piece xs) ≡ flat_map piece (drop i xs)
pieces-from piece size xs zero each le = let none : size * 0 ≡ 0 = omega arith in rw none refl
pieces-from piece size [] (suc i) each le = absurd (omega arith)
pieces-from piece size (x ∷ xs) (suc i) each le =
    let place : length (piece x) + size * i ≡ size * suc i = omega (arith, All-head (λ y. length (piece y) ≡ size) x xs each) in
    drop-behind (piece x) (flat_map piece xs) (size * i) (size * suc i) place
    ∙ pieces-from piece size xs i (All-tail (λ y. length (piece y) ≡ size) x xs each) (omega arith)

-- how many bytes they have
length-all : {X : Type 0} (piece : X → List ℕ) (size : ℕ) (xs : List X) → All (λ x. length (piece x) ≡ size) xs → length (flat_map piece xs) ≡ size * length xs
length-all piece size [] each = omega arith
length-all piece size (x ∷ xs) each =
    omega (arith, length-append (piece x) (flat_map piece xs), All-head (λ y. length (piece y) ≡ size) x xs each, length-all piece size xs (All-tail (λ y. length (piece y) ≡ size) x xs each))

-- what is made of the numbers of a list, and what is made of its elements
mapped-alike : {X Y : Type 0} (f : ℕ → Y) (g : X → Y) (xs : List X) (a : ℕ) (d : X) → ((i : ℕ) → i < length xs → f (a + i) ≡ g (get_or xs i d)) → map f (range_with_len a (length xs)) ≡ map g xs
mapped-alike f g [] a d each = refl
mapped-alike f g (x ∷ xs) a d each =
    let here : a + 0 ≡ a = omega arith in
    let rest = mapped-alike f g xs (a + 1) d (λ i lt. let next : (a + 1) + i ≡ a + suc i = omega arith in ap f next ∙ each (suc i) (omega arith)) in
    rw (rest, ap f (sym here) ∙ each 0 (omega arith)) refl

-- ---- a search

same-Decides : (xs ys : List ℕ) → (is_same xs ys ≡ true → xs ≡ ys) × (xs ≡ ys → is_same xs ys ≡ true)
same-Decides xs ys = bytes_eq-Decides xs ys

some-place : (n m : ℕ) → is_some (cond (nat_lt n m) (Some n) None) ≡ true → n < m
some-place n m is = grind (arith, nat_tests)

found-held : (hashes : List (List ℕ)) (hash : List ℕ) → IsSome (position (λ entry. is_same entry hash) hashes) → Contains hashes hash
found-held hashes hash some =
    let place = position_or_len (λ (entry : List ℕ). is_same entry hash) hashes in
    let lt : place < length hashes = some-place place (length hashes) some in
    let passes = passes_at_first (λ (entry : List ℕ). is_same entry hash) hashes hash lt in
    (place, lt, (same-Decides (get_or hashes place hash) hash).0 passes)

held-found : (hashes : List (List ℕ)) (hash : List ℕ) → Contains hashes hash → IsSome (position (λ entry. is_same entry hash) hashes)
held-found hashes hash (k, lt, is) = by_answer (position (λ entry. is_same entry hash) hashes) refl
  where
    by_answer : (answer : Option ℕ) → position (λ entry. is_same entry hash) hashes ≡ answer → IsSome answer
    by_answer (Some place) e = refl
    by_answer None e =
        let fails = position_fails (λ (entry : List ℕ). is_same entry hash) hashes e k hash lt in
        let passes = (same-Decides (get_or hashes k hash) hash).1 is in
        let bad : true ≡ false = sym passes ∙ fails in
        absurd cc

-- ---- the order

not-below : (a b : List ℕ) → order a b ≡ Less → is_lt (order b a) ≡ false
not-below a b less = ap is_lt (nat_list_cmp_total.antisymm b a ∙ ap ordering_reverse less)

no-fall : (hashes : List (List ℕ)) → IsStrictlySortedBy order hashes → (k : ℕ) → k < length hashes → falls hashes k ≡ false
no-fall hashes ascend zero lt = refl
no-fall hashes ascend (suc k) lt =
    let next : suc k ≡ k + 1 = omega arith in
    falls-after hashes (suc k) k next ∙ not-below (get_or hashes k []) (get_or hashes (suc k) []) (Less-from_sorted order hashes k (suc k) [] ascend (omega arith) lt)

order-kept : (hashes : List (List ℕ)) → IsStrictlySortedBy order hashes → first (order_rules hashes) ≡ None
order-kept hashes ascend = rw (first_fall_none hashes (no-fall hashes ascend)) refl

-- ---- the bytes

-- how many bytes an entry has
abbrev entry_size : ℕ → ℕ
entry_size given = entry_place given 1 - 24

length-entry : (given : ℕ) (hash : List ℕ) → (given ≡ 1) ⊎ (given ≡ 2) → length hash ≡ 20 → length (entry_bytes given hash) ≡ entry_size given
length-entry given hash (inl one) long = rw one (omega (arith, length-append hash (2 ∷ 0 ∷ []), long))
length-entry given hash (inr two) long = rw two (omega (arith, length-append hash (2 ∷ 0 ∷ 0 ∷ 0 ∷ []), long))

place-is : (given i : ℕ) → (given ≡ 1) ⊎ (given ≡ 2) → entry_place given i ≡ 24 + entry_size given * i
place-is given i (inl one) = rw one (omega arith)
place-is given i (inr two) = rw two (omega arith)

-- an entry that is read where its bytes begin
entry-read : (given : ℕ) (bytes hash rest : List ℕ) (at : ℕ) → (given ≡ 1) ⊎ (given ≡ 2) → version bytes ≡ given → length hash ≡ 20 → drop at bytes ≡ entry_bytes given hash ++ rest → entry_from bytes at ≡ entry_of given hash
entry-read given bytes hash rest at known is long here = by_version known
  where
    held : drop at bytes ≡ hash ++ (behind_hash given ++ rest)
    held = here ∙ append_assoc hash (behind_hash given) rest

    named : take 20 (drop at bytes) ≡ hash
    named = ap (take 20) held ∙ take_at hash (behind_hash given ++ rest) 20 long

    byte : (k p : ℕ) → p ≡ at + (20 + k) → slice_index bytes p ≡ slice_index (behind_hash given ++ rest) k
    byte k p here =
        let place : length hash + k ≡ 20 + k = omega (arith, long) in
        ap (slice_index bytes) here
        ∙ sym (get_or-drop at bytes (20 + k) 0) ∙ ap (λ (xs : List ℕ). slice_index xs (20 + k)) held
        ∙ ap (λ (n : ℕ). slice_index (hash ++ (behind_hash given ++ rest)) n) (sym place) ∙ get_or-append-add hash (behind_hash given ++ rest) k 0

    by_version : (given ≡ 1) ⊎ (given ≡ 2) → entry_from bytes at ≡ entry_of given hash
    by_version (inl one) = rw (is, named, byte 0 (at + 20) (omega arith), byte 1 (at + 21) (omega arith), one) refl
    by_version (inr two) = rw (is, named, byte 0 (at + 20) (omega arith), byte 1 (at + 21) (omega arith), byte 2 (at + 22) (omega arith), byte 3 ((at + 22) + 1) (omega arith), two) refl

module _ (given : ℕ) (uuid : List ℕ) (hashes : List (List ℕ)) (known : (given ≡ 1) ⊎ (given ≡ 2)) (long : length uuid ≡ 16) (few : length hashes ≤ 65536) (each : All (λ (hash : List ℕ). length hash ≡ 20) hashes) where
  abbrev made : List ℕ
  made = trust_cache given uuid hashes

  abbrev held : List ℕ
  held = flat_map (entry_bytes given) hashes

  made-is : made ≡ word_bytes given ++ (uuid ++ (word_bytes (length hashes) ++ held))
  unfolding trust_cache
  made-is = refl

  small : given < 2 ^ 32
  small = elim known [ inl one ↦ omega (arith, one) | inr two ↦ omega (arith, two) ]

  version-is : version made ≡ given
  unfolding le32_at word_bytes
  version-is = ap (λ (xs : List ℕ). le32_at xs 0) made-is ∙ little_number-reads_back 4 given (uuid ++ (word_bytes (length hashes) ++ held)) small

  front : drop 20 made ≡ word_bytes (length hashes) ++ held
  front =
      let place : length (word_bytes given ++ uuid) + 0 ≡ 20 = omega (arith, length-append (word_bytes given) uuid, length-word_bytes given, long) in
      ap (drop 20) (made-is ∙ sym (append_assoc (word_bytes given) uuid (word_bytes (length hashes) ++ held)))
      ∙ drop-behind (word_bytes given ++ uuid) (word_bytes (length hashes) ++ held) 0 20 place

  count-is : count made ≡ length hashes
  unfolding le32_at word_bytes
  count-is = ap (little_from 0 4) front ∙ little_number-reads_back 4 (length hashes) held (omega (arith, few))

  sizes : All (λ (hash : List ℕ). length (entry_bytes given hash) ≡ entry_size given) hashes
  sizes = λ k d lt. length-entry given (get_or hashes k d) known (each k d lt)

  length-made : length made ≡ entry_place given (length hashes)
  length-made =
      omega (
        arith,
        ap length made-is,
        length-append (word_bytes given) (uuid ++ (word_bytes (length hashes) ++ held)),
        length-append uuid (word_bytes (length hashes) ++ held),
        length-append (word_bytes (length hashes)) held,
        length-word_bytes given,
        length-word_bytes (length hashes),
        long,
        length-all (entry_bytes given) (entry_size given) hashes sizes,
        place-is given (length hashes) known,
      )

  behind : (i : ℕ) → i < length hashes → drop (entry_place given i) made ≡ entry_bytes given (get_or hashes i []) ++ flat_map (entry_bytes given) (drop (i + 1) hashes)
  behind i lt =
      let start : length ((word_bytes given ++ uuid) ++ word_bytes (length hashes)) + entry_size given * i ≡ entry_place given i =
      omega (arith, length-append (word_bytes given ++ uuid) (word_bytes (length hashes)), length-append (word_bytes given) uuid, length-word_bytes given, length-word_bytes (length hashes), long, place-is given i known) in
      let joined : made ≡ ((word_bytes given ++ uuid) ++ word_bytes (length hashes)) ++ held = made-is ∙ simp append_assoc in
      ap (drop (entry_place given i)) joined
      ∙ drop-behind ((word_bytes given ++ uuid) ++ word_bytes (length hashes)) held (entry_size given * i) (entry_place given i) start
      ∙ pieces-from (entry_bytes given) (entry_size given) hashes i sizes (omega arith)
      ∙ ap (flat_map (entry_bytes given)) (drop_more hashes i [] lt)

  entry-is : (i : ℕ) → i < length hashes → entry_at made i ≡ entry_of given (get_or hashes i [])
  unfolding entry_at
  entry-is i lt =
      ap (λ (v : ℕ). entry_from made (entry_place v i)) version-is
      ∙ entry-read given made (get_or hashes i []) (flat_map (entry_bytes given) (drop (i + 1) hashes)) (entry_place given i) known version-is (each i [] lt) (behind i lt)

  entries-is : entries made ≡ map (entry_of given) hashes
  entries-is =
      let numbered : map (entry_at made) (range_with_len 0 (length hashes)) ≡ map (entry_of given) hashes =
      mapped-alike (entry_at made) (entry_of given) hashes 0 [] (λ i lt. let same : 0 + i ≡ i = omega arith in rw same (entry-is i lt)) in
      sym (entries_are made (map (entry_of given) hashes) (length hashes) (sym count-is) (sym numbered))

  cdhashes-is : cdhashes_of (entries made) ≡ hashes
  cdhashes-is = ap cdhashes_of entries-is ∙ back hashes
    where
      back : (some : List (List ℕ)) → cdhashes_of (map (entry_of given) some) ≡ some
      back [] = refl
      back (hash ∷ some) = ap (λ (rest : List (List ℕ)). hash ∷ rest) (back some)

  frame-kept : first (frame_rules made) ≡ None
  frame-kept =
      let header : 24 ≤ length made = omega (arith, length-made, place-is given (length hashes) known) in
      let a : nat_lt (length made) 24 ≡ false = le-ltb _ _ header in
      let b : nat_lt 65536 (count made) ≡ false = le-ltb _ _ (omega (arith, count-is, few)) in
      let c : (length made == entry_place (version made) (count made)) ≡ true = eq-eqb _ _ (rw (version-is, count-is) length-made) in
      by_version a b c known
    where
      by_version : nat_lt (length made) 24 ≡ false → nat_lt 65536 (count made) ≡ false → (length made == entry_place (version made) (count made)) ≡ true → (given ≡ 1) ⊎ (given ≡ 2) → first (frame_rules made) ≡ None
      by_version a b c (inl one) = let v : version made ≡ 1 = version-is ∙ one in rw (a, b, c) (rw v refl)
      by_version a b c (inr two) = let v : version made ≡ 2 = version-is ∙ two in rw (a, b, c) (rw v refl)

  kept : IsStrictlySortedBy order hashes → trust.broken made ≡ None
  kept ascend = broken_by_order made None frame-kept (ap (λ (some : List (List ℕ)). first (order_rules some)) cdhashes-is ∙ order-kept hashes ascend)

  place-is-of : (hash : List ℕ) → place_of (entries made) hash ≡ position (λ entry. is_same entry hash) hashes
  place-is-of hash = place_of-cdhashes (entries made) hash ∙ ap (λ (some : List (List ℕ)). position (λ entry. is_same entry hash) some) cdhashes-is

  finds : (hash : List ℕ) → IsSome (place_of (entries made) hash) ↔ Contains hashes hash
  finds hash =
      let same = place-is-of hash in
      (λ some. found-held hashes hash (rw same at some), λ held. rw same (held-found hashes hash held))

-- ---- what is built of any cdhashes

pub taken : (given : ℕ) (uuid : List ℕ) (hashes : List (List ℕ)) → (given ≡ 1) ⊎ (given ≡ 2) → length uuid ≡ 16 → length (listed hashes) ≤ 65536 → All (λ (hash : List ℕ). length hash ≡ 20) hashes → IsTaken hashes given (trust_cache given uuid (listed hashes))
taken given uuid hashes known long few each =
    let sized = each-listed (λ (hash : List ℕ). length hash ≡ 20) hashes each in
    let order_of = ascend-listed hashes in
    record {
      unbroken = kept given uuid (listed hashes) known long few sized order_of;
      entered = entries-is given uuid (listed hashes) known long few sized;
      ascend = rw (cdhashes-is given uuid (listed hashes) known long few sized) order_of;
      found = λ hash.
          let here = finds given uuid (listed hashes) known long few sized hash in
          let all = contains-listed hashes hash in
          (λ some. all.0 (here.0 some), λ held. here.1 (all.1 held));
    }
