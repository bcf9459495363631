-- Which cdhashes are listed: those that were given, each once, in the order of their bytes.
use Rattle.std.proofs.Common.{◌≡◌, ◌↔◌, ℕ, zero, suc, ◌⊎◌, inl, inr, ⊎_elim, List, [], ◌∷◌, fold, refl, ap, subst, ◌∙◌, arith}
use Rattle.std.specs.Prelude.{All}
use Rattle.std.specs.List.{Contains}
use Rattle.std.specs.List.Sorted.{IsStrictlySortedBy}
use Rattle.std.specs.BTreeSet.{insert_key}
use Rattle.std.specs.declared.cmp.Ordering.{Ordering}
use Rattle.std.specs.declared.cmp.Ordering.TheVariants.{Less, Equal, Greater}
use Rattle.std.specs.Ordering.{match_ordering, ordering_reverse}
use Rattle.std.proofs.lemmas.Cmp.{nat_list_cmp_total}
use Rattle.std.proofs.lemmas.List.Elements.{All-nil, All-head, All-tail, All-weaker, All-contains, All-from_recursion, recursion_from_All, All-contains_itself, Contains-append_right}
use Rattle.std.proofs.lemmas.Map.Views.{All-insert_key}
use Rattle.std.proofs.lemmas.Map.Lookups.{exact_bytes}
use Rattle.cs_trust.specs.Order.{order}
use Rattle.cs_sign.specs.Caches.{listed}

-- ---- one cdhash more

above : (hash key : List ℕ) → order hash key ≡ Greater → order key hash ≡ Less
above hash key is = nat_list_cmp_total.antisymm key hash ∙ ap ordering_reverse is

-- the order stays
ascend-insert_key : (hash : List ℕ) (known : List (List ℕ)) → IsStrictlySortedBy order known → IsStrictlySortedBy order (insert_key order known hash)
unfolding IsStrictlySortedBy
ascend-insert_key hash [] ascend = (tt, tt)
ascend-insert_key hash (key ∷ keys) ascend = by_order (order hash key) refl (ascend-insert_key hash keys ascend.1)
  where
    by_order : (o : Ordering) → order hash key ≡ o → IsStrictlySortedBy order (insert_key order keys hash) → IsStrictlySortedBy order (match_ordering o (hash ∷ key ∷ keys) (key ∷ keys) (key ∷ insert_key order keys hash))
    by_order Less is more =
        let behind = All-weaker (λ (k : List ℕ). order key k ≡ Less) (λ (k : List ℕ). order hash k ≡ Less) (λ k less. nat_list_cmp_total.trans hash key k is less) keys (All-from_recursion (λ (k : List ℕ). order key k ≡ Less) keys ascend.0) in
        ((is, recursion_from_All (λ (k : List ℕ). order hash k ≡ Less) keys behind), ascend)
    by_order Equal is more = ascend
    by_order Greater is more =
        let behind = All-insert_key order hash (λ (k : List ℕ). order key k ≡ Less) keys (All-from_recursion (λ (k : List ℕ). order key k ≡ Less) keys ascend.0) (above hash key is) in
        (recursion_from_All (λ (k : List ℕ). order key k ≡ Less) (insert_key order keys hash) behind, more)

-- the first of several
contains-first : (hash : List ℕ) (hashes : List (List ℕ)) → Contains (hash ∷ hashes) hash
contains-first hash hashes = (0, omega arith, refl)

contains-behind : (first hash : List ℕ) (hashes : List (List ℕ)) → Contains hashes hash → Contains (first ∷ hashes) hash
contains-behind first hash hashes = Contains-append_right (first ∷ []) hashes hash

contains-cases : (first hash : List ℕ) (hashes : List (List ℕ)) → Contains (first ∷ hashes) hash → (first ≡ hash) ⊎ Contains hashes hash
contains-cases first hash hashes (zero, lt, is) = inl is
contains-cases first hash hashes (suc k, lt, is) = inr (k, omega arith, is)

-- the cdhash stands there now
inserted : (hash : List ℕ) (known : List (List ℕ)) → Contains (insert_key order known hash) hash
inserted hash [] = contains-first hash []
inserted hash (key ∷ keys) = by_order (order hash key) refl (inserted hash keys)
  where
    by_order : (o : Ordering) → order hash key ≡ o → Contains (insert_key order keys hash) hash → Contains (match_ordering o (hash ∷ key ∷ keys) (key ∷ keys) (key ∷ insert_key order keys hash)) hash
    by_order Less is held = contains-first hash (key ∷ keys)
    by_order Equal is held = let same : hash ≡ key = exact_bytes hash key is in rw same (contains-first key keys)
    by_order Greater is held = contains-behind key hash (insert_key order keys hash) held

-- and so do those that were known
kept : (hash other : List ℕ) (known : List (List ℕ)) → Contains known other → Contains (insert_key order known hash) other
kept hash other [] held = contains-behind hash other [] held
kept hash other (key ∷ keys) held = by_order (order hash key) (kept hash other keys)
  where
    by_order : (o : Ordering) → (Contains keys other → Contains (insert_key order keys hash) other) → Contains (match_ordering o (hash ∷ key ∷ keys) (key ∷ keys) (key ∷ insert_key order keys hash)) other
    by_order Less more = contains-behind hash other (key ∷ keys) held
    by_order Equal more = held
    by_order Greater more = moved (contains-cases key other keys held)
      where
        moved : (key ≡ other) ⊎ Contains keys other → Contains (key ∷ insert_key order keys hash) other
        moved (inl first) = (0, omega arith, first)
        moved (inr behind) = contains-behind key other (insert_key order keys hash) (more behind)

-- ---- all of them

abbrev all : List (List ℕ) → List (List ℕ) → List (List ℕ)
all hashes known = fold (λ (keys : List (List ℕ)) (key : List ℕ). insert_key order keys key) known hashes

ascend-all : (hashes known : List (List ℕ)) → IsStrictlySortedBy order known → IsStrictlySortedBy order (all hashes known)
ascend-all [] known ascend = ascend
ascend-all (hash ∷ hashes) known ascend = ascend-all hashes (insert_key order known hash) (ascend-insert_key hash known ascend)

all-each : (P : List ℕ → Type 0) (hashes known : List (List ℕ)) → All P known → All P hashes → All P (all hashes known)
all-each P [] known held more = held
all-each P (hash ∷ hashes) known held more =
    all-each P hashes (insert_key order known hash) (All-insert_key order hash P known held (All-head P hash hashes more)) (All-tail P hash hashes more)

kept-all : (other : List ℕ) (hashes known : List (List ℕ)) → Contains known other → Contains (all hashes known) other
kept-all other [] known held = held
kept-all other (hash ∷ hashes) known held = kept-all other hashes (insert_key order known hash) (kept hash other known held)

given-all : (other : List ℕ) (hashes known : List (List ℕ)) → Contains hashes other → Contains (all hashes known) other
given-all other [] known held = absurd (omega (arith, held.1))
given-all other (hash ∷ hashes) known held =
    ⊎_elim
    (λ first. let P : List ℕ → Type 0 = λ (x : List ℕ). Contains (all hashes (insert_key order known hash)) x in subst P first (kept-all hash hashes (insert_key order known hash) (inserted hash known)))
    (λ behind. given-all other hashes (insert_key order known hash) behind)
    (contains-cases hash other hashes held)

-- ---- what is listed

pub ascend-listed : (hashes : List (List ℕ)) → IsStrictlySortedBy order (listed hashes)
unfolding listed IsStrictlySortedBy
ascend-listed hashes = ascend-all hashes [] tt

pub each-listed : (P : List ℕ → Type 0) (hashes : List (List ℕ)) → All P hashes → All P (listed hashes)
unfolding listed
each-listed P hashes held = all-each P hashes [] (All-nil P) held

listed-given : (hashes : List (List ℕ)) (hash : List ℕ) → Contains (listed hashes) hash → Contains hashes hash
listed-given hashes hash held = All-contains (Contains hashes) (listed hashes) hash (each-listed (Contains hashes) hashes (All-contains_itself hashes)) held

given-listed : (hashes : List (List ℕ)) (hash : List ℕ) → Contains hashes hash → Contains (listed hashes) hash
unfolding listed
given-listed hashes hash held = given-all hash hashes [] held

pub contains-listed : (hashes : List (List ℕ)) (hash : List ℕ) → Contains (listed hashes) hash ↔ Contains hashes hash
contains-listed hashes hash = (listed-given hashes hash, given-listed hashes hash)
