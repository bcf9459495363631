-- How a trust cache is built.
use Rattle.std.proofs.Common.{◌≡◌, ℕ, suc, ◌+◌, ◌<◌, ◌≤◌, false, List, [], ◌∷◌, ◌++◌, length, take, get_or, fold, nat_lt, Some, None, refl, sym, ap, ◌∙◌, arith}
use Rattle.std.specs.declared.cmp.Ordering.{Ordering}
use Rattle.std.specs.declared.cmp.Ordering.TheVariants.{Less, Equal, Greater}
use Rattle.std.specs.Ordering.{match_ordering}
use Rattle.std.proofs.lemmas.Bool.{le-ltb}
use Rattle.pg_bytes.specs.Rules.{first}
use Rattle.cs_sign.specs.declared.refusal.CacheFail.{CacheFail}
use Rattle.std.specs.List.{flat_map}
use Rattle.std.specs.BTreeSet.{insert_key}
use Rattle.std.proofs.lemmas.List.{append_assoc, append-nil}
use Rattle.std.proofs.lemmas.List.Sums.{fold_more}
use Rattle.cs_trust.specs.Order.{order}
use Rattle.cs_sign.specs.Body.{word_bytes}
use Rattle.cs_sign.specs.Caches.{listed, entry_bytes, trust_cache, cache_rules}

-- one cdhash more
pub listed-more : (hashes : List (List ℕ)) (i : ℕ) (hash : List ℕ) (known now : List (List ℕ)) → i < length hashes → get_or hashes i hash ≡ hash → known ≡ listed (take i hashes) → now ≡ insert_key order known hash → now ≡ listed (take (i + 1) hashes)
unfolding listed
listed-more hashes i hash known now lt here is added =
    added ∙ (ap (λ (keys : List (List ℕ)). insert_key order keys hash) is
    ∙ sym (fold_more (λ (keys : List (List ℕ)) (key : List ℕ). insert_key order keys key) [] hashes i hash lt ∙ rw here refl))

pub listed-none : listed [] ≡ []
unfolding listed
listed-none = refl

-- one entry more
pub entry_added : (piece : List ℕ → List ℕ) (was now whole hash : List ℕ) (left rest : List (List ℕ)) → left ≡ hash ∷ rest → was ++ flat_map piece left ≡ whole → now ≡ was ++ piece hash → now ++ flat_map piece rest ≡ whole
entry_added piece was now whole hash left rest split so_far is =
    let before : was ++ (piece hash ++ flat_map piece rest) ≡ whole = rw split at so_far in
    rw is (append_assoc was (piece hash) (flat_map piece rest) ∙ before)

-- no entry is left
pub entries_done : (piece : List ℕ → List ℕ) (now whole : List ℕ) (left : List (List ℕ)) → left ≡ [] → now ++ flat_map piece left ≡ whole → now ≡ whole
entries_done piece now whole left none so_far = sym (append-nil now) ∙ (rw none at so_far)

-- the header, before any entry
pub header_joined : (version count : ℕ) (uuid made a b c : List ℕ) (hashes left : List (List ℕ)) → made ≡ [] → a ≡ made ++ word_bytes version → b ≡ a ++ uuid → c ≡ b ++ word_bytes count → count ≡ length hashes → left ≡ hashes → c ++ flat_map (entry_bytes version) left ≡ trust_cache version uuid hashes
unfolding trust_cache
header_joined version count uuid made a b c hashes left p0 p1 p2 p3 p4 p5 =
    rw (p3, p2, p1, p0, p4, p5) (simp append_assoc)

-- each cdhash adds one entry at most
length-insert_key : (hash : List ℕ) (known : List (List ℕ)) → length (insert_key order known hash) ≤ suc (length known)
length-insert_key hash [] = omega arith
length-insert_key hash (key ∷ keys) = by_order (order hash key) (length-insert_key hash keys)
  where
    by_order : (o : Ordering) → length (insert_key order keys hash) ≤ suc (length keys) → length (match_ordering o (hash ∷ key ∷ keys) (key ∷ keys) (key ∷ insert_key order keys hash)) ≤ suc (suc (length keys))
    by_order Less le = omega arith
    by_order Equal le = omega arith
    by_order Greater le = omega arith

length-inserted : (hashes known : List (List ℕ)) → length (fold (λ (keys : List (List ℕ)) (key : List ℕ). insert_key order keys key) known hashes) ≤ length known + length hashes
length-inserted [] known = omega arith
length-inserted (hash ∷ hashes) known = omega (arith, length-inserted hashes (insert_key order known hash), length-insert_key hash known)

pub length-listed : (hashes : List (List ℕ)) → length (listed hashes) ≤ length hashes
unfolding listed
length-listed hashes = omega (arith, length-inserted hashes [])

-- few cdhashes break no rule
pub few-kept : (hashes : List (List ℕ)) (fail : CacheFail) → length hashes ≤ 65536 → first (cache_rules hashes 1) ≡ Some fail → ⊥
few-kept hashes fail few is =
    let fits : nat_lt 65536 (length (listed hashes)) ≡ false = le-ltb 65536 (length (listed hashes)) (omega (arith, length-listed hashes, few)) in
    let none : first (cache_rules hashes 1) ≡ None = rw fits refl in
    let bad : None ≡ Some fail = sym none ∙ is in
    absurd cc
