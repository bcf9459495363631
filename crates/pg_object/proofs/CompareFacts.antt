-- What a check of a page against its digests says of the page's hash pages beside the slots of its signature.
use Rattle.std.proofs.Common.{◌≡◌, ℕ, zero, suc, ◌+◌, ◌-◌, ◌*◌, ◌/◌, ◌<◌, ◌≤◌, Bool, true, false, List, [], ◌∷◌, ◌++◌, length, take, drop, map, not, Some, None, refl, sym, ap, subst, ◌∙◌, arith}
use Rattle.std.specs.Prelude.{find, if◌then◌else◌}
use Rattle.std.specs.List.{concat, range_with_len, between, All, AllByRecursion}
use Rattle.std.specs.Option.{option_map}
use Rattle.std.specs.Str.{bytes_eq}
use Rattle.std.proofs.lemmas.Grind.{common_steps}
use Rattle.std.proofs.lemmas.List.Elements.{All-from_recursion}
use Rattle.std.proofs.lemmas.Slice.Eq.{bytes_eq-Decides}
use Rattle.pg_bytes.specs.Ranges.{bytes_in}
use Rattle.pg_digest.specs.Kinds.{Hash, size_of}
use Rattle.cs_directory.specs.Directory.{slot_at}
use Rattle.cs_directory.proofs.DirectoryFacts.{IsInside-from, code_slot_end, slot_at-fields}
use Rattle.cs_policy.specs.declared.denial.Denial.TheVariants.{Mismatch}
use Rattle.cs_blob.specs.Signature.{Signature}
use Rattle.pg_pages.specs.Pages.{piece, IsSealed, IsFirstOther}
use Rattle.pg_plain.specs.Covers.{hash_page, begins, part, parts, Matches}
use Rattle.pg_plain.specs.Verdict.{differs}
use Rattle.pg_object.specs.Seals.{slots_of, seal_for}
use Rattle.pg_object.specs.Enters.{Holds, difference}
use Rattle.pg_object.proofs.WantedFacts.{each_hash_page, slot_inside}

-- ---- pieces of one length, joined

take_front : (n : ℕ) (xs ys : List ℕ) → length xs ≡ n → take n (xs ++ ys) ≡ xs
take_front n xs ys e = grind (arith, common_steps, e)

drop_front : (n m : ℕ) (xs ys : List ℕ) → length xs ≡ n → drop (n + m) (xs ++ ys) ≡ drop m ys
drop_front n m [] ys e = ap (λ k. drop k ys) {x = n + m} {y = m} (omega (arith, e))
drop_front zero m (x ∷ xs) ys e = absurd (cc)
drop_front (suc n) m (x ∷ xs) ys e = ap (λ k. drop k (x ∷ xs ++ ys)) {x = suc n + m} {y = suc (n + m)} (omega arith) ∙ drop_front n m xs ys (omega (arith, e))

taken_long : (n m : ℕ) (xs : List ℕ) → m + n ≤ length xs → length (take n (drop m xs)) ≡ n
taken_long n m xs inside = grind (arith, common_steps, inside)

-- the k-th of them
pub chunk_at : (f : ℕ → List ℕ) (n first count k : ℕ) → ((j : ℕ) → j < count → length (f (first + j)) ≡ n) → k < count
    → take n (drop (k * n) (concat (map f (range_with_len first count)))) ≡ f (first + k)
chunk_at f n first zero k long inside = absurd (omega arith)
chunk_at f n first (suc count) zero long inside =
    let own : length (f first) ≡ n = ap (λ j. length (f j)) {x = first} {y = first + 0} (omega arith) ∙ long 0 (omega arith) in
    ap (λ m. take n (drop m (f first ++ concat (map f (range_with_len (first + 1) count))))) {x = 0 * n} {y = 0} (omega arith)
    ∙ take_front n (f first) (concat (map f (range_with_len (first + 1) count))) own ∙ ap f {x = first} {y = first + 0} (omega arith)
chunk_at f n first (suc count) (suc k) long inside =
    let own : length (f first) ≡ n = ap (λ j. length (f j)) {x = first} {y = first + 0} (omega arith) ∙ long 0 (omega arith) in
    ap (λ m. take n (drop m (f first ++ concat (map f (range_with_len (first + 1) count))))) {x = suc k * n} {y = n + k * n} (grind arith)
    ∙ ap (take n) (drop_front n (k * n) (f first) (concat (map f (range_with_len (first + 1) count))) own)
    ∙ chunk_at f n (first + 1) count k (λ j less. ap (λ i. length (f i)) {x = first + 1 + j} {y = first + suc j} (omega arith) ∙ long (suc j) (omega arith)) (omega arith)
    ∙ ap f {x = first + 1 + k} {y = first + suc k} (omega arith)

-- ---- the first of a range that passes a test

none_found : {X : Type 0} (q : X → Bool) (f : ℕ → X) (first count : ℕ) → ((k : ℕ) → k < count → q (f (first + k)) ≡ false) → find q (map f (range_with_len first count)) ≡ None
none_found q f first zero fails = refl
none_found q f first (suc count) fails =
    ap (λ b. if b then Some (f first) else find q (map f (range_with_len (first + 1) count))) (ap (λ n. q (f n)) {x = first} {y = first + 0} (omega arith) ∙ fails 0 (omega arith))
    ∙ none_found q f (first + 1) count (λ k less. ap (λ n. q (f n)) {x = first + 1 + k} {y = first + suc k} (omega arith) ∙ fails (suc k) (omega arith))

first_found : {X : Type 0} (q : X → Bool) (f : ℕ → X) (first count place : ℕ) → place < count → q (f (first + place)) ≡ true → ((k : ℕ) → k < place → q (f (first + k)) ≡ false)
    → find q (map f (range_with_len first count)) ≡ Some (f (first + place))
first_found q f first zero place inside passes fails = absurd (omega arith)
first_found q f first (suc count) zero inside passes fails =
    ap (λ b. if b then Some (f first) else find q (map f (range_with_len (first + 1) count))) (ap (λ n. q (f n)) {x = first} {y = first + 0} (omega arith) ∙ passes)
    ∙ ap (λ n. Some (f n)) {x = first} {y = first + 0} (omega arith)
first_found q f first (suc count) (suc place) inside passes fails =
    ap (λ b. if b then Some (f first) else find q (map f (range_with_len (first + 1) count))) (ap (λ n. q (f n)) {x = first} {y = first + 0} (omega arith) ∙ fails 0 (omega arith))
    ∙ first_found q f (first + 1) count place (omega arith) (ap (λ n. q (f n)) {x = first + 1 + place} {y = first + suc place} (omega arith) ∙ passes)
    (λ k less. ap (λ n. q (f n)) {x = first + 1 + k} {y = first + suc k} (omega arith) ∙ fails (suc k) (omega arith))
    ∙ ap (λ n. Some (f n)) {x = first + 1 + place} {y = first + suc place} (omega arith)

-- ---- a page

module _ (hash : Hash) (size : ℕ) (blob : Signature) (page : ℕ) (bytes : List ℕ) (holds : Holds size blob page) (whole : length bytes ≡ size) where
  count : length bytes / hash_page blob ≡ size / hash_page blob
  count = ap (λ n. n / hash_page blob) whole

  slot_long : (k : ℕ) → k < size / hash_page blob → length (slot_at blob.best_bytes (begins size blob page / hash_page blob + k)) ≡ size_of blob.best.kind
  unfolding bytes_in
  slot_long k inside =
      let place = slot_inside size blob page k holds inside in
      let end = code_slot_end blob.best_bytes blob.best (begins size blob page / hash_page blob + k) holds.directory place in
      let within = IsInside-from blob.best_bytes blob.best holds.directory in
      let room = within.within in
      ap length (slot_at-fields blob.best_bytes blob.best (begins size blob page / hash_page blob + k) holds.directory)
      ∙ taken_long (size_of blob.best.kind) (blob.best.hash_offset + (begins size blob page / hash_page blob + k) * size_of blob.best.kind) blob.best_bytes (omega arith)

  -- the digest that is wanted of a hash page is its slot
  wanted_is : (k : ℕ) → k < size / hash_page blob → piece (size_of blob.best.kind) k (concat (slots_of size blob page)) ≡ slot_at blob.best_bytes (begins size blob page / hash_page blob + k)
  wanted_is k inside =
      chunk_at (λ j. slot_at blob.best_bytes (begins size blob page / hash_page blob + j)) (size_of blob.best.kind) 0 (size / hash_page blob) k
      (λ j less. ap (λ i. length (slot_at blob.best_bytes (begins size blob page / hash_page blob + i))) {x = 0 + j} {y = j} (omega arith) ∙ slot_long j less) inside
      ∙ ap (λ i. slot_at blob.best_bytes (begins size blob page / hash_page blob + i)) {x = 0 + k} {y = k} (omega arith)

  -- and its bytes are those of the hash page
  bytes_are : (k : ℕ) → between (k * hash_page blob) ((k + 1) * hash_page blob) bytes ≡ piece (hash_page blob) k bytes
  bytes_are k = each_hash_page (λ h. take ((k + 1) * h - k * h) (drop (k * h) bytes) ≡ take h (drop (k * h) bytes)) blob
      (ap (λ n. take n (drop (k * 4096) bytes)) {x = (k + 1) * 4096 - k * 4096} {y = 4096} (omega arith))
      (ap (λ n. take n (drop (k * 16384) bytes)) {x = (k + 1) * 16384 - k * 16384} {y = 16384} (omega arith))

  matches : (k : ℕ) → k < size / hash_page blob → hash blob.best.kind (piece (hash_page blob) k bytes) ≡ piece (size_of blob.best.kind) k (concat (slots_of size blob page))
      → Matches hash blob (part size blob page bytes k)
  matches k inside same = ap (hash blob.best.kind) (bytes_are k) ∙ same ∙ wanted_is k inside

  matches_passes : (k : ℕ) → Matches hash blob (part size blob page bytes k) → differs hash blob (part size blob page bytes k) ≡ false
  matches_passes k same = ap not ((bytes_eq-Decides (hash blob.best.kind (part size blob page bytes k).bytes) (part size blob page bytes k).wanted).1 same)

  other_differs : (k : ℕ) → (Matches hash blob (part size blob page bytes k) → ⊥) → differs hash blob (part size blob page bytes k) ≡ true
  other_differs k other = by_test (bytes_eq (hash blob.best.kind (part size blob page bytes k).bytes) (part size blob page bytes k).wanted) refl
    where
      by_test : (b : Bool) → bytes_eq (hash blob.best.kind (part size blob page bytes k).bytes) (part size blob page bytes k).wanted ≡ b → not (bytes_eq (hash blob.best.kind (part size blob page bytes k).bytes) (part size blob page bytes k).wanted) ≡ true
      by_test false e = ap not e
      by_test true e = absurd (other ((bytes_eq-Decides (hash blob.best.kind (part size blob page bytes k).bytes) (part size blob page bytes k).wanted).0 e))

  -- a sealed page: each hash page hashes to its slot
  all_match : IsSealed hash (seal_for size blob page) bytes → (k : ℕ) → k < size / hash_page blob → Matches hash blob (part size blob page bytes k)
  all_match is_sealed k inside = matches k inside (is_sealed k (subst (λ n. k < n) (sym count) inside))

  pub sealed_matches : IsSealed hash (seal_for size blob page) bytes → All (Matches hash blob) (parts size blob page bytes)
  sealed_matches is_sealed = All-from_recursion (Matches hash blob) (parts size blob page bytes) (each 0 (size / hash_page blob) (λ k inside. subst (λ n. Matches hash blob (part size blob page bytes n)) {x = k} {y = 0 + k} (omega arith) (all_match is_sealed k inside)))
    where
      each : (first n : ℕ) → ((k : ℕ) → k < n → Matches hash blob (part size blob page bytes (first + k))) → AllByRecursion (Matches hash blob) (map (part size blob page bytes) (range_with_len first n))
      each first zero all = tt
      each first (suc n) all = (
        subst (λ m. Matches hash blob (part size blob page bytes m)) {x = first + 0} {y = first} (omega arith) (all 0 (omega arith)),
        each (first + 1) n (λ k inside. subst (λ m. Matches hash blob (part size blob page bytes m)) {x = first + suc k} {y = first + 1 + k} (omega arith) (all (suc k) (omega arith))),
      )

  pub sealed_none : IsSealed hash (seal_for size blob page) bytes → difference hash size blob page bytes ≡ None
  sealed_none is_sealed =
      ap (option_map (λ p. Mismatch page p.slot (hash blob.best.kind p.bytes) p.wanted))
      (none_found (differs hash blob) (part size blob page bytes) 0 (size / hash_page blob)
      (λ k inside. ap (λ n. differs hash blob (part size blob page bytes n)) {x = 0 + k} {y = k} (omega arith) ∙ matches_passes k (all_match is_sealed k inside)))

  -- another page: the first hash page that does not is told
  pub other_some : (place : ℕ) (found : List ℕ) → IsFirstOther hash (seal_for size blob page) bytes place found
      → difference hash size blob page bytes ≡ Some (Mismatch page (begins size blob page / hash_page blob + place) found (slot_at blob.best_bytes (begins size blob page / hash_page blob + place)))
  other_some place found other =
      let inside : place < size / hash_page blob = subst (λ n. place < n) count other.inside in
      ap (option_map (λ p. Mismatch page p.slot (hash blob.best.kind p.bytes) p.wanted))
      (first_found (differs hash blob) (part size blob page bytes) 0 (size / hash_page blob) place inside
      (ap (λ n. differs hash blob (part size blob page bytes n)) {x = 0 + place} {y = place} (omega arith) ∙ other_differs place (λ same. other.other (other.found ∙ sym (ap (hash blob.best.kind) (bytes_are place)) ∙ same ∙ sym (wanted_is place inside))))
      (λ k less. ap (λ n. differs hash blob (part size blob page bytes n)) {x = 0 + k} {y = k} (omega arith) ∙ matches_passes k (matches k (omega arith) (other.before k less)))
      ∙ ap (λ n. Some (part size blob page bytes n)) {x = 0 + place} {y = place} (omega arith))
      ∙ ap (λ d. Some (Mismatch page (begins size blob page / hash_page blob + place) d (slot_at blob.best_bytes (begins size blob page / hash_page blob + place)))) (ap (hash blob.best.kind) (bytes_are place) ∙ sym other.found)

  -- the place of that hash page
  pub other_inside : (place : ℕ) (found : List ℕ) → IsFirstOther hash (seal_for size blob page) bytes place found → begins size blob page / hash_page blob + place < blob.best.code_slots
  other_inside place found other = slot_inside size blob page place holds (subst (λ n. place < n) count other.inside)
