-- The digests of the slots of a page, gathered one after another.
use Rattle.std.proofs.Common.{◌≡◌, ℕ, ◌+◌, ◌*◌, ◌/◌, ◌<◌, ◌≤◌, List, [], ◌∷◌, ◌++◌, length, take, map, refl, sym, ap, ◌∙◌, arith}
use Rattle.std.specs.Prelude.{IsTrue}
use Rattle.std.specs.List.{concat, range_with_len}
use Rattle.std.proofs.lemmas.Grind.{common_steps}
use Rattle.std.proofs.lemmas.List.{append-nil}
use Rattle.std.proofs.lemmas.List.Folds.{concat-append}
use Rattle.std.proofs.lemmas.List.FromFn.{map-range_with_len_more}
use Rattle.pg_bytes.specs.PageSize.{is_page_size}
use Rattle.pg_digest.specs.Kinds.{size_of}
use Rattle.pg_digest.specs.declared.kinds.HashKind.{HashKind}
use Rattle.pg_digest.specs.declared.kinds.HashKind.TheVariants.{Sha1, Sha256, Sha256Short, Sha384}
use Rattle.pg_io.specs.PageBytes.{written_over}
use Rattle.cs_directory.specs.declared.hash_page.HashPage.{HashPage}
use Rattle.cs_directory.specs.declared.hash_page.HashPage.TheVariants.{Small, Large}
use Rattle.cs_directory.specs.HashPages.{bytes_of}
use Rattle.cs_directory.specs.Directory.{slot_at}
use Rattle.cs_blob.specs.Signature.{Signature}
use Rattle.pg_plain.specs.Covers.{hash_page, begins}
use Rattle.pg_object.specs.Enters.{Holds}
use Rattle.pg_object.proofs.SizeFacts.{each_size}

-- so many slots, from one on
abbrev pub slots_from : Signature → ℕ → ℕ → List (List ℕ)
slots_from blob first count = map (λ k. slot_at blob.best_bytes (first + k)) (range_with_len 0 count)

-- the digests of the first slots, so many, stand in the array
pub record Gathered (blob : Signature) (first count used : ℕ) (digests : List ℕ) : Type 0 where
  pub many : used ≡ count * size_of blob.best.kind
  pub held : take used digests ≡ concat (slots_from blob first count)

concat_push : (xs : List (List ℕ)) (y : List ℕ) → concat (xs ++ y ∷ []) ≡ concat xs ++ y
concat_push xs y = concat-append xs (y ∷ []) ∙ ap (λ l. concat xs ++ l) (append-nil y)

take_over : (digests digest : List ℕ) (used : ℕ) → used + length digest ≤ length digests → take (used + length digest) (written_over digests used digest) ≡ take used digests ++ digest
take_over digests digest used fits = grind (arith, common_steps, fits)

pub gathered_none : (blob : Signature) (first : ℕ) (digests : List ℕ) → Gathered blob first 0 0 digests
gathered_none blob first digests = record { many = omega arith; held = refl }

pub gathered_more : (blob : Signature) (first k used : ℕ) (digests new slot : List ℕ) (count : ℕ) → Gathered blob first k used digests → slot ≡ slot_at blob.best_bytes (first + k)
    → length slot ≡ size_of blob.best.kind → used + length slot ≤ length digests → new ≡ written_over digests used slot → count ≡ length slot → Gathered blob first (k + 1) (used + count) new
gathered_more blob first k used digests new slot count so_far is long fits put counted = record {
  many = let many = so_far.many in ap (λ n. used + n) (counted ∙ long) ∙ ap (λ n. n + size_of blob.best.kind) many ∙ grind arith;
  held =
      ap (λ n. take (used + n) new) counted ∙ ap (take (used + length slot)) put ∙ take_over digests slot used fits
      ∙ ap (λ l. l ++ slot) so_far.held ∙ ap (λ l. concat (slots_from blob first k) ++ l) is
      ∙ sym (concat_push (slots_from blob first k) (slot_at blob.best_bytes (first + k)))
      ∙ ap concat (sym (map-range_with_len_more (λ j. slot_at blob.best_bytes (first + j)) 0 k k (omega arith)));
}

-- ---- how many slots there are

pub each_hash_page : (P : ℕ → Type 0) (blob : Signature) → P 4096 → P 16384 → P (hash_page blob)
each_hash_page P blob small large = by_page blob.best.page
  where
    by_page : (page : HashPage) → P (bytes_of page)
    by_page Small = small
    by_page Large = large

each_kind : (P : ℕ → Type 0) (kind : HashKind) → P 20 → P 32 → P 48 → P (size_of kind)
each_kind P Sha1 a b c = a
each_kind P Sha256 a b c = b
each_kind P Sha256Short a b c = a
each_kind P Sha384 a b c = c

-- a hash page of a page that lies below the limit has a slot
pub slot_inside : (size : ℕ) (blob : Signature) (page k : ℕ) → Holds size blob page → k < size / hash_page blob → begins size blob page / hash_page blob + k < blob.best.code_slots
slot_inside size blob page k holds inside =
    let slots : (begins size blob page + size) / hash_page blob ≤ blob.best.code_slots = grind (arith, common_steps, holds.below) in
    each_hash_page (λ h. (begins size blob page + size) / h ≤ blob.best.code_slots → k < size / h → begins size blob page / h + k < blob.best.code_slots) blob
    (λ s i. omega arith) (λ s i. omega arith) slots inside

-- and its digest has room
pub slot_fits : (size : ℕ) (blob : Signature) (k : ℕ) → IsTrue (is_page_size size) → k < size / hash_page blob → k * size_of blob.best.kind + size_of blob.best.kind ≤ 192
slot_fits size blob k known inside =
    let few : k < 4 = each_size (λ s. k < s / hash_page blob → k < 4) size known (each_hash_page (λ h. k < 4096 / h → k < 4) blob (λ i. omega arith) (λ i. omega arith)) (each_hash_page (λ h. k < 16384 / h → k < 4) blob (λ i. omega arith) (λ i. omega arith)) inside in
    each_kind (λ n. k * n + n ≤ 192) blob.best.kind (omega arith) (omega arith) (omega arith)

pub slots_fit : (size : ℕ) (blob : Signature) → IsTrue (is_page_size size) → size / hash_page blob * size_of blob.best.kind ≤ 192
slots_fit size blob known =
    let few : size / hash_page blob ≤ 4 = each_size (λ s. s / hash_page blob ≤ 4) size known (each_hash_page (λ h. 4096 / h ≤ 4) blob (omega arith) (omega arith)) (each_hash_page (λ h. 16384 / h ≤ 4) blob (omega arith) (omega arith)) in
    each_kind (λ n. size / hash_page blob * n ≤ 192) blob.best.kind (omega arith) (omega arith) (omega arith)
