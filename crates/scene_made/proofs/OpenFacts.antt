-- No item of a made scene ends its run early.
use Rattle.std.proofs.Common.{◌≡◌, ℕ, zero, suc, ◌+◌, ◌*◌, ◌≤◌, Bool, true, false, nat_lt, List, [], ◌∷◌, length, map, codes, Option, Some, None, refl, ap, ◌∙◌, arith, length-append}
use Rattle.std.specs.List.{flat_map, range_with_len, zip}
use Rattle.std.specs.Option.{option_or}
use Rattle.std.proofs.lemmas.Bool.Decides.{nat_tests}
use Rattle.std.proofs.lemmas.List.FromFn.{length-map-range_with_len}
use Rattle.pg_bytes.specs.declared.status.Status.{Status}
use Rattle.pg_digest.specs.declared.kinds.HashKind.TheVariants.{Sha256}
use Rattle.pg_digest.specs.Digests.{sha_hash}
use Rattle.pg_digest.specs.DigestLaws.{length-sha_hash}
use Rattle.pg_io.specs.Files.{Told}
use Rattle.scene_text.specs.declared.head.Head.{Head}
use Rattle.scene_open.specs.Layouts.{raw_layout, has_long}
use Rattle.scene_open.specs.Items.{Item, items_told, item_end, items_end}
use Rattle.scene_made.specs.Made.{byte_of, page_of, body, header, slots, directory, file_bytes, names, four, told, raw, heads}

-- ---- how long the files are at most

page_length : (n file page : ℕ) → length (page_of n file page) ≡ 4096
page_length n file page = unfold page_of in length-map-range_with_len (byte_of n file page) 0 4096

pieces : (f : ℕ → List ℕ) → ((x : ℕ) → length (f x) ≤ 4096) → (a n : ℕ) → length (flat_map f (range_with_len a n)) ≤ 4096 * n
pieces f all a zero = omega arith
pieces f all a (suc n) = omega (arith, length-append (f a) (flat_map f (range_with_len (a + 1) n)), all a, pieces f all (a + 1) n)

body_short : (n file : ℕ) → length (body n file) ≤ 262144
body_short n file = unfold body in omega (arith, pieces (page_of n file) (λ page. omega (arith, page_length n file page)) 0 64)

slots_short : (n file : ℕ) → length (slots sha_hash n file) ≤ 262144
slots_short n file =
    unfold slots in
    omega (arith, pieces (λ page. sha_hash Sha256 (page_of n file page)) (λ page. omega (arith, length-sha_hash Sha256 (page_of n file page))) 0 64)

file_short : (n file : ℕ) → length (file_bytes sha_hash n file) ≤ 67108864
file_short n file =
    unfold file_bytes in
    omega (
      arith,
      length-append (body n file) (directory sha_hash n file),
      length-append header (slots sha_hash n file),
      body_short n file,
      slots_short n file,
    )

-- ---- no item ends the run

not_above : (most n : ℕ) → n ≤ most → nat_lt most n ≡ false
not_above most n le = grind (arith, nat_tests)

signature_short : (bytes : List ℕ) → has_long (raw_layout bytes (record { at = 262144; len = 2138 })) ≡ false
signature_short bytes = by_test (nat_lt (length bytes) (262144 + 2138)) refl
  where
    by_test : (t : Bool) → nat_lt (length bytes) (262144 + 2138) ≡ t → has_long (raw_layout bytes (record { at = 262144; len = 2138 })) ≡ false
    by_test true f = rw f refl
    by_test false f = rw f refl

raw_passes : (number : ℕ) (name bytes : List ℕ) → length bytes ≤ 67108864 → item_end number (record { head = raw name; found = Some bytes }) ≡ None
raw_passes number name bytes le = rw (not_above 67108864 (length bytes) le, signature_short bytes) refl

abbrev EachPasses : ℕ → List Item → Type 0
EachPasses number [] = Unit {0}
EachPasses number (item ∷ items) = (item_end number item ≡ None) × EachPasses (number + 1) items

all_pass : (number : ℕ) (items : List Item) → EachPasses number items → items_end number items ≡ None
all_pass number [] each = refl
all_pass number (item ∷ items) each = ap (λ (e : Option Status). option_or e (items_end (number + 1) items)) each.0 ∙ all_pass (number + 1) items each.1

pub passes : (n : ℕ) → items_end 1 (items_told (told sha_hash n) (heads sha_hash n)) ≡ None
passes n = all_pass 1 (items_told (told sha_hash n) (heads sha_hash n)) (
  refl,
  (
    raw_passes 2 (codes "gen0") (file_bytes sha_hash n 0) (file_short n 0),
    (
      raw_passes 3 (codes "gen1") (file_bytes sha_hash n 1) (file_short n 1),
      (
        raw_passes 4 (codes "gen2") (file_bytes sha_hash n 2) (file_short n 2),
        (
          raw_passes 5 (codes "gen3") (file_bytes sha_hash n 3) (file_short n 3),
          (refl, (refl, (refl, (refl, (refl, (refl, (refl, (refl, tt)))))))),
        ),
      ),
    ),
  ),
)

-- the same of what was made
pub made_passes : (n : ℕ) (head : List Head) (t : Told) → head ≡ heads sha_hash n → t.files ≡ zip names (map (file_bytes sha_hash n) four) → t.made ≡ 0 → t.fails ≡ []
    → items_end 1 (items_told t head) ≡ None
made_passes n head t is files made fails = (λ i. items_end 1 (items_told (record { files = files i; made = made i; fails = fails i }) (is i))) ∙ passes n
