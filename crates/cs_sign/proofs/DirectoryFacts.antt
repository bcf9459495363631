-- The code directory of a signature, read again: it breaks no rule, and its fields, identifier and slots are those that
-- were written.
use Rattle.std.proofs.Common.{◌≡◌, ℕ, zero, suc, ◌+◌, ◌-◌, ◌*◌, ◌<◌, ◌≤◌, Bool, true, false, ◌||◌, ◌==◌, nat_lt, nat_le, List, [], ◌∷◌, ◌++◌, length, take, drop, slice_index, Option, Some, None, refl, sym, ap, ◌∙◌, arith, length-append}
use Rattle.std.specs.Prelude.{unwrap_or}
use Rattle.std.specs.List.{flat_map, range_with_len, list_any, position_or_len}
use Rattle.std.specs.Int.{div_ceil}
use Rattle.std.proofs.lemmas.Bool.{le-ltb, lt-ltb}
use Rattle.std.proofs.lemmas.Bool.Decides.{nat_tests}
use Rattle.std.proofs.lemmas.List.{append_assoc, append-nil, take_all, take_at, drop_at}
use Rattle.pg_bytes.specs.Rules.{first}
use Rattle.pg_bytes.specs.Fields.{be32_at, be64_at}
use Rattle.pg_bytes.specs.Ranges.{bytes_in}
use Rattle.pg_bytes.proofs.RuleFacts.{first-append-kept}
use Rattle.pg_digest.specs.Kinds.{Hash, kind_numbered}
use Rattle.pg_digest.specs.declared.kinds.HashKind.{HashKind}
use Rattle.pg_digest.specs.declared.kinds.HashKind.TheVariants.{Sha1, Sha256}
use Rattle.cs_directory.specs.HashPages.{bits_of, bytes_of, page_numbered}
use Rattle.cs_directory.specs.declared.hash_page.HashPage.{HashPage}
use Rattle.cs_directory.specs.declared.hash_page.HashPage.TheVariants.{Small, Large}
use Rattle.cs_directory.specs.Layout.{magic, length_field, version, flags_field, hash_offset, ident_offset, special_slots, code_slots, code_limit, hash_size, hash_type, page_bits, scatter_offset, team_offset, code_limit_64, header_length, kind, page, limit, blob_bytes}
use Rattle.cs_directory.specs.Rules.{frame_rules, hash_rules, slot_rules, text_rules, broken}
use Rattle.cs_directory.specs.Directory.{slot_at, special_at, ident_at, cdhash}
use Rattle.cs_verify.specs.Pages.{hash_page}
use Rattle.cs_sign.specs.declared.fields.Field.{Field}
use Rattle.cs_sign.specs.declared.plan.Plan.{Plan}
use Rattle.cs_sign.specs.Blobs.{Part, field_bytes}
use Rattle.cs_sign.specs.Requests as requests
use Rattle.cs_sign.specs.Requests.{Request}
use Rattle.cs_sign.specs.Rules.{IsSized}
use Rattle.cs_sign.specs.Directory.{header, special_hash, special_hashes, code_hashes, directory}
use Rattle.cs_sign.proofs.SizeFacts.{HasSizes, length-header, length-directory, length-special_hash, length-pieces}
use Rattle.cs_sign.proofs.TableFacts.{IsBlob, word-at, long-at, byte-at, drop-behind}

-- a number above another
above-leb : (a b : ℕ) → b < a → nat_le a b ≡ false
above-leb a b lt = grind (arith, nat_tests)

-- two tests of which none passes
or-both : (a b : Bool) → (a || b) ≡ false → (a ≡ false) × (b ≡ false)
or-both true b e = absurd cc
or-both false b e = (refl, e)

-- the first zero byte stands behind the identifier
zero-place : (ident rest : List ℕ) → list_any (λ b. b == 0) ident ≡ false → position_or_len (λ b. b == 0) (ident ++ 0 ∷ rest) ≡ length ident
zero-place [] rest none = refl
zero-place (b ∷ ident) rest none =
    let both = or-both (b == 0) (list_any (λ x. x == 0) ident) none in
    rw both.0 (omega (arith, zero-place ident rest both.1))

-- one piece of several of one size
piece-held : (piece : ℕ → List ℕ) (size a n i : ℕ) (rest : List ℕ) → ((j : ℕ) → length (piece j) ≡ size) → i < n → take size (drop (size * i) (flat_map piece (range_with_len a n) ++ rest)) ≡ piece (a + i)
piece-held piece size a zero i rest each lt = absurd (omega arith)
piece-held piece size a (suc n) zero rest each lt =
    let none : size * 0 ≡ 0 = omega arith in
    let same : a + 0 ≡ a = omega arith in
    rw (none, same) (ap (take size) (append_assoc (piece a) (flat_map piece (range_with_len (a + 1) n)) rest) ∙ take_at (piece a) (flat_map piece (range_with_len (a + 1) n) ++ rest) size (each a))
piece-held piece size a (suc n) (suc i) rest each lt =
    let place : length (piece a) + size * i ≡ size * suc i = omega (arith, each a) in
    let same : (a + 1) + i ≡ a + suc i = omega arith in
    ap (λ (xs : List ℕ). take size (drop (size * suc i) xs)) (append_assoc (piece a) (flat_map piece (range_with_len (a + 1) n)) rest)
    ∙ ap (take size) (drop-behind (piece a) (flat_map piece (range_with_len (a + 1) n) ++ rest) (size * i) (size * suc i) place)
    ∙ piece-held piece size (a + 1) n i rest each (omega arith)
    ∙ ap piece same

-- the directory is one of the blobs
short_parts : (size : ℕ) (given : Option (List ℕ)) → requests.parts_beside size given ≤ 67108864 → size ≤ 67108864
short_parts size None le = omega arith
short_parts size (Some held) le = omega arith

-- a size by its logarithm
page-back : (p : HashPage) → page_numbered (bits_of p) ≡ Some p
unfolding page_numbered
page-back Small = refl
page-back Large = refl

kind-two : kind_numbered 2 ≡ Some Sha256
unfolding kind_numbered
kind-two = refl

header-88 : header_length 0x20400 ≡ 88
unfolding header_length
header-88 = refl

module _ (hash : Hash) (sizes : HasSizes hash) (request : Request) (plan : Plan) (parts : List Part) (signed : List ℕ) (long : length signed ≡ plan.limit) (sized : IsSized request plan.limit) where
  abbrev dir : List ℕ
  dir = directory hash request plan parts signed

  abbrev specials : List ℕ
  specials = special_hashes hash parts (requests.special_slots request)

  abbrev codes : List ℕ
  codes = code_hashes hash request.page signed

  abbrev tail : List ℕ
  tail = request.ident ++ (0 ∷ (specials ++ codes))

  abbrev fields : List Field
  fields = header request plan

  dir-is : dir ≡ flat_map field_bytes fields ++ tail
  unfolding directory
  dir-is = refl

  pub dir-long : length dir ≡ requests.directory_length request plan.limit
  dir-long = length-directory hash sizes request plan parts signed long

  few : requests.directory_length request plan.limit ≤ 67108864
  few = short_parts (requests.directory_length request plan.limit) request.entitlements (omega (arith, sized.within))

  pub dir-magic : magic dir ≡ 0xfade0c02
  dir-magic = ap (λ (xs : List ℕ). be32_at xs 0) dir-is ∙ word-at (take 0 fields) (drop 1 fields) 0xfade0c02 0 tail (omega arith) refl

  pub dir-length : length_field dir ≡ requests.directory_length request plan.limit
  dir-length = ap (λ (xs : List ℕ). be32_at xs 4) dir-is ∙ word-at (take 1 fields) (drop 2 fields) (requests.directory_length request plan.limit) 4 tail (omega (arith, few)) refl

  pub dir-told : IsBlob dir
  dir-told = record {
    header = omega (arith, dir-long);
    told = λ rest.
        ap (λ (xs : List ℕ). be32_at (xs ++ rest) 4) dir-is
        ∙ ap (λ (xs : List ℕ). be32_at xs 4) (append_assoc (flat_map field_bytes fields) tail rest)
        ∙ word-at (take 1 fields) (drop 2 fields) (requests.directory_length request plan.limit) 4 (tail ++ rest) (omega (arith, few)) refl
        ∙ sym dir-long;
  }

  pub dir-version : version dir ≡ 0x20400
  dir-version = ap (λ (xs : List ℕ). be32_at xs 8) dir-is ∙ word-at (take 2 fields) (drop 3 fields) 0x20400 8 tail (omega arith) refl

  pub dir-flags : flags_field dir ≡ 2
  dir-flags = ap (λ (xs : List ℕ). be32_at xs 12) dir-is ∙ word-at (take 3 fields) (drop 4 fields) 2 12 tail (omega arith) refl

  pub dir-offset : hash_offset dir ≡ requests.hash_offset request
  dir-offset = ap (λ (xs : List ℕ). be32_at xs 16) dir-is ∙ word-at (take 4 fields) (drop 5 fields) (requests.hash_offset request) 16 tail (omega (arith, few)) refl

  pub dir-ident : ident_offset dir ≡ 88
  dir-ident = ap (λ (xs : List ℕ). be32_at xs 20) dir-is ∙ word-at (take 5 fields) (drop 6 fields) 88 20 tail (omega arith) refl

  pub dir-specials : special_slots dir ≡ requests.special_slots request
  dir-specials = ap (λ (xs : List ℕ). be32_at xs 24) dir-is ∙ word-at (take 6 fields) (drop 7 fields) (requests.special_slots request) 24 tail (omega (arith, few)) refl

  pub dir-codes : code_slots dir ≡ requests.code_slots request plan.limit
  dir-codes = ap (λ (xs : List ℕ). be32_at xs 28) dir-is ∙ word-at (take 7 fields) (drop 8 fields) (requests.code_slots request plan.limit) 28 tail (omega (arith, few)) refl

  dir-limit_32 : code_limit dir ≡ plan.limit
  dir-limit_32 = ap (λ (xs : List ℕ). be32_at xs 32) dir-is ∙ word-at (take 8 fields) (drop 9 fields) plan.limit 32 tail (omega (arith, sized.within)) refl

  dir-size : hash_size dir ≡ 32
  dir-size = ap (λ (xs : List ℕ). slice_index xs 36) dir-is ∙ byte-at (take 9 fields) (drop 10 fields) 32 36 tail refl

  dir-type : hash_type dir ≡ 2
  dir-type = ap (λ (xs : List ℕ). slice_index xs 37) dir-is ∙ byte-at (take 10 fields) (drop 11 fields) 2 37 tail refl

  dir-bits : page_bits dir ≡ bits_of request.page
  dir-bits = ap (λ (xs : List ℕ). slice_index xs 39) dir-is ∙ byte-at (take 12 fields) (drop 13 fields) (bits_of request.page) 39 tail refl

  dir-scatter : scatter_offset dir ≡ 0
  dir-scatter = ap (λ (xs : List ℕ). be32_at xs 44) dir-is ∙ word-at (take 14 fields) (drop 15 fields) 0 44 tail (omega arith) refl

  dir-team : team_offset dir ≡ 0
  dir-team = ap (λ (xs : List ℕ). be32_at xs 48) dir-is ∙ word-at (take 15 fields) (drop 16 fields) 0 48 tail (omega arith) refl

  dir-limit_64 : code_limit_64 dir ≡ 0
  dir-limit_64 = ap (λ (xs : List ℕ). be64_at xs 56) dir-is ∙ long-at (take 17 fields) (drop 18 fields) 0 56 tail (omega arith) refl

  pub dir-kind : kind dir ≡ Sha256
  dir-kind = ap (λ (n : ℕ). unwrap_or (kind_numbered n) Sha1) dir-type ∙ ap (λ (o : Option HashKind). unwrap_or o Sha1) kind-two

  pub dir-page : page dir ≡ request.page
  dir-page = ap (λ (n : ℕ). unwrap_or (page_numbered n) Small) dir-bits ∙ ap (λ (o : Option HashPage). unwrap_or o Small) (page-back request.page)

  pub dir-limit : limit dir ≡ plan.limit
  unfolding limit
  dir-limit = rw (dir-version, dir-limit_64) dir-limit_32

  pub dir-blob : blob_bytes dir ≡ dir
  dir-blob = take_all (length_field dir) dir (omega (arith, dir-length, dir-long))

  dir-text : drop 88 (blob_bytes dir) ≡ tail
  dir-text = ap (drop 88) (dir-blob ∙ dir-is) ∙ drop_at (flat_map field_bytes fields) tail 88 (length-header request plan)

  -- ---- the rules

  frame-kept : first (frame_rules dir) ≡ None
  frame-kept =
      let a : nat_lt (length dir) 44 ≡ false = le-ltb _ _ (omega (arith, dir-long)) in
      let b : nat_lt (length_field dir) 44 ≡ false = le-ltb _ _ (omega (arith, dir-length)) in
      let c : nat_lt (length dir) (length_field dir) ≡ false = le-ltb _ _ (omega (arith, dir-length, dir-long)) in
      let h : header_length (version dir) ≡ 88 = ap header_length dir-version ∙ header-88 in
      let d : nat_lt (length_field dir) (header_length (version dir)) ≡ false = le-ltb _ _ (omega (arith, dir-length, h)) in
      rw (d, a, dir-magic, b, c, dir-version) refl

  hash-kept : first (hash_rules dir) ≡ None
  hash-kept =
      let a : page_numbered (page_bits dir) ≡ Some request.page = ap page_numbered dir-bits ∙ page-back request.page in
      let b : kind_numbered (hash_type dir) ≡ Some Sha256 = ap kind_numbered dir-type ∙ kind-two in
      rw (a, b, dir-size) refl

  slots-kept : first (slot_rules dir) ≡ None
  slots-kept =
      let a : nat_lt (hash_offset dir) (special_slots dir * hash_size dir) ≡ false = le-ltb _ _ (rw (dir-offset, dir-specials, dir-size) (omega arith)) in
      let b : nat_lt (length_field dir) (hash_offset dir + code_slots dir * hash_size dir) ≡ false = le-ltb _ _ (rw (dir-length, dir-offset, dir-codes, dir-size) (omega arith)) in
      rw (a, b, dir-version, dir-scatter) refl

  text-kept : first (text_rules dir) ≡ None
  text-kept =
      let place = zero-place request.ident (specials ++ codes) sized.some in
      let within : position_or_len (λ b. b == 0) (drop 88 (blob_bytes dir)) < length (drop 88 (blob_bytes dir)) = rw dir-text (omega (arith, place, length-append request.ident (0 ∷ (specials ++ codes)))) in
      let found : nat_lt (position_or_len (λ b. b == 0) (drop 88 (blob_bytes dir))) (length (drop 88 (blob_bytes dir))) ≡ true = lt-ltb _ _ within in
      let behind : nat_le (length_field dir) 88 ≡ false = above-leb (length_field dir) 88 (omega (arith, dir-length)) in
      rw (dir-ident, behind, found, dir-version, dir-team) refl

  pub dir-kept : broken dir ≡ None
  unfolding broken
  dir-kept =
      first-append-kept (frame_rules dir) (hash_rules dir ++ (slot_rules dir ++ text_rules dir)) frame-kept
      ∙ (first-append-kept (hash_rules dir) (slot_rules dir ++ text_rules dir) hash-kept
      ∙ (first-append-kept (slot_rules dir) (text_rules dir) slots-kept ∙ text-kept))

  -- ---- the identifier and the slots

  pub dir-named : ident_at dir ≡ request.ident
  unfolding ident_at
  dir-named =
      let place = zero-place request.ident (specials ++ codes) sized.some in
      rw (dir-ident, dir-text, place) (take_at request.ident (0 ∷ (specials ++ codes)) (length request.ident) refl)

  pub dir-cdhash : cdhash hash dir ≡ take 20 (hash Sha256 dir)
  unfolding cdhash
  dir-cdhash = rw (dir-kind, dir-blob) refl

  abbrev front : List ℕ
  front = flat_map field_bytes fields ++ (request.ident ++ 0 ∷ [])

  front-long : length front ≡ 88 + (length request.ident + 1)
  front-long = omega (arith, length-append (flat_map field_bytes fields) (request.ident ++ 0 ∷ []), length-append request.ident (0 ∷ []), length-header request plan)

  dir-split : dir ≡ front ++ (specials ++ codes)
  dir-split = dir-is ∙ simp append_assoc

  specials-long : length specials ≡ 32 * requests.special_slots request
  specials-long = length-pieces (λ (later : ℕ). special_hash hash parts (requests.special_slots request - later)) 32 0 (requests.special_slots request) (λ later. length-special_hash hash sizes parts (requests.special_slots request - later))

  pub dir-special : (t : ℕ) → t ≤ requests.special_slots request → 0 < t → special_at dir t ≡ special_hash hash parts t
  unfolding special_at bytes_in
  dir-special t le some =
      let n = requests.special_slots request in
      let place : length front + 32 * (n - t) ≡ requests.hash_offset request - t * 32 = omega (arith, front-long) in
      let back : n - (0 + (n - t)) ≡ t = omega arith in
      rw (dir-size, dir-offset)
      (ap (λ (xs : List ℕ). take 32 (drop (requests.hash_offset request - t * 32) xs)) dir-split
      ∙ ap (take 32) (drop-behind front (specials ++ codes) (32 * (n - t)) (requests.hash_offset request - t * 32) place)
      ∙ piece-held (λ (later : ℕ). special_hash hash parts (n - later)) 32 0 n (n - t) codes (λ later. length-special_hash hash sizes parts (n - later)) (omega arith)
      ∙ ap (special_hash hash parts) back)

  pub dir-slot : (i : ℕ) → i < requests.code_slots request plan.limit → slot_at dir i ≡ hash Sha256 (hash_page (bytes_of request.page) signed i)
  unfolding slot_at bytes_in
  dir-slot i lt =
      let all : div_ceil (length signed) (bytes_of request.page) ≡ requests.code_slots request plan.limit = ap (λ (n : ℕ). div_ceil n (bytes_of request.page)) long in
      let place : length (front ++ specials) + 32 * i ≡ requests.hash_offset request + i * 32 = omega (arith, front-long, specials-long, length-append front specials) in
      let zero_first : 0 + i ≡ i = omega arith in
      rw (dir-size, dir-offset)
      (ap (λ (xs : List ℕ). take 32 (drop (requests.hash_offset request + i * 32) xs)) (dir-split ∙ sym (append_assoc front specials codes))
      ∙ ap (take 32) (drop-behind (front ++ specials) codes (32 * i) (requests.hash_offset request + i * 32) place)
      ∙ ap (λ (xs : List ℕ). take 32 (drop (32 * i) xs)) (sym (append-nil codes))
      ∙ piece-held (λ (number : ℕ). hash Sha256 (hash_page (bytes_of request.page) signed number)) 32 0 (div_ceil (length signed) (bytes_of request.page)) i [] (λ number. sizes Sha256 (hash_page (bytes_of request.page) signed number)) (omega (arith, all, lt))
      ∙ ap (λ (number : ℕ). hash Sha256 (hash_page (bytes_of request.page) signed number)) zero_first)
