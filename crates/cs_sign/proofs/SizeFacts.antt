-- How many bytes the parts of a signature have.
use Rattle.std.proofs.Common.{◌≡◌, ℕ, zero, suc, ◌+◌, ◌-◌, ◌*◌, ◌≤◌, List, [], ◌∷◌, ◌++◌, length, replicate, Option, Some, None, refl, ap, ◌∙◌, arith, length-append}
use Rattle.std.specs.List.{flat_map, range_with_len}
use Rattle.std.specs.Int.{div_ceil}
use Rattle.pg_digest.specs.Kinds.{Hash, size_of}
use Rattle.pg_digest.specs.declared.kinds.HashKind.{HashKind}
use Rattle.pg_digest.specs.declared.kinds.HashKind.TheVariants.{Sha256}
use Rattle.cs_directory.specs.HashPages.{bytes_of}
use Rattle.cs_verify.specs.Pages.{hash_page}
use Rattle.cs_sign.specs.declared.fields.Field.{Field}
use Rattle.cs_sign.specs.declared.fields.Field.TheVariants.{Byte, Word, Long}
use Rattle.cs_sign.specs.declared.plan.Plan.{Plan}
use Rattle.cs_sign.specs.Blobs.{Part, blob, superblob, index, field_bytes, part_bytes, parts_length}
use Rattle.cs_sign.specs.Requests.{Request, special_slots, where_entitled, directory_length, parts_beside, parts_size, part_count, super_size}
use Rattle.cs_sign.specs.Rules.{IsSized}
use Rattle.cs_sign.specs.Directory.{header, part_of, special_hash, special_hashes, code_hashes, directory}
use Rattle.cs_sign.specs.Signed.{beside, parts_with, signature}
use Rattle.cs_sign.proofs.BlobFacts.{length-byte, length-word, length-long, length-index}

-- a digest has as many bytes as its hash type says
abbrev pub HasSizes : Hash → Type 0
HasSizes hash = (kind : HashKind) (bytes : List ℕ) → length (hash kind bytes) ≡ size_of kind

-- how many bytes a field has, and several
abbrev pub field_size : Field → ℕ
field_size (Byte number) = 1
field_size (Word number) = 4
field_size (Long number) = 8

abbrev pub fields_size : List Field → ℕ
fields_size [] = 0
fields_size (field ∷ fields) = field_size field + fields_size fields

length-field : (field : Field) → length (field_bytes field) ≡ field_size field
length-field (Byte number) = length-byte number
length-field (Word number) = length-word number
length-field (Long number) = length-long number

pub length-fields : (fields : List Field) → length (flat_map field_bytes fields) ≡ fields_size fields
length-fields [] = refl
length-fields (field ∷ fields) = omega (arith, length-append (field_bytes field) (flat_map field_bytes fields), length-field field, length-fields fields)

-- the header has 88 bytes
pub length-header : (request : Request) (plan : Plan) → length (flat_map field_bytes (header request plan)) ≡ 88
length-header request plan = length-fields (header request plan)

-- a blob has eight bytes more than it holds
pub length-blob : (magic : ℕ) (held : List ℕ) → length (blob magic held) ≡ 8 + length held
length-blob magic held =
    omega (arith, length-append (flat_map field_bytes (Word magic ∷ Word (8 + length held) ∷ [])) held, length-fields (Word magic ∷ Word (8 + length held) ∷ []))

-- pieces of one size
pub length-pieces : (piece : ℕ → List ℕ) (size a n : ℕ) → ((i : ℕ) → length (piece i) ≡ size) → length (flat_map piece (range_with_len a n)) ≡ size * n
length-pieces piece size a zero each = omega arith
length-pieces piece size a (suc n) each =
    let more = length-append (piece a) (flat_map piece (range_with_len (a + 1) n)) in
    omega (arith, more, each a, length-pieces piece size (a + 1) n each)

-- a special slot has 32 bytes
length-slot : (hash : Hash) → HasSizes hash → (parts : List Part) (slot : ℕ) (found : Option Part) → part_of parts slot ≡ found → length (special_hash hash parts slot) ≡ 32
length-slot hash sized parts slot None e = rw e refl
length-slot hash sized parts slot (Some part) e = rw e (sized Sha256 part.bytes)

pub length-special_hash : (hash : Hash) → HasSizes hash → (parts : List Part) (slot : ℕ) → length (special_hash hash parts slot) ≡ 32
length-special_hash hash sized parts slot = length-slot hash sized parts slot (part_of parts slot) refl

-- the directory has as many bytes as its header says
pub length-directory : (hash : Hash) → HasSizes hash → (request : Request) (plan : Plan) (parts : List Part) (signed : List ℕ) → length signed ≡ plan.limit → length (directory hash request plan parts signed) ≡ directory_length request plan.limit
unfolding directory
length-directory hash sized request plan parts signed limit =
    let slots = special_slots request in
    let specials = special_hashes hash parts slots in
    let codes = code_hashes hash request.page signed in
    let all = div_ceil (length signed) (bytes_of request.page) in
    let same : all ≡ div_ceil plan.limit (bytes_of request.page) = ap (λ (n : ℕ). div_ceil n (bytes_of request.page)) limit in
    let each = length-pieces (λ (later : ℕ). special_hash hash parts (slots - later)) 32 0 slots (λ later. length-special_hash hash sized parts (slots - later)) in
    let pages = length-pieces (λ (number : ℕ). hash Sha256 (hash_page (bytes_of request.page) signed number)) 32 0 all (λ number. sized Sha256 (hash_page (bytes_of request.page) signed number)) in
    let ends = length-append specials codes in
    let behind = length-append request.ident (0 ∷ (specials ++ codes)) in
    let whole = length-append (flat_map field_bytes (header request plan)) (request.ident ++ (0 ∷ (specials ++ codes))) in
    omega (arith, length-header request plan, same, each, pages, ends, behind, whole)

-- the blobs beside the directory
beside_size : (given : Option (List ℕ)) (first : List ℕ) → length (first ++ flat_map part_bytes (beside given)) ≡ parts_beside (length first) given
beside_size None first =
    omega (arith, length-append {A = ℕ}, length-blob 0xfade0c01 (replicate 4 0), length-blob 0xfade0b01 [])
beside_size (Some given) first =
    omega (arith, length-append {A = ℕ}, length-blob 0xfade0c01 (replicate 4 0), length-blob 0xfade7171 given, length-blob 0xfade0b01 [])

beside_count : (given : Option (List ℕ)) → suc (length (beside given)) ≡ where_entitled 4 3 given
beside_count None = refl
beside_count (Some given) = refl

-- all blobs have as many bytes as was counted
pub parts_length-is : (hash : Hash) → HasSizes hash → (request : Request) (plan : Plan) (signed : List ℕ) → length signed ≡ plan.limit → parts_length (parts_with hash request plan signed) ≡ parts_size request plan.limit
parts_length-is hash sized request plan signed limit =
    let made = directory hash request plan (beside request.entitlements) signed in
    beside_size request.entitlements made
    ∙ ap (λ (n : ℕ). parts_beside n request.entitlements) (length-directory hash sized request plan (beside request.entitlements) signed limit)

pub parts_count-is : (hash : Hash) (request : Request) (plan : Plan) (signed : List ℕ) → length (parts_with hash request plan signed) ≡ part_count request
parts_count-is hash request plan signed = beside_count request.entitlements

-- the signature is short
pub super_size-within : (request : Request) (limit : ℕ) → IsSized request limit → super_size request limit ≤ 67108864
super_size-within request limit sized = omega (arith, sized.within)

-- the blobs as they are put together: the directory in front of those beside it
pub parts_joined : (hash : Hash) (request : Request) (plan : Plan) (signed made : List ℕ) (first : Part) (parts listed all : List Part) → parts ≡ beside request.entitlements → listed ≡ parts → made ≡ directory hash request plan listed signed → first ≡ record { slot = 0; bytes = made } → all ≡ first ∷ parts → all ≡ parts_with hash request plan signed
parts_joined hash request plan signed made first parts listed all beside_is listed_is made_is first_is all_is =
    rw (all_is, first_is, made_is, listed_is, beside_is) refl

-- their SuperBlob is short
pub parts_short : (hash : Hash) → HasSizes hash → (request : Request) (plan : Plan) (signed : List ℕ) (all : List Part) → length signed ≡ plan.limit → IsSized request plan.limit → all ≡ parts_with hash request plan signed → (12 + 8 * length all) + parts_length all ≤ 67108864
parts_short hash sizes request plan signed all limit sized is =
    rw is (omega (arith, parts_count-is hash request plan signed, parts_length-is hash sizes request plan signed limit, super_size-within request plan.limit sized))

-- a SuperBlob has a header of 12 bytes, eight bytes for each blob, and the blobs
pub length-superblob : (parts : List Part) → length (superblob parts) ≡ (12 + 8 * length parts) + parts_length parts
length-superblob parts =
    let at = 12 + 8 * length parts in
    let listed = index at parts ++ flat_map part_bytes parts in
    omega (
      arith,
      length-blob 0xfade0cc0 (field_bytes (Word (length parts)) ++ listed),
      length-append (field_bytes (Word (length parts))) listed,
      length-word (length parts),
      length-append (index at parts) (flat_map part_bytes parts),
      length-index at parts,
    )

-- the signature has as many bytes as was counted
pub length-signature : (hash : Hash) → HasSizes hash → (request : Request) (plan : Plan) (signed : List ℕ) → length signed ≡ plan.limit → length (signature hash request plan signed) ≡ super_size request plan.limit
unfolding signature
length-signature hash sizes request plan signed limit =
    omega (arith, length-superblob (parts_with hash request plan signed), parts_count-is hash request plan signed, parts_length-is hash sizes request plan signed limit)
