-- The code directory of a signature.
-- Source: `CS_CodeDirectory` in XNU's `cs_blobs.h`; Apple TN3126.
use Rattle.std.specs.Prelude.{ℕ, ◌-◌, ◌==◌, List, [], ◌∷◌, ◌++◌, length, find, replicate, Option, Some, None}
use Rattle.std.specs.Int.{div_ceil}
use Rattle.std.specs.List.{flat_map, range_with_len}
use Rattle.pg_digest.specs.Kinds.{Hash}
use Rattle.pg_digest.specs.declared.kinds.HashKind.TheVariants.{Sha256}
use Rattle.cs_directory.specs.HashPages.{bits_of, bytes_of}
use Rattle.cs_directory.specs.declared.hash_page.HashPage.{HashPage}
use Rattle.cs_verify.specs.Pages.{hash_page}
use Rattle.cs_sign.specs.declared.fields.Field.{Field}
use Rattle.cs_sign.specs.declared.fields.Field.TheVariants.{Byte, Word, Long}
use Rattle.cs_sign.specs.declared.plan.Plan.{Plan}
use Rattle.cs_sign.specs.Blobs.{Part, field_bytes}
use Rattle.cs_sign.specs.Requests.{Request, special_slots, code_slots, hash_offset, directory_length}

-- the header of 88 bytes, field by field
abbrev pub header : Request → Plan → List Field
header request plan =
    Word 0xfade0c02  -- the magic of a code directory
    ∷ Word (directory_length request plan.limit)  -- how many bytes it has
    ∷ Word 0x20400  -- the version of the layout
    ∷ Word 2  -- the flags: ADHOC
    ∷ Word (hash_offset request)  -- where code slot 0 begins
    ∷ Word 88  -- where the identifier begins
    ∷ Word (special_slots request)  -- how many special slots there are
    ∷ Word (code_slots request plan.limit)  -- how many code slots there are
    ∷ Word plan.limit  -- how many bytes are signed
    ∷ Byte 32  -- how many bytes a slot has
    ∷ Byte 2  -- the hash type: SHA-256
    ∷ Byte 0  -- the platform
    ∷ Byte (bits_of request.page)  -- the size of a hash page, as its base-2 logarithm
    ∷ Word 0  -- spare2
    ∷ Word 0  -- where the scatter vector begins: there is none
    ∷ Word 0  -- where the team identifier begins: there is none
    ∷ Word 0  -- spare3
    ∷ Long 0  -- how many bytes are signed, in 64 bits: the field of 32 bits tells it
    ∷ Long plan.exec.base  -- where the segment of the program's code begins
    ∷ Long plan.exec.limit  -- how many bytes it has
    ∷ Long plan.exec.flags  -- 1 for a program
    ∷ []

-- the blob of a type
abbrev pub part_of : List Part → ℕ → Option Part
part_of parts slot = find (λ part. part.slot == slot) parts

-- the SHA-256 digest of a blob, or 32 zeros where there is none
abbrev blob_hash : Hash → Option Part → List ℕ
blob_hash hash None = replicate 32 0
blob_hash hash (Some part) = hash Sha256 part.bytes

-- the special slot of a type
abbrev pub special_hash : Hash → List Part → ℕ → List ℕ
special_hash hash parts slot = blob_hash hash (part_of parts slot)

-- the special slots as they stand before the code slots: the last one first
abbrev pub special_hashes : Hash → List Part → ℕ → List ℕ
special_hashes hash parts slots =
    flat_map (λ later. special_hash hash parts (slots - later)) (range_with_len 0 slots)

-- the code slots: the SHA-256 digest of each hash page
abbrev pub code_hashes : Hash → HashPage → List ℕ → List ℕ
code_hashes hash page body =
    flat_map (λ number. hash Sha256 (hash_page (bytes_of page) body number)) (range_with_len 0 (div_ceil (length body) (bytes_of page)))

-- the directory of a body, with these blobs beside it: the header, the identifier with a zero byte, the special slots
-- and the code slots
unfoldable pub directory : Hash → Request → Plan → List Part → List ℕ → List ℕ
directory hash request plan parts body =
    flat_map field_bytes (header request plan)
    ++ (request.ident ++ (0 ∷ (special_hashes hash parts (special_slots request) ++ code_hashes hash request.page body)))
