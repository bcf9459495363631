-- What a file is to be signed with, and how large its signature is then: a SuperBlob of a code directory, empty
-- requirements, the entitlements where there are some, and an empty CMS signature.
-- Source: XNU's `cs_blobs.h`; which blobs there are is this repository's own form.
use Rattle.std.specs.Prelude.{ℕ, ◌+◌, ◌*◌, ◌≤◌, List, length, Option, Some, None, option_map}
use Rattle.std.specs.Borrow.{Bor}
use Rattle.std.specs.Int.{div_ceil, next_multiple_of}
use Rattle.cs_directory.specs.HashPages.{bytes_of}
use Rattle.cs_directory.specs.declared.hash_page.HashPage as directory
use Rattle.cs_directory.specs.declared.hash_page.HashPage.TheVariants.{Small, Large}
use Rattle.cs_sign.specs.declared.request.HashPage.{HashPage}
use Rattle.cs_sign.specs.declared.request.HashPage.TheVariants.{Four, Sixteen}

-- the size as a code directory tells it
abbrev pub page_of : HashPage → directory.HashPage
page_of Four = Small
page_of Sixteen = Large

-- An identifier, entitlements or none, and the size of hash pages.
pub record Request : Type 0 where
  pub ident : List ℕ
  pub entitlements : Option (List ℕ)
  pub page : directory.HashPage

-- what is asked for, by the arguments of the call
abbrev pub asked : List ℕ → Option (Bor (List ℕ)) → HashPage → Request
asked ident entitlements page = record {
  ident = ident;
  entitlements = option_map (λ e. e.now) entitlements;
  page = page_of page;
}

-- how many bytes the entitlements have
abbrev pub entitled_length : Option (List ℕ) → ℕ
entitled_length None = 0
entitled_length (Some entitlements) = length entitlements

abbrev pub entitlements_length : Request → ℕ
entitlements_length request = entitled_length request.entitlements

-- one number where there are entitlements, and another where there are none
abbrev pub where_entitled : {X : Type 0} → X → X → Option (List ℕ) → X
where_entitled some none None = none
where_entitled some none (Some entitlements) = some

-- how many special slots there are: up to that of the requirements, which is 2, or that of the entitlements, which is 5
abbrev pub special_slots : Request → ℕ
special_slots request = where_entitled 5 2 request.entitlements

-- how many code slots there are, where so many bytes are signed: one for each hash page
abbrev pub code_slots : Request → ℕ → ℕ
code_slots request limit = div_ceil limit (bytes_of request.page)

-- where code slot 0 begins: behind the header of 88 bytes, the identifier with a zero byte, and the special slots of 32
-- bytes each
abbrev pub hash_offset : Request → ℕ
hash_offset request = (88 + (length request.ident + 1)) + 32 * special_slots request

-- how many bytes the code directory has
abbrev pub directory_length : Request → ℕ → ℕ
directory_length request limit = hash_offset request + 32 * code_slots request limit

-- how many bytes the blobs have: the directory, 12 of the requirements, the entitlements behind a header of 8, and 8 of
-- the CMS signature
abbrev pub parts_beside : ℕ → Option (List ℕ) → ℕ
parts_beside directory None = (directory + 12) + 8
parts_beside directory (Some entitlements) = ((directory + 12) + (8 + length entitlements)) + 8

abbrev pub parts_size : Request → ℕ → ℕ
parts_size request limit = parts_beside (directory_length request limit) request.entitlements

-- how many blobs there are
abbrev pub part_count : Request → ℕ
part_count request = where_entitled 4 3 request.entitlements

-- how many bytes the SuperBlob has: a header of 12 bytes, eight bytes for each blob in its table, and the blobs
abbrev pub super_size : Request → ℕ → ℕ
super_size request limit = (12 + 8 * part_count request) + parts_size request limit

-- how many bytes the signature has with the zeros behind it, which make them a multiple of 16
abbrev pub data_size : Request → ℕ → ℕ
data_size request limit = next_multiple_of (super_size request limit) 16

-- The identifier and the entitlements are short enough.
pub record IsModest (request : Request) : Type 0 where
  pub ident : length request.ident ≤ 255
  pub entitlements : entitlements_length request ≤ 65536
