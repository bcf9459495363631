-- The layout of a code directory: which field stands where. Each number has its greatest byte first, and
-- each place counts from the directory's first byte.
-- Source: `CS_CodeDirectory` in XNU's `cs_blobs.h`; Apple TN3126.
use Rattle.std.specs.Prelude.{ℕ, List, slice_index, take, unwrap_or, not, ◌&&◌, nat_lt, nat_le, ◌==◌, if◌then◌else◌}
use Rattle.pg_bytes.specs.Fields.{be32_at, be64_at}
use Rattle.pg_digest.specs.declared.kinds.HashKind.{HashKind}
use Rattle.pg_digest.specs.declared.kinds.HashKind.TheVariants.{Sha1}
use Rattle.pg_digest.specs.Kinds.{kind_numbered}
use Rattle.cs_directory.specs.declared.hash_page.HashPage.{HashPage}
use Rattle.cs_directory.specs.declared.hash_page.HashPage.TheVariants.{Small}
use Rattle.cs_directory.specs.HashPages.{page_numbered}

-- the number by which a code directory is told from other blobs
abbrev pub magic : List ℕ → ℕ
magic bytes = be32_at bytes 0

-- how many bytes the directory has: its header and all that lies behind it
abbrev pub length_field : List ℕ → ℕ
length_field bytes = be32_at bytes 4

-- the version of the layout, which decides the fields of the header
abbrev pub version : List ℕ → ℕ
version bytes = be32_at bytes 8

-- the flags with which a process that runs the file begins
abbrev pub flags_field : List ℕ → ℕ
flags_field bytes = be32_at bytes 12

-- where code slot 0 begins and special slot 1 ends
abbrev pub hash_offset : List ℕ → ℕ
hash_offset bytes = be32_at bytes 16

-- where the identifier begins
abbrev pub ident_offset : List ℕ → ℕ
ident_offset bytes = be32_at bytes 20

-- how many special slots there are
abbrev pub special_slots : List ℕ → ℕ
special_slots bytes = be32_at bytes 24

-- how many code slots there are
abbrev pub code_slots : List ℕ → ℕ
code_slots bytes = be32_at bytes 28

-- how many bytes of the file are signed, in 32 bits
abbrev pub code_limit : List ℕ → ℕ
code_limit bytes = be32_at bytes 32

-- how many bytes a slot has
abbrev pub hash_size : List ℕ → ℕ
hash_size bytes = slice_index bytes 36

-- the number of the hash type
abbrev pub hash_type : List ℕ → ℕ
hash_type bytes = slice_index bytes 37

-- the base-2 logarithm of the size of a hash page
abbrev pub page_bits : List ℕ → ℕ
page_bits bytes = slice_index bytes 39

-- where the scatter vector begins, or 0; from version 0x20100 on
abbrev pub scatter_offset : List ℕ → ℕ
scatter_offset bytes = be32_at bytes 44

-- where the team identifier begins, or 0; from version 0x20200 on
abbrev pub team_offset : List ℕ → ℕ
team_offset bytes = be32_at bytes 48

-- how many bytes of the file are signed, in 64 bits, or 0; from version 0x20300 on
abbrev pub code_limit_64 : List ℕ → ℕ
code_limit_64 bytes = be64_at bytes 56

-- how many bytes the header of a version has
unfoldable pub header_length : ℕ → ℕ
header_length version =
    if nat_lt version 0x20100 then 44 else
    (if nat_lt version 0x20200 then 48 else
    (if nat_lt version 0x20300 then 52 else
    (if nat_lt version 0x20400 then 64 else
    (if nat_lt version 0x20500 then 88 else 96))))

-- The hash type of the slots and of the cdhash. A number that is no hash type is read as SHA-1 here, and the
-- rules refuse it.
abbrev pub kind : List ℕ → HashKind
kind bytes = unwrap_or (kind_numbered (hash_type bytes)) Sha1

-- The size of a hash page. A logarithm that no accepted size has is read as that of 4,096 bytes here, and the rules
-- refuse it.
abbrev pub page : List ℕ → HashPage
page bytes = unwrap_or (page_numbered (page_bits bytes)) Small

-- How many bytes of the file are signed: the 64-bit field, where the version has it and it is not 0, and else
-- the 32-bit field.
unfoldable pub limit : List ℕ → ℕ
limit bytes =
    if nat_le 0x20300 (version bytes) && not (code_limit_64 bytes == 0) then code_limit_64 bytes else code_limit bytes

-- the bytes of the directory itself: what stands behind its length is no part of it
abbrev pub blob_bytes : List ℕ → List ℕ
blob_bytes bytes = take (length_field bytes) bytes
