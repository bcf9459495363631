-- The hash pages of an image, held against the slots of a code directory.
-- Source: XNU's `cs_blobs.h` and `ubc_subr.c` (cs_validate_hash); Apple TN3126.
use Rattle.std.specs.Prelude.{ℕ, ◌-◌, ◌*◌, List, take, drop, Option, Some, None, min, nat_eq, nat_lt, if◌then◌else◌}
use Rattle.std.specs.List.{range_with_len, filter_map}
use Rattle.std.specs.Int.{div_ceil}
use Rattle.std.specs.Cmp.Lexicographic.{pointwise}
use Rattle.pg_digest.specs.Kinds.{Hash}
use Rattle.cs_directory.specs.Fields.{Fields}
use Rattle.cs_directory.specs.HashPages.{bytes_of}
use Rattle.cs_directory.specs.Directory.{slot_at}
use Rattle.cs_verify.specs.declared.report.BadPage.{BadPage}

-- how many hash pages of a size so many bytes reach
abbrev pub page_count : ℕ → ℕ → ℕ
page_count size limit = div_ceil limit size

-- how many hash pages of its own size a code directory's limit reaches
abbrev pub pages_of : Fields → ℕ
pages_of directory = page_count (bytes_of directory.page) directory.limit

-- how many of them have a slot
abbrev pub slotted_pages : Fields → ℕ
slotted_pages directory = min directory.code_slots (pages_of directory)

-- how many hash pages from one number on, below another, have a slot
abbrev pub slotted_between : Fields → ℕ → ℕ → ℕ
slotted_between directory from to = min directory.code_slots to - min directory.code_slots from

-- the bytes of one hash page of a size of those that are signed: so many, or for the last page those that are left
unfoldable pub hash_page : ℕ → List ℕ → ℕ → List ℕ
hash_page size signed page = take size (drop (page * size) signed)

-- what is wrong with a page whose bytes have one digest and whose slot has another, or nothing where they are equal
abbrev pub mismatch : ℕ → List ℕ → List ℕ → Option BadPage
mismatch page found wanted =
    if pointwise nat_eq found wanted then None
    else Some (record { page = page; found = Some found; wanted = Some wanted })

-- what is wrong with one hash page: it has no slot, or its digest is not that of its slot
unfoldable pub bad_page : Hash → Fields → List ℕ → List ℕ → ℕ → Option BadPage
bad_page hash directory directory_bytes signed page =
    if nat_lt page directory.code_slots
    then mismatch page (hash directory.kind (hash_page (bytes_of directory.page) signed page)) (slot_at directory_bytes page)
    else Some (record { page = page; found = None; wanted = None })

-- of the hash pages from one number on, below another, those with which something is wrong, ascending
unfoldable pub bad_between : Hash → Fields → List ℕ → List ℕ → ℕ → ℕ → List BadPage
bad_between hash directory directory_bytes signed from to =
    filter_map (bad_page hash directory directory_bytes signed) (range_with_len from (to - from))

-- all hash pages below the limit with which something is wrong, ascending
unfoldable pub bad_pages : Hash → Fields → List ℕ → List ℕ → List BadPage
bad_pages hash directory directory_bytes image =
    bad_between hash directory directory_bytes (take directory.limit image) 0 (pages_of directory)
