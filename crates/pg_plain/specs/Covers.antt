-- Which pages of a file an attached signature covers, and when a page's bytes hash to its slots.
--
-- A signature of a slice at the offset `o` of the file, with the limit L, covers the pages from o / M on that L bytes
-- reach, where M is the size of a page. A page that begins at the byte `a` of the slice has the slots from a / h on, one
-- for each of its hash pages of h bytes. That M divides `o` and h divides M is asked of each signature that is attached
-- (`Fits`).
use Rattle.std.specs.Prelude.{◌<◌, ◌%◌, ◌≡◌, ℕ, ◌+◌, ◌-◌, ◌*◌, ◌/◌, ◌&&◌, nat_le, nat_lt, max, min, IsTrue, Bool, List, map, find, Option}
use Rattle.std.specs.List.{range_with_len, between, All}
use Rattle.pg_digest.specs.Kinds.{Hash}
use Rattle.pg_io.specs.MemPages.{pages_reached}
use Rattle.cs_directory.specs.HashPages.{bytes_of}
use Rattle.cs_directory.specs.Directory.{slot_at}
use Rattle.cs_blob.specs.Signature.{Signature}
use Rattle.pg_plain.specs.PlainFile.{Attached, PlainFile}

-- the first page that a signature covers, and the first behind those that it covers
abbrev pub first_covered : ℕ → Signature → ℕ
first_covered size blob = blob.slice.at / size

abbrev pub end_covered : ℕ → Signature → ℕ
end_covered size blob = first_covered size blob + pages_reached size blob.best.limit

abbrev pub covers : ℕ → Signature → ℕ → Bool
covers size blob page = nat_le (first_covered size blob) page && nat_lt page (end_covered size blob)

-- two signatures cover a page that is the same
abbrev pub share_a_page : ℕ → Signature → Signature → Bool
share_a_page size one other =
    nat_lt (max (first_covered size one) (first_covered size other)) (min (end_covered size one) (end_covered size other))

-- the attached signature that covers a page, if one does
abbrev pub covering : PlainFile → ℕ → Option Attached
covering file page = find (λ attached. covers file.page_size attached.signature page) file.blobs

-- ---- the slots of a page

-- how many bytes a hash page has
abbrev pub hash_page : Signature → ℕ
hash_page blob = bytes_of blob.best.page

-- the byte of the slice at which a page begins
abbrev pub begins : ℕ → Signature → ℕ → ℕ
begins size blob page = page * size - blob.slice.at

-- the whole page lies below the limit, and each of its hash pages has a slot
abbrev pub is_below_limit : ℕ → Signature → ℕ → Bool
is_below_limit size blob page =
    nat_le (begins size blob page + size) blob.best.limit
    && nat_le ((begins size blob page + size) / hash_page blob) blob.best.code_slots

-- a hash page of a page: the number of its slot, the digest that the slot wants, and the bytes to be hashed
pub record Part : Type 0 where
  pub slot : ℕ
  pub wanted : List ℕ
  pub bytes : List ℕ

-- the k-th hash page of a page with these bytes
abbrev pub part : ℕ → Signature → ℕ → List ℕ → ℕ → Part
part size blob page bytes k = record {
  slot = begins size blob page / hash_page blob + k;
  wanted = slot_at blob.best_bytes (begins size blob page / hash_page blob + k);
  bytes = between (k * hash_page blob) ((k + 1) * hash_page blob) bytes;
}

-- the hash pages of a page with these bytes, in their order
abbrev pub parts : ℕ → Signature → ℕ → List ℕ → List Part
parts size blob page bytes = map (part size blob page bytes) (range_with_len 0 (size / hash_page blob))

-- the slice begins with a page, and a page is a whole number of hash pages
pub record Fits (size : ℕ) (blob : Signature) : Type 0 where
  pub aligned : blob.slice.at % size ≡ 0
  pub divided : size % hash_page blob ≡ 0
  pub within : 0 < size / hash_page blob

-- the bytes hash to what the slot wants
abbrev pub Matches : Hash → Signature → Part → Type 0
Matches hash blob p = hash blob.best.kind p.bytes ≡ p.wanted

-- A signature covers a page, all of the page lies below the limit and has slots, and each of its hash pages hashes to its
-- slot.
pub record Sealed (hash : Hash) (size : ℕ) (blob : Signature) (page : ℕ) (bytes : List ℕ) : Type 0 where
  pub covered : IsTrue (covers size blob page)
  pub below : IsTrue (is_below_limit size blob page)
  pub matches : All (Matches hash blob) (parts size blob page bytes)
