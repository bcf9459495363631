-- What a page of an object is held against when it is checked, and what the marks of the pages say.
use Rattle.std.specs.Prelude.{ℕ, ◌≡◌, ◌+◌, ◌-◌, ◌/◌, List, map, None, Some, IsTrue, IsSomeAnd, false}
use Rattle.std.specs.List.{concat, range_with_len}
use Rattle.cs_directory.specs.Directory.{slot_at}
use Rattle.cs_blob.specs.Signature.{Signature}
use Rattle.pg_cache.specs.Cache.{resident_page}
use Rattle.pg_pages.specs.Marks.{Seal, seal_of, marks_of}
use Rattle.pg_regions.specs.Lookups.{IsWriter}
use Rattle.pg_plain.specs.Covers.{hash_page, begins, is_below_limit}
use Rattle.pg_object.specs.Object.{ObjectNow, cover_of}

-- the digests that a signature wants of a page: those of the slots of its hash pages, in their order
abbrev pub slots_of : ℕ → Signature → ℕ → List (List ℕ)
slots_of size blob page =
    map (λ k. slot_at blob.best_bytes (begins size blob page / hash_page blob + k)) (range_with_len 0 (size / hash_page blob))

-- how many hash pages the page has up to the one of this slot, with it
abbrev pub hashes_to : ℕ → Signature → ℕ → ℕ → ℕ
hashes_to size blob page slot = slot + 1 - begins size blob page / hash_page blob

-- what the page is held against: the signature's hash type, the size of a hash page, and these digests one after another
abbrev pub seal_for : ℕ → Signature → ℕ → Seal
seal_for size blob page = seal_of blob.best.kind (hash_page blob) (concat (slots_of size blob page))

-- What the marks say is what the attached signatures and the records say.
pub record MarksAgree (now : ObjectNow) : Type 0 where
  -- a page was found sealed by the signature that covers it, and by nothing else, and has all its slots
  pub signed : (page : ℕ) (seal : Seal) → (marks_of now.pages.marks page).validated ≡ Some seal
      → IsSomeAnd (cover_of now page) (λ attached.
      IsTrue (is_below_limit now.pages.cache.pager.page_size attached.signature page)
      × (seal ≡ seal_for now.pages.cache.pager.page_size attached.signature page))
  -- of a page that is not resident nothing says that a writer maps it
  pub unmapped : (page : ℕ) → resident_page now.pages.cache page ≡ None → (marks_of now.pages.marks page).writable ≡ false
  -- nothing is kept of a page that a shared region may write
  pub unwritten : (page id : ℕ) → IsWriter now.regions.regions now.regions.records page id
      → (marks_of now.pages.marks page).validated ≡ None
