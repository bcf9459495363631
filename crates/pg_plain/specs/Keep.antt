-- What stays true of a file, whatever happens to it.
use Rattle.std.specs.Prelude.{◌≡◌, ℕ, ◌<◌, ◌≤◌, true, false, length, All, AllPairs, IsSomeAnd}
use Rattle.pg_digest.specs.Kinds.{Hash}
use Rattle.pg_regions.specs.Lookups.{HasPage, HasPrivatePage, is_shared}
use Rattle.pg_plain.specs.PlainFile.{PlainFile, page_of, has_copy, has_record, may_write, may_execute_guarded, is_resident}
use Rattle.pg_plain.specs.Covers.{covering, share_a_page, Fits, Sealed}

-- an attached signature covers the page, and the page's bytes hash to its slots there
abbrev pub IsSealedNow : Hash → PlainFile → ℕ → Type 0
IsSealedNow hash file page =
    IsSomeAnd (covering file page) (λ attached. Sealed hash file.page_size attached.signature page (page_of file page))

pub record Keep (hash : Hash) (file : PlainFile) : Type 0 where
  -- a page that a guarded process may execute is sealed now
  pub is_sealed : (id page : ℕ) → may_execute_guarded file id page ≡ true → IsSealedNow hash file page
  -- no shared region may write it
  pub unshared : (id other page : ℕ) → may_execute_guarded file id page ≡ true → may_write file other page ≡ true
      → is_shared file.regions other ≡ false
  -- and it is no private copy
  pub uncopied : (id page : ℕ) → may_execute_guarded file id page ≡ true → has_copy file id page ≡ false
  -- a region that may write a page and is not shared has a private copy of it
  pub copied : (id page : ℕ) → may_write file id page ≡ true → is_shared file.regions id ≡ false → has_copy file id page ≡ true
  -- private copies are of pages of private regions that stand
  pub private_copies : (id page : ℕ) → has_copy file id page ≡ true → HasPrivatePage file.regions id page
  -- a page of which a region has a record and no private copy is resident
  pub at_hand : (id page : ℕ) → has_record file id page ≡ true → has_copy file id page ≡ false → is_resident file page ≡ true
  -- records are of pages of regions that stand
  pub records_stand : (id page : ℕ) → has_record file id page ≡ true → HasPage file.regions id page
  -- at least one page may be resident, and no more of them are than may be
  pub some : 0 < file.limit
  pub few : length file.residents ≤ file.limit
  -- each attached signature fits the pages, and no page is covered by two
  pub blobs_fit : All (λ attached. Fits file.page_size attached.signature) file.blobs
  pub one_cover : AllPairs (λ one other. share_a_page file.page_size one.signature other.signature ≡ false) file.blobs
