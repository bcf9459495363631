-- What is true of every object.
use Rattle.std.specs.Prelude.{ℕ, ◌≡◌, ◌+◌, ◌<◌, ◌≤◌, ◌^◌, List, length, Some, All}
use Rattle.pg_digest.specs.Kinds.{Hash}
use Rattle.pg_io.specs.MemPages.{pages_reached}
use Rattle.cs_policy.specs.declared.layout.Layout.{Layout}
use Rattle.cs_policy.specs.declared.layout.Layout.TheVariants as layout
use Rattle.cs_policy.specs.declared.layout.SliceSeat.{SliceSeat}
use Rattle.cs_policy.specs.declared.layout.SliceSeat.TheVariants as seat
use Rattle.cs_policy.specs.declared.region.Region.{Region}
use Rattle.cs_blob.specs.Signed.{IsSignature}
use Rattle.pg_cache.specs.Cache.{IsSound}
use Rattle.pg_cache.specs.Finds.{Finds}
use Rattle.pg_pages.specs.Pages.{IsMarked}
use Rattle.pg_regions.specs.RegionsNow as regions
use Rattle.pg_plain.specs.PlainFile.{Attached}
pub use Rattle.pg_plain.specs.Slices.{slice_range}
use Rattle.pg_plain.specs.Covers.{Fits}
use Rattle.pg_plain.specs.Keep.{Keep}
use Rattle.pg_object.specs.Object.{ObjectNow, seen}
use Rattle.pg_object.specs.Seals.{MarksAgree}

-- a signed slice and its signature lie within so many bytes
abbrev pub IsSeated : ℕ → SliceSeat → Type 0
IsSeated bytes (seat.Refused refusal) = Unit {0}
IsSeated bytes (seat.Signed slice sig) = (slice.at + slice.len ≤ bytes) × (sig.at + sig.len ≤ bytes)

-- the same of each slice of a layout, of which there are fewer than 2 ^ 32
abbrev pub IsLaid : ℕ → Layout → Type 0
IsLaid bytes (layout.Refused refusal) = Unit {0}
IsLaid bytes (layout.Slices seats) = (length seats < 2 ^ 32) × All (IsSeated bytes) seats

-- the region's pages are among so many
abbrev pub IsInside : ℕ → Region → Type 0
IsInside pages region = region.first + region.pages ≤ pages

-- the signature is that which its bytes hold, for its slice and pages of this size
abbrev pub IsSigned : Hash → ℕ → Attached → Type 0
IsSigned hash size attached =
    IsSignature hash attached.signature.bytes attached.signature.slice (Some size) attached.signature

-- What is true of every object: the sealing, for all bytes that the pages may have, and what its parts keep.
pub record IsKept (hash : Hash) (now : ObjectNow) : Type 0 where
  pub keep : (pages : List (List ℕ)) → Finds now.pages.cache pages → Keep hash (seen now pages)
  -- what the types of its parts keep
  pub sound : IsSound now.pages.cache
  pub marked : IsMarked hash now.pages.cache now.pages.marks
  pub regions_sound : regions.IsSound now.regions
  pub page : now.regions.page ≡ now.pages.cache.pager.page_size
  -- what the marks say is what the signatures and the records say
  pub seals : MarksAgree now
  -- the file has just the pages that its bytes reach, and its slices and regions lie within them
  pub reached : now.pages.cache.pager.pages ≡ pages_reached now.pages.cache.pager.page_size now.length
  pub laid : IsLaid now.length now.layout
  pub inside : All (IsInside now.pages.cache.pager.pages) now.regions.regions
  -- each attached signature is one of its slice, on a machine with pages of this size
  pub signatures : All (IsSigned hash now.pages.cache.pager.page_size) now.blobs
  -- its slice begins with a page, and a page is a whole number of its hash pages: none of these is larger than a page
  pub fits : All (λ attached. Fits now.pages.cache.pager.page_size attached.signature) now.blobs
  pub few_blobs : length now.blobs ≤ 64
