-- A list of private copies, and the buffers that it has.
use Rattle.std.specs.Prelude.{ℕ, ◌≡◌, ◌+◌, ◌≤◌, List, All, length, vec_len, vec_capacity}
use Rattle.std.specs.Global.{Vec}
use Rattle.pg_regions.specs.Lookups.{Copy}

-- the copy is a whole page of this size
abbrev pub IsWhole : ℕ → Copy → Type 0
IsWhole page copy = length copy.bytes ≡ page

pub record CopiesNow : Type 0 where
  -- how many bytes a page has
  pub page : ℕ
  -- in the order of their pages and, of one page, of their regions
  pub list : List Copy
  -- how many there can be
  pub room : ℕ

-- There is a buffer of a whole page for each copy that there can be, and room to move each of them from one list to the
-- other.
pub record HasBuffers (page : ℕ) (held free : Vec Copy) : Type 0 where
  pub count : vec_len held + vec_len free ≡ vec_capacity held
  pub free_room : vec_capacity held ≤ vec_capacity free
  pub held_whole : All (IsWhole page) held.items
  pub free_whole : All (IsWhole page) free.items
