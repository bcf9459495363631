-- Where a record is searched for and not found.
use Rattle.std.specs.Prelude.{ℕ, ◌≡◌, ◌≤◌, true, false, List, length, None}
use Rattle.std.specs.List.{AllWithin}
use Rattle.cs_policy.specs.declared.region.Record.{Record}
use Rattle.pg_regions.specs.Lookups.{comes_before, record_of}

-- no record is of the region and page, and those that come before it stand before this place
pub record IsGap (records : List Record) (page id place : ℕ) : Type 0 where
  pub within : place ≤ length records
  pub before : AllWithin (λ r. comes_before r.page r.region page id ≡ true) records 0 place
  pub behind : AllWithin (λ r. comes_before r.page r.region page id ≡ false) records place (length records)
  pub absent : record_of records id page ≡ None
