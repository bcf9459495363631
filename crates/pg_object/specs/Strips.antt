-- The permission to execute some pages is taken away.
use Rattle.std.specs.Prelude.{ℕ, ◌≡◌, ◌&&◌, nat_le, nat_lt, if◌then◌else◌}
use Rattle.std.specs.Option.{option_map}
use Rattle.pg_regions.specs.Lookups.{record_of}
use Rattle.pg_regions.specs.RegionsNow.{RegionsNow, spare, IsSound}
use Rattle.pg_plain.specs.Given.{unexecuted}

-- Of the pages from one number to another each record is found without that permission, and every other record as it was.
pub record Strips (old : RegionsNow) (first end : ℕ) (new : RegionsNow) : Type 0 where
  pub found : (id page : ℕ) → record_of new.records id page
      ≡ (if nat_le first page && nat_lt page end then option_map unexecuted (record_of old.records id page) else record_of old.records id page)
  pub others : new ≡ record old { records = new.records }
  pub room : spare new ≡ spare old
  pub sound : IsSound new
