-- What a run is about: its book, and its parts as they were opened.
use Rattle.std.specs.Prelude.{ℕ, false, [], length}
use Rattle.atomic_table.specs.Seated.{TableId}
use Rattle.cs_policy.specs.declared.entry.Place.{Place}
use Rattle.cs_policy.specs.Entry.{part_number}
use Rattle.pg_parts.specs.Opened.{OpenedNow, numbers_in}

pub record Plan : Type 0 where
  pub book : TableId
  pub start : OpenedNow

-- the number of the part at a place
abbrev pub number_at : Plan → Place → ℕ
number_at plan at = part_number (length (numbers_in plan.start).files) (numbers_in plan.start).processes at

-- the plan of a name that no run picked
abbrev pub no_plan : Plan
no_plan = record {
  book = record { words = 0; slots = 0; views_name = 0; atom = 0; block = 0; offset = 0; slot_names = [] };
  start = record {
    page_size = 4096;
    adhoc = false;
    files = [];
    processes = [];
    trust = record { fixed = []; caches = []; loaded = [] };
    needs = [];
  };
}
