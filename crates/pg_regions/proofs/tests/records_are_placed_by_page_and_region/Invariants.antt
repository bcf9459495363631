use Rattle.std.proofs.Common.{◌≤◌, length}
use Rattle.pg_regions.proofs.tests.records_are_placed_by_page_and_region.Given as goal

abbrev pub ghosts-place_of_three : goal.ghosts-place_of_three
ghosts-place_of_three g a = record { name = a.blank.name; parts = a.blank.parts }
