use Rattle.pg_regions.proofs.records.search.Given as goal

abbrev pub ghosts-halve_over : goal.ghosts-halve_over
ghosts-halve_over a = record { name = a.blank.name; parts = a.blank.parts }
