use Rattle.cs_trust.proofs.tests.most_entries.Given as goal

abbrev pub ghosts-find_of_many : goal.ghosts-find_of_many
ghosts-find_of_many g a = record { name = a.blank.name; parts = a.blank.parts }
