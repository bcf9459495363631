use Rattle.cs_trust.proofs.tests.run_of_equals.Given as goal

abbrev pub ghosts-find_of_three : goal.ghosts-find_of_three
ghosts-find_of_three g a = record { name = a.blank.name; parts = a.blank.parts }
