use Rattle.cs_trust.proofs.trust_module.Module.look.Given as goal

abbrev pub ghosts-look_over : goal.ghosts-look_over
ghosts-look_over a = record { name = a.blank.name; parts = a.blank.parts }
