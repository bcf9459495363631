use Rattle.scene_threads.proofs.running.run_opened.Given as goal

-- the run that was just opened
abbrev pub ghosts-run_named : goal.ghosts-run_named
ghosts-run_named g a = record { plan = a.ready }
