use Rattle.pg_shared.proofs.tests.a_run_without_events.Given as goal

-- the run that was just opened
abbrev pub ghosts-told : goal.ghosts-told
ghosts-told g a = record { plan = a.ready }
