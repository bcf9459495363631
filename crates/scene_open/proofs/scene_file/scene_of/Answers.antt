use Rattle.scene_open.proofs.scene_file.scene_of.Goals as goal

pub returns-in-Ok-hold_counts-clause-grammar : goal.returns-in-Ok-hold_counts-clause-grammar
returns-in-Ok-hold_counts-clause-grammar c = c.in-Ok.ensures.exact.meets
