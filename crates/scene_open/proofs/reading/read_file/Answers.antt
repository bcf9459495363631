use Rattle.std.proofs.Common.{refl, ◌∙◌, arith}
use Rattle.scene_open.proofs.ReadFacts.{reads_ok, reads_none}
use Rattle.scene_open.proofs.reading.read_file.Goals as goal

pub returns-in-Ok-clause-gives : goal.returns-in-Ok-clause-gives
returns-in-Ok-clause-gives g c =
    let name = c.text_of.ensures ∙ c.bytes.ensures in
    reads_ok c.args.path.now c.args.most _ c.in-Ok.bytes _ (λ t is. rw name at (c.in-Ok.ensures.told t is)) (omega (arith, c.in-Ok.bytes.ok.0, c.in-Ok.ensures.most))

pub returns-in-Err-Failed-clause-gives : goal.returns-in-Err-Failed-clause-gives
returns-in-Err-Failed-clause-gives g c =
    let name = c.text_of.ensures ∙ c.bytes.ensures in
    (refl, reads_none c.args.path.now _ _ (λ t is. rw name at (rw c.in-Err-Failed.field-0-is at (c.in-Err-Failed.ensures.told t is))))

pub returns-in-Err-NoMemory-clause-gives : goal.returns-in-Err-NoMemory-clause-gives
returns-in-Err-NoMemory-clause-gives g c = λ t is. rw c.in-Err-NoMemory.field-0-is at (c.in-Err-NoMemory.ensures.told t is)
