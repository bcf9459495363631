use Rattle.std.proofs.Common.{ℕ, List, ap, sym, subst, arith}
use Rattle.scene_open.specs.Ends.{scene_end, ReadsText, IsCaused}
use Rattle.scene_open.proofs.SceneFacts.{text_told, text_some, one_read, no_read}
use Rattle.scene_open.proofs.scene_file.read_scene.Goals as goal

pub returns-in-Ok-clause-told : goal.returns-in-Ok-clause-told
returns-in-Ok-clause-told g c = λ t is.
    text_told _ c.in-Ok.text.items c.scene_of.result (c.in-Ok.ensures.told t is).0
    (subst (λ (b : List ℕ). ReadsText b c.scene_of.result) c.deref.ensures.value c.scene_of.ensures.reads)

pub returns-in-Ok-clause-some : goal.returns-in-Ok-clause-some
returns-in-Ok-clause-some g c =
    text_some c.in-Ok.text.items c.scene_of.result (omega (arith, c.in-Ok.text.ok.0, c.in-Ok.ensures.most))
    (subst (λ (b : List ℕ). ReadsText b c.scene_of.result) c.deref.ensures.value c.scene_of.ensures.reads)

pub returns-in-Ok-clause-cause : goal.returns-in-Ok-clause-cause
returns-in-Ok-clause-cause g c =
    subst (λ n. IsCaused c.scene_of.result (g.F.Files.faults c.args.files.now) n) (sym c.in-Ok.ensures.sound) (c.scene_of.ensures.cause (g.F.Files.faults c.args.files.now))

pub returns-in-Err-Failed-clause-told : goal.returns-in-Err-Failed-clause-told
returns-in-Err-Failed-clause-told g c = λ t is. ap scene_end (rw c.in-Err-Failed.field-0-is at (c.in-Err-Failed.ensures.told t is)).0

pub returns-in-Err-Failed-clause-reads : goal.returns-in-Err-Failed-clause-reads
returns-in-Err-Failed-clause-reads g c = λ t is. one_read t _ (rw c.in-Err-Failed.field-0-is at (c.in-Err-Failed.ensures.told t is)).1

pub returns-in-Err-NoMemory-clause-reads : goal.returns-in-Err-NoMemory-clause-reads
returns-in-Err-NoMemory-clause-reads g c = λ t is. no_read t _ (rw c.in-Err-NoMemory.field-0-is at (c.in-Err-NoMemory.ensures.told t is))
