use Rattle.std.proofs.Common.{ℕ, List, Err, refl, subst}
use Rattle.scene_text.specs.declared.head.Head.TheVariants as head
use Rattle.scene_open.specs.Drafts.{HasStatic, TriesModule}
use Rattle.scene_open.proofs.ReadFacts.{read_ends, takes_static, refuses_static, more_cause, tries_cause}
use Rattle.scene_open.proofs.draft.Draft.take_static.Goals as goal

pub returns-in-Err-clause-takes : goal.returns-in-Err-clause-takes
returns-in-Err-clause-takes g c = λ heads.
    read_ends heads c.args.number (head.Static c.args.path.now) c.args.path.now 1572889 c.args.self.now c.args.self.now _ _ c.in-Err.status refl c.in-Err.ensures.gives

pub returns-in-Ok-static_module-clause-takes : goal.returns-in-Ok-static_module-clause-takes
returns-in-Ok-static_module-clause-takes g c = λ heads.
    takes_static heads c.args.number c.args.path.now c.args.self.now c.push_static.new.self _ _ c.in-Ok.bytes.items c.in-Ok-static_module.listed c.push_static.result
    c.in-Ok.ensures.gives (rw c.deref.ensures.value at c.in-Ok-static_module.ensures) c.push_static.ensures

pub returns-in-Ok-static_module-clause-cause : goal.returns-in-Ok-static_module-clause-cause
returns-in-Ok-static_module-clause-cause g c =
    more_cause (HasStatic c.args.self.now c.in-Ok-static_module.listed c.push_static.new.self) c.push_static.result _ _ c.in-Ok.ensures.cause c.push_static.ensures

pub returns-clause-takes : goal.returns-clause-takes
returns-clause-takes g c = λ heads.
    refuses_static heads c.args.number c.args.path.now c.args.self.now c.args.self.now _ _ c.in-Ok.bytes.items c.in-Err-static_module.refused c.in-Ok.ensures.gives
    (subst (λ (b : List ℕ). TriesModule b c.args.number (Err c.in-Err-static_module.refused)) c.deref.ensures.value c.in-Err-static_module.ensures)

pub returns-clause-cause : goal.returns-clause-cause
returns-clause-cause g c =
    tries_cause c.deref.result.now c.args.number c.in-Err-static_module.refused _ _ c.in-Ok.ensures.cause c.in-Err-static_module.ensures
