use Rattle.std.proofs.Common.{refl, ap, ◌∙◌}
use Rattle.scene_text.specs.declared.head.Head.TheVariants as head
use Rattle.scene_open.specs.Layouts.{macho_layout}
use Rattle.scene_open.proofs.ReadFacts.{read_ends, takes_macho, adds_cause}
use Rattle.scene_open.proofs.draft.Draft.take_macho.Goals as goal

pub returns-in-Err-clause-takes : goal.returns-in-Err-clause-takes
returns-in-Err-clause-takes g c =
    read_ends c.args.heads.now c.args.number (head.File c.args.path.now) c.args.path.now 67108865 c.args.self.now c.args.self.now _ _ c.in-Err.status refl c.in-Err.ensures.gives

pub returns-in-Ok-macho_layout-clause-takes : goal.returns-in-Ok-macho_layout-clause-takes
returns-in-Ok-macho_layout-clause-takes g c =
    takes_macho c.args.heads.now c.args.number c.args.path.now c.args.self.now c.add_file.new.self _ _ c.in-Ok.bytes.items c.in-Ok-macho_layout.layout c.add_file.result
    (c.in-Ok-macho_layout.ensures ∙ ap macho_layout c.deref.ensures.value) c.in-Ok.ensures.gives c.add_file.ensures

pub returns-in-Ok-macho_layout-clause-cause : goal.returns-in-Ok-macho_layout-clause-cause
returns-in-Ok-macho_layout-clause-cause g c =
    adds_cause c.args.heads.now c.args.self.now c.add_file.new.self c.in-Ok.bytes.items c.in-Ok-macho_layout.layout c.add_file.result _ _ c.in-Ok.ensures.cause c.add_file.ensures
