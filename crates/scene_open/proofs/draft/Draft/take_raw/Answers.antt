use Rattle.std.proofs.Common.{List, ℕ, refl, ap, ◌∙◌}
use Rattle.scene_text.specs.declared.head.Head.TheVariants as head
use Rattle.scene_open.specs.Layouts.{raw_layout}
use Rattle.scene_open.proofs.ReadFacts.{read_ends, takes_raw, adds_cause}
use Rattle.scene_open.proofs.draft.Draft.take_raw.Goals as goal

pub returns-in-Err-clause-takes : goal.returns-in-Err-clause-takes
returns-in-Err-clause-takes g c =
    read_ends c.args.heads.now c.args.number (head.Raw c.args.path.now c.args.sig.at c.args.sig.len) c.args.path.now 67108865 c.args.self.now c.args.self.now _ _ c.in-Err.status refl c.in-Err.ensures.gives

pub returns-in-Ok-raw_layout-clause-takes : goal.returns-in-Ok-raw_layout-clause-takes
returns-in-Ok-raw_layout-clause-takes g c =
    takes_raw c.args.heads.now c.args.number c.args.path.now c.args.sig.at c.args.sig.len c.args.self.now c.add_file.new.self _ _ c.in-Ok.bytes.items c.in-Ok-raw_layout.layout c.add_file.result
    (c.in-Ok-raw_layout.ensures ∙ ap (λ (b : List ℕ). raw_layout b c.args.sig) c.deref.ensures.value) c.in-Ok.ensures.gives c.add_file.ensures

pub returns-in-Ok-raw_layout-clause-cause : goal.returns-in-Ok-raw_layout-clause-cause
returns-in-Ok-raw_layout-clause-cause g c =
    adds_cause c.args.heads.now c.args.self.now c.add_file.new.self c.in-Ok.bytes.items c.in-Ok-raw_layout.layout c.add_file.result _ _ c.in-Ok.ensures.cause c.add_file.ensures
