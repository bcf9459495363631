use Rattle.std.proofs.Common.{refl}
use Rattle.scene_text.specs.declared.head.Head.TheVariants as head
use Rattle.scene_open.specs.Drafts.{HasCache}
use Rattle.scene_open.proofs.ReadFacts.{read_ends, takes_cache, more_cause}
use Rattle.scene_open.proofs.draft.Draft.take_cache.Goals as goal

pub returns-in-Err-clause-takes : goal.returns-in-Err-clause-takes
returns-in-Err-clause-takes g c = λ heads.
    read_ends heads c.args.number (head.Cache c.args.path.now) c.args.path.now 1572889 c.args.self.now c.args.self.now _ _ c.in-Err.status refl c.in-Err.ensures.gives

pub returns-in-Ok-loadable-clause-takes : goal.returns-in-Ok-loadable-clause-takes
returns-in-Ok-loadable-clause-takes g c = λ heads.
    takes_cache heads c.args.number c.args.path.now c.args.self.now c.push_cache.new.self _ _ c.in-Ok.bytes.items c.in-Ok-loadable.cache c.push_cache.result
    c.in-Ok.ensures.gives (rw c.deref.ensures.value at c.in-Ok-loadable.ensures) c.push_cache.ensures

pub returns-in-Ok-loadable-clause-cause : goal.returns-in-Ok-loadable-clause-cause
returns-in-Ok-loadable-clause-cause g c =
    more_cause (HasCache c.args.self.now c.in-Ok-loadable.cache c.push_cache.new.self) c.push_cache.result _ _ c.in-Ok.ensures.cause c.push_cache.ensures
