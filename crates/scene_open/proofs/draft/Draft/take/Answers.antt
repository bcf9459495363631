use Rattle.scene_open.proofs.draft.Draft.take.Goals as goal

pub returns-in-Static-clause-takes : goal.returns-in-Static-clause-takes
returns-in-Static-clause-takes g c = rw c.in-Static.is (c.take_static.ensures.takes c.args.heads.now)

pub returns-in-Admit-clause-takes : goal.returns-in-Admit-clause-takes
returns-in-Admit-clause-takes g c = rw c.in-Admit.is (c.take_admitted.ensures.takes c.args.heads.now c.args.number _)

pub returns-in-Admit-clause-cause : goal.returns-in-Admit-clause-cause
returns-in-Admit-clause-cause g c = c.take_admitted.ensures.cause _

pub returns-in-Cache-clause-takes : goal.returns-in-Cache-clause-takes
returns-in-Cache-clause-takes g c = rw c.in-Cache.is (c.take_cache.ensures.takes c.args.heads.now)
