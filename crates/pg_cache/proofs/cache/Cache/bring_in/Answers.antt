use Rattle.std.proofs.Common.{◌∙◌, ap, sym}
use Rattle.std.specs.Prelude.{option_map}
use Rattle.pg_cache.specs.Held.{Held}
use Rattle.pg_cache.proofs.StepFacts.{brings_absent}
use Rattle.pg_cache.proofs.cache.Cache.bring_in.Goals as goal

pub returns-clause-steps : goal.returns-clause-steps
returns-clause-steps g c =
    let absent = sym c.to_front.ensures.resident ∙ c.if-to_front.false in
    brings_absent c.args.self.now c.to_front.new.self c.fill.new.self c.enter.new.self c.args.page _ absent c.to_front.ensures.fronts c.in_ok-fill.ensures.fills (record {
      saved = c.save_victim.new.self;
      saves = c.in_ok-save_victim.ensures.saves;
      enters = c.enter.ensures.enters;
      leaver = c.enter.ensures.leaver ∙ ap (option_map (λ (held : Held). held.page)) c.save_victim.ensures.victim;
      fault = tt;
    })
