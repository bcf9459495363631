use Rattle.std.proofs.Common.{◌≡◌, ◌-◌, ◌∙◌, ◌<◌, length, take, List, None, ap, sym, subst, arith}
use Rattle.std.specs.Prelude.{IfSome}
use Rattle.std.proofs.lemmas.List.{length-take}
use Rattle.pg_cache.specs.Held.{Held, find_held, without}
use Rattle.pg_cache.specs.Store.{Stored, Fronts}
use Rattle.pg_cache.proofs.HeldFacts.{absent-take}
use Rattle.pg_cache.proofs.StoreFacts.{take_short}
use Rattle.pg_cache.proofs.store.Store.enter.Goals.{in-Some, in_default}
use Rattle.pg_cache.proofs.store.Store.enter.Goals as goal

middle : (c : goal.After-push_spare-arg-1) → c.match-leaver.self ≡ record c.args.self.now { held = take (c.args.self.now.limit - 1) c.args.self.now.held }
middle c = elim c.match-leaver.branch [
  | in-Some w ↦
      let others = subst (λ o. IfSome o (λ page. without c.args.self.now.held page ≡ take (c.args.self.now.limit - 1) c.args.self.now.held)) w.in-Some.is c.victim-leaver.ensures.others in
      w.self-is ∙ w.remove.ensures ∙ ap (λ (l : List Held). record c.args.self.now { held = l }) others
  | in_default w ↦
      let short = take_short c.args.self.now.held (c.args.self.now.limit - 1) (sym w.in_default.is ∙ c.victim-leaver.ensures.victim) in
      w.self-is ∙ ap (λ (l : List Held). record c.args.self.now { held = l }) (sym short)
]

pub push_spare-requires-clause-absent : goal.push_spare-requires-clause-absent
push_spare-requires-clause-absent c =
    subst (λ (s : Stored). find_held s.held s.spare.page ≡ None) (sym (middle c)) (absent-take c.args.self.now.held (c.args.self.now.limit - 1) c.args.self.now.spare.page c.requires.absent)

pub push_spare-requires-clause-room : goal.push_spare-requires-clause-room
push_spare-requires-clause-room c =
    subst (λ (s : Stored). length s.held < s.limit) (sym (middle c)) (omega (arith, length-take (c.args.self.now.limit - 1) c.args.self.now.held, c.requires.some))

pub returns-clause-enters : goal.returns-clause-enters
returns-clause-enters c =
    let fronts = subst (λ (s : Stored). Fronts s s.held c.push_spare.new.self) (middle c.before) c.push_spare.ensures in
    record { held = fronts.held; limit = fronts.limit; pages = fronts.pages; page_size = fronts.page_size; spare = fronts.spare }
