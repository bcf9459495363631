use Rattle.std.proofs.Common.{sym, ap, ◌∙◌, arith}
use Rattle.cs_trust.specs.Listed.{place_of}
use Rattle.pg_trusted.proofs.ListedFacts.{place_of_empty, listed_behind}
use Rattle.pg_trusted.proofs.trusted.look_loaded.Goals as goal
use Rattle.pg_trusted.proofs.trusted.look_loaded.Goals.{in-Some+in_default-look, in_default}

pub loop-number-preserved : goal.loop-number-preserved
loop-number-preserved c =
    elim c.match-module_of.branch [
      | in-Some+in_default-look w ↦
          listed_behind c.args.caches.now c.args.loaded.now c.args.cdhash.now c.loop-number.number (omega arith)
          (ap (λ entries. place_of entries c.args.cdhash.now) (sym w.in-Some.ensures) ∙ (sym w.look.ensures ∙ w.in_default-look.is))
          ∙ c.loop-number.invariant
      | in_default w ↦
          listed_behind c.args.caches.now c.args.loaded.now c.args.cdhash.now c.loop-number.number (omega arith)
          (place_of_empty _ c.args.cdhash.now w.in_default.ensures)
          ∙ c.loop-number.invariant
    ]
