use Rattle.std.proofs.Common.{ℕ, ◌+◌, Bool, sym, subst, ◌∙◌}
use Rattle.std.specs.Prelude.{◌==◌, filter}
use Rattle.std.specs.List.{range_with_len}
use Rattle.std.specs.Int.{bit_at}
use Rattle.pg_calls.specs.Exits.{Drops}
use Rattle.pg_calls.proofs.ExitFacts.{drops-one, drops-room, set-more, unset-more}
use Rattle.pg_calls.proofs.ending.drop_regions.Goals.{then-has_file+in-File+in-Read-1, then-has_file+in-File+in-NoSlices-1, then-has_file+in-Proc-1, else-has_file}
use Rattle.pg_calls.proofs.ending.drop_regions.Goals as goal

abbrev has : ℕ → ℕ → Bool
has files n = bit_at files n == 1

pub ask_file-requires-clause-room : goal.ask_file-requires-clause-room
ask_file-requires-clause-room g c =
    drops-room c.args.who c.args.pid c.loop-number.number (has c.args.files) (g.T.Parts.shows c.args.parts.now) _ c.loop-number.invariant.0
    (sym c.has_file.ensures ∙ c.if-has_file.true) c.requires.room

pub loop-number-preserved : goal.loop-number-preserved
loop-number-preserved g c = elim c.if-has_file.branch [
  | then-has_file+in-File+in-Read-1 w ↦ (
    subst (λ p. Drops c.args.who c.args.pid (filter (has c.args.files) (range_with_len 0 (c.loop-number.number + 1))) (g.T.Parts.shows c.args.parts.now) (g.T.Parts.shows p)) (sym w.parts-is)
        (subst (λ ns. Drops c.args.who c.args.pid ns (g.T.Parts.shows c.args.parts.now) (g.T.Parts.shows w.ask_file.new.parts)) (sym (set-more (has c.args.files) c.loop-number.number (sym c.has_file.ensures ∙ w.if-has_file.true)))
        (drops-one c.args.who c.args.pid c.loop-number.number _ _ _ _ _ c.loop-number.invariant.0 w.ask_file.ensures.asks)),
    subst (λ p. g.T.Parts.serves p c.args.who.worker) (sym w.parts-is) w.ask_file.ensures.serves,
  )
  | then-has_file+in-File+in-NoSlices-1 w ↦ (
    subst (λ p. Drops c.args.who c.args.pid (filter (has c.args.files) (range_with_len 0 (c.loop-number.number + 1))) (g.T.Parts.shows c.args.parts.now) (g.T.Parts.shows p)) (sym w.parts-is)
        (subst (λ ns. Drops c.args.who c.args.pid ns (g.T.Parts.shows c.args.parts.now) (g.T.Parts.shows w.ask_file.new.parts)) (sym (set-more (has c.args.files) c.loop-number.number (sym c.has_file.ensures ∙ w.if-has_file.true)))
        (drops-one c.args.who c.args.pid c.loop-number.number _ _ _ _ _ c.loop-number.invariant.0 w.ask_file.ensures.asks)),
    subst (λ p. g.T.Parts.serves p c.args.who.worker) (sym w.parts-is) w.ask_file.ensures.serves,
  )
  | then-has_file+in-Proc-1 w ↦ (
    subst (λ p. Drops c.args.who c.args.pid (filter (has c.args.files) (range_with_len 0 (c.loop-number.number + 1))) (g.T.Parts.shows c.args.parts.now) (g.T.Parts.shows p)) (sym w.parts-is)
        (subst (λ ns. Drops c.args.who c.args.pid ns (g.T.Parts.shows c.args.parts.now) (g.T.Parts.shows w.ask_file.new.parts)) (sym (set-more (has c.args.files) c.loop-number.number (sym c.has_file.ensures ∙ w.if-has_file.true)))
        (drops-one c.args.who c.args.pid c.loop-number.number _ _ _ _ _ c.loop-number.invariant.0 w.ask_file.ensures.asks)),
    subst (λ p. g.T.Parts.serves p c.args.who.worker) (sym w.parts-is) w.ask_file.ensures.serves,
  )
  | else-has_file w ↦ (
    subst (λ p. Drops c.args.who c.args.pid (filter (has c.args.files) (range_with_len 0 (c.loop-number.number + 1))) (g.T.Parts.shows c.args.parts.now) (g.T.Parts.shows p)) (sym w.parts-is)
        (subst (λ ns. Drops c.args.who c.args.pid ns (g.T.Parts.shows c.args.parts.now) (g.T.Parts.shows c.loop-number.parts)) (sym (unset-more (has c.args.files) c.loop-number.number (sym c.has_file.ensures ∙ w.if-has_file.false)))
        c.loop-number.invariant.0),
    subst (λ p. g.T.Parts.serves p c.args.who.worker) (sym w.parts-is) c.loop-number.invariant.1,
  )
]
