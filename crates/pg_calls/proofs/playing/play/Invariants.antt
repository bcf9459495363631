use Rattle.pg_calls.proofs.PlayFacts.{Played}
use Rattle.pg_calls.proofs.playing.play.Given as goal

-- the calls before this one were played
abbrev pub invariant-loop-number : goal.invariant-loop-number
invariant-loop-number g l =
    Played g.T.Parts.hash l.worker l.script l.number (g.T.Parts.shows l.fn.parts) (g.T.Parts.shows l.parts)
    × g.T.Parts.serves l.parts l.worker
