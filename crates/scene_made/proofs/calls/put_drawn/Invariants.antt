use Rattle.std.proofs.Common.{◌≡◌, ◌++◌, ◌-◌, map}
use Rattle.scene_made.specs.Made.{call_of, draws}
use Rattle.scene_made.proofs.calls.put_drawn.Given as goal

abbrev pub invariant-loop : goal.invariant-loop
invariant-loop l =
    l.calls.items ++ map (call_of l.file) (draws (1000 - l.counter) l.x)
    ≡ l.fn.calls.items ++ map (call_of l.file) (draws 1000 l.fn.x)
