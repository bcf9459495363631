use Rattle.std.proofs.Common.{◌≡◌, ◌-◌, ◌≤◌, []}
use Rattle.pg_frames.specs.Queues.{from_on, HasOrder}
use Rattle.pg_frames.proofs.links.Links.open.Given as goal

abbrev pub invariant-loop-number : goal.invariant-loop-number
invariant-loop-number l = (l.number ≤ l.count) × (l.links ≡ record { count = l.count; queue = []; free = from_on l.number (l.count - l.number) }) × HasOrder l.links

abbrev pub decreases-loop-number : goal.decreases-loop-number
decreases-loop-number l = l.number
