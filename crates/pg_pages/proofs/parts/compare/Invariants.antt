use Rattle.std.proofs.Common.{◌≡◌, ◌+◌, ◌-◌, ◌<◌, ◌≤◌, ℕ}
use Rattle.pg_bytes.specs.Counts.{Rose}
use Rattle.pg_pages.specs.Pages.{found_at, wanted_at}
use Rattle.pg_pages.proofs.parts.compare.Given as goal

abbrev pub invariant-loop-place : goal.invariant-loop-place
invariant-loop-place g l = record {
  inside : l.place ≤ l.count;
  before : (p : ℕ) → p < l.place → found_at g.D.Digester.hash (record { kind = l.kind; part = l.part; digests = l.wanted }) l.bytes p ≡ wanted_at (record { kind = l.kind; part = l.part; digests = l.wanted }) p;
  first : l.place ≡ 0 → g.D.Digester.calls l.digester ≡ g.D.Digester.calls l.initial.digester;
  counted : 0 < l.place → Rose (g.D.Digester.calls l.initial.digester) (g.D.Digester.calls l.digester);
  once : g.D.Digester.calls l.digester ≤ g.D.Digester.calls l.initial.digester + l.place;
}

abbrev pub decreases-loop-place : goal.decreases-loop-place
decreases-loop-place g l = l.count - l.place
