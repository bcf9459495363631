use Rattle.std.proofs.Common.{◌≡◌, ◌-◌, ◌≤◌, true, false, length}
use Rattle.std.specs.List.{AllWithin}
use Rattle.pg_bytes.proofs.CostFacts.{Costs}
use Rattle.pg_regions.specs.Lookups.{comes_before, is_record}
use Rattle.pg_regions.proofs.records.halve.Given as goal

abbrev pub invariant-loop-low : goal.invariant-loop-low
invariant-loop-low g l = record {
  ordered : l.low ≤ l.high;
  within : l.high ≤ length l.records;
  front : AllWithin (λ r. comes_before r.page r.region l.page l.id ≡ true) l.records 0 l.low;
  rest : AllWithin (λ r. comes_before r.page r.region l.page l.id ≡ false) l.records l.high (length l.records);
  others : AllWithin (λ r. is_record l.id l.page r ≡ false) l.records l.high (length l.records);
  costs : Costs l.initial.steps l.steps (l.high - l.low) (length l.records);
  untried : l.steps ≡ l.initial.steps → length l.records ≤ l.high - l.low;
}

abbrev pub decreases-loop-low : goal.decreases-loop-low
decreases-loop-low g l = l.high - l.low
