-- How many of the modules that were searched have an entry.
use Rattle.std.proofs.Common.{◌≡◌, ℕ, ◌+◌, ◌<◌, ◌≤◌, Bool, true, false, List, length, take, get_or, refl, ap, arith}
use Rattle.std.proofs.lemmas.Bool.Decides.{nat_tests}
use Rattle.std.proofs.lemmas.Grind.{common_steps}
use Rattle.std.proofs.lemmas.List.Sums.{count_by_more_no, count_by_more_yes}
use Rattle.cs_trust.specs.Listed.{Table, is_filled, filled}

-- one module more, by whether it has an entry
more_by_test : (modules : List Table) (i : ℕ) (d : Table) (start before now : ℕ) (test : Bool) → is_filled (get_or modules i d) ≡ test → i < length modules → start + filled (take i modules) ≤ before → before ≤ now → (0 < length (get_or modules i d) → before < now) → start + filled (take (i + 1) modules) ≤ now
more_by_test modules i d start before now true e lt known later counted =
    let some : 0 < length (get_or modules i d) = grind (arith, nat_tests) in
    let rose = counted some in
    let more = count_by_more_yes is_filled modules i d lt e in
    omega (arith, more, rose, known)
more_by_test modules i d start before now false e lt known later counted =
    let same = count_by_more_no is_filled modules i d lt e in
    omega (arith, same, known)

-- a search in one module more
pub filled-more : (modules : List Table) (i : ℕ) (d : Table) (start before now : ℕ) → i < length modules → start + filled (take i modules) ≤ before → before ≤ now → (0 < length (get_or modules i d) → before < now) → start + filled (take (i + 1) modules) ≤ now
filled-more modules i d start before now lt known later counted =
    more_by_test modules i d start before now (is_filled (get_or modules i d)) refl lt known later counted

-- a search in all of them
pub filled-all : (modules : List Table) (i : ℕ) → length modules ≤ i → filled (take i modules) ≡ filled modules
filled-all modules i le =
    let all : take i modules ≡ modules = grind (arith, common_steps) in
    ap filled all
