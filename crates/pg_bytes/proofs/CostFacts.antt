-- What a search by halves costs.
use Rattle.std.proofs.Common.{◌≡◌, ℕ, suc, ◌+◌, ◌-◌, ◌*◌, ◌^◌, ◌<◌, ◌≤◌, ap, ◌∙◌, ⊎_elim, arith, pow-suc, mul-le-mul_left, mul_comm, mul_assoc}
use Rattle.std.proofs.lemmas.Bool.{cases_lt}
use Rattle.std.proofs.Math.Nat.{pow-le-pow_right}

-- Of n elements `width` are left after the steps from `before` to `now`.
pub record Costs (before now width n : ℕ) : Type 0 where
  pub later : before ≤ now
  pub halved : 2 ^ (now - before) * width ≤ n
  pub bounded : 2 ^ (now - before) ≤ 2 * n + 1

pub costs_none : (before n : ℕ) → Costs before before n n
costs_none before n =
    let none : before - before ≡ 0 = omega arith in
    record {
      later = omega arith;
      halved = rw none (omega arith);
      bounded = rw none (omega arith);
    }

-- twice as many steps' worth of half of what was left
double : (power width less n : ℕ) → power * width ≤ n → 0 < width → 2 * less ≤ width → (2 * power * less ≤ n) × (2 * power ≤ 2 * n + 1)
double power width less n all some half =
    let least : power * 1 ≤ power * width = mul-le-mul_left power some in
    let halves : power * (2 * less) ≤ power * width = mul-le-mul_left power half in
    let same : 2 * power * less ≡ power * (2 * less) = ap (λ n. n * less) (mul_comm 2 power) ∙ mul_assoc power 2 less in
    (omega arith, omega arith)

pub costs_more : (before now width less n : ℕ) → Costs before now width n → 0 < width → 2 * less ≤ width → Costs before (now + 1) less n
costs_more before now width less n known some half =
    let one_more : (now + 1) - before ≡ suc (now - before) = omega (arith, known.later) in
    let twice : 2 ^ suc (now - before) ≡ 2 * 2 ^ (now - before) = pow-suc 2 (now - before) ∙ mul_comm (2 ^ (now - before)) 2 in
    let after = double (2 ^ (now - before)) width less n known.halved some half in
    record {
      later = omega (arith, known.later);
      halved = rw (one_more, twice) after.0;
      bounded = rw (one_more, twice) after.1;
    }

-- a number of steps, by what two to its power is below
pub few_steps : (most steps bound : ℕ) → 2 ^ steps ≤ bound → bound < 2 ^ (most + 1) → steps ≤ most
few_steps most steps bound within below =
    ⊎_elim (λ more. let above : 2 ^ (most + 1) ≤ 2 ^ steps = pow-le-pow_right (omega arith) (omega arith) in absurd (omega arith)) (λ le. le) (cases_lt most steps)
