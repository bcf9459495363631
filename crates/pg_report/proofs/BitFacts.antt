-- One more bit.
use Rattle.std.proofs.Common.{ℕ, zero, suc, ◌+◌, ◌-◌, ◌*◌, ◌^◌, ◌<◌, ◌≡◌, ap, arith}
use Rattle.std.proofs.Math.Nat.{pow-suc}

twice : (n : ℕ) → 0 < n → 2 ^ (n - 1) * 2 ≡ 2 ^ n
twice zero some = absurd (omega arith)
twice (suc m) some =
    let less : suc m - 1 ≡ m = omega arith in
    let p : 2 ^ (suc m - 1) ≡ 2 ^ m = ap (λ (k : ℕ). 2 ^ k) less in
    omega (arith, p, pow-suc 2 m)

pub odd_fits : (n b : ℕ) → 0 < n → b < 2 ^ (n - 1) → 1 + 2 * b < 2 ^ n
odd_fits n b some lt = omega (arith, twice n some)

pub even_fits : (n b : ℕ) → 0 < n → b < 2 ^ (n - 1) → 2 * b < 2 ^ n
even_fits n b some lt = omega (arith, twice n some)
