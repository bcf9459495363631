-- Laws of flags.
use Rattle.std.specs.Prelude.{ℕ, ◌≡◌, ◌<◌, ◌^◌, false, bit_and}
use Rattle.bitflags.specs.Sets.{known_bits}
use Rattle.cs_policy.specs.declared.flags.ProcFlags.{ProcFlags}
use Rattle.cs_policy.specs.ProcFlags.{flag_table, valid, killed, debugged, with_flag, without_flag, guarded}

-- any 32 bits are flags: `from_bits` refuses none
abbrev pub AnyBitsAreFlags : Type 0
AnyBitsAreFlags = (bits : ℕ) → bits < 2 ^ 32 → bit_and bits (known_bits flag_table) ≡ bits

-- what the flags that change have to do with guardedness: DEBUGGED ends it, and VALID and KILLED have no part in it
pub record FlagsGuard (f : ProcFlags) : Type 0 where
  pub debugged : guarded (with_flag f debugged) ≡ false
  pub valid_set : guarded (with_flag f valid) ≡ guarded f
  pub valid_cleared : guarded (without_flag f valid) ≡ guarded f
  pub killed : guarded (with_flag f killed) ≡ guarded f
