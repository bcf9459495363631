-- What setting and clearing a flag leaves, and what it does to guardedness.
use Rattle.std.proofs.Common.{◌≡◌, ℕ, ◌-◌, ◌==◌, Bool, true, false, not, ◌&&◌, ◌||◌, refl, ap, ◌∙◌, eq-eqb, arith, bit_and}
use Rattle.std.proofs.lemmas.Nat.{and_mask, and_or_self, and_or_apart, and_assoc}
use Rattle.bitflags.specs.Sets.{known_from}
use Rattle.cs_policy.specs.declared.flags.ProcFlags.{ProcFlags}
use Rattle.cs_policy.specs.ProcFlags.{number_of, valid, hard, kill, enforcement, killed, debugged, is_set, with_flag, without_flag, enforced, guarded}
use Rattle.cs_policy.specs.FlagLaws.{AnyBitsAreFlags}

-- a flag that was set is set
pub is_set-with_same : (f : ProcFlags) (flag : ℕ) → is_set (with_flag f flag) flag ≡ true
is_set-with_same f flag = eq-eqb _ _ (and_or_self flag (number_of f))

-- setting a flag leaves each other one
pub is_set-with_other : (f : ProcFlags) (other flag : ℕ) → bit_and other flag ≡ 0 → is_set (with_flag f other) flag ≡ is_set f flag
is_set-with_other f other flag apart = ap (λ n. n == flag) (and_or_apart flag (number_of f) other apart)

-- clearing a flag leaves each other one
pub is_set-without_other : (f : ProcFlags) (other flag : ℕ) → bit_and (0xffffffff - other) flag ≡ flag → is_set (without_flag f other) flag ≡ is_set f flag
is_set-without_other f other flag apart =
    ap (λ n. n == flag) (and_assoc flag (number_of f) (0xffffffff - other) ∙ ap (bit_and (number_of f)) apart)

-- guardedness goes by four flags
pub guarded-same : (f g : ProcFlags) → is_set f hard ≡ is_set g hard → is_set f kill ≡ is_set g kill → is_set f enforcement ≡ is_set g enforcement → is_set f debugged ≡ is_set g debugged → guarded f ≡ guarded g
guarded-same f g by_hard by_kill by_enforcement by_debugged =
    λ i. (by_hard i || by_kill i || by_enforcement i) && not (by_debugged i)

-- VALID has no part in it
pub guarded-without_valid : (f : ProcFlags) → guarded (without_flag f valid) ≡ guarded f
guarded-without_valid f =
    guarded-same (without_flag f valid) f (is_set-without_other f valid hard refl) (is_set-without_other f valid kill refl)
    (is_set-without_other f valid enforcement refl) (is_set-without_other f valid debugged refl)

pub guarded-with_valid : (f : ProcFlags) → guarded (with_flag f valid) ≡ guarded f
guarded-with_valid f =
    guarded-same (with_flag f valid) f (is_set-with_other f valid hard refl) (is_set-with_other f valid kill refl)
    (is_set-with_other f valid enforcement refl) (is_set-with_other f valid debugged refl)

-- KILLED has no part in it
pub guarded-with_killed : (f : ProcFlags) → guarded (with_flag f killed) ≡ guarded f
guarded-with_killed f =
    guarded-same (with_flag f killed) f (is_set-with_other f killed hard refl) (is_set-with_other f killed kill refl)
    (is_set-with_other f killed enforcement refl) (is_set-with_other f killed debugged refl)

-- a debugged process is not guarded
unless_debugged : (b d : Bool) → d ≡ true → (b && not d) ≡ false
unless_debugged true d e = ap not e
unless_debugged false d e = refl

pub guarded-with_debugged : (f : ProcFlags) → guarded (with_flag f debugged) ≡ false
guarded-with_debugged f =
    unless_debugged (enforced (with_flag f debugged)) (is_set (with_flag f debugged) debugged) (is_set-with_same f debugged)

-- the flags that have a name, and all others
pub any_bits : AnyBitsAreFlags
unfolding known_from
any_bits bits fits = and_mask bits 32 ∙ omega arith
