-- The flags of a process, numbered as in XNU's `cs_blobs.h` (CS_VALID and its kin), and what they decide.
use Rattle.std.specs.Prelude.{ℕ, ◌-◌, List, [], ◌∷◌, codes, Bool, not, ◌&&◌, ◌||◌, ◌==◌, bit_and, bit_or}
use Rattle.cs_policy.specs.declared.flags.ProcFlags.{ProcFlags}

-- the number whose bits the flags are
abbrev pub number_of : ProcFlags → ℕ
number_of f = f.0

-- the flags of a number
abbrev pub flags_of : ℕ → ProcFlags
flags_of number = record { 0 = number }

abbrev pub valid : ℕ
valid = 0x00000001

abbrev pub hard : ℕ
hard = 0x00000100

abbrev pub kill : ℕ
kill = 0x00000200

abbrev pub enforcement : ℕ
enforcement = 0x00001000

abbrev pub killed : ℕ
killed = 0x01000000

abbrev pub debugged : ℕ
debugged = 0x10000000

-- the flags that have a name, and then all 32 bits under no name
abbrev pub flag_table : List (List ℕ × ℕ)
flag_table =
    (codes "VALID", valid)
    ∷ (codes "HARD", hard)
    ∷ (codes "KILL", kill)
    ∷ (codes "ENFORCEMENT", enforcement)
    ∷ (codes "KILLED", killed)
    ∷ (codes "DEBUGGED", debugged)
    ∷ ([], 0xffffffff)
    ∷ []

-- a flag is set
abbrev pub is_set : ProcFlags → ℕ → Bool
is_set f flag = bit_and (number_of f) flag == flag

-- the flags after a flag was set
abbrev pub with_flag : ProcFlags → ℕ → ProcFlags
with_flag f flag = flags_of (bit_or (number_of f) flag)

-- the flags after a flag was cleared: of 32 bits all others stay
abbrev pub without_flag : ProcFlags → ℕ → ProcFlags
without_flag f flag = flags_of (bit_and (number_of f) (0xffffffff - flag))

-- code signing is enforced: HARD, KILL or ENFORCEMENT is set
abbrev pub enforced : ProcFlags → Bool
enforced f = is_set f hard || is_set f kill || is_set f enforcement

-- code signing is enforced, and DEBUGGED is not set
abbrev pub guarded : ProcFlags → Bool
guarded f = enforced f && not (is_set f debugged)
