-- How a refusal is printed.
use Rattle.std.specs.Prelude.{ℕ, List, ◌++◌, codes, ◌==◌, if◌then◌else◌}
use Rattle.std.specs.Fmt.{decimal}
use Rattle.cs_policy.specs.declared.refusal.Refusal.{Refusal}

-- the name of a family of refusals, or `unknown` for a number that no family has
unfoldable pub family_name : ℕ → List ℕ
family_name family =
    if family == 1 then codes "fat" else
    (if family == 2 then codes "mach" else
    (if family == 3 then codes "super" else
    (if family == 4 then codes "dir" else
    (if family == 5 then codes "blob" else
    (if family == 6 then codes "trust" else codes "unknown")))))

-- a refusal: its family's name, its number and its two arguments, with points between them
abbrev pub refusal_text : Refusal → List ℕ
refusal_text refusal =
    family_name refusal.family ++ (codes "." ++ (decimal refusal.number
    ++ (codes "." ++ (decimal refusal.a ++ (codes "." ++ decimal refusal.b)))))
