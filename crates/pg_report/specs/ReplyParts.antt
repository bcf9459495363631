-- A list of files as it is printed, one name behind another.
use Rattle.std.specs.Prelude.{ℕ, Bool, true, false, List, [], ◌∷◌, ◌++◌, codes}
use Rattle.pg_report.specs.Forms.{files_text}

-- what stands before a name in a list
abbrev pub comma_unless : Bool → List ℕ
comma_unless true = []
comma_unless false = codes ","

-- names that follow others
abbrev pub behind_names : List (List ℕ) → List ℕ
behind_names [] = []
behind_names (name ∷ names) = codes "," ++ (name ++ behind_names names)

-- what a list goes on with, where no name was written yet or some were
abbrev pub listed : Bool → List (List ℕ) → List ℕ
listed true names = files_text names
listed false names = behind_names names
