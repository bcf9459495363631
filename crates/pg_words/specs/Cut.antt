-- The lines behind a line.
use Rattle.std.specs.Prelude.{ℕ, List, [], Option, Some, None}
use Rattle.std.specs.Borrow.{Bor}
use Rattle.pg_words.specs.Lines.{lines_of}

-- those of the text behind it, if there is one
abbrev pub lines_behind : Option (Bor (List ℕ)) → List (List ℕ)
lines_behind None = []
lines_behind (Some rest) = lines_of rest.now
