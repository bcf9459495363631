-- What the program's ending stands for.
use Rattle.std.specs.Prelude.{ℕ, List}
use Rattle.csverify.specs.declared.ending.Text.{Text}
use Rattle.csverify.specs.declared.ending.Text.TheVariants.{Line, Made}

-- the bytes of the text
abbrev pub text_in : Text → List ℕ
text_in (Line line) = line.now
text_in (Made bytes) = bytes.items
