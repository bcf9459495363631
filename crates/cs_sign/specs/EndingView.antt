-- What the program's own texts stand for.
use Rattle.std.specs.Prelude.{ℕ, List}
use Rattle.cs_sign.specs.declared.ending.Text.{Text}
use Rattle.cs_sign.specs.declared.ending.Text.TheVariants.{Fixed, Item, Made}

-- the bytes of the text
abbrev pub text_in : Text → List ℕ
text_in (Fixed line) = line.now
text_in (Item line) = line.bytes
text_in (Made bytes) = bytes.items
