-- What the program's own record of words stands for.
use Rattle.std.specs.Prelude.{option_map}
use Rattle.cs_sign.specs.declared.words.Signing.{Signing}
use Rattle.cs_sign.specs.Words.{SignWords}

abbrev pub words_in : Signing → SignWords
words_in words = record {
  path = words.path.now;
  ident = words.ident.now;
  page = words.page;
  entitlements = option_map (λ e. e.now) words.entitlements;
}
