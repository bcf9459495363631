use Rattle.pg_words.proofs.WordFacts.{IsAscii-from_digits, read_numeral}
use Rattle.pg_words.proofs.numbers.value.Goals as goal

pub text_of-requires : goal.text_of-requires
text_of-requires c = IsAscii-from_digits c.args.radix c.args.numeral.now c.requires.high c.requires.digits.1

pub returns : goal.returns
returns c =
    let parsed = rw c.text_of.ensures at c.from_str_radix.ensures.value in
    rw c.ok.ensures.value (read_numeral c.args.radix c.args.numeral.now c.from_str_radix.result c.requires.high c.requires.digits parsed)
