use Rattle.std.proofs.lemmas.Str.{IsUtf8-from_ascii}
use Rattle.pg_words.proofs.WordFacts.{ok_from_cases}
use Rattle.scene_open.proofs.reading.text_of.Goals as goal

pub unwrap-requires : goal.unwrap-requires
unwrap-requires c = ok_from_cases c.from_utf8.result _ _ _ c.from_utf8.ensures.cases (IsUtf8-from_ascii c.args.path.now c.requires)
