use Rattle.cs_sign.specs.Body.{word_bytes}
use Rattle.cs_sign.proofs.BodyFacts.{put_written}
use Rattle.cs_sign.proofs.body.put_word.Goals as goal

pub returns : goal.returns
unfolding word_bytes
returns c = put_written c.args.bytes.now (word_bytes c.args.number) c.write_u32.new.buf c.args.at c.write_u32.ensures
