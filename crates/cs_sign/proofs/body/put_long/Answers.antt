use Rattle.cs_sign.specs.Body.{long_bytes}
use Rattle.cs_sign.proofs.BodyFacts.{put_written}
use Rattle.cs_sign.proofs.body.put_long.Goals as goal

pub returns : goal.returns
unfolding long_bytes
returns c = put_written c.args.bytes.now (long_bytes c.args.number) c.write_u64.new.buf c.args.at c.write_u64.ensures
