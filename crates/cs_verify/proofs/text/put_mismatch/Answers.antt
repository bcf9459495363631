use Rattle.cs_verify.proofs.text.put_mismatch.Goals as goal

pub returns : goal.returns
returns c = rw (c.in_ok-found.ensures, c.in_ok-wanted.ensures) at c.write.ensures.bytes
