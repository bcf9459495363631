use Rattle.pg_digest.specs.Digests.{sha_hash}
use Rattle.pg_digest.specs.DigestLaws.{length-sha_hash}
use Rattle.cs_sign.proofs.SliceFacts.{is-listed}
use Rattle.cs_sign.proofs.laws.signed_files_are_listed.Goals as goal

pub returns : goal.returns
returns c = λ bytes request signed verified short. is-listed sha_hash length-sha_hash bytes request signed verified short
