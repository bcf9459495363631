use Rattle.pg_digest.specs.Digests.{sha_hash}
use Rattle.pg_digest.specs.DigestLaws.{length-sha_hash}
use Rattle.cs_sign.proofs.SliceFacts.{lists-slices}
use Rattle.cs_sign.proofs.laws.caches_list_slices.Goals as goal

pub returns : goal.returns
returns c = λ found made few is. lists-slices sha_hash length-sha_hash found made few is
