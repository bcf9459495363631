-- The digests of a message by the Secure Hash Standard, FIPS 180-4.
use Rattle.std.specs.Prelude.{ℕ, List, take}
use Rattle.pg_digest.specs.declared.kinds.HashKind.{HashKind}
use Rattle.pg_digest.specs.declared.kinds.HashKind.TheVariants.{Sha1, Sha256, Sha256Short, Sha384}
use Rattle.sha1.specs.Sha1.{sha1}
use Rattle.sha2.specs.Sha256.{sha256}
use Rattle.sha2.specs.Sha512.{sha384}

-- the digest of a message under a hash type
unfoldable pub sha_hash : HashKind → List ℕ → List ℕ
sha_hash Sha1 message = sha1 message
sha_hash Sha256 message = sha256 message
sha_hash Sha256Short message = take 20 (sha256 message)
sha_hash Sha384 message = sha384 message
