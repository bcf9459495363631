-- The lengths of the digests of FIPS 180-4: `ShaDigester` cites the last.
use Rattle.std.proofs.Common.{◌≡◌, ◌*◌, ℕ, zero, suc, List, arith, length, length-append, refl}
use Rattle.std.proofs.lemmas.List.{length-take-le}
use Rattle.std.specs.Int.{w32, to_be_bytes}
use Rattle.std.specs.Prelude.{slice_index}
use Rattle.sha1.specs.Sha1.{digest_bytes, sha1}
use Rattle.sha2.proofs.Facts256.{length-sha256}
use Rattle.sha2.proofs.Facts512.{length-sha384}
use Rattle.sha2.specs.Sha256.{sha256}
use Rattle.pg_digest.specs.Digests.{sha_hash}
use Rattle.pg_digest.specs.Kinds.{size_of}
use Rattle.pg_digest.specs.declared.kinds.HashKind.{HashKind}
use Rattle.pg_digest.specs.declared.kinds.HashKind.TheVariants.{Sha1, Sha256, Sha256Short, Sha384}

-- each word of a hash value gives four bytes
length-digest_bytes : (hash : List ℕ) (words : ℕ) → length (digest_bytes hash words) ≡ words * 4
unfolding digest_bytes
length-digest_bytes hash zero = refl
length-digest_bytes hash (suc words) =
    let before = length-digest_bytes hash words in
    let last : length (to_be_bytes w32 (slice_index hash words)) ≡ 4 = refl in
    let both = length-append (digest_bytes hash words) (to_be_bytes w32 (slice_index hash words)) in
    omega (arith, before, last, both)

-- SHA-1 has five words
length-sha1 : (message : List ℕ) → length (sha1 message) ≡ 20
unfolding sha1
length-sha1 message = length-digest_bytes _ 5

-- a digest has the length of its hash type
pub length-sha_hash : (kind : HashKind) (message : List ℕ)
    → length (sha_hash kind message) ≡ size_of kind
unfolding sha_hash
length-sha_hash Sha1 message = length-sha1 message
length-sha_hash Sha256 message = length-sha256 message
length-sha_hash Sha256Short message =
    length-take-le 20 (sha256 message) (omega (arith, length-sha256 message))
length-sha_hash Sha384 message = length-sha384 message
