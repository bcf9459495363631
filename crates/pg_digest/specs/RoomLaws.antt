-- Why the 48 bytes of a digest and the list of its bytes fix each other: `Digest` cites these.
use Rattle.std.proofs.Common.{◌≡◌, ℕ, ◌≤◌, ◌-◌, List, length, take, replicate, arith, length-append}
use Rattle.std.proofs.lemmas.List.{length-replicate, length-take-le, take-append-drop}
use Rattle.std.proofs.Math.Seq.{drop-append_seam}
use Rattle.pg_digest.specs.Room.{padded, IsPadded}

-- the digest has as many bytes as are used
pub length-take-padded : (used : ℕ) (bytes : List ℕ) → IsPadded used bytes
    → length (take used bytes) ≡ used
length-take-padded used bytes known = length-take-le used bytes (omega arith)

-- the digest fixes all 48 bytes
pub padded-take : (used : ℕ) (bytes : List ℕ) → IsPadded used bytes
    → padded (take used bytes) ≡ bytes
padded-take used bytes known =
    rw (length-take-padded used bytes known, ← known.zeros) (take-append-drop used bytes)

-- a digest with zeros behind it
pub padded-IsPadded : (digest : List ℕ) → length digest ≤ 48
    → IsPadded (length digest) (padded digest)
padded-IsPadded digest fits = record {
  fits = fits;
  whole = simp (length-append, length-replicate) (omega arith);
  zeros = drop-append_seam digest (replicate (48 - length digest) 0);
}
