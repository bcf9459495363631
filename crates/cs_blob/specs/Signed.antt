-- What it means that bytes are a signature of a slice.
-- Source: XNU's `cs_blobs.h` and `ubc_subr.c`; Apple TN3126, which says what a cdhash is.
use Rattle.std.specs.Prelude.{◌≡◌, ℕ, ◌<◌, ◌≤◌, List, length, Option, None, All}
use Rattle.pg_bytes.specs.declared.fields.Range.{Range}
use Rattle.pg_digest.specs.Kinds.{Hash, rank_of}
use Rattle.cs_superblob.specs.declared.entries.Seat.{Seat}
use Rattle.cs_directory.specs.Directory.{IsDirectory, cdhash}
use Rattle.cs_blob.specs.declared.candidates.Candidate.{Candidate}
use Rattle.pg_bytes.specs.Ranges.{bytes_in}
use Rattle.cs_blob.specs.Parts.{IsWithin, entries, directories}
use Rattle.cs_blob.specs.Candidates.{among, ranked, best}
use Rattle.cs_blob.specs.Rules.{broken}
use Rattle.cs_blob.specs.Signature.{Signature}

-- The signature that the bytes hold: all but the best directory has no effect. The size of the machine's pages decides
-- only whether it is accepted.
unfoldable pub signature : Hash → List ℕ → Range → Option ℕ → Signature
signature hash bytes slice page = record {
  bytes = bytes;
  best = (best bytes).directory;
  best_bytes = bytes_in bytes (best bytes).seat.range;
  slice = slice;
  cdhash = cdhash hash (bytes_in bytes (best bytes).seat.range);
}

-- The bytes keep all rules on a machine with pages of this size, or on any where none is given, and the value is what they hold. Its best directory is one that `directory` accepts
-- from the bytes beside it, and no code directory of the signature has a greater rank.
pub record IsSignature (hash : Hash) (bytes : List ℕ) (slice : Range) (page : Option ℕ) (held : Signature) : Type 0 where
  pub unbroken : broken hash bytes slice page ≡ None
  pub value : held ≡ signature hash bytes slice page
  pub directory : IsDirectory held.best_bytes held.best
  pub greatest : All (λ candidate. ranked candidate ≤ rank_of held.best.kind) (among bytes (directories bytes))

-- where the blobs of a signature lie, found in its bytes
pub record HasParts (bytes : List ℕ) (found placed : List Seat) : Type 0 where
  pub entries : found ≡ entries bytes
  pub directories : placed ≡ directories bytes
  pub some : 0 < length placed
  pub entries_within : All (λ seat. IsWithin bytes seat.range) found
  pub directories_within : All (λ seat. IsWithin bytes seat.range) placed

-- the code directory is one that stands in these bytes
pub record IsCandidate (bytes : List ℕ) (candidate : Candidate) : Type 0 where
  pub within : IsWithin bytes candidate.seat.range
  pub directory : IsDirectory (bytes_in bytes candidate.seat.range) candidate.directory

-- the code directory is the best one of a signature of the slice
pub record IsBest (hash : Hash) (bytes : List ℕ) (slice : Range) (page : Option ℕ) (candidate : Candidate) : Type 0 where
  pub unbroken : broken hash bytes slice page ≡ None
  pub value : candidate ≡ best bytes
  pub found : IsCandidate bytes candidate
  pub greatest : All (λ other. ranked other ≤ ranked candidate) (among bytes (directories bytes))
