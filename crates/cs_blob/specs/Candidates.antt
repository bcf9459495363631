-- The code directories of a signature, and the best of them.
-- Source: `hash_rank` and the choice of a directory in XNU's `ubc_subr.c`.
use Rattle.std.specs.Prelude.{ℕ, List, [], ◌∷◌, map, fold, Option, Some, None, unwrap_or, nat_lt, if◌then◌else◌}
use Rattle.pg_digest.specs.Kinds.{rank_of}
use Rattle.cs_superblob.specs.declared.entries.Seat.{Seat}
use Rattle.cs_directory.specs.Directory.{directory_in}
use Rattle.cs_blob.specs.declared.candidates.Candidate.{Candidate}
use Rattle.pg_bytes.specs.Ranges.{bytes_in}
use Rattle.cs_blob.specs.Parts.{whole, directories}

-- the code directory that an entry places
unfoldable pub candidate : List ℕ → Seat → Candidate
candidate bytes seat = record { seat = seat; directory = directory_in (bytes_in bytes seat.range) }

-- those that several entries place
abbrev pub among : List ℕ → List Seat → List Candidate
among bytes seats = map (candidate bytes) seats

-- the rank of a code directory is that of its hash type
abbrev pub ranked : Candidate → ℕ
ranked candidate = rank_of candidate.directory.kind

-- of two code directories the one of greater rank
abbrev pub stronger : Candidate → Candidate → Candidate
stronger a b = if nat_lt (ranked a) (ranked b) then b else a

-- of several code directories the one of greatest rank
abbrev pub strongest : List Candidate → Option Candidate
strongest [] = None
strongest (first ∷ more) = Some (fold stronger first more)

-- The best code directory of a signature. Where there is none, the rules refuse the bytes, and what stands here
-- instead has no effect.
unfoldable pub best : List ℕ → Candidate
best bytes = unwrap_or (strongest (among bytes (directories bytes))) (candidate bytes (whole bytes))
