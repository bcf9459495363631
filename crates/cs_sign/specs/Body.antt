-- The bytes that are signed: those before the signature, in which three sizes change. Each number has its least byte
-- first.
-- Source: `segment_command_64` and `linkedit_data_command` in `mach-o/loader.h`.
use Rattle.std.specs.Prelude.{ℕ, ◌+◌, ◌-◌, ◌≤◌, max, List, ◌++◌, length, take, drop}
use Rattle.std.specs.Int.{next_multiple_of}
use Rattle.byteorder.specs.Endian.{little_bytes}
use Rattle.pg_bytes.specs.Fields.{le64_at}
use Rattle.cs_sign.specs.declared.plan.Plan.{Plan}

-- the bytes of a number of four bytes, and of one of eight
unfoldable pub word_bytes : ℕ → List ℕ
word_bytes number = little_bytes 4 number

unfoldable pub long_bytes : ℕ → List ℕ
long_bytes number = little_bytes 8 number

-- the bytes with others from a place on
unfoldable pub put : List ℕ → ℕ → List ℕ → List ℕ
put bytes at field = take at bytes ++ (field ++ drop (at + length field) bytes)

-- how many bytes of the file `__LINKEDIT` has, which ends with a signature of so many bytes
abbrev pub linkedit_size : Plan → ℕ → ℕ
linkedit_size plan size = (plan.limit + size) - plan.linkedit.fileoff

-- how many bytes of memory it takes: as many as before, or those of the file up to a multiple of 16,384 where these are
-- more
abbrev pub linkedit_vmsize : List ℕ → Plan → ℕ → ℕ
linkedit_vmsize bytes plan size =
    max (le64_at bytes (plan.linkedit.at + 32)) (next_multiple_of (linkedit_size plan size) 16384)

-- bytes in which the sizes are written: that of the signature in its load command, and those of `__LINKEDIT`
abbrev pub resized : List ℕ → Plan → ℕ → ℕ → List ℕ
resized bytes plan size vmsize =
    put (put (put bytes (plan.signature + 12) (word_bytes size)) (plan.linkedit.at + 48) (long_bytes (linkedit_size plan size)))
    (plan.linkedit.at + 32) (long_bytes vmsize)

-- the bytes that are signed, for a signature of so many bytes with the zeros behind it
unfoldable pub body : List ℕ → Plan → ℕ → List ℕ
body bytes plan size = resized (take plan.limit bytes) plan size (linkedit_vmsize bytes plan size)

-- The load commands of the signature and of `__LINKEDIT` end before the signature, which lies within the file, and
-- `__LINKEDIT` begins before it.
pub record IsRoomy (bytes : List ℕ) (plan : Plan) : Type 0 where
  pub within : plan.limit ≤ length bytes
  pub signature : plan.signature + 16 ≤ plan.limit
  pub linkedit : plan.linkedit.at + 72 ≤ plan.limit
  pub begins : plan.linkedit.fileoff ≤ plan.limit
