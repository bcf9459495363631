-- The hash types of a code directory, as XNU's `cs_blobs.h` numbers and sizes them (CS_HASHTYPE_*).
use Rattle.std.specs.Prelude.{ℕ, List, ◌==◌, Option, Some, None, if◌then◌else◌}
use Rattle.pg_digest.specs.declared.kinds.HashKind.{HashKind}
use Rattle.pg_digest.specs.declared.kinds.HashKind.TheVariants.{Sha1, Sha256, Sha256Short, Sha384}

-- the number that a code directory gives for a hash type
abbrev pub number_of : HashKind → ℕ
number_of Sha1 = 1
number_of Sha256 = 2
number_of Sha256Short = 3
number_of Sha384 = 4

-- the hash type with a number, where it has one
unfoldable pub kind_numbered : ℕ → Option HashKind
kind_numbered number =
    if number == 1 then Some Sha1
    else if number == 2 then Some Sha256
    else if number == 3 then Some Sha256Short
    else if number == 4 then Some Sha384
    else None

-- the digest of a message by a hash type
abbrev pub Hash : Type 0
Hash = HashKind → List ℕ → List ℕ

-- how many bytes a digest has
abbrev pub size_of : HashKind → ℕ
size_of Sha1 = 20
size_of Sha256 = 32
size_of Sha256Short = 20
size_of Sha384 = 48

-- the strength, by which the best of several code directories is chosen (`hash_rank` of XNU's
-- `ubc_subr.c`)
abbrev pub rank_of : HashKind → ℕ
rank_of Sha1 = 1
rank_of Sha256Short = 2
rank_of Sha256 = 3
rank_of Sha384 = 4
