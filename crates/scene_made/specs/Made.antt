-- The scene that is made of a number, with its files.
-- Source: the layout of a code directory is `CS_CodeDirectory` in XNU's `cs_blobs.h`; the draw of numbers is the linear
-- congruential generator of Knuth's MMIX.
use Rattle.std.specs.Prelude.{ℕ, zero, suc, ◌+◌, ◌*◌, ◌/◌, ◌%◌, ◌^◌, false, List, [], ◌∷◌, ◌++◌, map, replicate, take, codes}
use Rattle.std.specs.List.{flat_map, range_with_len, zip}
use Rattle.pg_digest.specs.Kinds.{Hash}
use Rattle.pg_digest.specs.declared.kinds.HashKind.TheVariants.{Sha256}
use Rattle.pg_io.specs.Files.{Told}
use Rattle.cs_policy.specs.ProcFlags.{flags_of, enforcement}
use Rattle.cs_policy.specs.declared.access.Access.TheVariants.{Execute}
use Rattle.cs_policy.specs.declared.access.Prot.TheVariants.{RX}
use Rattle.cs_policy.specs.declared.data.Data.TheVariants.{Hex}
use Rattle.cs_policy.specs.declared.call.Call.{Call}
use Rattle.cs_policy.specs.declared.call.Call.TheVariants.{Spawn, Map, Attach, Fault, Write, Evict}
use Rattle.scene_text.specs.declared.head.Head.{Head}
use Rattle.scene_text.specs.declared.head.Head.TheVariants.{Resident, Raw, Admit, Process}
use Rattle.scene_text.specs.declared.whole.Scene.{Scene}

-- ---- the files

-- a byte of a page of a file: its number in the page counts from 0, as do the page and the file
abbrev pub byte_of : ℕ → ℕ → ℕ → ℕ → ℕ
byte_of n file page at = (n + 7 * file + 11 * page + at) % 256

unfoldable pub page_of : ℕ → ℕ → ℕ → List ℕ
page_of n file page = map (byte_of n file page) (range_with_len 0 4096)

-- the pages of a file: 64 of them
unfoldable pub body : ℕ → ℕ → List ℕ
body n file = flat_map (page_of n file) (range_with_len 0 64)

-- the header of the file's code directory, of 88 bytes, and its identifier
abbrev pub header : List ℕ
header =
    0xfa ∷ 0xde ∷ 0x0c ∷ 0x02 ∷ 0 ∷ 0 ∷ 0x08 ∷ 0x5a  -- magic; length 2,138
    ∷ 0 ∷ 2 ∷ 4 ∷ 0 ∷ 0 ∷ 2 ∷ 0 ∷ 2  -- version 0x20400; flags ADHOC and LINKER_SIGNED
    ∷ 0 ∷ 0 ∷ 0 ∷ 90 ∷ 0 ∷ 0 ∷ 0 ∷ 88  -- where code slot 0 begins, and the identifier
    ∷ 0 ∷ 0 ∷ 0 ∷ 0 ∷ 0 ∷ 0 ∷ 0 ∷ 64  -- special slots; code slots
    ∷ 0 ∷ 4 ∷ 0 ∷ 0 ∷ 32 ∷ 2 ∷ 0 ∷ 12  -- limit 262,144; bytes of a slot, hash type, platform, size of a hash page
    ∷ 0 ∷ 0 ∷ 0 ∷ 0 ∷ 0 ∷ 0 ∷ 0 ∷ 0  -- spare; scatter offset
    ∷ 0 ∷ 0 ∷ 0 ∷ 0 ∷ 0 ∷ 0 ∷ 0 ∷ 0  -- team offset; spare
    ∷ 0 ∷ 0 ∷ 0 ∷ 0 ∷ 0 ∷ 0 ∷ 0 ∷ 0  -- limit in 64 bits
    ∷ 0 ∷ 0 ∷ 0 ∷ 0 ∷ 0 ∷ 0 ∷ 0 ∷ 0  -- executable segment: base
    ∷ 0 ∷ 0 ∷ 0 ∷ 0 ∷ 0 ∷ 4 ∷ 0 ∷ 0  -- its limit, 262,144
    ∷ 0 ∷ 0 ∷ 0 ∷ 0 ∷ 0 ∷ 0 ∷ 0 ∷ 1  -- its flags
    ∷ 103 ∷ 0 ∷ []  -- the identifier "g"

-- the code slots: the SHA-256 digest of each page
unfoldable pub slots : Hash → ℕ → ℕ → List ℕ
slots hash n file = flat_map (λ page. hash Sha256 (page_of n file page)) (range_with_len 0 64)

abbrev pub directory : Hash → ℕ → ℕ → List ℕ
directory hash n file = header ++ slots hash n file

-- the file: its pages, and then its code directory
unfoldable pub file_bytes : Hash → ℕ → ℕ → List ℕ
file_bytes hash n file = body n file ++ directory hash n file

-- the cdhash of its directory
unfoldable pub cdhash_of : Hash → ℕ → ℕ → List ℕ
cdhash_of hash n file = take 20 (hash Sha256 (directory hash n file))

-- the names of the four files
abbrev pub names : List (List ℕ)
names = codes "gen0" ∷ codes "gen1" ∷ codes "gen2" ∷ codes "gen3" ∷ []

-- the numbers of the files, of the processes and of the scripts
abbrev pub four : List ℕ
four = range_with_len 0 4

-- the files, of which none was read yet
abbrev pub told : Hash → ℕ → Told
told hash n = record { files = zip names (map (file_bytes hash n) four); made = 0; fails = [] }

-- ---- the header lines

abbrev pub raw : List ℕ → Head
raw name = Raw name 262144 2138

abbrev pub process : Head
process = Process (flags_of enforcement)

abbrev pub admit : List ℕ → Head
admit cdhash = Admit cdhash

-- those where the files have these cdhashes
abbrev pub heads_of : List (List ℕ) → List Head
heads_of cdhashes =
    Resident 16 ∷ (map raw names ++ (replicate 4 process ++ map admit cdhashes))

abbrev pub heads : Hash → ℕ → List Head
heads hash n = heads_of (map (cdhash_of hash n) four)

-- ---- the scripts

-- the number that is drawn behind another
unfoldable pub next : ℕ → ℕ
next x = (x * 6364136223846793005 + 1442695040888963407) % 2 ^ 64

-- so many draws behind a number
unfoldable pub draws : ℕ → ℕ → List ℕ
draws zero x = []
draws (suc count) x = next x ∷ draws count (next x)

-- the call of a script by its case, which is one of eight, for the upper 31 bits of a draw
abbrev pub call_by : ℕ → ℕ → ℕ → Call
call_by file y zero = Write file (4096 * (y % 64) + (y / 512) % 4096) (Hex (y % 256 ∷ []))
call_by file y (suc zero) = Evict file (y % 64)
call_by file y (suc (suc others)) = Fault file (0x10000 + 4096 * (y % 64)) Execute

-- the call for a draw: a write of one byte, an eviction, or a fault for execution
unfoldable pub call_of : ℕ → ℕ → Call
call_of file x = call_by file (x / 2 ^ 33) ((x / 2 ^ 33 / 64) % 8)

-- a script: its process starts and maps its file, the signature is attached, and 1,000 calls follow
unfoldable pub script : ℕ → ℕ → List Call
script n file =
    Spawn file ∷ Map file 0x10000 file 0 64 RX false ∷ Attach file 0
    ∷ map (call_of file) (draws 1000 (8 * n + file))

-- the scene
abbrev pub scene : Hash → ℕ → Scene
scene hash n = record { head = heads hash n; scripts = map (script n) four }
