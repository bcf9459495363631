-- The layout of a Mach-O image of 64 bits: a header of 32 bytes, and load commands behind it, each at the end of the
-- one before. Each number has its least byte first, and each place counts from the image's first byte.
-- Source: `mach_header_64`, `load_command`, `segment_command_64` and `linkedit_data_command` in `mach-o/loader.h`.
use Rattle.std.specs.Prelude.{ℕ, zero, suc, ◌+◌, Bool, List, take, drop, map, ◌==◌}
use Rattle.std.specs.List.{range_with_len}
use Rattle.pg_bytes.specs.Fields.{le32_at, le64_at}
use Rattle.pg_bytes.specs.declared.fields.Range.{Range}
use Rattle.macho_cmds.specs.declared.segment.Segment.{Segment}

-- the number by which an image of 64 bits is told
abbrev pub magic : List ℕ → ℕ
magic bytes = le32_at bytes 0

-- the architecture
abbrev pub cputype : List ℕ → ℕ
cputype bytes = le32_at bytes 4

-- the variant of the architecture
abbrev pub cpusubtype : List ℕ → ℕ
cpusubtype bytes = le32_at bytes 8

-- what the image is for, as 2 for a program
abbrev pub filetype : List ℕ → ℕ
filetype bytes = le32_at bytes 12

-- how many load commands there are
abbrev pub command_count : List ℕ → ℕ
command_count bytes = le32_at bytes 16

-- how many bytes all load commands have
abbrev pub commands_size : List ℕ → ℕ
commands_size bytes = le32_at bytes 20

-- where the load commands end
abbrev pub commands_end : List ℕ → ℕ
commands_end bytes = 32 + commands_size bytes

-- what the load command at a place is
abbrev pub kind : List ℕ → ℕ → ℕ
kind bytes at = le32_at bytes at

-- how many bytes the load command at a place has
abbrev pub size : List ℕ → ℕ → ℕ
size bytes at = le32_at bytes (at + 4)

-- where load command `i`, counted from 0, begins: behind the header, or where the one before ends
unfoldable pub place_of : List ℕ → ℕ → ℕ
place_of bytes zero = 32
place_of bytes (suc i) = place_of bytes i + size bytes (place_of bytes i)

-- where the first `n` load commands begin, in their order
abbrev pub places : List ℕ → ℕ → List ℕ
places bytes n = map (place_of bytes) (range_with_len 0 n)

-- whether the load command is LC_SEGMENT_64, which maps a part of the file
abbrev pub is_segment : List ℕ → ℕ → Bool
is_segment bytes at = kind bytes at == 0x19

-- whether the load command is LC_CODE_SIGNATURE, which tells where the signature lies
abbrev pub is_signature : List ℕ → ℕ → Bool
is_signature bytes at = kind bytes at == 0x1d

-- of a segment command: where the bytes that it maps begin
abbrev pub fileoff : List ℕ → ℕ → ℕ
fileoff bytes at = le64_at bytes (at + 40)

-- of a segment command: how many bytes it maps
abbrev pub filesize : List ℕ → ℕ → ℕ
filesize bytes at = le64_at bytes (at + 48)

-- of a segment command: how many sections follow, which have 80 bytes each behind the 72 of the command
abbrev pub section_count : List ℕ → ℕ → ℕ
section_count bytes at = le32_at bytes (at + 64)

-- the segment of the command at a place
abbrev pub segment_at : List ℕ → ℕ → Segment
segment_at bytes at = record {
  at = at;
  name = take 16 (drop (at + 8) bytes);
  fileoff = fileoff bytes at;
  filesize = filesize bytes at;
  initprot = le32_at bytes (at + 60);
}

-- of a signature command: where the signature begins, and how many bytes it has
abbrev pub signature_range : List ℕ → ℕ → Range
signature_range bytes at = record { at = le32_at bytes (at + 8); len = le32_at bytes (at + 12) }
