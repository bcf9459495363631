-- The layout of a file of Mach-O images. A fat file is a header, and one record for each slice, which says where the
-- slice lies. Its numbers have their greatest byte first. A thin file is one image, and its magic has its least byte
-- first. Each place counts from the file's first byte.
-- Source: `fat_header`, `fat_arch` and `fat_arch_64` in `mach-o/fat.h`; `mach_header_64` in `mach-o/loader.h`.
use Rattle.std.specs.Prelude.{ℕ, ◌+◌, ◌*◌, List, [], ◌∷◌, length, map, Option, Some, None, ◌==◌, if◌then◌else◌}
use Rattle.std.specs.List.{range_with_len}
use Rattle.pg_bytes.specs.Fields.{be32_at, be64_at, le32_at}
use Rattle.pg_bytes.specs.declared.fields.Range.{Range}
use Rattle.macho_slices.specs.declared.form.Form.{Form}
use Rattle.macho_slices.specs.declared.form.Form.TheVariants.{Thin, Fat}
use Rattle.macho_slices.specs.declared.form.Width.{Width}
use Rattle.macho_slices.specs.declared.form.Width.TheVariants.{Narrow, Wide}

-- the form that the file's magic tells, or none where it is none of the three
abbrev pub form_of : List ℕ → Option Form
form_of bytes =
    if le32_at bytes 0 == 0xfeedfacf then Some Thin else
    (if be32_at bytes 0 == 0xcafebabe then Some (Fat Narrow) else
    (if be32_at bytes 0 == 0xcafebabf then Some (Fat Wide) else None))

-- how many records a fat file has
abbrev pub count : List ℕ → ℕ
count bytes = be32_at bytes 4

-- How many bytes a record has. Its fields are the CPU type and subtype of four bytes each, the offset and the size of
-- the slice, and the alignment of four bytes; behind it wide records have four bytes that are reserved.
abbrev pub record_size : Width → ℕ
record_size Narrow = 20
record_size Wide = 32

-- where record `i`, counted from 0, begins: behind the magic and the count
abbrev pub record_at : Width → ℕ → ℕ
record_at width i = 8 + record_size width * i

-- where the table of records ends
abbrev pub table_end : Width → List ℕ → ℕ
table_end width bytes = record_at width (count bytes)

-- where the slice of record `i` begins
abbrev pub offset : Width → List ℕ → ℕ → ℕ
offset Narrow bytes i = be32_at bytes (record_at Narrow i + 8)
offset Wide bytes i = be64_at bytes (record_at Wide i + 8)

-- how many bytes that slice has
abbrev pub size : Width → List ℕ → ℕ → ℕ
size Narrow bytes i = be32_at bytes (record_at Narrow i + 12)
size Wide bytes i = be64_at bytes (record_at Wide i + 16)

-- the slice of record `i`
abbrev pub slice_at : Width → List ℕ → ℕ → Range
slice_at width bytes i = record { at = offset width bytes i; len = size width bytes i }

-- the slices of a fat file, in the order of its records
abbrev pub fat_slices : Width → List ℕ → List Range
fat_slices width bytes = map (slice_at width bytes) (range_with_len 0 (count bytes))

-- the slices of a file by its form: a thin file is one slice, the whole file
abbrev pub slices_by : Option Form → List ℕ → List Range
slices_by None bytes = []
slices_by (Some Thin) bytes = record { at = 0; len = length bytes } ∷ []
slices_by (Some (Fat width)) bytes = fat_slices width bytes
