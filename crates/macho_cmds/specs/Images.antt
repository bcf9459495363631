-- What an accepted image says, and where its parts lie.
-- Source: `mach-o/loader.h`.
use Rattle.std.specs.Prelude.{◌≡◌, ℕ, ◌+◌, ◌≤◌, List, All, None, unwrap_or}
use Rattle.pg_bytes.specs.declared.fields.Range.{Range}
use Rattle.macho_cmds.specs.declared.mach_image.Image.{Image}
use Rattle.pg_bytes.specs.Ranges.{bytes_in}
use Rattle.macho_cmds.specs.Layout.{cputype, cpusubtype, filetype, command_count}
use Rattle.macho_cmds.specs.Commands.{IsSegmentWithin, segments_among}
use Rattle.macho_cmds.specs.Rules.{signature_place, signature, broken}

-- what the image says
unfoldable pub image_of : List ℕ → Image
image_of bytes = record {
  cputype = cputype bytes;
  cpusubtype = cpusubtype bytes;
  filetype = filetype bytes;
  segments = segments_among bytes (command_count bytes);
  sig = signature bytes;
  sig_at = unwrap_or (signature_place bytes) 0;
}

-- The slice of the file is an image that breaks no rule, and this is what it says.
pub record IsImage (file : List ℕ) (slice : Range) (found : Image) : Type 0 where
  pub unbroken : broken file slice ≡ None
  pub says : found ≡ image_of (bytes_in file slice)

-- The signature, its load command and the segments lie within the slice.
pub record IsInside (slice : Range) (found : Image) : Type 0 where
  pub sig : found.sig.at + found.sig.len ≤ slice.len
  pub command : found.sig_at + 16 ≤ slice.len
  pub segments : All (IsSegmentWithin slice.len) found.segments
