-- What a file gives to its signature, by what its load commands say.
-- Source: `segment_command_64` and `linkedit_data_command` in `mach-o/loader.h`; `CS_CodeDirectory` in XNU's `cs_blobs.h`.
use Rattle.std.specs.Prelude.{ℕ, ◌+◌, ◌==◌, ◌++◌, Bool, List, codes, replicate, Option, Some, None, unwrap_or, slice_index_or, position, find, nat_eq, if◌then◌else◌}
use Rattle.std.specs.Cmp.Lexicographic.{pointwise}
use Rattle.macho_cmds.specs.declared.segment.Segment.{Segment}
use Rattle.macho_cmds.specs.declared.mach_image.Image.{Image}
use Rattle.cs_sign.specs.declared.plan.Plan.{Plan}
use Rattle.cs_sign.specs.declared.plan.Exec.{Exec}

-- the names of two segments, each of sixteen bytes with zeros at the end
abbrev pub linkedit_name : List ℕ
linkedit_name = codes "__LINKEDIT" ++ replicate 6 0

abbrev pub text_name : List ℕ
text_name = codes "__TEXT" ++ replicate 10 0

-- whether a segment has all sixteen bytes of a name
abbrev pub is_named : List ℕ → Segment → Bool
is_named name segment = pointwise nat_eq segment.name name

-- where the first segment named `__LINKEDIT` stands among the segments
abbrev pub linkedit_place : List Segment → Option ℕ
linkedit_place segments = position (is_named linkedit_name) segments

-- a segment that maps nothing, which stands for one that is not there
abbrev pub no_segment : Segment
no_segment = record { at = 0; name = replicate 16 0; fileoff = 0; filesize = 0; initprot = 0 }

-- the segment at a place
abbrev pub segment_of : List Segment → ℕ → Segment
segment_of segments place = slice_index_or segments place no_segment

-- where the bytes of a segment end in the file
abbrev pub end_of : Segment → ℕ
end_of segment = segment.fileoff + segment.filesize

-- the first segment named `__LINKEDIT`
abbrev pub linkedit_of : List Segment → Segment
linkedit_of segments = segment_of segments (unwrap_or (linkedit_place segments) 0)

-- what a code directory says of the program's code: the bytes of the first segment named `__TEXT`, or none, and 1 for a
-- program
abbrev exec_in : Option Segment → ℕ → Exec
exec_in None flags = record { base = 0; limit = 0; flags = flags }
exec_in (Some text) flags = record { base = text.fileoff; limit = text.filesize; flags = flags }

abbrev pub exec_of : List Segment → ℕ → Exec
exec_of segments filetype = exec_in (find (is_named text_name) segments) (if filetype == 2 then 1 else 0)

-- what an image gives to its signature
abbrev pub plan_of : Image → Plan
plan_of image = record {
  limit = image.sig.at;
  signature = image.sig_at;
  linkedit = linkedit_of image.segments;
  exec = exec_of image.segments image.filetype;
}
