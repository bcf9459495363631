-- What the rules on load commands tell of those that keep them.
use Rattle.std.specs.Prelude.{◌≡◌, ℕ, ◌+◌, ◌≤◌, true, List, length, map, filter}
use Rattle.macho_cmds.specs.declared.commands.Command.{Command}
use Rattle.macho_cmds.specs.declared.segment.Segment.{Segment}
use Rattle.macho_cmds.specs.Layout.{commands_end, kind, size, places, is_segment, is_signature, segment_at}

-- The segment's load command and the bytes that it maps lie within so many bytes.
abbrev pub IsSegmentWithin : ℕ → Segment → Type 0
IsSegmentWithin length segment = (segment.at + 72 ≤ length) × (segment.fileoff + segment.filesize ≤ length)

-- The head is that of the load command at a place, which keeps the rules on its size and on what it maps.
pub record IsCommand (bytes : List ℕ) (at : ℕ) (command : Command) : Type 0 where
  pub told : command.kind ≡ kind bytes at
  pub counted : command.size ≡ size bytes at
  pub head : 8 ≤ size bytes at
  pub within : at + size bytes at ≤ commands_end bytes
  pub signature : is_signature bytes at ≡ true → at + 16 ≤ length bytes
  pub segment : is_segment bytes at ≡ true → IsSegmentWithin (length bytes) (segment_at bytes at)

-- the segments of the first `n` load commands, in their order
abbrev pub segments_among : List ℕ → ℕ → List Segment
segments_among bytes n = map (segment_at bytes) (filter (is_segment bytes) (places bytes n))
