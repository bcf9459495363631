-- The rules that an image keeps, and the first of them that a slice breaks. Each speaks of the whole image. That a
-- slice begins at a page, and that there is exactly one signature, is the accepted profile. Every file type is
-- accepted.
-- Source: `mach-o/loader.h`.
use Rattle.std.specs.Prelude.{◌≡◌, ℕ, ◌+◌, ◌*◌, ◌%◌, ◌≤◌, Bool, not, ◌&&◌, ◌||◌, List, [], ◌∷◌, ◌++◌, length, Option, Some, is_some, is_none, unwrap_or, find, nat_lt, ◌==◌}
use Rattle.std.specs.List.{range_with_len, flat_map}
use Rattle.pg_bytes.specs.Rules.{Rule, first}
use Rattle.pg_bytes.specs.declared.fields.Range.{Range}
use Rattle.macho_cmds.specs.declared.refusal.MachRefusal.{MachRefusal}
use Rattle.macho_cmds.specs.declared.refusal.MachRefusal.TheVariants.{Short, BadMagic, CommandBad, SegmentBad, NoSignature, TwoSignatures, SignatureOutOfSlice, SliceMisaligned}
use Rattle.macho_cmds.specs.declared.refusal.MachFail.{MachFail}
use Rattle.macho_cmds.specs.declared.refusal.MachFail.TheVariants.{Refused, NoMemory}
use Rattle.pg_bytes.specs.Ranges.{bytes_in}
use Rattle.macho_cmds.specs.Layout.{magic, command_count, commands_end, size, place_of, places, is_segment, is_signature, fileoff, filesize, section_count, signature_range}

-- on the header, for a slice that begins at `start` in its file
abbrev pub header_rules : ℕ → List ℕ → List (Rule MachRefusal)
header_rules start bytes =
    (nat_lt (length bytes) 32, Short)
    ∷ (not (magic bytes == 0xfeedfacf), BadMagic)
    ∷ (not (start % 4096 == 0), SliceMisaligned)
    ∷ (nat_lt (length bytes) (commands_end bytes), Short)
    ∷ []

-- whether the load command at a place has no whole head of 8 bytes, a size that is below 8 or no multiple of 8, an end
-- behind that of all load commands, or, where it is LC_CODE_SIGNATURE, another size than 16
abbrev pub is_bad : List ℕ → ℕ → Bool
is_bad bytes at =
    (nat_lt (commands_end bytes) (at + 8) || (nat_lt (size bytes at) 8 || not (size bytes at % 8 == 0)))
    || (nat_lt (commands_end bytes) (at + size bytes at) || (is_signature bytes at && not (size bytes at == 16)))

-- whether the sections of the segment command at a place pass its end, or the bytes that it maps pass the slice's end
abbrev pub maps_wrongly : List ℕ → ℕ → Bool
maps_wrongly bytes at =
    nat_lt (size bytes at) (72 + 80 * section_count bytes at)
    || nat_lt (length bytes) (fileoff bytes at + filesize bytes at)

-- whether the load command at a place is LC_SEGMENT_64 and maps wrongly
abbrev pub is_bad_segment : List ℕ → ℕ → Bool
is_bad_segment bytes at = is_segment bytes at && maps_wrongly bytes at

-- the first LC_CODE_SIGNATURE among the first `n` load commands, by its place
abbrev pub signature_among : List ℕ → ℕ → Option ℕ
signature_among bytes n = find (is_signature bytes) (places bytes n)

-- whether load command `i` and one before it are LC_CODE_SIGNATURE
abbrev pub is_second_signature : List ℕ → ℕ → Bool
is_second_signature bytes i = is_signature bytes (place_of bytes i) && is_some (signature_among bytes i)

-- on load command `i`
abbrev pub rules_of : List ℕ → ℕ → List (Rule MachRefusal)
rules_of bytes i =
    (is_bad bytes (place_of bytes i), CommandBad i)
    ∷ (is_bad_segment bytes (place_of bytes i), SegmentBad i)
    ∷ (is_second_signature bytes i, TwoSignatures)
    ∷ []

-- on the load commands, in their order
abbrev pub command_rules : List ℕ → List (Rule MachRefusal)
command_rules bytes = flat_map (rules_of bytes) (range_with_len 0 (command_count bytes))

-- where the image's LC_CODE_SIGNATURE is, if it has one
abbrev pub signature_place : List ℕ → Option ℕ
signature_place bytes = signature_among bytes (command_count bytes)

-- where the signature lies
abbrev pub signature : List ℕ → Range
signature bytes = signature_range bytes (unwrap_or (signature_place bytes) 0)

-- on the signature
abbrev pub signature_rules : List ℕ → List (Rule MachRefusal)
signature_rules bytes =
    (is_none (signature_place bytes), NoSignature)
    ∷ (nat_lt (length bytes) ((signature bytes).at + (signature bytes).len), SignatureOutOfSlice)
    ∷ []

-- all rules in their order
abbrev pub rules : ℕ → List ℕ → List (Rule MachRefusal)
rules start bytes = header_rules start bytes ++ (command_rules bytes ++ signature_rules bytes)

-- the refusal of the first rule that the slice of the file breaks, or none where it is an image
unfoldable pub broken : List ℕ → Range → Option MachRefusal
broken file slice = first (rules slice.at (bytes_in file slice))

-- an error that refuses gives this refusal; out of memory is tied to nothing
abbrev pub Refuses : Option MachRefusal → MachFail → Type 0
Refuses wanted (Refused refusal) = wanted ≡ Some refusal
Refuses wanted NoMemory = Unit {0}

-- Where the rules on the header are kept, the load commands lie within the slice.
pub record HasCommands (bytes : List ℕ) : Type 0 where
  pub header : 32 ≤ length bytes
  pub within : commands_end bytes ≤ length bytes
