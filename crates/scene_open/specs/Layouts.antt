-- Where the slices of a file and their signatures lie, by the file's bytes.
use Rattle.std.specs.Prelude.{ℕ, ◌+◌, ◌^◌, ◌<◌, ◌≤◌, All, Bool, false, nat_lt, if◌then◌else◌, List, [], ◌∷◌, length, map, Option, Some, None}
use Rattle.std.specs.List.{list_any}
use Rattle.pg_bytes.specs.declared.fields.Range.{Range}
use Rattle.pg_bytes.specs.Ranges.{bytes_in}
use Rattle.macho_slices.specs.declared.refusal.FatRefusal.{FatRefusal}
use Rattle.macho_slices.specs.Layout.{form_of, slices_by}
use Rattle.macho_slices.specs.Rules as fat
use Rattle.macho_slices.specs.Refusals as fat_refusals
use Rattle.macho_cmds.specs.declared.refusal.MachRefusal.{MachRefusal}
use Rattle.macho_cmds.specs.declared.refusal.MachRefusal.TheVariants.{SignatureOutOfSlice}
use Rattle.macho_cmds.specs.Images.{image_of}
use Rattle.macho_cmds.specs.Rules as macho
use Rattle.macho_cmds.specs.Refusals as macho_refusals
use Rattle.cs_policy.specs.declared.layout.SliceSeat.{SliceSeat}
use Rattle.cs_policy.specs.declared.layout.SliceSeat.TheVariants as seat
use Rattle.cs_policy.specs.declared.layout.Layout.{Layout}
use Rattle.cs_policy.specs.declared.layout.Layout.TheVariants as layout

-- a range within a slice, counted from the file's start
abbrev pub within : Range → Range → Range
within slice sig = record { at = slice.at + sig.at; len = sig.len }

-- a slice by the first rule of images that it breaks, and by where its signature lies within it
abbrev pub seat_by : Range → Option MachRefusal → Range → SliceSeat
seat_by slice (Some refusal) sig = seat.Refused (macho_refusals.refusal_of refusal)
seat_by slice None sig = seat.Signed slice (within slice sig)

-- a slice of a file of Mach-O images
unfoldable pub seat_in : List ℕ → Range → SliceSeat
seat_in file slice = seat_by slice (macho.broken file slice) (image_of (bytes_in file slice)).sig

-- a file by the first rule of fat files that it breaks
abbrev pub laid_by : List ℕ → Option FatRefusal → Layout
laid_by file (Some refusal) = layout.Refused (fat_refusals.refusal_of refusal)
laid_by file None = layout.Slices (map (seat_in file) (slices_by (form_of file) file))

-- the layout of a file that is read as Mach-O
unfoldable pub macho_layout : List ℕ → Layout
macho_layout file = laid_by file (fat.broken file)

-- the one slice of a file that is taken as one: the signature's range, which is refused where it passes the file's end
abbrev pub raw_seat : ℕ → Range → SliceSeat
raw_seat size sig =
    if nat_lt size (sig.at + sig.len) then seat.Refused (macho_refusals.refusal_of SignatureOutOfSlice)
    else seat.Signed (record { at = 0; len = size }) sig

-- the layout of a file that is taken as one slice
abbrev pub raw_layout : List ℕ → Range → Layout
raw_layout file sig = layout.Slices (raw_seat (length file) sig ∷ [])

-- the slice has a signature of more than 1,048,576 bytes
abbrev pub is_long : SliceSeat → Bool
is_long (seat.Refused refusal) = false
is_long (seat.Signed slice sig) = nat_lt 1048576 sig.len

-- a slice of the layout has
abbrev pub has_long : Layout → Bool
has_long (layout.Refused refusal) = false
has_long (layout.Slices seats) = list_any is_long seats

-- a signed slice and its signature lie within so many bytes
abbrev pub IsSeated : ℕ → SliceSeat → Type 0
IsSeated bytes (seat.Refused refusal) = Unit {0}
IsSeated bytes (seat.Signed slice sig) = (slice.at + slice.len ≤ bytes) × (sig.at + sig.len ≤ bytes)

-- the same of each slice of a layout, of which there are fewer than 2 ^ 32
abbrev pub IsLaid : ℕ → Layout → Type 0
IsLaid bytes (layout.Refused refusal) = Unit {0}
IsLaid bytes (layout.Slices seats) = (length seats < 2 ^ 32) × All (IsSeated bytes) seats
