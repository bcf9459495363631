-- The slices of a file.
use Rattle.std.specs.Prelude.{ℕ, slice_get, Option, Some, None}
use Rattle.pg_bytes.specs.declared.fields.Range.{Range}
use Rattle.cs_policy.specs.declared.layout.Layout.{Layout}
use Rattle.cs_policy.specs.declared.layout.Layout.TheVariants as layout
use Rattle.cs_policy.specs.declared.layout.SliceSeat.{SliceSeat}
use Rattle.cs_policy.specs.declared.layout.SliceSeat.TheVariants as seat

-- the slice of this number, where a layout has slices and so many
abbrev pub seat_in : ℕ → Layout → Option SliceSeat
seat_in slice (layout.Slices seats) = slice_get seats slice
seat_in slice (layout.Refused refusal) = None

-- the range of a slice that is a signed image
abbrev pub signed_range : Option SliceSeat → Option Range
signed_range None = None
signed_range (Some (seat.Refused refusal)) = None
signed_range (Some (seat.Signed slice sig)) = Some slice

-- the range of the slice of this number, where there is one that is a signed image
abbrev pub slice_range : Layout → ℕ → Option Range
slice_range laid slice = signed_range (seat_in slice laid)
