-- The rules on a file of Mach-O images, and the first of them that a text breaks. Each speaks of the whole text. That
-- a fat file has at most 32 records, and that no two slices share a byte, is the accepted profile.
-- Source: `mach-o/fat.h`, `mach-o/loader.h`.
use Rattle.std.specs.Prelude.{◌≡◌, ℕ, ◌+◌, ◌≤◌, Bool, ◌&&◌, List, [], ◌∷◌, ◌++◌, length, take, map, Option, Some, None, is_some, is_none, unwrap_or, position, slice_index_or, nat_lt}
use Rattle.std.specs.List.{range_with_len}
use Rattle.pg_bytes.specs.Rules.{Rule, first}
use Rattle.pg_bytes.specs.declared.fields.Range.{Range}
use Rattle.macho_slices.specs.declared.form.Form.{Form}
use Rattle.macho_slices.specs.declared.form.Form.TheVariants.{Thin, Fat}
use Rattle.macho_slices.specs.declared.form.Width.{Width}
use Rattle.macho_slices.specs.declared.refusal.FatRefusal.{FatRefusal}
use Rattle.macho_slices.specs.declared.refusal.FatRefusal.TheVariants.{Short, BadMagic, TooMany, OutOfFile, Overlap}
use Rattle.macho_slices.specs.declared.refusal.FatFail.{FatFail}
use Rattle.macho_slices.specs.declared.refusal.FatFail.TheVariants.{Refused, NoMemory}
use Rattle.macho_slices.specs.Layout.{form_of, count, table_end, offset, size, fat_slices}

-- on how the file begins
abbrev pub start_rules : List ℕ → List (Rule FatRefusal)
start_rules bytes =
    (nat_lt (length bytes) 4, Short)
    ∷ (is_none (form_of bytes), BadMagic)
    ∷ []

-- on the header of a fat file and on how long its table is
abbrev pub table_rules : Width → List ℕ → List (Rule FatRefusal)
table_rules width bytes =
    (nat_lt (length bytes) 8, Short)
    ∷ (nat_lt 32 (count bytes), TooMany (count bytes))
    ∷ (nat_lt (length bytes) (table_end width bytes), Short)
    ∷ []

-- whether the slice of record `i` ends behind the file
abbrev pub ends_behind : Width → List ℕ → ℕ → Bool
ends_behind width bytes i = nat_lt (length bytes) (offset width bytes i + size width bytes i)

-- on where the slice of record `i` ends
abbrev pub place_rule : Width → List ℕ → ℕ → Rule FatRefusal
place_rule width bytes i = (ends_behind width bytes i, OutOfFile i)

-- the same for all records, in their order
abbrev pub place_rules : Width → List ℕ → List (Rule FatRefusal)
place_rules width bytes = map (place_rule width bytes) (range_with_len 0 (count bytes))

-- whether both slices have bytes, and they share one
abbrev pub meets : Range → Range → Bool
meets slice other =
    (nat_lt 0 slice.len && nat_lt 0 other.len)
    && (nat_lt slice.at (other.at + other.len) && nat_lt other.at (slice.at + slice.len))

-- slice `b`, counted from 0
abbrev pub slice_of : List Range → ℕ → Range
slice_of slices b = slice_index_or slices b (record { at = 0; len = 0 })

-- the first of the slices before slice `b` that meets it
abbrev pub met : List Range → ℕ → Option ℕ
met slices b = position (λ slice. meets slice (slice_of slices b)) (take b slices)

-- on how slice `b` lies to all that stand before it
abbrev pub overlap_rule : List Range → ℕ → Rule FatRefusal
overlap_rule slices b = (is_some (met slices b), Overlap (unwrap_or (met slices b) 0) b)

-- the same for all slices, in their order
abbrev pub overlap_rules : List Range → List (Rule FatRefusal)
overlap_rules slices = map (overlap_rule slices) (range_with_len 0 (length slices))

-- the rules on a file of a form: a thin file keeps them all
abbrev pub form_rules : Option Form → List ℕ → List (Rule FatRefusal)
form_rules None bytes = []
form_rules (Some Thin) bytes = []
form_rules (Some (Fat width)) bytes =
    table_rules width bytes ++ (place_rules width bytes ++ overlap_rules (fat_slices width bytes))

-- all rules in their order
abbrev pub rules : List ℕ → List (Rule FatRefusal)
rules bytes = start_rules bytes ++ form_rules (form_of bytes) bytes

-- the refusal of the first rule that the text breaks, or none where it is a file of images
unfoldable pub broken : List ℕ → Option FatRefusal
broken bytes = first (rules bytes)

-- an error that refuses gives this refusal; out of memory is tied to nothing
abbrev pub Refuses : Option FatRefusal → FatFail → Type 0
Refuses wanted (Refused refusal) = wanted ≡ Some refusal
Refuses wanted NoMemory = Unit {0}

-- Where the rules on the table are kept, it lies within the text and is short.
pub record HasTable (width : Width) (bytes : List ℕ) : Type 0 where
  pub kept : first (table_rules width bytes) ≡ None
  pub few : count bytes ≤ 32
  pub within : table_end width bytes ≤ length bytes
