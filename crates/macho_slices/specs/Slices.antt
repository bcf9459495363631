-- What an accepted file of Mach-O images says.
-- Source: `mach-o/fat.h`, `mach-o/loader.h`.
use Rattle.std.specs.Prelude.{◌≡◌, ℕ, ◌+◌, ◌≤◌, List, length, None}
use Rattle.pg_bytes.specs.declared.fields.Range.{Range}
use Rattle.macho_slices.specs.Layout.{form_of, slices_by}
use Rattle.macho_slices.specs.Rules.{broken}

-- The file is thin or fat and breaks no rule, and these are its slices in order.
pub record IsSlices (bytes : List ℕ) (found : List Range) : Type 0 where
  pub unbroken : broken bytes ≡ None
  pub slices : found ≡ slices_by (form_of bytes) bytes

-- The slice lies within the file.
abbrev pub IsWithin : List ℕ → Range → Type 0
IsWithin bytes slice = slice.at + slice.len ≤ length bytes
