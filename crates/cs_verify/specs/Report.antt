-- What the verifier says of a file: the grammars of fat files, images and signatures, and the digest of each hash
-- page beside its slot.
use Rattle.std.specs.Prelude.{◌≡◌, ℕ, Bool, false, not, ◌&&◌, ◌==◌, List, length, map, Option, Some, None, bit_and}
use Rattle.std.specs.List.{list_all}
use Rattle.pg_bytes.specs.declared.fields.Range.{Range}
use Rattle.pg_bytes.specs.Ranges.{bytes_in}
use Rattle.macho_slices.specs.Layout.{form_of, slices_by}
use Rattle.macho_slices.specs.Rules as fat
use Rattle.macho_cmds.specs.declared.mach_image.Image.{Image}
use Rattle.macho_cmds.specs.declared.refusal.MachRefusal.{MachRefusal}
use Rattle.macho_cmds.specs.Images.{image_of}
use Rattle.macho_cmds.specs.Rules as macho
use Rattle.macho_cmds.specs.Refusals as macho_refusals
use Rattle.cs_directory.specs.Directory.{ident_at, flag_mask}
use Rattle.cs_blob.specs.Signature.{Signature}
use Rattle.cs_blob.specs.Signed.{signature}
use Rattle.cs_blob.specs.declared.refusal.BlobRefusal.{BlobRefusal}
use Rattle.cs_blob.specs.Rules as signed
use Rattle.cs_blob.specs.Refusals as signed_refusals
use Rattle.cs_verify.specs.declared.report.SliceReport.{SliceReport}
use Rattle.cs_verify.specs.declared.report.SliceReport.TheVariants.{Refused, Accepted}
use Rattle.pg_digest.specs.Kinds.{Hash}
use Rattle.cs_verify.specs.Pages.{pages_of, bad_pages}

-- an image and its signature
abbrev pub accepted : Hash → List ℕ → Image → Signature → SliceReport
accepted hash bytes image s =
    Accepted image.cputype image.cpusubtype image.filetype s.cdhash s.best.kind (bit_and s.best.flags flag_mask)
    s.best.limit s.best.code_slots (ident_at s.best_bytes) (bad_pages hash s.best s.best_bytes bytes) (pages_of s.best)

-- an image whose signature has these bytes, by the first rule that they break on any machine
abbrev pub signed_report : Hash → List ℕ → Range → Image → List ℕ → Option BlobRefusal → SliceReport
signed_report hash bytes slice image sig (Some refusal) = Refused (signed_refusals.refusal_of refusal)
signed_report hash bytes slice image sig None = accepted hash bytes image (signature hash sig slice None)

-- the bytes of an image, by what its load commands say
abbrev pub image_report : Hash → List ℕ → Range → Image → SliceReport
image_report hash bytes slice image =
    signed_report hash bytes slice image (bytes_in bytes image.sig) (signed.broken hash (bytes_in bytes image.sig) slice None)

-- a slice, by the first rule that it breaks as an image
abbrev pub framed_report : Hash → List ℕ → Range → Option MachRefusal → SliceReport
framed_report hash file slice (Some refusal) = Refused (macho_refusals.refusal_of refusal)
framed_report hash file slice None =
    image_report hash (bytes_in file slice) slice (image_of (bytes_in file slice))

-- what is said of one slice of a file
unfoldable pub slice_report : Hash → List ℕ → Range → SliceReport
slice_report hash file slice = framed_report hash file slice (macho.broken file slice)

-- what is said of the slices of a file, in their order
abbrev pub report : Hash → List ℕ → List SliceReport
report hash file = map (slice_report hash file) (slices_by (form_of file) file)

-- The file is one of Mach-O images, and this is what is said of it.
pub record IsReport (hash : Hash) (file : List ℕ) (found : List SliceReport) : Type 0 where
  pub unbroken : fat.broken file ≡ None
  pub says : found ≡ report hash file

-- the slice is a signed image, and each of its hash pages below the limit matches
abbrev pub matches : SliceReport → Bool
matches (Refused refusal) = false
matches (Accepted cputype cpusubtype filetype cdhash kind flags limit slots ident bad pages) = length bad == 0

-- there is a slice, and all of them match
abbrev pub all_match : List SliceReport → Bool
all_match reports = not (length reports == 0) && list_all matches reports
