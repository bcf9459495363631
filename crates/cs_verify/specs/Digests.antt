-- How many digests a report takes: those of the signature's grammar and its cdhash, and one for each hash page that has
-- a slot.
use Rattle.std.specs.Prelude.{ℕ, ◌+◌, List, sum_by, Option, Some, None, Result, Ok, Err}
use Rattle.pg_bytes.specs.Counts.{RoseBy}
use Rattle.pg_bytes.specs.declared.fields.Range.{Range}
use Rattle.pg_bytes.specs.Ranges.{bytes_in}
use Rattle.pg_digest.specs.Kinds.{Hash}
use Rattle.macho_slices.specs.Layout.{form_of, slices_by}
use Rattle.macho_cmds.specs.declared.mach_image.Image.{Image}
use Rattle.macho_cmds.specs.declared.refusal.MachRefusal.{MachRefusal}
use Rattle.macho_cmds.specs.Images.{image_of}
use Rattle.macho_cmds.specs.Rules as macho
use Rattle.cs_blob.specs.declared.refusal.BlobRefusal.{BlobRefusal}
use Rattle.cs_blob.specs.Parts.{entries}
use Rattle.cs_blob.specs.Rules as signed
use Rattle.cs_blob.specs.Signed.{signature}
use Rattle.cs_blob.specs.Digests.{all_specials, digests_until}
use Rattle.cs_verify.specs.declared.report.VerifyFail.{VerifyFail}
use Rattle.cs_verify.specs.declared.report.VerifyFail.TheVariants.{Refused, NoMemory}
use Rattle.cs_verify.specs.Pages.{slotted_pages}

-- the digests of an image whose signature has these bytes, by the first rule that they break
abbrev pub signed_digests : Hash → Range → List ℕ → Option BlobRefusal → ℕ
signed_digests hash slice sig (Some refusal) = digests_until (entries sig) refusal
signed_digests hash slice sig None = (all_specials (entries sig) + 1) + slotted_pages (signature hash sig slice None).best

-- the digests of an image, by what its load commands say
abbrev pub image_digests : Hash → List ℕ → Range → Image → ℕ
image_digests hash bytes slice image =
    signed_digests hash slice (bytes_in bytes image.sig) (signed.broken hash (bytes_in bytes image.sig) slice None)

-- the digests of a slice, by the first rule that it breaks as an image
abbrev pub framed_digests : Hash → List ℕ → Range → Option MachRefusal → ℕ
framed_digests hash file slice (Some refusal) = 0
framed_digests hash file slice None = image_digests hash (bytes_in file slice) slice (image_of (bytes_in file slice))

-- the digests of one slice of a file
unfoldable pub slice_digests : Hash → List ℕ → Range → ℕ
slice_digests hash file slice = framed_digests hash file slice (macho.broken file slice)

-- the digests of all slices of a file
abbrev pub report_digests : Hash → List ℕ → ℕ
report_digests hash file = sum_by (slice_digests hash file) (slices_by (form_of file) file)

-- A call that answers this took so many digests where there is a report, and none where the file is refused; where
-- memory ran out, it is not told.
abbrev pub HasDigests : {T : Type 0} → ℕ → Result T VerifyFail → ℕ → ℕ → Type 0
HasDigests count (Ok reports) before now = RoseBy count before now
HasDigests count (Err (Refused refusal)) before now = RoseBy 0 before now
HasDigests count (Err NoMemory) before now = Unit {0}
