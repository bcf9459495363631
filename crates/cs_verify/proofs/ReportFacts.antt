-- What is said of a slice, by what its parts say.
use Rattle.std.proofs.Common.{◌≡◌, ℕ, List, Some, refl}
use Rattle.pg_bytes.specs.declared.fields.Range.{Range}
use Rattle.macho_cmds.specs.declared.mach_image.Image.{Image}
use Rattle.macho_cmds.specs.declared.refusal.MachRefusal.{MachRefusal}
use Rattle.macho_cmds.specs.Images.{IsImage}
use Rattle.macho_cmds.specs.Rules.{broken}
use Rattle.macho_cmds.specs.Refusals.{refusal_of}
use Rattle.cs_verify.specs.declared.report.SliceReport.TheVariants.{Refused}
use Rattle.pg_bytes.specs.Ranges.{bytes_in}
use Rattle.pg_digest.specs.Kinds.{Hash}
use Rattle.cs_verify.specs.Report.{image_report, slice_report}
use Rattle.cs_verify.specs.Digests.{image_digests, slice_digests}

-- the report of an image, from its bytes
pub said_of_image : (hash : Hash) (file : List ℕ) (slice : Range) (image : Image) (bytes : List ℕ) → IsImage file slice image → bytes ≡ bytes_in file slice → image_report hash bytes slice image ≡ slice_report hash file slice
unfolding slice_report
said_of_image hash file slice image bytes is from =
    rw (from, is.says, is.unbroken) refl

-- the report of a slice that is no image
pub said_of_other : (hash : Hash) (file : List ℕ) (slice : Range) (refusal : MachRefusal) → broken file slice ≡ Some refusal → Refused (refusal_of refusal) ≡ slice_report hash file slice
unfolding slice_report
said_of_other hash file slice refusal is = rw is refl

-- the same of the digests that they take
pub digests_of_image : (hash : Hash) (file : List ℕ) (slice : Range) (image : Image) (bytes : List ℕ) → IsImage file slice image → bytes ≡ bytes_in file slice → image_digests hash bytes slice image ≡ slice_digests hash file slice
unfolding slice_digests
digests_of_image hash file slice image bytes is from =
    rw (from, is.says, is.unbroken) refl

pub digests_of_other : (hash : Hash) (file : List ℕ) (slice : Range) (refusal : MachRefusal) → broken file slice ≡ Some refusal → slice_digests hash file slice ≡ 0
unfolding slice_digests
digests_of_other hash file slice refusal is = rw is refl
