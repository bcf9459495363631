-- What the verifier says of a signed file.
use Rattle.std.specs.Prelude.{◌≡◌, ℕ, List, [], ◌∷◌, take, None}
use Rattle.pg_digest.specs.Kinds.{Hash}
use Rattle.pg_digest.specs.declared.kinds.HashKind.TheVariants.{Sha256}
use Rattle.macho_slices.specs.Rules as fat
use Rattle.macho_cmds.specs.declared.mach_image.Image.{Image}
use Rattle.macho_cmds.specs.Images.{image_of}
use Rattle.cs_verify.specs.declared.report.SliceReport.{SliceReport}
use Rattle.cs_verify.specs.declared.report.SliceReport.TheVariants.{Accepted}
use Rattle.cs_verify.specs.Report.{report}
use Rattle.cs_sign.specs.declared.plan.Plan.{Plan}
use Rattle.cs_sign.specs.Body.{body}
use Rattle.cs_sign.specs.Directory.{directory}
use Rattle.cs_sign.specs.Plans.{plan_of}
use Rattle.cs_sign.specs.Requests.{Request, code_slots, data_size}
use Rattle.cs_sign.specs.Signed.{beside}

-- the code directory of a signed file
abbrev pub directory_of : Hash → List ℕ → Request → Plan → List ℕ
directory_of hash bytes request plan =
    directory hash request plan (beside request.entitlements) (body bytes plan (data_size request plan.limit))

-- one slice: the architecture and the type of the file, the cdhash of this directory, SHA-256, the flag ADHOC, the limit and
-- the code slots, this identifier, no page that does not match, and as many pages as slots
abbrev pub slice_of : Hash → List ℕ → Request → Image → Plan → SliceReport
slice_of hash bytes request image plan =
    Accepted image.cputype image.cpusubtype image.filetype (take 20 (hash Sha256 (directory_of hash bytes request plan))) Sha256 2
    plan.limit (code_slots request plan.limit) request.ident [] (code_slots request plan.limit)

unfoldable pub accepted_slice : Hash → List ℕ → Request → SliceReport
accepted_slice hash bytes request = slice_of hash bytes request (image_of bytes) (plan_of (image_of bytes))

-- The file is one of Mach-O images, and what is said of it is that slice.
pub record IsVerified (hash : Hash) (bytes : List ℕ) (request : Request) (made : List ℕ) : Type 0 where
  pub unbroken : fat.broken made ≡ None
  pub accepted : report hash made ≡ accepted_slice hash bytes request ∷ []
