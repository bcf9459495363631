-- A signed file, as a function of the file and of what it is signed with.
-- Source: XNU's `cs_blobs.h`; Apple TN3126; `mach-o/loader.h`. Which blobs there are, in which order, and how many zeros
-- follow is this repository's own form.
use Rattle.std.specs.Prelude.{◌≡◌, ℕ, ◌-◌, List, [], ◌∷◌, ◌++◌, length, replicate, Option, Some, None}
use Rattle.pg_digest.specs.Kinds.{Hash}
use Rattle.macho_cmds.specs.Images.{image_of}
use Rattle.cs_sign.specs.declared.plan.Plan.{Plan}
use Rattle.cs_sign.specs.Blobs.{Part, blob, superblob}
use Rattle.cs_sign.specs.Body.{body}
use Rattle.cs_sign.specs.Directory.{directory}
use Rattle.cs_sign.specs.Plans.{plan_of}
use Rattle.cs_sign.specs.Requests.{Request, data_size}
use Rattle.cs_sign.specs.Rules.{broken}

-- the requirements, of which there are none: type 2
abbrev pub requirements : Part
requirements = record { slot = 2; bytes = blob 0xfade0c01 (replicate 4 0) }

-- entitlements: type 5
abbrev pub entitlements : List ℕ → Part
entitlements given = record { slot = 5; bytes = blob 0xfade7171 given }

-- an empty CMS signature: type 0x10000
abbrev pub wrapper : Part
wrapper = record { slot = 0x10000; bytes = blob 0xfade0b01 [] }

-- the blobs beside the code directory
abbrev pub beside : Option (List ℕ) → List Part
beside None = requirements ∷ wrapper ∷ []
beside (Some given) = requirements ∷ entitlements given ∷ wrapper ∷ []

-- the code directory of a body: type 0
abbrev pub directory_with : Hash → Request → Plan → List Part → List ℕ → Part
directory_with hash request plan parts signed = record { slot = 0; bytes = directory hash request plan parts signed }

-- the blobs of the signature of a body, in their order
abbrev pub parts_with : Hash → Request → Plan → List ℕ → List Part
parts_with hash request plan signed =
    directory_with hash request plan (beside request.entitlements) signed ∷ beside request.entitlements

-- the signature of a body, without the zeros behind it
unfoldable pub signature : Hash → Request → Plan → List ℕ → List ℕ
signature hash request plan signed = superblob (parts_with hash request plan signed)

-- a signature and the zeros behind it, which make it so many bytes
abbrev pub filled : List ℕ → ℕ → List ℕ
filled made size = made ++ replicate (size - length made) 0

-- the signed file for a plan, where the signature has so many bytes with the zeros
abbrev pub signed_by : Hash → List ℕ → Request → Plan → ℕ → List ℕ
signed_by hash bytes request plan size =
    body bytes plan size ++ filled (signature hash request plan (body bytes plan size)) size

-- the signed file: the bytes before the signature, with the sizes that change, and the new signature
unfoldable pub signed : Hash → List ℕ → Request → List ℕ
signed hash bytes request =
    signed_by hash bytes request (plan_of (image_of bytes)) (data_size request (plan_of (image_of bytes)).limit)

-- No rule is broken, and this is the signed file.
pub record IsSigned (hash : Hash) (bytes : List ℕ) (request : Request) (made : List ℕ) : Type 0 where
  pub unbroken : broken bytes request ≡ None
  pub value : made ≡ signed hash bytes request
