-- The first rule that an access to a page breaks.
use Rattle.std.specs.Prelude.{ℕ, ◌&&◌, Bool, not, List, [], ◌∷◌, find, Option, Some, None, is_some, if◌then◌else◌}
use Rattle.std.specs.Option.{option_map, option_map_or, option_or}
use Rattle.std.specs.Str.{bytes_eq}
use Rattle.pg_digest.specs.Kinds.{Hash}
use Rattle.cs_policy.specs.declared.access.Access.{Access}
use Rattle.cs_policy.specs.declared.access.Access.TheVariants.{Read, Write, Execute}
use Rattle.cs_policy.specs.declared.region.Region.{Region}
use Rattle.cs_policy.specs.declared.denial.Denial.{Denial}
use Rattle.cs_policy.specs.declared.denial.Denial.TheVariants.{PrivateCopy, Unsigned, BeyondLimit, WritableShared, Mismatch, SealedWrite}
use Rattle.cs_blob.specs.Signature.{Signature}
use Rattle.pg_plain.specs.PlainFile.{PlainFile, page_of, has_copy, writer}
use Rattle.pg_plain.specs.Covers.{covering, is_below_limit, Part, parts}

-- the first of some denials
abbrev pub first_denial : List (Option Denial) → Option Denial
first_denial [] = None
first_denial (denial ∷ others) = option_or denial (first_denial others)

-- ---- the rules of execution, each with the denial where it is broken

-- no private copy is executed
abbrev pub private_copy : PlainFile → Region → ℕ → Option Denial
private_copy file region page =
    if not region.shared && has_copy file region.id page then Some (PrivateCopy page) else None

-- an attached signature covers the page
abbrev pub unsigned : PlainFile → ℕ → Option Denial
unsigned file page = if is_some (covering file page) then None else Some (Unsigned page)

-- all of the page lies below the limit of that signature and has slots
abbrev pub beyond_limit : PlainFile → ℕ → Option Denial
beyond_limit file page =
    option_map_or (λ attached. if is_below_limit file.page_size attached.signature page then None else Some (BeyondLimit page))
    (covering file page) None

-- no shared region may write the page
abbrev pub writable_shared : PlainFile → ℕ → Option Denial
writable_shared file page = option_map (λ id. WritableShared page id) (writer file page)

-- the bytes of the hash page do not hash to its slot
abbrev pub differs : Hash → Signature → Part → Bool
differs hash blob p = not (bytes_eq (hash blob.best.kind p.bytes) p.wanted)

-- each hash page of the page hashes to its slot; the first that does not is told
abbrev pub mismatch : Hash → PlainFile → ℕ → Option Denial
mismatch hash file page =
    option_map_or (λ attached. option_map (λ p. Mismatch page p.slot (hash attached.signature.best.kind p.bytes) p.wanted)
    (find (differs hash attached.signature) (parts file.page_size attached.signature page (page_of file page)))) (covering file page) None

-- ---- the verdict

-- the rules that can be told without the bytes of the page
abbrev pub rules_without_bytes : PlainFile → Region → ℕ → Access → List (Option Denial)
rules_without_bytes file region page Read = []
rules_without_bytes file region page Write =
    (if region.shared && is_some (covering file page) then Some (SealedWrite page) else None) ∷ []
rules_without_bytes file region page Execute =
    private_copy file region page ∷ unsigned file page ∷ beyond_limit file page ∷ writable_shared file page ∷ []

-- the rule that needs them
abbrev pub rule_of_bytes : Hash → PlainFile → ℕ → Access → Option Denial
rule_of_bytes hash file page Read = None
rule_of_bytes hash file page Write = None
rule_of_bytes hash file page Execute = mismatch hash file page

abbrev pub verdict_without_bytes : PlainFile → Region → ℕ → Access → Option Denial
verdict_without_bytes file region page access = first_denial (rules_without_bytes file region page access)

-- The first broken rule of an access to a page of a region that stands and has the page, or none. The flags of the process
-- do not change it; they decide whether it denies.
abbrev pub verdict : Hash → PlainFile → Region → ℕ → Access → Option Denial
verdict hash file region page access =
    option_or (verdict_without_bytes file region page access) (rule_of_bytes hash file page access)
