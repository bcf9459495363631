-- What the rules on a slice of a file tell of the whole.
use Rattle.std.proofs.Common.{◌≡◌, ℕ, ◌++◌, List, Option, Some, None, subst, ◌∙◌, refl}
use Rattle.pg_bytes.specs.declared.fields.Range.{Range}
use Rattle.macho_cmds.specs.declared.segment.Segment.{Segment}
use Rattle.macho_cmds.specs.declared.refusal.MachRefusal.{MachRefusal}
use Rattle.macho_cmds.specs.declared.refusal.MachFail.{MachFail}
use Rattle.macho_cmds.specs.declared.refusal.MachFail.TheVariants.{Refused, NoMemory}
use Rattle.pg_bytes.specs.Ranges.{bytes_in}
use Rattle.macho_cmds.specs.Layout.{cputype, cpusubtype, filetype, command_count, signature_range}
use Rattle.pg_bytes.specs.Rules.{first}
use Rattle.macho_cmds.specs.Rules.{header_rules, command_rules, signature_rules, rules, signature_place, broken, Refuses}
use Rattle.macho_cmds.specs.Commands.{segments_among}
use Rattle.macho_cmds.specs.Images.{image_of}
use Rattle.pg_bytes.proofs.RuleFacts.{first-append-kept, first-append-broken}

-- the first broken rule of a slice, by its bytes
pub broken-bytes : (file : List ℕ) (slice : Range) (bytes : List ℕ) (answer : Option MachRefusal) → bytes ≡ bytes_in file slice → first (rules slice.at bytes) ≡ answer → broken file slice ≡ answer
unfolding broken
broken-bytes file slice bytes answer known e =
    let P : List ℕ → Type 0 = λ b. first (rules slice.at b) ≡ answer in
    subst P known e

-- the first broken rule of a group, where the groups before it are kept, is the first of all
pub broken_by_header : (start : ℕ) (bytes : List ℕ) (refusal : MachRefusal) → first (header_rules start bytes) ≡ Some refusal → first (rules start bytes) ≡ Some refusal
broken_by_header start bytes refusal e =
    first-append-broken (header_rules start bytes) (command_rules bytes ++ signature_rules bytes) refusal e

pub broken_by_commands : (start : ℕ) (bytes : List ℕ) (refusal : MachRefusal) → first (header_rules start bytes) ≡ None → first (command_rules bytes) ≡ Some refusal → first (rules start bytes) ≡ Some refusal
broken_by_commands start bytes refusal header e =
    first-append-kept (header_rules start bytes) (command_rules bytes ++ signature_rules bytes) header
    ∙ first-append-broken (command_rules bytes) (signature_rules bytes) refusal e

-- the last group, and what it answers
pub broken_by_signature : (start : ℕ) (bytes : List ℕ) (answer : Option MachRefusal) → first (header_rules start bytes) ≡ None → first (command_rules bytes) ≡ None → first (signature_rules bytes) ≡ answer → first (rules start bytes) ≡ answer
broken_by_signature start bytes answer header commands e =
    first-append-kept (header_rules start bytes) (command_rules bytes ++ signature_rules bytes) header
    ∙ (first-append-kept (command_rules bytes) (signature_rules bytes) commands ∙ e)

-- the refusal of a load command, where the rules before it are kept
pub Refuses-commands : (file : List ℕ) (slice : Range) (bytes : List ℕ) (fail : MachFail) → bytes ≡ bytes_in file slice → first (header_rules slice.at bytes) ≡ None → Refuses (first (command_rules bytes)) fail → Refuses (broken file slice) fail
Refuses-commands file slice bytes (Refused refusal) known header e =
    broken-bytes file slice bytes (Some refusal) known (broken_by_commands slice.at bytes refusal header e)
Refuses-commands file slice bytes NoMemory known header e = tt

-- what the bytes say, where the signature's load command is known
pub image_of-bytes : (file : List ℕ) (slice : Range) (bytes : List ℕ) (cpu subtype type : ℕ) (segments : List Segment) (range : Range) (at : ℕ) → bytes ≡ bytes_in file slice → cpu ≡ cputype bytes → subtype ≡ cpusubtype bytes → type ≡ filetype bytes → segments ≡ segments_among bytes (command_count bytes) → signature_place bytes ≡ Some at → range ≡ signature_range bytes at → record { cputype = cpu; cpusubtype = subtype; filetype = type; segments = segments; sig = range; sig_at = at } ≡ image_of (bytes_in file slice)
unfolding image_of
image_of-bytes file slice bytes cpu subtype type segments range at known is_cpu is_subtype is_type are_segments place is_range =
    let P : List ℕ → Type 0 = λ b. record { cputype = cpu; cpusubtype = subtype; filetype = type; segments = segments; sig = range; sig_at = at } ≡ image_of b in
    subst P known (rw (is_cpu, is_subtype, is_type, are_segments, is_range, place) refl)
