-- What the rules tell of a file that keeps them.
use Rattle.std.proofs.Common.{◌≡◌, ℕ, ◌+◌, ◌-◌, ◌≤◌, Bool, true, false, ◌||◌, List, ◌++◌, length, take, replicate, Option, Some, None, All, refl, ap, subst, ◌∙◌, arith}
use Rattle.std.specs.Prelude.{is_none, unwrap_or}
use Rattle.std.proofs.lemmas.List.Quantifiers.{position-Some}
use Rattle.std.proofs.lemmas.Bool.Decides.{nat_tests}
use Rattle.std.proofs.lemmas.List.{take_all, length-take, length-take-le, length-replicate, length-append, append_assoc}
use Rattle.std.proofs.lemmas.List.Elements.{All-get_or}
use Rattle.pg_bytes.specs.Rules.{first}
use Rattle.pg_bytes.specs.Ranges.{bytes_in}
use Rattle.pg_bytes.proofs.RuleFacts.{kept-append, NoneBroken-from}
use Rattle.macho_cmds.specs.declared.segment.Segment.{Segment}
use Rattle.macho_cmds.specs.declared.mach_image.Image.{Image}
use Rattle.macho_cmds.specs.declared.refusal.MachFail.{MachFail}
use Rattle.macho_cmds.specs.declared.refusal.MachFail.TheVariants as mach
use Rattle.macho_cmds.specs.Layout.{command_count, commands_end, size, place_of}
use Rattle.macho_cmds.specs.Rules.{header_rules, command_rules, signature_rules, signature_place}
use Rattle.macho_cmds.specs.Rules as macho
use Rattle.macho_cmds.specs.Commands.{segments_among}
use Rattle.macho_cmds.specs.Images.{image_of}
use Rattle.cs_sign.specs.declared.refusal.SignRefusal.{SignRefusal}
use Rattle.cs_sign.specs.Plans.{linkedit_place, linkedit_of, is_named, linkedit_name, no_segment, plan_of}
use Rattle.cs_sign.specs.Requests.{Request, data_size}
use Rattle.cs_sign.specs.Rules.{whole, past_rules, place_rules, request_rules, own_rules, broken, is_bad_linkedit, is_not_last, IsSized}
use Rattle.cs_sign.specs.Body.{IsRoomy, body, put, word_bytes, long_bytes, linkedit_size, linkedit_vmsize}
use Rattle.cs_sign.specs.Fails.{Refuses, from_image}
use Rattle.cs_sign.specs.declared.plan.Plan.{Plan}
use Rattle.pg_digest.specs.Kinds.{Hash}
use Rattle.cs_sign.specs.Signed.{signature, signed}
use Rattle.cs_sign.proofs.SizeFacts.{HasSizes, length-signature}
use Rattle.cs_sign.proofs.BodyFacts.{length-put, length-word_bytes, length-long_bytes}
use Rattle.cs_sign.proofs.CommandFacts.{IsKept-from, command-within, signature-size, segment-size, IsSignatureAt-from, IsSegmentAt, IsSegmentAt-all}

-- all bytes are those of the whole file
pub bytes_in-whole : (bytes : List ℕ) → bytes_in bytes (whole bytes) ≡ bytes
unfolding bytes_in
bytes_in-whole bytes = take_all (length bytes) bytes (omega arith)

-- The rules of an image are kept.
pub record IsImageKept (bytes : List ℕ) : Type 0 where
  pub header : first (header_rules 0 bytes) ≡ None
  pub commands : first (command_rules bytes) ≡ None
  pub signature : first (signature_rules bytes) ≡ None

pub IsImageKept-from : (bytes : List ℕ) → macho.broken bytes (whole bytes) ≡ None → IsImageKept bytes
unfolding macho.broken
IsImageKept-from bytes kept =
    let P : List ℕ → Type 0 = λ b. first (header_rules 0 b ++ (command_rules b ++ signature_rules b)) ≡ None in
    let all = subst P (bytes_in-whole bytes) kept in
    let a = kept-append (header_rules 0 bytes) (command_rules bytes ++ signature_rules bytes) all in
    let b = kept-append (command_rules bytes) (signature_rules bytes) a.1 in
    record { header = a.0; commands = b.0; signature = b.1 }

-- a file with an image has a whole header
pub header-whole : (bytes : List ℕ) → macho.broken bytes (whole bytes) ≡ None → 32 ≤ length bytes
header-whole bytes kept =
    let none = (NoneBroken-from (header_rules 0 bytes) (IsImageKept-from bytes kept).header).0 in
    grind (arith, nat_tests)

-- where the load command of the signature is
place-some : (found : Option ℕ) → is_none found ≡ false → found ≡ Some (unwrap_or found 0)
place-some None e = absurd cc
place-some (Some at) e = refl

pub signature_place-is : (bytes : List ℕ) → macho.broken bytes (whole bytes) ≡ None → signature_place bytes ≡ Some (image_of bytes).sig_at
unfolding image_of
signature_place-is bytes kept =
    place-some (signature_place bytes) (NoneBroken-from (signature_rules bytes) (IsImageKept-from bytes kept).signature).0

-- it ends before all load commands end
pub signature-within : (bytes : List ℕ) → macho.broken bytes (whole bytes) ≡ None → (image_of bytes).sig_at + 16 ≤ commands_end bytes
signature-within bytes kept =
    let found = IsSignatureAt-from bytes (image_of bytes).sig_at (signature_place-is bytes kept) in
    let rules = IsKept-from bytes found.index found.among (IsImageKept-from bytes kept).commands in
    let head = rw found.place at rules.head in
    omega (arith, (command-within bytes (image_of bytes).sig_at head).0, signature-size bytes (image_of bytes).sig_at head found.kind)

-- the segments are those of the load commands
pub segments-are : (bytes : List ℕ) → (image_of bytes).segments ≡ segments_among bytes (command_count bytes)
unfolding image_of
segments-are bytes = refl

pub segments-all : (bytes : List ℕ) → All (IsSegmentAt bytes) (image_of bytes).segments
segments-all bytes = rw (segments-are bytes) (IsSegmentAt-all bytes)

-- the first `__LINKEDIT` is one of the segments
pub linkedit-among : (bytes : List ℕ) → is_none (linkedit_place (image_of bytes).segments) ≡ false → IsSegmentAt bytes (linkedit_of (image_of bytes).segments)
linkedit-among bytes some =
    let segments = (image_of bytes).segments in
    let found = place-some (linkedit_place segments) some in
    All-get_or (IsSegmentAt bytes) segments (unwrap_or (linkedit_place segments) 0) no_segment
    (position-Some (is_named linkedit_name) segments (unwrap_or (linkedit_place segments) 0) no_segment found).0 (segments-all bytes)

-- its load command ends before all load commands end
pub segment-within : (bytes : List ℕ) (segment : Segment) → macho.broken bytes (whole bytes) ≡ None → IsSegmentAt bytes segment → segment.at + 72 ≤ commands_end bytes
segment-within bytes segment kept at =
    let rules = IsKept-from bytes at.index at.among (IsImageKept-from bytes kept).commands in
    let place = place_of bytes at.index in
    let same : segment.at ≡ place = ap (λ (s : Segment). s.at) at.says in
    omega (arith, same, (command-within bytes place rules.head).0, segment-size bytes place rules.segment at.kind)

-- which rules of the signer's own are kept
pub record IsPlacedKept (image : Image) (length ends : ℕ) : Type 0 where
  pub linkedit : is_bad_linkedit image length ≡ false
  pub last : is_not_last image length ends ≡ false

pub IsPlacedKept-from : (image : Image) (length ends : ℕ) (request : Request) → first (own_rules image length ends request) ≡ None → IsPlacedKept image length ends
IsPlacedKept-from image length ends request kept =
    let a = kept-append (past_rules image.segments (linkedit_place image.segments) image.sig.at) (place_rules image length ends ++ request_rules request image.sig.at) kept in
    let b = kept-append (place_rules image length ends) (request_rules request image.sig.at) a.1 in
    let none = NoneBroken-from (place_rules image length ends) b.0 in
    record { linkedit = none.0; last = none.1.0 }

-- the three parts of the rule on `__LINKEDIT`
pub or-kept : (a b : Bool) → (a || b) ≡ false → (a ≡ false) × (b ≡ false)
or-kept true b e = absurd cc
or-kept false b e = (refl, e)

-- the load commands that are written to, and where `__LINKEDIT` begins
pub IsRoomy-from : (bytes : List ℕ) (request : Request) → macho.broken bytes (whole bytes) ≡ None → first (own_rules (image_of bytes) (length bytes) (commands_end bytes) request) ≡ None → (image_of bytes).sig.at + (image_of bytes).sig.len ≤ length bytes → IsRoomy bytes (plan_of (image_of bytes))
IsRoomy-from bytes request kept own inside =
    let image = image_of bytes in
    let placed = IsPlacedKept-from image (length bytes) (commands_end bytes) request own in
    let some = or-kept (is_none (linkedit_place image.segments)) _ placed.linkedit in
    let last = placed.last in
    let ends : commands_end bytes ≤ image.sig.at = grind (arith, nat_tests) in
    let rest = some.1 in
    record {
      within = omega (arith, inside);
      signature = omega (arith, ends, signature-within bytes kept);
      linkedit = omega (arith, ends, segment-within bytes (linkedit_of image.segments) kept (linkedit-among bytes some.0));
      begins = grind (arith, nat_tests);
    }

-- the bytes that are signed are as many as before
pub length-body : (bytes : List ℕ) (plan : _) (size : ℕ) → IsRoomy bytes plan → length (body bytes plan size) ≡ plan.limit
unfolding body
length-body bytes plan size room =
    let first = take plan.limit bytes in
    let vmsize = long_bytes (linkedit_vmsize bytes plan size) in
    let filesize = long_bytes (linkedit_size plan size) in
    let long = length-take-le plan.limit bytes room.within in
    let one = put first (plan.signature + 12) (word_bytes size) in
    let two = put one (plan.linkedit.at + 48) filesize in
    let a = length-put first (word_bytes size) (plan.signature + 12) (omega (arith, long, room.signature, length-word_bytes size)) in
    let b = length-put one filesize (plan.linkedit.at + 48) (omega (arith, a, long, room.linkedit, length-long_bytes (linkedit_size plan size))) in
    let c = length-put two vmsize (plan.linkedit.at + 32) (omega (arith, a, b, long, room.linkedit, length-long_bytes (linkedit_vmsize bytes plan size))) in
    omega (arith, a, b, c, long)

-- zeros behind a signature, which is no longer than it may be
pub filled_up : (signed made : List ℕ) (limit size : ℕ) → length signed ≡ limit → length made ≤ size → take (limit + size) (signed ++ made) ++ replicate ((limit + size) - length (signed ++ made)) 0 ≡ signed ++ (made ++ replicate (size - length made) 0)
filled_up signed made limit size long fits =
    let both = length-append signed made in
    let all = take_all (limit + size) (signed ++ made) (omega (arith, both)) in
    let zeros : (limit + size) - length (signed ++ made) ≡ size - length made = omega (arith, both) in
    rw (all, zeros) (append_assoc signed made (replicate (size - length made) 0))

-- ---- the first broken rule of all

pub broken-by_image : (bytes : List ℕ) (request : Request) (fail : MachFail) → macho.Refuses (macho.broken bytes (whole bytes)) fail → Refuses (broken bytes request) (from_image fail)
unfolding broken
broken-by_image bytes request (mach.Refused refusal) e = rw e refl
broken-by_image bytes request mach.NoMemory e = tt

pub broken-by_own : (bytes : List ℕ) (request : Request) (image : Image) (ends : ℕ) (answer : Option SignRefusal) → macho.broken bytes (whole bytes) ≡ None → image ≡ image_of bytes → ends ≡ commands_end bytes → first (own_rules image (length bytes) ends request) ≡ answer → broken bytes request ≡ answer
unfolding broken
broken-by_own bytes request image ends answer kept is ends_is e =
    rw (kept, ← is, ← ends_is) e

-- the rules as the call tries them
pub own-along : (bytes : List ℕ) (request asked : Request) (image : Image) (ends : ℕ) (answer : Option SignRefusal) → image ≡ image_of bytes → ends ≡ commands_end bytes → asked ≡ request → first (own_rules image (length bytes) ends asked) ≡ answer → first (own_rules (image_of bytes) (length bytes) (commands_end bytes) request) ≡ answer
own-along bytes request asked image ends answer is ends_is asked_is e = rw (← is, ← ends_is, ← asked_is) e

-- what an image says that was read from the whole file
pub image-is : (bytes : List ℕ) (image : Image) → image ≡ image_of (bytes_in bytes (whole bytes)) → image ≡ image_of bytes
image-is bytes image says = says ∙ ap image_of (bytes_in-whole bytes)

-- the load commands that are written to, for the plan of the call
pub room-along : (bytes : List ℕ) (request : Request) (image : Image) (plan : Plan) → macho.broken bytes (whole bytes) ≡ None → image ≡ image_of bytes → image.sig.at + image.sig.len ≤ length bytes → plan ≡ plan_of image → first (own_rules (image_of bytes) (length bytes) (commands_end bytes) request) ≡ None → IsRoomy bytes plan
room-along bytes request image plan kept is inside plan_is own =
    rw (plan_is, is) (IsRoomy-from bytes request kept own (rw is at inside))

-- the signed file as it is put together
pub signed-joined : (hash : Hash) → HasSizes hash → (bytes : List ℕ) (request asked : Request) (image : Image) (plan : Plan) (size count : ℕ) (made held joined final : List ℕ) → IsRoomy bytes plan → IsSized asked plan.limit → image ≡ image_of bytes → plan ≡ plan_of image → asked ≡ request → size ≡ data_size asked plan.limit → made ≡ body bytes plan size → held ≡ signature hash asked plan made → joined ≡ made ++ held → count ≡ length joined → final ≡ take (plan.limit + size) joined ++ replicate ((plan.limit + size) - count) 0 → final ≡ signed hash bytes request
unfolding signed
signed-joined hash sizes bytes request asked image plan size count made held joined final room sized is plan_is asked_is size_is made_is held_is joined_is count_is final_is =
    let long = length-body bytes plan size room in
    let made_long : length made ≡ plan.limit = ap length made_is ∙ long in
    let short : length held ≤ size = omega (arith, size_is, ap length held_is, length-signature hash sizes asked plan made made_long) in
    let up = filled_up made held plan.limit size made_long short in
    final_is ∙ rw (count_is, joined_is) (up ∙ rw (held_is, made_is, size_is, asked_is, plan_is, is) refl)

-- and it is no longer than it may be
pub signed-within : (request : Request) (limit size count : ℕ) (joined final : List ℕ) → IsSized request limit → size ≡ data_size request limit → count ≡ length joined → final ≡ take (limit + size) joined ++ replicate ((limit + size) - count) 0 → length final ≤ 67108864
signed-within request limit size count joined final sized size_is count_is final_is =
    omega (
      arith,
      sized.within,
      size_is,
      count_is,
      ap length final_is,
      length-append (take (limit + size) joined) (replicate ((limit + size) - count) 0),
      length-take (limit + size) joined,
      length-replicate {A = ℕ} ((limit + size) - count) 0,
    )
