-- A file that breaks no rule is known well enough to sign it.
use Rattle.std.proofs.Common.{◌≡◌, ℕ, ◌+◌, ◌<◌, ◌≤◌, ◌⊎◌, inl, inr, Bool, true, false, not, ◌&&◌, ◌==◌, nat_lt, List, ◌++◌, length, get_or, Option, Some, None, refl, sym, ap, ◌∙◌, arith}
use Rattle.std.specs.Prelude.{is_none, unwrap_or}
use Rattle.std.proofs.lemmas.Bool.{cases_lt}
use Rattle.std.proofs.lemmas.Bool.Decides.{nat_tests}
use Rattle.pg_bytes.specs.Rules.{first}
use Rattle.pg_bytes.specs.Fields.{le32_at}
use Rattle.pg_bytes.proofs.RuleFacts.{kept-append, NoneBroken-from}
use Rattle.macho_cmds.specs.declared.segment.Segment.{Segment}
use Rattle.macho_cmds.specs.Layout.{command_count, commands_end, size, place_of, is_segment, fileoff, filesize, segment_at}
use Rattle.macho_cmds.specs.Rules.{header_rules}
use Rattle.macho_cmds.specs.Rules as macho
use Rattle.macho_cmds.specs.Images.{image_of}
use Rattle.cs_sign.specs.Plans.{linkedit_place, linkedit_of, segment_of, end_of, no_segment, plan_of}
use Rattle.cs_sign.specs.Requests.{Request}
use Rattle.cs_sign.specs.Rules.{whole, past_rule, past_rules, place_rules, request_rules, own_rules}
use Rattle.cs_sign.proofs.CommandFacts.{IsKept-from, command-within, IsSignatureAt-from, kept_rule, member-place}
use Rattle.cs_sign.proofs.PlaceFacts.{place-order}
use Rattle.cs_sign.proofs.RoomFacts.{IsImageKept-from, signature_place-is, segments-are, linkedit-among, IsPlacedKept-from, IsRoomy-from, or-kept}
use Rattle.cs_sign.proofs.MadeFacts.{IsSignable}

-- where the signature lies, by its load command
signature-at : (bytes : List ℕ) → le32_at bytes ((image_of bytes).sig_at + 8) ≡ (image_of bytes).sig.at
unfolding image_of
signature-at bytes = refl

-- a segment at a place that ends behind the bytes that are signed is the first `__LINKEDIT`
past-kept : (segments : List Segment) (place : Option ℕ) (limit k : ℕ) → (past_rule segments place limit k).0 ≡ false → (end_of (segment_of segments k) ≤ limit) ⊎ (place ≡ Some k)
past-kept segments None limit k kept = inl (grind (arith, nat_tests))
past-kept segments (Some p) limit k kept = by_first (p == k) refl kept
  where
    by_first : (b : Bool) → (p == k) ≡ b → (not b && nat_lt limit (end_of (segment_of segments k))) ≡ false → (end_of (segment_of segments k) ≤ limit) ⊎ (Some p ≡ Some k)
    by_first true same rest = let e : p ≡ k = grind (arith, nat_tests) in inr (ap (λ (n : ℕ). Some n) e)
    by_first false other rest = inl (grind (arith, nat_tests))

-- load commands at one place are one
same-place : (bytes : List ℕ) (i j : ℕ) → 8 ≤ size bytes (place_of bytes i) → 8 ≤ size bytes (place_of bytes j) → place_of bytes i ≡ place_of bytes j → i ≡ j
same-place bytes i j long other same = elim (cases_lt i j) [
  | inl before ↦ absurd (omega (arith, place-order bytes i j before))
  | inr from ↦ elim (cases_lt j i) [
    | inl behind ↦ absurd (omega (arith, place-order bytes j i behind))
    | inr upto ↦ omega arith
  ]
]

pub IsSignable-from : (bytes : List ℕ) (request : Request) → macho.broken bytes (whole bytes) ≡ None → first (own_rules (image_of bytes) (length bytes) (commands_end bytes) request) ≡ None → (image_of bytes).sig.at + (image_of bytes).sig.len ≤ length bytes → IsSignable bytes (plan_of (image_of bytes))
IsSignable-from bytes request kept own inside =
    let image = image_of bytes in
    let groups = IsImageKept-from bytes kept in
    let placed = IsPlacedKept-from image (length bytes) (commands_end bytes) request own in
    let past = (kept-append (past_rules image.segments (linkedit_place image.segments) image.sig.at) (place_rules image (length bytes) (commands_end bytes) ++ request_rules request image.sig.at) own).0 in
    let last = placed.last in
    let some = (or-kept (is_none (linkedit_place image.segments)) _ placed.linkedit).0 in
    let found = IsSignatureAt-from bytes image.sig_at (signature_place-is bytes kept) in
    let link = linkedit-among bytes some in
    let each = λ (i : ℕ) (lt : i < command_count bytes). IsKept-from bytes i lt groups.commands in
    let header = (NoneBroken-from (header_rules 0 bytes) groups.header).1.0 in
    let at_is : (linkedit_of image.segments).at ≡ place_of bytes link.index = ap (λ (s : Segment). s.at) link.says in
    record {
      room = IsRoomy-from bytes request kept own inside;
      ends = grind (arith, nat_tests);
      each = each;
      single = λ i lt. (each i lt).single;
      magic = grind (arith, nat_tests);
      signature_found = signature_place-is bytes kept;
      signature_begins = signature-at bytes;
      signature = found.index;
      signature_among = found.among;
      signature_place = found.place;
      signature_kind = found.kind;
      linkedit = link.index;
      linkedit_among = link.among;
      linkedit_place = sym at_is;
      linkedit_kind = ap (is_segment bytes) at_is ∙ link.kind;
      linkedit_begins = ap (fileoff bytes) at_is ∙ sym (ap (λ (s : Segment). s.fileoff) link.says);
      others = λ i lt segment other.
          let first : 0 + i ≡ i = omega arith in
          let member = member-place (is_segment bytes) (place_of bytes) (segment_at bytes) no_segment 0 (command_count bytes) i lt (rw first segment) in
          let listed : get_or image.segments member.0 no_segment ≡ segment_at bytes (place_of bytes i) = ap (λ (segments : List Segment). get_or segments member.0 no_segment) (segments-are bytes) ∙ member.2 ∙ ap (λ (n : ℕ). segment_at bytes (place_of bytes n)) first in
          let few : member.0 < length image.segments = omega (arith, member.1, ap length (segments-are bytes)) in
          let rule = kept_rule (past_rule image.segments (linkedit_place image.segments) image.sig.at) 0 (length image.segments) member.0 few past in
          ended bytes i link.index image.segments (linkedit_place image.segments) image.sig.at member.0 listed at_is (command-within bytes (place_of bytes i) (each i lt).head).1 (command-within bytes (place_of bytes link.index) (each link.index link.among).head).1 other rule;
    }
  where
    ended : (file : List ℕ) (i l : ℕ) (segments : List Segment) (place : Option ℕ) (limit k : ℕ) → get_or segments k no_segment ≡ segment_at file (place_of file i) → (segment_of segments (unwrap_or place 0)).at ≡ place_of file l → 8 ≤ size file (place_of file i) → 8 ≤ size file (place_of file l) → (i ≡ l → ⊥) → (past_rule segments place limit (0 + k)).0 ≡ false → fileoff file (place_of file i) + filesize file (place_of file i) ≤ limit
    ended file i l segments place limit k listed at_is long other apart rule =
        let same : 0 + k ≡ k = omega arith in
        elim (past-kept segments place limit k (rw same at rule)) [
          | inl le ↦ let end_is : end_of (segment_of segments k) ≡ fileoff file (place_of file i) + filesize file (place_of file i) = ap end_of listed in omega (arith, le, end_is)
          | inr named ↦
              let here : place_of file i ≡ place_of file l = sym (ap (λ (s : Segment). s.at) listed) ∙ ap (λ (p : Option ℕ). (segment_of segments (unwrap_or p 0)).at) (sym named) ∙ at_is in
              absurd (apart (same-place file i l long other here))
        ]
