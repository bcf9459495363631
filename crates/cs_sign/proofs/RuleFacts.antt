-- What the first broken rule of each group tells of all rules.
use Rattle.std.proofs.Common.{◌≡◌, ℕ, ◌++◌, Option, Some, None, ◌∙◌}
use Rattle.pg_bytes.specs.Rules.{first}
use Rattle.pg_bytes.proofs.RuleFacts.{first-append-kept, first-append-broken}
use Rattle.macho_cmds.specs.declared.mach_image.Image.{Image}
use Rattle.cs_sign.specs.declared.refusal.SignRefusal.{SignRefusal}
use Rattle.cs_sign.specs.Plans.{linkedit_place}
use Rattle.cs_sign.specs.Requests.{Request}
use Rattle.cs_sign.specs.Rules.{past_rules, place_rules, request_rules, own_rules}

module _ (image : Image) (length ends : ℕ) (request : Request) where
  -- a segment ends behind the bytes that are signed
  pub own_by_past : (refusal : SignRefusal) → first (past_rules image.segments (linkedit_place image.segments) image.sig.at) ≡ Some refusal → first (own_rules image length ends request) ≡ Some refusal
  own_by_past refusal e =
      first-append-broken (past_rules image.segments (linkedit_place image.segments) image.sig.at) (place_rules image length ends ++ request_rules request image.sig.at) refusal e

  -- the `__LINKEDIT` or the signature is out of place
  pub own_by_place : (refusal : SignRefusal) → first (past_rules image.segments (linkedit_place image.segments) image.sig.at) ≡ None → first (place_rules image length ends) ≡ Some refusal → first (own_rules image length ends request) ≡ Some refusal
  own_by_place refusal past e =
      first-append-kept (past_rules image.segments (linkedit_place image.segments) image.sig.at) (place_rules image length ends ++ request_rules request image.sig.at) past
      ∙ first-append-broken (place_rules image length ends) (request_rules request image.sig.at) refusal e

  -- the last group, and what it answers
  pub own_by_request : (answer : Option SignRefusal) → first (past_rules image.segments (linkedit_place image.segments) image.sig.at) ≡ None → first (place_rules image length ends) ≡ None → first (request_rules request image.sig.at) ≡ answer → first (own_rules image length ends request) ≡ answer
  own_by_request answer past place e =
      first-append-kept (past_rules image.segments (linkedit_place image.segments) image.sig.at) (place_rules image length ends ++ request_rules request image.sig.at) past
      ∙ (first-append-kept (place_rules image length ends) (request_rules request image.sig.at) place ∙ e)
