-- The trust list is asked behind its lock.
use Rattle.std.proofs.Common.{◌≡◌, ℕ, ◌<◌, length, sym, ap, subst, ◌∙◌}
use Rattle.pg_book.specs.declared.receipt.Receipt.{Receipt}
use Rattle.pg_book.specs.Knowing.{HasRoom}
use Rattle.pg_book.specs.Models.{SpineOf, PassOf}
use Rattle.pg_book.specs.Outcomes.{Meets, Draws}
use Rattle.pg_book.specs.Closing.{stamped}
use Rattle.cs_policy.specs.declared.trust.TrustEvent.{TrustEvent}
use Rattle.cs_policy.specs.declared.trust.TrustReply.{TrustReply}
use Rattle.cs_policy.specs.declared.trust.TrustEvent.TheVariants as trust
use Rattle.cs_policy.specs.declared.entry.Event.TheVariants as event
use Rattle.cs_policy.specs.declared.entry.Reply.TheVariants as reply
use Rattle.cs_policy.specs.declared.entry.Place.TheVariants as place
use Rattle.cs_policy.specs.declared.entry.Who.{Who}
use Rattle.cs_policy.specs.declared.entry.Entry.{Entry}
use Rattle.pg_trusted.specs.TrustStep.{TrustList, trust_step}
use Rattle.pg_calls.specs.Parts as parts
use Rattle.pg_calls.specs.Parts.{Asks}
use Rattle.pg_calls.specs.Asking.{IsProperTrust}
use Rattle.pg_parts.specs.Opened.{numbers_in}
use Rattle.pg_parts.specs.Asking.{MayAskTrust}
use Rattle.pg_parts.specs.Replays.{TrustWent}
use Rattle.pg_parts.proofs.ProcessFacts.{trust-replies}
use Rattle.pg_parts.proofs.ReplayFacts.{trust-goes}
use Rattle.pg_shared.specs.Plan.{Plan}
use Rattle.pg_shared.specs.Drawn.{drawn_on}
use Rattle.pg_shared.specs.Passes.{shown, IsPassOf}
use Rattle.pg_shared.specs.Cells.{IsTrustOf}
use Rattle.pg_shared.proofs.SpineFacts.{entry_of, may-draw, entered, drawn-more, spine-draws, pass-draws, asks-draws}

module _ (plan : Plan) (list : TrustList) (spine : SpineOf Entry) (kept : IsTrustOf plan (record { trust = list; spine = spine })) (who : Who)
    (pass : PassOf Entry) (own : IsPassOf plan who.worker pass) (met : PassOf Entry) (meets : Meets spine pass met) (asked : TrustEvent)
    (proper : IsProperTrust (numbers_in plan.start) asked) (room : parts.HasRoom (shown plan pass) who place.Trust (event.Trust asked)) where
  pub may-ask-trust : MayAskTrust list asked
  may-ask-trust = by_event asked proper
    where
      by_event : (v : TrustEvent) → IsProperTrust (numbers_in plan.start) v → MayAskTrust list v
      by_event (trust.LoadModule cache) proper = subst (λ (n : ℕ). cache < n) (sym (ap length kept.went.caches)) proper
      by_event (trust.Lookup cdhash) proper = tt

  pub may-draw-trust : HasRoom spine.part met.caller met.view
  may-draw-trust = may-draw plan place.Trust spine kept.spine who pass own met meets (event.Trust asked) room

  module _ (entry : Entry) (same : entry ≡ entry_of who place.Trust (event.Trust asked) (reply.Trust (trust_step list asked).0))
      (receipt : Receipt Entry) (spine' : SpineOf Entry) (pass' : PassOf Entry) (draws : Draws spine met entry receipt spine' pass') where
    abbrev line_is : receipt.entry ≡ entry_of who place.Trust (event.Trust asked) (reply.Trust (trust_step list asked).0)
    line_is = entered plan place.Trust spine kept.spine who pass own met meets (event.Trust asked) room (reply.Trust (trust_step list asked).0) entry same receipt spine' pass' draws

    -- the cell with its next state
    pub trust-kept : IsTrustOf plan (record { trust = (trust_step list asked).1; spine = spine' })
    trust-kept = record {
      spine = spine-draws plan place.Trust spine kept.spine who pass own met meets (event.Trust asked) room (reply.Trust (trust_step list asked).0) entry same receipt spine' pass' draws;
      went =
          subst (λ es. TrustWent plan.start.trust es (trust_step list asked).1)
          (sym (drawn-more plan place.Trust spine kept.spine who pass own met meets (event.Trust asked) room (reply.Trust (trust_step list asked).0) entry same receipt spine' pass' draws))
          (trust-goes plan.start.trust list (drawn_on spine) (stamped receipt) asked kept.went (ap (λ (n : Entry). n.event) line_is) (ap (λ (n : Entry). n.reply) line_is));
    }

    pub trust-asks : Asks (shown plan pass) who place.Trust (event.Trust asked) receipt (shown plan pass')
    trust-asks =
        asks-draws plan place.Trust spine kept.spine who pass own met meets (event.Trust asked) room (reply.Trust (trust_step list asked).0) entry same receipt spine' pass' draws
        (trust-replies list asked)

    pub trust-replied : receipt.entry.reply ≡ reply.Trust (trust_step list asked).0
    trust-replied = ap (λ (n : Entry). n.reply) line_is

    pub trust-passes : IsPassOf plan who.worker pass'
    trust-passes = pass-draws plan place.Trust spine kept.spine who pass own met meets (event.Trust asked) room (reply.Trust (trust_step list asked).0) entry same receipt spine' pass' draws

-- What a draw on the trust list leaves: the cell and the pass stand, and the receipt is of what was asked.
pub record Stands (plan : Plan) (who : Who) (pass : PassOf Entry) (asked : TrustEvent) (receipt : Receipt Entry) (list : TrustList) (spine : SpineOf Entry) (after : PassOf Entry) : Type 0 where
  pub kept : IsTrustOf plan (record { trust = list; spine = spine })
  pub asks : Asks (shown plan pass) who place.Trust (event.Trust asked) receipt (shown plan after)
  pub is_pass : IsPassOf plan who.worker after

module _ (plan : Plan) (list : TrustList) (spine : SpineOf Entry) (kept : IsTrustOf plan (record { trust = list; spine = spine })) (who : Who)
    (pass : PassOf Entry) (own : IsPassOf plan who.worker pass) (met : PassOf Entry) (meets : Meets spine pass met) (asked : TrustEvent)
    (proper : IsProperTrust (numbers_in plan.start) asked) (room : parts.HasRoom (shown plan pass) who place.Trust (event.Trust asked)) (now : SpineOf Entry) (same : now ≡ spine) where
  pub draws-trust : HasRoom now.part met.caller met.view
  draws-trust = subst (λ (s : SpineOf Entry). HasRoom s.part met.caller met.view) (sym same) (may-draw-trust plan list spine kept who pass own met meets asked proper room)

  pub trust-stands : (answer : TrustReply) (new : TrustList) → answer ≡ (trust_step list asked).0 → new ≡ (trust_step list asked).1
      → (entry : Entry) → ◌≡◌ {A = Entry} entry (entry_of who place.Trust (event.Trust asked) (reply.Trust answer))
      → (receipt : Receipt Entry) (after : SpineOf Entry) (pass' : PassOf Entry) → Draws now met entry receipt after pass' → Stands plan who pass asked receipt new after pass'
  trust-stands answer new answer_is new_is entry entry_is receipt after pass' draws =
      let drawn = subst (λ (s : SpineOf Entry). Draws s met entry receipt after pass') same draws in
      let is : ◌≡◌ {A = Entry} entry (entry_of who place.Trust (event.Trust asked) (reply.Trust (trust_step list asked).0)) =
      entry_is ∙ ap (λ (r : TrustReply). entry_of who place.Trust (event.Trust asked) (reply.Trust r)) answer_is in
      record {
        kept = subst (λ (l : TrustList). IsTrustOf plan (record { trust = l; spine = after })) (sym new_is) (trust-kept plan list spine kept who pass own met meets asked proper room entry is receipt after pass' drawn);
        asks = trust-asks plan list spine kept who pass own met meets asked proper room entry is receipt after pass' drawn;
        is_pass = trust-passes plan list spine kept who pass own met meets asked proper room entry is receipt after pass' drawn;
      }
