use Rattle.std.proofs.Common.{◌≡◌, sym, ap, subst, ◌∙◌}
use Rattle.std.specs.Prelude.{true, false}
use Rattle.std.specs.Option.{option_copied, option_map_or}
use Rattle.pg_history.specs.Calls.{admits, of_trust}
use Rattle.cs_policy.specs.declared.trust.TrustEvent.TheVariants as trust
use Rattle.cs_policy.specs.declared.entry.Event.TheVariants as event
use Rattle.cs_policy.specs.declared.entry.Place.TheVariants as place
use Rattle.pg_history.specs.Opening.{range_of}
use Rattle.pg_calls.specs.Parts.{PartsNow, Asks}
use Rattle.pg_calls.specs.Tried.{Tries}
use Rattle.pg_calls.proofs.AttachFacts.{unread-done, refused-room, refused-done, lookup-room, barred-done, attach-room, attach-done, attach-proper}
use Rattle.pg_calls.proofs.attaching.attach.Goals as goal

pub ask_file-requires-clause-room : goal.ask_file-requires-clause-room
ask_file-requires-clause-room g c =
    refused-room g.T.Parts.hash (g.T.Parts.shows c.args.parts.now) (g.T.Parts.shows c.file.new.self) c.args.who c.args.file c.args.slice c.in_ok-read.read c.in-Some.bytes.now c.in-Some-slice.range
    (record {
      asks = c.in_ok-read.ensures.asks;
      is_read = sym c.bytes_read.ensures ∙ ap (λ o. option_copied o) c.in-Some.is;
      signed = ap (λ (p : PartsNow). range_of p.numbers c.args.file c.args.slice) (sym c.in_ok-read.ensures.asks.made) ∙ sym c.slice.ensures.range ∙ c.in-Some-slice.is;
    }) c.requires.room c.in-Refused.refusal

pub returns-in_default-clause-enters : goal.returns-in_default-clause-enters
returns-in_default-clause-enters g c =
    unread-done g.T.Parts.hash (g.T.Parts.shows c.args.parts.now) (g.T.Parts.shows c.file.new.self) c.args.who c.args.file c.args.slice c.in_ok-read.read c.in_ok-read.ensures.asks
    (sym c.bytes_read.ensures ∙ ap (λ o. option_copied o) c.in_default.is)

pub returns-in-Refused-clause-enters : goal.returns-in-Refused-clause-enters
returns-in-Refused-clause-enters g c =
    refused-done g.T.Parts.hash (g.T.Parts.shows c.args.parts.now) (g.T.Parts.shows c.file.new.self) c.args.who c.args.file c.args.slice c.in_ok-read.read c.in-Some.bytes.now c.in-Some-slice.range
    (record {
      asks = c.in_ok-read.ensures.asks;
      is_read = sym c.bytes_read.ensures ∙ ap (λ o. option_copied o) c.in-Some.is;
      signed = ap (λ (p : PartsNow). range_of p.numbers c.args.file c.args.slice) (sym c.in_ok-read.ensures.asks.made) ∙ sym c.slice.ensures.range ∙ c.in-Some-slice.is;
    }) c.requires.room c.in-Refused.refusal c.ask_file.result _
    (subst (λ t. Tries g.T.Parts.hash c.in-Some.bytes.now c.in-Some-slice.range (g.T.Parts.shows c.args.parts.now).numbers.page_size t) c.in-Refused.is
    (subst (λ h. Tries h c.in-Some.bytes.now c.in-Some-slice.range (g.T.Parts.shows c.args.parts.now).numbers.page_size c.in_ok-blob.field-0) c.requires.same_hash
    (subst (λ n. Tries g.D.Digester.hash c.in-Some.bytes.now c.in-Some-slice.range n c.in_ok-blob.field-0) (c.page_size-page.ensures.size ∙ ap (λ (p : PartsNow). p.numbers.page_size) c.in_ok-read.ensures.asks.made) c.in_ok-blob.ensures)))
    c.ask_file.ensures.asks

pub trust-lookup-requires-clause-room : goal.trust-lookup-requires-clause-room
trust-lookup-requires-clause-room g c =
    lookup-room g.T.Parts.hash (g.T.Parts.shows c.args.parts.now) (g.T.Parts.shows c.file.new.self) c.args.who c.args.file c.args.slice c.in_ok-read.read c.in-Some.bytes.now c.in-Some-slice.range
    (record {
      asks = c.in_ok-read.ensures.asks;
      is_read = sym c.bytes_read.ensures ∙ ap (λ o. option_copied o) c.in-Some.is;
      signed = ap (λ (p : PartsNow). range_of p.numbers c.args.file c.args.slice) (sym c.in_ok-read.ensures.asks.made) ∙ sym c.slice.ensures.range ∙ c.in-Some-slice.is;
    }) c.requires.room c.in-Signed.blob
    (subst (λ t. Tries g.T.Parts.hash c.in-Some.bytes.now c.in-Some-slice.range (g.T.Parts.shows c.args.parts.now).numbers.page_size t) c.in-Signed.is
    (subst (λ h. Tries h c.in-Some.bytes.now c.in-Some-slice.range (g.T.Parts.shows c.args.parts.now).numbers.page_size c.in_ok-blob.field-0) c.requires.same_hash
    (subst (λ n. Tries g.D.Digester.hash c.in-Some.bytes.now c.in-Some-slice.range n c.in_ok-blob.field-0) (c.page_size-page.ensures.size ∙ ap (λ (p : PartsNow). p.numbers.page_size) c.in_ok-read.ensures.asks.made) c.in_ok-blob.ensures)))

pub returns-then-not-admits-clause-enters : goal.returns-then-not-admits-clause-enters
returns-then-not-admits-clause-enters g c =
    barred-done g.T.Parts.hash (g.T.Parts.shows c.args.parts.now) (g.T.Parts.shows c.file.new.self) c.args.who c.args.file c.args.slice c.in_ok-read.read c.in-Some.bytes.now c.in-Some-slice.range
    (record {
      asks = c.in_ok-read.ensures.asks;
      is_read = sym c.bytes_read.ensures ∙ ap (λ o. option_copied o) c.in-Some.is;
      signed = ap (λ (p : PartsNow). range_of p.numbers c.args.file c.args.slice) (sym c.in_ok-read.ensures.asks.made) ∙ sym c.slice.ensures.range ∙ c.in-Some-slice.is;
    }) c.requires.room c.in-Signed.blob
    (subst (λ t. Tries g.T.Parts.hash c.in-Some.bytes.now c.in-Some-slice.range (g.T.Parts.shows c.args.parts.now).numbers.page_size t) c.in-Signed.is
    (subst (λ h. Tries h c.in-Some.bytes.now c.in-Some-slice.range (g.T.Parts.shows c.args.parts.now).numbers.page_size c.in_ok-blob.field-0) c.requires.same_hash
    (subst (λ n. Tries g.D.Digester.hash c.in-Some.bytes.now c.in-Some-slice.range n c.in_ok-blob.field-0) (c.page_size-page.ensures.size ∙ ap (λ (p : PartsNow). p.numbers.page_size) c.in_ok-read.ensures.asks.made) c.in_ok-blob.ensures)))
    c.trust-lookup.result (g.T.Parts.shows c.trust-lookup.new.self)
    (subst (λ d. Asks (g.T.Parts.shows c.file.new.self) c.args.who place.Trust (event.Trust (trust.Lookup d)) c.trust-lookup.result (g.T.Parts.shows c.trust-lookup.new.self)) c.cdhash-cdhash.ensures c.trust-lookup.ensures.asks)
    (subst (λ a. option_map_or (admits a c.in-Signed.blob) (of_trust c.trust-lookup.result.entry.reply) false ≡ false)
    (c.adhoc-adhoc.ensures.policy ∙ ap (λ (p : PartsNow). p.numbers.adhoc) c.trust-lookup.ensures.asks.made ∙ ap (λ (p : PartsNow). p.numbers.adhoc) c.in_ok-read.ensures.asks.made)
    (sym c.admits.ensures ∙ c.if-not-admits.true))

pub file-requires-2-clause-proper : goal.file-requires-2-clause-proper
file-requires-2-clause-proper g c =
    attach-proper g.T.Parts.hash (g.T.Parts.shows c.args.parts.now) (g.T.Parts.shows c.file.new.self) c.args.who c.args.file c.args.slice c.in_ok-read.read c.in-Some.bytes.now c.in-Some-slice.range
    (record {
      asks = c.in_ok-read.ensures.asks;
      is_read = sym c.bytes_read.ensures ∙ ap (λ o. option_copied o) c.in-Some.is;
      signed = ap (λ (p : PartsNow). range_of p.numbers c.args.file c.args.slice) (sym c.in_ok-read.ensures.asks.made) ∙ sym c.slice.ensures.range ∙ c.in-Some-slice.is;
    }) c.requires.room c.in-Signed.blob
    (subst (λ t. Tries g.T.Parts.hash c.in-Some.bytes.now c.in-Some-slice.range (g.T.Parts.shows c.args.parts.now).numbers.page_size t) c.in-Signed.is
    (subst (λ h. Tries h c.in-Some.bytes.now c.in-Some-slice.range (g.T.Parts.shows c.args.parts.now).numbers.page_size c.in_ok-blob.field-0) c.requires.same_hash
    (subst (λ n. Tries g.D.Digester.hash c.in-Some.bytes.now c.in-Some-slice.range n c.in_ok-blob.field-0) (c.page_size-page.ensures.size ∙ ap (λ (p : PartsNow). p.numbers.page_size) c.in_ok-read.ensures.asks.made) c.in_ok-blob.ensures)))
    c.trust-lookup.result (g.T.Parts.shows c.trust-lookup.new.self)
    (subst (λ d. Asks (g.T.Parts.shows c.file.new.self) c.args.who place.Trust (event.Trust (trust.Lookup d)) c.trust-lookup.result (g.T.Parts.shows c.trust-lookup.new.self)) c.cdhash-cdhash.ensures c.trust-lookup.ensures.asks)
    (subst (λ a. option_map_or (admits a c.in-Signed.blob) (of_trust c.trust-lookup.result.entry.reply) false ≡ true)
    (c.adhoc-adhoc.ensures.policy ∙ ap (λ (p : PartsNow). p.numbers.adhoc) c.trust-lookup.ensures.asks.made ∙ ap (λ (p : PartsNow). p.numbers.adhoc) c.in_ok-read.ensures.asks.made)
    (sym c.admits.ensures ∙ c.if-not-admits.false))

pub file-requires-2-clause-room : goal.file-requires-2-clause-room
file-requires-2-clause-room g c =
    attach-room g.T.Parts.hash (g.T.Parts.shows c.args.parts.now) (g.T.Parts.shows c.file.new.self) c.args.who c.args.file c.args.slice c.in_ok-read.read c.in-Some.bytes.now c.in-Some-slice.range
    (record {
      asks = c.in_ok-read.ensures.asks;
      is_read = sym c.bytes_read.ensures ∙ ap (λ o. option_copied o) c.in-Some.is;
      signed = ap (λ (p : PartsNow). range_of p.numbers c.args.file c.args.slice) (sym c.in_ok-read.ensures.asks.made) ∙ sym c.slice.ensures.range ∙ c.in-Some-slice.is;
    }) c.requires.room c.in-Signed.blob
    (subst (λ t. Tries g.T.Parts.hash c.in-Some.bytes.now c.in-Some-slice.range (g.T.Parts.shows c.args.parts.now).numbers.page_size t) c.in-Signed.is
    (subst (λ h. Tries h c.in-Some.bytes.now c.in-Some-slice.range (g.T.Parts.shows c.args.parts.now).numbers.page_size c.in_ok-blob.field-0) c.requires.same_hash
    (subst (λ n. Tries g.D.Digester.hash c.in-Some.bytes.now c.in-Some-slice.range n c.in_ok-blob.field-0) (c.page_size-page.ensures.size ∙ ap (λ (p : PartsNow). p.numbers.page_size) c.in_ok-read.ensures.asks.made) c.in_ok-blob.ensures)))
    c.trust-lookup.result (g.T.Parts.shows c.trust-lookup.new.self)
    (subst (λ d. Asks (g.T.Parts.shows c.file.new.self) c.args.who place.Trust (event.Trust (trust.Lookup d)) c.trust-lookup.result (g.T.Parts.shows c.trust-lookup.new.self)) c.cdhash-cdhash.ensures c.trust-lookup.ensures.asks)

pub returns-clause-enters : goal.returns-clause-enters
returns-clause-enters g c =
    attach-done g.T.Parts.hash (g.T.Parts.shows c.args.parts.now) (g.T.Parts.shows c.file.new.self) c.args.who c.args.file c.args.slice c.in_ok-read.read c.in-Some.bytes.now c.in-Some-slice.range
    (record {
      asks = c.in_ok-read.ensures.asks;
      is_read = sym c.bytes_read.ensures ∙ ap (λ o. option_copied o) c.in-Some.is;
      signed = ap (λ (p : PartsNow). range_of p.numbers c.args.file c.args.slice) (sym c.in_ok-read.ensures.asks.made) ∙ sym c.slice.ensures.range ∙ c.in-Some-slice.is;
    }) c.requires.room c.in-Signed.blob
    (subst (λ t. Tries g.T.Parts.hash c.in-Some.bytes.now c.in-Some-slice.range (g.T.Parts.shows c.args.parts.now).numbers.page_size t) c.in-Signed.is
    (subst (λ h. Tries h c.in-Some.bytes.now c.in-Some-slice.range (g.T.Parts.shows c.args.parts.now).numbers.page_size c.in_ok-blob.field-0) c.requires.same_hash
    (subst (λ n. Tries g.D.Digester.hash c.in-Some.bytes.now c.in-Some-slice.range n c.in_ok-blob.field-0) (c.page_size-page.ensures.size ∙ ap (λ (p : PartsNow). p.numbers.page_size) c.in_ok-read.ensures.asks.made) c.in_ok-blob.ensures)))
    c.trust-lookup.result (g.T.Parts.shows c.trust-lookup.new.self)
    (subst (λ d. Asks (g.T.Parts.shows c.file.new.self) c.args.who place.Trust (event.Trust (trust.Lookup d)) c.trust-lookup.result (g.T.Parts.shows c.trust-lookup.new.self)) c.cdhash-cdhash.ensures c.trust-lookup.ensures.asks)
    (subst (λ a. option_map_or (admits a c.in-Signed.blob) (of_trust c.trust-lookup.result.entry.reply) false ≡ true)
    (c.adhoc-adhoc.ensures.policy ∙ ap (λ (p : PartsNow). p.numbers.adhoc) c.trust-lookup.ensures.asks.made ∙ ap (λ (p : PartsNow). p.numbers.adhoc) c.in_ok-read.ensures.asks.made)
    (sym c.admits.ensures ∙ c.if-not-admits.false))
    c.in-Ok.attached _ c.in-Ok.ensures.asks
