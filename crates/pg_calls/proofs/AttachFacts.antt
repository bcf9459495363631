-- The next event of an attach by what was read, and by what the trust list answered.
use Rattle.std.proofs.Common.{◌≡◌, ℕ, Bool, true, false, List, [], ◌∷◌, Option, Some, None, refl, sym, ap, subst, ◌∙◌, arith}
use Rattle.std.specs.Prelude.{Contains, ◌++◌, if◌then◌else◌}
use Rattle.std.proofs.lemmas.Grind.{common_steps}
use Rattle.std.proofs.lemmas.List.Elements.{Contains-append_right}
use Rattle.std.specs.Option.{option_map, option_map_or, option_and_then}
use Rattle.pg_bytes.specs.declared.fields.Range.{Range}
use Rattle.pg_digest.specs.Kinds.{Hash}
use Rattle.cs_policy.specs.declared.file.FileEvent.TheVariants as file
use Rattle.cs_policy.specs.declared.trust.TrustEvent.TheVariants as trust
use Rattle.cs_policy.specs.declared.trust.TrustReply.{TrustReply}
use Rattle.cs_policy.specs.declared.entry.Event.TheVariants as event
use Rattle.cs_policy.specs.declared.entry.Place.TheVariants as place
use Rattle.cs_policy.specs.declared.call.Call.TheVariants as call
use Rattle.cs_blob.specs.declared.refusal.BlobRefusal.{BlobRefusal}
use Rattle.cs_blob.specs.Refusals.{refusal_of}
use Rattle.cs_blob.specs.Rules.{broken}
use Rattle.cs_blob.specs.Signature.{Signature}
use Rattle.cs_blob.specs.Signed.{signature, IsSignature}
use Rattle.pg_history.specs.Machine.{Line}
use Rattle.pg_history.specs.Opening.{Numbers, range_of}
use Rattle.pg_history.specs.Calls.{Asked, admits, of_trust, tried_by, tried, bytes_of, attached_if, attached_by, next_event}
use Rattle.cs_policy.specs.declared.file.FileEvent.{FileEvent}
use Rattle.pg_calls.specs.Replies.{Answers}
use Rattle.cs_policy.specs.declared.refusal.Refusal.{Refusal}
use Rattle.cs_policy.specs.declared.entry.Event.{Event}
use Rattle.cs_policy.specs.declared.entry.Reply.{Reply}
use Rattle.cs_policy.specs.declared.entry.Reply.TheVariants as reply
use Rattle.cs_policy.specs.declared.entry.Place.{Place}
use Rattle.cs_policy.specs.declared.entry.Who.{Who}
use Rattle.cs_policy.specs.declared.entry.Entry.{Entry}
use Rattle.cs_policy.specs.declared.call.Call.{Call}
use Rattle.pg_book.specs.declared.receipt.Receipt.{Receipt}
use Rattle.pg_book.specs.Needs.{nothing_needed}
use Rattle.pg_book.specs.Closing.{stamped}
use Rattle.pg_history.specs.ByParts.{is_at}
use Rattle.pg_calls.specs.Room.{Within, one_entry, Use, at_file, use_at, uses_at, uses_of, call_uses}
use Rattle.pg_calls.specs.Parts.{PartsNow, HasRoom, Asks}
use Rattle.pg_calls.specs.Asking.{IsReadingOf, IsLookupOf, IsProperBlob}
use Rattle.pg_calls.specs.Calls.{HasRoomFor, Enters, BreaksOff, is_consequence}
use Rattle.pg_calls.specs.Tried.{IsRefusedBy}
use Rattle.pg_history.proofs.ReplyFacts.{read_is}
use Rattle.pg_calls.proofs.RoomFacts.{within-refl, within-plus, within-behind, number-same, FitsOne, FitsNext}
use Rattle.pg_calls.proofs.CallFacts.{Next, Complete, SoFar, step, room, enters, first, second, one-done, two-done, answer-last, all-counted}

module _ (hash : Hash) (numbers : Numbers) (number slice : ℕ) (read : Line) where
  -- no bytes were read
  pub next-unread : bytes_of read ≡ None → Complete hash numbers (call.Attach number slice) (read ∷ [])
  next-unread e = ap (λ o. option_and_then (λ bytes. option_map (tried hash numbers.page_size number read.stamp bytes) (range_of numbers number slice)) o) e

  module _ (bytes : List ℕ) (range : Range) (is_read : bytes_of read ≡ Some bytes) (signed : range_of numbers number slice ≡ Some range) where
    next-tried : ◌≡◌ {A = Option Asked} (next_event hash numbers (call.Attach number slice) (read ∷ []))
        (Some (tried_by (broken hash bytes range (Some numbers.page_size)) number read.stamp (signature hash bytes range (Some numbers.page_size))))
    next-tried =
        ap (λ o. option_and_then (λ b. option_map (tried hash numbers.page_size number read.stamp b) (range_of numbers number slice)) o) is_read
        ∙ ap (λ o. option_map (tried hash numbers.page_size number read.stamp bytes) o) signed

    pub next-refused : (rule : BlobRefusal) → broken hash bytes range (Some numbers.page_size) ≡ Some rule
        → Next hash numbers (call.Attach number slice) (read ∷ []) (place.File number) (event.File (file.RefuseBlob read.stamp (refusal_of rule)))
    next-refused rule e = next-tried ∙ ap (λ o. Some (tried_by o number read.stamp (signature hash bytes range (Some numbers.page_size)))) e

    pub next-lookup : (blob : Signature) → IsSignature hash bytes range (Some numbers.page_size) blob
        → Next hash numbers (call.Attach number slice) (read ∷ []) place.Trust (event.Trust (trust.Lookup blob.cdhash))
    next-lookup blob is =
        next-tried
        ∙ ap (λ o. Some (tried_by o number read.stamp (signature hash bytes range (Some numbers.page_size)))) is.unbroken
        ∙ ap (λ (b : Signature). Some (place.Trust, event.Trust (trust.Lookup b.cdhash))) (sym is.value)

    -- what is no answer of the trust list ends the call
    pub next-unanswered : (x : Line) → of_trust x.entry.reply ≡ None → Complete hash numbers (call.Attach number slice) (read ∷ x ∷ [])
    next-unanswered x e =
        ap (λ o. attached_by hash numbers number slice read.stamp x.stamp o (range_of numbers number slice) (of_trust x.entry.reply)) is_read
        ∙ ap (λ o. attached_by hash numbers number slice read.stamp x.stamp (Some bytes) o (of_trust x.entry.reply)) signed
        ∙ ap (λ o. attached_by hash numbers number slice read.stamp x.stamp (Some bytes) (Some range) o) e

    module _ (lookup : Line) (blob : Signature) (is : IsSignature hash bytes range (Some numbers.page_size) blob) where
      abbrev by_answer : Option TrustReply → Option Asked
      by_answer answer = attached_by hash numbers number slice read.stamp lookup.stamp (Some bytes) (Some range) answer

      next-answered : ◌≡◌ {A = Option Asked} (next_event hash numbers (call.Attach number slice) (read ∷ lookup ∷ [])) (by_answer (of_trust lookup.entry.reply))
      next-answered =
          ap (λ o. attached_by hash numbers number slice read.stamp lookup.stamp o (range_of numbers number slice) (of_trust lookup.entry.reply)) is_read
          ∙ ap (λ o. attached_by hash numbers number slice read.stamp lookup.stamp (Some bytes) o (of_trust lookup.entry.reply)) signed

      abbrev attached_one : Bool → Signature → Option Asked
      attached_one b s = attached_if b number slice read.stamp lookup.stamp s

      -- what the answer lets happen
      by_admits : (answer : Option TrustReply) (b : Bool) → b ≡ option_map_or (admits numbers.adhoc blob) answer false
          → ◌≡◌ {A = Option Asked} (by_answer answer) (attached_one b blob)
      by_admits None true e = absurd (grind (arith, common_steps, e))
      by_admits None false e = refl
      by_admits (Some answer) b e =
          ap (λ (s : Signature). attached_one (admits numbers.adhoc s answer) s) (sym is.value)
          ∙ ap (λ c. attached_one c blob) (sym e)

      pub next-admitted : option_map_or (admits numbers.adhoc blob) (of_trust lookup.entry.reply) false ≡ true
          → Next hash numbers (call.Attach number slice) (read ∷ lookup ∷ []) (place.File number) (event.File (file.AddBlob slice blob.cdhash read.stamp lookup.stamp))
      next-admitted e = next-answered ∙ by_admits (of_trust lookup.entry.reply) true (sym e)

      pub next-barred : option_map_or (admits numbers.adhoc blob) (of_trust lookup.entry.reply) false ≡ false
          → Complete hash numbers (call.Attach number slice) (read ∷ lookup ∷ [])
      next-barred e = next-answered ∙ by_admits (of_trust lookup.entry.reply) false (sym e)

some-same : (a b : List ℕ) → Some a ≡ Some b → a ≡ b
some-same a b e = grind (arith, common_steps, e)

-- a file answers as a file
file-answers : (numbers : Numbers) (number : ℕ) (e : FileEvent) (r : Reply) → Answers numbers (place.File number) (event.File e) r → of_trust r ≡ None
file-answers numbers number e (reply.File answer) answers = refl
file-answers numbers number e (reply.Proc answer) answers = absurd answers
file-answers numbers number e (reply.Trust answer) answers = absurd answers

signed-bytes : (hash : Hash) (bytes : List ℕ) (range : Range) (page : Option ℕ) (blob : Signature) → IsSignature hash bytes range page blob → blob.bytes ≡ bytes
unfolding signature
signed-bytes hash bytes range page blob is = ap (λ (b : Signature). b.bytes) is.value

signed-range : (hash : Hash) (bytes : List ℕ) (range : Range) (page : Option ℕ) (blob : Signature) → IsSignature hash bytes range page blob → blob.slice ≡ range
unfolding signature
signed-range hash bytes range page blob is = ap (λ (b : Signature). b.slice) is.value

-- ---- the call

-- the bytes of the slice's signature were read by the call's first event
pub record HasRead (start now : PartsNow) (who : Who) (number slice : ℕ) (read : Receipt Entry) (bytes : List ℕ) (range : Range) : Type 0 where
  pub asks : Asks start who (place.File number) (event.File (file.ReadSignature slice)) read now
  pub is_read : bytes_of (stamped read) ≡ Some bytes
  pub signed : range_of start.numbers number slice ≡ Some range

module _ (hash : Hash) (start now : PartsNow) (who : Who) (number slice : ℕ) where
  abbrev ca : Call
  ca = call.Attach number slice

  abbrev pub fits-read : FitsNext (uses_of ca) [] (place.File number) (event.File (file.ReadSignature slice))
  fits-read = record { there = number-same number; uses = within-refl one_entry }

  pub one-read : (read : Receipt Entry) → Asks start who (place.File number) (event.File (file.ReadSignature slice)) read now
      → SoFar hash ca (uses_of ca) who start (stamped read ∷ []) now
  one-read read asks = first hash ca (uses_of ca) who start (all-counted ca) _ _ _ _ refl fits-read asks

  pub unread-done : (read : Receipt Entry) → Asks start who (place.File number) (event.File (file.ReadSignature slice)) read now
      → bytes_of (stamped read) ≡ None → Enters hash ca who start read.entry.reply now
  unread-done read asks none =
      one-done hash ca (uses_of ca) who start (all-counted ca) _ _ _ _ refl fits-read asks refl
      (next-unread hash start.numbers number slice (stamped read) none)

  pub broken-off : (read : Receipt Entry) → Asks start who (place.File number) (event.File (file.ReadSignature slice)) read now
      → BreaksOff hash ca who start now
  broken-off read asks = record {
    own = stamped read ∷ [];
    adds = (one-read read asks).adds;
    begins = (one-read read asks).begins;
    few = omega arith;
  }

  module _ (read : Receipt Entry) (bytes : List ℕ) (range : Range) (has : HasRead start now who number slice read bytes range)
      (room-for : HasRoomFor start who ca) where
    abbrev so1 : SoFar hash ca (uses_of ca) who start (stamped read ∷ []) now
    so1 = one-read read has.asks

    -- the refusal of the bytes
    abbrev refusing : List Use
    refusing = at_file number one_entry ∷ at_file number one_entry ∷ []

    refusing-counted : (p : Place) → Within (uses_at p refusing) (call_uses ca p)
    refusing-counted p = within-plus _ _ _ _ (within-refl (use_at p (at_file number one_entry)))
        (within-behind _ _ _ (within-plus _ _ _ _ (by_test (is_at (place.File number) p)) (within-refl nothing_needed)))
      where
        by_test : (b : Bool) → Within (if b then one_entry else nothing_needed) (if b then record one_entry { blobs = 1 } else nothing_needed)
        by_test true = record {
          entries = omega arith;
          regions = omega arith;
          records = omega arith;
          copies = omega arith;
          blobs = omega arith;
          numbers = omega arith;
        }
        by_test false = within-refl nothing_needed

    fits-refuse : FitsOne (at_file number one_entry) (place.File number) (event.File (file.ReadSignature slice))
    fits-refuse = record { there = number-same number; uses = within-refl one_entry }

    refusing-one : SoFar hash ca refusing who start (stamped read ∷ []) now
    refusing-one = first hash ca refusing who start refusing-counted _ _ _ _ refl fits-refuse has.asks

    abbrev fits-second : (refusal : Refusal) → FitsNext refusing (stamped read ∷ []) (place.File number) (event.File (file.RefuseBlob read.stamp refusal))
    fits-second refusal = record { there = number-same number; uses = within-refl one_entry }

    pub refused-room : (refusal : Refusal) → HasRoom now who (place.File number) (event.File (file.RefuseBlob read.stamp refusal))
    refused-room refusal =
        room hash ca refusing who start _ now (place.File number) (event.File (file.RefuseBlob read.stamp refusal)) refusing-one
        refusing-counted room-for (fits-second refusal)

    pub refused-done : (refusal : Refusal) (refuse : Receipt Entry) (later : PartsNow)
        → IsRefusedBy hash bytes range start.numbers.page_size refusal
        → Asks now who (place.File number) (event.File (file.RefuseBlob read.stamp refusal)) refuse later
        → Enters hash ca who start refuse.entry.reply later
    refused-done refusal refuse later is asks =
        two-done hash ca refusing who start refusing-counted read now (place.File number) (event.File (file.RefuseBlob read.stamp refusal)) refuse later
        refusing-one next (fits-second refusal) asks refl
        (next-unanswered hash start.numbers number slice (stamped read) bytes range has.is_read has.signed (stamped refuse) (file-answers now.numbers number (file.RefuseBlob read.stamp refusal) refuse.entry.reply asks.answers))
      where
        next : Next hash start.numbers ca (stamped read ∷ []) (place.File number) (event.File (file.RefuseBlob read.stamp refusal))
        next = subst (λ r. Next hash start.numbers ca (stamped read ∷ []) (place.File number) (event.File (file.RefuseBlob read.stamp r))) (sym is.same)
            (next-refused hash start.numbers number slice (stamped read) bytes range has.is_read has.signed is.rule is.is_broken)

    module _ (blob : Signature) (is : IsSignature hash bytes range (Some start.numbers.page_size) blob) where
      abbrev fits-lookup : FitsNext (uses_of ca) (stamped read ∷ []) place.Trust (event.Trust (trust.Lookup blob.cdhash))
      fits-lookup = record { there = refl; uses = within-refl one_entry }

      pub lookup-room : HasRoom now who place.Trust (event.Trust (trust.Lookup blob.cdhash))
      lookup-room =
          room hash ca (uses_of ca) who start _ now place.Trust (event.Trust (trust.Lookup blob.cdhash)) so1 (all-counted ca) room-for fits-lookup

      next2 : Next hash start.numbers ca (stamped read ∷ []) place.Trust (event.Trust (trust.Lookup blob.cdhash))
      next2 = next-lookup hash start.numbers number slice (stamped read) bytes range has.is_read has.signed blob is

      module _ (lookup : Receipt Entry) (later : PartsNow) (asks : Asks now who place.Trust (event.Trust (trust.Lookup blob.cdhash)) lookup later) where
        pub barred-done : option_map_or (admits start.numbers.adhoc blob) (of_trust lookup.entry.reply) false ≡ false
            → Enters hash ca who start lookup.entry.reply later
        barred-done barred =
            two-done hash ca (uses_of ca) who start (all-counted ca) read now place.Trust (event.Trust (trust.Lookup blob.cdhash)) lookup later
            so1 next2 fits-lookup asks refl
            (next-barred hash start.numbers number slice (stamped read) bytes range has.is_read has.signed (stamped lookup) blob is barred)

        so2 : SoFar hash ca (uses_of ca) who start (stamped read ∷ stamped lookup ∷ []) later
        so2 = second hash ca (uses_of ca) who start (all-counted ca) read now place.Trust (event.Trust (trust.Lookup blob.cdhash)) lookup later so1 next2 fits-lookup asks

        abbrev attaches : Event
        attaches = event.File (file.AddBlob slice blob.cdhash read.stamp lookup.stamp)

        abbrev fits-add : FitsNext (uses_of ca) (stamped read ∷ stamped lookup ∷ []) (place.File number) attaches
        fits-add = record { there = number-same number; uses = within-refl (record one_entry { blobs = 1 }) }

        pub attach-room : HasRoom later who (place.File number) attaches
        attach-room = room hash ca (uses_of ca) who start _ later (place.File number) attaches so2 (all-counted ca) room-for fits-add

        module _ (yes : option_map_or (admits start.numbers.adhoc blob) (of_trust lookup.entry.reply) false ≡ true) where
          pub attach-done : (add : Receipt Entry) (last : PartsNow) → Asks later who (place.File number) attaches add last
              → Enters hash ca who start add.entry.reply last
          attach-done add last asks3 =
              enters hash ca (uses_of ca) who start (stamped read ∷ stamped lookup ∷ stamped add ∷ []) last add.entry.reply
              (step hash ca (uses_of ca) who start (stamped read ∷ stamped lookup ∷ []) later (place.File number) attaches add last so2
              (next-admitted hash start.numbers number slice (stamped read) bytes range has.is_read has.signed (stamped lookup) blob is yes) fits-add asks3)
              (all-counted ca) refl
              (answer-last (stamped read ∷ stamped lookup ∷ []) (stamped add) (ap is_consequence asks3.event))

          -- the numbers stay
          same-numbers : later.numbers ≡ start.numbers
          same-numbers = ap (λ (p : PartsNow). p.numbers) so2.adds.made

          pub attach-proper : IsProperBlob hash later who number slice blob read lookup
          attach-proper = record {
            signed = subst (λ (n : Numbers). IsSignature hash blob.bytes blob.slice (Some n.page_size) blob) (sym same-numbers)
                (subst (λ bs. IsSignature hash bs blob.slice (Some start.numbers.page_size) blob) (sym same-bytes)
                (subst (λ r. IsSignature hash bytes r (Some start.numbers.page_size) blob) (sym same-range) is));
            range = ap (λ (n : Numbers). range_of n number slice) same-numbers ∙ has.signed ∙ ap Some (sym same-range);
            reading = subst (λ (n : Numbers). IsReadingOf n who number slice blob.bytes read) (sym same-numbers)
                (subst (λ bs. IsReadingOf start.numbers who number slice bs read) (sym same-bytes) (record {
                  by_whom = has.asks.by_whom;
                  part = has.asks.part;
                  place = has.asks.place;
                  event = has.asks.event;
                  reply = read_is read.entry.reply bytes has.is_read;
                }));
            looked_up = subst (λ (n : Numbers). IsLookupOf n who blob lookup) (sym same-numbers) (looked lookup.entry.reply refl);
            read_here = subst (λ (p : PartsNow). Contains p.made (stamped read)) (sym so2.adds.made) (here start.made);
            looked_up_here = subst (λ (p : PartsNow). Contains p.made (stamped lookup)) (sym so2.adds.made) (there start.made);
          }
            where
              same-bytes : blob.bytes ≡ bytes
              same-bytes = signed-bytes hash bytes range (Some start.numbers.page_size) blob is

              same-range : blob.slice ≡ range
              same-range = signed-range hash bytes range (Some start.numbers.page_size) blob is

              looked : (r : Reply) → lookup.entry.reply ≡ r → IsLookupOf start.numbers who blob lookup
              looked (reply.File answer) e = absurd (grind (arith, common_steps, yes, e))
              looked (reply.Proc answer) e = absurd (grind (arith, common_steps, yes, e))
              looked (reply.Trust answer) e = record {
                answer = answer;
                by_whom = asks.by_whom;
                place = asks.place;
                event = asks.event;
                reply = e;
                admitted = ap (λ (r : Reply). option_map_or (admits start.numbers.adhoc blob) (of_trust r) false) (sym e) ∙ yes;
              }

              here : (xs : List Line) → Contains (xs ++ stamped read ∷ stamped lookup ∷ []) (stamped read)
              here xs = Contains-append_right xs (stamped read ∷ stamped lookup ∷ []) (stamped read) (0, omega arith, refl)

              there : (xs : List Line) → Contains (xs ++ stamped read ∷ stamped lookup ∷ []) (stamped lookup)
              there xs = Contains-append_right xs (stamped read ∷ stamped lookup ∷ []) (stamped lookup) (1, omega arith, refl)
