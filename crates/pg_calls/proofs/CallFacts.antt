-- A call as far as it has come: its entries so far, and what follows from them.
use Rattle.std.proofs.Common.{◌≡◌, Bool, true, false, List, [], ◌∷◌, ◌++◌, Option, Some, None, refl, sym, ap, subst, ◌∙◌, arith, append_assoc, append-nil}
use Rattle.std.specs.Prelude.{not, filter, if◌then◌else◌}
use Rattle.std.specs.Option.{option_map, option_and_then}
use Rattle.std.proofs.lemmas.Grind.{common_steps}
use Rattle.std.proofs.lemmas.List.Elements.{All-append, All-cons, filter-append}
use Rattle.pg_book.specs.declared.receipt.Receipt.{Receipt}
use Rattle.pg_book.specs.Closing.{stamped}
use Rattle.pg_digest.specs.Kinds.{Hash}
use Rattle.cs_policy.specs.declared.file.FileReply.{FileReply}
use Rattle.cs_policy.specs.declared.file.FileReply.TheVariants as file_reply
use Rattle.cs_policy.specs.declared.process.ProcEvent.{ProcEvent}
use Rattle.cs_policy.specs.declared.process.ProcEvent.TheVariants as process
use Rattle.cs_policy.specs.declared.entry.Event.{Event}
use Rattle.cs_policy.specs.declared.entry.Event.TheVariants as event
use Rattle.cs_policy.specs.declared.entry.Reply.{Reply}
use Rattle.cs_policy.specs.declared.entry.Place.{Place}
use Rattle.cs_policy.specs.declared.entry.Who.{Who}
use Rattle.cs_policy.specs.declared.entry.Entry.{Entry}
use Rattle.cs_policy.specs.declared.call.Call.{Call}
use Rattle.pg_history.specs.Machine.{Line}
use Rattle.pg_history.specs.Opening.{Numbers}
use Rattle.pg_history.specs.Calls.{Asked, judged, next_event}
use Rattle.pg_history.specs.Legal.{Follows}
use Rattle.pg_calls.specs.Room.{plus, Within, one_entry, process_uses, event_uses, given_to, Use, uses_at, uses_of, call_uses}
use Rattle.pg_calls.specs.Parts.{PartsNow, HasRoom, Asks}
use Rattle.pg_calls.specs.Calls.{HasRoomFor, IsOf, Adds, Enters, Begins, is_consequence, last_of, answer_of}
use Rattle.pg_calls.proofs.RoomFacts.{within-refl, within-trans, within-join, used_by-append, Fit, FitsNext, fit-snoc, fit-used, fit-next}

-- the event is the next of the call
abbrev pub Next : Hash → Numbers → Call → List Line → Place → Event → Type 0
Next hash numbers c made at e = ◌≡◌ {A = Option Asked} (next_event hash numbers c made) (Some (at, e))

module _ (hash : Hash) (numbers : Numbers) (c : Call) where
  pub begins-snoc : (made xs : List Line) (x : Line) → Begins hash numbers c made xs → Next hash numbers c (made ++ xs) x.entry.place x.entry.event
      → Begins hash numbers c made (xs ++ x ∷ [])
  begins-snoc made [] x begins next = (subst (λ m. Next hash numbers c m x.entry.place x.entry.event) (append-nil made) next, tt)
  begins-snoc made (y ∷ ys) x begins next =
      (begins.0, begins-snoc (made ++ y ∷ []) ys x begins.1 (subst (λ m. Next hash numbers c m x.entry.place x.entry.event) (sym (append_assoc made (y ∷ []) ys)) next))

  pub begins-follows : (made xs : List Line) → Begins hash numbers c made xs → ◌≡◌ {A = Option Asked} (next_event hash numbers c (made ++ xs)) None
      → Follows hash numbers c made xs
  begins-follows made [] begins none = subst (λ m. ◌≡◌ {A = Option Asked} (next_event hash numbers c m) None) (append-nil made) none
  begins-follows made (y ∷ ys) begins none =
      (begins.0, begins-follows (made ++ y ∷ []) ys begins.1 (subst (λ m. ◌≡◌ {A = Option Asked} (next_event hash numbers c m) None) (sym (append_assoc made (y ∷ []) ys)) none))

-- The entries that a call has made so far are its first ones, and each is one of these uses.
pub record SoFar (hash : Hash) (c : Call) (ss : List Use) (who : Who) (start : PartsNow) (own : List Line) (now : PartsNow) : Type 0 where
  pub adds : Adds who start own now
  pub begins : Begins hash start.numbers c [] own
  pub fit : Fit ss own

pub adds-none : (who : Who) (start : PartsNow) → Adds who start [] start
adds-none who start = record {
  made = ap (λ m. record start { made = m }) (sym (append-nil start.made));
  of_call = λ k d lt. absurd (omega (arith, lt));
}

pub asked-is_of : (who : Who) (old : PartsNow) (at : Place) (e : Event) (receipt : Receipt Entry) (new : PartsNow) → Asks old who at e receipt new
    → IsOf old.numbers who (stamped receipt)
asked-is_of who old at e receipt new asks = record {
  by_whom = asks.by_whom;
  part = grind (arith, asks.part, asks.place);
  caller = asks.caller;
}

pub adds-one : (who : Who) (start : PartsNow) (own : List Line) (now : PartsNow) (at : Place) (e : Event) (receipt : Receipt Entry) (new : PartsNow)
    → Adds who start own now → Asks now who at e receipt new → Adds who start (own ++ stamped receipt ∷ []) new
adds-one who start own now at e receipt new adds asks = record {
  made = asks.made
      ∙ ap (λ (p : PartsNow). record p { made = p.made ++ stamped receipt ∷ [] }) adds.made
      ∙ ap (λ m. record start { made = m }) (append_assoc start.made own (stamped receipt ∷ []));
  of_call = All-append (IsOf start.numbers who) own (stamped receipt ∷ []) adds.of_call
      (All-cons (IsOf start.numbers who) (stamped receipt) [] one (λ k d lt. absurd (omega (arith, lt))));
}
  where
    one : IsOf start.numbers who (stamped receipt)
    one = subst (λ (p : PartsNow). IsOf p.numbers who (stamped receipt)) adds.made (asked-is_of who now at e receipt new asks)

module _ (hash : Hash) (c : Call) (ss : List Use) (who : Who) (start : PartsNow) where
  pub none : SoFar hash c ss who start [] start
  none = record { adds = adds-none who start; begins = tt; fit = tt }

  pub step : (own : List Line) (now : PartsNow) (at : Place) (e : Event) (receipt : Receipt Entry) (new : PartsNow)
      → SoFar hash c ss who start own now → Next hash start.numbers c own at e → FitsNext ss own at e → Asks now who at e receipt new
      → SoFar hash c ss who start (own ++ stamped receipt ∷ []) new
  step own now at e receipt new so next fits asks = record {
    adds = adds-one who start own now at e receipt new so.adds asks;
    begins = begins-snoc hash start.numbers c [] own (stamped receipt) so.begins
        (subst (λ p. Next hash start.numbers c own p receipt.entry.event) (sym asks.place)
        (subst (λ x. Next hash start.numbers c own at x) (sym asks.event) next));
    fit = fit-snoc ss own (stamped receipt) so.fit
        (subst (λ p. FitsNext ss own p receipt.entry.event) (sym asks.place)
        (subst (λ x. FitsNext ss own at x) (sym asks.event) fits));
  }

  -- there is room for the event that follows
  pub room : (own : List Line) (now : PartsNow) (at : Place) (e : Event) → SoFar hash c ss who start own now
      → ((p : Place) → Within (uses_at p ss) (call_uses c p)) → HasRoomFor start who c → FitsNext ss own at e → HasRoom now who at e
  room own now at e so within has fits =
      subst (λ (p : PartsNow). HasRoom p who at e) (sym so.adds.made)
      (λ here. subst (λ n. Within (plus n (event_uses e)) (given_to start.numbers start.needs who.worker at)) (sym (used_by-append who.worker at start.made own))
      (within-join _ _ _ _ _ (has at here) (within-trans _ _ _ (fit-next who.worker at e ss own so.fit fits) (within at))))

  -- the call is complete
  pub enters : (own : List Line) (now : PartsNow) (answer : Reply) → SoFar hash c ss who start own now
      → ((p : Place) → Within (uses_at p ss) (call_uses c p)) → ◌≡◌ {A = Option Asked} (next_event hash start.numbers c own) None → answer_of own ≡ Some answer
      → Enters hash c who start answer now
  enters own now answer so within done answers = record {
    own = own;
    adds = so.adds;
    follows = begins-follows hash start.numbers c [] own so.begins done;
    answers = answers;
    room = λ at. within-trans _ _ _ (fit-used who.worker at ss own so.fit) (within at);
  }

-- ---- what a call answers

last-snoc : (xs : List Line) (x : Line) → last_of (xs ++ x ∷ []) ≡ Some x
last-snoc [] x = refl
last-snoc (y ∷ []) x = refl
last-snoc (y ∷ z ∷ zs) x = last-snoc (z ∷ zs) x

abbrev tells : Line → Bool
tells e = not (is_consequence e.entry.event)

-- one entry more is the answer, unless it is a consequence
pub answer-last : (own : List Line) (x : Line) → is_consequence x.entry.event ≡ false → answer_of (own ++ x ∷ []) ≡ Some x.entry.reply
answer-last own x e =
    ap (λ xs. option_map (λ y. y.entry.reply) (last_of xs)) (filter-append tells own (x ∷ []))
    ∙ ap (λ b. option_map (λ y. y.entry.reply) (last_of (filter tells own ++ (if not b then x ∷ [] else [])))) e
    ∙ ap (λ o. option_map (λ y. y.entry.reply) o) (last-snoc (filter tells own) x)

pub answer-stays : (own : List Line) (x : Line) → is_consequence x.entry.event ≡ true → answer_of (own ++ x ∷ []) ≡ answer_of own
answer-stays own x e =
    ap (λ xs. option_map (λ y. y.entry.reply) (last_of xs)) (filter-append tells own (x ∷ []))
    ∙ ap (λ b. option_map (λ y. y.entry.reply) (last_of (filter tells own ++ (if not b then x ∷ [] else [])))) e
    ∙ ap (λ xs. option_map (λ y. y.entry.reply) (last_of xs)) (append-nil (filter tells own))

abbrev pub Complete : Hash → Numbers → Call → List Line → Type 0
Complete hash numbers c own = ◌≡◌ {A = Option Asked} (next_event hash numbers c own) None

-- Calls of one, two and three events.
module _ (hash : Hash) (c : Call) (ss : List Use) (who : Who) (start : PartsNow) (within : (p : Place) → Within (uses_at p ss) (call_uses c p)) where
  pub one-done : (p1 : Place) (e1 : Event) (r1 : Receipt Entry) (now : PartsNow)
      → Next hash start.numbers c [] p1 e1 → FitsNext ss [] p1 e1 → Asks start who p1 e1 r1 now → is_consequence e1 ≡ false
      → Complete hash start.numbers c (stamped r1 ∷ []) → Enters hash c who start r1.entry.reply now
  one-done p1 e1 r1 now next1 fits1 asks1 tells1 done =
      enters hash c ss who start (stamped r1 ∷ []) now r1.entry.reply
      (step hash c ss who start [] start p1 e1 r1 now (none hash c ss who start) next1 fits1 asks1)
      within done (answer-last [] (stamped r1) (ap is_consequence asks1.event ∙ tells1))

  pub first : (p1 : Place) (e1 : Event) (r1 : Receipt Entry) (now : PartsNow)
      → Next hash start.numbers c [] p1 e1 → FitsNext ss [] p1 e1 → Asks start who p1 e1 r1 now → SoFar hash c ss who start (stamped r1 ∷ []) now
  first p1 e1 r1 now next1 fits1 asks1 = step hash c ss who start [] start p1 e1 r1 now (none hash c ss who start) next1 fits1 asks1

  pub second : (r1 : Receipt Entry) (now : PartsNow) (p2 : Place) (e2 : Event) (r2 : Receipt Entry) (later : PartsNow)
      → SoFar hash c ss who start (stamped r1 ∷ []) now
      → Next hash start.numbers c (stamped r1 ∷ []) p2 e2 → FitsNext ss (stamped r1 ∷ []) p2 e2 → Asks now who p2 e2 r2 later
      → SoFar hash c ss who start (stamped r1 ∷ stamped r2 ∷ []) later
  second r1 now p2 e2 r2 later so next2 fits2 asks2 = step hash c ss who start (stamped r1 ∷ []) now p2 e2 r2 later so next2 fits2 asks2

  pub two-done : (r1 : Receipt Entry) (now : PartsNow) (p2 : Place) (e2 : Event) (r2 : Receipt Entry) (later : PartsNow)
      → SoFar hash c ss who start (stamped r1 ∷ []) now
      → Next hash start.numbers c (stamped r1 ∷ []) p2 e2 → FitsNext ss (stamped r1 ∷ []) p2 e2 → Asks now who p2 e2 r2 later
      → is_consequence e2 ≡ false → Complete hash start.numbers c (stamped r1 ∷ stamped r2 ∷ [])
      → Enters hash c who start r2.entry.reply later
  two-done r1 now p2 e2 r2 later so next2 fits2 asks2 tells2 done =
      enters hash c ss who start (stamped r1 ∷ stamped r2 ∷ []) later r2.entry.reply
      (second r1 now p2 e2 r2 later so next2 fits2 asks2)
      within done (answer-last (stamped r1 ∷ []) (stamped r2) (ap is_consequence asks2.event ∙ tells2))

  -- a third event, which is a consequence
  pub three-done : (r1 r2 : Receipt Entry) (now : PartsNow) (p3 : Place) (e3 : Event) (r3 : Receipt Entry) (later : PartsNow)
      → SoFar hash c ss who start (stamped r1 ∷ stamped r2 ∷ []) now
      → Next hash start.numbers c (stamped r1 ∷ stamped r2 ∷ []) p3 e3 → FitsNext ss (stamped r1 ∷ stamped r2 ∷ []) p3 e3 → Asks now who p3 e3 r3 later
      → is_consequence r2.entry.event ≡ false → is_consequence e3 ≡ true
      → Complete hash start.numbers c (stamped r1 ∷ stamped r2 ∷ stamped r3 ∷ [])
      → Enters hash c who start r2.entry.reply later
  three-done r1 r2 now p3 e3 r3 later so next3 fits3 asks3 tells2 quiet3 done =
      enters hash c ss who start (stamped r1 ∷ stamped r2 ∷ stamped r3 ∷ []) later r2.entry.reply
      (step hash c ss who start (stamped r1 ∷ stamped r2 ∷ []) now p3 e3 r3 later so next3 fits3 asks3)
      within done
      (answer-stays (stamped r1 ∷ stamped r2 ∷ []) (stamped r3) (ap is_consequence asks3.event ∙ quiet3) ∙ answer-last (stamped r1 ∷ []) (stamped r2) tells2)

-- of the uses of a call all are counted
pub all-counted : (c : Call) (p : Place) → Within (uses_at p (uses_of c)) (call_uses c p)
all-counted c p = within-refl (call_uses c p)

inside : (a b : ProcEvent) → Some a ≡ Some b → a ≡ b
inside a b e = grind (arith, common_steps, e)

-- what the process of a fault meets uses one entry, and is a consequence
pub judged-uses : (answer : Option FileReply) (e : ProcEvent) → option_and_then judged answer ≡ Some e
    → (process_uses e ≡ one_entry) × (is_consequence (event.Proc e) ≡ true)
judged-uses None e is = absurd (grind (arith, common_steps, is))
judged-uses (Some (file_reply.Denied denial)) e is = subst (λ x. (process_uses x ≡ one_entry) × (is_consequence (event.Proc x) ≡ true)) (inside process.Punish e is) (refl, refl)
judged-uses (Some (file_reply.Given left (Some violation))) e is = subst (λ x. (process_uses x ≡ one_entry) × (is_consequence (event.Proc x) ≡ true)) (inside process.ClearValid e is) (refl, refl)
judged-uses (Some other) e is = absurd (grind (arith, common_steps, is))
