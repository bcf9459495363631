-- A worker draws on the spine of a part, with room for its event: what may be asked of the part, and what the draw leaves.
use Rattle.std.proofs.Common.{◌≡◌, ◌⊎◌, ℕ, ◌+◌, ◌<◌, true, List, [], ◌∷◌, ◌++◌, length, refl, sym, ap, subst, ◌∙◌, arith, inl, inr}
use Rattle.std.specs.List.{AllByRecursion}
use Rattle.std.proofs.lemmas.List.Elements.{All-from_recursion}
use Rattle.pg_book.specs.declared.needs.Needs.{Needs}
use Rattle.pg_book.specs.declared.receipt.Receipt.{Receipt}
use Rattle.pg_book.specs.Needs.{nothing_needed, entries_at}
use Rattle.pg_book.specs.Lists.{Among, Rising, of_part}
use Rattle.pg_book.specs.Views.{list_at, caller_name}
use Rattle.pg_book.specs.Models.{SpineOf, PassOf, spine_receipts, pass_receipts}
use Rattle.pg_book.specs.Knowing.{HasRoom}
use Rattle.pg_book.specs.Outcomes.{Meets, Draws}
use Rattle.pg_book.specs.Closing.{stamped}
use Rattle.pg_book.proofs.ListFacts.{among_push, prefix_among, rising_push}
use Rattle.cs_policy.specs.declared.process.ProcReply.TheVariants as process_reply
use Rattle.cs_policy.specs.declared.entry.Event.{Event}
use Rattle.cs_policy.specs.declared.entry.Reply.{Reply}
use Rattle.cs_policy.specs.declared.entry.Reply.TheVariants as reply
use Rattle.cs_policy.specs.declared.entry.Place.{Place}
use Rattle.cs_policy.specs.declared.entry.Place.TheVariants as place
use Rattle.cs_policy.specs.declared.entry.Who.{Who}
use Rattle.cs_policy.specs.declared.entry.Entry.{Entry}
use Rattle.pg_history.specs.Machine.{Line}
use Rattle.pg_history.specs.Opening.{Numbers}
use Rattle.pg_history.specs.ByParts.{is_at}
use Rattle.pg_history.proofs.ListFacts.{all-append}
use Rattle.pg_calls.specs.Room.{plus, Within, event_uses, used_by, given_to, IsPlaceIn}
use Rattle.pg_calls.specs.Parts as parts
use Rattle.pg_calls.specs.Parts.{PartsNow, Asks}
use Rattle.pg_calls.specs.Replies.{Answers}
use Rattle.pg_calls.proofs.RoomFacts.{within-refl, within-trans, within-plus, used_one, used_by-cons, used_by-append, number-same}
use Rattle.pg_parts.specs.Opened.{numbers_in, opening_in}
use Rattle.pg_parts.specs.Rooms.{part_needs, uses_in}
use Rattle.pg_parts.proofs.ReplayFacts.{uses-snoc}
use Rattle.pg_parts.proofs.RoomSums.{NeedsAre, uses-within, within-more}
use Rattle.pg_shared.specs.Plan.{Plan, number_at}
use Rattle.pg_shared.specs.Drawn.{lines_in, drawn_on, drawn_by}
use Rattle.pg_shared.specs.Passes.{shown, IsOwn, IsPassOf}
use Rattle.pg_shared.specs.Spines.{IsDrawnAt, IsSpineOf}
use Rattle.pg_shared.proofs.ReceiptFacts.{lines-append, all-lines, entries-all, fewer-used, one-each, counted}

at-itself : (at : Place) → is_at at at ≡ true
at-itself (place.File a) = number-same a
at-itself (place.Process a) = number-same a
at-itself place.Trust = refl

-- what a worker uses by one entry
one_used : (w : ℕ) (at : Place) (x : Line) → NeedsAre (used_by w at (x ∷ [])) (used_one w at x)
one_used w at x = used_by-cons w at x [] ∙ plus_nothing (used_one w at x)
  where
    plus_zero : (k : ℕ) → k + 0 ≡ k
    plus_zero k = omega arith

    plus_nothing : (n : Needs) → NeedsAre (plus n nothing_needed) n
    plus_nothing n = λ i. record {
      entries = plus_zero n.entries i;
      regions = plus_zero n.regions i;
      records = plus_zero n.records i;
      copies = plus_zero n.copies i;
      blobs = plus_zero n.blobs i;
      numbers = plus_zero n.numbers i;
    }

-- the entry of an event with its reply
abbrev pub entry_of : Who → Place → Event → Reply → Entry
entry_of who at e r = record { who = who; place = at; event = e; reply = r }

module _ (plan : Plan) (at : Place) (spine : SpineOf Entry) (kept : IsSpineOf plan at spine) (who : Who) (pass : PassOf Entry) (own : IsPassOf plan who.worker pass)
    (met : PassOf Entry) (meets : Meets spine pass met) where
  abbrev numbers : Numbers
  numbers = numbers_in plan.start

  abbrev may_use : ℕ → Place → Needs
  may_use w other = given_to numbers plan.start.needs w other

  caller_is : met.caller ≡ who.worker
  caller_is = meets.same_caller ∙ own.caller

  -- the meeting leaves the pass
  pub met-own : IsPassOf plan who.worker met
  met-own = record {
    same_book = meets.same_book ∙ own.same_book;
    caller = caller_is;
    declared = own.declared;
    needs = meets.kept.needs ∙ own.needs;
    rising = subst Rising (sym meets.same_receipts) own.rising;
    own = λ r there. own.own r (subst (Among r) meets.same_receipts there);
  }

  abbrev with_lines : List Line → PartsNow
  with_lines es = record { numbers = numbers; opening = opening_in plan.start; needs = plan.start.needs; made = es }

  pub met-shown : shown plan met ≡ shown plan pass
  met-shown = ap (λ (l : List (Receipt Entry)). with_lines (lines_in l)) meets.same_receipts

  -- the spine's entries of the worker stand in its pass
  fewer : Within (used_by who.worker at (drawn_on spine)) (used_by who.worker at (drawn_by pass))
  fewer =
      fewer-used who.worker at (spine_receipts spine) (pass_receipts pass) kept.rising own.rising
      (λ r there by. subst (Among r) meets.same_receipts (meets.own r there ((kept.entries r there).caller ∙ by ∙ sym caller_is)))

  module _ (e : Event) (room : parts.HasRoom (shown plan pass) who at e) where
    room_there : Within (plus (used_by who.worker at (drawn_on spine)) (event_uses e)) (may_use who.worker at)
    room_there = within-trans _ _ _ (within-plus _ _ _ _ fewer (within-refl (event_uses e))) (room kept.placed)

    -- ---- with one entry more

    module _ (x : Line) (r : Reply) (same : x.entry ≡ entry_of who at e r) where
      room_for : Within (plus (used_by x.entry.who.worker x.entry.place (drawn_on spine)) (event_uses x.entry.event)) (may_use x.entry.who.worker x.entry.place)
      room_for =
          subst (λ (n : Entry). Within (plus (used_by n.who.worker n.place (drawn_on spine)) (event_uses n.event)) (may_use n.who.worker n.place)) (sym same) room_there

      within_longer : (w : ℕ) (other : Place) → Within (used_by w other (drawn_on spine ++ x ∷ [])) (may_use w other)
      within_longer w other =
          subst (λ n. Within n (may_use w other)) (sym (used_by-append w other (drawn_on spine) (x ∷ []) ∙ ap (λ n. plus (used_by w other (drawn_on spine)) n) (one_used w other x)))
          (within-more numbers plan.start.needs (drawn_on spine) x kept.within room_for w other)

      all_there : AllByRecursion (λ l. is_at at l.entry.place ≡ true) (drawn_on spine ++ x ∷ [])
      all_there =
          all-append (λ (l : Line). is_at at l.entry.place ≡ true) (drawn_on spine) (x ∷ [])
          (all-lines (λ l. is_at at l.entry.place ≡ true) (spine_receipts spine) (λ s there. ap (is_at at) (kept.entries s there).place ∙ at-itself at))
          (ap (λ (n : Entry). is_at at n.place) same ∙ at-itself at, tt)

      workers_longer : AllByRecursion (λ l. l.entry.who.worker < length plan.start.needs) (drawn_on spine ++ x ∷ [])
      workers_longer =
          all-append (λ (l : Line). l.entry.who.worker < length plan.start.needs) (drawn_on spine) (x ∷ [])
          (all-lines (λ l. l.entry.who.worker < length plan.start.needs) (spine_receipts spine) (λ s there. (kept.entries s there).worker))
          (subst (λ (n : Entry). n.who.worker < length plan.start.needs) (sym same) own.declared, tt)

      -- all entries use no more than all workers may
      uses_longer : Within (plus (uses_in (drawn_on spine)) (event_uses e)) (part_needs plan.start.needs (number_at plan at))
      uses_longer =
          subst (λ n. Within n (part_needs plan.start.needs (number_at plan at)))
          (ap uses_in (entries-all at (drawn_on spine ++ x ∷ []) all_there) ∙ uses-snoc (drawn_on spine) x ∙ ap (λ (n : Entry). plus (uses_in (drawn_on spine)) (event_uses n.event)) same)
          (uses-within numbers plan.start.needs at (drawn_on spine ++ x ∷ []) workers_longer (λ w. within_longer w at))

    -- the room of the part is enough for the event
    pub uses-fit : Within (plus (uses_in (drawn_on spine)) (event_uses e)) (part_needs plan.start.needs (number_at plan at))
    uses-fit = uses_longer (record { stamp = 0; part = 0; caller = 0; entry = entry_of who at e (reply.Proc process_reply.Dead) }) (reply.Proc process_reply.Dead) refl

    -- the book has room for the entry
    pub may-draw : HasRoom spine.part met.caller met.view
    may-draw =
        let few = counted numbers who.worker at kept.placed (pass_receipts pass) (λ r there. let o = own.own r there in record { by_whom = o.by_whom; there = o.placed; part = o.part }) in
        let most = (room kept.placed).entries in
        let one = one-each e in
        let left : length (of_part (number_at plan at) (pass_receipts pass)) < entries_at plan.start.needs who.worker (number_at plan at) = omega (arith, few, most, one) in
        subst (λ (n : ℕ). length (of_part n (pass_receipts met)) < entries_at met.view.needs met.caller n) (sym kept.part)
        (subst (λ (l : List (Receipt Entry)). length (of_part (number_at plan at) l) < entries_at met.view.needs met.caller (number_at plan at)) (sym meets.same_receipts)
        (subst (λ (n : List (List Needs)). length (of_part (number_at plan at) (pass_receipts pass)) < entries_at n met.caller (number_at plan at)) (sym (meets.kept.needs ∙ own.needs))
        (subst (λ (c : ℕ). length (of_part (number_at plan at) (pass_receipts pass)) < entries_at plan.start.needs c (number_at plan at)) (sym caller_is) left)))

    -- ---- the draw

    module _ (r : Reply) (entry : Entry) (same : entry ≡ entry_of who at e r) (receipt : Receipt Entry) (spine' : SpineOf Entry) (pass' : PassOf Entry) (draws : Draws spine met entry receipt spine' pass') where
      pub entered : receipt.entry ≡ entry_of who at e r
      entered = draws.entered ∙ same

      drawn_there : IsDrawnAt plan at receipt
      drawn_there = record {
        place = ap (λ (n : Entry). n.place) entered;
        part = draws.part ∙ kept.part;
        caller = draws.caller ∙ caller_is ∙ ap (λ (n : Entry). n.who.worker) (sym entered);
        worker = subst (λ (n : Entry). n.who.worker < length plan.start.needs) (sym entered) own.declared;
      }

      -- the part's entries and the receipt's
      pub drawn-more : drawn_on spine' ≡ drawn_on spine ++ stamped receipt ∷ []
      drawn-more = ap lines_in draws.spine_list ∙ lines-append (spine_receipts spine) (receipt ∷ [])

      pub spine-draws : IsSpineOf plan at spine'
      spine-draws = record {
        same_book = draws.same_books.0 ∙ kept.same_book;
        part = draws.same_part ∙ kept.part;
        placed = kept.placed;
        rising = subst Rising (sym draws.spine_list) (rising_push (spine_receipts spine) receipt kept.rising draws.above_spine);
        entries = λ x there. by_place x (among_push x receipt (spine_receipts spine) (subst (Among x) draws.spine_list there));
        within = λ w other. subst (λ (l : List Line). Within (used_by w other l) (may_use w other)) (sym drawn-more) (within_longer (stamped receipt) r entered w other);
      }
        where
          by_place : (x : Receipt Entry) → Among x (spine_receipts spine) ⊎ (receipt ≡ x) → IsDrawnAt plan at x
          by_place x (inl there) = kept.entries x there
          by_place x (inr is) = subst (IsDrawnAt plan at) is drawn_there

      pass_list : pass_receipts pass' ≡ pass_receipts pass ++ receipt ∷ []
      pass_list = draws.pass_list ∙ ap (λ l. l ++ receipt ∷ []) meets.same_receipts

      above : (x : Receipt Entry) → Among x (pass_receipts pass) → x.stamp < receipt.stamp
      above x there = draws.above_pass x (subst (Among x) (sym meets.same_receipts) there)

      pub pass-draws : IsPassOf plan who.worker pass'
      pass-draws = record {
        same_book = draws.same_books.1 ∙ meets.same_book ∙ own.same_book;
        caller = draws.same_caller ∙ caller_is;
        declared = own.declared;
        needs = draws.pass_kept.needs ∙ meets.kept.needs ∙ own.needs;
        rising = subst Rising (sym pass_list) (rising_push (pass_receipts pass) receipt own.rising above);
        own = λ x there. by_place x (among_push x receipt (pass_receipts pass) (subst (Among x) pass_list there));
      }
        where
          new : IsOwn plan who.worker receipt
          new = record {
            by_whom = ap (λ (n : Entry). n.who.worker) entered;
            placed = subst (λ (n : Entry). IsPlaceIn numbers n.place) (sym entered) kept.placed;
            part = draws.part ∙ kept.part ∙ ap (λ (n : Entry). number_at plan n.place) (sym entered);
          }

          by_place : (x : Receipt Entry) → Among x (pass_receipts pass) ⊎ (receipt ≡ x) → IsOwn plan who.worker x
          by_place x (inl there) = own.own x there
          by_place x (inr is) = subst (IsOwn plan who.worker) is new

      pub asks-draws : Answers numbers at e r → Asks (shown plan pass) who at e receipt (shown plan pass')
      asks-draws answers = record {
        made = ap with_lines (ap lines_in pass_list ∙ lines-append (pass_receipts pass) (receipt ∷ []));
        part = draws.part ∙ kept.part;
        caller = draws.caller ∙ caller_is;
        by_whom = ap (λ (n : Entry). n.who) entered;
        place = ap (λ (n : Entry). n.place) entered;
        event = ap (λ (n : Entry). n.event) entered;
        answers = subst (λ (n : Entry). Answers numbers at e n.reply) (sym entered) answers;
        above = All-from_recursion (λ (x : Line). x.entry.who.worker ≡ who.worker → x.stamp < receipt.stamp) (drawn_by pass)
            (all-lines (λ x. x.entry.who.worker ≡ who.worker → x.stamp < receipt.stamp) (pass_receipts pass) (λ x there by. above x there));
      }

      -- what the pass had of this part stood on the spine
      pub stood-there : (x : Receipt Entry) → Among x (pass_receipts pass) → x.part ≡ number_at plan at → Among x (spine_receipts spine)
      stood-there x there part =
          let had : Among x (pass_receipts met) = subst (Among x) (sym meets.same_receipts) there in
          let told = prefix_among x (list_at met.view (caller_name met.view met.caller)) (list_at spine'.view (caller_name met.view met.caller)) (draws.spine_told.lists (caller_name met.view met.caller)) had in
          let now = draws.own_part (caller_name met.view met.caller) x told (part ∙ sym kept.part) in
          by_place (among_push x receipt (spine_receipts spine) (subst (Among x) draws.spine_list now))
        where
          by_place : Among x (spine_receipts spine) ⊎ (receipt ≡ x) → Among x (spine_receipts spine)
          by_place (inl stood) = stood
          by_place (inr is) = let less = above x there in let same_stamp = ap (λ (z : Receipt Entry). z.stamp) is in absurd (omega (arith, less, same_stamp))

      -- the spine knows what the pass had drawn, and what it knew
      pub told-of-pass : (x : Receipt Entry) → Among x (pass_receipts pass) → Among x (list_at spine'.view (caller_name met.view met.caller))
      told-of-pass x there =
          prefix_among x (list_at met.view (caller_name met.view met.caller)) (list_at spine'.view (caller_name met.view met.caller)) (draws.spine_told.lists (caller_name met.view met.caller))
          (subst (Among x) (sym meets.same_receipts) there)

      pub knows-still : (name : ℕ) (x : Receipt Entry) → Among x (list_at spine.view name) → Among x (list_at spine'.view name)
      knows-still name x there = prefix_among x (list_at spine.view name) (list_at spine'.view name) (draws.spine_kept.lists name) there
