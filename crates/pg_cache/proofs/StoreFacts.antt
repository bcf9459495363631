-- What is seen of a store after each step on its frames, and that they still belong together.
use Rattle.std.proofs.Common.{◌≡◌, ◌≢◌, ℕ, zero, suc, ◌+◌, ◌-◌, ◌<◌, List, [], ◌∷◌, length, map, take, Bool, true, false, Option, Some, None, get_or, replicate, inl, inr, refl, ap, sym, subst, ◌∙◌, arith}
use Rattle.std.specs.Prelude.{slice_get, slice_set}
use Rattle.std.specs.Option.{option_map}
use Rattle.std.proofs.Math.ListN.{length-set}
use Rattle.std.proofs.lemmas.Bool.{cases_eq, cases_lt, false≢true}
use Rattle.std.proofs.lemmas.Option.{slice_get-map}
use Rattle.std.proofs.lemmas.List.{get_or-set_same, get_or-set_other, get_or_past, get_or_default}
use Rattle.std.proofs.lemmas.List.Elements.{All-set}
use Rattle.pg_io.specs.PageBytes.{written_over}
use Rattle.pg_frames.specs.Arena.{Arena, stands, frame_bytes, with_bytes, last_of, EndsBy, from_on, opened, after_take, after_give, after_touch, IsHeld, IsSound}
use Rattle.pg_frames.specs.Queues.{IsOrderly, without as dequeued}
use Rattle.pg_frames.proofs.ListFacts.{stands_here, behind, standing, absent_both, without_absent, not_both, some_same}
use Rattle.pg_frames.proofs.Laws.{stands-without, stands-without_other, stands-from_without, length-without}
use Rattle.pg_cache.specs.Held.{Held, find_held, without, changed, fronted, fronted_by}
use Rattle.pg_cache.specs.declared.card.Card.{Card}
use Rattle.pg_cache.specs.Store.{Stored, Frames, card_of, frame_of, seen, stored_of, IsStored, Fronts, overwritten}
use Rattle.pg_cache.proofs.HeldFacts.{changed-absent, without-absent}
use Rattle.pg_cache.proofs.QueueFacts.{Holds, find_none, find_some, map_dequeued, map_same, map_changed, map_most}

-- ---- an arena in which one frame was written

pub written_sound : (arena : Arena) (frame : ℕ) (bytes : List ℕ) → IsSound arena → length bytes ≡ arena.page → IsSound (with_bytes arena frame bytes)
written_sound arena frame bytes sound long =
    let count = length-set arena.frames frame bytes in
    record {
      page = sound.page;
      some = omega (arith, count, sound.some);
      most = omega (arith, count, sound.most);
      whole = All-set (λ (b : List ℕ). length b ≡ arena.page) arena.frames frame bytes long sound.whole;
      order = subst (λ n. IsOrderly n arena.queue arena.free) (sym count) sound.order;
    }

-- each frame is whole
pub whole_frame : (arena : Arena) (frame : ℕ) → IsSound arena → frame < length arena.frames → length (frame_bytes arena frame) ≡ arena.page
whole_frame arena frame sound inside = sound.whole frame [] inside

-- ---- a store's frames

none-some : (x : ℕ) → ◌≡◌ {A = Option ℕ} None (Some x) → ⊥
none-some x e = cc

module _ (f : Frames) (is : IsStored f) where
  pub in_range : (frame : ℕ) → stands frame f.arena.queue ≡ true → frame < length f.arena.frames
  in_range frame h = is.sound.order.queued_range frame h

  pub in_cards : (frame : ℕ) → frame < length f.arena.frames → frame < length f.cards
  in_cards frame inside = omega (arith, inside, is.count, is.cards)

  -- the spare frame is none of the queue
  apart : (frame : ℕ) → stands frame f.arena.queue ≡ true → f.spare ≢ frame
  apart frame h e = not_both (stands frame f.arena.queue) h (subst (λ k. stands k f.arena.queue ≡ false) e is.spare.not_queued)

  pub holds : (page frame : ℕ) → frame_of f.table page ≡ Some frame → Holds (seen f) f.arena.queue page frame
  holds page frame e = record {
    queued = (is.known page frame e).0;
    numbered = (is.known page frame e).1;
    alone = λ other h n. some_same other frame (sym (is.listed other h) ∙ ap (frame_of f.table) n ∙ e);
  }

  pub absent : (page : ℕ) → frame_of f.table page ≡ None → find_held (stored_of f).held page ≡ None
  absent page e = find_none (seen f) f.arena.queue page (λ frame h n. none-some frame (sym e ∙ ap (frame_of f.table) (sym n) ∙ is.listed frame h))

  -- a page is found where the table has a frame of it
  pub find : (page : ℕ) → find_held (stored_of f).held page ≡ option_map (seen f) (frame_of f.table page)
  find page = find_of (frame_of f.table page) refl
    where
      find_of : (o : Option ℕ) → frame_of f.table page ≡ o → find_held (stored_of f).held page ≡ option_map (seen f) o
      find_of None e = absent page e
      find_of (Some frame) e = find_some (seen f) f.arena.queue page frame (holds page frame e)

  pub found_by : (table : List (Option ℕ)) (page : ℕ) (o : Option ℕ) → o ≡ frame_of table page → table ≡ f.table → find_held (stored_of f).held page ≡ option_map (seen f) o
  found_by table page o e same = find page ∙ ap (option_map (seen f)) (sym (e ∙ ap (λ t. frame_of t page) same))

  pub frame_is : (table : List (Option ℕ)) (page frame : ℕ) (o : Option ℕ) → o ≡ frame_of table page → table ≡ f.table → o ≡ Some frame → frame_of f.table page ≡ Some frame
  frame_is table page frame o e same some = ap (λ t. frame_of t page) (sym same) ∙ sym e ∙ some

  -- where none is found the table has none
  pub unlisted : (page : ℕ) → find_held (stored_of f).held page ≡ None → frame_of f.table page ≡ None
  unlisted page none = none_of (frame_of f.table page) (sym (find page) ∙ none)
    where
      none_of : (o : Option ℕ) → option_map (seen f) o ≡ None → o ≡ None
      none_of None e = refl
      none_of (Some frame) e = absurd (cc)

  pub in_table : (page frame : ℕ) → frame_of f.table page ≡ Some frame → page < length f.table
  in_table page frame e = elim (cases_lt page (length f.table)) [
    | inl lt ↦ lt
    | inr le ↦ absurd (none-some frame (sym (get_or_past f.table page None le) ∙ e))
  ]

  -- ---- a frame of the queue goes to its front
  module _ (page frame : ℕ) (e : frame_of f.table page ≡ Some frame) where
    abbrev front : Frames
    front = record f { arena = after_touch f.arena frame }

    stays : (other : ℕ) → stands other f.arena.queue ≡ true → stands other front.arena.queue ≡ true
    stays other h = elim (cases_eq other frame) [
      | inl same ↦ stands_here other frame (dequeued frame f.arena.queue) same
      | inr ne ↦ behind other frame (dequeued frame f.arena.queue) (stands-without_other frame other f.arena.queue ne ∙ h)
    ]

    was : (other : ℕ) → stands other front.arena.queue ≡ true → stands other f.arena.queue ≡ true
    was other h = elim (standing other frame (dequeued frame f.arena.queue) h) [
      | inl same ↦ subst (λ k. stands k f.arena.queue ≡ true) (sym same) (holds page frame e).queued
      | inr rest ↦ stands-from_without frame other f.arena.queue rest
    ]

    pub front_stored : IsSound front.arena → IsStored front
    front_stored sound =
        let queued = (holds page frame e).queued in
        record {
          sound = sound;
          count = is.count;
          cards = is.cards;
          spare = record {
            in_range = is.spare.in_range;
            not_queued = absent_both f.spare frame (dequeued frame f.arena.queue) (apart frame queued) (stands-without_other frame f.spare f.arena.queue (apart frame queued) ∙ is.spare.not_queued);
            not_free = is.spare.not_free;
          };
          used = omega (arith, length-without frame f.arena.queue is.sound.order.queued_once queued, is.used);
          free = is.free;
          listed = λ other h. is.listed other (was other h);
          known = λ p k h. (stays k (is.known p k h).0, (is.known p k h).1);
        }

    pub front_seen : stored_of front ≡ record (stored_of f) { held = fronted (stored_of f).held page }
    front_seen =
        let old = stored_of f in
        let others = map_dequeued (seen f) f.arena.queue page frame is.sound.order.queued_once (holds page frame e) in
        let found : find_held old.held page ≡ Some (seen f frame) = find page ∙ ap (option_map (seen f)) e in
        ap (λ (l : List Held). record old { held = seen f frame ∷ l }) others
        ∙ ap (λ o. record old { held = fronted_by o old.held (without old.held page) }) (sym found)

  -- ---- a frame is written, and has another card
  module _ (frame : ℕ) (card : Card) (bytes : List ℕ) (inside : frame < length f.arena.frames) where
    abbrev rewritten : Frames
    rewritten = record f { arena = with_bytes f.arena frame bytes; cards = slice_set f.cards frame card }

    pub seen_here : seen rewritten frame ≡ record { page = card.page; bytes = bytes; dirty = card.dirty }
    seen_here =
        let is_card : card_of rewritten.cards frame ≡ card = get_or-set_same f.cards frame card _ (in_cards frame inside) in
        let is_bytes : get_or rewritten.arena.frames frame [] ≡ bytes = get_or-set_same f.arena.frames frame bytes [] inside in
        ap (λ (c : Card). record { page = c.page; bytes = get_or rewritten.arena.frames frame []; dirty = c.dirty }) is_card
        ∙ ap (λ (b : List ℕ). record { page = card.page; bytes = b; dirty = card.dirty }) is_bytes

    pub seen_there : (other : ℕ) → other ≢ frame → seen rewritten other ≡ seen f other
    seen_there other ne =
        let is_card : card_of rewritten.cards other ≡ card_of f.cards other = get_or-set_other f.cards frame other card _ ne in
        let is_bytes : get_or rewritten.arena.frames other [] ≡ get_or f.arena.frames other [] = get_or-set_other f.arena.frames frame other bytes [] ne in
        ap (λ (c : Card). record { page = c.page; bytes = get_or rewritten.arena.frames other []; dirty = c.dirty }) is_card
        ∙ ap (λ (b : List ℕ). record { page = (card_of f.cards other).page; bytes = b; dirty = (card_of f.cards other).dirty }) is_bytes

    module _ (keeps : stands frame f.arena.queue ≡ true → card.page ≡ (seen f frame).page) where
      same_page : (other : ℕ) → stands other f.arena.queue ≡ true → (seen rewritten other).page ≡ (seen f other).page
      same_page other h = elim (cases_eq other frame) [
        | inl same ↦
            ap (λ k. (seen rewritten k).page) same ∙ ap (λ (s : Held). s.page) seen_here
            ∙ keeps (subst (λ k. stands k f.arena.queue ≡ true) same h) ∙ ap (λ k. (seen f k).page) (sym same)
        | inr ne ↦ ap (λ (s : Held). s.page) (seen_there other ne)
      ]

      pub rewritten_stored : length bytes ≡ f.arena.page → IsStored rewritten
      rewritten_stored long =
          let count = length-set f.arena.frames frame bytes in
          record {
            sound = written_sound f.arena frame bytes is.sound long;
            count = count ∙ is.count;
            cards = length-set f.cards frame card ∙ is.cards;
            spare = record { in_range = omega (arith, count, is.spare.in_range); not_queued = is.spare.not_queued; not_free = is.spare.not_free };
            used = is.used;
            free = is.free;
            listed = λ other h. ap (frame_of f.table) (same_page other h) ∙ is.listed other h;
            known = λ p k h. ((is.known p k h).0, same_page k (is.known p k h).0 ∙ (is.known p k h).1);
          }

  -- bytes are written over a part of a page of the list
  module _ (page frame at : ℕ) (piece : List ℕ) (dirty : Bool) (e : frame_of f.table page ≡ Some frame) where
    abbrev put_card : Card
    put_card = record { page = page; dirty = dirty }

    abbrev put_bytes : List ℕ
    put_bytes = written_over (frame_bytes f.arena frame) at piece

    pub put_stored : length put_bytes ≡ f.arena.page → IsStored (rewritten frame put_card put_bytes (in_range frame (holds page frame e).queued))
    put_stored long = rewritten_stored frame put_card put_bytes (in_range frame (holds page frame e).queued) (λ _. sym (holds page frame e).numbered) long

    pub put_seen : stored_of (rewritten frame put_card put_bytes (in_range frame (holds page frame e).queued)) ≡ record (stored_of f) { held = changed (overwritten at piece dirty) (stored_of f).held page }
    put_seen =
        let has = holds page frame e in
        let inside = in_range frame has.queued in
        let new = rewritten frame put_card put_bytes inside in
        let old = stored_of f in
        let here : seen new frame ≡ overwritten at piece dirty (seen f frame) = seen_here frame put_card put_bytes inside ∙ ap (λ p. record { page = p; bytes = put_bytes; dirty = dirty }) (sym has.numbered) in
        let held = map_changed (seen f) (seen new) (overwritten at piece dirty) f.arena.queue page frame is.sound.order.queued_once has here (seen_there frame put_card put_bytes inside) in
        let spare = seen_there frame put_card put_bytes inside f.spare (apart frame has.queued) in
        ap (λ (l : List Held). record { held = l; spare = seen new f.spare; limit = old.limit; pages = old.pages; page_size = old.page_size }) held
        ∙ ap (λ (s : Held). record { held = changed (overwritten at piece dirty) old.held page; spare = s; limit = old.limit; pages = old.pages; page_size = old.page_size }) spare

  -- a page stands in the spare frame
  module _ (card : Card) (bytes : List ℕ) where
    not_queued : {B : Type 0} → stands f.spare f.arena.queue ≡ true → B
    not_queued h = absurd (not_both (stands f.spare f.arena.queue) h is.spare.not_queued)

    pub read_stored : length bytes ≡ f.arena.page → IsStored (rewritten f.spare card bytes is.spare.in_range)
    read_stored long = rewritten_stored f.spare card bytes is.spare.in_range (λ h. not_queued h) long

    pub read_seen : stored_of (rewritten f.spare card bytes is.spare.in_range) ≡ record (stored_of f) { spare = record { page = card.page; bytes = bytes; dirty = card.dirty } }
    read_seen =
        let new = rewritten f.spare card bytes is.spare.in_range in
        let old = stored_of f in
        let held = map_same (seen f) (seen new) f.arena.queue (λ k h. seen_there f.spare card bytes is.spare.in_range k (λ same. apart k h (sym same))) in
        ap (λ (l : List Held). record { held = l; spare = seen new f.spare; limit = old.limit; pages = old.pages; page_size = old.page_size }) held
        ∙ ap (λ (s : Held). record old { spare = s }) (seen_here f.spare card bytes is.spare.in_range)

  -- ---- a page leaves the list
  module _ (page frame : ℕ) (e : frame_of f.table page ≡ Some frame) where
    abbrev left : Frames
    left = record f { arena = after_give f.arena frame; table = slice_set f.table page None; used = f.used - 1 }

    other_page : (other : ℕ) → stands other f.arena.queue ≡ true → other ≢ frame → (seen f other).page ≢ page
    other_page other h ne n = ne ((holds page frame e).alone other h n)

    gone : (p : ℕ) → p ≡ page → frame_of left.table p ≡ None
    gone p same = ap (frame_of left.table) same ∙ get_or-set_same f.table page None None (in_table page frame e)

    left_known : (p k : ℕ) → frame_of left.table p ≡ Some k → (stands k left.arena.queue ≡ true) × ((seen f k).page ≡ p)
    left_known p k h = elim (cases_eq p page) [
      | inl same ↦ absurd (none-some k (sym (gone p same) ∙ h))
      | inr ne ↦
          let was = is.known p k (sym (get_or-set_other f.table page p None None ne) ∙ h) in
          let other : k ≢ frame = λ same. ne (sym was.1 ∙ ap (λ n. (seen f n).page) same ∙ (holds page frame e).numbered) in
          (stands-without_other frame k f.arena.queue other ∙ was.0, was.1)
    ]

    left_listed : (k : ℕ) → stands k left.arena.queue ≡ true → frame_of left.table (seen f k).page ≡ Some k
    left_listed k h =
        let was = stands-from_without frame k f.arena.queue h in
        let other : k ≢ frame = λ same. not_both (stands frame (dequeued frame f.arena.queue)) (subst (λ n. stands n (dequeued frame f.arena.queue) ≡ true) same h) (stands-without frame f.arena.queue) in
        get_or-set_other f.table page (seen f k).page None None (other_page k was other) ∙ is.listed k was

    pub left_stored : IsSound left.arena → IsStored left
    left_stored sound =
        let queued = (holds page frame e).queued in
        let fewer = length-without frame f.arena.queue is.sound.order.queued_once queued in
        record {
          sound = sound;
          count = is.count;
          cards = is.cards;
          spare = record {
            in_range = is.spare.in_range;
            not_queued = stands-without_other frame f.spare f.arena.queue (apart frame queued) ∙ is.spare.not_queued;
            not_free = absent_both f.spare frame f.arena.free (apart frame queued) is.spare.not_free;
          };
          used = omega (arith, fewer, is.used);
          free = omega (arith, fewer, is.used, is.free);
          listed = left_listed;
          known = left_known;
        }

    pub left_seen : stored_of left ≡ record (stored_of f) { held = without (stored_of f).held page }
    left_seen =
        let old = stored_of f in
        ap (λ (l : List Held). record { held = l; spare = old.spare; limit = old.limit; pages = length left.table; page_size = old.page_size })
        (map_dequeued (seen f) f.arena.queue page frame is.sound.order.queued_once (holds page frame e))
        ∙ ap (λ n. record { held = without old.held page; spare = old.spare; limit = old.limit; pages = n; page_size = old.page_size }) (length-set f.table page None)

  -- ---- the page in the spare frame enters
  module _ (next : ℕ) (inside : (seen f f.spare).page < length f.table) (none : frame_of f.table (seen f f.spare).page ≡ None) where
    abbrev its_page : ℕ
    its_page = (seen f f.spare).page

    abbrev pushed : Frames
    pushed = record f { arena = after_take (after_touch f.arena f.spare); table = slice_set f.table its_page (Some f.spare); spare = next; used = f.used + 1 }

    same_queue : pushed.arena.queue ≡ f.spare ∷ f.arena.queue
    same_queue = ap (λ (l : List ℕ). f.spare ∷ l) (without_absent f.spare f.arena.queue is.spare.not_queued)

    was_listed : (k : ℕ) → stands k f.arena.queue ≡ true → (seen f k).page ≢ its_page
    was_listed k h n = none-some k (sym none ∙ ap (frame_of f.table) (sym n) ∙ is.listed k h)

    pushed_listed : (k : ℕ) → stands k pushed.arena.queue ≡ true → frame_of pushed.table (seen f k).page ≡ Some k
    pushed_listed k h = elim (standing k f.spare f.arena.queue (subst (λ l. stands k l ≡ true) same_queue h)) [
      | inl same ↦ ap (λ n. frame_of pushed.table (seen f n).page) same ∙ get_or-set_same f.table its_page (Some f.spare) None inside ∙ ap (λ n. Some n) (sym same)
      | inr rest ↦ get_or-set_other f.table its_page (seen f k).page (Some f.spare) None (was_listed k rest) ∙ is.listed k rest
    ]

    pushed_known : (p k : ℕ) → frame_of pushed.table p ≡ Some k → (stands k pushed.arena.queue ≡ true) × ((seen f k).page ≡ p)
    pushed_known p k h = elim (cases_eq p its_page) [
      | inl same ↦
          let is_spare : k ≡ f.spare = some_same k f.spare (sym h ∙ ap (frame_of pushed.table) same ∙ get_or-set_same f.table its_page (Some f.spare) None inside) in
          (subst (λ l. stands k l ≡ true) (sym same_queue) (stands_here k f.spare f.arena.queue is_spare), ap (λ n. (seen f n).page) is_spare ∙ sym same)
      | inr ne ↦
          let was = is.known p k (sym (get_or-set_other f.table its_page p (Some f.spare) None ne) ∙ h) in
          (subst (λ l. stands k l ≡ true) (sym same_queue) (behind k f.spare f.arena.queue was.0), was.1)
    ]

    pub pushed_stored : IsSound pushed.arena → IsHeld pushed.arena next → length pushed.arena.free + 1 ≡ length f.arena.free → IsStored pushed
    pushed_stored sound held fewer = record {
      sound = sound;
      count = is.count;
      cards = is.cards;
      spare = held;
      used = omega (arith, ap length same_queue, is.used);
      free = omega (arith, fewer, is.free);
      listed = pushed_listed;
      known = pushed_known;
    }

    pub pushed_fronts : IsSound pushed.arena → IsHeld pushed.arena next → Fronts (stored_of f) (stored_of f).held (stored_of pushed)
    pushed_fronts sound held = record {
      held = ap (map (seen f)) same_queue;
      limit = refl;
      pages = length-set f.table its_page (Some f.spare);
      page_size = refl;
      spare = whole_frame pushed.arena next sound held.in_range;
    }

  -- ---- the last of the list
  pub last_seen : (frame : ℕ) → f.used ≡ f.limit → last_of f.arena.queue ≡ Some frame → slice_get (stored_of f).held (f.limit - 1) ≡ Some (seen f frame)
  last_seen frame full last =
      slice_get-map (seen f) f.arena.queue (f.limit - 1) ∙ ap (λ n. option_map (seen f) (slice_get f.arena.queue (n - 1))) (sym full ∙ sym is.used) ∙ ap (option_map (seen f)) last

  pub most_seen : (frame page : ℕ) → f.used ≡ f.limit → stands frame f.arena.queue ≡ true → EndsBy frame f.arena.queue → page ≡ (seen f frame).page
      → without (stored_of f).held page ≡ take (f.limit - 1) (stored_of f).held
  most_seen frame page full queued ends number =
      ap (without (stored_of f).held) number
      ∙ sym (map_dequeued (seen f) f.arena.queue (seen f frame).page frame is.sound.order.queued_once (holds (seen f frame).page frame (is.listed frame queued)))
      ∙ map_most (seen f) f.arena.queue frame f.limit ends (is.used ∙ full)

-- the card that is read at a frame
pub card_is : (cards : List Card) (frame : ℕ) (card : Card) → frame < length cards → card ≡ get_or cards frame card → card ≡ card_of cards frame
card_is cards frame card inside read = read ∙ get_or_default cards frame card _ inside

-- ---- nothing is there for a page
pub fronted_none : (store : Stored) (page : ℕ) → find_held store.held page ≡ None → store ≡ record store { held = fronted store.held page }
fronted_none store page none = sym (ap (λ o. record store { held = fronted_by o store.held (without store.held page) }) none)

pub changed_none : (store : Stored) (change : Held → Held) (page : ℕ) → find_held store.held page ≡ None → store ≡ record store { held = changed change store.held page }
changed_none store change page none = sym (ap (λ (l : List Held). record store { held = l }) (changed-absent change store.held page none))

pub without_none : (store : Stored) (page : ℕ) → find_held store.held page ≡ None → store ≡ record store { held = without store.held page }
without_none store page none = sym (ap (λ (l : List Held). record store { held = l }) (without-absent store.held page none))

-- ---- a list that is not full
pub take_short : (held : List Held) (n : ℕ) → None ≡ option_map (λ (h : Held). h.page) (slice_get held n) → take n held ≡ held
take_short [] zero e = refl
take_short [] (suc n) e = refl
take_short (h ∷ hs) zero e = absurd (cc)
take_short (h ∷ hs) (suc n) e = ap (λ (l : List Held). h ∷ l) (take_short hs n e)

-- ---- a store is opened
length-from_on : (first n : ℕ) → length (from_on first n) ≡ n
length-from_on first zero = refl
length-from_on first (suc n) = ap suc (length-from_on (first + 1) n)

none_at : (n k : ℕ) → frame_of (replicate n None) k ≡ None
none_at zero k = refl
none_at (suc n) zero = refl
none_at (suc n) (suc k) = none_at n k

pub opened_stored : (limit page_size pages : ℕ) (arena new : Arena) (cards : List Card) (spare : ℕ) → arena ≡ opened limit page_size → length arena.frames ≡ limit + 1 → new ≡ after_take arena → IsSound new → IsHeld new spare
    → length new.free + 1 ≡ length arena.free → length cards ≡ limit + 1 → IsStored (record { arena = new; cards = cards; table = replicate pages None; spare = spare; used = 0; limit = limit })
opened_stored limit page_size pages arena new cards spare opens count takes sound held fewer long =
    let empty : new.queue ≡ [] = ap (λ (a : Arena). a.queue) takes ∙ ap (λ (a : Arena). a.queue) opens in
    let all : length arena.free ≡ limit + 1 = ap (λ (a : Arena). length a.free) opens ∙ length-from_on 0 (limit + 1) in
    record {
      sound = sound;
      count = ap (λ (a : Arena). length a.frames) takes ∙ count;
      cards = long;
      spare = held;
      used = ap length empty;
      free = omega (arith, fewer, all);
      listed = λ frame h. absurd (false≢true (sym (ap (stands frame) empty) ∙ h));
      known = λ page frame h. absurd (none-some frame (sym (none_at pages page) ∙ h));
    }
