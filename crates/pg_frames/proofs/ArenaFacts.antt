-- What is seen of an arena after each step on its lists, and what holds of every arena.
use Rattle.std.proofs.Common.{◌≡◌, ℕ, ◌+◌, ◌*◌, ◌<◌, true, false, Option, Some, None, List, [], ◌∷◌, ◌++◌, length, drop, replicate, slice_get, sym, ap, ◌∙◌, subst, inl, inr, arith}
use Rattle.std.specs.Prelude.{IfSome}
use Rattle.std.specs.List.{refill}
use Rattle.pg_rows.specs.Parts.{with_part}
use Rattle.std.proofs.lemmas.Bool.{cases_Bool}
use Rattle.pg_frames.specs.Queues.{Queues, HasOrder, IsOrderly, stands, without, length_without, last_of, from_on}
use Rattle.pg_frames.specs.Arena.{Arena, frame_bytes, with_bytes, opened, after_take, after_give, after_touch, IsHeld, IsQueued, IsSound}
use Rattle.pg_frames.specs.Blocks.{pages, arena_of, IsArena}
use Rattle.pg_frames.proofs.ListFacts.{not_both, stands-without, without_absent, first_stands, first_gone, first_fewer, length_is, last_ends}
use Rattle.pg_frames.proofs.LinkFacts.{queues}
use Rattle.pg_frames.proofs.BlockFacts.{length_pages, whole_pages, pages_zero, pages_written}

pub sound-from_arena : (bytes : List ℕ) (page : ℕ) (links : Queues) → IsArena bytes page links → IsSound (arena_of bytes page links)
sound-from_arena bytes page links is = let count = length_pages links.count page bytes in record {
  page = is.size;
  some = omega (arith, count, is.some);
  most = omega (arith, count, is.most);
  whole = whole_pages links.count page bytes is.long;
  order = subst (λ n. IsOrderly n links.queue links.free) (sym count) is.order;
}

-- other lists over the same frames
pub arena_still : (bytes : List ℕ) (page : ℕ) (links new : Queues) → new.count ≡ links.count → HasOrder new → IsArena bytes page links → IsArena bytes page new
arena_still bytes page links new e order is = record {
  size = is.size;
  some = omega (arith, e, is.some);
  most = omega (arith, e, is.most);
  long = is.long ∙ ap (λ n. n * page) (sym e);
  order = order;
}

-- a step on the lists of an arena: a frame leaves the list it stands in, and what comes of it then
abbrev pub Detached : Queues → ℕ → Queues → Type 0
Detached links frame mid = mid ≡ queues links.count (without frame links.queue) (without frame links.free)

module _ (bytes : List ℕ) (page : ℕ) (links : Queues) (now : Arena) (seen : arena_of bytes page links ≡ now) where
  pub count_is : length now.frames ≡ links.count
  count_is = ap (λ a. length a.frames) (sym seen) ∙ length_pages links.count page bytes

  pub inside : (frame : ℕ) → frame < length now.frames → frame < links.count
  inside frame lt = subst (λ n. frame < n) count_is lt

  pub moved : (new : Queues) → new.count ≡ links.count → arena_of bytes page new ≡ record now { queue = new.queue; free = new.free }
  moved new e =
      let frames : pages new.count page bytes ≡ now.frames = ap (λ n. pages n page bytes) e ∙ ap (λ a. a.frames) seen in
      let size : page ≡ now.page = ap (λ a. a.page) seen in
      λ i. record { page = size i; frames = frames i; queue = new.queue; free = new.free }

  pub still_sound : (new : Queues) → new.count ≡ links.count → HasOrder new → IsArena bytes page links → IsSound (arena_of bytes page new)
  still_sound new e order is = sound-from_arena bytes page new (arena_still bytes page links new e order is)

  -- a frame's bytes are others
  pub written : IsArena bytes page links → (frame : ℕ) → frame < links.count → (part : List ℕ)
      → arena_of (with_part bytes (frame * page) page part) page links ≡ with_bytes now frame (refill now.page (frame_bytes now frame) part)
  written is frame lt part =
      let frames = pages_written links.count page bytes frame part lt is.long in
      (λ i. record { page = page; frames = frames i; queue = links.queue; free = links.free })
      ∙ (λ i. with_bytes (seen i) frame (refill (seen i).page (frame_bytes (seen i) frame) part))

  module _ (frame : ℕ) (mid : Queues) (detached : Detached links frame mid) where
    pub mid_count : mid.count ≡ links.count
    mid_count = ap (λ q. q.count) detached

    pub mid_queue : mid.queue ≡ without frame now.queue
    mid_queue = ap (λ q. q.queue) detached ∙ ap (λ a. without frame a.queue) seen

    pub mid_free : mid.free ≡ without frame now.free
    mid_free = ap (λ q. q.free) detached ∙ ap (λ a. without frame a.free) seen

    pub mid_inside : frame < length now.frames → frame < mid.count
    mid_inside lt = subst (λ n. frame < n) (sym mid_count) (inside frame lt)

    pub off_queue : stands frame mid.queue ≡ false
    off_queue = ap (stands frame) mid_queue ∙ stands-without frame now.queue

    pub off_free : stands frame mid.free ≡ false
    off_free = ap (stands frame) mid_free ∙ stands-without frame now.free

    module _ (not_free : stands frame now.free ≡ false) (new : Queues) where
      pub touched : new ≡ queues mid.count (frame ∷ mid.queue) mid.free → arena_of bytes page new ≡ after_touch now frame
      touched put =
          let queue : new.queue ≡ frame ∷ without frame now.queue = ap (λ q. q.queue) put ∙ ap (λ l. frame ∷ l) mid_queue in
          let free : new.free ≡ now.free = ap (λ q. q.free) put ∙ mid_free ∙ without_absent frame now.free not_free in
          moved new (ap (λ q. q.count) put ∙ mid_count) ∙ (λ i. record now { queue = queue i; free = free i })

      pub given_back : new ≡ queues mid.count mid.queue (frame ∷ mid.free) → arena_of bytes page new ≡ after_give now frame
      given_back put =
          let queue : new.queue ≡ without frame now.queue = ap (λ q. q.queue) put ∙ mid_queue in
          let free : new.free ≡ frame ∷ now.free = ap (λ q. q.free) put ∙ ap (λ l. frame ∷ l) (mid_free ∙ without_absent frame now.free not_free) in
          moved new (ap (λ q. q.count) put ∙ mid_count) ∙ (λ i. record now { queue = queue i; free = free i })

    module _ (is : IsArena bytes page links) (first : slice_get links.free 0 ≡ Some frame) where
      stands_free : stands frame links.free ≡ true
      stands_free = first_stands frame links.free first

      not_queued : stands frame links.queue ≡ false
      not_queued = elim (cases_Bool (stands frame links.queue)) [ inl t ↦ absurd (not_both (stands frame links.free) stands_free (is.order.apart frame t)) | inr f ↦ f ]

      pub taken : arena_of bytes page mid ≡ after_take now
      taken =
          let queue : mid.queue ≡ now.queue = ap (λ q. q.queue) detached ∙ without_absent frame links.queue not_queued ∙ ap (λ a. a.queue) seen in
          let free : mid.free ≡ drop 1 now.free = ap (λ q. q.free) detached ∙ first_gone frame links.free is.order.free_once first ∙ ap (λ a. drop 1 a.free) seen in
          moved mid mid_count ∙ (λ i. record now { queue = queue i; free = free i })

      pub taken_held : IsHeld (arena_of bytes page mid) frame
      taken_held = record {
        in_range = omega (arith, length_pages mid.count page bytes, mid_count, is.order.free_range frame stands_free);
        not_queued = off_queue;
        not_free = off_free;
      }

  pub shorter : IsArena bytes page links → (frame : ℕ) → length (without frame now.queue) ≡ length_without frame now.queue
  shorter is frame = subst (λ a. length (without frame a.queue) ≡ length_without frame a.queue) seen (length_is frame links.queue is.order.queued_once)

  pub ends : IsArena bytes page links → (frame : ℕ) → last_of links.queue ≡ Some frame → now.queue ≡ without frame now.queue ++ frame ∷ []
  ends is frame h = subst (λ a. a.queue ≡ without frame a.queue ++ frame ∷ []) seen (sym (last_ends links.queue frame is.order.queued_once h))

  pub first_free : IsArena bytes page links → (frame : ℕ) → slice_get links.free 0 ≡ Some frame → frame < links.count
  first_free is frame first = is.order.free_range frame (first_stands frame links.free first)

  pub was_free : (frame : ℕ) → slice_get links.free 0 ≡ Some frame → stands frame now.free ≡ true
  was_free frame first = sym (ap (λ a. stands frame a.free) seen) ∙ first_stands frame links.free first

  pub fewer : (frame : ℕ) → slice_get links.free 0 ≡ Some frame → length (drop 1 now.free) + 1 ≡ length now.free
  fewer frame first = subst (λ a. length (drop 1 a.free) + 1 ≡ length a.free) seen (first_fewer frame links.free first)

  pub queued : IsArena bytes page links → (frame : ℕ) → stands frame links.queue ≡ true → IsQueued now frame
  queued is frame h = record {
    in_range = subst (λ n. frame < n) (sym count_is) (is.order.queued_range frame h);
    queued = sym (ap (λ a. stands frame a.queue) seen) ∙ h;
    not_free = sym (ap (λ a. stands frame a.free) seen) ∙ is.order.apart frame h;
  }

pub if_some : (o : Option ℕ) (P Q : ℕ → Type 0) → ((x : ℕ) → P x → Q x) → IfSome o P → IfSome o Q
if_some None P Q f h = h
if_some (Some x) P Q f h = f x h

pub if_last : (o : Option ℕ) (list : List ℕ) (Q : ℕ → Type 0) → o ≡ last_of list → ((x : ℕ) → last_of list ≡ Some x → Q x) → IfSome o Q
if_last None list Q e f = tt
if_last (Some x) list Q e f = f x (sym e)

-- an arena as it is opened
pub opened_arena : (limit page : ℕ) (bytes : List ℕ) (links : Queues) → bytes ≡ replicate ((limit + 1) * page) 0 → links ≡ queues (limit + 1) [] (from_on 0 (limit + 1)) → arena_of bytes page links ≡ opened limit page
opened_arena limit page bytes links zero is =
    (λ i. arena_of (zero i) page (is i)) ∙ (λ i. record { page = page; frames = pages_zero (limit + 1) page i; queue = []; free = from_on 0 (limit + 1) })
