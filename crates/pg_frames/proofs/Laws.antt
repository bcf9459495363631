-- Laws for what stands on an arena: how its lists and its bytes change, in the words of its contracts.
use Rattle.std.proofs.Common.{◌≡◌, ◌≢◌, ℕ, ◌+◌, ◌<◌, true, false, eqb, List, [], ◌∷◌, ◌++◌, ◌||◌, length, length-append, inl, inr, sym, ap, ◌∙◌, arith}
use Rattle.std.specs.List.{refill}
use Rattle.std.proofs.Math.Seq.{take_at}
use Rattle.std.proofs.lemmas.List.{get_or-set_same, get_or-set_other, length-set}
use Rattle.pg_frames.specs.Queues.{stands}
use Rattle.pg_frames.specs.Arena.{Arena, frame_bytes, with_bytes, IsHeld, IsSound}
use Rattle.pg_frames.proofs.ListFacts.{length_below, standing}
use Rattle.pg_frames.proofs.LinkFacts.{once_joined}
use Rattle.std.proofs.lemmas.Bool.{or_cases}
use Rattle.std.proofs.lemmas.List.Folds.{list_any-append}
pub use Rattle.pg_frames.proofs.ListFacts.{stands-without, stands-without_other, stands-from_without, without_absent, length-without, length-without_absent, once_first, once_rest, once_more, once-without, last_stands, last_ends, length_is}

-- a held frame leaves room: the queue and the free frames are not all
pub held_room : (arena : Arena) (frame : ℕ) → IsSound arena → IsHeld arena frame → length arena.queue + length arena.free < length arena.frames
held_room arena frame sound held =
    let order = sound.order in let all = arena.queue ++ arena.free in
    let both : (k : ℕ) → stands k all ≡ (stands k arena.queue || stands k arena.free) = λ k. list_any-append (λ other. eqb k other) arena.queue arena.free in
    let absent : stands frame all ≡ false = both frame ∙ ap (λ b. b || stands frame arena.free) held.not_queued ∙ held.not_free in
    let below : (k : ℕ) → stands k (frame ∷ all) ≡ true → k < length arena.frames = λ k h. elim (standing k frame all h) [
      | inl e ↦ omega (arith, e, held.in_range)
      | inr rest ↦ elim (or_cases (stands k arena.queue) (stands k arena.free) (sym (both k) ∙ rest)) [ inl q ↦ order.queued_range k q | inr f ↦ order.free_range k f ]
    ] in
    let once = once_more frame all absent (once_joined arena.queue arena.free order.queued_once order.free_once order.apart) in
    omega (arith, length_below (frame ∷ all) (length arena.frames) once below, length-append arena.queue arena.free)

-- a frame's bytes after they were written, and those of the others
pub written_here : (arena : Arena) (frame : ℕ) (bytes : List ℕ) → frame < length arena.frames → frame_bytes (with_bytes arena frame bytes) frame ≡ bytes
written_here arena frame bytes lt = get_or-set_same arena.frames frame bytes [] lt

pub written_other : (arena : Arena) (frame other : ℕ) (bytes : List ℕ) → other ≢ frame → frame_bytes (with_bytes arena frame bytes) other ≡ frame_bytes arena other
written_other arena frame other bytes ne = get_or-set_other arena.frames frame other bytes [] ne

pub written_count : (arena : Arena) (frame : ℕ) (bytes : List ℕ) → length (with_bytes arena frame bytes).frames ≡ length arena.frames
written_count arena frame bytes = length-set arena.frames frame bytes

-- a list as long as another takes its place whole
pub refilled : (old new : List ℕ) (n : ℕ) → length new ≡ n → refill n old new ≡ new
refilled old new n e = take_at new _ n e
