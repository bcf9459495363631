-- What an arena ends as once a `&mut` to a frame's bytes has ended.
use Rattle.std.specs.Prelude.{ℕ, List}
use Rattle.std.specs.List.{refill}
use Rattle.std.specs.Borrow.{Fml, MutBor, Array, Lends, u8 as byte}
use Rattle.pg_frames.specs.Arena.{Arena, frame_bytes, with_bytes}
use Rattle.pg_frames.specs.contracts.arena.FrameArena.{the_row}

-- The frame has the last bytes behind the result. They are as many as it had: `refill` says no more than that.
abbrev pub LendsFrame : MutBor Arena → ℕ → MutBor (List ℕ) → Fml
LendsFrame arena frame result = Lends the_row (Array byte 0) arena result
    (λ bytes. with_bytes arena.now frame (refill arena.now.page (frame_bytes arena.now frame) bytes))
