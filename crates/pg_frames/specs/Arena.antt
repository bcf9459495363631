-- What is seen of an arena of page frames: the bytes of each frame, the queue of use and the free frames. A
-- frame is named by its place among the frames; one that is neither queued nor free is held.
use Rattle.std.specs.Prelude.{ℕ, ◌≡◌, ◌+◌, ◌<◌, ◌≤◌, Bool, IsTrue, true, false, List, [], ◌∷◌, length, drop, replicate, get_or, slice_set, All}
pub use Rattle.pg_bytes.specs.PageSize.{is_page_size}
pub use Rattle.pg_frames.specs.Queues.{stands, without, length_without, last_of, EndsBy, from_on, IsOrderly}

pub record Arena : Type 0 where
  -- the length of each frame
  pub page : ℕ
  -- the bytes of each frame, by its number
  pub frames : List (List ℕ)
  -- the frames in use, the one touched last first
  pub queue : List ℕ
  -- the frames that may be taken, the next one first
  pub free : List ℕ

-- an arena as it is opened: each frame is zero and free
abbrev pub opened : ℕ → ℕ → Arena
opened limit page = record {
  page = page;
  frames = replicate (limit + 1) (replicate page 0);
  queue = [];
  free = from_on 0 (limit + 1);
}

-- Take a spare frame: the first free one is free no more.
abbrev pub after_take : Arena → Arena
after_take arena = record arena { free = drop 1 arena.free }

-- Give a frame back: it leaves the queue and is the first of the free ones.
abbrev pub after_give : Arena → ℕ → Arena
after_give arena frame = record arena { queue = without frame arena.queue; free = frame ∷ arena.free }

-- Touch a frame: it stands at the queue's front.
abbrev pub after_touch : Arena → ℕ → Arena
after_touch arena frame = record arena { queue = frame ∷ without frame arena.queue }

-- the bytes of a frame
abbrev pub frame_bytes : Arena → ℕ → List ℕ
frame_bytes arena frame = get_or arena.frames frame []

-- the arena with these bytes in a frame
abbrev pub with_bytes : Arena → ℕ → List ℕ → Arena
with_bytes arena frame bytes = record arena { frames = slice_set arena.frames frame bytes }

-- the frame was taken and is neither queued nor free
pub record IsHeld (arena : Arena) (frame : ℕ) : Type 0 where
  pub in_range : frame < length arena.frames
  pub not_queued : stands frame arena.queue ≡ false
  pub not_free : stands frame arena.free ≡ false

-- the frame is in use
pub record IsQueued (arena : Arena) (frame : ℕ) : Type 0 where
  pub in_range : frame < length arena.frames
  pub queued : stands frame arena.queue ≡ true
  pub not_free : stands frame arena.free ≡ false

-- what holds of every arena
pub record IsSound (arena : Arena) : Type 0 where
  pub page : IsTrue (is_page_size arena.page)
  pub some : 2 ≤ length arena.frames
  pub most : length arena.frames ≤ 65537
  pub whole : All (λ bytes. length bytes ≡ arena.page) arena.frames
  pub order : IsOrderly (length arena.frames) arena.queue arena.free
