-- A store of pages in the frames of an arena.
use Rattle.std.specs.Prelude.{ℕ, ◌≡◌, ◌+◌, List, [], ◌∷◌, length, map, Bool, true, false, Option, Some, None, get_or}
use Rattle.pg_io.specs.PageBytes.{written_over}
use Rattle.pg_frames.specs.Arena.{Arena, stands, IsHeld, IsSound}
use Rattle.pg_cache.specs.Held.{Held}
use Rattle.pg_cache.specs.declared.card.Card.{Card}

-- ---- what is seen of a store

pub record Stored : Type 0 where
  -- the pages of the list, most recent first
  pub held : List Held
  -- the page in the spare frame
  pub spare : Held
  -- how many pages the list may have
  pub limit : ℕ
  -- each page's number is below this
  pub pages : ℕ
  -- how many bytes a page has
  pub page_size : ℕ

-- the spare frame has as many bytes as a page
abbrev pub HasWholeSpare : Stored → Type 0
HasWholeSpare store = length store.spare.bytes ≡ store.page_size

-- a store as it is opened
pub record IsOpened (most size count : ℕ) (store : Stored) : Type 0 where
  pub held : store.held ≡ []
  pub limit : store.limit ≡ most
  pub pages : store.pages ≡ count
  pub page_size : store.page_size ≡ size
  pub spare : HasWholeSpare store

-- a page with bytes written over a part of it, dirty or clean
abbrev pub overwritten : ℕ → List ℕ → Bool → Held → Held
overwritten at bytes dirty held = record { page = held.page; bytes = written_over held.bytes at bytes; dirty = dirty }

-- The page in the spare frame goes to the front of a list of these pages. Another frame is the spare one then.
pub record Fronts (old : Stored) (others : List Held) (new : Stored) : Type 0 where
  pub held : new.held ≡ old.spare ∷ others
  pub limit : new.limit ≡ old.limit
  pub pages : new.pages ≡ old.pages
  pub page_size : new.page_size ≡ old.page_size
  pub spare : HasWholeSpare new

-- ---- how it lies in the frames

pub record Frames : Type 0 where
  pub arena : Arena
  -- the page in each frame, and whether it is dirty
  pub cards : List Card
  -- the queued frame that each page stands in, if there is one
  pub table : List (Option ℕ)
  -- the held frame
  pub spare : ℕ
  -- how many frames are queued
  pub used : ℕ
  pub limit : ℕ

abbrev pub card_of : List Card → ℕ → Card
card_of cards frame = get_or cards frame (record { page = 0; dirty = false })

abbrev pub frame_of : List (Option ℕ) → ℕ → Option ℕ
frame_of table page = get_or table page None

-- the page in a frame
abbrev pub seen_at : List Card → List (List ℕ) → ℕ → Held
seen_at cards frames frame = record { page = (card_of cards frame).page; bytes = get_or frames frame []; dirty = (card_of cards frame).dirty }

abbrev pub seen : Frames → ℕ → Held
seen frames = seen_at frames.cards frames.arena.frames

-- what is seen of the frames
abbrev pub stored_of : Frames → Stored
stored_of frames = record {
  held = map (seen frames) frames.arena.queue;
  spare = seen frames frames.spare;
  limit = frames.limit;
  pages = length frames.table;
  page_size = frames.arena.page;
}

-- There is a frame for each page of the list, and a held one. The table has the frames of the queue by their pages,
-- and no other.
pub record IsStored (frames : Frames) : Type 0 where
  pub sound : IsSound frames.arena
  pub count : length frames.arena.frames ≡ frames.limit + 1
  pub cards : length frames.cards ≡ frames.limit + 1
  pub spare : IsHeld frames.arena frames.spare
  pub used : length frames.arena.queue ≡ frames.used
  pub free : frames.used + length frames.arena.free ≡ frames.limit
  pub listed : (frame : ℕ) → stands frame frames.arena.queue ≡ true → frame_of frames.table (seen frames frame).page ≡ Some frame
  pub known : (page frame : ℕ) → frame_of frames.table page ≡ Some frame → (stands frame frames.arena.queue ≡ true) × ((seen frames frame).page ≡ page)
