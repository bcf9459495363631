-- Pages side by side in one list of bytes.
use Rattle.std.specs.Prelude.{ℕ, zero, suc, ◌≡◌, ◌*◌, ◌≤◌, List, [], ◌∷◌, IsTrue, length, take, drop}
use Rattle.pg_frames.specs.Queues.{Queues, HasOrder}
use Rattle.pg_frames.specs.Arena.{Arena, is_page_size}

-- the first pages, so many
abbrev pub pages : ℕ → ℕ → List ℕ → List (List ℕ)
pages zero page bytes = []
pages (suc count) page bytes = take page bytes ∷ pages count page (drop page bytes)

-- the arena that a block of bytes and two lists make
abbrev pub arena_of : List ℕ → ℕ → Queues → Arena
arena_of bytes page queues = record {
  page = page;
  frames = pages queues.count page bytes;
  queue = queues.queue;
  free = queues.free;
}

pub record IsArena (bytes : List ℕ) (page : ℕ) (queues : Queues) : Type 0 where
  pub size : IsTrue (is_page_size page)
  pub some : 2 ≤ queues.count
  pub most : queues.count ≤ 65537
  pub long : length bytes ≡ queues.count * page
  pub order : HasOrder queues
