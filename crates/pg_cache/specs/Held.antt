-- Lists of pages with their bytes.
use Rattle.std.specs.Prelude.{ℕ, ◌==◌, List, [], ◌∷◌, Bool, true, false, Option, Some, None, if◌then◌else◌}
use Rattle.pg_io.specs.PageBytes.{written_over}

-- a page with its bytes
pub record Held : Type 0 where
  pub page : ℕ
  pub bytes : List ℕ
  -- whether the pager does not have these bytes yet
  pub dirty : Bool

-- a page as it was read or written
abbrev pub clean : ℕ → List ℕ → Held
clean page bytes = record { page = page; bytes = bytes; dirty = false }

-- the page of this number in the list, if it is there
abbrev pub find_held : List Held → ℕ → Option Held
find_held [] page = None
find_held (held ∷ others) page = if held.page == page then Some held else find_held others page

-- the list without the page
abbrev pub without : List Held → ℕ → List Held
without [] page = []
without (held ∷ others) page = if held.page == page then others else held ∷ without others page

-- the list with the page changed where it stands
abbrev pub changed : (Held → Held) → List Held → ℕ → List Held
changed change [] page = []
changed change (held ∷ others) page = if held.page == page then change held ∷ others else held ∷ changed change others page

-- the page at the front, if it is there, and the others in their order
abbrev pub fronted_by : Option Held → List Held → List Held → List Held
fronted_by None held others = held
fronted_by (Some first) held others = first ∷ others

abbrev pub fronted : List Held → ℕ → List Held
fronted held page = fronted_by (find_held held page) held (without held page)

-- a page with bytes written over a part of it, which the pager does not have yet
abbrev pub dirtied : ℕ → List ℕ → Held → Held
dirtied at bytes held = record { page = held.page; bytes = written_over held.bytes at bytes; dirty = true }

-- a page with these bytes, which the pager has
abbrev pub cleaned : List ℕ → Held → Held
cleaned bytes held = clean held.page bytes
