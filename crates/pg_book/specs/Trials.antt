-- Draws on a book's spines and passes, as tests make them.
use Rattle.std.specs.Prelude.{◌≡◌, ℕ, ◌<◌, ◌≤◌, List, [], length}
use Rattle.atomic_table.specs.Seated.{TableId}
use Rattle.pg_book.specs.declared.needs.Needs.{Needs}
use Rattle.pg_book.specs.Needs.{parts_of, entries_at}
use Rattle.pg_book.specs.Models.{SpineOf, PassOf, BookOf, pass_receipts}
use Rattle.pg_book.specs.Opening.{EachFrom}
use Rattle.pg_book.specs.Closing.{AreSpinesOf, ArePassesOf}

-- so many entries, and nothing else
abbrev pub evenly : ℕ → Needs
evenly entries = record { entries = entries; regions = 0; records = 0; copies = 0; blobs = 0; numbers = 0 }

-- each caller may draw so many entries on each part
abbrev pub HasRoomFor : List (List Needs) → ℕ → Type 0
HasRoomFor needs n = (caller part : ℕ) → caller < length needs → part < parts_of needs → n ≤ entries_at needs caller part

-- all spines and passes of the book, after at most so many draws
pub record IsRun {E : Type 0} (book : BookOf E) (used : ℕ) (spines : List (SpineOf E)) (passes : List (PassOf E)) : Type 0 where
  pub spines_are : AreSpinesOf book spines
  pub passes_are : ArePassesOf book passes
  pub drawn : EachFrom (λ caller p. (p.view.needs ≡ book.view.needs) × (length (pass_receipts p) ≤ used)) 0 passes

-- a pass of the book that drew at most so many entries, and may draw `most` on part 0
pub record IsDrawing {E : Type 0} (book : TableId) (most used : ℕ) (p : PassOf E) : Type 0 where
  pub same_book : p.book ≡ book
  pub room : most ≤ entries_at p.view.needs p.caller 0
  pub few : length (pass_receipts p) ≤ used

-- the book of a name that no call picked
abbrev pub no_book : TableId
no_book = record { words = 0; slots = 0; views_name = 0; atom = 0; block = 0; offset = 0; slot_names = [] }
