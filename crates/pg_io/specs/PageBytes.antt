-- The bytes of one page.
pub use Rattle.pg_bytes.specs.PageSize.{is_page_size}
use Rattle.std.specs.Prelude.{ℕ, ◌+◌, List, ◌++◌, length, take, drop}

-- these bytes put among others at a place
abbrev pub written_over : List ℕ → ℕ → List ℕ → List ℕ
written_over bytes at from = take at bytes ++ (from ++ drop (at + length from) bytes)
