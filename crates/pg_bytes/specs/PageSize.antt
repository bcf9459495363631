-- The sizes that pages have.
use Rattle.std.specs.Prelude.{ℕ, ◌==◌, ◌||◌, Bool, IsTrue}

-- how many bytes a page may have: Apple's systems have pages of 4 KiB or of 16 KiB
abbrev pub is_page_size : ℕ → Bool
is_page_size size = size == 4096 || size == 16384

-- so many bytes are a page
abbrev pub IsPageSize : ℕ → Type 0
IsPageSize size = IsTrue (is_page_size size)
