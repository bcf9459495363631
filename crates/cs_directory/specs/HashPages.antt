-- The sizes that a hash page can have, by the field pageSize, which holds the base-2 logarithm.
-- Source: `CS_CodeDirectory` in XNU's `cs_blobs.h`. That there are these two sizes is the accepted profile.
use Rattle.std.specs.Prelude.{ℕ, ◌==◌, Option, Some, None, if◌then◌else◌}
use Rattle.cs_directory.specs.declared.hash_page.HashPage.{HashPage}
use Rattle.cs_directory.specs.declared.hash_page.HashPage.TheVariants.{Small, Large}

-- the base-2 logarithm of a size
abbrev pub bits_of : HashPage → ℕ
bits_of Small = 12
bits_of Large = 14

-- how many bytes a hash page of a size has: 2 to the power of its logarithm
abbrev pub bytes_of : HashPage → ℕ
bytes_of Small = 4096
bytes_of Large = 16384

-- the size with a logarithm, where it is accepted
unfoldable pub page_numbered : ℕ → Option HashPage
page_numbered bits = if bits == 12 then Some Small else if bits == 14 then Some Large else None
