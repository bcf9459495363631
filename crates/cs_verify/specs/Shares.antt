-- Hash pages cut into shares, one behind another, as many pages in each as in the others, or one more.
use Rattle.std.specs.Prelude.{ℕ, ◌+◌, ◌*◌, ◌/◌, ◌%◌, List, min}
use Rattle.pg_digest.specs.Kinds.{Hash}
use Rattle.cs_directory.specs.Fields.{Fields}
use Rattle.cs_verify.specs.declared.report.BadPage.{BadPage}
use Rattle.cs_verify.specs.Pages.{pages_of, bad_between}

-- the first page of a share, of so many; behind the last share, the number of pages
abbrev pub share_start : ℕ → ℕ → ℕ → ℕ
share_start pages count share = share * (pages / count) + min share (pages % count)

-- the pages of a share with which something is wrong, ascending
abbrev pub bad_in_share : Hash → Fields → List ℕ → List ℕ → ℕ → ℕ → List BadPage
bad_in_share hash directory directory_bytes signed count share =
    bad_between hash directory directory_bytes signed (share_start (pages_of directory) count share)
    (share_start (pages_of directory) count (share + 1))
