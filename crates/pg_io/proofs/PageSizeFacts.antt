-- A size that a page may have.
use Rattle.std.proofs.Common.{ℕ, ◌≤◌, arith}
use Rattle.std.specs.Prelude.{IsTrue}
use Rattle.std.proofs.lemmas.Bool.Decides.{nat_tests}
use Rattle.pg_io.specs.PageBytes.{is_page_size}

-- it is no less than 4,096, and no more than 16,384
pub least_page : (size : ℕ) → IsTrue (is_page_size size) → 4096 ≤ size
least_page size known = grind (arith, nat_tests)

pub greatest_page : (size : ℕ) → IsTrue (is_page_size size) → size ≤ 16384
greatest_page size known = grind (arith, nat_tests)
