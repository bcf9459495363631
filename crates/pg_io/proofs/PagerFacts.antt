-- The bytes of a pager in memory after one page was written.
use Rattle.std.proofs.Common.{◌≡◌, ◌+◌, ◌-◌, ◌*◌, ◌/◌, ◌<◌, ◌≤◌, ◌∙◌, ◌++◌, ℕ, List, length, take, drop, Some, ap, sym, subst, arith}
use Rattle.std.proofs.Math.Seq.{take-append_seam}
use Rattle.std.proofs.Math.Nat.{div-mul-le_self}
use Rattle.std.specs.Prelude.{Option}
use Rattle.pg_io.specs.PageBytes.{written_over}
use Rattle.pg_io.specs.Pager.{ToldPages}
use Rattle.pg_io.specs.MemPages.{pages_of}
use Rattle.pg_io.specs.MemPagesLaws.{length-over, page_fits}

-- all of a buffer's bytes were replaced by as many
pub all_replaced : (used : ℕ) (all put : List ℕ) → used ≡ length put → take used (put ++ drop (length put) all) ≡ put
all_replaced used all put same = ap (λ n. take n (put ++ drop (length put) all)) same ∙ take-append_seam put (drop (length put) all)

-- a page lies within the bytes
pub page_within : (size : ℕ) (bytes from : List ℕ) (page : ℕ) → page < length bytes / size → length from ≡ size → page * size + length from ≤ length bytes
page_within size bytes from page inside whole = let h = page_fits size (length bytes / size) page (length bytes) inside (div-mul-le_self (length bytes) size) in omega arith

-- the buffer's bytes after the write
pub bytes_after : (size used : ℕ) (bytes all lent put from : List ℕ) (page : ℕ) → page < length bytes / size → length from ≡ size
    → lent ≡ bytes → used ≡ length bytes → put ≡ written_over lent (page * size) from
    → take used (put ++ drop (length put) all) ≡ written_over bytes (page * size) from
bytes_after size used bytes all lent put from page inside whole same long puts =
    let put_there = subst (λ b. put ≡ written_over b (page * size) from) same puts in
    let l = length-over bytes from (page * size) (page_within size bytes from page inside whole) in
    all_replaced used all put (long ∙ sym l ∙ sym (ap length put_there)) ∙ put_there

-- the bytes that a read copied
pub bytes_copied : (size : ℕ) (into all bytes : List ℕ) (at : ℕ) → into ≡ take (at + size - at) (drop at all) → all ≡ bytes → into ≡ take size (drop at bytes)
bytes_copied size into all bytes at copied same =
    copied ∙ ap (λ n. take n (drop at all)) {x = at + size - at} {y = size} (omega arith) ∙ ap (λ (b : List ℕ). take size (drop at b)) same

-- what is told of equal bytes, in pages of one size
abbrev tells : ℕ → List ℕ → ℕ → List ℕ → Option ToldPages
tells size bytes made fails = Some (record { holds = pages_of size bytes; made = made; fails = fails })

pub told_of : (bytes bytes' fails fails' : List ℕ) (size size' made made' : ℕ) → bytes ≡ bytes' → size ≡ size' → made ≡ made' → fails ≡ fails' → tells size bytes made fails ≡ tells size' bytes' made' fails'
told_of bytes bytes' fails fails' size size' made made' b s m f =
    ap (λ x. tells size x made fails) b ∙ ap (λ x. tells x bytes' made fails) s ∙ ap (λ x. tells size' bytes' x fails) m ∙ ap (tells size' bytes' made') f
