-- How what is found in shares of the hash pages is what is found in all of them.
use Rattle.std.proofs.Common.{◌≡◌, ℕ, zero, suc, ◌+◌, ◌-◌, ◌*◌, ◌/◌, ◌<◌, ◌≤◌, List, [], ◌∷◌, ◌++◌, refl, sym, ap, arith}
use Rattle.std.specs.List.{range_with_len}
use Rattle.std.proofs.lemmas.List.Elements.{filter_map-append}
use Rattle.pg_digest.specs.Kinds.{Hash}
use Rattle.cs_directory.specs.Fields.{Fields}
use Rattle.cs_verify.specs.declared.report.BadPage.{BadPage}
use Rattle.cs_verify.specs.Pages.{pages_of, bad_page, bad_between}
use Rattle.cs_verify.specs.Shares.{share_start, bad_in_share}

-- numbers, and those that follow them
numbers_join : (from some more : ℕ) → range_with_len from (some + more) ≡ range_with_len from some ++ range_with_len (from + some) more
numbers_join from zero more =
    let here : from + 0 ≡ from = omega arith in
    let all : 0 + more ≡ more = omega arith in
    rw (here, all) refl
numbers_join from (suc some) more =
    let count : suc some + more ≡ suc (some + more) = omega arith in
    let next : from + suc some ≡ (from + 1) + some = omega arith in
    rw (count, next) (ap (λ (l : List ℕ). from ∷ l) (numbers_join (from + 1) some more))

-- what is found up to a page, and from there on
pub between_join : (hash : Hash) (directory : Fields) (bytes signed : List ℕ) (from middle to : ℕ) → from ≤ middle → middle ≤ to → bad_between hash directory bytes signed from middle ++ bad_between hash directory bytes signed middle to ≡ bad_between hash directory bytes signed from to
unfolding bad_between
between_join hash directory bytes signed from middle to first second =
    let wrong = bad_page hash directory bytes signed in
    let all : to - from ≡ (middle - from) + (to - middle) = omega arith in
    let here : from + (middle - from) ≡ middle = omega arith in
    rw (all, numbers_join from (middle - from) (to - middle), here)
    (sym (filter_map-append wrong (range_with_len from (middle - from)) (range_with_len middle (to - middle))))

-- the first share begins with the first page, and behind the last one is no page
pub start_first : (pages count : ℕ) → share_start pages count 0 ≡ 0
start_first pages count = omega arith

pub start_behind : (pages count : ℕ) → 0 < count → share_start pages count count ≡ pages
start_behind pages count some = omega arith

-- no share begins before the one in front of it
pub start_next : (pages count share : ℕ) → share_start pages count share ≤ share_start pages count (share + 1)
start_next pages count share =
    let next : (share + 1) * (pages / count) ≡ share * (pages / count) + pages / count = grind arith in
    omega arith

-- nothing is found in front of the first share
pub none_before : (hash : Hash) (directory : Fields) (bytes signed : List ℕ) (count : ℕ) → [] ≡ bad_between hash directory bytes signed 0 (share_start (pages_of directory) count 0)
unfolding bad_between
none_before hash directory bytes signed count = rw (start_first (pages_of directory) count) refl

-- what is found in one share more
pub share_next : (hash : Hash) (directory : Fields) (bytes signed : List ℕ) (count share : ℕ) (before here now : List BadPage) → before ≡ bad_between hash directory bytes signed 0 (share_start (pages_of directory) count share) → here ≡ bad_in_share hash directory bytes signed count share → now ≡ before ++ here → now ≡ bad_between hash directory bytes signed 0 (share_start (pages_of directory) count (share + 1))
share_next hash directory bytes signed count share before here now so_far found grew =
    rw (grew, so_far, found)
    (between_join hash directory bytes signed 0 (share_start (pages_of directory) count share) (share_start (pages_of directory) count (share + 1)) (omega arith) (start_next (pages_of directory) count share))

-- what is found in all shares
pub shares_all : (hash : Hash) (directory : Fields) (bytes signed : List ℕ) (count share : ℕ) (found : List BadPage) → 0 < count → share ≡ count → found ≡ bad_between hash directory bytes signed 0 (share_start (pages_of directory) count share) → found ≡ bad_between hash directory bytes signed 0 (pages_of directory)
shares_all hash directory bytes signed count share found some all so_far = rw (all, start_behind (pages_of directory) count some) at so_far
