-- How the list of pages that do not match grows from page to page.
use Rattle.std.proofs.Common.{◌≡◌, ℕ, suc, ◌+◌, ◌-◌, ◌<◌, ◌≤◌, List, [], ◌∷◌, ◌++◌, Option, Some, None, ◌*◌, Bool, true, false, cond, min, max, nat_lt, ◌⊎◌, inl, inr, refl, sym, ◌∙◌, arith}
use Rattle.std.specs.List.{filter_map, cons_option, range_with_len}
use Rattle.std.specs.Int.{div_ceil}
use Rattle.std.proofs.lemmas.Bool.Decides.{nat_tests}
use Rattle.pg_bytes.specs.Counts.{RoseBy}
use Rattle.pg_bytes.specs.PageSize.{IsPageSize}
use Rattle.pg_bytes.proofs.CountFacts.{RoseBy-join}
use Rattle.pg_bytes.proofs.PageSizeFacts.{page_sizes}
use Rattle.std.proofs.lemmas.List.{append_assoc, append-nil}

-- what is still to be found, by the page that comes next
left_next : {X : Type 0} (wrong : ℕ → Option X) (page all : ℕ) → page < all → filter_map wrong (range_with_len page (all - page)) ≡ cons_option (wrong page) (filter_map wrong (range_with_len (page + 1) (all - (page + 1))))
left_next wrong page all lt =
    let next : all - page ≡ suc (all - (page + 1)) = omega arith in
    rw next refl

-- a page that matches adds nothing
pub page_matches : {X : Type 0} (wrong : ℕ → Option X) (found whole : List X) (page all : ℕ) → page < all → wrong page ≡ None → found ++ filter_map wrong (range_with_len page (all - page)) ≡ whole → found ++ filter_map wrong (range_with_len (page + 1) (all - (page + 1))) ≡ whole
page_matches wrong found whole page all lt none so_far = rw (left_next wrong page all lt, none) at so_far

-- a page that does not match is added
pub page_is_bad : {X : Type 0} (wrong : ℕ → Option X) (found whole : List X) (page all : ℕ) (bad : X) → page < all → wrong page ≡ Some bad → found ++ filter_map wrong (range_with_len page (all - page)) ≡ whole → (found ++ bad ∷ []) ++ filter_map wrong (range_with_len (page + 1) (all - (page + 1))) ≡ whole
page_is_bad wrong found whole page all bad lt some so_far =
    append_assoc found (bad ∷ []) (filter_map wrong (range_with_len (page + 1) (all - (page + 1))))
    ∙ (rw (left_next wrong page all lt, some) at so_far)

-- all pages were looked at
pub pages_noted : {X : Type 0} (wrong : ℕ → Option X) (found whole : List X) (page all : ℕ) → all ≤ page → found ++ filter_map wrong (range_with_len page (all - page)) ≡ whole → found ≡ whole
pages_noted wrong found whole page all le so_far =
    let none : all - page ≡ 0 = omega arith in
    sym (append-nil found) ∙ (rw none at so_far)

-- a page that the limit reaches begins below it
pub page_inside : (size limit page : ℕ) → IsPageSize size → page < div_ceil limit size → page * size < limit
page_inside size limit page known lt = by_size (page_sizes size known)
  where
    by_size : (size ≡ 4096) ⊎ (size ≡ 16384) → page * size < limit
    by_size (inl e) = let here = rw e at lt in rw e (omega arith)
    by_size (inr e) = let here = rw e at lt in rw e (omega arith)

min_by_test : (slots page : ℕ) (test : Bool) → nat_lt page slots ≡ test → min slots (page + 1) ≡ min slots page + cond test 1 0
min_by_test slots page true e = let lt : page < slots = grind (arith, nat_tests) in grind arith
min_by_test slots page false e = let le : slots ≤ page = grind (arith, nat_tests) in grind arith

-- one page more, which is hashed where it has a slot
pub hashed-next : (slots from page start before now : ℕ) → from ≤ page → RoseBy (min slots page - min slots from) start before → RoseBy (cond (nat_lt page slots) 1 0) before now → RoseBy (min slots (page + 1) - min slots from) start now
hashed-next slots from page start before now le known here =
    let next = min_by_test slots page (nat_lt page slots) refl in
    let more : min slots (page + 1) - min slots from ≡ (min slots page - min slots from) + cond (nat_lt page slots) 1 0 = omega arith in
    rw more (RoseBy-join (min slots page - min slots from) (cond (nat_lt page slots) 1 0) start before now known here)

-- at the end of the loop
pub hashed-all : (slots from to page start now : ℕ) → from ≤ page → page ≤ max from to → to ≤ page → RoseBy (min slots page - min slots from) start now → RoseBy (min slots to - min slots from) start now
hashed-all slots from to page start now begun within end known =
    let same : min slots page - min slots from ≡ min slots to - min slots from = omega arith in
    rw same at known

-- those from the first page on
pub slotted-all : (slots pages : ℕ) → min slots pages - min slots 0 ≡ min slots pages
slotted-all slots pages = omega arith
