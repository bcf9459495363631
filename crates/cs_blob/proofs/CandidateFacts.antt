-- The ranks of code directories.
use Rattle.std.proofs.Common.{◌≡◌, ℕ, ◌+◌, ◌<◌, ◌≤◌, ◌==◌, List, [], ◌∷◌, ◌++◌, All, length, take, drop, get_or, find, fold, map, ap, cond, subst, Bool, true, false, nat_lt, Some, None, refl, sym, ◌∙◌, arith, add-one, drop-cons}
use Rattle.std.proofs.lemmas.Bool.Decides.{nat_tests}
use Rattle.std.proofs.lemmas.Grind.{common_steps}
use Rattle.std.proofs.lemmas.List.{take_more}
use Rattle.std.proofs.lemmas.List.Elements.{All-nil, All-cons, All-head, All-tail}
use Rattle.cs_superblob.specs.declared.entries.Seat.{Seat}
use Rattle.cs_blob.specs.declared.candidates.Candidate.{Candidate}
use Rattle.cs_blob.specs.declared.refusal.BlobRefusal.TheVariants.{SameRank}
use Rattle.cs_blob.specs.Candidates.{among, best, candidate, ranked, stronger, strongest}
use Rattle.cs_blob.specs.Parts.{directories}
use Rattle.cs_blob.specs.Rules.{same_ranks}

-- None of the first `i` code directories has the rank of an earlier one.
pub record RanksBefore (xs : List Candidate) (i : ℕ) : Type 0 where
  pub same : same_ranks (take i xs) (drop i xs) ≡ same_ranks [] xs

-- the code directories from one on, by the ranks before it
same_here : (xs : List Candidate) (i : ℕ) (d : Candidate) → i < length xs → same_ranks (take i xs) (drop i xs) ≡ same_ranks (take i xs) (get_or xs i d ∷ drop (i + 1) xs)
same_here xs i d lt = rw (add-one, drop-cons xs i d) refl

pub RanksBefore-next : (xs : List Candidate) (i : ℕ) (here : Candidate) (wanted : ℕ) → RanksBefore xs i → i < length xs → here ≡ get_or xs i here → wanted ≡ ranked here → find (λ candidate. ranked candidate == wanted) (take i xs) ≡ None → RanksBefore xs (i + 1)
RanksBefore-next xs i here wanted known lt at rank none =
    let same : wanted ≡ ranked (get_or xs i here) = rank ∙ ap ranked at in
    let e : find (λ candidate. ranked candidate == ranked (get_or xs i here)) (take i xs) ≡ None = rw (← same) none in
    let from = same_here xs i here lt in
    let step : same_ranks (take i xs) (get_or xs i here ∷ drop (i + 1) xs) ≡ same_ranks (take i xs ++ get_or xs i here ∷ []) (drop (i + 1) xs) = rw e refl in
    let next : take (i + 1) xs ≡ take i xs ++ get_or xs i here ∷ [] = take_more xs i here lt in
    record { same = rw next (sym (from ∙ step) ∙ known.same) }

pub ranks_broken : (xs : List Candidate) (i : ℕ) (here other : Candidate) (wanted : ℕ) → RanksBefore xs i → i < length xs → here ≡ get_or xs i here → wanted ≡ ranked here → find (λ candidate. ranked candidate == wanted) (take i xs) ≡ Some other → same_ranks [] xs ≡ Some (SameRank other.seat.slot here.seat.slot)
ranks_broken xs i here other wanted known lt at rank some =
    let same : wanted ≡ ranked (get_or xs i here) = rank ∙ ap ranked at in
    let e : find (λ candidate. ranked candidate == ranked (get_or xs i here)) (take i xs) ≡ Some other = rw (← same) some in
    let from = same_here xs i here lt in
    let step : same_ranks (take i xs) (get_or xs i here ∷ drop (i + 1) xs) ≡ Some (SameRank other.seat.slot (get_or xs i here).seat.slot) = rw e refl in
    let names : Some (SameRank other.seat.slot (get_or xs i here).seat.slot) ≡ Some (SameRank other.seat.slot here.seat.slot) = ap (λ candidate. Some (SameRank other.seat.slot candidate.seat.slot)) (sym at) in
    sym known.same ∙ (from ∙ (step ∙ names))

pub RanksBefore-end : (xs : List Candidate) (i : ℕ) → RanksBefore xs i → length xs ≤ i → same_ranks [] xs ≡ None
RanksBefore-end xs i known le =
    let gone : drop i xs ≡ [] = grind (arith, common_steps) in
    sym known.same ∙ rw gone refl

-- the best of several, by the first and the others
pub strongest-from : (xs : List Candidate) (d : Candidate) → 0 < length xs → strongest xs ≡ Some (fold stronger (get_or xs 0 d) (drop 1 xs))
strongest-from [] d lt = absurd (omega arith)
strongest-from (x ∷ xs) d lt = refl

-- what holds of two holds of the better of them
stronger_cases : (P : Candidate → Type 0) (second : Bool) (a b : Candidate) → P a → P b → P (cond second b a)
stronger_cases P true a b first other = other
stronger_cases P false a b first other = first

fold_all : (P : Candidate → Type 0) (first : Candidate) (xs : List Candidate) → P first → All P xs → P (fold stronger first xs)
fold_all P first [] here all = here
fold_all P first (x ∷ xs) here all =
    fold_all P (stronger first x) xs (stronger_cases P (nat_lt (ranked first) (ranked x)) first x here (All-head P x xs all)) (All-tail P x xs all)

-- what holds of each holds of the best
pub All-strongest : (P : Candidate → Type 0) (xs : List Candidate) (held : Candidate) → All P xs → Some held ≡ strongest xs → P held
All-strongest P [] held all e = absurd cc
All-strongest P (x ∷ xs) held all e =
    let same : fold stronger x xs ≡ held = cc in
    subst P same (fold_all P x xs (All-head P x xs all) (All-tail P x xs all))

-- neither of two has a greater rank than the better of them
record IsAbove (a b held : Candidate) : Type 0 where
  pub first : ranked a ≤ ranked held
  pub other : ranked b ≤ ranked held

above_by_test : (a b : Candidate) (second : Bool) → nat_lt (ranked a) (ranked b) ≡ second → IsAbove a b (stronger a b)
above_by_test a b true e =
    let lt : ranked a < ranked b = grind (arith, nat_tests) in
    rw e (record { first = omega arith; other = omega arith })
above_by_test a b false e =
    let le : ranked b ≤ ranked a = grind (arith, nat_tests) in
    rw e (record { first = omega arith; other = omega arith })

-- none of several has a greater rank than the best of them
record IsGreatest (first : Candidate) (xs : List Candidate) (held : Candidate) : Type 0 where
  pub begin : ranked first ≤ ranked held
  pub others : All (λ other. ranked other ≤ ranked held) xs

fold_greatest : (first : Candidate) (xs : List Candidate) → IsGreatest first xs (fold stronger first xs)
fold_greatest first [] = record { begin = omega arith; others = All-nil (λ other. ranked other ≤ ranked first) }
fold_greatest first (x ∷ xs) =
    let here = above_by_test first x (nat_lt (ranked first) (ranked x)) refl in
    let rest = fold_greatest (stronger first x) xs in
    record {
      begin = omega (arith, here.first, rest.begin);
      others = All-cons (λ other. ranked other ≤ ranked (fold stronger (stronger first x) xs)) x xs (omega (arith, here.other, rest.begin)) rest.others;
    }

-- none has a greater rank than the best
pub strongest-greatest : (xs : List Candidate) (held : Candidate) → Some held ≡ strongest xs → All (λ other. ranked other ≤ ranked held) xs
strongest-greatest [] held e = absurd cc
strongest-greatest (x ∷ xs) held e =
    let same : fold stronger x xs ≡ held = cc in
    let known = fold_greatest x xs in
    let P : Candidate → Type 0 = λ held. All (λ other. ranked other ≤ ranked held) (x ∷ xs) in
    subst P same (All-cons (λ other. ranked other ≤ ranked (fold stronger x xs)) x xs known.begin known.others)

map-more : {X Y : Type 0} (f : X → Y) (xs : List X) (x : X) → map f (xs ++ x ∷ []) ≡ map f xs ++ f x ∷ []
map-more f [] x = refl
map-more f (y ∷ xs) x = ap (λ ys. f y ∷ ys) (map-more f xs x)

-- the code directories of one entry more
pub among-more : (bytes : List ℕ) (seats : List Seat) (i : ℕ) (d : Seat) → i < length seats → among bytes (take (i + 1) seats) ≡ among bytes (take i seats) ++ candidate bytes (get_or seats i d) ∷ []
among-more bytes seats i d lt = ap (map (candidate bytes)) (take_more seats i d lt) ∙ map-more (candidate bytes) (take i seats) (get_or seats i d)

-- the best of those that the bytes have
pub best-from : (bytes : List ℕ) (found : List Candidate) (held : Candidate) → found ≡ among bytes (directories bytes) → Some held ≡ strongest found → held ≡ best bytes
unfolding best
best-from bytes found held same e =
    let known : Some held ≡ strongest (among bytes (directories bytes)) = e ∙ ap strongest same in
    rw (← known) refl
