-- Where a cdhash is listed in one row of modules followed by another.
use Rattle.std.proofs.Common.{◌≡◌, ℕ, ◌+◌, ◌<◌, List, [], ◌∷◌, ◌++◌, length, get_or, drop, Result, Option, Some, None, refl, sym, ◌∙◌, ap, arith}
use Rattle.std.proofs.lemmas.List.{drop_more}
use Rattle.std.specs.Option.{option_map, option_map_or}
use Rattle.cs_policy.specs.declared.refusal.Refusal.{Refusal}
use Rattle.cs_trust.specs.Listed.{Table, place_of, listed, listed_from}
use Rattle.pg_trusted.specs.TrustStep.{cache_at}
use Rattle.pg_trusted.specs.Kept.{entries_of, tables_of}

-- what is found in modules whose numbers are so much higher
abbrev shifted : ℕ → Option (ℕ × ℕ) → Option (ℕ × ℕ)
shifted by found = option_map (λ f. (by + f.0, f.1)) found

-- one module more in front
one_shifted : (by next : ℕ) (place : Option ℕ) (x y : Option (ℕ × ℕ)) → x ≡ shifted by y → option_map_or (λ p. Some (by + next, p)) place x ≡ shifted by (option_map_or (λ p. Some (next, p)) place y)
one_shifted by next None x y e = e
one_shifted by next (Some p) x y e = refl

listed_shifted : (by next : ℕ) (modules : List Table) (cdhash : List ℕ) → listed_from (by + next) modules cdhash ≡ shifted by (listed_from next modules cdhash)
listed_shifted by next [] cdhash = refl
listed_shifted by next (entries ∷ modules) cdhash =
    one_shifted by next (place_of entries cdhash) (listed_from (by + next + 1) modules cdhash) (listed_from (next + 1) modules cdhash)
    (ap (λ n. listed_from n modules cdhash) (omega arith) ∙ listed_shifted by (next + 1) modules cdhash)

one_joined : (next : ℕ) (place : Option ℕ) (x y z : Option (ℕ × ℕ)) → x ≡ option_map_or Some y z → option_map_or (λ p. Some (next, p)) place x ≡ option_map_or Some (option_map_or (λ p. Some (next, p)) place y) z
one_joined next None x y z e = e
one_joined next (Some p) x y z e = refl

listed_joined : (next : ℕ) (xs ys : List Table) (cdhash : List ℕ) → listed_from next (xs ++ ys) cdhash ≡ option_map_or Some (listed_from next xs cdhash) (listed_from (next + length xs) ys cdhash)
listed_joined next [] ys cdhash = ap (λ n. listed_from n ys cdhash) (omega arith)
listed_joined next (entries ∷ xs) ys cdhash =
    one_joined next (place_of entries cdhash) (listed_from (next + 1) (xs ++ ys) cdhash) (listed_from (next + 1) xs cdhash) (listed_from (next + length (entries ∷ xs)) ys cdhash)
    (listed_joined (next + 1) xs ys cdhash
    ∙ ap (λ n. option_map_or Some (listed_from (next + 1) xs cdhash) (listed_from n ys cdhash)) (omega arith))

-- what is listed in the first row is listed there in both
pub listed_first : (xs ys : List Table) (cdhash : List ℕ) (found : ℕ × ℕ) → Some found ≡ listed xs cdhash → listed (xs ++ ys) cdhash ≡ Some found
listed_first xs ys cdhash found e =
    listed_joined 0 xs ys cdhash
    ∙ ap (λ o. option_map_or Some o (listed_from (0 + length xs) ys cdhash)) (sym e)

-- what is not listed in the first row is listed where the second lists it, behind the modules of the first
pub listed_second : (xs ys : List Table) (cdhash : List ℕ) (found : Option (ℕ × ℕ)) → None ≡ listed xs cdhash → found ≡ listed ys cdhash → listed (xs ++ ys) cdhash ≡ option_map (λ f. (length xs + f.0, f.1)) found
listed_second xs ys cdhash found none e =
    listed_joined 0 xs ys cdhash
    ∙ (ap (λ o. option_map_or Some o (listed_from (0 + length xs) ys cdhash)) (sym none)
    ∙ (ap (λ n. listed_from n ys cdhash) (omega arith)
    ∙ (listed_shifted (length xs) 0 ys cdhash
    ∙ ap (shifted (length xs)) (sym e))))

-- an empty module lists nothing
pub place_of_empty : (entries : Table) (cdhash : List ℕ) → entries ≡ [] → place_of entries cdhash ≡ None
unfolding place_of
place_of_empty entries cdhash e =
    let none : place_of [] cdhash ≡ None = refl in
    ap (λ entries. place_of entries cdhash) e ∙ none

-- the search goes on behind a module that does not have the cdhash
pub listed_behind : (caches : List (Result Table Refusal)) (loaded : List ℕ) (cdhash : List ℕ) (number : ℕ) → number < length loaded → place_of (entries_of (cache_at caches (get_or loaded number 0))) cdhash ≡ None → listed_from (number + 1) (tables_of caches (drop (number + 1) loaded)) cdhash ≡ listed_from number (tables_of caches (drop number loaded)) cdhash
listed_behind caches loaded cdhash number lt none =
    sym
    (ap (λ numbers. listed_from number (tables_of caches numbers) cdhash) (drop_more loaded number 0 lt)
    ∙ ap (λ place. option_map_or (λ p. Some (number, p)) place (listed_from (number + 1) (tables_of caches (drop (number + 1) loaded)) cdhash)) none)
