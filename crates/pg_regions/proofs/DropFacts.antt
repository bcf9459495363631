-- The regions of a process, counted off one after another.
use Rattle.std.proofs.Common.{◌≡◌, ℕ, ◌+◌, ◌<◌, ◌==◌, ◌&&◌, List, [], ◌∷◌, length, take, get_or, filter, true, false, not, Option, Some, None, refl, ap, ◌∙◌, arith}
use Rattle.std.specs.Prelude.{AllPairs, if◌then◌else◌}
use Rattle.std.specs.List.{AllByRecursion}
use Rattle.std.specs.Option.{option_map_or, option_or}
use Rattle.std.proofs.lemmas.Grind.{common_steps}
use Rattle.std.proofs.lemmas.List.{take_more, get_or-take, get_or_default, length-take}
use Rattle.std.proofs.lemmas.List.Elements.{recursion_from_All, filter_agree}
use Rattle.cs_policy.specs.declared.region.Region.{Region}
use Rattle.pg_regions.specs.Lookups.{is_region, region_of, is_of_pid}
use Rattle.pg_regions.proofs.ListFacts.{each, filter_all, filter-filter, find-append, found_passes, found_has}

-- no earlier region has the number of this one
earlier_differ : (regions : List Region) (i : ℕ) (d : Region) → i < length regions
    → AllPairs (λ one other. is_region one.id other ≡ false) regions
    → AllByRecursion (λ region. is_region region.id (get_or regions i d) ≡ false) (take i regions)
earlier_differ regions i d within pairs =
    recursion_from_All (λ region. is_region region.id (get_or regions i d) ≡ false) (take i regions)
    (λ k e below.
    let less : k < i = omega (arith, length-take i regions) in
    ap (λ (region : Region). is_region region.id (get_or regions i d)) (get_or-take i regions k e less ∙ get_or_default regions k e d (omega arith)) ∙ pairs k i d less within)

-- one region more is counted off
pub of_pid-more : (regions : List Region) (pid i : ℕ) (d : Region) → i < length regions
    → AllPairs (λ one other. is_region one.id other ≡ false) regions → (j : ℕ)
    → is_of_pid (take (i + 1) regions) pid j ≡ (if ((get_or regions i d).pid == pid) && (j == (get_or regions i d).id) then true else is_of_pid (take i regions) pid j)
of_pid-more regions pid i d within pairs j =
    ap (λ (l : List Region). is_of_pid l pid j) (take_more regions i d within)
    ∙ ap (λ (o : Option Region). option_map_or (λ region. region.pid == pid) o false) (find-append (is_region j) (take i regions) (get_or regions i d ∷ []))
    ∙ by_found (region_of (take i regions) j) refl
  where
    by_found : (o : Option Region) → region_of (take i regions) j ≡ o
        → option_map_or (λ region. region.pid == pid) (option_or (region_of (take i regions) j) (region_of (get_or regions i d ∷ []) j)) false
        ≡ (if ((get_or regions i d).pid == pid) && (j == (get_or regions i d).id) then true else is_of_pid (take i regions) pid j)
    by_found None found = grind (arith, common_steps, found)
    by_found (Some g) found =
        let differ = found_has (λ region. is_region region.id (get_or regions i d) ≡ false) (is_region j) (take i regions) g (earlier_differ regions i d within pairs) found in
        let number = found_passes (is_region j) (take i regions) g found in
        grind (arith, common_steps, found, differ, number)

-- what belongs to no region that was counted off so far
abbrev pub left_by : {X : Type 0} → (X → ℕ) → List Region → ℕ → ℕ → List X → List X
left_by region regions pid i xs = filter (λ x. not (is_of_pid (take i regions) pid (region x))) xs

module _ {X : Type 0} (region : X → ℕ) (regions : List Region) (pid i : ℕ) (d : Region) (within : i < length regions) (pairs : AllPairs (λ one other. is_region one.id other ≡ false) regions) where
  pub left-dropped : (get_or regions i d).pid ≡ pid → (xs : List X)
      → filter (λ x. not (region x == (get_or regions i d).id)) (left_by region regions pid i xs) ≡ left_by region regions pid (i + 1) xs
  left-dropped of xs =
      filter-filter (λ x. not (region x == (get_or regions i d).id)) (λ x. not (is_of_pid (take i regions) pid (region x))) (λ x. not (is_of_pid (take (i + 1) regions) pid (region x)))
      (λ x. grind (arith, common_steps, of_pid-more regions pid i d within pairs (region x), of)) xs

  pub left-skipped : ((get_or regions i d).pid ≡ pid → ⊥) → (xs : List X)
      → left_by region regions pid i xs ≡ left_by region regions pid (i + 1) xs
  left-skipped other xs =
      filter_agree (λ x. not (is_of_pid (take i regions) pid (region x))) (λ x. not (is_of_pid (take (i + 1) regions) pid (region x)))
      (λ x. grind (arith, common_steps, of_pid-more regions pid i d within pairs (region x), other)) xs

pub left-first : {X : Type 0} (region : X → ℕ) (regions : List Region) (pid : ℕ) (xs : List X)
    → left_by region regions pid 0 xs ≡ xs
left-first region regions pid xs = filter_all (λ x. true) xs (each (λ x. true ≡ true) (λ x. refl) xs)
