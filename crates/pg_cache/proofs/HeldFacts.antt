-- Where pages stand in a list, and what is found there after a change.
use Rattle.std.proofs.Common.{◌≡◌, ◌≢◌, ℕ, zero, suc, ◌==◌, List, [], ◌∷◌, take, true, false, Some, None, refl, ap, arith}
use Rattle.std.specs.Prelude.{if◌then◌else◌}
use Rattle.std.proofs.lemmas.Grind.{common_steps}
use Rattle.pg_cache.specs.Held.{Held, find_held, without, changed}

-- the first of a list is the page
pub find-first : (held : Held) (others : List Held) (page : ℕ) → (held.page == page) ≡ true → find_held (held ∷ others) page ≡ Some held
find-first held others page e = ap (λ b. if b then Some held else find_held others page) e

pub find-next : (held : Held) (others : List Held) (page : ℕ) → (held.page == page) ≡ false → find_held (held ∷ others) page ≡ find_held others page
find-next held others page e = ap (λ b. if b then Some held else find_held others page) e

pub without-first : (held : Held) (others : List Held) (page : ℕ) → (held.page == page) ≡ true → without (held ∷ others) page ≡ others
without-first held others page e = ap (λ b. if b then others else held ∷ without others page) e

pub without-next : (held : Held) (others : List Held) (page : ℕ) → (held.page == page) ≡ false → without (held ∷ others) page ≡ held ∷ without others page
without-next held others page e = ap (λ b. if b then others else held ∷ without others page) e

pub changed-first : (change : Held → Held) (held : Held) (others : List Held) (page : ℕ) → (held.page == page) ≡ true → changed change (held ∷ others) page ≡ change held ∷ others
changed-first change held others page e = ap (λ b. if b then change held ∷ others else held ∷ changed change others page) e

pub changed-next : (change : Held → Held) (held : Held) (others : List Held) (page : ℕ) → (held.page == page) ≡ false → changed change (held ∷ others) page ≡ held ∷ changed change others page
changed-next change held others page e = ap (λ b. if b then change held ∷ others else held ∷ changed change others page) e

-- the number of the page that was found
pub found_page : (held : List Held) (page : ℕ) (entry : Held) → find_held held page ≡ Some entry → entry.page ≡ page
found_page [] page entry found = cc
found_page (h ∷ hs) page entry found = grind (arith, common_steps, found_page hs page entry)

-- other pages are found as before
pub find-without : (held : List Held) (page other : ℕ) → other ≢ page → find_held (without held page) other ≡ find_held held other
find-without [] page other apart = refl
find-without (h ∷ hs) page other apart = grind (arith, common_steps, find-without hs page other apart)

pub find-changed : (change : Held → Held) (held : List Held) (page other : ℕ) → ((h : Held) → (change h).page ≡ h.page) → other ≢ page → find_held (changed change held page) other ≡ find_held held other
find-changed change [] page other keeps apart = refl
find-changed change (h ∷ hs) page other keeps apart = grind (arith, common_steps, keeps h, find-changed change hs page other keeps apart)

pub find-changed_same : (change : Held → Held) (held : List Held) (page : ℕ) (entry : Held) → ((h : Held) → (change h).page ≡ h.page) → find_held held page ≡ Some entry → find_held (changed change held page) page ≡ Some (change entry)
find-changed_same change [] page entry keeps found = cc
find-changed_same change (h ∷ hs) page entry keeps found = grind (arith, common_steps, keeps h, find-changed_same change hs page entry keeps)

-- where it is not in the list nothing is changed
pub changed-absent : (change : Held → Held) (held : List Held) (page : ℕ) → find_held held page ≡ None → changed change held page ≡ held
changed-absent change [] page none = refl
changed-absent change (h ∷ hs) page none = grind (arith, common_steps, changed-absent change hs page)

pub without-absent : (held : List Held) (page : ℕ) → find_held held page ≡ None → without held page ≡ held
without-absent [] page none = refl
without-absent (h ∷ hs) page none = grind (arith, common_steps, without-absent hs page)

-- what is not in the list is in no part of it
pub absent-without : (held : List Held) (page other : ℕ) → find_held held other ≡ None → find_held (without held page) other ≡ None
absent-without [] page other none = refl
absent-without (h ∷ hs) page other none = grind (arith, common_steps, absent-without hs page other)

pub absent-take : (held : List Held) (n page : ℕ) → find_held held page ≡ None → find_held (take n held) page ≡ None
absent-take held zero page none = refl
absent-take [] (suc n) page none = refl
absent-take (h ∷ hs) (suc n) page none = grind (arith, common_steps, absent-take hs n page)

pub absent-changed : (change : Held → Held) (held : List Held) (page other : ℕ) → ((h : Held) → (change h).page ≡ h.page) → find_held held other ≡ None → find_held (changed change held page) other ≡ None
absent-changed change [] page other keeps none = refl
absent-changed change (h ∷ hs) page other keeps none = grind (arith, common_steps, keeps h, absent-changed change hs page other keeps)
