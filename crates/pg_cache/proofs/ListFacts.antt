-- Lists that are made of the pages of a list, where each page stands in it once.
use Rattle.std.proofs.Common.{◌≡◌, ℕ, zero, suc, ◌≤◌, ◌==◌, List, [], ◌∷◌, length, take, map, Bool, true, false, Some, None, refl, ap, sym, ◌∙◌, arith}
use Rattle.std.specs.Prelude.{Option, not, filter, slice_get, if◌then◌else◌}
use Rattle.std.specs.Option.{option_map}
use Rattle.std.proofs.lemmas.Grind.{common_steps}
use Rattle.pg_io.specs.Pager.{ToldPages}
use Rattle.pg_cache.specs.Held.{Held, find_held, without, changed}
use Rattle.pg_cache.specs.Cache.{AreKept, Resident, resident_of}
use Rattle.pg_cache.specs.Gives.{has_left, marked}
use Rattle.pg_cache.proofs.SoundFacts.{find_at_place}

-- a test on what is made of a page, that it is of another number
module _ {B : Type 0} (make : Held → B) (test : B → Bool) (page : ℕ) (says : (h : Held) → test (make h) ≡ not (h.page == page)) where
  pub map_absent : (held : List Held) → find_held held page ≡ None → filter test (map make held) ≡ map make held
  map_absent [] none = refl
  map_absent (h ∷ hs) none = grind (arith, common_steps, says h, map_absent hs)

  pub map_without : (pages : ℕ) (told : Option ToldPages) (held : List Held) → AreKept pages told held → map make (without held page) ≡ filter test (map make held)
  map_without pages told [] kept = refl
  map_without pages told (h ∷ hs) kept = without_of (h.page == page) refl (map_without pages told hs kept.2)
    where
      without_of : (b : Bool) → (h.page == page) ≡ b → map make (without hs page) ≡ filter test (map make hs) → map make (if h.page == page then hs else h ∷ without hs page) ≡ filter test (make h ∷ map make hs)
      without_of true e rest =
          let same : h.page ≡ page = grind (arith, common_steps, e) in
          let none : find_held hs page ≡ None = sym (ap (find_held hs) same) ∙ kept.1 in
          let no : test (make h) ≡ false = says h ∙ ap not e in
          ap (λ b. map make (if b then hs else h ∷ without hs page)) e ∙ sym (map_absent hs none) ∙ sym (ap (λ b. if b then make h ∷ filter test (map make hs) else filter test (map make hs)) no)
      without_of false e rest =
          let yes' : test (make h) ≡ true = says h ∙ ap not e in
          ap (λ b. map make (if b then hs else h ∷ without hs page)) e ∙ ap (λ (l : List B). make h ∷ l) rest ∙ sym (ap (λ b. if b then make h ∷ filter test (map make hs) else filter test (map make hs)) yes')

pub map-take : {B : Type 0} (make : Held → B) (n : ℕ) (held : List Held) → map make (take n held) ≡ take n (map make held)
map-take make zero held = refl
map-take make (suc n) [] = refl
map-take make (suc n) (h ∷ hs) = ap (λ (l : List _). make h ∷ l) (map-take make n hs)

pub length-map_held : {B : Type 0} (make : Held → B) (held : List Held) → length (map make held) ≡ length held
length-map_held make [] = refl
length-map_held make (h ∷ hs) = ap suc (length-map_held make hs)

-- ---- pages that are marked

marked_absent : (page : ℕ) (dirty : Bool) (held : List Held) → find_held held page ≡ None → marked page dirty (map resident_of held) ≡ map resident_of held
marked_absent page dirty [] none = refl
marked_absent page dirty (h ∷ hs) none = marked_of (h.page == page) refl (marked_absent page dirty hs)
  where
    marked_of : (b : Bool) → (h.page == page) ≡ b → (find_held hs page ≡ None → marked page dirty (map resident_of hs) ≡ map resident_of hs) → marked page dirty (resident_of h ∷ map resident_of hs) ≡ resident_of h ∷ map resident_of hs
    marked_of true e rest = absurd (let h' = sym (ap (λ b. if b then Some h else find_held hs page) e) ∙ none in cc)
    marked_of false e rest =
        let none' : find_held hs page ≡ None = sym (ap (λ b. if b then Some h else find_held hs page) e) ∙ none in
        ap (λ b. (if b then record { page = h.page; dirty = dirty } else resident_of h) ∷ marked page dirty (map resident_of hs)) e
        ∙ ap (λ (l : List Resident). resident_of h ∷ l) (rest none')

pub map_marked : (pages : ℕ) (told : Option ToldPages) (change : Held → Held) (page : ℕ) (dirty : Bool) (held : List Held) → ((h : Held) → resident_of (change h) ≡ record { page = h.page; dirty = dirty }) → AreKept pages told held
    → map resident_of (changed change held page) ≡ marked page dirty (map resident_of held)
map_marked pages told change page dirty [] marks kept = refl
map_marked pages told change page dirty (h ∷ hs) marks kept = marked_of (h.page == page) refl (map_marked pages told change page dirty hs marks kept.2)
  where
    marked_of : (b : Bool) → (h.page == page) ≡ b → map resident_of (changed change hs page) ≡ marked page dirty (map resident_of hs)
        → map resident_of (if h.page == page then change h ∷ hs else h ∷ changed change hs page) ≡ marked page dirty (resident_of h ∷ map resident_of hs)
    marked_of true e rest =
        let same : h.page ≡ page = grind (arith, common_steps, e) in
        let none : find_held hs page ≡ None = sym (ap (find_held hs) same) ∙ kept.1 in
        ap (λ b. map resident_of (if b then change h ∷ hs else h ∷ changed change hs page)) e
        ∙ ap (λ (r : Resident). r ∷ map resident_of hs) (marks h)
        ∙ ap (λ (l : List Resident). record { page = h.page; dirty = dirty } ∷ l) (sym (marked_absent page dirty hs none))
        ∙ sym (ap (λ b. (if b then record { page = h.page; dirty = dirty } else resident_of h) ∷ marked page dirty (map resident_of hs)) e)
    marked_of false e rest =
        ap (λ b. map resident_of (if b then change h ∷ hs else h ∷ changed change hs page)) e
        ∙ ap (λ (l : List Resident). resident_of h ∷ l) rest
        ∙ sym (ap (λ b. (if b then record { page = h.page; dirty = dirty } else resident_of h) ∷ marked page dirty (map resident_of hs)) e)

pub marked_none : (page : ℕ) (dirty : Bool) (held : List Held) → find_held held page ≡ None → map resident_of held ≡ marked page dirty (map resident_of held)
marked_none page dirty held none = sym (marked_absent page dirty held none)

-- ---- a list without its last page

abbrev pub last_number : List Held → ℕ → Option ℕ
last_number held n = option_map (λ h. h.page) (slice_get held n)

-- what is found without the last page of a full list
pub find_taken : (pages : ℕ) (told : Option ToldPages) (held : List Held) (n q : ℕ) → AreKept pages told held → length held ≤ suc n
    → find_held (take n held) q ≡ (if has_left (last_number held n) q then None else find_held held q)
find_taken pages told [] zero q kept long = refl
find_taken pages told [] (suc n) q kept long = refl
find_taken pages told (v ∷ []) zero q kept long = taken_of (v.page == q) refl
  where
    taken_of : (c : Bool) → (v.page == q) ≡ c → None ≡ (if v.page == q then None else if v.page == q then Some v else None)
    taken_of true e = sym (ap (λ c. if c then None else if v.page == q then Some v else None) e)
    taken_of false e = sym (ap (λ c. if c then None else if c then Some v else None) e)
find_taken pages told (v ∷ w ∷ ws) zero q kept long = absurd (omega arith)
find_taken pages told (v ∷ vs) (suc n) q kept long = taken_of (v.page == q) refl (has_left (last_number vs n) q) refl (find_taken pages told vs n q kept.2 (omega arith))
  where
    -- the last page is not this one
    apart_of : (o : Option Held) → slice_get vs n ≡ o → v.page ≡ q → has_left (option_map (λ (h : Held). h.page) o) q ≡ false
    apart_of None e same = refl
    apart_of (Some last) e same =
        let found : find_held vs last.page ≡ Some last = find_at_place pages told vs n last kept.2 e in
        other_of (last.page == q) refl found
      where
        other_of : (c : Bool) → (last.page == q) ≡ c → find_held vs last.page ≡ Some last → c ≡ false
        other_of false e found = refl
        other_of true e found =
            let number : last.page ≡ v.page = (grind (arith, common_steps, e)) ∙ sym same in
            absurd (let h = sym found ∙ ap (find_held vs) number ∙ kept.1 in cc)

    taken_of : (c : Bool) → (v.page == q) ≡ c → (l : Bool) → has_left (last_number vs n) q ≡ l → find_held (take n vs) q ≡ (if has_left (last_number vs n) q then None else find_held vs q)
        → (if v.page == q then Some v else find_held (take n vs) q) ≡ (if has_left (last_number vs n) q then None else if v.page == q then Some v else find_held vs q)
    taken_of true e l el rest =
        let same : v.page ≡ q = grind (arith, common_steps, e) in
        let stays = apart_of (slice_get vs n) refl same in
        ap (λ c. if c then Some v else find_held (take n vs) q) e ∙ sym (ap (λ l. if l then None else if v.page == q then Some v else find_held vs q) stays ∙ ap (λ c. if c then Some v else find_held vs q) e)
    taken_of false e l el rest = ap (λ c. if c then Some v else find_held (take n vs) q) e ∙ rest ∙ sym (ap (λ c. if has_left (last_number vs n) q then None else if c then Some v else find_held vs q) e)
