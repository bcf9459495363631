-- Why each step keeps what is true of every cache.
use Rattle.std.proofs.Common.{◌≡◌, ◌≢◌, ℕ, zero, suc, ◌+◌, ◌<◌, ◌==◌, List, [], ◌∷◌, length, take, Bool, true, false, Some, None, refl, ap, sym, subst, ◌∙◌, arith}
use Rattle.std.specs.Prelude.{Option, slice_get, slice_set, if◌then◌else◌}
use Rattle.std.specs.Option.{option_map}
use Rattle.std.proofs.lemmas.Grind.{common_steps}
use Rattle.pg_io.specs.Pager.{ToldPages, after_call, with_page}
use Rattle.pg_cache.specs.Held.{Held, find_held, without, changed}
use Rattle.pg_cache.specs.Cache.{IsKept, AreKept}
use Rattle.pg_cache.proofs.HeldFacts.{found_page, absent-without, absent-take, absent-changed}

-- ---- lists of kept pages

pub kept_map : (pages pages' : ℕ) (told told' : Option ToldPages) (held : List Held) → ((h : Held) → IsKept pages told h → IsKept pages' told' h) → AreKept pages told held → AreKept pages' told' held
kept_map pages pages' told told' [] step kept = tt
kept_map pages pages' told told' (h ∷ hs) step kept = (step h kept.0, kept.1, kept_map pages pages' told told' hs step kept.2)

pub kept_find : (pages : ℕ) (told : Option ToldPages) (held : List Held) (page : ℕ) (entry : Held) → AreKept pages told held → find_held held page ≡ Some entry → IsKept pages told entry
kept_find pages told [] page entry kept found = absurd (cc)
kept_find pages told (h ∷ hs) page entry kept found = found_of (h.page == page) refl (kept_find pages told hs page entry kept.2)
  where
    found_of : (b : Bool) → (h.page == page) ≡ b → (find_held hs page ≡ Some entry → IsKept pages told entry) → IsKept pages told entry
    found_of true e rest =
        let same : h ≡ entry = grind (arith, common_steps, e, found) in
        subst (IsKept pages told) same kept.0
    found_of false e rest = rest (grind (arith, common_steps, e, found))

pub kept_without : (pages : ℕ) (told : Option ToldPages) (held : List Held) (page : ℕ) → AreKept pages told held → AreKept pages told (without held page)
kept_without pages told [] page kept = tt
kept_without pages told (h ∷ hs) page kept = without_of (h.page == page) refl (kept_without pages told hs page kept.2)
  where
    without_of : (b : Bool) → (h.page == page) ≡ b → AreKept pages told (without hs page) → AreKept pages told (if h.page == page then hs else h ∷ without hs page)
    without_of true e rest = subst (λ b. AreKept pages told (if b then hs else h ∷ without hs page)) (sym e) kept.2
    without_of false e rest = subst (λ b. AreKept pages told (if b then hs else h ∷ without hs page)) (sym e) (kept.0, absent-without hs page h.page kept.1, rest)

pub gone_without : (pages : ℕ) (told : Option ToldPages) (held : List Held) (page : ℕ) → AreKept pages told held → find_held (without held page) page ≡ None
gone_without pages told [] page kept = refl
gone_without pages told (h ∷ hs) page kept = grind (arith, common_steps, kept.1, gone_without pages told hs page kept.2)

pub kept_take : (pages : ℕ) (told : Option ToldPages) (held : List Held) (n : ℕ) → AreKept pages told held → AreKept pages told (take n held)
kept_take pages told held zero kept = tt
kept_take pages told [] (suc n) kept = tt
kept_take pages told (h ∷ hs) (suc n) kept = (kept.0, absent-take hs n h.page kept.1, kept_take pages told hs n kept.2)

pub kept_changed : (pages : ℕ) (told : Option ToldPages) (change : Held → Held) (held : List Held) (page : ℕ) → ((h : Held) → (change h).page ≡ h.page) → ((h : Held) → h.page ≡ page → IsKept pages told h → IsKept pages told (change h)) → AreKept pages told held → AreKept pages told (changed change held page)
kept_changed pages told change [] page keeps step kept = tt
kept_changed pages told change (h ∷ hs) page keeps step kept = changed_of (h.page == page) refl (kept_changed pages told change hs page keeps step kept.2)
  where
    changed_of : (b : Bool) → (h.page == page) ≡ b → AreKept pages told (changed change hs page) → AreKept pages told (if h.page == page then change h ∷ hs else h ∷ changed change hs page)
    changed_of true e rest =
        let same : h.page ≡ page = grind (arith, common_steps, e) in
        subst (λ b. AreKept pages told (if b then change h ∷ hs else h ∷ changed change hs page)) (sym e) (step h same kept.0, rw keeps kept.1, kept.2)
    changed_of false e rest = subst (λ b. AreKept pages told (if b then change h ∷ hs else h ∷ changed change hs page)) (sym e) (kept.0, absent-changed change hs page h.page keeps kept.1, rest)

-- a page that stands at a place of the list is found by its number
pub find_at_place : (pages : ℕ) (told : Option ToldPages) (held : List Held) (place : ℕ) (entry : Held) → AreKept pages told held → slice_get held place ≡ Some entry → find_held held entry.page ≡ Some entry
find_at_place pages told [] place entry kept there = absurd (cc)
find_at_place pages told (h ∷ hs) zero entry kept there = grind (arith, common_steps, there)
find_at_place pages told (h ∷ hs) (suc place) entry kept there = grind (arith, common_steps, kept.1, find_at_place pages told hs place entry kept.2 there)

pub length-without : (held : List Held) (page : ℕ) (entry : Held) → find_held held page ≡ Some entry → length (without held page) + 1 ≡ length held
length-without [] page entry found = absurd (cc)
length-without (h ∷ hs) page entry found = grind (arith, common_steps, found, length-without hs page entry)

pub length-changed : (change : Held → Held) (held : List Held) (page : ℕ) → length (changed change held page) ≡ length held
length-changed change [] page = refl
length-changed change (h ∷ hs) page = grind (arith, common_steps, length-changed change hs page)

-- the page in front of the others
pub absent_front : (held : List Held) (page other : ℕ) (entry : Held) → find_held held other ≡ None → find_held held page ≡ Some entry → find_held (entry ∷ without held page) other ≡ None
absent_front held page other entry none found =
    let number = found_page held page entry found in
    grind (arith, common_steps, none, found, number, absent-without held page other none)

-- ---- what is told after a call

abbrev pub told_written : ℕ → List ℕ → Bool → ToldPages → ToldPages
told_written page bytes failed told = if failed then after_call told else with_page page bytes told

pub kept_called : (pages : ℕ) (told : Option ToldPages) (h : Held) → IsKept pages told h → IsKept pages (option_map after_call told) h
kept_called pages None h kept = record { inside = kept.inside; agrees = tt }
kept_called pages (Some t) h kept = record { inside = kept.inside; agrees = kept.agrees }

pub get-set_other : (pages : List (List ℕ)) (page other : ℕ) (bytes : List ℕ) → other ≢ page → slice_get (slice_set pages page bytes) other ≡ slice_get pages other
get-set_other [] page other bytes apart = refl
get-set_other (p ∷ ps) zero zero bytes apart = absurd (apart refl)
get-set_other (p ∷ ps) zero (suc other) bytes apart = refl
get-set_other (p ∷ ps) (suc page) zero bytes apart = refl
get-set_other (p ∷ ps) (suc page) (suc other) bytes apart = get-set_other ps page other bytes (λ e. apart (ap suc e))

pub get-set_same : (pages : List (List ℕ)) (page : ℕ) (bytes : List ℕ) → page < length pages → slice_get (slice_set pages page bytes) page ≡ Some bytes
get-set_same [] page bytes inside = absurd (omega arith)
get-set_same (p ∷ ps) zero bytes inside = refl
get-set_same (p ∷ ps) (suc page) bytes inside = get-set_same ps page bytes (omega arith)

pub kept_written : (pages : ℕ) (told : Option ToldPages) (page : ℕ) (bytes : List ℕ) (failed : Bool) (h : Held) → h.page ≢ page → IsKept pages told h → IsKept pages (option_map (told_written page bytes failed) told) h
kept_written pages None page bytes failed h apart kept = record { inside = kept.inside; agrees = tt }
kept_written pages (Some t) page bytes true h apart kept = record { inside = kept.inside; agrees = kept.agrees }
kept_written pages (Some t) page bytes false h apart kept = record { inside = kept.inside; agrees = λ is_clean. get-set_other t.holds page h.page bytes apart ∙ kept.agrees is_clean }

pub kept_absent_written : (pages : ℕ) (told : Option ToldPages) (page : ℕ) (bytes : List ℕ) (failed : Bool) (held : List Held) → find_held held page ≡ None → AreKept pages told held → AreKept pages (option_map (told_written page bytes failed) told) held
kept_absent_written pages told page bytes failed [] none kept = tt
kept_absent_written pages told page bytes failed (h ∷ hs) none kept =
    let apart : h.page ≢ page = grind (arith, common_steps, none) in
    let rest : find_held hs page ≡ None = grind (arith, common_steps, none) in
    (kept_written pages told page bytes failed h apart kept.0, kept.1, kept_absent_written pages told page bytes failed hs rest kept.2)

-- a dirty page needs no agreement
pub kept_dirty : (pages : ℕ) (told told' : Option ToldPages) (h : Held) → h.dirty ≡ true → IsKept pages told h → IsKept pages told' h
kept_dirty pages told None h is_dirty kept = record { inside = kept.inside; agrees = tt }
kept_dirty pages told (Some t) h is_dirty kept = record { inside = kept.inside; agrees = λ is_clean. absurd (cc) }

-- a dirty page of the list was written
pub kept_saved : (pages : ℕ) (told : Option ToldPages) (v : Held) (failed : Bool) (held : List Held) → v.dirty ≡ true → find_held held v.page ≡ Some v → AreKept pages told held → AreKept pages (option_map (told_written v.page v.bytes failed) told) held
kept_saved pages told v failed [] is_dirty found kept = tt
kept_saved pages told v failed (h ∷ hs) is_dirty found kept = saved_of (h.page == v.page) refl (λ rest. kept_saved pages told v failed hs is_dirty rest kept.2)
  where
    saved_of : (b : Bool) → (h.page == v.page) ≡ b → (find_held hs v.page ≡ Some v → AreKept pages (option_map (told_written v.page v.bytes failed) told) hs) → AreKept pages (option_map (told_written v.page v.bytes failed) told) (h ∷ hs)
    saved_of true e others =
        let same : h ≡ v = grind (arith, common_steps, e, found) in
        let number : h.page ≡ v.page = ap (λ (x : Held). x.page) same in
        let none : find_held hs v.page ≡ None = sym (ap (find_held hs) number) ∙ kept.1 in
        (kept_dirty pages told (option_map (told_written v.page v.bytes failed) told) h (ap (λ (x : Held). x.dirty) same ∙ is_dirty) kept.0, kept.1, kept_absent_written pages told v.page v.bytes failed hs none kept.2)
    saved_of false e others =
        let apart : h.page ≢ v.page = grind (arith, common_steps, e) in
        let rest : find_held hs v.page ≡ Some v = grind (arith, common_steps, e, found) in
        (kept_written pages told v.page v.bytes failed h apart kept.0, kept.1, others rest)
