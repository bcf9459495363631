-- A page that is looked at and brought: the bytes of the pages, the resident list, and the pager calls.
use Rattle.std.proofs.Common.{◌≡◌, ℕ, zero, suc, ◌-◌, ◌<◌, ◌==◌, Bool, true, false, List, [], ◌∷◌, map, take, Option, Some, None, refl, sym, ap, subst, ◌∙◌, arith}
use Rattle.std.specs.Prelude.{MatchOption, MatchBool, Result, Ok, Err, IfSome, IsSome, find, is_some, slice_get, slice_set, unwrap_or}
use Rattle.std.specs.Option.{option_map, option_map_or}
use Rattle.std.proofs.lemmas.Grind.{common_steps}
use Rattle.pg_cache.specs.Held.{Held, find_held, fronted}
use Rattle.pg_cache.specs.Cache.{CacheNow, resident_page, at_hand, in_spare, is_dirty, contents, IsSound}
use Rattle.pg_cache.specs.Cache as cache
use Rattle.pg_cache.specs.Gives.{PeekLeaves, BringGives, other_residents}
use Rattle.pg_cache.specs.Steps.{ReadsSpare, WritesBack, Saves, TakesPlace, Enters, Brings}
use Rattle.pg_cache.specs.Finds.{Finds}
use Rattle.pg_cache.specs.declared.fault.PagerFault.{PagerFault}
use Rattle.pg_cache.proofs.HeldFacts.{found_page}
use Rattle.pg_cache.proofs.GiveFacts.{hand_resident, hand_spare, hand_known, hand_whole}
use Rattle.pg_cache.proofs.Laws.{some_pages, some_finds, finds_same, finds_read, bring_finds}
use Rattle.pg_cache.proofs.SoundFacts.{get-set_same}
use Rattle.pg_plain.specs.PlainFile.{Resident, is_page}
use Rattle.pg_plain.specs.Given.{without_page}
use Rattle.pg_object.specs.Object.{resident_of}
use Rattle.pg_object.proofs.KeepFacts.{found_resident}
use Rattle.pg_object.proofs.StepFacts.{plain_residents}

-- ---- the bytes that were found

-- the page's bytes as the look found them, and of each other page some that it may have
pub read_pages : CacheNow → ℕ → List ℕ → List (List ℕ)
read_pages old page bytes = slice_set (some_pages old) page bytes

pub record ReadAs (old seen : CacheNow) (page : ℕ) (bytes : List ℕ) : Type 0 where
  pub before : Finds old (read_pages old page bytes)
  pub after : Finds seen (read_pages old page bytes)
  pub here : slice_get (read_pages old page bytes) page ≡ Some bytes

pub looked_read : (old seen : CacheNow) (page : ℕ) (h : Held) → IsSound old → page < old.pager.pages → PeekLeaves old page false seen → at_hand seen page ≡ Some h → ReadAs old seen page h.bytes
unfolding read_pages
looked_read old seen page h sound inside leaves at =
    let finds = some_finds old sound in
    let count = finds.count in
    let now_inside : page < seen.pager.pages = let p = leaves.sizes.pages in omega arith in
    let long = hand_whole seen page h leaves.sound at ∙ leaves.sizes.page_size in
    let known = subst (λ o. IfSome o (λ content. slice_get content page ≡ Some h.bytes)) leaves.content (hand_known seen page h leaves.sound now_inside at) in
    let before = finds_read old page h.bytes (some_pages old) inside long (own (resident_page old page) refl) known finds in
    record {
      before = before;
      after = finds_same old seen (slice_set (some_pages old) page h.bytes) leaves.list leaves.content leaves.sizes before;
      here = get-set_same (some_pages old) page h.bytes (omega arith);
    }
  where
    own : (o : Option Held) → resident_page old page ≡ o → IfSome o (λ x. x.bytes ≡ h.bytes)
    own None e = tt
    own (Some x) e =
        let there : resident_page seen page ≡ Some x = ap (λ (l : List Held). find_held l page) leaves.list ∙ e in
        let same : Some x ≡ Some h = sym (hand_resident seen page x there) ∙ at in
        let is : x ≡ h = cc in
        ap (λ (y : Held). y.bytes) is

set_same : (l : List (List ℕ)) (i : ℕ) (bytes : List ℕ) → slice_get l i ≡ Some bytes → slice_set l i bytes ≡ l
set_same [] i bytes e = refl
set_same (b ∷ bs) zero bytes e = let same : b ≡ bytes = cc in ap (λ (x : List ℕ). x ∷ bs) (sym same)
set_same (b ∷ bs) (suc i) bytes e = ap (λ (l : List (List ℕ)). b ∷ l) (set_same bs i bytes e)

pub brought_read : (old seen new : CacheNow) (page : ℕ) (left : Option ℕ) (h : Held) → page < old.pager.pages → PeekLeaves old page false seen → at_hand seen page ≡ Some h → ReadAs old seen page h.bytes
    → BringGives seen page (Ok left) new → Finds new (read_pages old page h.bytes)
unfolding read_pages
brought_read old seen new page left h inside leaves at read gives =
    let now_inside : page < seen.pager.pages = let p = leaves.sizes.pages in omega arith in
    let kept : resident_page new page ≡ Some h = subst (λ o. IfSome o (λ held. resident_page new page ≡ Some held)) at gives.found.kept in
    let peeked = bring_finds seen new page left h (slice_set (some_pages old) page h.bytes) now_inside gives kept read.after in
    subst (Finds new) (set_same (slice_set (some_pages old) page h.bytes) page h.bytes read.here) peeked.after

-- ---- the list

abbrev plain : cache.Resident → Resident
plain r = record { page = r.page; dirty = r.dirty }

plain_take : (n : ℕ) (rs : List cache.Resident) → map plain (take n rs) ≡ take n (map plain rs)
plain_take zero rs = refl
plain_take (suc n) [] = refl
plain_take (suc n) (r ∷ rs) = ap (λ rest. plain r ∷ rest) (plain_take n rs)

plain_others : (page : ℕ) (rs : List cache.Resident) → map plain (other_residents page rs) ≡ without_page page (map plain rs)
plain_others page [] = refl
plain_others page (r ∷ rs) = by_test (r.page == page) refl (plain_others page rs)
  where
    by_test : (b : Bool) → (r.page == page) ≡ b → map plain (other_residents page rs) ≡ without_page page (map plain rs)
        → map plain (other_residents page (r ∷ rs)) ≡ without_page page (map plain (r ∷ rs))
    by_test true e rest = grind (arith, common_steps, e, rest)
    by_test false e rest = grind (arith, common_steps, e, rest)

-- the page at the front: it keeps what it is
front_is : (old : CacheNow) (page : ℕ) → record { page = page; dirty = is_dirty old page } ≡ unwrap_or (find (is_page page) (map resident_of old.held)) (record { page = page; dirty = false })
front_is old page = by_held (resident_page old page) refl ∙ ap (λ o. unwrap_or o (record { page = page; dirty = false })) (sym (found_resident old.held page))
  where
    by_held : (o : Option Held) → resident_page old page ≡ o
        → record { page = page; dirty = option_map_or (λ (h : Held). h.dirty) (resident_page old page) false } ≡ unwrap_or (option_map resident_of (resident_page old page)) (record { page = page; dirty = false })
    by_held None e = ap (λ o. record { page = page; dirty = option_map_or (λ (h : Held). h.dirty) o false }) e ∙ ap (λ o. unwrap_or (option_map resident_of o) (record { page = page; dirty = false })) (sym e)
    by_held (Some h) e =
        ap (λ o. record { page = page; dirty = option_map_or (λ (h : Held). h.dirty) o false }) e
        ∙ ap (λ n. record { page = n; dirty = h.dirty }) (sym (found_page old.held page h e))
        ∙ ap (λ o. unwrap_or (option_map resident_of o) (record { page = page; dirty = false })) (sym e)

pub brought_list : (old seen new : CacheNow) (page : ℕ) → seen.held ≡ old.held → seen.limit ≡ old.limit
    → cache.residents new ≡ record { page = page; dirty = is_dirty seen page } ∷ take (seen.limit - 1) (other_residents page (cache.residents seen))
    → map resident_of new.held
    ≡ unwrap_or (find (is_page page) (map resident_of old.held)) (record { page = page; dirty = false }) ∷ take (old.limit - 1) (without_page page (map resident_of old.held))
brought_list old seen new page held limit list =
    sym (plain_residents new.held) ∙ ap (map plain) list
    ∙ ap (λ rest. record { page = page; dirty = is_dirty seen page } ∷ rest)
    (plain_take (seen.limit - 1) (other_residents page (cache.residents seen)) ∙ ap (take (seen.limit - 1)) (plain_others page (cache.residents seen) ∙ ap (without_page page) (plain_residents seen.held)))
    ∙ ap (λ first. first ∷ take (seen.limit - 1) (without_page page (map resident_of seen.held))) (front_is seen page)
    ∙ ap (λ (l : List Held). unwrap_or (find (is_page page) (map resident_of l)) (record { page = page; dirty = false }) ∷ take (seen.limit - 1) (without_page page (map resident_of l))) held
    ∙ ap (λ n. unwrap_or (find (is_page page) (map resident_of old.held)) (record { page = page; dirty = false }) ∷ take (n - 1) (without_page page (map resident_of old.held))) limit

get_map : (held : List Held) (n : ℕ) → slice_get (map resident_of held) n ≡ option_map resident_of (slice_get held n)
get_map [] n = refl
get_map (h ∷ held) zero = refl
get_map (h ∷ held) (suc n) = get_map held n

-- the page that has to leave
pub last_is : (c : CacheNow) → slice_get (map resident_of c.held) (c.limit - 1) ≡ option_map resident_of (cache.victim c)
last_is c = get_map c.held (c.limit - 1)

-- ---- a bring that failed: the write of the victim, which is dirty

abbrev failed_as : PagerFault → Result (Option ℕ) PagerFault
failed_as fault = Err fault

pub dirty_victim : (seen new : CacheNow) (page : ℕ) (fault : PagerFault) → resident_page seen page ≡ None → IsSome (at_hand seen page) → Brings seen page (Err fault) new
    → (v : Held) × ((cache.victim seen ≡ Some v) × ((fault.page ≡ v.page) × (v.dirty ≡ true)))
dirty_victim seen new page fault absent there brings =
    let none : Result (Option ℕ) PagerFault = Ok None in
    let err : Result (Option ℕ) PagerFault = Err fault in
    entered (subst (λ o. MatchOption o (Enters seen page err new) (λ _. (err ≡ none) × (new ≡ record seen { held = fronted seen.held page }))) absent brings)
  where
    true_false : true ≡ false → ⊥
    true_false e = cc

    saved : (v : Held) → cache.victim seen ≡ Some v → fault.page ≡ v.page → (c : CacheNow) → Saves seen v true c → (v : Held) × ((cache.victim seen ≡ Some v) × ((fault.page ≡ v.page) × (v.dirty ≡ true)))
    saved v e at c saves = by_dirty v.dirty refl saves
      where
        by_dirty : (b : Bool) → v.dirty ≡ b → MatchBool b (WritesBack seen v true c) ((true ≡ false) × (c ≡ seen)) → (v : Held) × ((cache.victim seen ≡ Some v) × ((fault.page ≡ v.page) × (v.dirty ≡ true)))
        by_dirty true f w = (v, (e, (at, f)))
        by_dirty false f w = absurd (true_false w.0)

    taken : TakesPlace seen (Err fault) new → (v : Held) × ((cache.victim seen ≡ Some v) × ((fault.page ≡ v.page) × (v.dirty ≡ true)))
    taken t = by_victim (cache.victim seen) refl t.saves t.fault
      where
        by_victim : (o : Option Held) → cache.victim seen ≡ o → MatchOption o ((true ≡ false) × (t.saved ≡ seen)) (λ held. Saves seen held true t.saved) → IfSome o (λ held. fault.page ≡ held.page)
            → (v : Held) × ((cache.victim seen ≡ Some v) × ((fault.page ≡ v.page) × (v.dirty ≡ true)))
        by_victim None e saves at = absurd (true_false saves.0)
        by_victim (Some v) e saves at = saved v e at t.saved saves

    on : (unread : Bool) (filled : CacheNow) → unread ≡ false → filled ≡ seen → MatchBool unread ((failed_as fault ≡ failed_as (record { page = page })) × (new ≡ filled)) (TakesPlace filled (Err fault) new)
        → (v : Held) × ((cache.victim seen ≡ Some v) × ((fault.page ≡ v.page) × (v.dirty ≡ true)))
    on true filled e same g = absurd (true_false e)
    on false filled e same g = taken (subst (λ (c : CacheNow). TakesPlace c (Err fault) new) same g)

    filled : (o : Option Held) → IsSome o → (e : Enters seen page (Err fault) new) → MatchOption o (ReadsSpare seen page e.unread e.filled) (λ _. (e.unread ≡ false) × (e.filled ≡ seen))
        → (v : Held) × ((cache.victim seen ≡ Some v) × ((fault.page ≡ v.page) × (v.dirty ≡ true)))
    filled None s e f = absurd (true_false (sym s))
    filled (Some h) s e f = on e.unread e.filled f.0 f.1 e.goes_on

    entered : Enters seen page (Err fault) new → (v : Held) × ((cache.victim seen ≡ Some v) × ((fault.page ≡ v.page) × (v.dirty ≡ true)))
    entered e = filled (in_spare seen page) (sym (ap is_some (hand_spare seen page absent)) ∙ there) e e.fills
