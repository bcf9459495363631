-- For the layer above: which pager calls each call of a cache made, one after another.
use Rattle.std.proofs.Common.{◌≡◌, ℕ, arith, List, [], ◌∷◌, ◌++◌, Bool, true, false, Some, None, refl, ap, sym, subst, ◌∙◌, append_assoc}
use Rattle.std.specs.Prelude.{◌⊎◌, Option, Result, Ok, Err, IfSome, IsSome, MatchOption, MatchBool, ◌==◌, is_err, is_some, if◌then◌else◌}
use Rattle.std.specs.Option.{option_map_or}
use Rattle.std.proofs.lemmas.Grind.{common_steps}
use Rattle.std.proofs.lemmas.List.{append-nil}
use Rattle.pg_io.specs.declared.pager_call.PagerCall.{PagerCall}
use Rattle.pg_io.specs.declared.pager_call.PagerCall.TheVariants.{Reads, Writes}
use Rattle.pg_io.specs.Pager.{PagerNow}
use Rattle.pg_cache.specs.Held.{Held, find_held, fronted}
use Rattle.pg_cache.specs.Cache.{CacheNow, resident_page, in_spare, at_hand, victim}
use Rattle.pg_cache.specs.Steps.{ReadsSpare, WritesBack, Saves, Peeks, Leaves, Enters, Evicts, TakesPlace, Brings, entered, entered_by}
use Rattle.pg_cache.specs.declared.fault.PagerFault.{PagerFault}
use Rattle.pg_cache.proofs.GiveFacts.{hand_spare}

-- ---- calls one after another

pub called_none : (pager : PagerNow) → pager.calls ≡ pager.calls ++ []
called_none pager = sym (append-nil pager.calls)

pub called_both : (old between new : PagerNow) (first second : List PagerCall) → between.calls ≡ old.calls ++ first → new.calls ≡ between.calls ++ second → new.calls ≡ old.calls ++ (first ++ second)
called_both old between new first second one two = two ∙ ap (λ (l : List PagerCall). l ++ second) one ∙ append_assoc old.calls first second

-- ---- a page that is saved

-- the write of a dirty page
abbrev pub save_of : Held → List PagerCall
save_of held = if held.dirty then Writes held.page ∷ [] else []

abbrev pub saves_of : Option Held → List PagerCall
saves_of None = []
saves_of (Some held) = save_of held

saves_called : (old new : CacheNow) (held : Held) (failed : Bool) → Saves old held failed new → new.pager.calls ≡ old.pager.calls ++ save_of held
saves_called old new held failed saves = by_dirty held.dirty saves
  where
    by_dirty : (b : Bool) → MatchBool b (WritesBack old held failed new) ((failed ≡ false) × (new ≡ old)) → new.pager.calls ≡ old.pager.calls ++ (if b then Writes held.page ∷ [] else [])
    by_dirty true w = w.write.calls
    by_dirty false s = ap (λ (c : CacheNow). c.pager.calls) s.1 ∙ called_none old.pager

-- ---- the calls

-- peek: the read of a page that is not resident
pub peek_called : (old new : CacheNow) (page : ℕ) (failed : Bool) → Peeks old page failed new → new.pager.calls ≡ old.pager.calls ++ (if is_some (resident_page old page) then [] else Reads page ∷ [])
peek_called old new page failed peeks = by_page (resident_page old page) peeks
  where
    by_page : (o : Option Held) → MatchOption o (ReadsSpare old page failed new) (λ _. (failed ≡ false) × (new ≡ old)) → new.pager.calls ≡ old.pager.calls ++ (if is_some o then [] else Reads page ∷ [])
    by_page None r = r.read.calls
    by_page (Some h) s = ap (λ (c : CacheNow). c.pager.calls) s.1 ∙ called_none old.pager

-- bring of a page that stands in the spare buffer: the write of a dirty victim
pub bring_called : (old new : CacheNow) (page : ℕ) (result : Result (Option ℕ) PagerFault) → resident_page old page ≡ None → IsSome (at_hand old page) → Brings old page result new → new.pager.calls ≡ old.pager.calls ++ saves_of (victim old)
bring_called old new page result absent there brings =
    let none : Result (Option ℕ) PagerFault = Ok None in
    entered_of (subst (λ o. MatchOption o (Enters old page result new) (λ _. (result ≡ none) × (new ≡ record old { held = fronted old.held page }))) absent brings)
  where
    taken : (r : Result (Option ℕ) PagerFault) (saved : CacheNow) → new ≡ (if is_err r then saved else entered saved) → new.pager ≡ saved.pager
    taken (Err fault) saved is = ap (λ (c : CacheNow). c.pager) is
    taken (Ok left) saved is = ap (λ (c : CacheNow). c.pager) is ∙ same_of saved.spare
      where
        same_of : (o : Option Held) → (entered_by o saved).pager ≡ saved.pager
        same_of None = refl
        same_of (Some h) = refl

    victim_of : (saved : CacheNow) (o : Option Held) → MatchOption o ((is_err result ≡ false) × (saved ≡ old)) (λ held. Saves old held (is_err result) saved) → saved.pager.calls ≡ old.pager.calls ++ saves_of o
    victim_of saved None s = ap (λ (c : CacheNow). c.pager.calls) s.1 ∙ called_none old.pager
    victim_of saved (Some h) s = saves_called old saved h (is_err result) s

    takes_of : TakesPlace old result new → new.pager.calls ≡ old.pager.calls ++ saves_of (victim old)
    takes_of t = ap (λ (p : PagerNow). p.calls) (taken result t.saved t.enters) ∙ victim_of t.saved (victim old) t.saves

    goes_of : (unread : Bool) (filled : CacheNow) → unread ≡ false → filled ≡ old → MatchBool unread ((result ≡ Err (record { page = page })) × (new ≡ filled)) (TakesPlace filled result new) → new.pager.calls ≡ old.pager.calls ++ saves_of (victim old)
    goes_of true filled e same g = absurd (cc)
    goes_of false filled e same g = takes_of (subst (λ (c : CacheNow). TakesPlace c result new) same g)

    filled_of : (o : Option Held) → IsSome o → (e : Enters old page result new) → MatchOption o (ReadsSpare old page e.unread e.filled) (λ _. (e.unread ≡ false) × (e.filled ≡ old)) → new.pager.calls ≡ old.pager.calls ++ saves_of (victim old)
    filled_of None s e f = absurd (cc)
    filled_of (Some h) s e f = goes_of e.unread e.filled f.0 f.1 e.goes_on

    entered_of : Enters old page result new → new.pager.calls ≡ old.pager.calls ++ saves_of (victim old)
    entered_of e = filled_of (in_spare old page) (sym (ap is_some (hand_spare old page absent)) ∙ there) e e.fills

-- evict: the write of a dirty page
pub evict_called : (old new : CacheNow) (page : ℕ) (result : Result Bool PagerFault) → Evicts old page result new → new.pager.calls ≡ old.pager.calls ++ saves_of (resident_page old page)
evict_called old new page result evicts = by_page (resident_page old page) evicts
  where
    gone : (r : Result Bool PagerFault) (h : Held) → Leaves old h r new → new.pager.calls ≡ old.pager.calls ++ save_of h
    gone (Err fault) h l = ap (λ (c : CacheNow). c.pager.calls) l.leaves ∙ saves_called old l.saved h true l.saves
    gone (Ok left) h l = ap (λ (c : CacheNow). c.pager.calls) l.leaves ∙ saves_called old l.saved h false l.saves

    by_page : (o : Option Held) → MatchOption o ((result ≡ Ok false) × (new ≡ old)) (λ held. Leaves old held result new) → new.pager.calls ≡ old.pager.calls ++ saves_of o
    by_page None s = ap (λ (c : CacheNow). c.pager.calls) s.1 ∙ called_none old.pager
    by_page (Some h) l = gone result h l

-- the page of that number has it
pub page_found : (held : List Held) (page : ℕ) (one : Held) → find_held held page ≡ Some one → one.page ≡ page
page_found [] page one e = absurd (cc)
page_found (h ∷ held) page one e = by_test (h.page == page) refl (page_found held page one) e
  where
    by_test : (b : Bool) → (h.page == page) ≡ b → (find_held held page ≡ Some one → one.page ≡ page) → (if b then Some h else find_held held page) ≡ Some one → one.page ≡ page
    by_test true same behind e = ap (λ (o : Option Held). option_map_or (λ (x : Held). x.page) o page) (sym e) ∙ grind (arith, common_steps, same)
    by_test false apart behind e = behind e
