-- For the layer above: the pager calls that each call of a cache made, by whether each failed, in their order.
use Rattle.std.proofs.Common.{◌≡◌, ℕ, List, [], ◌∷◌, ◌++◌, Bool, true, false, Some, None, refl, ap, sym, subst, ◌∙◌, inl, inr}
use Rattle.std.specs.Prelude.{◌⊎◌, Option, Result, Ok, Err, IfSome, IsSome, MatchOption, MatchBool, is_err, is_some, if◌then◌else◌}
use Rattle.pg_io.specs.Pager.{MadeCalls}
use Rattle.pg_io.proofs.CallLaws.{no_calls, read_made, write_made, calls_made}
use Rattle.pg_io.specs.PageBytes.{written_over}
use Rattle.pg_cache.specs.Held.{Held, fronted}
use Rattle.pg_cache.specs.Cache.{CacheNow, resident_page, in_spare, at_hand, victim}
use Rattle.pg_cache.specs.Steps.{ReadsSpare, WritesBack, Saves, WritesThrough, ReadsAndWrites, Peeks, Leaves, Enters, Evicts, TakesPlace, Brings, entered, entered_by}
use Rattle.pg_cache.specs.declared.fault.PagerFault.{PagerFault}
use Rattle.pg_io.specs.declared.pager_call.PagerCall.TheVariants.{Reads, Writes}
use Rattle.pg_cache.proofs.GiveFacts.{hand_spare}
use Rattle.pg_cache.proofs.CalledLaws.{called_both}

-- ---- a page that is saved

-- one write of a dirty page, and none of a clean one
abbrev pub save_calls : Bool → Held → List Bool
save_calls failed held = if held.dirty then failed ∷ [] else []

abbrev pub save_calls_of : Bool → Option Held → List Bool
save_calls_of failed None = []
save_calls_of failed (Some held) = save_calls failed held

saves_made : (old new : CacheNow) (held : Held) (failed : Bool) → Saves old held failed new → MadeCalls old.pager (save_calls failed held) new.pager
saves_made old new held failed saves = made_of held.dirty refl saves
  where
    made_of : (b : Bool) → held.dirty ≡ b → MatchBool b (WritesBack old held failed new) ((failed ≡ false) × (new ≡ old)) → MadeCalls old.pager (if held.dirty then failed ∷ [] else []) new.pager
    made_of true e w = subst (λ b. MadeCalls old.pager (if b then failed ∷ [] else []) new.pager) (sym e) (write_made old.pager new.pager held.page failed held.bytes w.write)
    made_of false e s =
        subst (λ b. MadeCalls old.pager (if b then failed ∷ [] else []) new.pager) (sym e)
        (subst (λ (c : CacheNow). MadeCalls old.pager [] c.pager) (sym s.1) (no_calls old.pager))

-- ---- the calls

-- peek: one read of a page that is not resident
pub peek_made : (old new : CacheNow) (page : ℕ) (failed : Bool) → Peeks old page failed new → MadeCalls old.pager (if is_some (resident_page old page) then [] else failed ∷ []) new.pager
peek_made old new page failed peeks = made_of (resident_page old page) peeks
  where
    made_of : (o : Option Held) → MatchOption o (ReadsSpare old page failed new) (λ _. (failed ≡ false) × (new ≡ old)) → MadeCalls old.pager (if is_some o then [] else failed ∷ []) new.pager
    made_of None r = read_made old.pager new.pager page failed r.bytes r.read
    made_of (Some h) s = subst (λ (c : CacheNow). MadeCalls old.pager [] c.pager) (sym s.1) (no_calls old.pager)

-- bring of a page that stands in the spare buffer: the write of a dirty victim
pub bring_made : (old new : CacheNow) (page : ℕ) (result : Result (Option ℕ) PagerFault) → resident_page old page ≡ None → IsSome (at_hand old page) → Brings old page result new → MadeCalls old.pager (save_calls_of (is_err result) (victim old)) new.pager
bring_made old new page result absent there brings =
    let none : Result (Option ℕ) PagerFault = Ok None in
    made_of (subst (λ o. MatchOption o (Enters old page result new) (λ _. (result ≡ none) × (new ≡ record old { held = fronted old.held page }))) absent brings)
  where
    taken : (r : Result (Option ℕ) PagerFault) (saved : CacheNow) → new ≡ (if is_err r then saved else entered saved) → new.pager ≡ saved.pager
    taken (Err fault) saved is = ap (λ (c : CacheNow). c.pager) is
    taken (Ok left) saved is = ap (λ (c : CacheNow). c.pager) is ∙ same_of saved.spare
      where
        same_of : (o : Option Held) → (entered_by o saved).pager ≡ saved.pager
        same_of None = refl
        same_of (Some h) = refl

    victim_of : (saved : CacheNow) (o : Option Held) → MatchOption o ((is_err result ≡ false) × (saved ≡ old)) (λ held. Saves old held (is_err result) saved) → MadeCalls old.pager (save_calls_of (is_err result) o) saved.pager
    victim_of saved None s = subst (λ (c : CacheNow). MadeCalls old.pager [] c.pager) (sym s.1) (no_calls old.pager)
    victim_of saved (Some h) s = saves_made old saved h (is_err result) s

    takes_of : TakesPlace old result new → MadeCalls old.pager (save_calls_of (is_err result) (victim old)) new.pager
    takes_of t = subst (MadeCalls old.pager (save_calls_of (is_err result) (victim old))) (sym (taken result t.saved t.enters)) (victim_of t.saved (victim old) t.saves)

    goes_of : (unread : Bool) (filled : CacheNow) → unread ≡ false → filled ≡ old → MatchBool unread ((result ≡ Err (record { page = page })) × (new ≡ filled)) (TakesPlace filled result new) → MadeCalls old.pager (save_calls_of (is_err result) (victim old)) new.pager
    goes_of true filled e same g = absurd (cc)
    goes_of false filled e same g = takes_of (subst (λ (c : CacheNow). TakesPlace c result new) same g)

    filled_of : (o : Option Held) → IsSome o → (e : Enters old page result new) → MatchOption o (ReadsSpare old page e.unread e.filled) (λ _. (e.unread ≡ false) × (e.filled ≡ old)) → MadeCalls old.pager (save_calls_of (is_err result) (victim old)) new.pager
    filled_of None s e f = absurd (cc)
    filled_of (Some h) s e f = goes_of e.unread e.filled f.0 f.1 e.goes_on

    made_of : Enters old page result new → MadeCalls old.pager (save_calls_of (is_err result) (victim old)) new.pager
    made_of e = filled_of (in_spare old page) (sym (ap is_some (hand_spare old page absent)) ∙ there) e e.fills

-- evict: the write of a dirty page
pub evict_made : (old new : CacheNow) (page : ℕ) (result : Result Bool PagerFault) → Evicts old page result new → MadeCalls old.pager (save_calls_of (is_err result) (resident_page old page)) new.pager
evict_made old new page result evicts = made_of (resident_page old page) evicts
  where
    gone : (r : Result Bool PagerFault) (h : Held) → Leaves old h r new → MadeCalls old.pager (save_calls (is_err r) h) new.pager
    gone (Err fault) h l = subst (λ (c : CacheNow). MadeCalls old.pager (save_calls true h) c.pager) (sym l.leaves) (saves_made old l.saved h true l.saves)
    gone (Ok left) h l = subst (λ (c : CacheNow). MadeCalls old.pager (save_calls false h) c.pager) (sym l.leaves) (saves_made old l.saved h false l.saves)

    made_of : (o : Option Held) → MatchOption o ((result ≡ Ok false) × (new ≡ old)) (λ held. Leaves old held result new) → MadeCalls old.pager (save_calls_of (is_err result) o) new.pager
    made_of None s = subst (λ (c : CacheNow). MadeCalls old.pager [] c.pager) (sym s.1) (no_calls old.pager)
    made_of (Some h) l = gone result h l

-- write of a resident page, or of a whole page: one write
pub write_once_made : (old new : CacheNow) (page : ℕ) (whole : List ℕ) (failed : Bool) → WritesThrough old page whole failed new → MadeCalls old.pager (failed ∷ []) new.pager
write_once_made old new page whole failed w = write_made old.pager new.pager page failed whole w.write

-- the read alone, which failed
abbrev pub Unread : CacheNow → ℕ → Bool → CacheNow → Type 0
Unread old page failed new = (failed ≡ true) × (MadeCalls old.pager (true ∷ []) new.pager × (new.pager.calls ≡ old.pager.calls ++ Reads page ∷ []))

-- the read and the write
abbrev pub ReadAndWritten : CacheNow → ℕ → Bool → CacheNow → Type 0
ReadAndWritten old page failed new = MadeCalls old.pager (false ∷ failed ∷ []) new.pager × (new.pager.calls ≡ old.pager.calls ++ Reads page ∷ Writes page ∷ [])

-- write of a part of another page: one read, and then one write unless the read failed
pub write_part_made : (old new : CacheNow) (page at : ℕ) (bytes : List ℕ) (failed : Bool) → ReadsAndWrites old page at bytes failed new → Unread old page failed new ⊎ ReadAndWritten old page failed new
write_part_made old new page at bytes failed w = made_of w.unread w.filled w.reads w.writes
  where
    made_of : (unread : Bool) (filled : CacheNow) → ReadsSpare old page unread filled → MatchBool unread ((failed ≡ true) × (new ≡ filled)) (IfSome filled.spare (λ held. WritesThrough filled page (written_over held.bytes at bytes) failed new))
        → Unread old page failed new ⊎ ReadAndWritten old page failed new
    made_of true filled r s =
        inl (
          s.0,
          (
            subst (λ (c : CacheNow). MadeCalls old.pager (true ∷ []) c.pager) (sym s.1) (read_made old.pager filled.pager page true r.bytes r.read),
            ap (λ (c : CacheNow). c.pager.calls) s.1 ∙ r.read.calls,
          ),
        )
    made_of false filled r s =
        let w = subst (λ o. IfSome o (λ held. WritesThrough filled page (written_over held.bytes at bytes) failed new)) r.spare s in
        inr (
          calls_made old.pager filled.pager new.pager (false ∷ []) (failed ∷ []) (read_made old.pager filled.pager page false r.bytes r.read) (write_made filled.pager new.pager page failed (written_over r.bytes at bytes) w.write),
          called_both old.pager filled.pager new.pager (Reads page ∷ []) (Writes page ∷ []) r.read.calls w.write.calls,
        )
