-- What `bring` answers and leaves follows from its steps.
use Rattle.std.proofs.Common.{◌≡◌, ℕ, ◌-◌, ◌<◌, ◌==◌, List, ◌∷◌, length, take, Bool, true, false, Some, None, refl, ap, sym, subst, ◌∙◌, arith, map, inl, inr}
use Rattle.std.specs.Prelude.{Option, Result, Ok, Err, IfSome, IsSome, IsSomeAnd, MatchOption, MatchBool, is_some, not, filter, slice_get, if◌then◌else◌}
use Rattle.std.specs.Option.{option_map, option_map_or}
use Rattle.std.proofs.lemmas.Grind.{common_steps}
use Rattle.std.proofs.lemmas.List.{take_all}
use Rattle.pg_io.specs.Pager.{FaultsAfter}
use Rattle.pg_cache.specs.Held.{Held, clean, find_held, without, fronted, fronted_by}
use Rattle.pg_cache.specs.Cache.{CacheNow, Resident, resident_of, is_dirty, victim, leaver, leaver_by, in_spare, at_hand, resident_page, IsBeside, IsSaved, IsSound}
use Rattle.pg_cache.specs.Steps.{ReadsSpare, Fills, TakesPlace, Enters, Brings, entered_by}
use Rattle.pg_cache.specs.Gives.{BringGives, has_left}
use Rattle.pg_cache.specs.declared.fault.PagerFault.{PagerFault}
use Rattle.pg_cache.proofs.HeldFacts.{found_page}
use Rattle.pg_cache.proofs.SoundFacts.{length-without}
use Rattle.pg_cache.proofs.ContentsFacts.{find-front, now-front}
use Rattle.pg_cache.proofs.StepFacts.{fronted_sound}
use Rattle.pg_cache.proofs.SizeFacts.{fronted_sized}
use Rattle.pg_cache.proofs.ListFacts.{map_absent, map_without, map-take, length-map_held, find_taken}
use Rattle.pg_cache.proofs.GiveFacts.{Quiet, quiet_refl, sizes_both, read_quiet, VictimSaved, victim_quiet, entered_with, enter_sound, enter_content, spare_found, hand_resident, hand_spare}

-- ---- a resident page goes to the front

front_others : (old : CacheNow) (page : ℕ) (h : Held) (B : Type 0) (make : Held → B) (test : B → Bool) → ((x : Held) → test (make x) ≡ not (x.page == page)) → IsSound old → find_held old.held page ≡ Some h
    → map make (without old.held page) ≡ take (old.limit - 1) (filter test (map make old.held))
front_others old page h B make test says sound found =
    let same = map_without make test page says old.pager.pages old.pager.told old.held sound.listed.kept in
    let long = length-without old.held page h found in
    let few = sound.listed.limited in
    let count : length (filter test (map make old.held)) ≡ length (without old.held page) = sym (ap length same) ∙ length-map_held make (without old.held page) in
    same ∙ sym (take_all (old.limit - 1) (filter test (map make old.held)) (omega arith))

abbrev to_front : CacheNow → ℕ → Held → CacheNow
to_front old page h = record old { held = h ∷ without old.held page }

front_gives : (old : CacheNow) (page : ℕ) (h : Held) → IsSound old → resident_page old page ≡ Some h → BringGives old page (Ok None) (to_front old page h)
front_gives old page h sound found =
    let number = found_page old.held page h found in
    let none : Result (Option ℕ) PagerFault = Ok None in
    let here : find_held (h ∷ without old.held page) page ≡ Some h = find-front old.held page h page found ∙ found in
    let stays : leaver old page ≡ None = ap (λ o. leaver_by o (victim old)) found in
    record {
      steps = subst (λ o. MatchOption o (Enters old page none (to_front old page h)) (λ _. (none ≡ none) × (to_front old page h ≡ record old { held = fronted old.held page }))) (sym found)
          (refl, ap (λ o. record old { held = fronted_by o old.held (without old.held page) }) (sym found));
      left = sym stays;
      numbers = ap (λ n. n ∷ map (λ (x : Held). x.page) (without old.held page)) number
          ∙ ap (λ (l : List ℕ). page ∷ l) (front_others old page h ℕ (λ x. x.page) (λ q. not (q == page)) (λ x. refl) sound found);
      list = ap (λ (r : Resident). r ∷ map resident_of (without old.held page)) (mark number)
          ∙ ap (λ (l : List Resident). record { page = page; dirty = is_dirty old page } ∷ l) (front_others old page h Resident resident_of (λ r. not (r.page == page)) (λ x. refl) sound found);
      found = record {
        here = ap is_some here;
        kept = subst (λ o. IfSome o (λ held. find_held (h ∷ without old.held page) page ≡ Some held)) (sym (hand_resident old page h found)) here;
        others = λ q other. find-front old.held page h q found ∙ sym (ap (λ l. if has_left l q then None else find_held old.held q) stays);
      };
      content = now-front old.held old.pager.told page h found;
      unchanged = tt;
      no_call = λ _. (refl, refl);
      no_read = λ _. refl;
      fault = tt;
      fault_at_hand = λ _. tt;
      faults = refl;
      spare = sym (ap (λ o. if is_some o then old.spare else None) found);
      spare_at_hand = λ _. tt;
      spare_after = tt;
      sizes = record { limit = refl; pages = refl; page_size = refl };
      sound = record { listed = fronted_sound old page h sound.listed found; sized = fronted_sized old page h sound.sized found };
    }
  where
    mark : h.page ≡ page → resident_of h ≡ record { page = page; dirty = is_dirty old page }
    mark number =
        ap (λ p. record { page = p; dirty = h.dirty }) number
        ∙ ap (λ o. record { page = page; dirty = option_map_or (λ (x : Held). x.dirty) o false }) (sym found)

-- ---- a page that is not resident stands in the spare buffer, and then in the list

-- What is left where the page was brought to the spare buffer, or was not.
record Filled (old : CacheNow) (page : ℕ) (unread : Bool) (now : CacheNow) : Type 0 where
  quiet : Quiet old now
  faults : FaultsAfter unread old.pager.faults now.pager.faults
  stands : unread ≡ false → IsSomeAnd now.spare (λ h. (h.page ≡ page) × (h.dirty ≡ false) × IfSome (in_spare old page) (λ s. h ≡ s))
  failed : unread ≡ true → now.spare ≡ None
  at_hand : IsSome (in_spare old page) → (unread ≡ false) × (now ≡ old)

read_filled : (old now : CacheNow) (page : ℕ) (unread : Bool) → IsSound old → resident_page old page ≡ None → page < old.pager.pages → in_spare old page ≡ None → ReadsSpare old page unread now → Filled old page unread now
read_filled old now page unread sound absent inside gone r = record {
  quiet = read_quiet old now page unread sound absent inside r;
  faults = r.read.faults;
  stands = λ done. subst (λ o. IsSomeAnd o (λ h. (h.page ≡ page) × (h.dirty ≡ false) × IfSome (in_spare old page) (λ s. h ≡ s))) (sym (r.spare ∙ ap (λ b. if b then None else Some (clean page r.bytes)) done))
      (refl, refl, subst (λ o. IfSome o (λ s. clean page r.bytes ≡ s)) (sym gone) tt);
  failed = λ f. r.spare ∙ ap (λ b. if b then None else Some (clean page r.bytes)) f;
  at_hand = λ there. absurd (let n = sym there ∙ ap is_some gone in cc);
}

spare_filled : (old : CacheNow) (page : ℕ) (s : Held) → IsSound old → in_spare old page ≡ Some s → Filled old page false old
spare_filled old page s sound there =
    let found = spare_found old page s there in
    let clean_there = subst (λ o. IfSome o (λ (h : Held). h.dirty ≡ false)) found.0 (clean_of old sound) in
    record {
      quiet = quiet_refl old sound;
      faults = refl;
      stands = λ _. subst (λ o. IsSomeAnd o (λ h. (h.page ≡ page) × (h.dirty ≡ false) × IfSome (in_spare old page) (λ x. h ≡ x))) (sym found.0)
          (found.1, clean_there, subst (λ o. IfSome o (λ x. s ≡ x)) (sym there) refl);
      failed = λ f. absurd (cc);
      at_hand = λ _. (refl, refl);
    }
  where
    clean_of : (c : CacheNow) → IsSound c → IfSome c.spare (λ (h : Held). h.dirty ≡ false)
    clean_of c sound = each c.spare sound.listed.beside
      where
        each : (o : Option Held) → IfSome o (IsBeside c.pager.pages c.pager.told c.held) → IfSome o (λ (h : Held). h.dirty ≡ false)
        each None b = tt
        each (Some h) b = b.is_clean

fill_filled : (old now : CacheNow) (page : ℕ) (unread : Bool) → IsSound old → resident_page old page ≡ None → page < old.pager.pages → Fills old page unread now → Filled old page unread now
fill_filled old now page unread sound absent inside fills = filled_of (in_spare old page) refl fills
  where
    filled_of : (o : Option Held) → in_spare old page ≡ o → MatchOption o (ReadsSpare old page unread now) (λ _. (unread ≡ false) × (now ≡ old)) → Filled old page unread now
    filled_of None e r = read_filled old now page unread sound absent inside e r
    filled_of (Some s) e r = subst (λ (n : CacheNow). Filled old page unread n) (sym r.1) (subst (λ b. Filled old page b old) (sym r.0) (spare_filled old page s sound e))

-- the read failed
unread_gives : (old now : CacheNow) (page : ℕ) → resident_page old page ≡ None → Brings old page (Err (record { page = page })) now → Filled old page true now → BringGives old page (Err (record { page = page })) now
unread_gives old now page absent steps f = record {
  steps = steps;
  left = tt;
  numbers = tt;
  list = tt;
  found = tt;
  content = f.quiet.content;
  unchanged = f.quiet.held;
  no_call = λ there. absurd (let n = sym there ∙ ap is_some absent in cc);
  no_read = λ there. absurd (no_hand there);
  fault = inl refl;
  fault_at_hand = λ there. absurd (no_hand there);
  faults = f.faults;
  spare = tt;
  spare_at_hand = λ there. absurd (no_hand there);
  spare_after = subst (λ o. IfSome o (λ (held : Held). held.page ≡ page)) (sym (f.failed refl)) tt;
  sizes = f.quiet.sizes;
  sound = f.quiet.sound;
}
  where
    no_hand : IsSome (at_hand old page) → ⊥
    no_hand there = let e = (f.at_hand (sym (ap is_some (hand_spare old page absent)) ∙ there)).0 in cc

-- the victim is what it was
victim_same : (old now : CacheNow) → Quiet old now → victim now ≡ victim old
victim_same old now q = ap (λ (l : List Held). slice_get l (now.limit - 1)) q.held ∙ ap (λ n. slice_get old.held (n - 1)) q.sizes.limit

absent_others : (old : CacheNow) (page : ℕ) (B : Type 0) (make : Held → B) (test : B → Bool) → ((x : Held) → test (make x) ≡ not (x.page == page)) → find_held old.held page ≡ None
    → map make (take (old.limit - 1) old.held) ≡ take (old.limit - 1) (filter test (map make old.held))
absent_others old page B make test says absent = map-take make (old.limit - 1) old.held ∙ ap (take (old.limit - 1)) (sym (map_absent make test page says old.held absent))

-- The page that stands in the spare buffer of a cache took the place of the victim of another with its list.
module _ (old now saved : CacheNow) (page : ℕ) (sound : IsSound old) (absent : resident_page old page ≡ None) (f : Filled old page false now) (v : VictimSaved now false saved) where
  entered_gives : (h : Held) → now.spare ≡ Some h → h.page ≡ page → h.dirty ≡ false → IfSome (in_spare old page) (λ s. h ≡ s) → (left : Option ℕ) → left ≡ option_map (λ (held : Held). held.page) (victim now)
      → Brings old page (Ok left) (entered_with saved h) → BringGives old page (Ok left) (entered_with saved h)
  entered_gives h stands number is_clean same left leaves steps =
      let held : saved.held ≡ old.held = v.quiet.held ∙ f.quiet.held in
      let limit : saved.limit ≡ old.limit = v.quiet.sizes.limit ∙ f.quiet.sizes.limit in
      let stays : h ∷ take (saved.limit - 1) saved.held ≡ h ∷ take (old.limit - 1) old.held = ap (λ (l : List Held). h ∷ take (saved.limit - 1) l) held ∙ ap (λ n. h ∷ take (n - 1) old.held) limit in
      let in_saved : saved.spare ≡ Some h = v.spare ∙ stands in
      let goes : leaver old page ≡ option_map (λ (x : Held). x.page) (victim old) = ap (λ o. leaver_by o (victim old)) absent in
      let sizes = sizes_both old now saved f.quiet.sizes v.quiet.sizes in
      let here : find_held (h ∷ take (saved.limit - 1) saved.held) page ≡ Some h = first_is number (take (saved.limit - 1) saved.held) in
      record {
        steps = steps;
        left = leaves ∙ ap (option_map (λ (x : Held). x.page)) (victim_same old now f.quiet) ∙ sym goes;
        numbers = ap (map (λ (x : Held). x.page)) stays
            ∙ ap (λ n. n ∷ map (λ (x : Held). x.page) (take (old.limit - 1) old.held)) number
            ∙ ap (λ (l : List ℕ). page ∷ l) (absent_others old page ℕ (λ x. x.page) (λ q. not (q == page)) (λ x. refl) absent);
        list = ap (map resident_of) stays
            ∙ ap (λ (r : Resident). r ∷ map resident_of (take (old.limit - 1) old.held)) (mark h number is_clean)
            ∙ ap (λ (l : List Resident). record { page = page; dirty = is_dirty old page } ∷ l) (absent_others old page Resident resident_of (λ r. not (r.page == page)) (λ x. refl) absent);
        found = record {
          here = ap is_some here;
          kept = subst (λ o. IfSome o (λ x. find_held (h ∷ take (saved.limit - 1) saved.held) page ≡ Some x)) (sym (hand_spare old page absent)) (kept_of (in_spare old page) same here);
          others = λ q other.
              let apart : (h.page == q) ≡ false = other_number number q other in
              ap (λ (l : List Held). find_held l q) stays
              ∙ ap (λ b. if b then Some h else find_held (take (old.limit - 1) old.held) q) apart
              ∙ find_taken old.pager.pages old.pager.told old.held (old.limit - 1) q sound.listed.kept (let a = sound.listed.limited in let b = sound.listed.some in omega arith)
              ∙ sym (ap (λ l. if has_left l q then None else find_held old.held q) goes);
        };
        content = enter_content saved h v.quiet.sound in_saved (subst (λ o. IfSome o (IsSaved saved.pager.told)) (sym (victim_same now saved v.quiet)) (v.saved refl)) ∙ v.quiet.content ∙ f.quiet.content;
        unchanged = tt;
        no_call = λ there. absurd (let n = sym there ∙ ap is_some absent in cc);
        no_read = λ there. v.reads ∙ ap (λ (c : CacheNow). c.pager.reads) (f.at_hand (sym (ap is_some (hand_spare old page absent)) ∙ there)).1;
        fault = tt;
        fault_at_hand = λ _. tt;
        faults = v.faults ∙ f.faults;
        spare = sym (ap (λ o. if is_some o then old.spare else None) absent);
        spare_at_hand = λ _. tt;
        spare_after = tt;
        sizes = record { limit = sizes.limit; pages = sizes.pages; page_size = sizes.page_size };
        sound = enter_sound saved h v.quiet.sound in_saved;
      }
    where
      first_is : h.page ≡ page → (others : List Held) → find_held (h ∷ others) page ≡ Some h
      first_is same others = grind (arith, common_steps, same)

      other_number : h.page ≡ page → (q : ℕ) → (q == page) ≡ false → (h.page == q) ≡ false
      other_number same q other = grind (arith, common_steps, same)

      mark : (h : Held) → h.page ≡ page → h.dirty ≡ false → resident_of h ≡ record { page = page; dirty = is_dirty old page }
      mark h number is_clean =
          ap (λ p. record { page = p; dirty = h.dirty }) number ∙ ap (λ d. record { page = page; dirty = d }) is_clean
          ∙ ap (λ o. record { page = page; dirty = option_map_or (λ (x : Held). x.dirty) o false }) (sym absent)

      kept_of : (o : Option Held) → IfSome o (λ s. h ≡ s) → find_held (h ∷ take (saved.limit - 1) saved.held) page ≡ Some h → IfSome o (λ x. find_held (h ∷ take (saved.limit - 1) saved.held) page ≡ Some x)
      kept_of None e here = tt
      kept_of (Some s) e here = here ∙ ap Some e

-- the victim could not be written
module _ (old now saved : CacheNow) (page : ℕ) (sound : IsSound old) (absent : resident_page old page ≡ None) (f : Filled old page false now) (v : VictimSaved now true saved) where
  unsaved_gives : (fault : PagerFault) → IfSome (victim now) (λ held. fault.page ≡ held.page) → Brings old page (Err fault) saved → BringGives old page (Err fault) saved
  unsaved_gives fault at steps =
      let victims : IsSomeAnd (victim old) (λ held. fault.page ≡ held.page) = subst (λ o. IsSomeAnd o (λ (held : Held). fault.page ≡ held.page)) (victim_same old now f.quiet) (both_of (victim now) (v.fails refl) at) in
      record {
        steps = steps;
        left = tt;
        numbers = tt;
        list = tt;
        found = tt;
        content = v.quiet.content ∙ f.quiet.content;
        unchanged = v.quiet.held ∙ f.quiet.held;
        no_call = λ there. absurd (let n = sym there ∙ ap is_some absent in cc);
        no_read = λ there. v.reads ∙ ap (λ (c : CacheNow). c.pager.reads) (f.at_hand (hand there)).1;
        fault = inr victims;
        fault_at_hand = λ _. victims;
        faults = rose_from f.faults v.faults;
        spare = tt;
        spare_at_hand = λ there. v.spare ∙ ap (λ (c : CacheNow). c.spare) (f.at_hand (hand there)).1;
        spare_after = subst (λ o. IfSome o (λ (held : Held). held.page ≡ page)) (sym v.spare) (page_of now.spare (f.stands refl));
        sizes = sizes_both old now saved f.quiet.sizes v.quiet.sizes;
        sound = v.quiet.sound;
      }
    where
      hand : IsSome (at_hand old page) → IsSome (in_spare old page)
      hand there = sym (ap is_some (hand_spare old page absent)) ∙ there

      both_of : (o : Option Held) → IsSome o → IfSome o (λ held. fault.page ≡ held.page) → IsSomeAnd o (λ held. fault.page ≡ held.page)
      both_of None there at = absurd (cc)
      both_of (Some h) there at = at

      page_of : (o : Option Held) → IsSomeAnd o (λ h. (h.page ≡ page) × (h.dirty ≡ false) × IfSome (in_spare old page) (λ s. h ≡ s)) → IfSome o (λ (held : Held). held.page ≡ page)
      page_of None s = tt
      page_of (Some h) s = s.0

      rose_from : now.pager.faults ≡ old.pager.faults → FaultsAfter true now.pager.faults saved.pager.faults → FaultsAfter true old.pager.faults saved.pager.faults
      rose_from same rose = subst (λ n. FaultsAfter true n saved.pager.faults) same rose

-- ---- both

taken_gives : (old now new : CacheNow) (page : ℕ) (result : Result (Option ℕ) PagerFault) → IsSound old → resident_page old page ≡ None → Filled old page false now → TakesPlace now result new → Brings old page result new → BringGives old page result new
taken_gives old now new page (Ok left) sound absent f t steps = entered_of now.spare refl (f.stands refl)
  where
    entered_of : (o : Option Held) → now.spare ≡ o → IsSomeAnd o (λ h. (h.page ≡ page) × (h.dirty ≡ false) × IfSome (in_spare old page) (λ s. h ≡ s)) → BringGives old page (Ok left) new
    entered_of None e s = absurd s
    entered_of (Some h) e s =
        let v = victim_quiet now t.saved false f.quiet.sound t.saves in
        let is : new ≡ entered_with t.saved h = t.enters ∙ ap (λ o. entered_by o t.saved) (v.spare ∙ e) in
        subst (λ (n : CacheNow). BringGives old page (Ok left) n) (sym is)
        (entered_gives old now t.saved page sound absent f v h e s.0 s.1 s.2 left t.leaver (subst (λ (n : CacheNow). Brings old page (Ok left) n) is steps))
taken_gives old now new page (Err fault) sound absent f t steps =
    let v = victim_quiet now t.saved true f.quiet.sound t.saves in
    subst (λ (n : CacheNow). BringGives old page (Err fault) n) (sym t.enters)
    (unsaved_gives old now t.saved page sound absent f v fault t.fault (subst (λ (n : CacheNow). Brings old page (Err fault) n) t.enters steps))

pub bring_gives : (old new : CacheNow) (page : ℕ) (result : Result (Option ℕ) PagerFault) → IsSound old → page < old.pager.pages → Brings old page result new → BringGives old page result new
bring_gives old new page result sound inside steps = brings_of (resident_page old page) refl steps
  where
    goes_on : (unread : Bool) (now : CacheNow) → resident_page old page ≡ None → Filled old page unread now → MatchBool unread ((result ≡ Err (record { page = page })) × (new ≡ now)) (TakesPlace now result new) → BringGives old page result new
    goes_on true now absent f ends =
        let there = subst (λ (n : CacheNow). Brings old page result n) ends.1 steps in
        subst (λ (n : CacheNow). BringGives old page result n) (sym ends.1) (subst (λ r. BringGives old page r now) (sym ends.0)
        (unread_gives old now page absent (subst (λ r. Brings old page r now) ends.0 there) f))
    goes_on false now absent f takes = taken_gives old now new page result sound absent f takes steps

    brings_of : (o : Option Held) → resident_page old page ≡ o → MatchOption o (Enters old page result new) (λ _. (result ≡ Ok None) × (new ≡ record old { held = fronted old.held page })) → BringGives old page result new
    brings_of None absent e = goes_on e.unread e.filled absent (fill_filled old e.filled page e.unread sound absent inside e.fills) e.goes_on
    brings_of (Some h) found e =
        let is : new ≡ to_front old page h = e.1 ∙ ap (λ o. record old { held = fronted_by o old.held (without old.held page) }) found in
        subst (λ (n : CacheNow). BringGives old page result n) (sym is) (subst (λ r. BringGives old page r (to_front old page h)) (sym e.0) (front_gives old page h sound found))
