-- What the pages hold after each step.
use Rattle.std.proofs.Common.{◌≡◌, ◌≢◌, ℕ, zero, suc, ◌+◌, ◌-◌, ◌<◌, ◌≤◌, ◌==◌, List, [], ◌∷◌, ◌++◌, length, take, get_or, Bool, true, false, Some, None, refl, ap, sym, subst, ◌∙◌, arith, append-nil, drop_of_length-le, map}
use Rattle.std.specs.Prelude.{Option, IfSome, slice_get, slice_set, if◌then◌else◌}
use Rattle.std.specs.Option.{option_map}
use Rattle.std.proofs.lemmas.Grind.{common_steps}
use Rattle.std.proofs.lemmas.Option.{slice_get_within, get_or_from_slice_get, slice_get-get_or}
use Rattle.pg_io.specs.Pager.{PagerNow, ToldPages, TellsWhole, after_call, with_page}
use Rattle.pg_io.specs.PageBytes.{written_over}
use Rattle.pg_cache.specs.Held.{Held, find_held, without, changed, dirtied, cleaned}
use Rattle.pg_cache.specs.Cache.{IsKept, AreKept, IsSaved}
use Rattle.pg_cache.specs.Contents.{bytes_or, overlaid, with_piece}
use Rattle.pg_cache.proofs.HeldFacts.{found_page, find-without, find-changed, find-changed_same}
use Rattle.pg_cache.proofs.SoundFacts.{told_written, gone_without}

-- the told pages with the resident ones over them
abbrev pub now_of : List Held → Option ToldPages → Option (List (List ℕ))
now_of held told = option_map (λ t. overlaid held 0 t.holds) told

-- ---- the same pages, and other residents

pub overlaid_ext : (held held' : List Held) (from : ℕ) (pages : List (List ℕ)) → ((i : ℕ) (b : List ℕ) → slice_get pages i ≡ Some b → bytes_or (find_held held' (from + i)) b ≡ bytes_or (find_held held (from + i)) b)
    → overlaid held' from pages ≡ overlaid held from pages
overlaid_ext held held' from [] same = refl
overlaid_ext held held' from (b ∷ bs) same =
    let at : from + 0 ≡ from = omega arith in
    let head : bytes_or (find_held held' from) b ≡ bytes_or (find_held held from) b = subst (λ q. bytes_or (find_held held' q) b ≡ bytes_or (find_held held q) b) at (same 0 b refl) in
    let tail = overlaid_ext held held' (suc from) bs (λ i c there. let next : from + suc i ≡ suc from + i = omega arith in subst (λ q. bytes_or (find_held held' q) c ≡ bytes_or (find_held held q) c) next (same (suc i) c there)) in
    ap (λ (x : List ℕ). x ∷ overlaid held' (suc from) bs) head ∙ ap (λ (xs : List (List ℕ)). bytes_or (find_held held from) b ∷ xs) tail

-- the same pages from another on
overlaid_others : (held held' : List Held) (from page : ℕ) (pages : List (List ℕ)) → page < from → ((q : ℕ) → q ≢ page → find_held held' q ≡ find_held held q) → overlaid held' from pages ≡ overlaid held from pages
overlaid_others held held' from page pages before same = overlaid_ext held held' from pages (λ i b there. ap (λ o. bytes_or o b) (same (from + i) (λ e. absurd (omega arith))))

-- one page was written, with bytes that were there
pub overlaid_moved : (held held' : List Held) (from i page : ℕ) (whole : List ℕ) (pages : List (List ℕ)) → page ≡ from + i → ((q : ℕ) → q ≢ page → find_held held' q ≡ find_held held q)
    → ((b : List ℕ) → bytes_or (find_held held' page) whole ≡ bytes_or (find_held held page) b) → overlaid held' from (slice_set pages i whole) ≡ overlaid held from pages
overlaid_moved held held' from i page whole [] at others here = refl
overlaid_moved held held' from zero page whole (b ∷ bs) at others here =
    let first : page ≡ from = omega arith in
    let head = subst (λ q. bytes_or (find_held held' q) whole ≡ bytes_or (find_held held q) b) first (here b) in
    let tail = overlaid_others held held' (suc from) page bs (omega arith) others in
    ap (λ (x : List ℕ). x ∷ overlaid held' (suc from) bs) head ∙ ap (λ (xs : List (List ℕ)). bytes_or (find_held held from) b ∷ xs) tail
overlaid_moved held held' from (suc i) page whole (b ∷ bs) at others here =
    let head = ap (λ o. bytes_or o b) (others from (λ e. absurd (omega arith))) in
    let tail = overlaid_moved held held' (suc from) i page whole bs (omega arith) others here in
    ap (λ (x : List ℕ). x ∷ overlaid held' (suc from) (slice_set bs i whole)) head ∙ ap (λ (xs : List (List ℕ)). bytes_or (find_held held from) b ∷ xs) tail

-- a piece was put into one page
pub overlaid_put : (held held' : List Held) (from i page at : ℕ) (piece : List ℕ) (entry : Held) (pages : List (List ℕ)) → page ≡ from + i → ((q : ℕ) → q ≢ page → find_held held' q ≡ find_held held q)
    → find_held held page ≡ Some entry → find_held held' page ≡ Some (dirtied at piece entry) → overlaid held' from pages ≡ slice_set (overlaid held from pages) i (written_over (get_or (overlaid held from pages) i []) at piece)
overlaid_put held held' from i page at piece entry [] place others found now = refl
overlaid_put held held' from zero page at piece entry (b ∷ bs) place others found now =
    let first : page ≡ from = omega arith in
    let was : bytes_or (find_held held from) b ≡ entry.bytes = ap (λ q. bytes_or (find_held held q) b) (sym first) ∙ ap (λ o. bytes_or o b) found in
    let is : bytes_or (find_held held' from) b ≡ written_over entry.bytes at piece = ap (λ q. bytes_or (find_held held' q) b) (sym first) ∙ ap (λ o. bytes_or o b) now in
    let tail = overlaid_others held held' (suc from) page bs (omega arith) others in
    ap (λ (x : List ℕ). x ∷ overlaid held' (suc from) bs) (is ∙ ap (λ (x : List ℕ). written_over x at piece) (sym was)) ∙ ap (λ (xs : List (List ℕ)). written_over (bytes_or (find_held held from) b) at piece ∷ xs) tail
overlaid_put held held' from (suc i) page at piece entry (b ∷ bs) place others found now =
    let head = ap (λ o. bytes_or o b) (others from (λ e. absurd (omega arith))) in
    let tail = overlaid_put held held' (suc from) i page at piece entry bs (omega arith) others found now in
    ap (λ (x : List ℕ). x ∷ overlaid held' (suc from) bs) head ∙ ap (λ (xs : List (List ℕ)). bytes_or (find_held held from) b ∷ xs) tail

-- one page was written through, with a piece over what it held
pub overlaid_written : (held held' : List Held) (from i page at : ℕ) (piece whole : List ℕ) (pages : List (List ℕ)) → page ≡ from + i → ((q : ℕ) → q ≢ page → find_held held' q ≡ find_held held q)
    → ((b : List ℕ) → slice_get pages i ≡ Some b → written_over (bytes_or (find_held held page) b) at piece ≡ whole) → bytes_or (find_held held' page) whole ≡ whole
    → overlaid held' from (slice_set pages i whole) ≡ slice_set (overlaid held from pages) i (written_over (get_or (overlaid held from pages) i []) at piece)
overlaid_written held held' from i page at piece whole [] place others was now = refl
overlaid_written held held' from zero page at piece whole (b ∷ bs) place others was now =
    let first : page ≡ from = omega arith in
    let old = subst (λ q. written_over (bytes_or (find_held held q) b) at piece ≡ whole) first (was b refl) in
    let new = subst (λ q. bytes_or (find_held held' q) whole ≡ whole) first now in
    let tail = overlaid_others held held' (suc from) page bs (omega arith) others in
    ap (λ (x : List ℕ). x ∷ overlaid held' (suc from) bs) (new ∙ sym old) ∙ ap (λ (xs : List (List ℕ)). written_over (bytes_or (find_held held from) b) at piece ∷ xs) tail
overlaid_written held held' from (suc i) page at piece whole (b ∷ bs) place others was now =
    let head = ap (λ o. bytes_or o b) (others from (λ e. absurd (omega arith))) in
    let tail = overlaid_written held held' (suc from) i page at piece whole bs (omega arith) others was now in
    ap (λ (x : List ℕ). x ∷ overlaid held' (suc from) (slice_set bs i whole)) head ∙ ap (λ (xs : List (List ℕ)). bytes_or (find_held held from) b ∷ xs) tail

-- ---- each step

-- a read changes no page, nor does a call that failed
pub now-called : (held : List Held) (told : Option ToldPages) → now_of held (option_map after_call told) ≡ now_of held told
now-called held None = refl
now-called held (Some t) = refl

-- a page of the list was written back
pub now-saved : (held : List Held) (told : Option ToldPages) (v : Held) (failed : Bool) → find_held held v.page ≡ Some v → now_of held (option_map (told_written v.page v.bytes failed) told) ≡ now_of held told
now-saved held None v failed found = refl
now-saved held (Some t) v true found = refl
now-saved held (Some t) v false found = ap Some (overlaid_moved held held 0 v.page v.page v.bytes t.holds (omega arith) (λ q apart. refl) (λ b. ap (λ o. bytes_or o v.bytes) found ∙ sym (ap (λ o. bytes_or o b) found)))

-- what was written is what is told
get-set_some : (pages : List (List ℕ)) (page : ℕ) (bytes b : List ℕ) → slice_get (slice_set pages page bytes) page ≡ Some b → b ≡ bytes
get-set_some [] page bytes b there = absurd (cc)
get-set_some (p ∷ ps) zero bytes b there = cc
get-set_some (p ∷ ps) (suc page) bytes b there = get-set_some ps page bytes b there

pub saved-written : (told : Option ToldPages) (v : Held) → IsSaved (option_map (told_written v.page v.bytes false) told) v
saved-written None v = tt
saved-written (Some t) v = λ b there. get-set_some t.holds v.page v.bytes b there

pub saved-clean : (pages : ℕ) (told : Option ToldPages) (v : Held) → IsKept pages told v → v.dirty ≡ false → IsSaved told v
saved-clean pages None v kept is_clean = tt
saved-clean pages (Some t) v kept is_clean = λ b there. let e = sym there ∙ kept.agrees is_clean in cc

-- a resident page went to the front
pub find-front : (held : List Held) (page : ℕ) (entry : Held) (q : ℕ) → find_held held page ≡ Some entry → find_held (entry ∷ without held page) q ≡ find_held held q
find-front held page entry q found = front_of (entry.page == q) refl
  where
    number : entry.page ≡ page
    number = found_page held page entry found

    front_of : (b : Bool) → (entry.page == q) ≡ b → (if entry.page == q then Some entry else find_held (without held page) q) ≡ find_held held q
    front_of true e =
        let same : page ≡ q = grind (arith, common_steps, e, number) in
        ap (λ b. if b then Some entry else find_held (without held page) q) e ∙ sym found ∙ ap (find_held held) same
    front_of false e =
        let apart : q ≢ page = grind (arith, common_steps, e, number) in
        ap (λ b. if b then Some entry else find_held (without held page) q) e ∙ find-without held page q apart

pub now-front : (held : List Held) (told : Option ToldPages) (page : ℕ) (entry : Held) → find_held held page ≡ Some entry → now_of (entry ∷ without held page) told ≡ now_of held told
now-front held None page entry found = refl
now-front held (Some t) page entry found = ap Some (overlaid_ext held (entry ∷ without held page) 0 t.holds (λ i b there. ap (λ o. bytes_or o b) (find-front held page entry (0 + i) found)))

-- a saved page left the list
left_same : (pages : ℕ) (held : List Held) (t : ToldPages) (page : ℕ) (entry : Held) (i : ℕ) (b : List ℕ) → AreKept pages (Some t) held → find_held held page ≡ Some entry
    → ((bytes : List ℕ) → slice_get t.holds entry.page ≡ Some bytes → bytes ≡ entry.bytes) → slice_get t.holds i ≡ Some b → bytes_or (find_held (without held page) i) b ≡ bytes_or (find_held held i) b
left_same pages held t page entry i b kept found saved there = left_of (i == page) refl
  where
    left_of : (c : Bool) → (i == page) ≡ c → bytes_or (find_held (without held page) i) b ≡ bytes_or (find_held held i) b
    left_of true e =
        let same : i ≡ page = grind (arith, common_steps, e) in
        let number = found_page held page entry found in
        let told_bytes : b ≡ entry.bytes = saved b (ap (slice_get t.holds) (number ∙ sym same) ∙ there) in
        ap (λ q. bytes_or (find_held (without held page) q) b) same ∙ ap (λ o. bytes_or o b) (gone_without pages (Some t) held page kept) ∙ told_bytes
        ∙ sym (ap (λ q. bytes_or (find_held held q) b) same ∙ ap (λ o. bytes_or o b) found)
    left_of false e =
        let apart : i ≢ page = grind (arith, common_steps, e) in
        ap (λ o. bytes_or o b) (find-without held page i apart)

pub now-left : (pages : ℕ) (held : List Held) (told : Option ToldPages) (page : ℕ) (entry : Held) → AreKept pages told held → find_held held page ≡ Some entry → IsSaved told entry → now_of (without held page) told ≡ now_of held told
now-left pages held None page entry kept found saved = refl
now-left pages held (Some t) page entry kept found saved = ap Some (overlaid_ext held (without held page) 0 t.holds
    (λ i b there. let zero_i : 0 + i ≡ i = omega arith in subst (λ q. bytes_or (find_held (without held page) q) b ≡ bytes_or (find_held held q) b) (sym zero_i) (left_same pages held t page entry i b kept found saved there)))

-- without the last page, which is saved
find_taken : (held : List Held) (n q : ℕ) (b : List ℕ) → length held ≤ suc n → IfSome (slice_get held n) (λ v. v.page ≡ q → b ≡ v.bytes) → bytes_or (find_held (take n held) q) b ≡ bytes_or (find_held held q) b
find_taken [] zero q b long saved = refl
find_taken [] (suc n) q b long saved = refl
find_taken (v ∷ []) zero q b long saved = taken_of (v.page == q) refl
  where
    taken_of : (c : Bool) → (v.page == q) ≡ c → b ≡ bytes_or (if v.page == q then Some v else None) b
    taken_of true e = saved (grind (arith, common_steps, e)) ∙ sym (ap (λ c. bytes_or (if c then Some v else None) b) e)
    taken_of false e = sym (ap (λ c. bytes_or (if c then Some v else None) b) e)
find_taken (v ∷ w ∷ ws) zero q b long saved = absurd (omega arith)
find_taken (v ∷ vs) (suc n) q b long saved = taken_of (v.page == q) refl (find_taken vs n q b (omega arith) saved)
  where
    taken_of : (c : Bool) → (v.page == q) ≡ c → bytes_or (find_held (take n vs) q) b ≡ bytes_or (find_held vs q) b
        → bytes_or (if v.page == q then Some v else find_held (take n vs) q) b ≡ bytes_or (if v.page == q then Some v else find_held vs q) b
    taken_of true e rest = ap (λ c. bytes_or (if c then Some v else find_held (take n vs) q) b) e ∙ sym (ap (λ c. bytes_or (if c then Some v else find_held vs q) b) e)
    taken_of false e rest = ap (λ c. bytes_or (if c then Some v else find_held (take n vs) q) b) e ∙ rest ∙ sym (ap (λ c. bytes_or (if c then Some v else find_held vs q) b) e)

-- a clean page that was not in the list entered, and the last page left
entered_same : (held : List Held) (limit : ℕ) (h : Held) (t : ToldPages) (q : ℕ) (b : List ℕ) → length held ≤ limit → 0 < limit → slice_get t.holds h.page ≡ Some h.bytes → find_held held h.page ≡ None
    → IfSome (slice_get held (limit - 1)) (IsSaved (Some t)) → slice_get t.holds q ≡ Some b → bytes_or (find_held (h ∷ take (limit - 1) held) q) b ≡ bytes_or (find_held held q) b
entered_same held limit h t q b long some told absent saved there = entered_of (h.page == q) refl
  where
    victim_of : (o : Option Held) → IfSome o (IsSaved (Some t)) → IfSome o (λ v. v.page ≡ q → b ≡ v.bytes)
    victim_of None s = tt
    victim_of (Some v) s = λ same. s b (ap (slice_get t.holds) same ∙ there)

    entered_of : (c : Bool) → (h.page == q) ≡ c → bytes_or (if h.page == q then Some h else find_held (take (limit - 1) held) q) b ≡ bytes_or (find_held held q) b
    entered_of true e =
        let same : h.page ≡ q = grind (arith, common_steps, e) in
        let known : Some b ≡ Some h.bytes = sym there ∙ ap (slice_get t.holds) (sym same) ∙ told in
        let bytes : h.bytes ≡ b = cc in
        ap (λ c. bytes_or (if c then Some h else find_held (take (limit - 1) held) q) b) e ∙ bytes ∙ sym (ap (λ p. bytes_or (find_held held p) b) (sym same) ∙ ap (λ o. bytes_or o b) absent)
    entered_of false e =
        ap (λ c. bytes_or (if c then Some h else find_held (take (limit - 1) held) q) b) e
        ∙ find_taken held (limit - 1) q b (omega arith) (victim_of (slice_get held (limit - 1)) saved)

pub now-entered : (pages : ℕ) (held : List Held) (limit : ℕ) (h : Held) (told : Option ToldPages) → length held ≤ limit → 0 < limit → IsKept pages told h → h.dirty ≡ false → find_held held h.page ≡ None
    → IfSome (slice_get held (limit - 1)) (IsSaved told) → now_of (h ∷ take (limit - 1) held) told ≡ now_of held told
now-entered pages held limit h None long some kept is_clean absent saved = refl
now-entered pages held limit h (Some t) long some kept is_clean absent saved = ap Some (overlaid_ext held (h ∷ take (limit - 1) held) 0 t.holds
    (λ i b there. let zero_i : 0 + i ≡ i = omega arith in
    subst (λ q. bytes_or (find_held (h ∷ take (limit - 1) held) q) b ≡ bytes_or (find_held held q) b) (sym zero_i) (entered_same held limit h t i b long some (kept.agrees is_clean) absent saved there)))

-- a piece was put into a resident page
pub now-put : (held : List Held) (told : Option ToldPages) (page at : ℕ) (piece : List ℕ) (entry : Held) → find_held held page ≡ Some entry → now_of (changed (dirtied at piece) held page) told ≡ option_map (with_piece page at piece) (now_of held told)
now-put held None page at piece entry found = refl
now-put held (Some t) page at piece entry found = ap Some (overlaid_put held (changed (dirtied at piece) held page) 0 page page at piece entry t.holds (omega arith)
    (λ q apart. find-changed (dirtied at piece) held page q (λ h. refl) apart) found (find-changed_same (dirtied at piece) held page entry (λ h. refl) found))

-- a resident page was written through
pub now-written : (held : List Held) (told : Option ToldPages) (page at : ℕ) (piece : List ℕ) (entry : Held) → find_held held page ≡ Some entry
    → now_of (changed (cleaned (written_over entry.bytes at piece)) held page) (option_map (with_page page (written_over entry.bytes at piece)) told) ≡ option_map (with_piece page at piece) (now_of held told)
now-written held None page at piece entry found = refl
now-written held (Some t) page at piece entry found =
    let whole = written_over entry.bytes at piece in
    ap Some (overlaid_written held (changed (cleaned whole) held page) 0 page page at piece whole t.holds (omega arith)
    (λ q apart. find-changed (cleaned whole) held page q (λ h. refl) apart)
    (λ b there. ap (λ o. written_over (bytes_or o b) at piece) found)
    (ap (λ o. bytes_or o whole) (find-changed_same (cleaned whole) held page entry (λ h. refl) found)))

-- a page that is not resident was written through
pub now-written_absent : (held : List Held) (told : Option ToldPages) (page at : ℕ) (piece whole : List ℕ) → find_held held page ≡ None
    → IfSome told (λ t. (b : List ℕ) → slice_get t.holds page ≡ Some b → written_over b at piece ≡ whole)
    → now_of held (option_map (with_page page whole) told) ≡ option_map (with_piece page at piece) (now_of held told)
now-written_absent held None page at piece whole absent was = refl
now-written_absent held (Some t) page at piece whole absent was =
    ap Some (overlaid_written held held 0 page page at piece whole t.holds (omega arith) (λ q apart. refl)
    (λ b there. ap (λ o. written_over (bytes_or o b) at piece) absent ∙ was b there)
    (ap (λ o. bytes_or o whole) absent))

-- ---- what is known of them

pub length-overlaid : (held : List Held) (from : ℕ) (pages : List (List ℕ)) → length (overlaid held from pages) ≡ length pages
length-overlaid held from [] = refl
length-overlaid held from (b ∷ bs) = ap suc (length-overlaid held (suc from) bs)

pub length-now : (held : List Held) (pager : PagerNow) (count : ℕ) → TellsWhole pager → count ≡ pager.pages → IfSome (now_of held pager.told) (λ pages. length pages ≡ count)
length-now held pager count whole same = length_of pager.told whole
  where
    length_of : (told : Option ToldPages) → TellsWhole (record pager { told = told }) → IfSome (now_of held told) (λ pages. length pages ≡ count)
    length_of None w = tt
    length_of (Some t) w = length-overlaid held 0 t.holds ∙ w.0 ∙ sym same

pub get-overlaid : (held : List Held) (from i page : ℕ) (pages : List (List ℕ)) (b : List ℕ) → page ≡ from + i → slice_get pages i ≡ Some b → slice_get (overlaid held from pages) i ≡ Some (bytes_or (find_held held page) b)
get-overlaid held from i page [] b at there = absurd (cc)
get-overlaid held from zero page (x ∷ xs) b at there =
    let same : x ≡ b = cc in
    let first : from ≡ page = omega arith in
    ap (λ y. Some (bytes_or (find_held held from) y)) same ∙ ap (λ q. Some (bytes_or (find_held held q) b)) first
get-overlaid held from (suc i) page (x ∷ xs) b at there = get-overlaid held (suc from) i page xs b (omega arith) there

-- the bytes of a page that is resident, or is not
pub known_of : (held : List Held) (pager : PagerNow) (page : ℕ) (bytes : List ℕ) → TellsWhole pager → page < pager.pages
    → IfSome pager.told (λ t. (b : List ℕ) → slice_get t.holds page ≡ Some b → bytes_or (find_held held page) b ≡ bytes) → IfSome (now_of held pager.told) (λ pages. slice_get pages page ≡ Some bytes)
known_of held pager page bytes whole inside here = known_in pager.told whole here
  where
    known_in : (told : Option ToldPages) → TellsWhole (record pager { told = told }) → IfSome told (λ t. (b : List ℕ) → slice_get t.holds page ≡ Some b → bytes_or (find_held held page) b ≡ bytes)
        → IfSome (now_of held told) (λ pages. slice_get pages page ≡ Some bytes)
    known_in None w h = tt
    known_in (Some t) w h =
        let many = w.0 in
        let there = slice_get-get_or t.holds page [] (omega arith) in
        get-overlaid held 0 page page t.holds (get_or t.holds page []) (omega arith) there ∙ ap Some (h (get_or t.holds page []) there)

pub resident_here : (held : List Held) (told : Option ToldPages) (page : ℕ) (entry : Held) (bytes : List ℕ) → find_held held page ≡ Some entry → bytes ≡ entry.bytes → IfSome told (λ t. (b : List ℕ) → slice_get t.holds page ≡ Some b → bytes_or (find_held held page) b ≡ bytes)
resident_here held None page entry bytes found same = tt
resident_here held (Some t) page entry bytes found same = λ b there. ap (λ o. bytes_or o b) found ∙ sym same

-- what the pager tells of the page in the spare buffer
pub spare_told : (pages : ℕ) (told : Option ToldPages) (page : ℕ) (s : Held) → IsKept pages told s → s.dirty ≡ false → s.page ≡ page → IfSome told (λ t. (b : List ℕ) → slice_get t.holds page ≡ Some b → b ≡ s.bytes)
spare_told pages None page s kept is_clean number = tt
spare_told pages (Some t) page s kept is_clean number = λ b there. let e = sym there ∙ ap (slice_get t.holds) (sym number) ∙ kept.agrees is_clean in cc

pub spare_here : (held : List Held) (told : Option ToldPages) (page : ℕ) (s : Held) (bytes : List ℕ) → find_held held page ≡ None → bytes ≡ s.bytes → IfSome told (λ t. (b : List ℕ) → slice_get t.holds page ≡ Some b → b ≡ s.bytes)
    → IfSome told (λ t. (b : List ℕ) → slice_get t.holds page ≡ Some b → bytes_or (find_held held page) b ≡ bytes)
spare_here held None page s bytes absent same known = tt
spare_here held (Some t) page s bytes absent same known = λ b there. ap (λ o. bytes_or o b) absent ∙ known b there ∙ sym same

pub spare_was : (told : Option ToldPages) (page at : ℕ) (piece : List ℕ) (s : Held) → IfSome told (λ t. (b : List ℕ) → slice_get t.holds page ≡ Some b → b ≡ s.bytes)
    → IfSome told (λ t. (b : List ℕ) → slice_get t.holds page ≡ Some b → written_over b at piece ≡ written_over s.bytes at piece)
spare_was None page at piece s known = tt
spare_was (Some t) page at piece s known = λ b there. ap (λ x. written_over x at piece) (known b there)

-- a whole page over another
pub whole_over : (b whole : List ℕ) → length b ≤ length whole → written_over b 0 whole ≡ whole
whole_over b whole short =
    ap (λ (l : List ℕ). whole ++ l) (drop_of_length-le b {i = 0 + length whole} (omega arith)) ∙ append-nil whole

pub whole_was : (pager : PagerNow) (page : ℕ) (whole : List ℕ) → TellsWhole pager → length whole ≡ pager.page_size → IfSome pager.told (λ t. (b : List ℕ) → slice_get t.holds page ≡ Some b → written_over b 0 whole ≡ whole)
whole_was pager page whole tells long = was_of pager.told tells
  where
    was_of : (told : Option ToldPages) → TellsWhole (record pager { told = told }) → IfSome told (λ t. (b : List ℕ) → slice_get t.holds page ≡ Some b → written_over b 0 whole ≡ whole)
    was_of None w = tt
    was_of (Some t) w = λ b there.
        let inside = slice_get_within t.holds page b there in
        let here = get_or_from_slice_get t.holds page b [] there in
        let size = w.1 page [] inside in
        let short : length b ≡ pager.page_size = sym (ap length here) ∙ size in
        whole_over b whole (omega arith)

pub map-changed : (change : Held → Held) (held : List Held) (page : ℕ) → ((h : Held) → (change h).page ≡ h.page) → map (λ (h : Held). h.page) (changed change held page) ≡ map (λ (h : Held). h.page) held
map-changed change [] page keeps = refl
map-changed change (h ∷ hs) page keeps = grind (arith, common_steps, keeps h, map-changed change hs page keeps)

-- where no page is resident, the pages hold what the pager has
overlaid-none : (page : ℕ) (pages : List (List ℕ)) → overlaid [] page pages ≡ pages
overlaid-none page [] = refl
overlaid-none page (bytes ∷ others) = ap (λ (rest : List (List ℕ)). bytes ∷ rest) (overlaid-none (suc page) others)

pub now-none : (held : List Held) (told : Option ToldPages) → held ≡ [] → now_of held told ≡ option_map (λ t. t.holds) told
now-none held None none = refl
now-none held (Some t) none = rw none (ap Some (overlaid-none 0 t.holds))
