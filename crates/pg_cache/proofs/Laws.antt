-- For the layer above: what may be the bytes of all pages goes on from call to call, over any pager.
use Rattle.std.proofs.Common.{◌≡◌, ◌≢◌, ℕ, zero, suc, ◌+◌, ◌<◌, ◌≤◌, ◌==◌, List, [], ◌∷◌, length, get_or, Bool, true, false, Some, None, refl, ap, sym, subst, ◌∙◌, arith, replicate}
use Rattle.std.specs.Prelude.{All, Option, Result, Ok, Err, IfSome, slice_get, slice_set, if◌then◌else◌}
use Rattle.std.specs.Option.{option_map}
use Rattle.std.specs.Borrow.{Bor}
use Rattle.std.proofs.lemmas.Grind.{common_steps}
use Rattle.std.proofs.lemmas.List.{length-replicate}
use Rattle.std.proofs.lemmas.List.Elements.{All-set, All-replicate, All-cons, All-head, All-tail}
use Rattle.std.proofs.lemmas.Option.{get_or_from_slice_get, slice_get-get_or}
use Rattle.std.proofs.Math.ListN.{length-set}
use Rattle.pg_io.specs.PageBytes.{written_over}
use Rattle.pg_io.specs.MemPagesLaws.{length-over}
use Rattle.pg_io.specs.Pager.{ToldPages, TellsWhole}
use Rattle.pg_cache.specs.Held.{Held, find_held, dirtied}
use Rattle.pg_cache.specs.Contents.{overlaid, bytes_or, with_piece}
use Rattle.pg_cache.specs.Cache.{CacheNow, resident_page, leaver, at_hand, contents, IsSound, IsWhole, KeepsSizes}
use Rattle.pg_cache.specs.Gives.{ChangesPage, has_left, rewritten, PeekGives, BringGives, PutGives, WriteGives, EvictGives}
use Rattle.pg_cache.specs.Finds.{Finds}
use Rattle.pg_cache.specs.declared.fault.PagerFault.{PagerFault}
use Rattle.pg_cache.proofs.HeldFacts.{found_page}
use Rattle.pg_cache.proofs.SoundFacts.{kept_find, get-set_other, get-set_same}
use Rattle.pg_cache.proofs.SizeFacts.{whole_found}
use Rattle.pg_cache.proofs.ContentsFacts.{length-overlaid, get-overlaid}
use Rattle.pg_cache.proofs.GiveFacts.{hand_of, hand_resident, hand_known, hand_whole}

-- ---- list and contents stay

pub finds_same : (old new : CacheNow) (pages : List (List ℕ)) → new.held ≡ old.held → contents new ≡ contents old → KeepsSizes old new → Finds old pages → Finds new pages
finds_same old new pages held content sizes finds = record {
  count = finds.count ∙ sym sizes.pages;
  whole = subst (λ n. All (λ (bytes : List ℕ). length bytes ≡ n) pages) (sym sizes.page_size) finds.whole;
  resident = λ page h found. finds.resident page h (sym (ap (λ (l : List Held). find_held l page) held) ∙ found);
  told = subst (λ o. IfSome o (λ c. pages ≡ c)) (sym content) finds.told;
}

-- after a peek
pub peek_finds : (old new : CacheNow) (page : ℕ) (result : Result (Bor (List ℕ)) PagerFault) (pages : List (List ℕ)) → PeekGives old page result new → Finds old pages → Finds new pages
peek_finds old new page result pages gives = finds_same old new pages gives.leaves.list gives.leaves.content gives.leaves.sizes

-- after a bring, a write or an evict that failed
pub bring_failed_finds : (old new : CacheNow) (page : ℕ) (fault : PagerFault) (pages : List (List ℕ)) → BringGives old page (Err fault) new → Finds old pages → Finds new pages
bring_failed_finds old new page fault pages gives = finds_same old new pages gives.unchanged gives.content gives.sizes

pub write_failed_finds : (old new : CacheNow) (page at : ℕ) (bytes : List ℕ) (fault : PagerFault) (pages : List (List ℕ)) → WriteGives old page at bytes (Err fault) new → Finds old pages → Finds new pages
write_failed_finds old new page at bytes fault pages gives = finds_same old new pages gives.unchanged gives.content gives.sizes

pub evict_failed_finds : (old new : CacheNow) (page : ℕ) (fault : PagerFault) (pages : List (List ℕ)) → EvictGives old page (Err fault) new → Finds old pages → Finds new pages
evict_failed_finds old new page fault pages gives = finds_same old new pages gives.unchanged gives.content gives.sizes

-- ---- a page that was read

-- the bytes that a read found may be the page's, where they are those of a resident page, and where told
pub finds_read : (c : CacheNow) (page : ℕ) (bytes : List ℕ) (pages : List (List ℕ)) → page < c.pager.pages → length bytes ≡ c.pager.page_size → IfSome (resident_page c page) (λ h. h.bytes ≡ bytes)
    → IfSome (contents c) (λ content. slice_get content page ≡ Some bytes) → Finds c pages → Finds c (slice_set pages page bytes)
finds_read c page bytes pages inside long own known finds = record {
  count = length-set pages page bytes ∙ finds.count;
  whole = All-set (λ (b : List ℕ). length b ≡ c.pager.page_size) pages page bytes long finds.whole;
  resident = λ q h found. resident_of q (q == page) refl h found own;
  told = told_of (contents c) known finds.told;
}
  where
    there : page < length pages
    there = let n = finds.count in omega arith

    -- where the page has the bytes already, nothing changes
    set_is : (l : List (List ℕ)) (i : ℕ) → slice_get l i ≡ Some bytes → slice_set l i bytes ≡ l
    set_is [] i e = refl
    set_is (b ∷ bs) zero e = let same : b ≡ bytes = cc in ap (λ (x : List ℕ). x ∷ bs) (sym same)
    set_is (b ∷ bs) (suc i) e = ap (λ (l : List (List ℕ)). b ∷ l) (set_is bs i e)

    told_of : (o : Option (List (List ℕ))) → IfSome o (λ content. slice_get content page ≡ Some bytes) → IfSome o (λ content. pages ≡ content) → IfSome o (λ content. slice_set pages page bytes ≡ content)
    told_of None k t = tt
    told_of (Some content) k t = ap (λ (l : List (List ℕ)). slice_set l page bytes) t ∙ set_is content page k

    resident_of : (q : ℕ) (b : Bool) → (q == page) ≡ b → (h : Held) → resident_page c q ≡ Some h → IfSome (resident_page c page) (λ h. h.bytes ≡ bytes) → slice_get (slice_set pages page bytes) q ≡ Some h.bytes
    resident_of q true e h found own =
        let same : q ≡ page = grind (arith, common_steps, e) in
        let here : resident_page c page ≡ Some h = ap (resident_page c) (sym same) ∙ found in
        let is : h.bytes ≡ bytes = subst (λ o. IfSome o (λ (x : Held). x.bytes ≡ bytes)) here own in
        ap (slice_get (slice_set pages page bytes)) same ∙ get-set_same pages page bytes there ∙ ap Some (sym is)
    resident_of q false e h found own =
        let apart : q ≢ page = grind (arith, common_steps, e) in
        get-set_other pages page q bytes apart ∙ finds.resident q h found

-- after a peek that lent bytes, these may be the page's, before it and after it
pub record Peeked (old : CacheNow) (page : ℕ) (bytes : List ℕ) (new : CacheNow) (pages : List (List ℕ)) : Type 0 where
  pub before : Finds old pages
  pub after : Finds new pages
  pub here : slice_get pages page ≡ Some bytes

pub peek_read_finds : (old new : CacheNow) (page : ℕ) (bytes : Bor (List ℕ)) (pages : List (List ℕ)) → IsSound old → page < old.pager.pages → PeekGives old page (Ok bytes) new → Finds old pages → Peeked old page bytes.now new (slice_set pages page bytes.now)
peek_read_finds old new page bytes pages sound inside gives finds =
    let n = finds.count in
    let at = hand_of (at_hand new page) bytes.now gives.bytes in
    let long : length bytes.now ≡ old.pager.page_size = sym (ap length at.1.1) ∙ hand_whole new page at.0 gives.leaves.sound at.1.0 ∙ gives.leaves.sizes.page_size in
    let before = finds_read old page bytes.now pages inside long (own_of (resident_page old page) refl at.0 at.1.0 at.1.1) gives.known finds in
    record { before = before; after = peek_finds old new page (Ok bytes) _ gives before; here = get-set_same pages page bytes.now (omega arith) }
  where
    own_of : (o : Option Held) → resident_page old page ≡ o → (a : Held) → at_hand new page ≡ Some a → a.bytes ≡ bytes.now → IfSome o (λ h. h.bytes ≡ bytes.now)
    own_of None e a found its = tt
    own_of (Some h) e a found its =
        let here : resident_page new page ≡ Some h = ap (λ (l : List Held). find_held l page) gives.leaves.list ∙ e in
        let same : Some h ≡ Some a = sym (hand_resident new page h here) ∙ found in
        let is : h ≡ a = cc in
        ap (λ (x : Held). x.bytes) is ∙ its

-- after a bring the page's bytes are those that it has now, before it and after it
pub bring_finds : (old new : CacheNow) (page : ℕ) (left : Option ℕ) (h : Held) (pages : List (List ℕ)) → page < old.pager.pages → BringGives old page (Ok left) new → resident_page new page ≡ Some h → Finds old pages → Peeked old page h.bytes new (slice_set pages page h.bytes)
bring_finds old new page left h pages inside gives found finds =
    let n = finds.count in
    let now_inside : page < new.pager.pages = let p = gives.sizes.pages in omega arith in
    let known_now = hand_known new page h gives.sound now_inside (hand_resident new page h found) in
    let known = subst (λ o. IfSome o (λ content. slice_get content page ≡ Some h.bytes)) gives.content known_now in
    let long = hand_whole new page h gives.sound (hand_resident new page h found) ∙ gives.sizes.page_size in
    let before = finds_read old page h.bytes pages inside long (own (resident_page old page) refl) known finds in
    record {
      before = before;
      after = record {
        count = before.count ∙ sym gives.sizes.pages;
        whole = subst (λ n. All (λ (bytes : List ℕ). length bytes ≡ n) (slice_set pages page h.bytes)) (sym gives.sizes.page_size) before.whole;
        resident = λ q x there. after_of q (q == page) refl x there before;
        told = subst (λ o. IfSome o (λ c. slice_set pages page h.bytes ≡ c)) (sym gives.content) before.told;
      };
      here = get-set_same pages page h.bytes (omega arith);
    }
  where
    own : (o : Option Held) → resident_page old page ≡ o → IfSome o (λ x. x.bytes ≡ h.bytes)
    own None e = tt
    own (Some x) e =
        let kept : resident_page new page ≡ Some x = subst (λ o. IfSome o (λ held. resident_page new page ≡ Some held)) (hand_resident old page x e) gives.found.kept in
        let same : Some x ≡ Some h = sym kept ∙ found in
        let is : x ≡ h = cc in
        ap (λ (y : Held). y.bytes) is

    after_of : (q : ℕ) (b : Bool) → (q == page) ≡ b → (x : Held) → resident_page new q ≡ Some x → Finds old (slice_set pages page h.bytes) → slice_get (slice_set pages page h.bytes) q ≡ Some x.bytes
    after_of q true e x there before =
        let same : q ≡ page = grind (arith, common_steps, e) in
        let one : Some x ≡ Some h = sym there ∙ ap (resident_page new) same ∙ found in
        let is : x ≡ h = cc in
        let n = finds.count in
        ap (slice_get (slice_set pages page h.bytes)) same ∙ get-set_same pages page h.bytes (omega arith) ∙ ap (λ (y : Held). Some y.bytes) (sym is)
    after_of q false e x there before = other_of (has_left (leaver old page) q) (sym (gives.found.others q e) ∙ there)
      where
        other_of : (l : Bool) → (if l then None else resident_page old q) ≡ Some x → slice_get (slice_set pages page h.bytes) q ≡ Some x.bytes
        other_of true none = absurd (cc)
        other_of false was = before.resident q x was

-- ---- a page that changed

changed_finds : (old new : CacheNow) (page at : ℕ) (bytes : List ℕ) (pages : List (List ℕ)) (change : Held → Held) → ((h : Held) → (change h).bytes ≡ written_over h.bytes at bytes) → page < old.pager.pages → at + length bytes ≤ old.pager.page_size
    → ChangesPage old new page (option_map change (resident_page old page)) → contents new ≡ option_map (with_piece page at bytes) (contents old) → KeepsSizes old new → Finds old pages → Finds new (with_piece page at bytes pages)
changed_finds old new page at bytes pages change writes inside fits found content sizes finds = record {
  count = length-set pages page (written_over (get_or pages page []) at bytes) ∙ finds.count ∙ sym sizes.pages;
  whole = subst (λ n. All (λ (b : List ℕ). length b ≡ n) (with_piece page at bytes pages)) (sym sizes.page_size)
      (All-set (λ (b : List ℕ). length b ≡ old.pager.page_size) pages page (written_over (get_or pages page []) at bytes) long finds.whole);
  resident = λ q h there. after_of q (q == page) refl h there;
  told = subst (λ o. IfSome o (λ c. with_piece page at bytes pages ≡ c)) (sym content) (told_of (contents old) finds.told);
}
  where
    stands : page < length pages
    stands = let n = finds.count in omega arith

    long : length (written_over (get_or pages page []) at bytes) ≡ old.pager.page_size
    long = let w = finds.whole page [] stands in length-over (get_or pages page []) bytes at (omega arith) ∙ w

    told_of : (o : Option (List (List ℕ))) → IfSome o (λ c. pages ≡ c) → IfSome (option_map (with_piece page at bytes) o) (λ c. with_piece page at bytes pages ≡ c)
    told_of None t = tt
    told_of (Some c) t = ap (with_piece page at bytes) t

    here_of : (o : Option Held) (h : Held) → resident_page old page ≡ o → option_map change o ≡ Some h → written_over (get_or pages page []) at bytes ≡ h.bytes
    here_of None h e none = absurd (cc)
    here_of (Some x) h e is =
        let same : change x ≡ h = cc in
        let own = get_or_from_slice_get pages page x.bytes [] (finds.resident page x e) in
        ap (λ b. written_over b at bytes) own ∙ sym (writes x) ∙ ap (λ (y : Held). y.bytes) same

    after_of : (q : ℕ) (b : Bool) → (q == page) ≡ b → (h : Held) → resident_page new q ≡ Some h → slice_get (with_piece page at bytes pages) q ≡ Some h.bytes
    after_of q true e h there =
        let same : q ≡ page = grind (arith, common_steps, e) in
        let is = sym found.here ∙ ap (resident_page new) (sym same) ∙ there in
        ap (slice_get (with_piece page at bytes pages)) same ∙ get-set_same pages page (written_over (get_or pages page []) at bytes) stands ∙ ap Some (here_of (resident_page old page) h refl is)
    after_of q false e h there =
        let apart : q ≢ page = grind (arith, common_steps, e) in
        get-set_other pages page q (written_over (get_or pages page []) at bytes) apart ∙ finds.resident q h (sym (found.others q e) ∙ there)

-- after a put
pub put_finds : (old new : CacheNow) (page at : ℕ) (bytes : List ℕ) (pages : List (List ℕ)) → page < old.pager.pages → at + length bytes ≤ old.pager.page_size → PutGives old page at bytes new → Finds old pages → Finds new (with_piece page at bytes pages)
put_finds old new page at bytes pages inside fits gives finds =
    changed_finds old new page at bytes pages (dirtied at bytes) (λ h. refl) inside fits gives.found gives.content
    (record { limit = ap (λ (c : CacheNow). c.limit) gives.after; pages = ap (λ (c : CacheNow). c.pager.pages) gives.after; page_size = ap (λ (c : CacheNow). c.pager.page_size) gives.after }) finds

-- after a write
pub write_finds : (old new : CacheNow) (page at : ℕ) (bytes : List ℕ) (done : Unit {0}) (pages : List (List ℕ)) → page < old.pager.pages → at + length bytes ≤ old.pager.page_size → WriteGives old page at bytes (Ok done) new → Finds old pages → Finds new (with_piece page at bytes pages)
write_finds old new page at bytes done pages inside fits gives finds =
    changed_finds old new page at bytes pages (rewritten at bytes) (λ h. refl) inside fits gives.found gives.content gives.sizes finds

-- after an evict
pub evict_finds : (old new : CacheNow) (page : ℕ) (left : Bool) (pages : List (List ℕ)) → EvictGives old page (Ok left) new → Finds old pages → Finds new pages
evict_finds old new page left pages gives finds = record {
  count = finds.count ∙ sym gives.sizes.pages;
  whole = subst (λ n. All (λ (bytes : List ℕ). length bytes ≡ n) pages) (sym gives.sizes.page_size) finds.whole;
  resident = λ q h there. after_of q (q == page) refl h there;
  told = subst (λ o. IfSome o (λ c. pages ≡ c)) (sym gives.content) finds.told;
}
  where
    after_of : (q : ℕ) (b : Bool) → (q == page) ≡ b → (h : Held) → resident_page new q ≡ Some h → slice_get pages q ≡ Some h.bytes
    after_of q true e h there =
        let same : q ≡ page = grind (arith, common_steps, e) in
        absurd (let n = sym gives.found.here ∙ ap (resident_page new) (sym same) ∙ there in cc)
    after_of q false e h there = finds.resident q h (sym (gives.found.others q e) ∙ there)

-- ---- there are such bytes

-- pages with resident ones over them stay whole
whole_over : (size : ℕ) (held : List Held) (from : ℕ) (pages : List (List ℕ)) → All (IsWhole size) held → All (λ (b : List ℕ). length b ≡ size) pages → All (λ (b : List ℕ). length b ≡ size) (overlaid held from pages)
whole_over size held from [] whole all = all
whole_over size held from (b ∷ bs) whole all =
    All-cons (λ (b : List ℕ). length b ≡ size) (bytes_or (find_held held from) b) (overlaid held (suc from) bs) (one_of (find_held held from) refl)
    (whole_over size held (suc from) bs whole (All-tail (λ (b : List ℕ). length b ≡ size) b bs all))
  where
    one_of : (o : Option Held) → find_held held from ≡ o → length (bytes_or o b) ≡ size
    one_of None e = All-head (λ (b : List ℕ). length b ≡ size) b bs all
    one_of (Some h) e = whole_found size held from h whole e

-- the pages that are told, or else zeros
base_of : CacheNow → Option ToldPages → List (List ℕ)
base_of c None = replicate c.pager.pages (replicate c.pager.page_size 0)
base_of c (Some t) = t.holds

-- bytes of all pages that a cache may have
pub some_pages : CacheNow → List (List ℕ)
some_pages c = overlaid c.held 0 (base_of c c.pager.told)

pub some_finds : (c : CacheNow) → IsSound c → Finds c (some_pages c)
unfolding some_pages base_of
some_finds c sound = record {
  count = length-overlaid c.held 0 (base_of c c.pager.told) ∙ count_of c.pager.told sound.sized.tells;
  whole = whole_over c.pager.page_size c.held 0 (base_of c c.pager.told) sound.sized.whole (whole_of c.pager.told sound.sized.tells);
  resident = λ page h found.
      let inside = (kept_find c.pager.pages c.pager.told c.held page h sound.listed.kept found).inside in
      let number = found_page c.held page h found in
      let many = count_of c.pager.told sound.sized.tells in
      get-overlaid c.held 0 page page (base_of c c.pager.told) (get_or (base_of c c.pager.told) page []) (omega arith) (slice_get-get_or (base_of c c.pager.told) page [] (omega arith))
      ∙ ap (λ o. Some (bytes_or o (get_or (base_of c c.pager.told) page []))) found;
  told = told_of c.pager.told;
}
  where
    count_of : (told : Option ToldPages) → TellsWhole (record c.pager { told = told }) → length (base_of c told) ≡ c.pager.pages
    count_of None t = length-replicate c.pager.pages (replicate c.pager.page_size 0)
    count_of (Some t) w = w.0

    whole_of : (told : Option ToldPages) → TellsWhole (record c.pager { told = told }) → All (λ (b : List ℕ). length b ≡ c.pager.page_size) (base_of c told)
    whole_of None t = All-replicate (λ (b : List ℕ). length b ≡ c.pager.page_size) c.pager.pages (replicate c.pager.page_size 0) (length-replicate c.pager.page_size 0)
    whole_of (Some t) w = w.1

    told_of : (told : Option ToldPages) → IfSome (option_map (λ t. overlaid c.held 0 t.holds) told) (λ content. overlaid c.held 0 (base_of c told) ≡ content)
    told_of None = tt
    told_of (Some t) = refl
