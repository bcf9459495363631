-- What one region is given of one page.
use Rattle.std.proofs.Common.{◌≡◌, ℕ, ◌<◌, ◌≤◌, Bool, true, false, [], length, refl, sym, ap, subst, ◌∙◌, arith}
use Rattle.std.specs.Prelude.{◌&&◌, ◌==◌, is_some, All, AllPairs, find, slice_index_or}
use Rattle.std.proofs.lemmas.Grind.{common_steps}
use Rattle.pg_digest.specs.Kinds.{Hash}
use Rattle.pg_regions.specs.Lookups.{HasPage, HasPrivatePage, is_shared}
use Rattle.pg_plain.specs.PlainFile.{PlainFile, page_of, has_copy, has_record, may_write, may_execute_guarded, is_page, is_resident}
use Rattle.pg_plain.specs.Covers.{share_a_page, Fits}
use Rattle.pg_plain.specs.Keep.{Keep, IsSealedNow}
use Rattle.pg_plain.proofs.FewerFacts.{sealed_there}

-- this is the region and page
abbrev pub is_here : ℕ → ℕ → ℕ → ℕ → Bool
is_here id page i p = i == id && p == page

here_region : (id page i p : ℕ) → is_here id page i p ≡ true → id ≡ i
here_region id page i p e = grind (arith, common_steps, e)

here_page : (id page i p : ℕ) → is_here id page i p ≡ true → page ≡ p
here_page id page i p e = grind (arith, common_steps, e)

-- what holds of the region and page, and of each other, holds of all
pub everywhere : (P : ℕ → ℕ → Type 0) (id page : ℕ) → P id page → ((i p : ℕ) → is_here id page i p ≡ false → P i p) → (i p : ℕ) → P i p
everywhere P id page here others i p = by_test (is_here id page i p) refl
  where
    by_test : (b : Bool) → is_here id page i p ≡ b → P i p
    by_test false e = others i p e
    by_test true e = subst (λ j. P j p) (here_region id page i p e) (subst (λ q. P id q) (here_page id page i p e) here)

-- The file where one region has another record of one page, and perhaps a private copy of it.
pub record Grants (hash : Hash) (old new : PlainFile) (id page : ℕ) : Type 0 where
  pub page_size : new.page_size ≡ old.page_size
  pub limit : new.limit ≡ old.limit
  pub blobs : new.blobs ≡ old.blobs
  pub regions : new.regions ≡ old.regions
  pub pages : new.pages ≡ old.pages
  pub residents : new.residents ≡ old.residents
  pub executes : (i p : ℕ) → is_here id page i p ≡ false → may_execute_guarded new i p ≡ true → may_execute_guarded old i p ≡ true
  pub writes : (i p : ℕ) → is_here id page i p ≡ false → may_write new i p ≡ true → may_write old i p ≡ true
  pub records : (i p : ℕ) → is_here id page i p ≡ false → has_record new i p ≡ true → has_record old i p ≡ true
  pub copies : (i p : ℕ) → is_here id page i p ≡ false → has_copy new i p ≡ has_copy old i p
  pub sealed_here : may_execute_guarded new id page ≡ true → IsSealedNow hash old page
  pub unwritten_here : may_execute_guarded new id page ≡ true → (other : ℕ) → may_write new other page ≡ true → is_shared old.regions other ≡ false
  pub unexecuted_here : may_write new id page ≡ true → (i : ℕ) → may_execute_guarded new i page ≡ true → is_shared old.regions id ≡ false
  pub uncopied_here : may_execute_guarded new id page ≡ true → has_copy new id page ≡ false
  pub copied_here : may_write new id page ≡ true → is_shared old.regions id ≡ false → has_copy new id page ≡ true
  pub private_here : has_copy new id page ≡ true → HasPrivatePage old.regions id page
  pub at_hand_here : has_copy new id page ≡ false → is_resident old page ≡ true
  pub stands_here : HasPage old.regions id page

module _ (hash : Hash) (old new : PlainFile) (id page : ℕ) (grants : Grants hash old new id page) (keep : Keep hash old) where
  same_bytes : (p : ℕ) → page_of new p ≡ page_of old p
  same_bytes p = ap (λ pages. slice_index_or pages p []) grants.pages

  same_resident : (p : ℕ) → is_resident new p ≡ is_resident old p
  same_resident p = ap (λ residents. is_some (find (is_page p) residents)) grants.residents

  same_shared : (i : ℕ) → is_shared new.regions i ≡ is_shared old.regions i
  same_shared i = ap (λ regions. is_shared regions i) grants.regions

  sealed_still : (p : ℕ) → IsSealedNow hash old p → IsSealedNow hash new p
  sealed_still p = sealed_there hash old new p grants.page_size grants.blobs (same_bytes p)

  -- who may execute a page and who may write it
  unshared : (i other p : ℕ) → may_execute_guarded new i p ≡ true → may_write new other p ≡ true → is_shared old.regions other ≡ false
  unshared i other p e w =
      everywhere (λ i p. may_execute_guarded new i p ≡ true → may_write new other p ≡ true → is_shared old.regions other ≡ false) id page
      (λ e w. grants.unwritten_here e other w)
      (λ i p away e w. everywhere (λ j q. is_here id page i q ≡ false → may_execute_guarded new i q ≡ true → may_write new j q ≡ true → is_shared old.regions j ≡ false) id page
      (λ _ e w. grants.unexecuted_here w i e)
      (λ j q apart away e w. keep.unshared i j q (grants.executes i q away e) (grants.writes j q apart w))
      other p away e w)
      i p e w

  pub grants_keep : Keep hash new
  grants_keep = record {
    is_sealed = everywhere (λ i p. may_execute_guarded new i p ≡ true → IsSealedNow hash new p) id page
        (λ e. sealed_still page (grants.sealed_here e))
        (λ i p away e. sealed_still p (keep.is_sealed i p (grants.executes i p away e)));
    unshared = λ i other p e w. same_shared other ∙ unshared i other p e w;
    uncopied = everywhere (λ i p. may_execute_guarded new i p ≡ true → has_copy new i p ≡ false) id page
        grants.uncopied_here
        (λ i p away e. grants.copies i p away ∙ keep.uncopied i p (grants.executes i p away e));
    copied = everywhere (λ i p. may_write new i p ≡ true → is_shared new.regions i ≡ false → has_copy new i p ≡ true) id page
        (λ w s. grants.copied_here w (sym (same_shared id) ∙ s))
        (λ i p away w s. grants.copies i p away ∙ keep.copied i p (grants.writes i p away w) (sym (same_shared i) ∙ s));
    private_copies = everywhere (λ i p. has_copy new i p ≡ true → HasPrivatePage new.regions i p) id page
        (λ c. subst (λ regions. HasPrivatePage regions id page) (sym grants.regions) (grants.private_here c))
        (λ i p away c. subst (λ regions. HasPrivatePage regions i p) (sym grants.regions) (keep.private_copies i p (sym (grants.copies i p away) ∙ c)));
    at_hand = everywhere (λ i p. has_record new i p ≡ true → has_copy new i p ≡ false → is_resident new p ≡ true) id page
        (λ r c. same_resident page ∙ grants.at_hand_here c)
        (λ i p away r c. same_resident p ∙ keep.at_hand i p (grants.records i p away r) (sym (grants.copies i p away) ∙ c));
    records_stand = everywhere (λ i p. has_record new i p ≡ true → HasPage new.regions i p) id page
        (λ r. subst (λ regions. HasPage regions id page) (sym grants.regions) grants.stands_here)
        (λ i p away r. subst (λ regions. HasPage regions i p) (sym grants.regions) (keep.records_stand i p (grants.records i p away r)));
    some = subst (λ n. 0 < n) (sym grants.limit) keep.some;
    few = subst (λ n. length new.residents ≤ n) (sym grants.limit) (subst (λ residents. length residents ≤ old.limit) (sym grants.residents) keep.few);
    blobs_fit = subst (λ s. All (λ attached. Fits s attached.signature) new.blobs) (sym grants.page_size)
        (subst (λ b. All (λ attached. Fits old.page_size attached.signature) b) (sym grants.blobs) keep.blobs_fit);
    one_cover = subst (λ s. AllPairs (λ one other. share_a_page s one.signature other.signature ≡ false) new.blobs) (sym grants.page_size)
        (subst (λ b. AllPairs (λ one other. share_a_page old.page_size one.signature other.signature ≡ false) b) (sym grants.blobs) keep.one_cover);
  }
