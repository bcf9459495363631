-- Which pages are checked.
use Rattle.std.proofs.Common.{◌≡◌, ℕ, Bool, true, false, List, [], ◌∷◌, map, refl, sym, ap, ◌∙◌, arith}
use Rattle.std.specs.Prelude.{◌==◌, ◌&&◌, filter, find, is_some}
use Rattle.std.proofs.lemmas.Grind.{common_steps}
use Rattle.cs_policy.specs.declared.file.FileEvent.{FileEvent}
use Rattle.cs_policy.specs.declared.file.FileReply.{FileReply}
use Rattle.pg_cache.specs.Held.{Held, find_held}
use Rattle.pg_object.specs.Object.{ObjectNow}
use Rattle.pg_object.specs.Checked.{is_validated, is_checked, is_resident, takes_out, KeepsChecked}

found_checked : (v : ℕ → Bool) (held : List Held) (page : ℕ)
    → is_some (find (λ q. q == page) (filter v (map (λ (h : Held). h.page) held))) ≡ (is_some (find_held held page) && v page)
found_checked v [] page = refl
found_checked v (h ∷ held) page = by_test (h.page == page) (v h.page) refl refl (found_checked v held page)
  where
    Goal : Type 0
    Goal = is_some (find (λ q. q == page) (filter v (map (λ (h : Held). h.page) (h ∷ held)))) ≡ (is_some (find_held (h ∷ held) page) && v page)

    same_page : (h.page == page) ≡ true → h.page ≡ page
    same_page e = grind (arith, common_steps, e)

    by_test : (a b : Bool) → (h.page == page) ≡ a → v h.page ≡ b
        → is_some (find (λ q. q == page) (filter v (map (λ (h : Held). h.page) held))) ≡ (is_some (find_held held page) && v page) → Goal
    by_test true true e f rest = let own : v page ≡ true = sym (ap v (same_page e)) ∙ f in grind (arith, common_steps, e, f, own)
    by_test true false e f rest = let own : v page ≡ false = sym (ap v (same_page e)) ∙ f in grind (arith, common_steps, e, f, own, rest)
    by_test false true e f rest = grind (arith, common_steps, e, f, rest)
    by_test false false e f rest = grind (arith, common_steps, e, f, rest)

-- a page is checked where it is resident and validated
pub checked_is : (now : ObjectNow) (page : ℕ) → is_checked now page ≡ (is_resident now page && is_validated now page)
checked_is now page = found_checked (is_validated now) now.pages.cache.held page

pub checked_resident : (now : ObjectNow) (page : ℕ) → is_checked now page ≡ true → is_resident now page ≡ true
checked_resident now page e = grind (arith, common_steps, checked_is now page, e)

pub checked_validated : (now : ObjectNow) (page : ℕ) → is_checked now page ≡ true → is_validated now page ≡ true
checked_validated now page e = grind (arith, common_steps, checked_is now page, e)

-- where the pages stay, so do those that are checked
pub checked_quietly : (old new : ObjectNow) (e : FileEvent) (answer : FileReply) → new.pages ≡ old.pages
    → ((page : ℕ) → takes_out old e answer page ≡ false) → KeepsChecked old e answer new
checked_quietly old new e answer same untaken = record {
  stays = λ page there.
      let here : is_checked new page ≡ true = ap (λ pages. is_checked (record new { pages = pages }) page) same ∙ there in
      let resident = checked_resident new page here in
      grind (arith, common_steps, here, resident, untaken page);
  comes = λ page gone there.
      let here : is_checked new page ≡ is_checked old page = ap (λ pages. is_checked (record new { pages = pages }) page) same in
      absurd (grind (arith, common_steps, here, gone, there));
}
