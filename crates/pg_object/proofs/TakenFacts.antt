-- A fault by how the taking of its page ended.
use Rattle.std.proofs.Common.{◌≡◌, ℕ, Bool, true, false, List, [], Option, Some, None, refl, sym, ap, subst, ◌∙◌, inl, inr}
use Rattle.std.specs.Prelude.{◌⊎◌, IsSome, IfSome, IfErr, Result, Ok, Err, is_some}
use Rattle.std.specs.Option.{option_or}
use Rattle.pg_digest.specs.Kinds.{Hash}
use Rattle.cs_policy.specs.declared.access.Access.{Access}
use Rattle.cs_policy.specs.declared.flags.ProcFlags.{ProcFlags}
use Rattle.cs_policy.specs.ProcFlags.{guarded}
use Rattle.cs_policy.specs.declared.denial.Denial.{Denial}
use Rattle.cs_policy.specs.declared.region.Region.{Region}
use Rattle.cs_policy.specs.declared.file.FileReply.TheVariants as reply
use Rattle.cs_blob.specs.Signature.{Signature}
use Rattle.pg_cache.specs.Cache.{resident_page}
use Rattle.pg_cache.specs.Gives.{BringGives}
use Rattle.pg_cache.specs.declared.fault.PagerFault.{PagerFault}
use Rattle.pg_pages.specs.Pages.{PagesNow, IsMarked}
use Rattle.pg_regions.specs.Lookups.{region_of, bytes_of}
use Rattle.pg_regions.specs.RegionsNow.{RegionsNow}
use Rattle.pg_plain.specs.PlainFile.{having}
use Rattle.pg_plain.specs.Verdict.{verdict_without_bytes}
use Rattle.pg_object.specs.declared.take.Taken.{Taken}
use Rattle.pg_object.specs.declared.take.Taken.TheVariants.{Failed, Denied, Ready}
use Rattle.pg_object.specs.Object.{ObjectNow, seen}
use Rattle.pg_object.specs.Kept.{IsKept}
use Rattle.pg_object.specs.Enters.{against, taken, Brought, GoesOn, Takes, Unmaps, GivesTo, marks_given}
use Rattle.pg_object.proofs.AfterFacts.{with_parts}
use Rattle.pg_object.proofs.EnterFacts.{DoesEnter, enters_unread, enters_mismatch, enters_unwritten, enters_given}

failed_same : (a b : ℕ) → Failed a ≡ Failed b → a ≡ b
failed_same a b e = cc

denied_same : (a b : Denial) → Denied a ≡ Denied b → a ≡ b
denied_same a b e = cc

ready_same : (l m : Option ℕ) (a b : Option Denial) → Ready l a ≡ Ready m b → (l ≡ m) × (a ≡ b)
ready_same l m a b e = (cc, cc)

ready_failed : (l : Option ℕ) (a : Option Denial) (p : ℕ) → Ready l a ≡ Failed p → ⊥
ready_failed l a p e = cc

ready_denied : (l : Option ℕ) (a : Option Denial) (d : Denial) → Ready l a ≡ Denied d → ⊥
ready_denied l a d e = cc

failed_denied : (p : ℕ) (d : Denial) → Failed p ≡ Denied d → ⊥
failed_denied p d e = cc

true_false : true ≡ false → ⊥
true_false e = cc

module _ (hash : Hash) (old : ObjectNow) (kept : IsKept hash old) (id page : ℕ) (access : Access) (flags : ProcFlags) (resolve : ℕ) (region : Region) (stands : having page (region_of old.regions.regions id) ≡ Some region)
    (broken : Option Denial) (rule : broken ≡ verdict_without_bytes (seen old []) region page access) (no_copy : is_some (bytes_of old.regions.copies id page) ≡ false) (blob : Option Signature)
    (held_against : blob ≡ against old.pages.cache.pager.page_size old.blobs page access broken) (under : guarded flags ≡ true → broken ≡ None)
    (result : Taken) (pages : PagesNow) (takes : Takes hash old.pages.cache.pager.page_size blob (guarded flags) old.pages page result pages) where
  -- it was brought, or could not be
  abbrev Fine : Option Denial → Type 0
  Fine told = (takes.noted ≡ Ok told) × ((guarded flags ≡ true → told ≡ None) × Brought hash takes.seen page told result pages)

  -- the ways in which it can end
  ends : ((fault : PagerFault) × ((takes.noted ≡ Err fault) × ((result ≡ Failed fault.page) × (pages ≡ takes.seen))))
      ⊎ (((denial : Denial) × ((takes.noted ≡ Ok (Some denial)) × ((guarded flags ≡ true) × ((result ≡ Denied denial) × (pages ≡ takes.seen)))))
      ⊎ ((told : Option Denial) × Fine told))
  ends = by_noted takes.noted refl (guarded flags) refl takes.goes_on
    where
      by_noted : (n : Result (Option Denial) PagerFault) → takes.noted ≡ n → (g : Bool) → guarded flags ≡ g → GoesOn hash g takes.seen page n result pages
          → ((fault : PagerFault) × ((takes.noted ≡ Err fault) × ((result ≡ Failed fault.page) × (pages ≡ takes.seen))))
          ⊎ (((denial : Denial) × ((takes.noted ≡ Ok (Some denial)) × ((guarded flags ≡ true) × ((result ≡ Denied denial) × (pages ≡ takes.seen)))))
          ⊎ ((told : Option Denial) × Fine told))
      by_noted (Err fault) e g f goes = inl (fault, (e, (goes.0, goes.1)))
      by_noted (Ok None) e g f goes = inr (inr (None, (e, (λ under. refl, goes))))
      by_noted (Ok (Some d)) e false f goes = inr (inr (Some d, (e, (λ under. absurd (true_false (sym under ∙ f)), goes))))
      by_noted (Ok (Some d)) e true f goes = inr (inl (d, (e, (f, (goes.0, goes.1)))))

  pub taken_failed : (p : ℕ) → result ≡ Failed p → DoesEnter hash old id page access flags resolve (reply.PagerFault p) (with_parts old pages old.regions)
  taken_failed p is = by_end ends
    where
      by_left : (told : Option Denial) (fine : Fine told) (left : Result (Option ℕ) PagerFault) → fine.1.1.left ≡ left → result ≡ taken told left → DoesEnter hash old id page access flags resolve (reply.PagerFault p) (with_parts old pages old.regions)
      by_left told fine (Ok l) e f = absurd (ready_failed l told p (sym f ∙ is))
      by_left told fine (Err fault) e f =
          subst (λ n. DoesEnter hash old id page access flags resolve (reply.PagerFault n) (with_parts old pages old.regions)) (failed_same fault.page p (sym f ∙ is))
          (enters_unwritten hash old kept id page access flags resolve region stands broken rule no_copy blob held_against takes.seen takes.noted takes.looks under told fine.0 result pages fine.1.0 fine.1.1 fault e)

      by_end : ((fault : PagerFault) × ((takes.noted ≡ Err fault) × ((result ≡ Failed fault.page) × (pages ≡ takes.seen))))
          ⊎ (((denial : Denial) × ((takes.noted ≡ Ok (Some denial)) × ((guarded flags ≡ true) × ((result ≡ Denied denial) × (pages ≡ takes.seen)))))
          ⊎ ((told : Option Denial) × Fine told)) → DoesEnter hash old id page access flags resolve (reply.PagerFault p) (with_parts old pages old.regions)
      by_end (inl (fault, (e, (f, same)))) =
          let own : fault.page ≡ page = subst (λ n. IfErr n (λ x. x.page ≡ page)) e takes.looks.fault in
          subst (λ (s : PagesNow). DoesEnter hash old id page access flags resolve (reply.PagerFault p) (with_parts old s old.regions)) (sym same)
          (subst (λ n. DoesEnter hash old id page access flags resolve (reply.PagerFault n) (with_parts old takes.seen old.regions)) (sym own ∙ failed_same fault.page p (sym f ∙ is))
          (enters_unread hash old kept id page access flags resolve region stands broken rule no_copy blob held_against takes.seen takes.noted takes.looks under fault e))
      by_end (inr (inl (denial, (e, (g, (f, same)))))) = absurd (failed_denied p denial (sym is ∙ f))
      by_end (inr (inr (told, fine))) = by_left told fine fine.1.1.left refl fine.1.1.ends

  pub taken_denied : (denial : Denial) → result ≡ Denied denial → DoesEnter hash old id page access flags resolve (reply.Denied denial) (with_parts old pages old.regions)
  taken_denied denial is = by_end ends
    where
      by_left : (told : Option Denial) (left : Result (Option ℕ) PagerFault) → result ≡ taken told left → ⊥
      by_left told (Ok l) f = ready_denied l told denial (sym f ∙ is)
      by_left told (Err fault) f = failed_denied fault.page denial (sym f ∙ is)

      by_end : ((fault : PagerFault) × ((takes.noted ≡ Err fault) × ((result ≡ Failed fault.page) × (pages ≡ takes.seen))))
          ⊎ (((d : Denial) × ((takes.noted ≡ Ok (Some d)) × ((guarded flags ≡ true) × ((result ≡ Denied d) × (pages ≡ takes.seen)))))
          ⊎ ((told : Option Denial) × Fine told)) → DoesEnter hash old id page access flags resolve (reply.Denied denial) (with_parts old pages old.regions)
      by_end (inl (fault, (e, (f, same)))) = absurd (failed_denied fault.page denial (sym f ∙ is))
      by_end (inr (inl (d, (e, (g, (f, same)))))) =
          subst (λ (s : PagesNow). DoesEnter hash old id page access flags resolve (reply.Denied denial) (with_parts old s old.regions)) (sym same)
          (subst (λ x. DoesEnter hash old id page access flags resolve (reply.Denied x) (with_parts old takes.seen old.regions)) (denied_same d denial (sym f ∙ is))
          (enters_mismatch hash old kept id page access flags resolve region stands broken rule no_copy blob held_against takes.seen takes.noted takes.looks under (Some d) e d refl g))
      by_end (inr (inr (told, fine))) = absurd (by_left told fine.1.1.left fine.1.1.ends)

  -- where it is ready, it was brought
  ready : (left : Option ℕ) (told : Option Denial) → result ≡ Ready left told → (fine : Fine told) × (fine.1.1.left ≡ Ok left)
  ready left told is = by_end ends
    where
      by_left : (x : Option Denial) (fine : Fine x) (l : Result (Option ℕ) PagerFault) → fine.1.1.left ≡ l → result ≡ taken x l → (fine : Fine told) × (fine.1.1.left ≡ Ok left)
      by_left x fine (Err fault) e f = absurd (ready_failed left told fault.page (sym is ∙ f))
      by_left x fine (Ok l) e f =
          let both = ready_same l left x told (sym f ∙ is) in
          moved x told both.1 fine (e ∙ ap Ok both.0)
        where
          moved : (x y : Option Denial) → x ≡ y → (fine : Fine x) → fine.1.1.left ≡ Ok left → (fine : Fine y) × (fine.1.1.left ≡ Ok left)
          moved x y same fine e = subst (λ z. (fine : Fine z) × (fine.1.1.left ≡ Ok left)) same (fine, e)

      by_end : ((fault : PagerFault) × ((takes.noted ≡ Err fault) × ((result ≡ Failed fault.page) × (pages ≡ takes.seen))))
          ⊎ (((d : Denial) × ((takes.noted ≡ Ok (Some d)) × ((guarded flags ≡ true) × ((result ≡ Denied d) × (pages ≡ takes.seen)))))
          ⊎ ((told : Option Denial) × Fine told)) → (fine : Fine told) × (fine.1.1.left ≡ Ok left)
      by_end (inl (fault, (e, (f, same)))) = absurd (ready_failed left told fault.page (sym is ∙ f))
      by_end (inr (inl (d, (e, (g, (f, same)))))) = absurd (ready_denied left told d (sym is ∙ f))
      by_end (inr (inr (x, fine))) = by_left x fine fine.1.1.left refl fine.1.1.ends

  module _ (left : Option ℕ) (told : Option Denial) (is : result ≡ Ready left told) where
    pub ready_resident : IsSome (resident_page pages.cache page)
    ready_resident = let one = ready left told is in ok_of one.0 one.1
      where
        ok_of : (fine : Fine told) → fine.1.1.left ≡ Ok left → IsSome (resident_page pages.cache page)
        ok_of fine e = (subst (λ r. BringGives takes.seen.cache page r pages.cache) e fine.1.1.gives).found.here

    pub ready_sizes : (pages.cache.pager.pages ≡ old.pages.cache.pager.pages) × ((pages.cache.pager.page_size ≡ old.pages.cache.pager.page_size) × IsMarked hash pages.cache pages.marks)
    ready_sizes =
        let fine = (ready left told is).0 in
        let first = takes.looks.leaves.sizes in
        let second = fine.1.1.gives.sizes in
        (second.pages ∙ first.pages, (second.page_size ∙ first.page_size, fine.1.1.marked))

    pub taken_ready : (unmapped : RegionsNow) → Unmaps old.regions left unmapped → (given_pages : PagesNow) (regions : RegionsNow) → given_pages ≡ record pages { marks = marks_given region page access pages.marks }
        → IsMarked hash given_pages.cache given_pages.marks → ((bytes : List ℕ) → IfSome (resident_page pages.cache page) (λ held. bytes ≡ held.bytes) → GivesTo unmapped region page access (guarded flags) bytes regions)
        → DoesEnter hash old id page access flags resolve (reply.Given left (option_or broken told)) (with_parts old given_pages regions)
    taken_ready unmapped unmaps given_pages regions marks is_marked gives =
        let one = ready left told is in
        enters_given hash old kept id page access flags resolve region stands broken rule no_copy blob held_against takes.seen takes.noted takes.looks under told one.0.0 result pages one.0.1.0 one.0.1.1
        left one.1 unmapped unmaps given_pages regions marks is_marked gives
