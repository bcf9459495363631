-- A page that was checked was held against its slots.
use Rattle.std.proofs.Common.{◌≡◌, ℕ, true, false, ◌+◌, ◌-◌, ◌/◌, ◌<◌, ◌≤◌, List, length, Option, Some, None, refl, sym, ap, subst, ◌∙◌, arith}
use Rattle.std.specs.Prelude.{Result, Ok, Err, IfOk, IfErr, OnErr, IsSome, IsSomeAnd, is_err}
use Rattle.std.proofs.lemmas.Grind.{common_steps}
use Rattle.pg_digest.specs.Kinds.{Hash}
use Rattle.pg_digest.specs.declared.digests.Digest.{Digest}
use Rattle.pg_digest.specs.declared.kinds.HashKind.{HashKind}
use Rattle.std.specs.List.{concat}
use Rattle.cs_directory.specs.Directory.{slot_at}
use Rattle.cs_policy.specs.declared.denial.Denial.TheVariants.{Mismatch}
use Rattle.cs_blob.specs.Signature.{Signature}
use Rattle.pg_cache.specs.Held.{Held}
use Rattle.pg_cache.specs.Cache.{resident_page, at_hand}
use Rattle.pg_cache.specs.Gives.{PeekLeaves}
use Rattle.pg_cache.specs.declared.fault.PagerFault.{PagerFault}
use Rattle.pg_cache.proofs.GiveFacts.{hand_of, hand_whole_bytes}
use Rattle.pg_pages.specs.declared.check.Check.{Check}
use Rattle.pg_pages.specs.declared.check.Check.TheVariants.{Sealed, NotSealed}
use Rattle.pg_pages.specs.Marks.{Seal, seal_of}
use Rattle.pg_pages.specs.MarkSteps.{checked, cleared}
use Rattle.pg_pages.specs.Pages.{PagesNow, IsMarked, IsValidated, Checked, hashed, bytes_at_hand}
use Rattle.pg_plain.specs.Covers.{hash_page, begins}
use Rattle.pg_object.specs.Seals.{slots_of, seal_for}
use Rattle.pg_object.specs.Enters.{Holds, says, Looks}
use Rattle.pg_object.proofs.MarkFacts.{cleared_validated}
use Rattle.pg_object.proofs.CompareFacts.{sealed_none, other_some, other_inside}

-- what a check tells
pub record HasChecked (hash : Hash) (seal : Seal) (count : ℕ) (old : PagesNow) (page : ℕ) (result : Result Check PagerFault) (new : PagesNow) : Type 0 where
  pub leaves : PeekLeaves old.cache page (is_err result) new.cache
  pub found : IfOk result (Checked hash seal (bytes_at_hand new.cache page))
  pub fault : IfErr result (λ fault. fault.page ≡ page)
  pub lazy : IsSome (resident_page old.cache page) → IsValidated old page seal → (result ≡ Ok Sealed) × (new.calls ≡ old.calls)
  pub once : IfOk result (λ check. new.calls ≤ old.calls + hashed count check)
  pub uncalled : OnErr result (new.calls ≡ old.calls)
  pub marks : new.marks ≡ checked old.cache page seal result old.marks
  pub marked : IsMarked hash new.cache new.marks

-- the pages where no writer maps this one
abbrev pub unmapped : ℕ → PagesNow → PagesNow
unmapped page old = record old { marks = cleared old.cache page old.marks }

-- a check that was made
abbrev done : Check → Result Check PagerFault
done check = Ok check

fine : false ≡ true → ⊥
fine e = cc

module _ (hash : Hash) (blob : Signature) (old : PagesNow) (page : ℕ) (new : PagesNow) (holds : Holds old.cache.pager.page_size blob page) where
  pub looks_sealed : HasChecked hash (seal_for old.cache.pager.page_size blob page) (old.cache.pager.page_size / hash_page blob) (unmapped page old) page (Ok Sealed) new
      → Looks hash old.cache.pager.page_size (Some blob) old page (Ok None) new
  looks_sealed has =
      let at = hand_of (at_hand new.cache page) has.found.present has.found.at_hand in
      let whole : length has.found.present ≡ old.cache.pager.page_size = hand_whole_bytes new.cache page has.found.present has.leaves.sound has.found.at_hand ∙ has.leaves.sizes.page_size in
      record {
        leaves = has.leaves;
        says = subst (λ (o : Option Held). IsSomeAnd o (λ held. None ≡ says hash old.cache.pager.page_size (Some blob) page held.bytes)) (sym at.1.0)
            (sym (ap (says hash old.cache.pager.page_size (Some blob) page) at.1.1 ∙ sealed_none hash old.cache.pager.page_size blob page has.found.present holds whole has.found.answer));
        fault = tt;
        counts = record { few = has.once; once = has.once; unread = λ failed. absurd (fine failed); lazy = λ resident valid. (refl, (has.lazy resident (still valid)).1) };
        marks = has.marks;
        marked = has.marked;
      }
    where
      still : IsValidated old page (seal_for old.cache.pager.page_size blob page) → IsValidated (unmapped page old) page (seal_for old.cache.pager.page_size blob page)
      still valid = cleared_validated old.cache page old.marks page ∙ valid

  pub looks_other : (part : ℕ) (found : Digest) → HasChecked hash (seal_for old.cache.pager.page_size blob page) (old.cache.pager.page_size / hash_page blob) (unmapped page old) page (Ok (NotSealed part found)) new
      → Looks hash old.cache.pager.page_size (Some blob) old page (Ok (Some (Mismatch page (begins old.cache.pager.page_size blob page / hash_page blob + part) found (slot_at blob.best_bytes (begins old.cache.pager.page_size blob page / hash_page blob + part))))) new
  looks_other part found has =
      let at = hand_of (at_hand new.cache page) has.found.present has.found.at_hand in
      let whole : length has.found.present ≡ old.cache.pager.page_size = hand_whole_bytes new.cache page has.found.present has.leaves.sound has.found.at_hand ∙ has.leaves.sizes.page_size in
      record {
        leaves = has.leaves;
        says = subst (λ (o : Option Held). IsSomeAnd o (λ held. Some (Mismatch page (begins old.cache.pager.page_size blob page / hash_page blob + part) found (slot_at blob.best_bytes (begins old.cache.pager.page_size blob page / hash_page blob + part))) ≡ says hash old.cache.pager.page_size (Some blob) page held.bytes)) (sym at.1.0)
            (sym (ap (says hash old.cache.pager.page_size (Some blob) page) at.1.1 ∙ other_some hash old.cache.pager.page_size blob page has.found.present holds whole part found has.found.answer));
        fault = tt;
        counts = record {
          few =
              let inside : part < old.cache.pager.page_size / hash_page blob = subst (λ n. part < n / hash_page blob) whole has.found.answer.inside in
              let once = has.once in omega arith;
          once = subst (λ n. new.calls ≤ old.calls + n) (up_to (begins old.cache.pager.page_size blob page / hash_page blob)) has.once;
          unread = λ failed. absurd (fine failed);
          lazy = λ resident valid. absurd (differ (has.lazy resident (still valid)).0);
        };
        marks = has.marks;
        marked = has.marked;
      }
    where
      up_to : (first : ℕ) → part + 1 ≡ first + part + 1 - first
      up_to first = omega arith

      ok_same : (a b : Check) → done a ≡ done b → a ≡ b
      ok_same a b e = cc

      apart : NotSealed part found ≡ Sealed → ⊥
      apart e = cc

      differ : done (NotSealed part found) ≡ done Sealed → ⊥
      differ e = apart (ok_same (NotSealed part found) Sealed e)

      still : IsValidated old page (seal_for old.cache.pager.page_size blob page) → IsValidated (unmapped page old) page (seal_for old.cache.pager.page_size blob page)
      still valid = cleared_validated old.cache page old.marks page ∙ valid

  pub looks_failed : (fault : PagerFault) → HasChecked hash (seal_for old.cache.pager.page_size blob page) (old.cache.pager.page_size / hash_page blob) (unmapped page old) page (Err fault) new
      → Looks hash old.cache.pager.page_size (Some blob) old page (Err fault) new
  looks_failed fault has = record {
    leaves = has.leaves;
    says = tt;
    fault = has.fault;
    counts = record {
      few = let same = has.uncalled in omega arith;
      once = let same = has.uncalled in omega arith;
      unread = λ failed. has.uncalled;
      lazy = λ resident valid. absurd (let no = (has.leaves.no_call resident).0 in grind (arith, common_steps, no));
    };
    marks = has.marks;
    marked = has.marked;
  }

  -- the place of the hash page that differs has a slot
  pub part_inside : (part : ℕ) (found : Digest) → HasChecked hash (seal_for old.cache.pager.page_size blob page) (old.cache.pager.page_size / hash_page blob) (unmapped page old) page (Ok (NotSealed part found)) new
      → begins old.cache.pager.page_size blob page / hash_page blob + part < blob.best.code_slots
  part_inside part found has =
      other_inside hash old.cache.pager.page_size blob page has.found.present holds (hand_whole_bytes new.cache page has.found.present has.leaves.sound has.found.at_hand ∙ has.leaves.sizes.page_size) part found has.found.answer

-- a check by what it was given
pub checked_as : (hash : Hash) (blob : Signature) (old given : PagesNow) (page : ℕ) (kind : HashKind) (part : ℕ) (wanted : List ℕ) (result : Result Check PagerFault) (new : PagesNow)
    → given ≡ unmapped page old → kind ≡ blob.best.kind → part ≡ hash_page blob → wanted ≡ concat (slots_of old.cache.pager.page_size blob page)
    → HasChecked hash (seal_of kind part wanted) (given.cache.pager.page_size / part) given page result new
    → HasChecked hash (seal_for old.cache.pager.page_size blob page) (old.cache.pager.page_size / hash_page blob) (unmapped page old) page result new
checked_as hash blob old given page kind part wanted result new same kinds parts slots has =
    subst (λ (w : List ℕ). HasChecked hash (seal_of blob.best.kind (hash_page blob) w) (old.cache.pager.page_size / hash_page blob) (unmapped page old) page result new) slots
    (subst (λ (p : ℕ). HasChecked hash (seal_of blob.best.kind p wanted) (old.cache.pager.page_size / p) (unmapped page old) page result new) parts
    (subst (λ (k : HashKind). HasChecked hash (seal_of k part wanted) (old.cache.pager.page_size / part) (unmapped page old) page result new) kinds
    (subst (λ (g : PagesNow). HasChecked hash (seal_of kind part wanted) (g.cache.pager.page_size / part) g page result new) same has)))

-- what is told, by the slot and the digest in it
pub looks_told : (hash : Hash) (blob : Signature) (old : PagesNow) (page : ℕ) (new : PagesNow) (slot place : ℕ) (found wanted : Digest) → slot ≡ place → wanted ≡ slot_at blob.best_bytes slot
    → Looks hash old.cache.pager.page_size (Some blob) old page (Ok (Some (Mismatch page place found (slot_at blob.best_bytes place)))) new
    → Looks hash old.cache.pager.page_size (Some blob) old page (Ok (Some (Mismatch page slot found wanted))) new
looks_told hash blob old page new slot place found wanted same is looks =
    subst (λ (d : Digest). Looks hash old.cache.pager.page_size (Some blob) old page (Ok (Some (Mismatch page slot found d))) new) (sym is)
    (subst (λ n. Looks hash old.cache.pager.page_size (Some blob) old page (Ok (Some (Mismatch page n found (slot_at blob.best_bytes n)))) new) (sym same) looks)
