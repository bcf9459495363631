-- The sealing depends on the bytes of resident pages alone, so it holds for all bytes that the pages may have.
use Rattle.std.proofs.Common.{◌≡◌, ℕ, ◌==◌, Bool, true, false, List, [], ◌∷◌, Option, Some, None, map, refl, ap, sym, subst, ◌∙◌, arith}
use Rattle.std.specs.Prelude.{◌&&◌, IsSomeAnd, IfSome, find, is_some, slice_index_or}
use Rattle.std.specs.Option.{option_map, option_map_or}
use Rattle.std.proofs.lemmas.Grind.{common_steps}
use Rattle.std.proofs.lemmas.Option.{get_or_from_slice_get}
use Rattle.pg_digest.specs.Kinds.{Hash}
use Rattle.cs_policy.specs.declared.region.Record.{Record}
use Rattle.cs_policy.specs.declared.file.FileEvent.{FileEvent}
use Rattle.cs_policy.specs.declared.file.FileReply.{FileReply}
use Rattle.cs_blob.specs.Signature.{Signature}
use Rattle.pg_cache.specs.Held.{Held, find_held}
use Rattle.pg_cache.specs.Cache.{CacheNow, resident_page}
use Rattle.pg_cache.specs.Finds.{Finds}
use Rattle.pg_plain.specs.PlainFile.{PlainFile, has_record, may_execute_guarded, is_page, is_resident}
use Rattle.pg_plain.specs.Covers.{covering, Fits, Sealed}
use Rattle.pg_plain.specs.Keep.{Keep}
use Rattle.pg_plain.proofs.StepFacts.{step_keep}
use Rattle.pg_object.specs.Object.{ObjectNow, resident_of, seen}
use Rattle.pg_object.specs.Acts.{Acts}
use Rattle.pg_object.specs.Kept.{IsKept}

-- ---- resident pages

-- a resident page of the plain file is that of the cache
pub found_resident : (held : List Held) (page : ℕ) → find (is_page page) (map resident_of held) ≡ option_map resident_of (find_held held page)
found_resident [] page = refl
found_resident (h ∷ held) page = by_test (h.page == page) refl (found_resident held page)
  where
    by_test : (b : Bool) → (h.page == page) ≡ b → find (is_page page) (map resident_of held) ≡ option_map resident_of (find_held held page)
        → find (is_page page) (map resident_of (h ∷ held)) ≡ option_map resident_of (find_held (h ∷ held) page)
    by_test true e rest = grind (arith, common_steps, e)
    by_test false e rest = grind (arith, common_steps, e, rest)

pub some_map : {X Y : Type 0} (f : X → Y) (o : Option X) → is_some (option_map f o) ≡ is_some o
some_map f None = refl
some_map f (Some x) = refl

pub resident_is : (now : ObjectNow) (pages : List (List ℕ)) (page : ℕ) → is_resident (seen now pages) page ≡ is_some (resident_page now.pages.cache page)
resident_is now pages page = ap is_some (found_resident now.pages.cache.held page) ∙ some_map resident_of (find_held now.pages.cache.held page)

-- of a resident page there is one list of bytes
same_bytes : (cache : CacheNow) (one other : List (List ℕ)) (page : ℕ) → Finds cache one → Finds cache other → is_some (resident_page cache page) ≡ true
    → slice_index_or one page [] ≡ slice_index_or other page []
same_bytes cache one other page first second resident = by_held (resident_page cache page) refl resident
  where
    by_held : (o : Option Held) → resident_page cache page ≡ o → is_some o ≡ true → slice_index_or one page [] ≡ slice_index_or other page []
    by_held None e there = absurd (grind (arith, common_steps, there))
    by_held (Some h) e there =
        get_or_from_slice_get one page h.bytes [] (first.resident page h e) ∙ sym (get_or_from_slice_get other page h.bytes [] (second.resident page h e))

executes_has : (file : PlainFile) (id page : ℕ) → may_execute_guarded file id page ≡ true → has_record file id page ≡ true
executes_has file id page e = by_record (file.records id page) e
  where
    by_record : (r : Option Record) → option_map_or (λ r. r.execute && r.guarded) r false ≡ true → is_some r ≡ true
    by_record None e = absurd (grind (arith, common_steps, e))
    by_record (Some r) e = refl

-- ---- the sealing

pub keep_other : (hash : Hash) (now : ObjectNow) (one other : List (List ℕ)) → Finds now.pages.cache one → Finds now.pages.cache other
    → Keep hash (seen now one) → Keep hash (seen now other)
keep_other hash now one other first second keep = record {
  is_sealed = λ id page e.
      let at_hand = keep.at_hand id page (executes_has (seen now one) id page e) (keep.uncopied id page e) in
      subst (λ bytes. IsSomeAnd (covering (seen now one) page) (λ attached. Sealed hash now.pages.cache.pager.page_size attached.signature page bytes))
      (same_bytes now.pages.cache one other page first second (sym (resident_is now one page) ∙ at_hand)) (keep.is_sealed id page e);
  unshared = keep.unshared;
  uncopied = keep.uncopied;
  copied = keep.copied;
  private_copies = keep.private_copies;
  at_hand = keep.at_hand;
  records_stand = keep.records_stand;
  some = keep.some;
  few = keep.few;
  blobs_fit = keep.blobs_fit;
  one_cover = keep.one_cover;
}

-- a call that is the plain step leaves the sealing, whatever the bytes of the pages are
pub keep_after : (hash : Hash) (old new : ObjectNow) (e : FileEvent) (blob : Option Signature) (answer : FileReply) → IsKept hash old
    → Acts hash old e blob answer new → IfSome blob (Fits old.pages.cache.pager.page_size)
    → (pages : List (List ℕ)) → Finds new.pages.cache pages → Keep hash (seen new pages)
keep_after hash old new e blob answer kept acts fits pages found =
    keep_other hash new acts.pages_after pages acts.found_after found
    (subst (Keep hash) (sym (ap (λ (given : FileReply × PlainFile). given.1) acts.step))
    (step_keep hash (seen old acts.pages) e blob acts.outcome (kept.keep acts.pages acts.found) fits))
