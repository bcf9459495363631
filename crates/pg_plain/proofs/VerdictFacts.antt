-- What the verdict on an execution says where no rule is broken.
use Rattle.std.proofs.Common.{◌≡◌, ℕ, Bool, true, false, List, [], ◌∷◌, Option, Some, None, refl, sym, ap, subst, ◌∙◌, arith, not}
use Rattle.std.specs.Prelude.{◌&&◌, IsSomeAnd, find, filter, map, min, is_some, if◌then◌else◌}
use Rattle.std.specs.List.{reduce, AllByRecursion}
use Rattle.std.specs.Option.{option_map, option_map_or, option_or}
use Rattle.std.specs.Str.{bytes_eq}
use Rattle.std.proofs.lemmas.Grind.{common_steps}
use Rattle.std.proofs.lemmas.List.Elements.{All-from_recursion}
use Rattle.std.proofs.lemmas.Slice.Eq.{bytes_eq-Decides}
use Rattle.pg_digest.specs.Kinds.{Hash}
use Rattle.cs_policy.specs.declared.access.Access.TheVariants.{Execute}
use Rattle.cs_policy.specs.declared.region.Region.{Region}
use Rattle.cs_policy.specs.declared.denial.Denial.TheVariants.{PrivateCopy, Unsigned, BeyondLimit, WritableShared, Mismatch}
use Rattle.cs_blob.specs.Signature.{Signature}
use Rattle.pg_regions.specs.Lookups.{region_of, is_region, is_shared}
use Rattle.pg_regions.proofs.ListFacts.{found_passes}
use Rattle.pg_plain.specs.PlainFile.{Attached, PlainFile, page_of, has_copy, may_write, writer}
use Rattle.pg_plain.specs.Covers.{covers, covering, is_below_limit, Part, parts, Matches, Sealed}
use Rattle.pg_plain.specs.Verdict.{private_copy, unsigned, beyond_limit, writable_shared, differs, mismatch, verdict_without_bytes, verdict}
use Rattle.pg_plain.specs.Keep.{IsSealedNow}
use Rattle.pg_plain.proofs.ListFacts.{none-filter}

-- the first of some options is none where each is
or_none : {X : Type 0} (one other : Option X) → option_or one other ≡ None → (one ≡ None) × (other ≡ None)
or_none None other e = (refl, e)
or_none (Some x) other e = absurd (grind (arith, common_steps, e))

chosen_none : {X : Type 0} (b : Bool) (x : X) → (if b then Some x else None) ≡ None → b ≡ false
chosen_none true x e = absurd (grind (arith, common_steps, e))
chosen_none false x e = refl

kept_none : {X : Type 0} (b : Bool) (x : X) → (if b then None else Some x) ≡ None → b ≡ true
kept_none true x e = refl
kept_none false x e = absurd (grind (arith, common_steps, e))

map_none : {X Y : Type 0} (f : X → Y) (o : Option X) → option_map f o ≡ None → o ≡ None
map_none f None e = refl
map_none f (Some x) e = absurd (grind (arith, common_steps, e))

-- where none is found, each passes
none_differs : (hash : Hash) (blob : Signature) (ps : List Part) → find (differs hash blob) ps ≡ None → AllByRecursion (Matches hash blob) ps
none_differs hash blob [] none = tt
none_differs hash blob (p ∷ ps) none = by_test (bytes_eq (hash blob.best.kind p.bytes) p.wanted) refl (none_differs hash blob ps)
  where
    by_test : (b : Bool) → bytes_eq (hash blob.best.kind p.bytes) p.wanted ≡ b
        → (find (differs hash blob) ps ≡ None → AllByRecursion (Matches hash blob) ps)
        → Matches hash blob p × AllByRecursion (Matches hash blob) ps
    by_test true e rest = ((bytes_eq-Decides (hash blob.best.kind p.bytes) p.wanted).0 e, rest (grind (arith, common_steps, e, none)))
    by_test false e rest = absurd (grind (arith, common_steps, e, none))

reduce_none : (f : ℕ → ℕ → ℕ) (ids : List ℕ) → reduce f ids ≡ None → ids ≡ []
reduce_none f [] e = refl
reduce_none f (x ∷ xs) e = absurd (grind (arith, common_steps, e))

map_empty : {X Y : Type 0} (f : X → Y) (xs : List X) → map f xs ≡ [] → xs ≡ []
map_empty f [] e = refl
map_empty f (x ∷ xs) e = absurd (grind (arith, common_steps, e))

-- the region is shared and may write the page
abbrev writes_page : PlainFile → ℕ → Region → Bool
writes_page file page region = region.shared && may_write file region.id page

-- where there is no writer, no shared region may write the page
no_writer : (file : PlainFile) (page : ℕ) → writer file page ≡ None → (other : ℕ) → may_write file other page ≡ true → is_shared file.regions other ≡ false
no_writer file page none other writes = by_region (region_of file.regions other) refl
  where
    fails : option_map_or (writes_page file page) (region_of file.regions other) false ≡ false
    fails = none-filter (is_region other) (writes_page file page) file.regions (map_empty (λ region. region.id) (filter (writes_page file page) file.regions) (reduce_none min (map (λ region. region.id) (filter (writes_page file page) file.regions)) none))

    same_id : (region : Region) → is_region other region ≡ true → region.id ≡ other
    same_id region e = grind (arith, common_steps, e)

    by_region : (region : Option Region) → region_of file.regions other ≡ region → option_map_or (λ r. r.shared) region false ≡ false
    by_region None e = refl
    by_region (Some region) e =
        let failed = ap (λ r. option_map_or (writes_page file page) r false) (sym e) ∙ fails in
        let may = subst (λ id. may_write file id page ≡ true) (sym (same_id region (found_passes (is_region other) file.regions region e))) writes in
        grind (arith, common_steps, failed, may)

-- What is known of a page that may be executed: nothing is broken.
pub record Executable (hash : Hash) (file : PlainFile) (region : Region) (page : ℕ) : Type 0 where
  pub uncopied : region.shared ≡ false → has_copy file region.id page ≡ false
  pub now_sealed : IsSealedNow hash file page
  pub unwritten : (other : ℕ) → may_write file other page ≡ true → is_shared file.regions other ≡ false

module _ (hash : Hash) (file : PlainFile) (region : Region) (page : ℕ) where
  seals : (cover : Option Attached) → (covers_it : covering file page ≡ cover)
      → (if is_some cover then None else Some (Unsigned page)) ≡ None
      → option_map_or (λ attached. if is_below_limit file.page_size attached.signature page then None else Some (BeyondLimit page)) cover None ≡ None
      → option_map_or (λ attached. option_map (λ p. Mismatch page p.slot (hash attached.signature.best.kind p.bytes) p.wanted)
      (find (differs hash attached.signature) (parts file.page_size attached.signature page (page_of file page)))) cover None ≡ None
      → IsSomeAnd cover (λ attached. Sealed hash file.page_size attached.signature page (page_of file page))
  seals None at signed below matches = absurd (grind (arith, common_steps, signed))
  seals (Some attached) at signed below matches = record {
    covered = found_passes (λ attached. covers file.page_size attached.signature page) file.blobs attached at;
    below = kept_none (is_below_limit file.page_size attached.signature page) (BeyondLimit page) below;
    matches = All-from_recursion (Matches hash attached.signature) (parts file.page_size attached.signature page (page_of file page))
        (none_differs hash attached.signature (parts file.page_size attached.signature page (page_of file page))
        (map_none (λ p. Mismatch page p.slot (hash attached.signature.best.kind p.bytes) p.wanted)
        (find (differs hash attached.signature) (parts file.page_size attached.signature page (page_of file page))) matches));
  }

  pub executable : verdict hash file region page Execute ≡ None → Executable hash file region page
  executable none =
      let both = or_none (verdict_without_bytes file region page Execute) (mismatch hash file page) none in
      let first = or_none (private_copy file region page) (option_or (unsigned file page) (option_or (beyond_limit file page) (option_or (writable_shared file page) None))) both.0 in
      let second = or_none (unsigned file page) (option_or (beyond_limit file page) (option_or (writable_shared file page) None)) first.1 in
      let third = or_none (beyond_limit file page) (option_or (writable_shared file page) None) second.1 in
      let fourth = or_none (writable_shared file page) None third.1 in
      record {
        uncopied = λ private. grind (arith, common_steps, private, chosen_none (not region.shared && has_copy file region.id page) (PrivateCopy page) first.0);
        now_sealed = seals (covering file page) refl second.0 third.0 both.1;
        unwritten = no_writer file page (map_none (λ id. WritableShared page id) (writer file page) fourth.0);
      }
