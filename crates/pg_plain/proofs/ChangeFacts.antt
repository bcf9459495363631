-- Content that changes, regions and signatures that come.
use Rattle.std.proofs.Common.{◌≡◌, ℕ, zero, suc, ◌+◌, Bool, true, false, List, [], ◌∷◌, Option, Some, None, length, refl, sym, ap, subst, ◌∙◌, arith}
use Rattle.std.proofs.lemmas.Bool.{false≢true}
use Rattle.std.specs.Prelude.{◌==◌, IsSomeAnd, IsTrue, is_some, find, position, slice_set, slice_index_or, if◌then◌else◌}
use Rattle.std.specs.Option.{option_map_or, option_or}
use Rattle.std.proofs.lemmas.Grind.{common_steps}
use Rattle.std.proofs.lemmas.List.Elements.{All-from_recursion, All-push}
use Rattle.std.proofs.lemmas.List.Quantifiers.{all_pairs_push}
use Rattle.std.proofs.lemmas.List.Folds.{find-append}
use Rattle.pg_bytes.specs.Order.{in_order}
use Rattle.pg_digest.specs.Kinds.{Hash}
use Rattle.pg_io.specs.PageBytes.{written_over}
use Rattle.cs_policy.specs.declared.region.Region.{Region}
use Rattle.cs_blob.specs.Signature.{Signature}
use Rattle.pg_regions.specs.Lookups.{region_of, region_before, is_region, has_page, HasPage}
use Rattle.pg_regions.proofs.ListFacts.{none_passes, position_none}
use Rattle.pg_plain.specs.PlainFile.{Attached, Resident, PlainFile, page_of, has_copy, may_write, may_execute_guarded, is_page, is_resident}
use Rattle.pg_plain.specs.Covers.{covers, covering, share_a_page, Fits, Sealed}
use Rattle.pg_plain.specs.Given.{put_at}
use Rattle.pg_plain.specs.Steps.{attach, is_reached, written_page, written_pages, cleaned, written, seen_by, dirtied, put_copy, put_page, stored}
use Rattle.pg_plain.specs.Keep.{Keep, IsSealedNow}
use Rattle.pg_plain.proofs.ListFacts.{find-in_order, found-map}
use Rattle.pg_plain.proofs.FewerFacts.{Fewer, fewer_keep, writes_has}
use Rattle.pg_plain.proofs.GrantFacts.{everywhere}
use Rattle.pg_plain.proofs.GiveFacts.{put_here, put_other, strip_executes, strip_writes, strip_has}

-- ---- a write

-- a page that data do not reach stays
unreached : (size at : ℕ) (bytes : List ℕ) (first : ℕ) (pages : List (List ℕ)) (page : ℕ) → is_reached size at (length bytes) (first + page) ≡ false
    → slice_index_or (written_pages size at bytes first pages) page [] ≡ slice_index_or pages page []
unreached size at bytes first [] page e = refl
unreached size at bytes first (old ∷ others) zero e =
    ap (λ b. if b then written_page size at bytes first old else old) (subst (λ n. is_reached size at (length bytes) n ≡ false) (omega arith) e)
unreached size at bytes first (old ∷ others) (suc page) e =
    unreached size at bytes (suc first) others page (subst (λ n. is_reached size at (length bytes) n ≡ false) (omega arith) e)

cleaned_number : (page : ℕ) (resident : Resident) (b : Bool) → is_page page (if b then record resident { dirty = false } else resident) ≡ is_page page resident
cleaned_number page resident true = refl
cleaned_number page resident false = refl

pub written_keep : (hash : Hash) (file : PlainFile) (at : ℕ) (bytes : List ℕ) → Keep hash file → Keep hash (written file at bytes)
written_keep hash file at bytes keep = fewer_keep hash file (written file at bytes) fewer keep
  where
    resident_still : (page : ℕ) → is_resident (written file at bytes) page ≡ is_resident file page
    resident_still page = found-map (is_page page) (cleaned file.page_size at (length bytes)) (λ resident. cleaned_number page resident (is_reached file.page_size at (length bytes) resident.page)) file.residents

    fewer : Fewer file (written file at bytes)
    fewer = record {
      page_size = refl;
      limit = refl;
      blobs = refl;
      executes = λ id page e. (strip_executes (is_reached file.page_size at (length bytes) page) (file.records id page) e).1;
      bytes = λ id page e. unreached file.page_size at bytes 0 file.pages page (subst (λ n. is_reached file.page_size at (length bytes) n ≡ false) (omega arith) (strip_executes (is_reached file.page_size at (length bytes) page) (file.records id page) e).0);
      writes = λ id page e. sym (strip_writes (is_reached file.page_size at (length bytes) page) (file.records id page)) ∙ e;
      shared = λ id page e. refl;
      copy = λ id page e. refl;
      private_copies = keep.private_copies;
      at_hand = λ id page e f. resident_still page ∙ keep.at_hand id page (sym (strip_has (is_reached file.page_size at (length bytes) page) (file.records id page)) ∙ e) f;
      records_stand = λ id page e. keep.records_stand id page (sym (strip_has (is_reached file.page_size at (length bytes) page) (file.records id page)) ∙ e);
      few = grind (arith, common_steps, keep.few);
    }

-- ---- a store

-- who may write a page and has no private copy of it shares it, so nobody executes it under guard
store_apart : (hash : Hash) (file : PlainFile) (id page : ℕ) → Keep hash file → may_write file id page ≡ true → has_copy file id page ≡ false
    → (i p : ℕ) → may_execute_guarded file i p ≡ true → (p == page) ≡ false
store_apart hash file id page keep writes uncopied i p executes = by_test (p == page) refl
  where
    same_number : (p == page) ≡ true → p ≡ page
    same_number e = grind (arith, common_steps, e)

    by_test : (b : Bool) → (p == page) ≡ b → b ≡ false
    by_test false e = refl
    by_test true e =
        let private = keep.unshared i id page (subst (λ q. may_execute_guarded file i q ≡ true) (same_number e) executes) writes in
        absurd (grind (arith, common_steps, keep.copied id page writes private, uncopied))

dirtied_number : (page p : ℕ) (resident : Resident) → is_page p (dirtied page resident) ≡ is_page p resident
dirtied_number page p resident = by_test (is_page page resident)
  where
    by_test : (b : Bool) → is_page p (if b then record resident { dirty = true } else resident) ≡ is_page p resident
    by_test true = refl
    by_test false = refl

other_page : (pages : List (List ℕ)) (page p : ℕ) (bytes : List ℕ) → (p == page) ≡ false → slice_index_or (slice_set pages page bytes) p [] ≡ slice_index_or pages p []
other_page pages page p bytes e = grind (arith, common_steps, e)

pub stored_keep : (hash : Hash) (file : PlainFile) (id page at : ℕ) (bytes : List ℕ) → Keep hash file → may_write file id page ≡ true
    → Keep hash (stored file id page at bytes)
stored_keep hash file id page at bytes keep writes = fewer_keep hash file (stored file id page at bytes) (by_copy (has_copy file id page) refl) keep
  where
    copies_still : (x : List ℕ) → has_copy file id page ≡ true → (i p : ℕ) → is_some (put_at id page x file.copies i p) ≡ has_copy file i p
    copies_still x e = everywhere (λ i p. is_some (put_at id page x file.copies i p) ≡ has_copy file i p) id page
        (ap is_some (put_here id page x file.copies) ∙ sym e) (λ i p away. ap is_some (put_other id page x file.copies i p away))

    in_copy : has_copy file id page ≡ true → Fewer file (put_copy file id page at bytes)
    in_copy e = record {
      page_size = refl;
      limit = refl;
      blobs = refl;
      executes = λ i p f. f;
      bytes = λ i p f. refl;
      writes = λ i p f. f;
      shared = λ i p f. refl;
      copy = λ i p f. copies_still (written_over (seen_by file id page) at bytes) e i p;
      private_copies = λ i p f. keep.private_copies i p (sym (copies_still (written_over (seen_by file id page) at bytes) e i p) ∙ f);
      at_hand = λ i p f g. keep.at_hand i p f (sym (copies_still (written_over (seen_by file id page) at bytes) e i p) ∙ g);
      records_stand = keep.records_stand;
      few = keep.few;
    }

    in_page : has_copy file id page ≡ false → Fewer file (put_page file page at bytes)
    in_page e = record {
      page_size = refl;
      limit = refl;
      blobs = refl;
      executes = λ i p f. f;
      bytes = λ i p f. other_page file.pages page p (written_over (page_of file page) at bytes) (store_apart hash file id page keep writes e i p f);
      writes = λ i p f. f;
      shared = λ i p f. refl;
      copy = λ i p f. refl;
      private_copies = keep.private_copies;
      at_hand = λ i p f g. found-map (is_page p) (dirtied page) (dirtied_number page p) file.residents ∙ keep.at_hand i p f g;
      records_stand = keep.records_stand;
      few = grind (arith, common_steps, keep.few);
    }

    by_copy : (copy : Bool) → has_copy file id page ≡ copy → Fewer file (if copy then put_copy file id page at bytes else put_page file page at bytes)
    by_copy true e = in_copy e
    by_copy false e = in_page e

-- ---- a region that comes

is_there : (P : Region → Type 0) (region : Option Region) → IsSomeAnd region P → is_some region ≡ true
is_there P None there = absurd there
is_there P (Some region) there = refl

module _ (hash : Hash) (file : PlainFile) (region : Region) (keep : Keep hash file) (fresh : is_some (region_of file.regions region.id) ≡ false) where
  abbrev with_region : PlainFile
  with_region = record file { regions = in_order region_before region file.regions }

  -- a region that stood is found as it was
  stands_still : (id : ℕ) → is_some (region_of file.regions id) ≡ true → region_of with_region.regions id ≡ region_of file.regions id
  stands_still id there = by_test (is_region id region) refl
    where
      same_id : is_region id region ≡ true → region.id ≡ id
      same_id e = grind (arith, common_steps, e)

      by_test : (b : Bool) → is_region id region ≡ b → region_of with_region.regions id ≡ region_of file.regions id
      by_test false e = find-in_order (is_region id) region_before region file.regions e
      by_test true e = absurd (false≢true (sym fresh ∙ ap (λ i. is_some (region_of file.regions i)) (same_id e) ∙ there))

  has_still : (id page : ℕ) → HasPage file.regions id page → region_of with_region.regions id ≡ region_of file.regions id
  has_still id page has = stands_still id (is_there (λ region. IsTrue (has_page page region)) (region_of file.regions id) has)

  pub with_region_keep : Keep hash with_region
  with_region_keep = fewer_keep hash file with_region (record {
    page_size = refl;
    limit = refl;
    blobs = refl;
    executes = λ id page e. e;
    bytes = λ id page e. refl;
    writes = λ id page e. e;
    shared = λ id page e. ap (λ r. option_map_or (λ region. region.shared) r false) (has_still id page (keep.records_stand id page (writes_has file id page e)));
    copy = λ id page e. refl;
    private_copies = λ id page e.
        let has = keep.private_copies id page e in
        subst (λ r. IsSomeAnd r (λ region. IsTrue (has_page page region) × (region.shared ≡ false)))
        (sym (stands_still id (is_there (λ region. IsTrue (has_page page region) × (region.shared ≡ false)) (region_of file.regions id) has))) has;
    at_hand = keep.at_hand;
    records_stand = λ id page e.
        let has = keep.records_stand id page e in
        subst (λ r. IsSomeAnd r (λ region. IsTrue (has_page page region))) (sym (has_still id page has)) has;
    few = keep.few;
  }) keep

-- ---- a signature that comes

still_there : {X : Type 0} (P : X → Type 0) (old other : Option X) → IsSomeAnd old P → IsSomeAnd (option_or old other) P
still_there P None other there = absurd there
still_there P (Some x) other there = there

pub attach_keep : (hash : Hash) (file : PlainFile) (slice : ℕ) (blob : Signature) → Keep hash file → Fits file.page_size blob
    → position (λ attached. share_a_page file.page_size attached.signature blob) file.blobs ≡ None → Keep hash (attach file slice blob)
attach_keep hash file slice blob keep fits apart = record {
  is_sealed = λ id page e. covered page (keep.is_sealed id page e);
  unshared = keep.unshared;
  uncopied = keep.uncopied;
  copied = keep.copied;
  private_copies = keep.private_copies;
  at_hand = keep.at_hand;
  records_stand = keep.records_stand;
  some = keep.some;
  few = keep.few;
  blobs_fit = All-push (λ attached. Fits file.page_size attached.signature) file.blobs new keep.blobs_fit fits;
  one_cover = all_pairs_push Apart file.blobs new keep.one_cover
      (All-from_recursion (λ one. Apart one new) file.blobs
      (none_passes (λ attached. share_a_page file.page_size attached.signature blob) file.blobs
      (position_none (λ attached. share_a_page file.page_size attached.signature blob) file.blobs apart)));
}
  where
    new : Attached
    new = record { slice = slice; signature = blob }

    Apart : Attached → Attached → Type 0
    Apart one other = share_a_page file.page_size one.signature other.signature ≡ false

    covered : (page : ℕ) → IsSealedNow hash file page → IsSealedNow hash (attach file slice blob) page
    covered page there =
        subst (λ cover. IsSomeAnd cover (λ attached. Sealed hash file.page_size attached.signature page (page_of file page)))
        (sym (find-append (λ attached. covers file.page_size attached.signature page) file.blobs (record { slice = slice; signature = blob } ∷ [])))
        (still_there (λ attached. Sealed hash file.page_size attached.signature page (page_of file page)) (covering file page)
        (find (λ attached. covers file.page_size attached.signature page) (record { slice = slice; signature = blob } ∷ [])) there)
