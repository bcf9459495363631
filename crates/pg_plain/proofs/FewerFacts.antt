-- A file of which less may be done keeps what is true of every file.
use Rattle.std.proofs.Common.{◌≡◌, ℕ, ◌<◌, ◌≤◌, true, false, List, Option, Some, None, length, refl, sym, subst, ◌∙◌}
use Rattle.std.specs.Prelude.{◌&&◌, IsSomeAnd, All, AllPairs, find, is_some}
use Rattle.std.specs.Option.{option_map_or}
use Rattle.cs_policy.specs.declared.region.Record.{Record}
use Rattle.pg_digest.specs.Kinds.{Hash}
use Rattle.pg_regions.specs.Lookups.{HasPage, HasPrivatePage, is_shared}
use Rattle.pg_plain.specs.PlainFile.{Attached, PlainFile, page_of, has_copy, has_record, may_write, may_execute_guarded, is_resident}
use Rattle.pg_plain.specs.Covers.{covers, share_a_page, Fits, Sealed}
use Rattle.pg_plain.specs.Keep.{Keep, IsSealedNow}

-- Where the new file lets a region do something with a page, the old one did.
pub record Fewer (old new : PlainFile) : Type 0 where
  pub page_size : new.page_size ≡ old.page_size
  pub limit : new.limit ≡ old.limit
  pub blobs : new.blobs ≡ old.blobs
  pub executes : (id page : ℕ) → may_execute_guarded new id page ≡ true → may_execute_guarded old id page ≡ true
  pub bytes : (id page : ℕ) → may_execute_guarded new id page ≡ true → page_of new page ≡ page_of old page
  pub writes : (id page : ℕ) → may_write new id page ≡ true → may_write old id page ≡ true
  pub shared : (id page : ℕ) → may_write new id page ≡ true → is_shared new.regions id ≡ is_shared old.regions id
  pub copy : (id page : ℕ) → has_record new id page ≡ true → has_copy new id page ≡ has_copy old id page
  pub private_copies : (id page : ℕ) → has_copy new id page ≡ true → HasPrivatePage new.regions id page
  pub at_hand : (id page : ℕ) → has_record new id page ≡ true → has_copy new id page ≡ false → is_resident new page ≡ true
  pub records_stand : (id page : ℕ) → has_record new id page ≡ true → HasPage new.regions id page
  pub few : length new.residents ≤ new.limit

-- a page is sealed by its size, the attached signatures and its bytes
abbrev pub SealedBy : Hash → ℕ → List Attached → ℕ → List ℕ → Type 0
SealedBy hash size blobs page bytes =
    IsSomeAnd (find (λ attached. covers size attached.signature page) blobs) (λ attached. Sealed hash size attached.signature page bytes)

-- who may write or execute has a record
pub writes_has : (file : PlainFile) (id page : ℕ) → may_write file id page ≡ true → has_record file id page ≡ true
writes_has file id page = by_record (file.records id page)
  where
    by_record : (r : Option Record) → option_map_or (λ r. r.write) r false ≡ true → is_some r ≡ true
    by_record None e = e
    by_record (Some r) e = refl

pub executes_has : (file : PlainFile) (id page : ℕ) → may_execute_guarded file id page ≡ true → has_record file id page ≡ true
executes_has file id page = by_record (file.records id page)
  where
    by_record : (r : Option Record) → option_map_or (λ r. r.execute && r.guarded) r false ≡ true → is_some r ≡ true
    by_record None e = e
    by_record (Some r) e = refl

pub sealed_there : (hash : Hash) (old new : PlainFile) (page : ℕ) → new.page_size ≡ old.page_size → new.blobs ≡ old.blobs
    → page_of new page ≡ page_of old page → IsSealedNow hash old page → IsSealedNow hash new page
sealed_there hash old new page size blobs bytes now =
    subst (λ s. SealedBy hash s new.blobs page (page_of new page)) (sym size)
    (subst (λ b. SealedBy hash old.page_size b page (page_of new page)) (sym blobs)
    (subst (λ b. SealedBy hash old.page_size old.blobs page b) (sym bytes) now))

pub fewer_keep : (hash : Hash) (old new : PlainFile) → Fewer old new → Keep hash old → Keep hash new
fewer_keep hash old new fewer keep = record {
  is_sealed = λ id page e. sealed_there hash old new page fewer.page_size fewer.blobs (fewer.bytes id page e) (keep.is_sealed id page (fewer.executes id page e));
  unshared = λ id other page e w. fewer.shared other page w ∙ keep.unshared id other page (fewer.executes id page e) (fewer.writes other page w);
  uncopied = λ id page e. fewer.copy id page (executes_has new id page e) ∙ keep.uncopied id page (fewer.executes id page e);
  copied = λ id page w s. fewer.copy id page (writes_has new id page w)
      ∙ keep.copied id page (fewer.writes id page w) (sym (fewer.shared id page w) ∙ s);
  private_copies = fewer.private_copies;
  at_hand = fewer.at_hand;
  records_stand = fewer.records_stand;
  some = subst (λ n. 0 < n) (sym fewer.limit) keep.some;
  few = fewer.few;
  blobs_fit = subst (λ s. All (λ attached. Fits s attached.signature) new.blobs) (sym fewer.page_size)
      (subst (λ b. All (λ attached. Fits old.page_size attached.signature) b) (sym fewer.blobs) keep.blobs_fit);
  one_cover = subst (λ s. AllPairs (λ one other. share_a_page s one.signature other.signature ≡ false) new.blobs) (sym fewer.page_size)
      (subst (λ b. AllPairs (λ one other. share_a_page old.page_size one.signature other.signature ≡ false) b) (sym fewer.blobs) keep.one_cover);
}

-- each file of which that is true lets do no more than itself
pub itself : (hash : Hash) (file : PlainFile) → Keep hash file → Fewer file file
itself hash file keep = record {
  page_size = refl;
  limit = refl;
  blobs = refl;
  executes = λ id page e. e;
  bytes = λ id page e. refl;
  writes = λ id page e. e;
  shared = λ id page e. refl;
  copy = λ id page e. refl;
  private_copies = keep.private_copies;
  at_hand = keep.at_hand;
  records_stand = keep.records_stand;
  few = keep.few;
}
