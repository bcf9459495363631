-- A signature that is attached, or not: the call is the plain step.
use Rattle.std.proofs.Common.{◌≡◌, ℕ, ◌<◌, List, [], ◌∷◌, ◌++◌, Option, Some, None, length, refl, sym, ap, subst, ◌∙◌, arith, length-append}
use Rattle.std.specs.Prelude.{IsTrue, IsSomeAnd, find, position}
use Rattle.std.specs.Option.{option_or}
use Rattle.std.proofs.lemmas.List.Elements.{All-push}
use Rattle.pg_bytes.specs.PageSize.{IsPageSize}
use Rattle.pg_digest.specs.Kinds.{Hash}
use Rattle.cs_blob.specs.Signature.{Signature}
use Rattle.pg_bytes.specs.declared.fields.Range.{Range}
use Rattle.cs_blob.specs.Signed.{IsSignature}
use Rattle.cs_blob.proofs.SignatureLaws.{signature-bytes, signature-slice}
use Rattle.cs_policy.specs.declared.file.FileEvent.TheVariants as event
use Rattle.cs_policy.specs.declared.file.FileReply.{FileReply}
use Rattle.cs_policy.specs.declared.file.FileReply.TheVariants as reply
use Rattle.pg_regions.proofs.ListFacts.{find-append}
use Rattle.pg_plain.specs.PlainFile.{Attached}
use Rattle.pg_plain.specs.Covers.{Fits, covers, share_a_page, is_below_limit}
use Rattle.pg_plain.specs.Steps.{is_same_blob, add_blob_by}
use Rattle.pg_object.specs.Object.{ObjectNow, seen, cover_of}
use Rattle.pg_object.specs.Seals.{seal_for}
use Rattle.pg_object.specs.Kept.{IsSigned, IsKept}
use Rattle.pg_plain.proofs.FitFacts.{signed_fits}
use Rattle.pg_object.specs.Acts.{nothing_back, given_back}
use Rattle.pg_object.proofs.RoomFacts.{gains_same}
use Rattle.pg_object.proofs.KeepFacts.{keep_after}
use Rattle.pg_object.proofs.CheckedFacts.{checked_quietly}
use Rattle.pg_object.proofs.QuietFacts.{Does, Quiet, acts_quietly, room_stays}

-- ---- the call

module _ (hash : Hash) (old : ObjectNow) (kept : IsKept hash old) (slice : ℕ) (blob : Signature) (read lookup : ℕ) where
  abbrev same : Option ℕ
  same = position (is_same_blob slice blob.cdhash) old.blobs

  abbrev other : Option ℕ
  other = position (λ attached. share_a_page old.pages.cache.pager.page_size attached.signature blob) old.blobs

  abbrev Adds : FileReply → ObjectNow → Type 0
  Adds answer new = Does hash old (event.AddBlob slice blob.cdhash read lookup) (Some blob) answer new

  -- nothing is attached
  unchanged : (answer : FileReply) → ((pages : List (List ℕ)) → (answer, seen old pages) ≡ add_blob_by same other (seen old pages) slice blob) → Adds answer old
  unchanged answer step =
      let quiet : Quiet hash old (event.AddBlob slice blob.cdhash read lookup) (Some blob) answer old =
      record { same = refl; uncalled = λ pages. refl; step = step; room = room_stays old.regions; gains = gains_same (given_back answer) old.regions; untaken = λ page. refl } in
      record {
        acts = acts_quietly hash old old (event.AddBlob slice blob.cdhash read lookup) (Some blob) answer kept quiet;
        checked = checked_quietly old old (event.AddBlob slice blob.cdhash read lookup) answer refl (λ page. refl);
        unhashed = refl;
        kept = kept;
      }

  pub is_already : (place : ℕ) → same ≡ Some place → Adds (reply.Already place) old
  is_already place e = unchanged (reply.Already place) (λ pages. ap (λ (o : Option ℕ). add_blob_by o other (seen old pages) slice blob) (sym e))

  pub overlaps : (place : ℕ) → same ≡ None → other ≡ Some place → Adds (reply.Overlap place) old
  overlaps place e f =
      unchanged (reply.Overlap place) (λ pages. ap (λ (o : Option ℕ). add_blob_by None o (seen old pages) slice blob) (sym f)
      ∙ ap (λ (o : Option ℕ). add_blob_by o other (seen old pages) slice blob) (sym e))

  -- it is attached behind the others
  abbrev one : Attached
  one = record { slice = slice; signature = blob }

  abbrev with_blob : ObjectNow
  with_blob = record old { blobs = old.blobs ++ one ∷ [] }

  attach_quiet : same ≡ None → other ≡ None → Quiet hash old (event.AddBlob slice blob.cdhash read lookup) (Some blob) (reply.Attached (length old.blobs)) with_blob
  attach_quiet e f = record {
    same = refl;
    uncalled = λ pages. refl;
    step = λ pages. ap (λ (o : Option ℕ). add_blob_by None o (seen old pages) slice blob) (sym f) ∙ ap (λ (o : Option ℕ). add_blob_by o other (seen old pages) slice blob) (sym e);
    room = room_stays old.regions;
    gains = gains_same nothing_back old.regions;
    untaken = λ page. refl;
  }

  -- what covered a page covers it still
  covered_still : (page : ℕ) (P : Attached → Type 0) → IsSomeAnd (cover_of old page) P → IsSomeAnd (cover_of with_blob page) P
  covered_still page P there =
      subst (λ o. IsSomeAnd o P) (sym (find-append (λ (a : Attached). covers old.pages.cache.pager.page_size a.signature page) old.blobs (one ∷ [])))
      (by_found (cover_of old page) there)
    where
      by_found : (o : Option Attached) → IsSomeAnd o P → IsSomeAnd (option_or o (find (λ (a : Attached). covers old.pages.cache.pager.page_size a.signature page) (one ∷ []))) P
      by_found None there = absurd there
      by_found (Some a) there = there

  pub attaches : same ≡ None → other ≡ None → length old.blobs < 64 → IsPageSize old.pages.cache.pager.page_size
      → IsSignature hash blob.bytes blob.slice (Some old.pages.cache.pager.page_size) blob → Adds (reply.Attached (length old.blobs)) with_blob
  attaches e f few known signed =
      let acts = acts_quietly hash old with_blob (event.AddBlob slice blob.cdhash read lookup) (Some blob) (reply.Attached (length old.blobs)) kept (attach_quiet e f) in
      record {
        acts = acts;
        checked = checked_quietly old with_blob (event.AddBlob slice blob.cdhash read lookup) (reply.Attached (length old.blobs)) refl (λ page. refl);
        unhashed = refl;
        kept = record {
          keep = keep_after hash old with_blob (event.AddBlob slice blob.cdhash read lookup) (Some blob) (reply.Attached (length old.blobs)) kept acts
              (signed_fits hash old.pages.cache.pager.page_size blob known signed);
          sound = kept.sound;
          marked = kept.marked;
          regions_sound = kept.regions_sound;
          page = kept.page;
          seals = record {
            signed = λ page seal is. covered_still page
                (λ a. IsTrue (is_below_limit old.pages.cache.pager.page_size a.signature page) × (seal ≡ seal_for old.pages.cache.pager.page_size a.signature page)) (kept.seals.signed page seal is);
            unmapped = kept.seals.unmapped;
            unwritten = kept.seals.unwritten;
          };
          reached = kept.reached;
          laid = kept.laid;
          inside = kept.inside;
          signatures = All-push (IsSigned hash old.pages.cache.pager.page_size) old.blobs one kept.signatures signed;
          fits = All-push (λ (attached : Attached). Fits old.pages.cache.pager.page_size attached.signature) old.blobs one kept.fits
              (signed_fits hash old.pages.cache.pager.page_size blob known signed);
          few_blobs = let long = length-append old.blobs (one ∷ []) in omega arith;
        };
      }

  -- the same of blobs and a number that are these
  pub attached : (blobs : List Attached) (number : ℕ) → blobs ≡ old.blobs ++ one ∷ [] → number ≡ length old.blobs → same ≡ None → other ≡ None → length old.blobs < 64
      → IsPageSize old.pages.cache.pager.page_size → IsSignature hash blob.bytes blob.slice (Some old.pages.cache.pager.page_size) blob
      → Adds (reply.Attached number) (record old { blobs = blobs })
  attached blobs number after counted e f few known signed =
      subst (λ (l : List Attached). Adds (reply.Attached number) (record old { blobs = l })) (sym after)
      (subst (λ (n : ℕ). Adds (reply.Attached n) with_blob) (sym counted) (attaches e f few known signed))

-- ---- for callers

-- a signature that was accepted is one of its own bytes and slice
pub accepted_signed : (hash : Hash) (bytes : List ℕ) (slice : Range) (page : Option ℕ) (held : Signature) → IsSignature hash bytes slice page held → IsSignature hash held.bytes held.slice page held
accepted_signed hash bytes slice page held signed =
    subst (λ (b : List ℕ). IsSignature hash b held.slice page held) (sym (ap (λ (s : Signature). s.bytes) signed.value ∙ signature-bytes hash bytes slice page))
    (subst (λ (r : Range). IsSignature hash bytes r page held) (sym (ap (λ (s : Signature). s.slice) signed.value ∙ signature-slice hash bytes slice page)) signed)
