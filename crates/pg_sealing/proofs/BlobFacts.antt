-- Which signature an event attaches, and what is attached after it.
use Rattle.std.proofs.Common.{◌≡◌, ◌⊎◌, ℕ, Bool, true, false, List, Option, Some, None, refl, sym, ap, subst, ◌∙◌, arith, inl, inr}
use Rattle.std.specs.Prelude.{position, slice_get}
use Rattle.std.proofs.lemmas.Grind.{common_steps}
use Rattle.pg_bytes.specs.PageSize.{IsPageSize}
use Rattle.pg_bytes.specs.declared.fields.Range.{Range}
use Rattle.pg_digest.specs.Kinds.{Hash}
use Rattle.cs_policy.specs.declared.layout.Layout.{Layout}
use Rattle.cs_policy.specs.declared.layout.Layout.TheVariants as layout
use Rattle.cs_policy.specs.declared.file.FileEvent.{FileEvent}
use Rattle.cs_policy.specs.declared.file.FileEvent.TheVariants as event
use Rattle.cs_policy.specs.declared.file.FileReply.TheVariants as reply
use Rattle.cs_policy.specs.ProcFlags.{guarded}
use Rattle.cs_blob.specs.Rules.{broken}
use Rattle.cs_blob.specs.Signature.{Signature}
use Rattle.cs_blob.specs.Signed.{signature, IsSignature}
use Rattle.cs_blob.proofs.SignatureLaws.{signature-bytes, signature-slice, IsSignature-unbroken}
use Rattle.pg_plain.specs.PlainFile.{Attached, PlainFile}
use Rattle.pg_plain.specs.Covers.{share_a_page, Fits}
use Rattle.pg_plain.specs.Calls.{seat_of}
use Rattle.pg_plain.specs.Steps.{is_same_blob, add_blob_by, file_step}
use Rattle.pg_plain.proofs.FitFacts.{signed_fits}
use Rattle.pg_history.specs.Machine.{FilePart, Reading, reading_at, signed_range, signature_read, blob_of}
use Rattle.pg_history.specs.Opening.{seat_in}
use Rattle.pg_history.proofs.ListFacts.{get-last}
use Rattle.pg_sealing.proofs.StepCases.{step_leaves}
use Rattle.pg_sealing.proofs.FileFacts.{given_blobs}

-- the slice of a number, by the layout
pub seat_is : (file : PlainFile) (slice : ℕ) → seat_of file slice ≡ seat_in slice file.layout
seat_is file slice = by_layout file.layout refl
  where
    by_layout : (l : Layout) → file.layout ≡ l → seat_of file slice ≡ seat_in slice l
    by_layout (layout.Slices seats) e = rw e refl
    by_layout (layout.Refused refusal) e = rw e refl

-- the signature that an AddBlob attaches, where its bytes and its slice are known
pub blob_is : (hash : Hash) (part : FilePart) (slice : ℕ) (cdhash : List ℕ) (read lookup : ℕ) (reading : Reading) (range : Range)
    → reading_at part.readings read ≡ Some reading → signed_range (seat_in slice part.file.layout) ≡ Some range
    → blob_of hash part (event.AddBlob slice cdhash read lookup) ≡ Some (signature hash reading.bytes range (Some part.file.page_size))
blob_is hash part slice cdhash read lookup reading range found there =
    ap (λ r. signature_read hash part.file.page_size r (signed_range (seat_of part.file slice))) found
    ∙ ap (λ seat. signature_read hash part.file.page_size (Some reading) (signed_range seat)) (seat_is part.file slice)
    ∙ ap (λ r. signature_read hash part.file.page_size (Some reading) r) there

pub unbroken_fits : (hash : Hash) (bytes : List ℕ) (range : Range) (size : ℕ) → IsPageSize size → broken hash bytes range (Some size) ≡ None
    → Fits size (signature hash bytes range (Some size))
unbroken_fits hash bytes range size known unbroken =
    signed_fits hash size (signature hash bytes range (Some size)) known
    (subst (λ b. IsSignature hash b (signature hash bytes range (Some size)).slice (Some size) (signature hash bytes range (Some size))) (sym (signature-bytes hash bytes range (Some size)))
    (subst (λ s. IsSignature hash bytes s (Some size) (signature hash bytes range (Some size))) (sym (signature-slice hash bytes range (Some size)))
    (IsSignature-unbroken hash bytes range (Some size) unbroken)))

-- ---- what is attached after an event

abbrev no_blob : FileEvent → Bool
no_blob (event.AddBlob slice cdhash read lookup) = false
no_blob e = true

clash : {X : Type 0} (e f : FileEvent) → no_blob e ≡ true → e ≡ f → no_blob f ≡ false → X
clash e f quiet is other = absurd (grind (arith, common_steps, quiet, ap no_blob is, other))

-- this signature is attached with this number, by the reply
pub record Attaches (hash : Hash) (file : PlainFile) (e : FileEvent) (blob : Option Signature) (outcome : ℕ) (k : ℕ) (attached : Attached) : Type 0 where
  pub slice : ℕ
  pub cdhash : List ℕ
  pub read : ℕ
  pub lookup : ℕ
  pub is : e ≡ event.AddBlob slice cdhash read lookup
  pub same : attached.slice ≡ slice
  pub given : blob ≡ Some attached.signature
  pub reply : (file_step hash file e blob outcome).0 ≡ reply.Attached k

blobs_given : (hash : Hash) (file : PlainFile) (e : FileEvent) (blob : Option Signature) (outcome : ℕ) → no_blob e ≡ true → (file_step hash file e blob outcome).1.blobs ≡ file.blobs
blobs_given hash file e blob outcome quiet = step_leaves hash file (λ new. new.blobs ≡ file.blobs) e blob outcome (record {
  itself = refl;
  attached = λ slice cdhash read lookup number b is. clash e (event.AddBlob slice cdhash read lookup) quiet is refl;
  written_over = λ at piece bytes is. refl;
  mapped = λ region insert is. refl;
  dropped = λ id is. refl;
  dropped_all = λ pid is. refl;
  given = λ id page access flags resolve region is found. given_blobs region page access (guarded flags) file;
  stored_copy = λ id page at bytes resolve is. refl;
  stored_page = λ id page at bytes resolve is. refl;
  left = λ page is. refl;
})

module _ (hash : Hash) (file : PlainFile) (outcome : ℕ) (slice : ℕ) (cdhash : List ℕ) (read lookup : ℕ) where
  -- an attached signature stood before, or is the new one
  by_places : (blob : Signature) (same other : Option ℕ) (k : ℕ) (attached : Attached) → slice_get (add_blob_by same other file slice blob).1.blobs k ≡ Some attached
      → (slice_get file.blobs k ≡ Some attached) ⊎ (((add_blob_by same other file slice blob).0 ≡ reply.Attached k) × (attached.slice ≡ slice) × (Some blob ≡ Some attached.signature))
  by_places blob (Some same) other k attached there = inl there
  by_places blob None (Some other) k attached there = inl there
  by_places blob None None k attached there = elim (get-last file.blobs (record { slice = slice; signature = blob }) attached k there) [
    | inl old ↦ inl old
    | inr last ↦ inr (ap (λ n. reply.Attached n) (sym last.0), sym (ap (λ (a : Attached). a.slice) last.1), ap (λ (a : Attached). Some a.signature) last.1)
  ]

  by_blob : (blob : Option Signature) (k : ℕ) (attached : Attached) → slice_get (file_step hash file (event.AddBlob slice cdhash read lookup) blob outcome).1.blobs k ≡ Some attached
      → (slice_get file.blobs k ≡ Some attached) ⊎ Attaches hash file (event.AddBlob slice cdhash read lookup) blob outcome k attached
  by_blob None k attached there = inl there
  by_blob (Some blob) k attached there =
      elim (by_places blob (position (is_same_blob slice cdhash) file.blobs) (position (λ a. share_a_page file.page_size a.signature blob) file.blobs) k attached there) [
        | inl old ↦ inl old
        | inr new ↦ inr (record { slice = slice; cdhash = cdhash; read = read; lookup = lookup; is = refl; same = new.1; given = new.2; reply = new.0 })
      ]

pub step_blobs : (hash : Hash) (file : PlainFile) (e : FileEvent) (blob : Option Signature) (outcome : ℕ) (k : ℕ) (attached : Attached)
    → slice_get (file_step hash file e blob outcome).1.blobs k ≡ Some attached → (slice_get file.blobs k ≡ Some attached) ⊎ Attaches hash file e blob outcome k attached
step_blobs hash file (event.AddBlob slice cdhash read lookup) blob outcome k attached there = by_blob hash file outcome slice cdhash read lookup blob k attached there
step_blobs hash file (event.ReadSignature slice) blob outcome k attached there = inl there
step_blobs hash file (event.RefuseBlob read refusal) blob outcome k attached there = inl there
step_blobs hash file (event.Write at piece) blob outcome k attached there = inl (ap (λ (bs : List Attached). slice_get bs k) (sym (blobs_given hash file (event.Write at piece) blob outcome refl)) ∙ there)
step_blobs hash file (event.AddRegion region insert) blob outcome k attached there = inl (ap (λ (bs : List Attached). slice_get bs k) (sym (blobs_given hash file (event.AddRegion region insert) blob outcome refl)) ∙ there)
step_blobs hash file (event.DropRegion id) blob outcome k attached there = inl (ap (λ (bs : List Attached). slice_get bs k) (sym (blobs_given hash file (event.DropRegion id) blob outcome refl)) ∙ there)
step_blobs hash file (event.DropPid pid) blob outcome k attached there = inl there
step_blobs hash file (event.Enter id page access flags resolve) blob outcome k attached there =
    inl (ap (λ (bs : List Attached). slice_get bs k) (sym (blobs_given hash file (event.Enter id page access flags resolve) blob outcome refl)) ∙ there)
step_blobs hash file (event.Store id page at bytes resolve) blob outcome k attached there =
    inl (ap (λ (bs : List Attached). slice_get bs k) (sym (blobs_given hash file (event.Store id page at bytes resolve) blob outcome refl)) ∙ there)
step_blobs hash file (event.Load id page at count resolve) blob outcome k attached there =
    inl (ap (λ (bs : List Attached). slice_get bs k) (sym (blobs_given hash file (event.Load id page at count resolve) blob outcome refl)) ∙ there)
step_blobs hash file (event.Fetch id page at count resolve) blob outcome k attached there =
    inl (ap (λ (bs : List Attached). slice_get bs k) (sym (blobs_given hash file (event.Fetch id page at count resolve) blob outcome refl)) ∙ there)
step_blobs hash file (event.Evict page) blob outcome k attached there = inl (ap (λ (bs : List Attached). slice_get bs k) (sym (blobs_given hash file (event.Evict page) blob outcome refl)) ∙ there)
