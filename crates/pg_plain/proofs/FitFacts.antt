-- A signature that is accepted for pages of a size fits them.
use Rattle.std.proofs.Common.{◌≡◌, ◌⊎◌, ℕ, Some, ◌/◌, ◌<◌, ◌≤◌, sym, subst, arith, inl, inr}
use Rattle.pg_bytes.specs.PageSize.{IsPageSize}
use Rattle.pg_bytes.proofs.PageSizeFacts.{page_sizes}
use Rattle.pg_digest.specs.Kinds.{Hash}
use Rattle.cs_directory.specs.declared.hash_page.HashPage.{HashPage}
use Rattle.cs_directory.specs.declared.hash_page.HashPage.TheVariants.{Small, Large}
use Rattle.cs_directory.specs.HashPages.{bytes_of}
use Rattle.cs_blob.specs.Signature.{Signature}
use Rattle.cs_blob.specs.Signed.{IsSignature}
use Rattle.cs_blob.proofs.SignatureLaws.{page-within, slice-aligned, page-divided}
use Rattle.pg_plain.specs.Covers.{Fits}

some_parts : (page : HashPage) (size : ℕ) → (size ≡ 4096) ⊎ (size ≡ 16384) → bytes_of page ≤ size → 0 < size / bytes_of page
some_parts Small size (inl e) within = rw e (omega arith)
some_parts Small size (inr e) within = rw e (omega arith)
some_parts Large size (inl e) within = absurd (omega arith)
some_parts Large size (inr e) within = rw e (omega arith)

pub signed_fits : (hash : Hash) (size : ℕ) (blob : Signature) → IsPageSize size → IsSignature hash blob.bytes blob.slice (Some size) blob → Fits size blob
signed_fits hash size blob known signed =
    let within : bytes_of blob.best.page ≤ size = subst (λ (b : Signature). bytes_of b.best.page ≤ size) (sym signed.value) (page-within hash blob.bytes blob.slice size signed.unbroken) in
    record {
      aligned = slice-aligned hash blob.bytes blob.slice size signed.unbroken;
      divided = page-divided blob.best.page size known within;
      within = some_parts blob.best.page size (page_sizes size known) within;
    }
