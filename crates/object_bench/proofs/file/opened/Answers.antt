use Rattle.std.proofs.Common.{arith, ◌≡◌, ◌<◌, ap, length, sym, subst, ◌∙◌, ℕ, Some, []}
use Rattle.pg_digest.specs.Digests.{sha_hash}
use Rattle.cs_blob.specs.Signed.{IsSignature}
use Rattle.pg_io.specs.MemPages.{MemPagerNow}
use Rattle.pg_cache.specs.Cache.{CacheNow}
use Rattle.pg_pages.specs.Pages.{PagesNow}
use Rattle.cs_policy.specs.declared.layout.Layout.{Layout}
use Rattle.cs_blob.specs.Signature.{Signature}
use Rattle.cs_blob.proofs.SignatureLaws.{signature-slice}
use Rattle.pg_plain.specs.PlainFile.{PlainFile}
use Rattle.pg_object.specs.Kept.{slice_range}
use Rattle.pg_object.proofs.AttachFacts.{accepted_signed}
use Rattle.object_bench.proofs.file.opened.Goals as goal

pub add_blob-requires-clause-room : goal.add_blob-requires-clause-room
add_blob-requires-clause-room c =
    let none = ap (λ f. length f.blobs) (c.in_ok-object.ensures.opened.plain []) in
    omega (arith, none)

pub add_blob-requires-clause-signed : goal.add_blob-requires-clause-signed
add_blob-requires-clause-signed c =
    let size : c.in_ok-object.object.pages.cache.pager.page_size ≡ 4096 =
    ap (λ (k : CacheNow). k.pager.page_size) c.in_ok-object.ensures.opened.cache
    ∙ ap (λ (p : PagesNow). p.cache.pager.page_size) c.pages.view_is
    ∙ ap (λ (p : PagesNow). p.cache.pager.page_size) c.in_ok-pages.ensures.opened
    ∙ ap (λ (k : CacheNow). k.pager.page_size) c.in_ok-open.ensures.opened
    ∙ ap (λ (m : MemPagerNow). m.page_size) c.in_ok-pager.ensures in
    subst (λ (n : ℕ). IsSignature sha_hash c.in-Ok.held.bytes c.in-Ok.held.slice (Some n) c.in-Ok.held) (sym size)
    (accepted_signed sha_hash _ _ _ _ c.in-Ok.ensures.accepted)

pub add_blob-requires-clause-slice : goal.add_blob-requires-clause-slice
add_blob-requires-clause-slice c =
    let layout : c.in_ok-object.object.layout ≡ c.in_ok-layout.field-0 = ap (λ (f : PlainFile). f.layout) (c.in_ok-object.ensures.opened.plain []) in
    ap (λ (l : Layout). slice_range l 0) layout ∙ c.in_ok-layout.ensures.slice
    ∙ ap Some (sym (ap (λ (s : Signature). s.slice) c.in-Ok.ensures.accepted.value ∙ signature-slice sha_hash _ _ _))
