use Rattle.std.proofs.Common.{ℕ, Some, ap, subst, sym, ◌∙◌}
use Rattle.cs_blob.specs.Signature.{Signature}
use Rattle.cs_blob.proofs.SignatureLaws.{signature-slice}
use Rattle.pg_digest.specs.Digests.{sha_hash}
use Rattle.cs_blob.specs.Signed.{IsSignature}
use Rattle.pg_object.specs.Object.{ObjectNow}
use Rattle.pg_object.proofs.AttachFacts.{accepted_signed}
use Rattle.pg_object.proofs.trial.attach.Goals as goal

pub add_blob-requires-clause-signed : goal.add_blob-requires-clause-signed
add_blob-requires-clause-signed c =
    subst (λ (n : ℕ). IsSignature sha_hash c.in-Ok.held.bytes c.in-Ok.held.slice (Some n) c.in-Ok.held)
    (c.page_size-size.ensures.size ∙ ap (λ (o : ObjectNow). o.pages.cache.pager.page_size) c.object.view_is)
    (accepted_signed sha_hash _ _ _ _ c.in-Ok.ensures.accepted)

pub add_blob-requires-clause-slice : goal.add_blob-requires-clause-slice
add_blob-requires-clause-slice c =
    c.in_ok-range.ensures ∙ ap Some (sym (ap (λ (s : Signature). s.slice) c.in-Ok.ensures.accepted.value ∙ signature-slice sha_hash _ _ _))
