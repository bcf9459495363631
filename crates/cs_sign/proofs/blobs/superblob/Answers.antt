use Rattle.std.proofs.Common.{◌+◌, ◌*◌, ℕ, length, ap, arith, length-append}
use Rattle.cs_sign.proofs.BlobFacts.{length-index, length-word}
use Rattle.cs_sign.proofs.blobs.superblob.Goals as goal

pub blob-requires : goal.blob-requires
blob-requires c =
    let parts = c.args.parts.now in
    omega (arith, length-append {A = ℕ}, ap length c.deref.ensures.value, ap length c.in_ok-put_parts.ensures, ap length c.in_ok-put_index.ensures, ap length c.in_ok-put_fields.ensures, length-word (length parts), length-index (12 + 8 * length parts) parts)
