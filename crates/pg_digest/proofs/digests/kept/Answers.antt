use Rattle.std.proofs.Common.{◌≡◌, ℕ, ◌-◌, length, drop, replicate}
use Rattle.std.proofs.lemmas.List.{drop-replicate}
use Rattle.pg_digest.specs.RoomLaws.{padded-IsPadded}
use Rattle.pg_digest.proofs.digests.kept.Goals as goal

-- what is behind the bytes that were copied is still zeros
pub invariant_of-result : goal.invariant_of-result
invariant_of-result c =
    let bytes = c.args.bytes.now in
    let rest : drop {A = ℕ} (length bytes) (replicate 48 0) ≡ replicate (48 - length bytes) 0 =
    drop-replicate _ _ 0 in
    rw (c.copy_from_slice.ensures.after, rest) (padded-IsPadded bytes c.requires)
