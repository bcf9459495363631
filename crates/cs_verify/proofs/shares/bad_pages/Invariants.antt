use Rattle.std.proofs.Common.{◌≡◌, take}
use Rattle.pg_digest.specs.Digests.{sha_hash}
use Rattle.cs_verify.specs.Pages.{pages_of, bad_between}
use Rattle.cs_verify.specs.Shares.{share_start}
use Rattle.cs_verify.proofs.shares.bad_pages.Given as goal

abbrev pub invariant-loop-share : goal.invariant-loop-share
invariant-loop-share g l =
    l.bad.items ≡ bad_between sha_hash l.directory l.directory_bytes (take l.directory.limit l.image) 0 (share_start (pages_of l.directory) l.count l.share-index)
