use Rattle.std.proofs.Common.{◌≡◌, ◌<◌, ◌++◌, ◌∙◌, List, length, get_or, Ok, ap, sym, arith}
use Rattle.pg_digest.specs.Digests.{sha_hash}
use Rattle.cs_verify.specs.declared.report.BadPage.{BadPage}
use Rattle.cs_verify.specs.Pages.{bad_pages}
use Rattle.cs_verify.proofs.ShareFacts.{none_before, share_next, shares_all}
use Rattle.cs_verify.proofs.shares.bad_pages.Goals as goal

pub loop-share-init : goal.loop-share-init
loop-share-init g c = c.new-bad.ensures.items ∙ none_before sha_hash c.args.directory.now c.args.directory_bytes.now _ c.share_count-count.result

pub loop-share-preserved : goal.loop-share-preserved
loop-share-preserved g c =
    let i = c.loop-share.share-index in
    let below : i < c.share_count-count.result = omega (arith, ap length c.deref-share-items.ensures.value, c.in_ok-shares.ensures.count) in
    let item : get_or c.in_ok-shares.shares.items i c.share-item.result ≡ Ok c.in-Ok.found = rw c.deref-share-items.ensures.value at (sym c.share-item.is ∙ c.in-Ok.is) in
    let found = rw (item, c.limit.ensures) at (c.in_ok-shares.ensures.each i c.share-item.result below) in
    share_next sha_hash c.args.directory.now c.args.directory_bytes.now _ c.share_count-count.result i _ _ _ c.loop-share.invariant found
    (c.in_ok-extend_from_slice.ensures.items ∙ ap (λ (more : List BadPage). c.loop-share.bad.items ++ more) c.deref.ensures.value)

pub returns : goal.returns
unfolding bad_pages
returns g c =
    let all : c.loop-share.share-index ≡ c.share_count-count.result = omega (arith, ap length c.deref-share-items.ensures.value, c.in_ok-shares.ensures.count) in
    shares_all sha_hash c.args.directory.now c.args.directory_bytes.now _ c.share_count-count.result _ _ c.share_count-count.ensures.some all c.loop-share.invariant
