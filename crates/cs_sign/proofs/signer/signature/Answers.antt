use Rattle.std.proofs.Common.{◌≡◌, ap, ◌∙◌, arith}
use Rattle.std.proofs.lemmas.Result.{IfOk-weaker}
use Rattle.cs_sign.specs.Blobs.{superblob}
use Rattle.cs_sign.specs.Signed.{parts_with, signature}
use Rattle.cs_sign.proofs.SizeFacts.{parts_joined, parts_short}
use Rattle.cs_sign.proofs.signer.signature.Goals as goal

pub superblob-requires : goal.superblob-requires
superblob-requires g c =
    let all : c.deref-2.result.now ≡ parts_with g.D.Digester.hash c.args.request.now c.args.plan.now c.args.body.now =
    parts_joined g.D.Digester.hash c.args.request.now c.args.plan.now c.args.body.now _ _ _ _ _ c.in_ok-parts.ensures c.deref.ensures.value c.in_ok-directory.ensures c.new.ensures (c.deref-2.ensures.value ∙ c.in_ok-insert.ensures.items) in
    let short = parts_short g.D.Digester.hash g.met.D.Digester.sized c.args.request.now c.args.plan.now c.args.body.now c.deref-2.result.now c.requires.limit c.requires.sized all in
    omega arith

pub returns : goal.returns
unfolding signature
returns g c =
    let all : c.deref-2.result.now ≡ parts_with g.D.Digester.hash c.args.request.now c.args.plan.now c.args.body.now =
    parts_joined g.D.Digester.hash c.args.request.now c.args.plan.now c.args.body.now _ _ _ _ _ c.in_ok-parts.ensures c.deref.ensures.value c.in_ok-directory.ensures c.new.ensures (c.deref-2.ensures.value ∙ c.in_ok-insert.ensures.items) in
    IfOk-weaker c.superblob.result _ _ (λ made is. is ∙ ap superblob all) c.superblob.ensures
