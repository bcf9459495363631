use Rattle.std.proofs.Common.{◌≡◌, ◌+◌, ℕ, List, length, refl, ap, ◌∙◌, None, arith}
use Rattle.std.proofs.lemmas.Result.{err_from_is_err_and}
use Rattle.macho_cmds.specs.Layout.{commands_end}
use Rattle.cs_sign.specs.Requests.{asked}
use Rattle.cs_sign.specs.Signed.{signature}
use Rattle.cs_sign.proofs.RoomFacts.{header-whole, broken-by_image, broken-by_own, own-along, image-is, room-along, signed-joined, signed-within, length-body}
use Rattle.cs_sign.proofs.VerifiedFacts.{verified-along}
use Rattle.cs_sign.proofs.signer.sign.Goals as goal

pub returns-in_err-image-clause-refused : goal.returns-in_err-image-clause-refused
returns-in_err-image-clause-refused g c =
    let exit = err_from_is_err_and c.from_residual.result c.from_residual.ensures.1 in
    rw (exit.1, exit.2) (broken-by_image c.args.bytes.now (asked c.args.ident.now c.args.entitlements c.args.page) _ c.in_err-image.ensures.refused)

pub le32_at-requires : goal.le32_at-requires
le32_at-requires g c = omega (arith, header-whole c.args.bytes.now c.in_ok-image.ensures.accepted.unbroken)

pub returns-in_err-plan-clause-refused : goal.returns-in_err-plan-clause-refused
returns-in_err-plan-clause-refused g c =
    let bytes = c.args.bytes.now in
    let request = asked c.args.ident.now c.args.entitlements c.args.page in
    let exit = err_from_is_err_and c.from_residual-in_err-plan.result c.from_residual-in_err-plan.ensures.1 in
    let is = image-is bytes c.in_ok-image.image c.in_ok-image.ensures.accepted.says in
    let ends : 32 + c.from-commands_end.result ≡ commands_end bytes = ap (λ (n : ℕ). 32 + n) (c.from-commands_end.ensures ∙ c.le32_at.ensures) in
    let own = own-along bytes request c.new-request.result c.in_ok-image.image _ _ is ends c.new-request.ensures c.in_err-plan.ensures.tries in
    rw (exit.1, exit.2) (broken-by_own bytes request _ _ _ c.in_ok-image.ensures.accepted.unbroken refl refl own)

pub body-requires-clause-room : goal.body-requires-clause-room
body-requires-clause-room g c =
    let bytes = c.args.bytes.now in
    let request = asked c.args.ident.now c.args.entitlements c.args.page in
    let is = image-is bytes c.in_ok-image.image c.in_ok-image.ensures.accepted.says in
    let ends : 32 + c.from-commands_end.result ≡ commands_end bytes = ap (λ (n : ℕ). 32 + n) (c.from-commands_end.ensures ∙ c.le32_at.ensures) in
    let own = own-along bytes request c.new-request.result c.in_ok-image.image _ None is ends c.new-request.ensures c.in_ok-plan.ensures.tries in
    room-along bytes request c.in_ok-image.image c.in_ok-plan.plan c.in_ok-image.ensures.accepted.unbroken is c.in_ok-image.ensures.inside.sig c.in_ok-plan.ensures.plan own

pub signature-requires-clause-limit : goal.signature-requires-clause-limit
signature-requires-clause-limit g c =
    let bytes = c.args.bytes.now in
    let request = asked c.args.ident.now c.args.entitlements c.args.page in
    let is = image-is bytes c.in_ok-image.image c.in_ok-image.ensures.accepted.says in
    let ends : 32 + c.from-commands_end.result ≡ commands_end bytes = ap (λ (n : ℕ). 32 + n) (c.from-commands_end.ensures ∙ c.le32_at.ensures) in
    let own = own-along bytes request c.new-request.result c.in_ok-image.image _ None is ends c.new-request.ensures c.in_ok-plan.ensures.tries in
    let room = room-along bytes request c.in_ok-image.image c.in_ok-plan.plan c.in_ok-image.ensures.accepted.unbroken is c.in_ok-image.ensures.inside.sig c.in_ok-plan.ensures.plan own in
    ap length (c.deref.ensures.value ∙ c.in_ok-made.ensures) ∙ length-body bytes c.in_ok-plan.plan c.data_size-size.result room

pub returns-clause-signed : goal.returns-clause-signed
returns-clause-signed g c =
    let bytes = c.args.bytes.now in
    let request = asked c.args.ident.now c.args.entitlements c.args.page in
    let is = image-is bytes c.in_ok-image.image c.in_ok-image.ensures.accepted.says in
    let ends : 32 + c.from-commands_end.result ≡ commands_end bytes = ap (λ (n : ℕ). 32 + n) (c.from-commands_end.ensures ∙ c.le32_at.ensures) in
    let own = own-along bytes request c.new-request.result c.in_ok-image.image _ None is ends c.new-request.ensures c.in_ok-plan.ensures.tries in
    let room = room-along bytes request c.in_ok-image.image c.in_ok-plan.plan c.in_ok-image.ensures.accepted.unbroken is c.in_ok-image.ensures.inside.sig c.in_ok-plan.ensures.plan own in
    let long : c.extend_from_slice.new.self.len ≡ length c.extend_from_slice.new.self.items = omega (arith, c.extend_from_slice.new.self.ok.0) in
    let held : c.deref-2.result.now ≡ signature g.D.Digester.hash c.new-request.result c.in_ok-plan.plan c.in_ok-made.made.items =
    c.deref-2.ensures.value ∙ c.in_ok-signature.ensures ∙ ap (λ (signed : List ℕ). signature g.D.Digester.hash c.new-request.result c.in_ok-plan.plan signed) c.deref.ensures.value in
    record {
      unbroken = broken-by_own bytes request _ _ None c.in_ok-image.ensures.accepted.unbroken refl refl own;
      value = signed-joined g.D.Digester.hash g.met.D.Digester.sized bytes request c.new-request.result c.in_ok-image.image c.in_ok-plan.plan c.data_size-size.result _ _ _ _ _
          room c.in_ok-plan.ensures.sized is c.in_ok-plan.ensures.plan c.new-request.ensures c.data_size-size.ensures.size c.in_ok-made.ensures held c.in_ok-extend_from_slice.ensures.items long c.in_ok-resize.ensures.items;
    }

pub returns-clause-verified : goal.returns-clause-verified
returns-clause-verified g c =
    let bytes = c.args.bytes.now in
    let request = asked c.args.ident.now c.args.entitlements c.args.page in
    let is = image-is bytes c.in_ok-image.image c.in_ok-image.ensures.accepted.says in
    let ends : 32 + c.from-commands_end.result ≡ commands_end bytes = ap (λ (n : ℕ). 32 + n) (c.from-commands_end.ensures ∙ c.le32_at.ensures) in
    let own = own-along bytes request c.new-request.result c.in_ok-image.image _ None is ends c.new-request.ensures c.in_ok-plan.ensures.tries in
    let made = returns-clause-signed g c in
    verified-along g.D.Digester.hash g.met.D.Digester.sized bytes request c.new-request.result c.in_ok-image.image c.in_ok-plan.plan _ c.in_ok-image.ensures.accepted.unbroken own is c.in_ok-image.ensures.inside.sig c.in_ok-plan.ensures.plan c.new-request.ensures c.in_ok-plan.ensures.sized made.value

pub returns-clause-within : goal.returns-clause-within
returns-clause-within g c =
    let long : c.extend_from_slice.new.self.len ≡ length c.extend_from_slice.new.self.items = omega (arith, c.extend_from_slice.new.self.ok.0) in
    signed-within c.new-request.result c.in_ok-plan.plan.limit c.data_size-size.result _ _ _ c.in_ok-plan.ensures.sized c.data_size-size.ensures.size long c.in_ok-resize.ensures.items
