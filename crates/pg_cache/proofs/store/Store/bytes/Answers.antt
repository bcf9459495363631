use Rattle.std.proofs.Common.{◌≡◌, Some, ap, sym, ◌∙◌, subst}
use Rattle.std.specs.Option.{option_map}
use Rattle.pg_cache.specs.Held.{Held, find_held}
use Rattle.pg_cache.specs.Store.{Stored}
use Rattle.pg_cache.proofs.StoreFacts.{found_by, frame_is, in_range, holds}
use Rattle.pg_cache.proofs.store.Store.bytes.Goals as goal

pub returns-in_err-frame : goal.returns-in_err-frame
returns-in_err-frame c =
    let found = found_by _ c.self.invariant _ c.args.page c.frame_at.result c.frame_at.ensures c.deref.ensures.value in
    subst (λ (s : Stored). option_map (λ bytes. bytes.now) c.from_residual.result ≡ option_map (λ held. held.bytes) (find_held s.held c.args.page)) c.self.view_is
    (ap (option_map (λ bytes. bytes.now)) c.from_residual.ensures ∙ sym (ap (option_map (λ (held : Held). held.bytes)) (found ∙ ap (option_map _) c.in_err-frame.was)))

pub bytes-requires : goal.bytes-requires
bytes-requires c =
    let at = frame_is _ c.self.invariant _ c.args.page c.in_ok-frame.frame c.frame_at.result c.frame_at.ensures c.deref.ensures.value c.in_ok-frame.was in
    record { in_range = in_range _ c.self.invariant c.in_ok-frame.frame (holds _ c.self.invariant c.args.page c.in_ok-frame.frame at).queued }

pub returns : goal.returns
returns c =
    let found = found_by _ c.self.invariant _ c.args.page c.frame_at.result c.frame_at.ensures c.deref.ensures.value in
    subst (λ (s : Stored). Some c.bytes.result.now ≡ option_map (λ held. held.bytes) (find_held s.held c.args.page)) c.self.view_is
    (ap (λ b. Some b) c.bytes.ensures.bytes ∙ sym (ap (option_map (λ (held : Held). held.bytes)) (found ∙ ap (option_map _) c.in_ok-frame.was)))
