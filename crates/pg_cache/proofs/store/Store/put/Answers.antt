use Rattle.std.proofs.Common.{◌≡◌, ◌<◌, vec_len, rules, ◌+◌, ◌≤◌, ◌∙◌, length, None, ap, sym, subst}
use Rattle.std.specs.Prelude.{slice_set}
use Rattle.std.specs.Option.{option_map}
use Rattle.pg_io.specs.MemPagesLaws.{length-over}
use Rattle.pg_frames.specs.Arena.{Arena, frame_bytes}
use Rattle.pg_cache.specs.Held.{find_held, changed}
use Rattle.pg_cache.specs.Store.{Stored, IsStored, stored_of, overwritten}
use Rattle.pg_cache.proofs.StoreFacts.{found_by, frame_is, in_range, in_cards, holds, whole_frame, put_stored, put_seen, changed_none}
use Rattle.pg_cache.proofs.store.Store.put.Goals as goal

pub put_in-requires-clause-in_range : goal.put_in-requires-clause-in_range
put_in-requires-clause-in_range c =
    let at = frame_is _ c.self.invariant _ c.args.page c.in-Some.frame c.frame_at.result c.frame_at.ensures c.deref.ensures.value c.in-Some.is in
    in_range _ c.self.invariant c.in-Some.frame (holds _ c.self.invariant c.args.page c.in-Some.frame at).queued

pub index_mut-requires : goal.index_mut-requires
index_mut-requires c =
    let at = frame_is _ c.self.invariant _ c.args.page c.in-Some.frame c.frame_at.result c.frame_at.ensures c.deref.ensures.value c.in-Some.is in
    let long : vec_len c.self.inside.cards ≡ length c.self.inside.cards.items = search rules in
    subst (λ n. c.in-Some.frame < n) (sym long) (in_cards _ c.self.invariant c.in-Some.frame (in_range _ c.self.invariant c.in-Some.frame (holds _ c.self.invariant c.args.page c.in-Some.frame at).queued))

pub invariant_of-self : goal.invariant_of-self
invariant_of-self c =
    let at = frame_is _ c.self.invariant _ c.args.page c.in-Some.frame c.frame_at.result c.frame_at.ensures c.deref.ensures.value c.in-Some.is in
    let inside = in_range _ c.self.invariant c.in-Some.frame (holds _ c.self.invariant c.args.page c.in-Some.frame at).queued in
    let i = c.self.inside in
    let whole = whole_frame i.arena c.in-Some.frame c.self.invariant.sound inside in
    let fits = subst (λ (s : Stored). c.args.at + length c.args.bytes.now ≤ s.page_size) (sym c.self.view_is) c.requires in
    let long = length-over (frame_bytes i.arena c.in-Some.frame) c.args.bytes.now c.args.at (subst (λ n. c.args.at + length c.args.bytes.now ≤ n) (sym whole) fits) ∙ whole in
    subst (λ (a : Arena). IsStored (record { arena = a; cards = slice_set i.cards.items c.in-Some.frame (record { page = c.args.page; dirty = c.args.dirty }); table = i.table.items; spare = i.spare; used = i.used; limit = i.limit })) (sym c.put_in.ensures)
    (put_stored _ c.self.invariant c.args.page c.in-Some.frame c.args.at c.args.bytes.now c.args.dirty at long)

pub returns-in-Some : goal.returns-in-Some
returns-in-Some c =
    let at = frame_is _ c.self.invariant _ c.args.page c.in-Some.frame c.frame_at.result c.frame_at.ensures c.deref.ensures.value c.in-Some.is in
    let i = c.self.inside in
    ap (λ (a : Arena). stored_of (record { arena = a; cards = slice_set i.cards.items c.in-Some.frame (record { page = c.args.page; dirty = c.args.dirty }); table = i.table.items; spare = i.spare; used = i.used; limit = i.limit })) c.put_in.ensures
    ∙ put_seen _ c.self.invariant c.args.page c.in-Some.frame c.args.at c.args.bytes.now c.args.dirty at
    ∙ ap (λ (s : Stored). record s { held = changed (overwritten c.args.at c.args.bytes.now c.args.dirty) s.held c.args.page }) c.self.view_is

pub returns-in_default : goal.returns-in_default
returns-in_default c =
    let found = found_by _ c.self.invariant _ c.args.page c.frame_at.result c.frame_at.ensures c.deref.ensures.value ∙ ap (option_map _) c.in_default.is in
    changed_none c.args.self.now (overwritten c.args.at c.args.bytes.now c.args.dirty) c.args.page (subst (λ (s : Stored). find_held s.held c.args.page ≡ None) c.self.view_is found)
