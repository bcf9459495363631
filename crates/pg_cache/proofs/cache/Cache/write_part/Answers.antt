use Rattle.std.proofs.Common.{◌+◌, ◌<◌, ◌≤◌, ◌∙◌, List, ℕ, false, Some, ap, sym, subst, length}
use Rattle.std.specs.Prelude.{IsSome}
use Rattle.pg_io.specs.PageBytes.{written_over}
use Rattle.pg_io.specs.MemPagesLaws.{length-over}
use Rattle.pg_cache.specs.Held.{Held, changed, cleaned}
use Rattle.pg_cache.specs.Cache.{CacheNow, at_hand}
use Rattle.pg_cache.specs.Store.{Stored}
use Rattle.pg_cache.specs.Buffers.{cache_of, HasBuffers}
use Rattle.pg_cache.proofs.StepFacts.{write_as}
use Rattle.pg_cache.proofs.BufferFacts.{hand_bytes, whole_seat, changed_part, kept_unwritten, kept_written, through_part}
use Rattle.pg_cache.proofs.cache.Cache.write_part.Goals as goal

pub send-requires-clause-whole : goal.send-requires-clause-whole
send-requires-clause-whole g c =
    let old_long = ap length c.seat-whole.ensures ∙ whole_seat _ _ c.args.page _ c.self.invariant.sized.whole c.self.invariant.spare_whole in
    old_long ∙ sym c.self.invariant.buffer_whole

pub invariant_of-self : goal.invariant_of-self
invariant_of-self g c =
    let old_long = ap length c.seat-whole.ensures ∙ whole_seat _ _ c.args.page _ c.self.invariant.sized.whole c.self.invariant.spare_whole in
    let fits = subst (λ (v : CacheNow). c.args.at + length c.args.bytes.now ≤ v.pager.page_size) (sym c.self.view_is) c.requires.fits in
    let long = length-over c.seat-whole.result.now c.args.bytes.now c.args.at (subst (λ n. c.args.at + length c.args.bytes.now ≤ n) (sym old_long) fits) ∙ old_long in
    let failed = sym c.is_err.ensures.value ∙ c.if-is_err.true in
    kept_unwritten _ _ _ _ c.self.invariant c.args.page _ _ _ (write_as _ _ _ _ _ _ failed c.send.ensures.write) long c.send.ensures.buffer

pub invariant_of-self-2 : goal.invariant_of-self-2
invariant_of-self-2 g c =
    let i = c.self.inside in
    let old_long = ap length c.seat-whole.ensures ∙ whole_seat _ _ c.args.page _ c.self.invariant.sized.whole c.self.invariant.spare_whole in
    let fits = subst (λ (v : CacheNow). c.args.at + length c.args.bytes.now ≤ v.pager.page_size) (sym c.self.view_is) c.requires.fits in
    let long = length-over c.seat-whole.result.now c.args.bytes.now c.args.at (subst (λ n. c.args.at + length c.args.bytes.now ≤ n) (sym old_long) fits) ∙ old_long in
    let done = sym c.is_err.ensures.value ∙ c.if-is_err.false in
    let piece = changed_part i.store.held c.args.page c.args.at c.args.bytes.now i.store.spare.bytes in
    let whole = ap (λ (b : List ℕ). changed (cleaned (written_over b c.args.at c.args.bytes.now)) i.store.held c.args.page) (sym c.seat-whole.ensures) in
    let put = c.put.ensures ∙ ap (λ (l : List Held). record i.store { held = l }) (piece ∙ whole) in
    let inside = subst (λ (v : CacheNow). c.args.page < v.pager.pages) (sym c.self.view_is) c.requires.inside in
    subst (λ (s : Stored). HasBuffers s c.send.new.buffer false (g.P.Pager.shows c.send.new.pager)) (sym put)
    (kept_written _ _ _ _ c.self.invariant c.args.page _ _ _ inside (write_as _ _ _ _ _ _ done c.send.ensures.write) long c.send.ensures.buffer)

pub returns-clause-writes : goal.returns-clause-writes
returns-clause-writes g c =
    let i = c.self.inside in
    let done = sym c.is_err.ensures.value ∙ c.if-is_err.false in
    let piece = changed_part i.store.held c.args.page c.args.at c.args.bytes.now i.store.spare.bytes in
    let whole = ap (λ (b : List ℕ). changed (cleaned (written_over b c.args.at c.args.bytes.now)) i.store.held c.args.page) (sym c.seat-whole.ensures) in
    let put = c.put.ensures ∙ ap (λ (l : List Held). record i.store { held = l }) (piece ∙ whole) in
    let hand = subst (λ (v : CacheNow). IsSome (at_hand v c.args.page)) (sym c.self.view_is) c.requires.at_hand in
    let seat = hand_bytes i.store i.has_spare (g.P.Pager.shows i.pager) c.args.page hand ∙ ap (λ (b : List ℕ). Some b) (sym c.seat-whole.ensures) in
    through_part _ _ _ c.args.page c.args.at c.seat-whole.result.now c.args.bytes.now c.self.view_is seat (write_as _ _ _ _ _ _ done c.send.ensures.write)
    (ap (λ (s : Stored). cache_of s false (g.P.Pager.shows c.send.new.pager)) put)
