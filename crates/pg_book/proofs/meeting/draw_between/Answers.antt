use Rattle.std.proofs.Common.{◌≡◌, ◌≤◌, sym, ap, ◌∙◌, subst}
use Rattle.pg_book.specs.declared.view.View.{View}
use Rattle.pg_book.specs.Kinds.{note, joined, drawn}
use Rattle.pg_book.specs.Tells.{MayDraw}
use Rattle.pg_book.specs.Steps.{HasLooked}
use Rattle.pg_book.specs.Knowing.{HasDrawn}
use Rattle.pg_book.proofs.Meetings.{HasMet, met}
use Rattle.pg_book.proofs.Drawing.{may_draw, has_drawn}
use Rattle.pg_book.proofs.meeting.draw_between.Goals as goal

pub enter-stamp-requires-clause-may : goal.enter-stamp-requires-clause-may
enter-stamp-requires-clause-may g c =
    let s = c.args.spine.now.me.0 in
    let q = c.tell.new.to.me.0 in
    let m : HasMet c.args.part c.args.caller s c.args.pass.now.me.0 q = met _ _ _ _ _ c.requires.spine c.requires.pass c.tell.ensures.told in
    let is = ap (λ x. x.0) c.pass_on.ensures.to ∙ ap (λ x. joined x.0 (note q)) c.tell.ensures.from in
    subst (λ (v : View g.row.E.Denot). MayDraw v c.args.part c.args.caller) (sym is) (may_draw c.args.part c.args.caller s c.args.pass.now.me.0 q c.requires.spine c.requires.room m)

pub returns-clause-drawn : goal.returns-clause-drawn
returns-clause-drawn g c =
    let s = c.args.spine.now.me.0 in
    let p = c.args.pass.now.me.0 in
    let q = c.tell.new.to.me.0 in
    let u = c.enter-stamp.new.seat.me.0 in
    let q' = c.tell-2.new.to.me.0 in
    let s' = c.tell-3.new.to.me.0 in
    let m : HasMet c.args.part c.args.caller s p q = met _ _ _ _ _ c.requires.spine c.requires.pass c.tell.ensures.told in
    let is = ap (λ x. x.0) c.pass_on.ensures.to ∙ ap (λ x. joined x.0 (note q)) c.tell.ensures.from in
    let is_u : u ≡ drawn (joined s (note q)) c.args.part c.args.caller c.args.entry.now c.enter-stamp.result = c.enter-stamp.ensures.drawn ∙ ap (λ (v : View g.row.E.Denot). drawn v c.args.part c.args.caller c.args.entry.now c.enter-stamp.result) is in
    let low : (joined s (note q)).floor ≤ c.enter-stamp.result = subst (λ (v : View g.row.E.Denot). v.floor ≤ c.enter-stamp.result) is c.enter-stamp.ensures.floor in
    let h4 : HasLooked (joined q (note u)) q' = subst (λ (v : View g.row.E.Denot). HasLooked (joined v (note u)) q') (ap (λ x. x.0) c.pass_on.ensures.from) c.tell-2.ensures.told in
    let h5 : HasLooked (joined u (note q')) s' = subst (λ (v : View g.row.E.Denot). HasLooked (joined v (note q')) s') (ap (λ x. x.0) c.tell-2.ensures.from) c.tell-3.ensures.told in
    subst (λ (v : View g.row.E.Denot). HasDrawn c.args.part c.args.caller c.args.entry.now c.enter-stamp.result s p s' v) (sym (ap (λ x. x.0) c.tell-3.ensures.from))
    (has_drawn c.args.part c.args.caller s p q c.requires.spine c.requires.room m c.args.entry.now c.enter-stamp.result u q' s' is_u low c.enter-stamp.ensures.sound h4 h5)
