use Rattle.std.proofs.Common.{arith}
use Rattle.pg_book.proofs.DrawStep.{draws_as, drew_as}
use Rattle.pg_book.proofs.steps.draw.draw_as.Goals as goal

pub fetch_add-requires : goal.fetch_add-requires
fetch_add-requires g c =
    let e = c.requires.entered in
    (c.requires.seat.same, omega (arith, c.requires.seat.words), draws_as _ _ _ _ _ _ _ _ _ _ e.0 e.1 e.2 c.requires.may c.requires.live)

pub returns : goal.returns
returns g c =
    let e = c.requires.entered in
    let f = c.fetch_add.ensures in
    let d = drew_as _ _ _ _ _ _ _ _ _ _ e.0 e.1 e.2 f.2 in
    record { same = (f.0, d.slots); drawn = d.view; floor = d.floor; sound = d.sound }
