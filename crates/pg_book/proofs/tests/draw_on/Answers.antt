use Rattle.std.proofs.Common.{◌<◌, length, arith}
use Rattle.pg_book.proofs.Trials.{same_book, may_run, runs_on}
use Rattle.pg_book.proofs.tests.draw_on.Goals as goal

pub draw-requires-clause-same_book : goal.draw-requires-clause-same_book
draw-requires-clause-same_book c =
    let a : c.args.draw.0 < length c.args.spines.now.items = omega (arith, c.requires.part, c.args.spines.now.ok) in
    let b : c.args.draw.1 < length c.args.passes.now.items = omega (arith, c.requires.caller, c.args.passes.now.ok) in
    same_book c.args.book.now c.args.used c.args.spines.now.items c.args.passes.now.items c.requires.run c.requires.room c.args.draw.0 c.args.draw.1 a b _ _ c.index_mut-spine.ensures.value c.index_mut-pass.ensures.value

pub draw-requires-clause-room : goal.draw-requires-clause-room
draw-requires-clause-room c =
    let a : c.args.draw.0 < length c.args.spines.now.items = omega (arith, c.requires.part, c.args.spines.now.ok) in
    let b : c.args.draw.1 < length c.args.passes.now.items = omega (arith, c.requires.caller, c.args.passes.now.ok) in
    may_run c.args.book.now c.args.used c.args.spines.now.items c.args.passes.now.items c.requires.run c.requires.room c.args.draw.0 c.args.draw.1 a b _ _ c.index_mut-spine.ensures.value c.index_mut-pass.ensures.value

pub returns : goal.returns
returns c =
    let a : c.args.draw.0 < length c.args.spines.now.items = omega (arith, c.requires.part, c.args.spines.now.ok) in
    let b : c.args.draw.1 < length c.args.passes.now.items = omega (arith, c.requires.caller, c.args.passes.now.ok) in
    record { run = runs_on c.args.book.now c.args.used c.args.spines.now.items c.args.passes.now.items c.requires.run c.requires.room c.args.draw.0 c.args.draw.1 a b _ _ c.index_mut-spine.ensures.value c.index_mut-pass.ensures.value c.args.draw.2 c.draw.result c.draw.new.self c.draw.new.pass c.draw.ensures.drawn }
