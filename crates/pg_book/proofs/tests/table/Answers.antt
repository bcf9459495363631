use Rattle.std.proofs.Common.{◌≡◌, ℕ, List, [], ◌∷◌, ◌++◌, replicate, ap, ◌∙◌, arith}
use Rattle.std.specs.Global.{Vec}
use Rattle.pg_book.specs.declared.needs.Needs.{Needs}
use Rattle.pg_book.specs.Needs.{rows_of}
use Rattle.pg_book.specs.Trials.{evenly}
use Rattle.pg_book.proofs.Gathering.{map_push}
use Rattle.pg_book.proofs.Trials.{replicate_push, openable}
use Rattle.pg_book.proofs.tests.table.Goals as goal

pub loop-caller-preserved : goal.loop-caller-preserved
loop-caller-preserved c =
    let row = c.in_ok-row_of.field-0 in
    ap rows_of c.in_ok-push.ensures.items ∙ map_push (λ (r : Vec Needs). r.items) c.loop-caller.all.items row ∙ ap (λ l. l ++ row.items ∷ []) c.loop-caller.invariant
    ∙ ap (λ (r : List Needs). replicate c.loop-caller._caller (replicate c.args.parts (evenly c.args.entries)) ++ r ∷ []) c.in_ok-row_of.ensures ∙ replicate_push c.loop-caller._caller (replicate c.args.parts (evenly c.args.entries))

pub returns-clause-openable : goal.returns-clause-openable
returns-clause-openable c =
    let all : c.loop-caller._caller ≡ c.args.callers = omega arith in
    (openable c.args.callers c.args.parts c.args.entries c.requires.callers.0 c.requires.callers.1 c.requires.parts c.requires.entries _ (c.loop-caller.invariant ∙ ap (λ (k : ℕ). replicate k (replicate c.args.parts (evenly c.args.entries))) all)).0

pub returns-clause-room : goal.returns-clause-room
returns-clause-room c =
    let all : c.loop-caller._caller ≡ c.args.callers = omega arith in
    (openable c.args.callers c.args.parts c.args.entries c.requires.callers.0 c.requires.callers.1 c.requires.parts c.requires.entries _ (c.loop-caller.invariant ∙ ap (λ (k : ℕ). replicate k (replicate c.args.parts (evenly c.args.entries))) all)).1
