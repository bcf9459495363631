use Rattle.std.proofs.Common.{◌≡◌, List, [], sym, subst, ap, ◌∙◌, arith}
use Rattle.std.specs.Global.{Vec}
use Rattle.pg_book.specs.declared.needs.Needs.{Needs}
use Rattle.pg_book.specs.Needs.{rows, rows_of, all_entries}
use Rattle.pg_history.specs.Machine.{Line}
use Rattle.pg_parts.specs.Opened.{OpenedNow}
use Rattle.pg_machine.specs.Solo.{IsRunning}
use Rattle.pg_machine.proofs.StartFacts.{starts}
use Rattle.pg_machine.proofs.solo.Solo.open.Goals as goal

pub invariant_of-result : goal.invariant_of-result
invariant_of-result g c =
    let hash = g.D.Digester.hash in
    let is : c.of-start.result.value ≡ c.args.opened = c.of-start.ensures in
    let now : OpenedNow = record {
      page_size = c.opened.inside.page_size;
      adhoc = c.opened.inside.adhoc;
      files = c.opened.inside.files.items;
      processes = c.opened.inside.processes.items;
      trust = c.opened.inside.trusted;
      needs = rows c.opened.inside.needs;
    } in
    let viewed : now ≡ c.args.opened = c.opened.view_is in
    let stands : IsRunning hash c.args.opened [] c.args.opened = starts hash c.args.opened c.requires.openable in
    let needed : all_entries (rows c.opened.inside.needs) ≡ all_entries c.args.opened.needs = ap (λ (n : OpenedNow). all_entries n.needs) viewed in
    let summed : c.entries_of-entries.result ≡ all_entries (rows c.opened.inside.needs) =
    c.entries_of-entries.ensures ∙ ap (λ (l : List (Vec Needs)). all_entries (rows_of l)) c.as_slice.ensures.value in
    let started : all_entries c.of-start.result.value.needs ≡ all_entries c.args.opened.needs = ap (λ (n : OpenedNow). all_entries n.needs) is in (
      subst (λ (s : OpenedNow). IsRunning hash s c.in_ok-history.history.items now) (sym is)
          (subst (λ (n : OpenedNow). IsRunning hash c.args.opened c.in_ok-history.history.items n) (sym viewed)
          (subst (λ (h : List Line). IsRunning hash c.args.opened h c.args.opened) (sym c.in_ok-history.ensures.items) stands)),
      omega (arith, c.in_ok-history.ensures.capacity, needed, summed, started),
    )
