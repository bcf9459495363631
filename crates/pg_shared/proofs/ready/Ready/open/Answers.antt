use Rattle.std.proofs.Common.{List, map, sym, subst, ap, ◌∙◌}
use Rattle.pg_book.specs.Needs.{rows}
use Rattle.pg_book.specs.Opening as book
use Rattle.pg_object.specs.Object.{ObjectNow}
use Rattle.pg_process.specs.ProcessStep.{PlainProcess}
use Rattle.pg_parts.specs.Opened.{OpenedNow}
use Rattle.pg_shared.specs.Opening.{known_of, declared_of}
use Rattle.pg_shared.proofs.OpenFacts.{book-openable, opens-as, opens-ready}
use Rattle.pg_shared.proofs.ready.Ready.open.Goals as goal

pub open-requires : goal.open-requires
open-requires g c =
    record { openable = subst (λ (o : OpenedNow). book.IsOpenable o.needs) (sym c.opened.view_is) (book-openable g.D.Digester.hash c.args.opened c.requires.openable c.requires.shared) }

pub invariant_of-ready : goal.invariant_of-ready
invariant_of-ready g c =
    opens-ready g.D.Digester.hash c.args.opened c.of-start.result.value (record {
      page_size = c.opened.inside.page_size;
      adhoc = c.opened.inside.adhoc;
      files = c.opened.inside.files.items;
      processes = c.opened.inside.processes.items;
      trust = c.opened.inside.trusted;
      needs = rows c.opened.inside.needs;
    }) c.requires.openable c.requires.shared c.of-start.ensures c.opened.view_is c.in-Ok-open.book c.in-Ok-open.spines.items c.in-Ok-open.passes.items c.in-Ok-open.ensures.opened c.in-Ok.known
    (c.in-Ok.ensures.files ∙ ap (λ (l : List ObjectNow). map known_of l) c.as_slice.ensures.value)
    (c.in-Ok.ensures.declared ∙ ap (λ (l : List PlainProcess). map declared_of l) c.as_slice-2.ensures.value) c.in-Ok.ensures.fixed

pub returns-in-Ok-open-clause-opened : goal.returns-in-Ok-open-clause-opened
returns-in-Ok-open-clause-opened g c =
    opens-as g.D.Digester.hash c.args.opened c.of-start.result.value (record {
      page_size = c.opened.inside.page_size;
      adhoc = c.opened.inside.adhoc;
      files = c.opened.inside.files.items;
      processes = c.opened.inside.processes.items;
      trust = c.opened.inside.trusted;
      needs = rows c.opened.inside.needs;
    }) c.requires.openable c.requires.shared c.of-start.ensures c.opened.view_is c.in-Ok-open.book c.in-Ok-open.spines.items c.in-Ok-open.passes.items c.in-Ok-open.ensures.opened
