use Rattle.std.proofs.Common.{length, Some, None, sym, ap, ◌∙◌}
use Rattle.std.specs.Arc.{arc_value}
use Rattle.cs_trust.specs.Listed.{listed}
use Rattle.pg_trusted.specs.TrustStep.{answer}
use Rattle.pg_trusted.specs.Kept.{tables_of}
use Rattle.pg_trusted.proofs.ListedFacts.{listed_first, listed_second}
use Rattle.pg_trusted.proofs.trusted.Trusted.lookup.Goals as goal

pub returns-in-Some : goal.returns-in-Some
returns-in-Some c =
    let found = c.in-Some.ensures ∙ ap (λ m. listed m c.args.cdhash.now) c.deref.ensures in
    rw (← c.self.view_is)
    (sym (ap answer (listed_first (arc_value c.self.inside.fixed) (tables_of c.self.inside.caches.items c.self.inside.loaded.items) c.args.cdhash.now (c.in-Some.module, c.in-Some.place) found)))

pub returns-in-Some-look_loaded : goal.returns-in-Some-look_loaded
returns-in-Some-look_loaded c =
    let none = c.in_default.ensures ∙ ap (λ m. listed m c.args.cdhash.now) c.deref.ensures in
    let found = c.in-Some-look_loaded.ensures.place
    ∙ (ap (λ xs. listed (tables_of xs c.deref-3.result.now) c.args.cdhash.now) c.deref-2.ensures.value
    ∙ ap (λ ns. listed (tables_of c.self.inside.caches.items ns) c.args.cdhash.now) c.deref-3.ensures.value) in
    let count = c.len.ensures.count ∙ ap length c.deref-in-Some-look_loaded.ensures in
    rw (← c.self.view_is, count)
    (sym (ap answer (listed_second (arc_value c.self.inside.fixed) (tables_of c.self.inside.caches.items c.self.inside.loaded.items) c.args.cdhash.now (Some (c.in-Some-look_loaded.number, c.in-Some-look_loaded.place)) none found)))

pub returns-in-None : goal.returns-in-None
returns-in-None c =
    let none = c.in_default.ensures ∙ ap (λ m. listed m c.args.cdhash.now) c.deref.ensures in
    let found = c.in-None.ensures.place
    ∙ (ap (λ xs. listed (tables_of xs c.deref-3.result.now) c.args.cdhash.now) c.deref-2.ensures.value
    ∙ ap (λ ns. listed (tables_of c.self.inside.caches.items ns) c.args.cdhash.now) c.deref-3.ensures.value) in
    rw (← c.self.view_is)
    (sym (ap answer (listed_second (arc_value c.self.inside.fixed) (tables_of c.self.inside.caches.items c.self.inside.loaded.items) c.args.cdhash.now None none found)))
