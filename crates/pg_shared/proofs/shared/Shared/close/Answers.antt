use Rattle.std.proofs.Common.{◌≡◌, List, [], ◌∷◌, ◌++◌, sym, ap, ◌∙◌, subst}
use Rattle.cs_policy.specs.declared.entry.Entry.{Entry}
use Rattle.pg_book.specs.Models.{SpineOf}
use Rattle.pg_shared.specs.Cells.{IsTrustOf}
use Rattle.pg_shared.proofs.CloseFacts.{closes-spines, closes-passes, closes-run}
use Rattle.pg_shared.proofs.shared.Shared.close.Goals as goal

pub close-requires-clause-spines : goal.close-requires-clause-spines
close-requires-clause-spines g c =
    let trust = c.into_parts-trusted.result.0 in
    let spine = c.into_parts-trusted.result.1 in
    let whole : c.push.new.self.items ≡ (c.in_ok-files.spines.items ++ c.in_ok-processes.others.items) ++ spine ∷ [] =
    c.in_ok-push.ensures.items ∙ ap (λ (l : List (SpineOf Entry)). l ++ spine ∷ []) c.in_ok-append.ensures.items in
    closes-spines g.D.Digester.hash g.B.Naming.plan _ c.self.invariant c.args.book c.requires.book c.in_ok-files.files.items c.in_ok-files.spines.items c.in_ok-files.ensures.kept c.in_ok-files.ensures.count
    c.in_ok-processes.processes.items c.in_ok-processes.others.items c.in_ok-processes.ensures.kept c.in_ok-processes.ensures.count trust spine
    (subst (IsTrustOf g.B.Naming.plan) (sym c.into_parts-trusted.ensures.parts) c.into_parts-trusted.ensures.kept) c.push.new.self.items whole

pub close-requires-clause-passes : goal.close-requires-clause-passes
close-requires-clause-passes g c =
    closes-passes g.D.Digester.hash g.B.Naming.plan _ c.self.invariant c.args.book c.requires.book c.args.passes.items c.requires.passes

pub returns : goal.returns
returns g c =
    let trust = c.into_parts-trusted.result.0 in
    let spine = c.into_parts-trusted.result.1 in
    let whole : c.push.new.self.items ≡ (c.in_ok-files.spines.items ++ c.in_ok-processes.others.items) ++ spine ∷ [] =
    c.in_ok-push.ensures.items ∙ ap (λ (l : List (SpineOf Entry)). l ++ spine ∷ []) c.in_ok-append.ensures.items in
    record {
      closed = closes-run g.D.Digester.hash g.B.Naming.plan _ c.self.invariant c.args.book c.requires.book c.in_ok-files.files.items c.in_ok-files.spines.items c.in_ok-files.ensures.kept c.in_ok-files.ensures.count
          c.in_ok-processes.processes.items c.in_ok-processes.others.items c.in_ok-processes.ensures.kept c.in_ok-processes.ensures.count trust spine
          (subst (IsTrustOf g.B.Naming.plan) (sym c.into_parts-trusted.ensures.parts) c.into_parts-trusted.ensures.kept) c.push.new.self.items whole c.args.passes.items _ c.in-Ok.ensures.closed;
    }
