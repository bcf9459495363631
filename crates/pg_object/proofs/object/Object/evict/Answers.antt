use Rattle.pg_object.proofs.EvictFacts.{leaves, stays_absent, fails}
use Rattle.pg_object.proofs.SealFacts.{does_from}
use Rattle.pg_object.proofs.object.Object.evict.Goals as goal

pub returns-in-Ok-true : goal.returns-in-Ok-true
returns-in-Ok-true g c =
    let call = c.in-Ok-true.ensures in
    let regions = c.unmap_page in
    let done = does_from g.D.Digester.hash _ _ _ _ _ _ c.self.view_is
    (leaves g.D.Digester.hash _ c.self.invariant c.evict.new.self c.args.page call.marked call.calls c.in-Ok-true.field-0 regions.new.self c.in-Ok-true.field-0-test
    call.gives call.marks regions.ensures.after regions.ensures.found regions.ensures.room regions.ensures.sound) in
    record { acts = done.acts; checked = done.checked; unhashed = done.unhashed; kept = done.kept }

pub invariant_of-self : goal.invariant_of-self
invariant_of-self g c =
    let call = c.in-Ok-true.ensures in
    let regions = c.unmap_page in
    (leaves g.D.Digester.hash _ c.self.invariant c.evict.new.self c.args.page call.marked call.calls c.in-Ok-true.field-0 regions.new.self c.in-Ok-true.field-0-test
    call.gives call.marks regions.ensures.after regions.ensures.found regions.ensures.room regions.ensures.sound).kept

pub returns-in-Ok-false : goal.returns-in-Ok-false
returns-in-Ok-false g c =
    let call = c.in-Ok-false.ensures in
    let done = does_from g.D.Digester.hash _ _ _ _ _ _ c.self.view_is
    (stays_absent g.D.Digester.hash _ c.self.invariant c.evict.new.self c.args.page call.marked call.calls c.in-Ok-false.field-0 c.in-Ok-false.field-0-test call.gives call.marks) in
    record { acts = done.acts; checked = done.checked; unhashed = done.unhashed; kept = done.kept }

pub invariant_of-self-in-Ok-false : goal.invariant_of-self-in-Ok-false
invariant_of-self-in-Ok-false g c =
    let call = c.in-Ok-false.ensures in
    (stays_absent g.D.Digester.hash _ c.self.invariant c.evict.new.self c.args.page call.marked call.calls c.in-Ok-false.field-0 c.in-Ok-false.field-0-test call.gives call.marks).kept

pub returns-in-Err : goal.returns-in-Err
returns-in-Err g c =
    let call = c.in-Err.ensures in
    let done = does_from g.D.Digester.hash _ _ _ _ _ _ c.self.view_is
    (fails g.D.Digester.hash _ c.self.invariant c.evict.new.self c.args.page call.marked call.calls c.in-Err.field-0 call.gives call.marks) in
    record { acts = done.acts; checked = done.checked; unhashed = done.unhashed; kept = done.kept }

pub invariant_of-self-in-Err : goal.invariant_of-self-in-Err
invariant_of-self-in-Err g c =
    let call = c.in-Err.ensures in
    (fails g.D.Digester.hash _ c.self.invariant c.evict.new.self c.args.page call.marked call.calls c.in-Err.field-0 call.gives call.marks).kept
