use Rattle.std.proofs.Common.{refl, ◌≡◌, ◌+◌, ◌≤◌, [], List, ℕ, None, length, subst, sym, ◌∙◌}
use Rattle.cs_policy.specs.declared.file.FileEvent.TheVariants as event
use Rattle.cs_policy.specs.declared.file.FileReply.TheVariants as reply
use Rattle.pg_plain.specs.PlainFile.{may_write}
use Rattle.pg_object.specs.Object.{ObjectNow, object_of, seen}
use Rattle.pg_object.proofs.AccessFacts.{stores_nothing, stores_copy, stores_page, stores_elsewhere, stored_there, some_found}
use Rattle.pg_object.specs.Checked.{LeavesChecked}
use Rattle.pg_object.proofs.QuietFacts.{Does}
use Rattle.pg_object.proofs.object.Object.store.Goals as goal
use Rattle.pg_object.proofs.object.Object.store.Goals.{then-is_some, else-is_some}

pub returns-then-not-may_write : goal.returns-then-not-may_write
returns-then-not-may_write g c =
    let done = stores_nothing g.D.Digester.hash c.args.self.now c.may_write.ensures.kept c.args.id c.args.page c.args.at c.args.bytes.now c.args.resolve c.may_write.result c.may_write.ensures.answer c.if-not-may_write.true in
    record { acts = done.acts; checked = done.checked; elsewhere = λ q there. refl; unhashed = done.unhashed; kept = done.kept }

pub put-requires-clause-resident : goal.put-requires-clause-resident
put-requires-clause-resident g c =
    let old = object_of c.self.inside.pages c.self.inside.regions c.self.inside.blobs c.self.inside.length c.self.inside.layout in
    let is = subst (λ (o : ObjectNow). c.may_write.result ≡ may_write (seen o []) c.args.id c.args.page) (sym c.self.view_is) c.may_write.ensures.answer in
    stored_there g.D.Digester.hash old c.self.invariant c.args.id c.args.page c.args.at c.args.bytes.now c.args.resolve c.may_write.result is c.if-not-may_write.false
    (some_found c.copy.result _ c.copy.ensures.found ∙ sym c.is_some.ensures ∙ c.if-is_some.false)

pub invariant_of-self : goal.invariant_of-self
invariant_of-self g c =
    let old = object_of c.self.inside.pages c.self.inside.regions c.self.inside.blobs c.self.inside.length c.self.inside.layout in
    let is = subst (λ (o : ObjectNow). c.may_write.result ≡ may_write (seen o []) c.args.id c.args.page) (sym c.self.view_is) c.may_write.ensures.answer in
    let put = c.put_copy in
    (stores_copy g.D.Digester.hash old c.self.invariant c.args.id c.args.page c.args.at c.bytes.result.now c.args.resolve c.may_write.result is put.new.self c.if-not-may_write.false
    (some_found c.copy.result _ c.copy.ensures.found ∙ sym c.is_some.ensures ∙ c.if-is_some.true) put.ensures.after put.ensures.found put.ensures.room put.ensures.sound).kept

pub invariant_of-self-else-is_some : goal.invariant_of-self-else-is_some
invariant_of-self-else-is_some g c =
    let old = object_of c.self.inside.pages c.self.inside.regions c.self.inside.blobs c.self.inside.length c.self.inside.layout in
    let is = subst (λ (o : ObjectNow). c.may_write.result ≡ may_write (seen o []) c.args.id c.args.page) (sym c.self.view_is) c.may_write.ensures.answer in
    let bytes = c.bytes-else-is_some.result.now in
    let fits = subst (λ (o : ObjectNow). c.args.at + length bytes ≤ o.pages.cache.pager.page_size) (sym c.self.view_is)
    (subst (λ (b : List ℕ). c.args.at + length b ≤ c.args.self.now.pages.cache.pager.page_size) (sym c.bytes-else-is_some.ensures.value) c.requires.fits) in
    let put = c.put in
    (stores_page g.D.Digester.hash old c.self.invariant c.args.id c.args.page c.args.at bytes c.args.resolve c.may_write.result is c.if-not-may_write.false
    (some_found c.copy.result _ c.copy.ensures.found ∙ sym c.is_some.ensures ∙ c.if-is_some.false) put.new.self fits put.ensures.gives put.ensures.marks put.ensures.marked put.ensures.calls).kept

pub returns : goal.returns
returns g c =
    let hash = g.D.Digester.hash in
    let old = object_of c.self.inside.pages c.self.inside.regions c.self.inside.blobs c.self.inside.length c.self.inside.layout in
    let is = subst (λ (o : ObjectNow). c.may_write.result ≡ may_write (seen o []) c.args.id c.args.page) (sym c.self.view_is) c.may_write.ensures.answer in
    let stored : List ℕ → ObjectNow → Type 0 = λ bytes new. Does hash old (event.Store c.args.id c.args.page c.args.at bytes c.args.resolve) None reply.Stored new in
    let made : stored c.args.bytes.now c.if-is_some.self =
    elim c.if-is_some.branch [
      | then-is_some w ↦ subst (stored c.args.bytes.now) (sym w.self-is) (subst (λ (b : List ℕ). stored b (record old { regions = w.put_copy.new.self })) w.bytes.ensures.value
          (stores_copy hash old c.self.invariant c.args.id c.args.page c.args.at w.bytes.result.now c.args.resolve c.may_write.result is w.put_copy.new.self c.if-not-may_write.false
          (some_found c.copy.result _ c.copy.ensures.found ∙ sym c.is_some.ensures ∙ w.if-is_some.true) w.put_copy.ensures.after w.put_copy.ensures.found w.put_copy.ensures.room w.put_copy.ensures.sound))
      | else-is_some w ↦
          let bytes = w.bytes-else-is_some.result.now in
          let fits = subst (λ (o : ObjectNow). c.args.at + length bytes ≤ o.pages.cache.pager.page_size) (sym c.self.view_is)
          (subst (λ (b : List ℕ). c.args.at + length b ≤ c.args.self.now.pages.cache.pager.page_size) (sym w.bytes-else-is_some.ensures.value) c.requires.fits) in
          subst (stored c.args.bytes.now) (sym w.self-is) (subst (λ (b : List ℕ). stored b (record old { pages = w.put.new.self })) w.bytes-else-is_some.ensures.value
          (stores_page hash old c.self.invariant c.args.id c.args.page c.args.at bytes c.args.resolve c.may_write.result is c.if-not-may_write.false
          (some_found c.copy.result _ c.copy.ensures.found ∙ sym c.is_some.ensures ∙ w.if-is_some.false) w.put.new.self fits w.put.ensures.gives w.put.ensures.marks w.put.ensures.marked w.put.ensures.calls))
    ] in
    let left : LeavesChecked old c.if-is_some.self =
    elim c.if-is_some.branch [
      | then-is_some w ↦ subst (LeavesChecked old) (sym w.self-is) (λ q there. refl)
      | else-is_some w ↦ subst (LeavesChecked old) (sym w.self-is)
          (stores_elsewhere hash old c.self.invariant c.args.id c.args.page c.args.at w.bytes-else-is_some.result.now c.args.resolve c.may_write.result is c.if-not-may_write.false
          (some_found c.copy.result _ c.copy.ensures.found ∙ sym c.is_some.ensures ∙ w.if-is_some.false) w.put.new.self w.put.ensures.gives)
    ] in
    let done = subst (λ (o : ObjectNow). Does hash o (event.Store c.args.id c.args.page c.args.at c.args.bytes.now c.args.resolve) None reply.Stored c.if-is_some.self) c.self.view_is made in
    record { acts = done.acts; checked = done.checked; elsewhere = subst (λ (o : ObjectNow). LeavesChecked o c.if-is_some.self) c.self.view_is left; unhashed = done.unhashed; kept = done.kept }
