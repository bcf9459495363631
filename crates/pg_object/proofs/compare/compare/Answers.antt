use Rattle.std.proofs.Common.{◌≡◌, ◌+◌, ◌/◌, ◌<◌, take, sym, ap, subst, ◌∙◌, arith}
use Rattle.std.specs.Prelude.{Result, Ok}
use Rattle.pg_cache.specs.declared.fault.PagerFault.{PagerFault}
use Rattle.cs_directory.specs.Fields.{Fields}
use Rattle.cs_directory.specs.HashPages.{bytes_of}
use Rattle.pg_pages.specs.declared.check.Check.{Check}
use Rattle.pg_pages.specs.declared.check.Check.TheVariants.{Sealed, NotSealed}
use Rattle.pg_pages.specs.Marks.{seal_of}
use Rattle.pg_pages.specs.Pages.{PagesNow}
use Rattle.std.specs.List.{concat}
use Rattle.pg_plain.specs.Covers.{hash_page, begins}
use Rattle.pg_object.specs.Seals.{seal_for, slots_of}
use Rattle.pg_object.proofs.LookFacts.{HasChecked, unmapped, looks_sealed, looks_other, looks_told, part_inside, checked_as}
use Rattle.pg_object.proofs.compare.compare.Goals as goal

pub overflow_add-slot : goal.overflow_add-slot
overflow_add-slot g c = let few = c.wanted_of-wanted.ensures.few in omega arith

pub slot_of-requires-clause-inside : goal.slot_of-requires-clause-inside
slot_of-requires-clause-inside g c =
    let hash = g.D.Digester.hash in
    let digests = take c.wanted_of-wanted.result.used c.wanted_of-wanted.result.digests in
    let size : c.page_size.result ≡ c.args.pages.now.cache.pager.page_size = c.page_size.ensures.size ∙ ap (λ (p : PagesNow). p.cache.pager.page_size) c.clear_writable.ensures.marks in
    let part : c.page_size-part.result ≡ hash_page c.args.blob.now = c.page_size-part.ensures.size ∙ ap (λ (d : Fields). bytes_of d.page) c.best.ensures in
    let kind : c.kind.result ≡ c.args.blob.now.best.kind = c.kind.ensures ∙ ap (λ (d : Fields). d.kind) c.best-2.ensures in
    let raw : HasChecked hash (seal_of c.kind.result c.page_size-part.result digests) (c.clear_writable.new.self.cache.pager.page_size / c.page_size-part.result)
    c.clear_writable.new.self c.args.page c.check.result c.check.new.self =
    record {
      leaves = c.check.ensures.leaves;
      found = c.check.ensures.checked;
      fault = c.check.ensures.fault;
      lazy = c.check.ensures.lazy;
      once = c.check.ensures.once;
      uncalled = c.check.ensures.uncalled;
      marks = c.check.ensures.marks;
      marked = c.check.ensures.marked;
    } in
    let has = checked_as hash c.args.blob.now c.args.pages.now c.clear_writable.new.self c.args.page c.kind.result c.page_size-part.result digests c.check.result c.check.new.self
    c.clear_writable.ensures.marks kind part (c.wanted_of-wanted.ensures.digests ∙ ap (λ s. concat (slots_of s c.args.blob.now c.args.page)) size) raw in
    let result : c.check.result ≡ Ok (NotSealed c.in-NotSealed.part c.in-NotSealed.found) = c.in_ok-check.was ∙ ap Ok c.in-NotSealed.is in
    let inside = part_inside hash c.args.blob.now c.args.pages.now c.args.page c.check.new.self c.requires.holds c.in-NotSealed.part c.in-NotSealed.found
    (subst (λ (r : Result Check PagerFault). HasChecked hash (seal_for c.args.pages.now.cache.pager.page_size c.args.blob.now c.args.page) (c.args.pages.now.cache.pager.page_size / hash_page c.args.blob.now) (unmapped c.args.page c.args.pages.now) c.args.page r c.check.new.self) result has) in
    let first : c.wanted_of-wanted.result.first ≡ begins c.args.pages.now.cache.pager.page_size c.args.blob.now c.args.page / hash_page c.args.blob.now =
    c.wanted_of-wanted.ensures.first ∙ ap (λ s. begins s c.args.blob.now c.args.page / hash_page c.args.blob.now) size in
    subst (λ n. n + c.from.result < c.args.blob.now.best.code_slots) (sym first)
    (subst (λ n. begins c.args.pages.now.cache.pager.page_size c.args.blob.now c.args.page / hash_page c.args.blob.now + n < c.args.blob.now.best.code_slots) (sym c.from.ensures) inside)

pub returns-in-Sealed : goal.returns-in-Sealed
returns-in-Sealed g c =
    let hash = g.D.Digester.hash in
    let digests = take c.wanted_of-wanted.result.used c.wanted_of-wanted.result.digests in
    let size : c.page_size.result ≡ c.args.pages.now.cache.pager.page_size = c.page_size.ensures.size ∙ ap (λ (p : PagesNow). p.cache.pager.page_size) c.clear_writable.ensures.marks in
    let part : c.page_size-part.result ≡ hash_page c.args.blob.now = c.page_size-part.ensures.size ∙ ap (λ (d : Fields). bytes_of d.page) c.best.ensures in
    let kind : c.kind.result ≡ c.args.blob.now.best.kind = c.kind.ensures ∙ ap (λ (d : Fields). d.kind) c.best-2.ensures in
    let raw : HasChecked hash (seal_of c.kind.result c.page_size-part.result digests) (c.clear_writable.new.self.cache.pager.page_size / c.page_size-part.result)
    c.clear_writable.new.self c.args.page c.check.result c.check.new.self =
    record {
      leaves = c.check.ensures.leaves;
      found = c.check.ensures.checked;
      fault = c.check.ensures.fault;
      lazy = c.check.ensures.lazy;
      once = c.check.ensures.once;
      uncalled = c.check.ensures.uncalled;
      marks = c.check.ensures.marks;
      marked = c.check.ensures.marked;
    } in
    let has = checked_as hash c.args.blob.now c.args.pages.now c.clear_writable.new.self c.args.page c.kind.result c.page_size-part.result digests c.check.result c.check.new.self
    c.clear_writable.ensures.marks kind part (c.wanted_of-wanted.ensures.digests ∙ ap (λ s. concat (slots_of s c.args.blob.now c.args.page)) size) raw in
    let result : c.check.result ≡ Ok Sealed = c.in_ok-check.was ∙ ap Ok c.in-Sealed.is in
    looks_sealed hash c.args.blob.now c.args.pages.now c.args.page c.check.new.self c.requires.holds
    (subst (λ (r : Result Check PagerFault). HasChecked hash (seal_for c.args.pages.now.cache.pager.page_size c.args.blob.now c.args.page) (c.args.pages.now.cache.pager.page_size / hash_page c.args.blob.now) (unmapped c.args.page c.args.pages.now) c.args.page r c.check.new.self) result has)

pub returns-in-NotSealed : goal.returns-in-NotSealed
returns-in-NotSealed g c =
    let hash = g.D.Digester.hash in
    let digests = take c.wanted_of-wanted.result.used c.wanted_of-wanted.result.digests in
    let size : c.page_size.result ≡ c.args.pages.now.cache.pager.page_size = c.page_size.ensures.size ∙ ap (λ (p : PagesNow). p.cache.pager.page_size) c.clear_writable.ensures.marks in
    let part : c.page_size-part.result ≡ hash_page c.args.blob.now = c.page_size-part.ensures.size ∙ ap (λ (d : Fields). bytes_of d.page) c.best.ensures in
    let kind : c.kind.result ≡ c.args.blob.now.best.kind = c.kind.ensures ∙ ap (λ (d : Fields). d.kind) c.best-2.ensures in
    let raw : HasChecked hash (seal_of c.kind.result c.page_size-part.result digests) (c.clear_writable.new.self.cache.pager.page_size / c.page_size-part.result)
    c.clear_writable.new.self c.args.page c.check.result c.check.new.self =
    record {
      leaves = c.check.ensures.leaves;
      found = c.check.ensures.checked;
      fault = c.check.ensures.fault;
      lazy = c.check.ensures.lazy;
      once = c.check.ensures.once;
      uncalled = c.check.ensures.uncalled;
      marks = c.check.ensures.marks;
      marked = c.check.ensures.marked;
    } in
    let has = checked_as hash c.args.blob.now c.args.pages.now c.clear_writable.new.self c.args.page c.kind.result c.page_size-part.result digests c.check.result c.check.new.self
    c.clear_writable.ensures.marks kind part (c.wanted_of-wanted.ensures.digests ∙ ap (λ s. concat (slots_of s c.args.blob.now c.args.page)) size) raw in
    let result : c.check.result ≡ Ok (NotSealed c.in-NotSealed.part c.in-NotSealed.found) = c.in_ok-check.was ∙ ap Ok c.in-NotSealed.is in
    let slot : c.wanted_of-wanted.result.first + c.from.result ≡ begins c.args.pages.now.cache.pager.page_size c.args.blob.now c.args.page / hash_page c.args.blob.now + c.in-NotSealed.part =
    ap (λ n. n + c.from.result) (c.wanted_of-wanted.ensures.first ∙ ap (λ s. begins s c.args.blob.now c.args.page / hash_page c.args.blob.now) size)
    ∙ ap (λ n. begins c.args.pages.now.cache.pager.page_size c.args.blob.now c.args.page / hash_page c.args.blob.now + n) c.from.ensures in
    looks_told hash c.args.blob.now c.args.pages.now c.args.page c.check.new.self (c.wanted_of-wanted.result.first + c.from.result) (begins c.args.pages.now.cache.pager.page_size c.args.blob.now c.args.page / hash_page c.args.blob.now + c.in-NotSealed.part)
    c.in-NotSealed.found c.slot_of.result slot c.slot_of.ensures.value
    (looks_other hash c.args.blob.now c.args.pages.now c.args.page c.check.new.self c.requires.holds c.in-NotSealed.part c.in-NotSealed.found
    (subst (λ (r : Result Check PagerFault). HasChecked hash (seal_for c.args.pages.now.cache.pager.page_size c.args.blob.now c.args.page) (c.args.pages.now.cache.pager.page_size / hash_page c.args.blob.now) (unmapped c.args.page c.args.pages.now) c.args.page r c.check.new.self) result has))
