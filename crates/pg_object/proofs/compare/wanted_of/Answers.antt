use Rattle.std.proofs.Common.{◌≡◌, ◌+◌, ◌*◌, ◌/◌, ◌<◌, ◌^◌, sym, ap, subst, ◌∙◌, arith}
use Rattle.std.specs.List.{concat}
use Rattle.pg_digest.specs.Kinds.{size_of}
use Rattle.cs_directory.specs.Fields.{Fields}
use Rattle.cs_directory.specs.HashPages.{bytes_of}
use Rattle.pg_plain.specs.Covers.{hash_page, begins}
use Rattle.pg_object.proofs.WantedFacts.{slots_from, gathered_none, gathered_more, each_hash_page, slot_inside, slot_fits, slots_fit}
use Rattle.pg_object.proofs.compare.wanted_of.Goals as goal

pub loop-k-init : goal.loop-k-init
loop-k-init c = gathered_none c.args.blob.now (c.begins.result / c.page_size-hash_page.result) _

pub loop-k-preserved : goal.loop-k-preserved
loop-k-preserved c =
    let long = c.slot_of-slot.array_long in
    let part : c.page_size-hash_page.result ≡ hash_page c.args.blob.now = c.page_size-hash_page.ensures.size ∙ ap (λ (d : Fields). bytes_of d.page) c.best.ensures in
    let inside : c.loop-k.k < c.args.size / hash_page c.args.blob.now = subst (λ h. c.loop-k.k < c.args.size / h) part (subst (λ s. c.loop-k.k < s / c.page_size-hash_page.result) c.from.ensures c.loop-k-test.true) in
    let few = slot_fits c.args.size c.args.blob.now c.loop-k.k c.requires.holds.known inside in
    let many = c.loop-k.invariant.many in
    let size = c.slot_of-slot.ensures.size in
    gathered_more c.args.blob.now (c.begins.result / c.page_size-hash_page.result) c.loop-k.k c.loop-k.used c.loop-k.digests c.put-used.new.digests c.slot_of-slot.result c.put-used.result
    c.loop-k.invariant c.slot_of-slot.ensures.value size (omega arith) c.put-used.ensures.put c.put-used.ensures.length

pub slot_of-slot-requires : goal.slot_of-slot-requires
slot_of-slot-requires c =
    let part : c.page_size-hash_page.result ≡ hash_page c.args.blob.now = c.page_size-hash_page.ensures.size ∙ ap (λ (d : Fields). bytes_of d.page) c.best.ensures in
    let inside : c.loop-k.k < c.args.size / hash_page c.args.blob.now = subst (λ h. c.loop-k.k < c.args.size / h) part (subst (λ s. c.loop-k.k < s / c.page_size-hash_page.result) c.from.ensures c.loop-k-test.true) in
    let first : begins c.args.size c.args.blob.now c.args.page / hash_page c.args.blob.now ≡ c.begins.result / c.page_size-hash_page.result =
    ap (λ b. b / hash_page c.args.blob.now) (sym c.begins.ensures.value) ∙ ap (λ h. c.begins.result / h) (sym part) in
    record {
      directory = c.requires.holds.directory;
      inside = subst (λ f. f + c.loop-k.k < c.args.blob.now.best.code_slots) first (slot_inside c.args.size c.args.blob.now c.args.page c.loop-k.k c.requires.holds inside);
    }

pub put-used-requires : goal.put-used-requires
put-used-requires c =
    let long = c.slot_of-slot.array_long in
    let part : c.page_size-hash_page.result ≡ hash_page c.args.blob.now = c.page_size-hash_page.ensures.size ∙ ap (λ (d : Fields). bytes_of d.page) c.best.ensures in
    let inside : c.loop-k.k < c.args.size / hash_page c.args.blob.now = subst (λ h. c.loop-k.k < c.args.size / h) part (subst (λ s. c.loop-k.k < s / c.page_size-hash_page.result) c.from.ensures c.loop-k-test.true) in
    let few = slot_fits c.args.size c.args.blob.now c.loop-k.k c.requires.holds.known inside in
    let many = c.loop-k.invariant.many in
    let size = c.slot_of-slot.ensures.size in
    omega arith

pub returns : goal.returns
returns c =
    let part : c.page_size-hash_page.result ≡ hash_page c.args.blob.now = c.page_size-hash_page.ensures.size ∙ ap (λ (d : Fields). bytes_of d.page) c.best.ensures in
    let first : c.begins.result / c.page_size-hash_page.result ≡ begins c.args.size c.args.blob.now c.args.page / hash_page c.args.blob.now =
    ap (λ b. b / c.page_size-hash_page.result) c.begins.ensures.value ∙ ap (λ h. begins c.args.size c.args.blob.now c.args.page / h) part in
    let count : c.from.result / c.page_size-hash_page.result ≡ c.args.size / hash_page c.args.blob.now =
    ap (λ s. s / c.page_size-hash_page.result) c.from.ensures ∙ ap (λ h. c.args.size / h) part in
    let past = c.loop-k-test.false in
    let most = c.loop-k.auto.k-end in
    let all : c.loop-k.k ≡ c.args.size / hash_page c.args.blob.now = omega arith in
    let used : c.loop-k.used ≡ c.args.size / hash_page c.args.blob.now * size_of c.args.blob.now.best.kind = c.loop-k.invariant.many ∙ ap (λ n. n * size_of c.args.blob.now.best.kind) all in
    let few = slots_fit c.args.size c.args.blob.now c.requires.holds.known in
    record {
      first = first;
      digests = c.loop-k.invariant.held ∙ ap (λ f. concat (slots_from c.args.blob.now f c.loop-k.k)) first
          ∙ ap (λ k. concat (slots_from c.args.blob.now (begins c.args.size c.args.blob.now c.args.page / hash_page c.args.blob.now) k)) all;
      used = used;
      room = omega arith;
      few = subst (λ h. c.begins.result / h < 2 ^ 52) (sym part)
          (each_hash_page (λ h. c.begins.result / h < 2 ^ 52) c.args.blob.now (let below = c.begins.type_inv in omega arith) (let below = c.begins.type_inv in omega arith));
    }
