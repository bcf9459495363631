use Rattle.std.proofs.Common.{◌≡◌, ℕ, ◌+◌, ◌++◌, List, Some, length, map, string_bytes, length-append, refl, ap, ◌∙◌, arith, add-one}
use Rattle.std.specs.Global.{Vec}
use Rattle.std.proofs.lemmas.Result.{err_from_is_err_and}
use Rattle.pg_digest.specs.Digests.{sha_hash}
use Rattle.cs_sign.specs.Reading.{cached, finds, after_reads}
use Rattle.cs_sign.proofs.ReadingFacts.{cached-step, cached-stops-unread, cached-stops-unsealed, cached-done, taken-none, taken-more, some-unread, some-unsealed, some-done, reads-behind, reads-all, caused-as, caused-still}
use Rattle.cs_sign.proofs.reading.cached.Goals as goal

pub loop-item-init : goal.loop-item-init
loop-item-init g c = record {
  told = λ told tells. (tells, ap (λ (hashes : List (List ℕ)). cached sha_hash 0 (finds told (map string_bytes c.args.paths.now)) hashes) c.new-found.ensures.items);
  taken = taken-none sha_hash c.new-found.result.items c.new-found.ensures.items;
  faults = refl;
  few = omega (arith, ap length c.new-found.ensures.items);
}

pub loop-item-preserved : goal.loop-item-preserved
loop-item-preserved g c = record {
  told = λ told tells.
      let known = c.loop-item.invariant.told told tells in
      let after : g.F.Files.tells c.read_item.new.files ≡ Some (after_reads (c.loop-item.item + 1) told) =
      rw (add-one c.loop-item.item) (c.in_ok-bytes.ensures.read (after_reads c.loop-item.item told) known.0) in (
        after,
        cached-step sha_hash told c.loop-item.item c.args.paths.now c.index-paths-item.result c.as_str.result.now c.loop-item-test.true c.index-paths-item.is c.as_str.ensures.value
            c.loop-item.found.items _ c.extend_from_slice.new.self.items _ _ _ (c.in_ok-bytes.ensures.told (after_reads c.loop-item.item told) known.0) c.deref.ensures.value c.in_ok-more.ensures.told
            (c.in_ok-extend_from_slice.ensures.items ∙ ap (λ (more : List (List ℕ)). c.loop-item.found.items ++ more) c.deref-in-loop-item.ensures.value) known.1,
      );
  taken =
      taken-more sha_hash c.loop-item.item c.loop-item.found.items _ c.extend_from_slice.new.self.items _ _ c.loop-item.invariant.taken c.in_ok-bytes.ensures.some c.deref.ensures.value c.in_ok-more.ensures.told
      (c.in_ok-extend_from_slice.ensures.items ∙ ap (λ (more : List (List ℕ)). c.loop-item.found.items ++ more) c.deref-in-loop-item.ensures.value);
  faults = c.in_ok-bytes.ensures.cause ∙ c.loop-item.invariant.faults;
  few = omega (arith, c.loop-item.invariant.few, c.in_ok-more.ensures.few, ap length (c.in_ok-extend_from_slice.ensures.items ∙ ap (λ (more : List (List ℕ)). c.loop-item.found.items ++ more) c.deref-in-loop-item.ensures.value), length-append c.loop-item.found.items c.in_ok-more.more.items);
}

pub returns-in_err-bytes-clause-told : goal.returns-in_err-bytes-clause-told
returns-in_err-bytes-clause-told g c = λ told tells.
    let exit = err_from_is_err_and c.from_residual.result c.from_residual.ensures.1 in
    let known = c.loop-item.invariant.told told tells in
    rw (exit.1, exit.2)
    (cached-stops-unread sha_hash told c.loop-item.item c.args.paths.now c.index-paths-item.result c.as_str.result.now c.loop-item-test.true c.index-paths-item.is c.as_str.ensures.value
    c.loop-item.found.items _ c.in_err-bytes.field-0.0 (c.in_err-bytes.ensures.told (after_reads c.loop-item.item told) known.0) known.1)

pub returns-in_err-bytes-clause-some : goal.returns-in_err-bytes-clause-some
returns-in_err-bytes-clause-some g c =
    let exit = err_from_is_err_and c.from_residual.result c.from_residual.ensures.1 in
    rw (exit.1, exit.2)
    (some-unread sha_hash c.loop-item.item (length c.args.paths.now) c.loop-item.found.items c.in_err-bytes.field-0.0 c.loop-item-test.true c.loop-item.invariant.taken c.in_err-bytes.ensures.some)

pub returns-in_err-bytes-clause-reads : goal.returns-in_err-bytes-clause-reads
returns-in_err-bytes-clause-reads g c = λ told tells.
    let known = c.loop-item.invariant.told told tells in
    reads-behind told (length c.args.paths.now) c.loop-item.item 1 _ (omega (arith, c.loop-item-test.true)) (c.read_item.ensures.reads (after_reads c.loop-item.item told) known.0)

pub returns-in_err-bytes-clause-cause : goal.returns-in_err-bytes-clause-cause
returns-in_err-bytes-clause-cause g c =
    let exit = err_from_is_err_and c.from_residual.result c.from_residual.ensures.1 in
    rw (exit.1, exit.2) (caused-as (Vec ℕ) (Vec (List ℕ)) c.in_err-bytes.field-0.0 _ _ _ c.loop-item.invariant.faults c.in_err-bytes.ensures.cause)

pub returns-in_err-more-clause-told : goal.returns-in_err-more-clause-told
returns-in_err-more-clause-told g c = λ told tells.
    let exit = err_from_is_err_and c.from_residual-in_err-more.result c.from_residual-in_err-more.ensures.1 in
    let known = c.loop-item.invariant.told told tells in
    rw (exit.1, exit.2)
    (cached-stops-unsealed sha_hash told c.loop-item.item c.args.paths.now c.index-paths-item.result c.as_str.result.now c.loop-item-test.true c.index-paths-item.is c.as_str.ensures.value
    c.loop-item.found.items _ _ _ c.in_err-more.field-0.0 (c.in_ok-bytes.ensures.told (after_reads c.loop-item.item told) known.0) c.deref.ensures.value c.in_err-more.ensures.told known.1)

pub returns-in_err-more-clause-some : goal.returns-in_err-more-clause-some
returns-in_err-more-clause-some g c =
    let exit = err_from_is_err_and c.from_residual-in_err-more.result c.from_residual-in_err-more.ensures.1 in
    rw (exit.1, exit.2)
    (some-unsealed sha_hash c.loop-item.item (length c.args.paths.now) c.loop-item.found.items _ _ c.in_err-more.field-0.0 c.loop-item-test.true c.loop-item.invariant.taken c.in_ok-bytes.ensures.some c.deref.ensures.value c.in_err-more.ensures.told)

pub returns-in_err-more-clause-reads : goal.returns-in_err-more-clause-reads
returns-in_err-more-clause-reads g c = λ told tells.
    let known = c.loop-item.invariant.told told tells in
    reads-behind told (length c.args.paths.now) c.loop-item.item 1 _ (omega (arith, c.loop-item-test.true)) (c.read_item.ensures.reads (after_reads c.loop-item.item told) known.0)

pub returns-in_err-more-clause-cause : goal.returns-in_err-more-clause-cause
returns-in_err-more-clause-cause g c =
    let exit = err_from_is_err_and c.from_residual-in_err-more.result c.from_residual-in_err-more.ensures.1 in
    rw (exit.1, exit.2) (caused-still (Vec (List ℕ)) (Vec (List ℕ)) c.in_err-more.field-0.0 _ _ (c.in_ok-bytes.ensures.cause ∙ c.loop-item.invariant.faults) c.in_err-more.ensures.cause)

pub returns-in_err-extend_from_slice-clause-reads : goal.returns-in_err-extend_from_slice-clause-reads
returns-in_err-extend_from_slice-clause-reads g c = λ told tells.
    let known = c.loop-item.invariant.told told tells in
    reads-behind told (length c.args.paths.now) c.loop-item.item 1 _ (omega (arith, c.loop-item-test.true)) (c.read_item.ensures.reads (after_reads c.loop-item.item told) known.0)

pub returns-clause-told : goal.returns-clause-told
returns-clause-told g c = λ told tells.
    cached-done sha_hash told c.loop-item.item c.args.paths.now c.loop-item.found.items _ c.loop-item-test.false (c.loop-item.invariant.told told tells).1

pub returns-clause-some : goal.returns-clause-some
returns-clause-some g c =
    some-done sha_hash c.loop-item.item (length c.args.paths.now) c.loop-item.found.items (omega (arith, c.loop-item.auto.item-end, c.loop-item-test.false)) c.loop-item.invariant.taken

pub returns-clause-reads : goal.returns-clause-reads
returns-clause-reads g c = λ told tells.
    reads-all told (length c.args.paths.now) c.loop-item.item _ (omega (arith, c.loop-item.auto.item-end)) (c.loop-item.invariant.told told tells).0
