use Rattle.std.proofs.Common.{ap, ◌∙◌, ◌++◌, List, ℕ}
use Rattle.std.specs.Map.Iter.{deref}
use Rattle.std.proofs.lemmas.Map.Iter.{rest_more, rest_all}
use Rattle.cs_sign.specs.Body.{word_bytes}
use Rattle.cs_sign.specs.Caches.{entry_bytes}
use Rattle.cs_sign.proofs.CacheFacts.{entry_added, entries_done, header_joined}
use Rattle.cs_sign.proofs.cacher.written.Goals as goal

pub loop-hash-init : goal.loop-hash-init
unfolding word_bytes
loop-hash-init c =
    header_joined c.args.version c.len-count.result c.args.uuid.now _ _ _ _ c.args.set.now.keys _ c.in_ok-out.ensures.items
    (c.in_ok-extend_from_slice.ensures.items ∙ ap (λ (bytes : List ℕ). c.in_ok-out.out.items ++ bytes) c.to_le_bytes.ensures)
    c.in_ok-extend_from_slice-2.ensures.items
    (c.in_ok-extend_from_slice-3.ensures.items ∙ ap (λ (bytes : List ℕ). c.extend_from_slice-2.new.self.items ++ bytes) c.to_le_bytes-2.ensures)
    c.len-count.ensures.len (c.into_iter-hash-iterator.ensures.into_iter_gives ∙ c.iter-hash-items.ensures.rest)

pub loop-hash-preserved : goal.loop-hash-preserved
loop-hash-preserved c =
    entry_added (entry_bytes c.args.version) _ _ _ c.in-Some.hash.now _ _ (rest_more deref _ _ _ c.in-Some.hash c.in-Some.is c.next.ensures.steps) c.loop-hash.invariant c.in_ok-put_entry.ensures

pub returns-clause-made : goal.returns-clause-made
returns-clause-made c =
    entries_done (entry_bytes c.args.version) _ _ _ (rest_all deref _ _ _ c.in-None.is c.next.ensures.steps) c.loop-hash.invariant
