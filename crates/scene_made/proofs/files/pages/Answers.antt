use Rattle.std.proofs.Common.{◌++◌, ℕ, List, ap, ◌∙◌}
use Rattle.pg_digest.specs.Digests.{sha_hash}
use Rattle.pg_digest.specs.declared.kinds.HashKind.TheVariants.{Sha256}
use Rattle.scene_made.specs.Made.{page_of}
use Rattle.scene_made.proofs.GrownFacts.{body_begun, slots_begun, piece_added, pieces_done}
use Rattle.scene_made.proofs.files.pages.Goals as goal

pub loop-number-init : goal.loop-number-init
loop-number-init c = record {
  body = body_begun c.args.n c.args.file _ c.in_ok-body.ensures.items;
  slots = slots_begun sha_hash c.args.n c.args.file _ c.in_ok-slots.ensures.items;
}

pub loop-number-preserved : goal.loop-number-preserved
loop-number-preserved c =
    let n = c.args.n in
    let file = c.args.file in
    record {
      body = piece_added (page_of n file) _ _ _ c.loop-number.number 64 c.loop-number-test.true c.loop-number.invariant.body
          (c.in_ok-extend_from_slice.ensures.items ∙ ap (λ (x : List ℕ). c.loop-number.body.items ++ x) (c.deref.ensures.value ∙ c.in_ok-bytes.ensures));
      slots = piece_added (λ (page : ℕ). sha_hash Sha256 (page_of n file page)) _ _ _ c.loop-number.number 64 c.loop-number-test.true c.loop-number.invariant.slots
          (c.in_ok-extend_from_slice-2.ensures.items ∙ ap (λ (x : List ℕ). c.loop-number.slots.items ++ x)
          (c.digest_bytes.ensures.value ∙ c.hash.ensures.value ∙ ap (λ (x : List ℕ). sha_hash Sha256 x) (c.deref-in-loop-number.ensures.value ∙ c.in_ok-bytes.ensures)));
    }

pub returns-clause-body : goal.returns-clause-body
returns-clause-body c = pieces_done (page_of c.args.n c.args.file) _ _ _ 64 c.loop-number-test.false c.loop-number.invariant.body

pub returns-clause-slots : goal.returns-clause-slots
returns-clause-slots c = pieces_done (λ (page : ℕ). sha_hash Sha256 (page_of c.args.n c.args.file page)) _ _ _ 64 c.loop-number-test.false c.loop-number.invariant.slots
