use Rattle.std.proofs.Common.{refl, ◌∙◌, arith}
use Rattle.std.proofs.lemmas.List.{take_at}
use Rattle.cs_sign.specs.Body.{body}
use Rattle.cs_sign.proofs.body.body.Goals as goal

pub returns : goal.returns
unfolding body
returns c =
    take_at c.resize.new.bytes _ _ (omega arith) ∙ c.resize.ensures
    ∙ rw (c.deref_mut.ensures.value, c.in_ok-extend_from_slice.ensures.items, c.in_ok-made.ensures.items, c.vmsize-vmsize.ensures) refl
