use Rattle.std.proofs.Common.{ap, ◌∙◌, nat_eq, bit_and}
use Rattle.std.proofs.lemmas.Nat.{and_assoc}
use Rattle.cs_directory.specs.Directory.{flag_mask}
use Rattle.pg_calls.proofs.attaching.is_adhoc.Goals as goal

-- the mask has the flag
pub returns : goal.returns
returns c = ap (λ n. nat_eq n 2)
    (ap (λ n. bit_and n 2) (c.flags.ensures ∙ ap (λ d. bit_and d.flags flag_mask) c.best.ensures)
    ∙ and_assoc 2 c.args.blob.now.best.flags flag_mask)
