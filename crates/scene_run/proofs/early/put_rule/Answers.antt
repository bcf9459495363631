use Rattle.std.proofs.Common.{◌≡◌, ◌++◌, ℕ, List, codes, ap, ◌∙◌, append_assoc}
use Rattle.std.specs.Fmt.{decimal}
use Rattle.scene_run.proofs.early.put_rule.Goals as goal

five : (o a n d g z : List ℕ) → ((((o ++ a) ++ n) ++ d) ++ g) ++ z ≡ o ++ (a ++ (n ++ (d ++ (g ++ z))))
five o a n d g z =
    append_assoc (((o ++ a) ++ n) ++ d) g z ∙ append_assoc ((o ++ a) ++ n) d (g ++ z)
    ∙ append_assoc (o ++ a) n (d ++ (g ++ z)) ∙ append_assoc o a (n ++ (d ++ (g ++ z)))

pub returns : goal.returns
returns c =
    c.push_str-3.ensures.bytes
    ∙ ap (λ xs. xs ++ codes ".0\n") (c.put_number-2.ensures.bytes
    ∙ ap (λ xs. xs ++ decimal c.args.arg) (c.push_str-2.ensures.bytes
    ∙ ap (λ xs. xs ++ codes ".") (c.put_number.ensures.bytes
    ∙ ap (λ k. c.push_str.new.self.bytes ++ decimal k) c.from.ensures
    ∙ ap (λ xs. xs ++ decimal c.args.number) c.push_str.ensures.bytes)))
    ∙ five c.args.line.now.bytes (codes " refused: trust.") (decimal c.args.number) (codes ".") (decimal c.args.arg) (codes ".0\n")
