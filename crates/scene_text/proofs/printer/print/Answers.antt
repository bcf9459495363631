use Rattle.std.proofs.Common.{List, ℕ, sym, subst}
use Rattle.scene_text.specs.Texts.{IsScene}
use Rattle.scene_text.proofs.RoundFacts.{made_is, read_again}
use Rattle.scene_text.proofs.printer.print.Goals as goal

pub returns-clause-text : goal.returns-clause-text
returns-clause-text c =
    made_is c.args.scene.now c.in_ok-text.text.items c.put_heads.new.text.items c.put_scripts.new.text.items c.items.result.now c.items-2.result.now
    c.in_ok-text.ensures.items c.items.ensures c.items-2.ensures c.in_ok-put_heads.ensures c.in_ok-put_scripts.ensures

pub returns-clause-read_again : goal.returns-clause-read_again
returns-clause-read_again c = λ fits.
    subst (λ (text : List ℕ). IsScene text c.args.scene.now) (sym (returns-clause-text c)) (read_again c.args.scene.now fits)
