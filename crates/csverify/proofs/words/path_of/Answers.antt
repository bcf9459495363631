use Rattle.std.proofs.Common.{◌≡◌, ℕ, List, [], rules, ap, ap₂, sym, ◌∙◌, inl, inr, arith, refl, slice_index, codes, true, false, is_some}
use Rattle.std.proofs.lemmas.Result.{err_from_is_err_and}
use Rattle.clap.specs.Words.{app_of, rule_of, with_rule, is_simple, is_simple_and_free, first_value, found_of, rows_of}
use Rattle.clap.specs.Simple.{app_of_fields}
use Rattle.clap.proofs.CallerLemmas.{one_required_value}
use Rattle.clap.proofs.WalkLemmas.{first_value-rows}
use Rattle.csverify.specs.Words.{verifier, path_rule, without_name}
use Rattle.csverify.proofs.WordFacts.{path_is, words_taken, words_refused}
use Rattle.csverify.proofs.words.path_of.Goals as goal

pub returns-in_err-matches-clause-fault : goal.returns-in_err-matches-clause-fault
returns-in_err-matches-clause-fault c =
    let rule_is : rule_of c.action-path.result ≡ path_rule = search rules in
    let app_is : app_of c.in_ok-command.command ≡ verifier = c.in_ok-command.ensures.shape (search rules)
    ∙ ap₂ with_rule (ap app_of_fields c.no_binary_name.ensures ∙ ap without_name c.new-2.ensures.app) rule_is in
    let fault = words_refused (app_of c.in_ok-command.command) _ c.in_err-matches.field-0.0 app_is (c.in_err-matches.ensures.kinds (ap is_simple_and_free app_is)) in
    let gave = err_from_is_err_and c.from_residual-in_err-matches.result c.from_residual-in_err-matches.ensures.1 in
    rw (gave.1, gave.2) fault

pub unreachable-requires : goal.unreachable-requires
unreachable-requires c =
    let path_id : c.action-path.result.id.now ≡ codes "PATH" = search rules in
    let first : (t : List ℕ) → c.action-path.result.id.now ≡ t → slice_index t 0 ≡ 80 = λ t e. rw (← e, path_id) refl in
    let given = one_required_value c.no_binary_name.result c.in_ok-command.command c.action-path.result c.in_ok-matches.matches
    c.in_ok-command.ensures (search rules) (search rules) (search rules) (search rules) (search rules) (search rules) (search rules)
    (search rules) (search rules) (search rules)
    (λ e. let bad : 0 ≡ 80 = first [] e in absurd (omega arith))
    (λ auto. elim auto [
      | inl h ↦ let bad : 104 ≡ 80 = first _ h in absurd (omega arith)
      | inr h ↦ let bad : 118 ≡ 80 = first _ h in absurd (omega arith)
    ])
    c.in_ok-matches.ensures.parsed in
    let bad : false ≡ true = ap is_some c.in-None.ensures
    ∙ (ap (λ (id : List ℕ). is_some (first_value (found_of c.in_ok-matches.matches) id)) (sym path_id) ∙ given) in
    absurd cc

pub returns-clause-path : goal.returns-clause-path
returns-clause-path c =
    let rule_is : rule_of c.action-path.result ≡ path_rule = search rules in
    let app_is : app_of c.in_ok-command.command ≡ verifier = c.in_ok-command.ensures.shape (search rules)
    ∙ ap₂ with_rule (ap app_of_fields c.no_binary_name.ensures ∙ ap without_name c.new-2.ensures.app) rule_is in
    let none = c.in_ok-matches.ensures.kinds (ap is_simple_and_free app_is) in
    let found = (c.in_ok-matches.ensures.matches (ap is_simple app_is)).0 in
    path_is (app_of c.in_ok-command.command) _ (rows_of (found_of c.in_ok-matches.matches)) c.in-Some.path.now app_is none found
    (sym (first_value-rows (found_of c.in_ok-matches.matches) (codes "PATH")) ∙ sym c.in-Some.ensures)

pub returns-clause-accepted : goal.returns-clause-accepted
returns-clause-accepted c =
    let rule_is : rule_of c.action-path.result ≡ path_rule = search rules in
    let app_is : app_of c.in_ok-command.command ≡ verifier = c.in_ok-command.ensures.shape (search rules)
    ∙ ap₂ with_rule (ap app_of_fields c.no_binary_name.ensures ∙ ap without_name c.new-2.ensures.app) rule_is in
    words_taken (app_of c.in_ok-command.command) _ app_is (c.in_ok-matches.ensures.kinds (ap is_simple_and_free app_is))
