-- A grammar as a list of rules in their order, and the first rule that a text breaks.
use Rattle.std.specs.Prelude.{◌≡◌, Bool, cond, List, [], ◌∷◌, Option, Some, None, Result, MatchResult}

-- A rule is a test that passes where the rule is broken, and the refusal that tells of it.
abbrev pub Rule : Type 0 → Type 0
Rule R = Bool × R

-- the refusal of the first broken rule, or none where all are kept
abbrev pub first : {R : Type 0} → List (Rule R) → Option R
first [] = None
first (rule ∷ rules) = cond rule.0 (Some rule.1) (first rules)

-- a result that tries some rules: it is `Ok` where none is broken, and else the first one's refusal
abbrev pub Tries : {T R : Type 0} → List (Rule R) → Result T R → Type 0
Tries some result = MatchResult result (λ _. first some ≡ None) (λ refusal. first some ≡ Some refusal)
