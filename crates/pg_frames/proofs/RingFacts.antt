-- The rings of a map of nodes once a node is skipped, and once one is put behind a root.
use Rattle.std.proofs.Common.{◌≡◌, ◌≢◌, ℕ, zero, suc, ◌<◌, ◌≤◌, true, false, cond, eqb, List, [], ◌∷◌, length, refl, sym, ap, ◌∙◌, subst, inl, inr, arith}
use Rattle.std.specs.List.{IsDistinct}
use Rattle.std.proofs.lemmas.Bool.{eq-eqb, cases_eq}
use Rattle.pg_frames.specs.Queues.{stands, without}
use Rattle.pg_frames.specs.Links.{walk, ring, Chain, IsRing, skipped, put_next, put_prev}
use Rattle.pg_frames.proofs.ListFacts.{ne_eqb, stands_here, stands_later, absent_first, absent_rest, absent_past, without_here, without_later, without_absent, once_first, once_rest, length_below}

-- ---- the three maps, by cases
pub skipped_node : (link : ℕ → ℕ) (x i : ℕ) → i ≡ x → skipped link x i ≡ x
skipped_node link x i e = ap (λ b. cond b x (cond (eqb (link i) x) (link x) (link i))) (eq-eqb i x e)

pub skipped_before : (link : ℕ → ℕ) (x i : ℕ) → i ≢ x → link i ≡ x → skipped link x i ≡ link x
skipped_before link x i ne e = ap (λ b. cond b x (cond (eqb (link i) x) (link x) (link i))) (ne_eqb i x ne) ∙ ap (λ b. cond b (link x) (link i)) (eq-eqb (link i) x e)

pub skipped_other : (link : ℕ → ℕ) (x i : ℕ) → i ≢ x → link i ≢ x → skipped link x i ≡ link i
skipped_other link x i ne away = ap (λ b. cond b x (cond (eqb (link i) x) (link x) (link i))) (ne_eqb i x ne) ∙ ap (λ b. cond b (link x) (link i)) (ne_eqb (link i) x away)

pub put_next_node : (next : ℕ → ℕ) (r x i : ℕ) → i ≡ x → put_next next r x i ≡ next r
put_next_node next r x i e = ap (λ b. cond b (next r) (cond (eqb i r) x (next i))) (eq-eqb i x e)

pub put_next_root : (next : ℕ → ℕ) (r x i : ℕ) → i ≢ x → i ≡ r → put_next next r x i ≡ x
put_next_root next r x i ne e = ap (λ b. cond b (next r) (cond (eqb i r) x (next i))) (ne_eqb i x ne) ∙ ap (λ b. cond b x (next i)) (eq-eqb i r e)

pub put_next_other : (next : ℕ → ℕ) (r x i : ℕ) → i ≢ x → i ≢ r → put_next next r x i ≡ next i
put_next_other next r x i ne away = ap (λ b. cond b (next r) (cond (eqb i r) x (next i))) (ne_eqb i x ne) ∙ ap (λ b. cond b x (next i)) (ne_eqb i r away)

pub put_prev_node : (prev : ℕ → ℕ) (r x i : ℕ) → i ≡ x → put_prev prev r x i ≡ r
put_prev_node prev r x i e = ap (λ b. cond b r (cond (eqb (prev i) r) x (prev i))) (eq-eqb i x e)

pub put_prev_first : (prev : ℕ → ℕ) (r x i : ℕ) → i ≢ x → prev i ≡ r → put_prev prev r x i ≡ x
put_prev_first prev r x i ne e = ap (λ b. cond b r (cond (eqb (prev i) r) x (prev i))) (ne_eqb i x ne) ∙ ap (λ b. cond b x (prev i)) (eq-eqb (prev i) r e)

pub put_prev_other : (prev : ℕ → ℕ) (r x i : ℕ) → i ≢ x → prev i ≢ r → put_prev prev r x i ≡ prev i
put_prev_other prev r x i ne away = ap (λ b. cond b r (cond (eqb (prev i) r) x (prev i))) (ne_eqb i x ne) ∙ ap (λ b. cond b x (prev i)) (ne_eqb (prev i) r away)

-- ---- chains
module _ (next : ℕ → ℕ) (x : ℕ) where
  -- a chain without the node stays
  chain_kept : (from : ℕ) (list : List ℕ) (to : ℕ) → from ≢ x → to ≢ x → stands x list ≡ false → Chain next from list to → Chain (skipped next x) from list to
  chain_kept from [] to ne end absent chain = skipped_other next x from ne (λ e. end (sym chain ∙ e)) ∙ chain
  chain_kept from (y ∷ ys) to ne end absent chain =
      let other : y ≢ x = λ e. absent_first x y ys absent (sym e) in
      (skipped_other next x from ne (λ e. other (sym chain.0 ∙ e)) ∙ chain.0, chain_kept y ys to other end (absent_rest x y ys absent) chain.1)

  -- where the node is the next, the chain goes on behind it
  chain_over : (from : ℕ) (list : List ℕ) (to : ℕ) → from ≢ x → to ≢ x → next from ≡ x → stands x list ≡ false → Chain next x list to → Chain (skipped next x) from list to
  chain_over from [] to ne end here absent chain = skipped_before next x from ne here ∙ chain
  chain_over from (y ∷ ys) to ne end here absent chain =
      (skipped_before next x from ne here ∙ chain.0, chain_kept y ys to (λ e. absent_first x y ys absent (sym e)) end (absent_rest x y ys absent) chain.1)

  pub chain_skips : (from : ℕ) (list : List ℕ) (to : ℕ) → from ≢ x → to ≢ x → IsDistinct eqb list → Chain next from list to → Chain (skipped next x) from (without x list) to
  chain_skips from [] to ne end once chain = skipped_other next x from ne (λ e. end (sym chain ∙ e)) ∙ chain
  chain_skips from (y ∷ ys) to ne end once chain = elim (cases_eq x y) [
    | inl e ↦
        let absent : stands x ys ≡ false = subst (λ k. stands k ys ≡ false) (sym e) (once_first y ys once) in
        subst (λ l. Chain (skipped next x) from l to) (sym (without_here x y ys e ∙ without_absent x ys absent))
        (chain_over from ys to ne end (chain.0 ∙ sym e) absent (subst (λ k. Chain next k ys to) (sym e) chain.1))
    | inr apart ↦
        let other : y ≢ x = λ e. apart (sym e) in
        subst (λ l. Chain (skipped next x) from l to) (sym (without_later x y ys apart))
        (skipped_other next x from ne (λ e. other (sym chain.0 ∙ e)) ∙ chain.0, chain_skips y ys to other end (once_rest y ys once) chain.1)
  ]

module _ (next : ℕ → ℕ) (r x : ℕ) where
  -- a chain that meets neither the root nor the node stays
  pub chain_away : (from : ℕ) (list : List ℕ) (to : ℕ) → from ≢ x → from ≢ r → stands x list ≡ false → stands r list ≡ false → Chain next from list to → Chain (put_next next r x) from list to
  chain_away from [] to nx nr ax ar chain = put_next_other next r x from nx nr ∙ chain
  chain_away from (y ∷ ys) to nx nr ax ar chain = (
    put_next_other next r x from nx nr ∙ chain.0,
    chain_away y ys to (λ e. absent_first x y ys ax (sym e)) (λ e. absent_first r y ys ar (sym e)) (absent_rest x y ys ax) (absent_rest r y ys ar) chain.1,
  )

  from_node : (list : List ℕ) (to : ℕ) → stands x list ≡ false → stands r list ≡ false → Chain next r list to → Chain (put_next next r x) x list to
  from_node [] to ax ar chain = put_next_node next r x x refl ∙ chain
  from_node (y ∷ ys) to ax ar chain = (
    put_next_node next r x x refl ∙ chain.0,
    chain_away y ys to (λ e. absent_first x y ys ax (sym e)) (λ e. absent_first r y ys ar (sym e)) (absent_rest x y ys ax) (absent_rest r y ys ar) chain.1,
  )

  -- the root's own chain has the node first
  pub chain_put : (list : List ℕ) (to : ℕ) → r ≢ x → stands x list ≡ false → stands r list ≡ false → Chain next r list to → Chain (put_next next r x) r (x ∷ list) to
  chain_put list to ne ax ar chain = (put_next_root next r x r ne refl, from_node list to ax ar chain)

later : (k y : ℕ) (ys : List ℕ) → stands k ys ≡ true → stands k (y ∷ ys) ≡ true
later k y ys h = elim (cases_eq k y) [ inl e ↦ stands_here k y ys e | inr ne ↦ stands_later k y ys ne ∙ h ]

-- maps that agree on the nodes of a chain
pub chain_same : (m : ℕ) (next after : ℕ → ℕ) → ((i : ℕ) → i < m → after i ≡ next i) → (from : ℕ) (list : List ℕ) (to : ℕ) → from < m → ((k : ℕ) → stands k list ≡ true → k < m)
    → Chain next from list to → Chain after from list to
chain_same m next after same from [] to lt below chain = same from lt ∙ chain
chain_same m next after same from (y ∷ ys) to lt below chain =
    (same from lt ∙ chain.0, chain_same m next after same y ys to (below y (stands_here y y ys refl)) (λ k h. below k (later k y ys h)) chain.1)

-- ---- the walk reads a chain off
pub walk-from_chain : (most : ℕ) (next : ℕ → ℕ) (root from : ℕ) (list : List ℕ) → Chain next from list root → stands root list ≡ false → length list ≤ most → walk most next root (next from) ≡ list
walk-from_chain zero next root from [] chain absent le = refl
walk-from_chain (suc most) next root from [] chain absent le = ap (λ b. cond b [] (next from ∷ walk most next root (next (next from)))) (eq-eqb (next from) root chain)
walk-from_chain zero next root from (y ∷ ys) chain absent le = absurd (omega arith)
walk-from_chain (suc most) next root from (y ∷ ys) chain absent le =
    let other : y ≢ root = λ e. absent_first root y ys absent (sym e) in
    ap (walk (suc most) next root) chain.0 ∙ ap (λ b. cond b [] (y ∷ walk most next root (next y))) (ne_eqb y root other)
    ∙ ap (λ l. y ∷ l) (walk-from_chain most next root y ys chain.1 (absent_rest root y ys absent) (omega (arith, le)))

pub ring_is : (count : ℕ) (next : ℕ → ℕ) (root : ℕ) (list : List ℕ) → count ≤ root → IsRing count next root list → ring count next root ≡ list
ring_is count next root list past is =
    walk-from_chain count next root root list is.chain (absent_past count root list is.in_range past) (length_below list count is.once is.in_range)
