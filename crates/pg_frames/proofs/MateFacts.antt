-- Two maps of nodes that undo each other still do once a node is skipped in both, and once one is put behind a root.
use Rattle.std.proofs.Common.{◌≡◌, ◌≢◌, ℕ, ◌<◌, refl, sym, ap, ◌∙◌, inl, inr, arith}
use Rattle.std.proofs.lemmas.Bool.{cases_eq}
use Rattle.pg_frames.specs.Links.{AreMates, skipped, put_next, put_prev}
use Rattle.pg_frames.proofs.RingFacts.{skipped_node, skipped_before, skipped_other, put_next_node, put_next_root, put_next_other, put_prev_node, put_prev_first, put_prev_other}

below : (a b m : ℕ) → a ≡ b → b < m → a < m
below a b m e lt = omega (arith, e, lt)

pub mates_turned : (m : ℕ) (next prev : ℕ → ℕ) → AreMates m next prev → AreMates m prev next
mates_turned m next prev h = record { next_in = h.prev_in; prev_in = h.next_in; back = h.forth; forth = h.back }

pub mates_same : (m : ℕ) (next prev next' prev' : ℕ → ℕ) → ((i : ℕ) → i < m → next' i ≡ next i) → ((i : ℕ) → i < m → prev' i ≡ prev i) → AreMates m next prev → AreMates m next' prev'
mates_same m next prev next' prev' n p h = record {
  next_in = λ i lt. below (next' i) (next i) m (n i lt) (h.next_in i lt);
  prev_in = λ i lt. below (prev' i) (prev i) m (p i lt) (h.prev_in i lt);
  back = λ i lt. ap prev' (n i lt) ∙ p (next i) (h.next_in i lt) ∙ h.back i lt;
  forth = λ i lt. ap next' (p i lt) ∙ n (prev i) (h.prev_in i lt) ∙ h.forth i lt;
}

module _ (m : ℕ) (next prev : ℕ → ℕ) (h : AreMates m next prev) (x : ℕ) (lt : x < m) where
  skipped_in : (i : ℕ) → i < m → skipped next x i < m
  skipped_in i le = elim (cases_eq i x) [
    | inl e ↦ below (skipped next x i) x m (skipped_node next x i e) lt
    | inr ne ↦ elim (cases_eq (next i) x) [
      | inl e ↦ below (skipped next x i) (next x) m (skipped_before next x i ne e) (h.next_in x lt)
      | inr away ↦ below (skipped next x i) (next i) m (skipped_other next x i ne away) (h.next_in i le)
    ]
  ]

  skipped_back : (i : ℕ) → i < m → skipped prev x (skipped next x i) ≡ i
  skipped_back i le = elim (cases_eq i x) [
    | inl e ↦ ap (skipped prev x) (skipped_node next x i e) ∙ skipped_node prev x x refl ∙ sym e
    | inr ne ↦ elim (cases_eq (next i) x) [
      | inl e ↦
          let before : prev x ≡ i = ap prev (sym e) ∙ h.back i le in
          let other : next x ≢ x = λ same. ne (sym before ∙ ap prev (sym same) ∙ h.back x lt) in
          ap (skipped prev x) (skipped_before next x i ne e) ∙ skipped_before prev x (next x) other (h.back x lt) ∙ before
      | inr away ↦
          ap (skipped prev x) (skipped_other next x i ne away) ∙ skipped_other prev x (next i) away (λ e. ne (sym (h.back i le) ∙ e)) ∙ h.back i le
    ]
  ]

pub mates_skip : (m : ℕ) (next prev : ℕ → ℕ) → AreMates m next prev → (x : ℕ) → x < m → AreMates m (skipped next x) (skipped prev x)
mates_skip m next prev h x lt = let turned = mates_turned m next prev h in record {
  next_in = skipped_in m next prev h x lt;
  prev_in = skipped_in m prev next turned x lt;
  back = skipped_back m next prev h x lt;
  forth = skipped_back m prev next turned x lt;
}

module _ (m : ℕ) (next prev : ℕ → ℕ) (h : AreMates m next prev) (r x : ℕ) (root : r < m) (lt : x < m) (ne : r ≢ x) (alone : next x ≡ x) where
  alone_too : prev x ≡ x
  alone_too = ap prev (sym alone) ∙ h.back x lt

  next_in_put : (i : ℕ) → i < m → put_next next r x i < m
  next_in_put i le = elim (cases_eq i x) [
    | inl e ↦ below (put_next next r x i) (next r) m (put_next_node next r x i e) (h.next_in r root)
    | inr other ↦ elim (cases_eq i r) [
      | inl e ↦ below (put_next next r x i) x m (put_next_root next r x i other e) lt
      | inr away ↦ below (put_next next r x i) (next i) m (put_next_other next r x i other away) (h.next_in i le)
    ]
  ]

  prev_in_put : (i : ℕ) → i < m → put_prev prev r x i < m
  prev_in_put i le = elim (cases_eq i x) [
    | inl e ↦ below (put_prev prev r x i) r m (put_prev_node prev r x i e) root
    | inr other ↦ elim (cases_eq (prev i) r) [
      | inl e ↦ below (put_prev prev r x i) x m (put_prev_first prev r x i other e) lt
      | inr away ↦ below (put_prev prev r x i) (prev i) m (put_prev_other prev r x i other away) (h.prev_in i le)
    ]
  ]

  put_back : (i : ℕ) → i < m → put_prev prev r x (put_next next r x i) ≡ i
  put_back i le = elim (cases_eq i x) [
    | inl e ↦
        let other : next r ≢ x = λ same. ne (sym (h.back r root) ∙ ap prev same ∙ alone_too) in
        ap (put_prev prev r x) (put_next_node next r x i e) ∙ put_prev_first prev r x (next r) other (h.back r root) ∙ sym e
    | inr other ↦ elim (cases_eq i r) [
      | inl e ↦ ap (put_prev prev r x) (put_next_root next r x i other e) ∙ put_prev_node prev r x x refl ∙ sym e
      | inr away ↦
          ap (put_prev prev r x) (put_next_other next r x i other away)
          ∙ put_prev_other prev r x (next i) (λ same. other (sym (h.back i le) ∙ ap prev same ∙ alone_too)) (λ same. away (sym (h.back i le) ∙ same)) ∙ h.back i le
    ]
  ]

  put_forth : (i : ℕ) → i < m → put_next next r x (put_prev prev r x i) ≡ i
  put_forth i le = elim (cases_eq i x) [
    | inl e ↦ ap (put_next next r x) (put_prev_node prev r x i e) ∙ put_next_root next r x r ne refl ∙ sym e
    | inr other ↦ elim (cases_eq (prev i) r) [
      | inl e ↦ ap (put_next next r x) (put_prev_first prev r x i other e) ∙ put_next_node next r x x refl ∙ ap next (sym e) ∙ h.forth i le
      | inr away ↦
          ap (put_next next r x) (put_prev_other prev r x i other away)
          ∙ put_next_other next r x (prev i) (λ same. other (sym (h.forth i le) ∙ ap next same ∙ alone)) away ∙ h.forth i le
    ]
  ]

  pub mates_put : AreMates m (put_next next r x) (put_prev prev r x)
  mates_put = record { next_in = next_in_put; prev_in = prev_in_put; back = put_back; forth = put_forth }
