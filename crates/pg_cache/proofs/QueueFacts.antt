-- What is seen of a queue of frames, where a map says what stands in each frame.
use Rattle.std.proofs.Common.{◌≡◌, ◌≢◌, ℕ, ◌+◌, ◌-◌, ◌==◌, List, [], ◌∷◌, ◌++◌, length, take, map, true, false, Some, None, eqb, inl, inr, refl, ap, sym, subst, ◌∙◌, arith, length-append}
use Rattle.std.specs.List.{IsDistinct}
use Rattle.std.proofs.lemmas.Grind.{common_steps}
use Rattle.std.proofs.lemmas.Bool.{cases_eq}
use Rattle.std.proofs.lemmas.List.{map-append, length-map, take-append-le, take_all}
use Rattle.pg_frames.specs.Queues.{stands, without as dequeued, EndsBy}
use Rattle.pg_frames.proofs.ListFacts.{stands_here, behind, standing, without_here, without_later, without_absent, not_both, once_first, once_rest}
use Rattle.pg_cache.specs.Held.{Held, find_held, without, changed}
use Rattle.pg_cache.proofs.HeldFacts.{find-first, find-next, without-first, without-next, changed-first, changed-next}

is_of : (h : Held) (page : ℕ) → h.page ≡ page → (h.page == page) ≡ true
is_of h page e = grind (arith, common_steps, e)

is_other : (h : Held) (page : ℕ) → h.page ≢ page → (h.page == page) ≡ false
is_other h page ne = grind (arith, common_steps, ne)

module _ (at : ℕ → Held) where
  -- the frame of the queue in which a page stands
  pub record Holds (queue : List ℕ) (page frame : ℕ) : Type 0 where
    pub queued : stands frame queue ≡ true
    pub numbered : (at frame).page ≡ page
    pub alone : (other : ℕ) → stands other queue ≡ true → (at other).page ≡ page → other ≡ frame

  later : (y : ℕ) (ys : List ℕ) (page frame : ℕ) → (at y).page ≢ page → Holds (y ∷ ys) page frame → Holds ys page frame
  later y ys page frame ne holds = record {
    queued = elim (standing frame y ys holds.queued) [ inl e ↦ absurd (ne (ap (λ k. (at k).page) (sym e) ∙ holds.numbered)) | inr h ↦ h ];
    numbered = holds.numbered;
    alone = λ other h. holds.alone other (behind other y ys h);
  }

  pub find_none : (queue : List ℕ) (page : ℕ) → ((frame : ℕ) → stands frame queue ≡ true → (at frame).page ≢ page) → find_held (map at queue) page ≡ None
  find_none [] page others = refl
  find_none (y ∷ ys) page others = find-next (at y) (map at ys) page (is_other (at y) page (others y (stands_here y y ys refl))) ∙ find_none ys page (λ frame h. others frame (behind frame y ys h))

  pub find_some : (queue : List ℕ) (page frame : ℕ) → Holds queue page frame → find_held (map at queue) page ≡ Some (at frame)
  find_some [] page frame holds = absurd (let h = holds.queued in cc)
  find_some (y ∷ ys) page frame holds = elim (cases_eq (at y).page page) [
    | inl e ↦ find-first (at y) (map at ys) page (is_of (at y) page e) ∙ ap (λ k. Some (at k)) (holds.alone y (stands_here y y ys refl) e)
    | inr ne ↦ find-next (at y) (map at ys) page (is_other (at y) page ne) ∙ find_some ys page frame (later y ys page frame ne holds)
  ]

  pub map_dequeued : (queue : List ℕ) (page frame : ℕ) → IsDistinct eqb queue → Holds queue page frame → map at (dequeued frame queue) ≡ without (map at queue) page
  map_dequeued [] page frame once holds = refl
  map_dequeued (y ∷ ys) page frame once holds = elim (cases_eq (at y).page page) [
    | inl e ↦
        let same = holds.alone y (stands_here y y ys refl) e in
        ap (map at) (without_here frame y ys (sym same) ∙ without_absent frame ys (subst (λ k. stands k ys ≡ false) same (once_first y ys once)))
        ∙ sym (without-first (at y) (map at ys) page (is_of (at y) page e))
    | inr ne ↦
        let apart : frame ≢ y = λ same. ne (ap (λ k. (at k).page) (sym same) ∙ holds.numbered) in
        ap (map at) (without_later frame y ys apart) ∙ ap (λ (l : List Held). at y ∷ l) (map_dequeued ys page frame (once_rest y ys once) (later y ys page frame ne holds))
        ∙ sym (without-next (at y) (map at ys) page (is_other (at y) page ne))
  ]

  pub map_same : (new : ℕ → Held) (queue : List ℕ) → ((frame : ℕ) → stands frame queue ≡ true → new frame ≡ at frame) → map new queue ≡ map at queue
  map_same new [] same = refl
  map_same new (y ∷ ys) same = ap (λ (h : Held). h ∷ map new ys) (same y (stands_here y y ys refl)) ∙ ap (λ (l : List Held). at y ∷ l) (map_same new ys (λ frame h. same frame (behind frame y ys h)))

  pub map_changed : (new : ℕ → Held) (change : Held → Held) (queue : List ℕ) (page frame : ℕ) → IsDistinct eqb queue → Holds queue page frame → new frame ≡ change (at frame)
      → ((other : ℕ) → other ≢ frame → new other ≡ at other) → map new queue ≡ changed change (map at queue) page
  map_changed new change [] page frame once holds here others = refl
  map_changed new change (y ∷ ys) page frame once holds here others = elim (cases_eq (at y).page page) [
    | inl e ↦
        let same = holds.alone y (stands_here y y ys refl) e in
        let absent : stands frame ys ≡ false = subst (λ k. stands k ys ≡ false) same (once_first y ys once) in
        ap (λ k. new k ∷ map new ys) same ∙ ap (λ (h : Held). h ∷ map new ys) here
        ∙ ap (λ (l : List Held). change (at frame) ∷ l) (map_same new ys (λ other h. others other (λ e'. not_both (stands frame ys) (subst (λ k. stands k ys ≡ true) e' h) absent)))
        ∙ ap (λ k. change (at k) ∷ map at ys) (sym same)
        ∙ sym (changed-first change (at y) (map at ys) page (is_of (at y) page e))
    | inr ne ↦
        let apart : y ≢ frame = λ same. ne (ap (λ k. (at k).page) same ∙ holds.numbered) in
        ap (λ (h : Held). h ∷ map new ys) (others y apart)
        ∙ ap (λ (l : List Held). at y ∷ l) (map_changed new change ys page frame (once_rest y ys once) (later y ys page frame ne holds) here others)
        ∙ sym (changed-next change (at y) (map at ys) page (is_other (at y) page ne))
  ]

  -- all but the last of the queue
  pub map_most : (queue : List ℕ) (frame n : ℕ) → EndsBy frame queue → length queue ≡ n → map at (dequeued frame queue) ≡ take (n - 1) (map at queue)
  map_most queue frame n ends long =
      let most = dequeued frame queue in
      let all : map at queue ≡ map at most ++ at frame ∷ [] = ap (map at) ends ∙ map-append at most (frame ∷ []) in
      let count : length most + 1 ≡ n = sym (length-append most (frame ∷ [])) ∙ sym (ap length ends) ∙ long in
      let less : length (map at most) ≡ n - 1 = length-map most at ∙ (omega (arith, count)) in
      sym (ap (take (n - 1)) all ∙ take-append-le (n - 1) (map at most) (at frame ∷ []) (omega (arith, less)) ∙ take_all (n - 1) (map at most) (omega (arith, less)))
