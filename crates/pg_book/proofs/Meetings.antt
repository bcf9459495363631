-- What two views know after a meeting.
use Rattle.std.proofs.Common.{◌≡◌, ℕ, ◌+◌, ◌<◌, Bool, true, false, cond, ◌||◌, ◌&&◌, List, [], ◌∷◌, ◌++◌, length, None, refl, sym, ap, ◌∙◌, subst, inl, inr, ⊎_elim, eqb, eq-eqb, lt-ltb}
use Rattle.pg_book.specs.declared.needs.Needs.{Needs}
use Rattle.pg_book.specs.declared.receipt.Receipt.{Receipt}
use Rattle.pg_book.specs.declared.view.Name.{Name}
use Rattle.pg_book.specs.declared.view.View.{View}
use Rattle.pg_book.specs.Needs.{parts_of, names_of}
use Rattle.pg_book.specs.Lists.{Among, IsPrefix, is_above, has_stamp}
use Rattle.pg_book.specs.Views.{name_at, list_at, caller_name, caller_list, Holds, Sound}
use Rattle.pg_book.specs.Kinds.{note, looked, merged, merged_views, due_still, grown, joined}
use Rattle.pg_book.specs.Tells.{Sees}
use Rattle.pg_book.specs.Steps.{HasLooked}
use Rattle.pg_book.specs.Models.{IsSpineView, IsPassView}
use Rattle.pg_book.specs.Knowing.{IsKnownTo}
use Rattle.pg_book.proofs.ListFacts.{prefix_among}
use Rattle.pg_book.proofs.ViewFacts.{note_name, note_list}
use Rattle.pg_book.proofs.SplitStep.{note_sound}
use Rattle.pg_book.proofs.JoinStep.{merged_name}

or_false : (b : Bool) → (b || false) ≡ b
or_false true = refl
or_false false = refl

module _ {E : Type 0} where
  pub all_above : (n : ℕ) (xs : List (Receipt E)) → ((r : Receipt E) → Among r xs → r.stamp < n) → is_above n xs ≡ true
  all_above n [] h = refl
  all_above n (x ∷ xs) h = ap (λ (b : Bool). b && is_above n xs) (lt-ltb x.stamp n (h x (inl refl))) ∙ all_above n xs (λ r a. h r (inr a))

  pub has_last : (xs : List (Receipt E)) (r : Receipt E) → has_stamp r.stamp (xs ++ r ∷ []) ≡ true
  has_last [] r = ap (λ (b : Bool). b || false) (eq-eqb r.stamp r.stamp refl)
  has_last (x ∷ xs) r = ap (λ (b : Bool). eqb x.stamp r.stamp || b) (has_last xs r) ∙ or_true (eqb x.stamp r.stamp)
    where
      or_true : (b : Bool) → (b || true) ≡ true
      or_true true = refl
      or_true false = refl

  -- a view joined with one that sent nothing, after a peek
  pub record HasJoined (v s w : View E) : Type 0 where
    pub same : s.needs ≡ v.needs
    pub needs : w.needs ≡ v.needs
    pub sound : Sound w
    pub sees : Sees w
    pub due : w.due ≡ due_still v.due s
    pub sent : w.sent ≡ v.sent
    pub name : (k : ℕ) → name_at w k ≡ merged (name_at v k) (name_at s k)
    pub kept : (k : ℕ) → IsPrefix (list_at v k) (list_at w k)
    pub told : (k : ℕ) → IsPrefix (list_at s k) (list_at w k)

  pub has_joined : (v s w : View E) → Sound v → Sound s → s.sent ≡ None → HasLooked (joined v s) w → HasJoined v s w
  has_joined v s w sv ss unsent h = record {
    same = same;
    needs = needs;
    sound = h.sound;
    sees = h.sees;
    due = ap (λ (x : View E). x.due) view;
    sent = ap (λ (x : View E). x.sent) view;
    name = name;
    kept = λ k. subst (λ (l : List (Receipt E)). IsPrefix l (list_at w k)) (ap (λ (n : Name E). n.former) (name k)) (h.sound.former k);
    told = λ k. subst (λ (l : List (Receipt E)). IsPrefix l (list_at w k)) (ap (λ (n : Name E). n.former_other) (name k)) (h.sound.former_other k);
  }
    where
      view : w ≡ looked (merged_views v s) h.found
      view = h.view ∙ ap (λ o. looked (grown (merged_views v s) o) h.found) unsent

      needs : w.needs ≡ v.needs
      needs = ap (λ (x : View E). x.needs) view

      same : s.needs ≡ v.needs
      same = sym (ap (λ (x : View E). x.other_needs) view) ∙ h.sound.same_needs ∙ needs

      name : (k : ℕ) → name_at w k ≡ merged (name_at v k) (name_at s k)
      name k = ap (λ (x : View E). name_at x k) view ∙ merged_name v s k (sv.whole ∙ ap names_of (sym same) ∙ sym ss.whole)

  -- the names after a note was taken in
  pub record TakesNote (v s : View E) (names : ℕ → Name E) : Type 0 where
    pub held : (k : ℕ) → (names k).held ≡ (name_at v k).held
    pub own : (k : ℕ) → Holds v k → (names k).list ≡ list_at v k

  pub takes_note : (v s : View E) (names : ℕ → Name E) → ((k : ℕ) → names k ≡ merged (name_at v k) (name_at (note s) k)) → TakesNote v s names
  takes_note v s names h = record {
    held = λ k. ap (λ (n : Name E). n.held) (h k) ∙ ap (λ (b : Bool). (name_at v k).held || b) (ap (λ (n : Name E). n.held) (note_name s k)) ∙ or_false _;
    own = λ k holds. ap (λ (n : Name E). n.list) (h k) ∙ ap (λ (b : Bool). cond b (list_at v k) (merged_rest k)) holds;
  }
    where
      merged_rest : ℕ → List (Receipt E)
      merged_rest k = (merged record { held = false; list = (name_at v k).list; former = []; former_other = [] } (name_at (note s) k)).list

  -- what a meeting leaves: the pass knows all that it and the spine knew, and its own list is as it was
  pub record HasMet (part caller : ℕ) (s p q : View E) : Type 0 where
    pub view : IsPassView caller q
    pub kept : IsKnownTo p q
    pub told : IsKnownTo s q
    pub own : caller_list q caller ≡ caller_list p caller
    pub met : (r : Receipt E) → Among r (list_at s part) → r.caller ≡ caller → Among r (caller_list q caller)

  -- what the pass knows after a meeting
  pub met : (part caller : ℕ) (s p q : View E) → IsSpineView part s → IsPassView caller p → HasLooked (joined p (note s)) q → HasMet part caller s p q
  met part caller s p q ss pp h = record {
    view = record {
      ready = record { sound = k.sound; settled = k.due ∙ ap (λ d. due_still d (note s)) pp.ready.settled; unsent = k.sent ∙ pp.ready.unsent };
      is_caller = subst (λ (n : List (List Needs)). caller < length n) (sym k.needs) pp.is_caller;
      holds = subst (λ (n : List (List Needs)). Holds q (parts_of n + caller)) (sym k.needs) (t.held _ ∙ pp.holds);
      only = λ j held. pp.only j (sym (t.held j) ∙ held) ∙ ap (λ (n : List (List Needs)). parts_of n + caller) (sym k.needs);
    };
    kept = record { needs = k.needs; lists = k.kept };
    told = record { needs = k.needs ∙ sym k.same; lists = told };
    own = own;
    met = λ r a e. subst (λ (l : List (Receipt E)). Among r l) (ap (λ (n : List (List Needs)). list_at q (parts_of n + caller)) (k.same ∙ sym k.needs)) (prefix_among r _ _ (told (caller_name s caller)) (subst (λ (c : ℕ). Among r (caller_list s c)) e (settled r a)));
  }
    where
      k : HasJoined p (note s) q
      k = has_joined p (note s) q pp.ready.sound (note_sound s ss.ready.sound) ss.ready.settled h

      t : TakesNote p s (name_at q)
      t = takes_note p s (name_at q) k.name

      told : (j : ℕ) → IsPrefix (list_at s j) (list_at q j)
      told j = subst (λ (l : List (Receipt E)). IsPrefix l (list_at q j)) (note_list s j) (k.told j)

      own : caller_list q caller ≡ caller_list p caller
      own = ap (λ (n : List (List Needs)). list_at q (parts_of n + caller)) k.needs ∙ t.own _ pp.holds

      settled : (r : Receipt E) → Among r (list_at s part) → Among r (caller_list s r.caller)
      settled r a = ⊎_elim (λ d. absurd (cc (d, ss.ready.settled))) (λ d. d) (ss.ready.sound.settled part r ss.is_part ss.holds a)
