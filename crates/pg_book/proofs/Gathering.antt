-- Views that are taken in one after another.
use Rattle.std.proofs.Common.{◌≡◌, ◌⊎◌, ℕ, suc, ◌+◌, Bool, true, false, cond, ◌||◌, List, [], ◌∷◌, ◌++◌, length, map, refl, sym, ap, ◌∙◌, subst, inl, inr, ⊎_elim, arith, length-append, append_assoc}
use Rattle.pg_book.specs.declared.needs.Needs.{Needs}
use Rattle.pg_book.specs.declared.view.Name.{Name}
use Rattle.pg_book.specs.declared.view.View.{View}
use Rattle.pg_book.specs.Needs.{parts_of}
use Rattle.pg_book.specs.Lists.{IsPrefix, longer}
use Rattle.pg_book.specs.Views.{name_at, list_at, Holds}
use Rattle.pg_book.specs.Kinds.{joined, due_still}
use Rattle.pg_book.specs.Steps.{HasLooked}
use Rattle.pg_book.specs.Models.{SpineOf, PassOf, spine_receipts, IsReady, IsBookView}
use Rattle.pg_book.specs.Gathering.{Taken, Gathered, TakesSpine, TakesPass, HasParts, TakesPasses, spine_views, pass_views}
use Rattle.pg_book.specs.Closing.{flat}
use Rattle.pg_book.proofs.ListFacts.{prefix_trans}
use Rattle.pg_book.proofs.Placing.{each_push, each_map}
use Rattle.pg_book.proofs.Meetings.{HasJoined, has_joined}

one_true : (b c : Bool) → (b || c) ≡ true → (b ≡ true) ⊎ (c ≡ true)
one_true true c h = inl refl
one_true false c h = inr h

pub map_push : {A B : Type 0} (f : A → B) (xs : List A) (x : A) → map f (xs ++ x ∷ []) ≡ map f xs ++ f x ∷ []
map_push f [] x = refl
map_push f (y ∷ xs) x = ap (λ l. f y ∷ l) (map_push f xs x)

pub map_join : {A B : Type 0} (f : A → B) (xs ys : List A) → map f (xs ++ ys) ≡ map f xs ++ map f ys
map_join f [] ys = refl
map_join f (y ∷ xs) ys = ap (λ l. f y ∷ l) (map_join f xs ys)

module _ {E : Type 0} where
  pub flat_join : (xs ys : List (SpineOf E)) → flat (xs ++ ys) ≡ flat xs ++ flat ys
  flat_join [] ys = refl
  flat_join (x ∷ xs) ys = ap (λ l. spine_receipts x ++ l) (flat_join xs ys) ∙ sym (append_assoc (spine_receipts x) (flat xs) (flat ys))

  pub gathers_none : (needs : List (List Needs)) (v : View E) → v.needs ≡ needs → IsBookView v → Gathered needs [] v
  gathers_none needs v e b = record { ready = b.ready; needs_are = e; held = λ k h. absurd (b.nothing k h); each = tt }

  pub gathers : (needs : List (List Needs)) (xs : List (View E)) (v x w : View E) (n : ℕ) → Gathered needs xs v → IsReady x → n ≡ length xs → (x.needs ≡ needs → Holds x n × ((k : ℕ) → Holds x k → k ≡ n)) → HasLooked (joined v x) w → Gathered needs (xs ++ x ∷ []) w
  gathers needs xs v x w n g ready at only h = record {
    ready = record { sound = k.sound; settled = k.due ∙ ap (λ d. due_still d x) g.ready.settled; unsent = k.sent ∙ g.ready.unsent };
    needs_are = k.needs ∙ g.needs_are;
    held = λ j holds. ⊎_elim (λ (b : Holds v j). let c = g.held j b in omega (arith, length-append xs (x ∷ []))) (λ (b : Holds x j). let c = own.1 j b in omega (arith, length-append xs (x ∷ []))) (one_true _ _ (sym (ap (λ (m : Name E). m.held) (k.name j)) ∙ holds));
    each = each_push (λ i y. Taken i y w) 0 n xs x (each_map (λ i y. Taken i y v) (λ i y. Taken i y w) 0 xs stays g.each) (omega (arith, at)) here;
  }
    where
      k : HasJoined v x w
      k = has_joined v x w g.ready.sound ready.sound ready.unsent h

      own : Holds x n × ((k : ℕ) → Holds x k → k ≡ n)
      own = only (k.same ∙ g.needs_are)

      new : (name_at v n).held ≡ false
      new = pick (name_at v n).held refl
        where
          pick : (b : Bool) → (name_at v n).held ≡ b → (name_at v n).held ≡ false
          pick false e = e
          pick true e = absurd (let c = g.held n e in omega arith)

      here : Taken n x w
      here = record {
        holds = ap (λ (m : Name E). m.held) (k.name n) ∙ ap (λ (b : Bool). b || (name_at x n).held) new ∙ own.0;
        list = ap (λ (m : Name E). m.list) (k.name n) ∙ ap (λ (b : Bool). cond b (list_at v n) (cond (name_at x n).held (list_at x n) (longer (list_at v n) (list_at x n)))) new ∙ ap (λ (b : Bool). cond b (list_at x n) (longer (list_at v n) (list_at x n))) own.0;
        knows = record { needs = k.needs ∙ sym k.same; lists = k.told };
      }

      stays : (i : ℕ) (y : View E) → Taken i y v → Taken i y w
      stays i y t = record {
        holds = ap (λ (m : Name E). m.held) (k.name i) ∙ ap (λ (b : Bool). b || (name_at x i).held) t.holds;
        list = ap (λ (m : Name E). m.list) (k.name i) ∙ ap (λ (b : Bool). cond b (list_at v i) (cond (name_at x i).held (list_at x i) (longer (list_at v i) (list_at x i)))) t.holds ∙ t.list;
        knows = record { needs = k.needs ∙ t.knows.needs; lists = λ j. prefix_trans _ _ _ (t.knows.lists j) (k.kept j) };
      }

  pub gathers_spine : (needs : List (List Needs)) (done : List (SpineOf E)) (s : SpineOf E) (v w : View E) → Gathered needs (spine_views done) v → s.part ≡ length done → TakesSpine s v w → Gathered needs (spine_views (done ++ s ∷ [])) w
  gathers_spine needs done s v w g at t =
      subst (λ (l : List (View E)). Gathered needs l w) (sym (map_push (λ (x : SpineOf E). x.view) done s))
      (gathers needs (spine_views done) v s.view w s.part g t.view.ready (at ∙ sym (length-views done)) (λ _. (t.view.holds, t.view.only)) t.looked)
    where
      length-views : (l : List (SpineOf E)) → length (spine_views l) ≡ length l
      length-views [] = refl
      length-views (x ∷ xs) = ap suc (length-views xs)

  pub gathers_pass : (needs : List (List Needs)) (xs : List (View E)) (done : List (PassOf E)) (p : PassOf E) (v w : View E) → length xs ≡ parts_of needs → Gathered needs (xs ++ pass_views done) v → p.caller ≡ length done → TakesPass p v w → Gathered needs (xs ++ pass_views (done ++ p ∷ [])) w
  gathers_pass needs xs done p v w count g at t =
      subst (λ (l : List (View E)). Gathered needs l w) (append_assoc xs (pass_views done) (p.view ∷ []) ∙ ap (λ l. xs ++ l) (sym (map_push (λ (x : PassOf E). x.view) done p)))
      (gathers needs (xs ++ pass_views done) v p.view w (parts_of needs + p.caller) g t.view.ready (omega (arith, length-append xs (pass_views done), length-views done, count, at)) (λ e. (ap (λ (n : List (List Needs)). (name_at p.view (parts_of n + p.caller)).held) (sym e) ∙ t.view.holds, λ k h. t.view.only k h ∙ ap (λ (n : List (List Needs)). parts_of n + p.caller) e)) t.looked)
    where
      length-views : (l : List (PassOf E)) → length (pass_views l) ≡ length l
      length-views [] = refl
      length-views (x ∷ xs) = ap suc (length-views xs)

  -- a last look
  pub looked_gathered : (needs : List (List Needs)) (xs : List (View E)) (v w : View E) → Gathered needs xs v → HasLooked v w → Gathered needs xs w
  looked_gathered needs xs v w g h = record {
    ready = record { sound = h.sound; settled = ap (λ (x : View E). x.due) h.view ∙ g.ready.settled; unsent = ap (λ (x : View E). x.sent) h.view ∙ g.ready.unsent };
    needs_are = ap (λ (x : View E). x.needs) h.view ∙ g.needs_are;
    held = λ k b. g.held k (ap (λ (x : View E). (name_at x k).held) (sym h.view) ∙ b);
    each = each_map (λ i y. Taken i y v) (λ i y. Taken i y w) 0 xs (λ i y t. record {
      holds = ap (λ (x : View E). (name_at x i).held) h.view ∙ t.holds;
      list = ap (λ (x : View E). list_at x i) h.view ∙ t.list;
      knows = record { needs = ap (λ (x : View E). x.needs) h.view ∙ t.knows.needs; lists = λ j. subst (λ (x : View E). IsPrefix (list_at y j) (list_at x j)) (sym h.view) (t.knows.lists j) };
    }) g.each;
  }

  -- all parts are taken in
  pub has_parts : (needs : List (List Needs)) (spines : List (SpineOf E)) (v : View E) → length spines ≡ parts_of needs → Gathered needs (spine_views spines) v → HasParts v
  has_parts needs spines v count g = record {
    views = spine_views spines;
    count = length-views spines ∙ count ∙ ap parts_of (sym g.needs_are);
    gathered = subst (λ (n : List (List Needs)). Gathered n (spine_views spines) v) (sym g.needs_are) g;
  }
    where
      length-views : (l : List (SpineOf E)) → length (spine_views l) ≡ length l
      length-views [] = refl
      length-views (x ∷ xs) = ap suc (length-views xs)

  -- and all callers behind them
  pub has_all : (needs : List (List Needs)) (spines : List (SpineOf E)) (passes : List (PassOf E)) (v w : View E) (count : length spines ≡ parts_of needs) (g : Gathered needs (spine_views spines) v) → TakesPasses passes v w → Gathered needs (spine_views spines ++ pass_views passes) w
  unfolding has_parts
  has_all needs spines passes v w count g t =
      let p = has_parts needs spines v count g in
      subst (λ (n : List (List Needs)). Gathered n (spine_views spines ++ pass_views passes) w) g.needs_are (t (spine_views spines) p.count p.gathered)
