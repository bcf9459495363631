-- A legal history is fixed by its scripts and by the order in which their workers made its entries.
use Rattle.std.proofs.Common.{inl, inr, ◌≡◌, ℕ, zero, suc, ◌+◌, ◌<◌, ◌≤◌, ◌==◌, Bool, true, false, List, [], ◌∷◌, ◌++◌, length, Option, Some, None, refl, ap, sym, subst, ◌∙◌, arith}
use Rattle.std.specs.Prelude.{slice_get}
use Rattle.std.specs.Option.{option_map}
use Rattle.std.proofs.lemmas.Grind.{common_steps}
use Rattle.std.proofs.lemmas.Bool.{cases_lt}
use Rattle.std.proofs.lemmas.Bool.Decides.{nat_tests}
use Rattle.std.proofs.lemmas.List.{append-nil}
use Rattle.pg_digest.specs.Kinds.{Hash}
use Rattle.cs_policy.specs.declared.call.Call.{Call}
use Rattle.cs_policy.specs.declared.entry.Event.{Event}
use Rattle.cs_policy.specs.declared.entry.Reply.{Reply}
use Rattle.cs_policy.specs.declared.entry.Who.{Who}
use Rattle.cs_policy.specs.declared.entry.Place.{Place}
use Rattle.cs_policy.specs.Entry.{part_number}
use Rattle.pg_history.specs.Machine.{Line, Machine, step, reply_to}
use Rattle.pg_history.specs.Opening.{Numbers}
use Rattle.pg_history.specs.Calls.{Asked}
use Rattle.pg_history.specs.Legal.{Follows, AreOf, Scripted, AreScripted, AgreesIn, entries_by, script_at}

-- ---- the next entry of a worker

-- the same worker's call asks for the same event
pub record AsksAlike (e f : Line) : Type 0 where
  pub who : e.entry.who ≡ f.entry.who
  pub place : e.entry.place ≡ f.entry.place
  pub event : e.entry.event ≡ f.entry.event

none_left : {A : Type 0} (a : A) → ◌≡◌ {A = Option A} None (Some a) → ⊥
none_left a e = absurd (grind (arith, common_steps, e))

heads : {A : Type 0} {x y : A} {xs ys : List A} → (x ∷ xs) ≡ (y ∷ ys) → (x ≡ y) × (xs ≡ ys)
heads same = (grind (arith, common_steps, same), grind (arith, common_steps, same))

apart : {A : Type 0} (x : A) (xs : List A) → (x ∷ xs) ≡ [] → ⊥
apart x xs same = absurd (grind (arith, common_steps, same))

behind : {A : Type 0} (xs : List A) (x : A) (ys : List A) → xs ++ x ∷ ys ≡ [] → ⊥
behind [] x ys same = apart x ys same
behind (a ∷ xs) x ys same = apart a (xs ++ x ∷ ys) same

module _ (hash : Hash) (numbers : Numbers) (worker : ℕ) where
  asked_alike : (number : ℕ) (call : Call) (made : List Line) (e f : Line) (own others : List Line) → AreOf worker number (e ∷ own) → AreOf worker number (f ∷ others)
      → Follows hash numbers call made (e ∷ own) → Follows hash numbers call made (f ∷ others) → AsksAlike e f
  asked_alike number call made e f own others a b x y =
      let same : (e.entry.place, e.entry.event) ≡ (f.entry.place, f.entry.event) = inside (sym x.0 ∙ y.0) in
      record { who = a.0 ∙ sym b.0; place = ap (λ (p : Asked). p.0) same; event = ap (λ (p : Asked). p.1) same }
    where
      inside : {p q : Asked} → Some p ≡ Some q → p ≡ q
      inside same = grind (arith, common_steps, same)

  -- the entries of one call, whose others may come next
  in_call : (number : ℕ) (call : Call) (made before : List Line) (e f : Line) (es fs own others own' others' : List Line)
      → AreOf worker number own → AreOf worker number own' → Follows hash numbers call made own → Follows hash numbers call made own'
      → before ++ e ∷ es ≡ own ++ others → before ++ f ∷ fs ≡ own' ++ others'
      → ((rest : List Line) → rest ++ e ∷ es ≡ others → rest ++ f ∷ fs ≡ others' → AsksAlike e f) → AsksAlike e f
  in_call number call made before e f es fs [] others [] others' a b x y p q next = next before p q
  in_call number call made before e f es fs [] others (z ∷ own') others' a b x y p q next = absurd (none_left (z.entry.place, z.entry.event) (sym x ∙ y.0))
  in_call number call made before e f es fs (z ∷ own) others [] others' a b x y p q next = absurd (none_left (z.entry.place, z.entry.event) (sym y ∙ x.0))
  in_call number call made [] e f es fs (u ∷ own) others (v ∷ own') others' a b x y p q next =
      let first : e ≡ u = (heads p).0 in
      let second : f ≡ v = (heads q).0 in
      asked_alike number call made e f own own'
      (subst (λ (l : Line). AreOf worker number (l ∷ own)) (sym first) a) (subst (λ (l : Line). AreOf worker number (l ∷ own')) (sym second) b)
      (subst (λ (l : Line). Follows hash numbers call made (l ∷ own)) (sym first) x) (subst (λ (l : Line). Follows hash numbers call made (l ∷ own')) (sym second) y)
  in_call number call made (z ∷ before) e f es fs (u ∷ own) others (v ∷ own') others' a b x y p q next =
      in_call number call (made ++ z ∷ []) before e f es fs own others own' others' a.1 b.1
      (subst (λ (l : Line). Follows hash numbers call (made ++ l ∷ []) own) (sym (heads p).0) x.1)
      (subst (λ (l : Line). Follows hash numbers call (made ++ l ∷ []) own') (sym (heads q).0) y.1)
      (heads p).1 (heads q).1 next

  -- what a worker's script asks for next is fixed by what it has made
  pub asks_next : (calls : List Call) (number : ℕ) (before : List Line) (e f : Line) (es fs : List Line)
      → Scripted hash numbers worker number calls (before ++ e ∷ es) → Scripted hash numbers worker number calls (before ++ f ∷ fs) → AsksAlike e f
  asks_next [] number before e f es fs one other = absurd (behind before e es one)
  asks_next (call ∷ calls) number before e f es fs one other =
      in_call number call [] before e f es fs one.0 one.1 other.0 other.1 one.2.same_call other.2.same_call one.2.follows other.2.follows one.2.whole other.2.whole
      (λ rest p q. asks_next calls (number + 1) rest e f es fs
      (subst (Scripted hash numbers worker (number + 1) calls) (sym p) one.3) (subst (Scripted hash numbers worker (number + 1) calls) (sym q) other.3))

  -- nothing comes behind the entries of a whole script
  no_more_in_call : (call : Call) (made before : List Line) (f : Line) (fs own others own' others' : List Line)
      → Follows hash numbers call made own → Follows hash numbers call made own' → before ≡ own ++ others → before ++ f ∷ fs ≡ own' ++ others'
      → ((rest : List Line) → rest ≡ others → rest ++ f ∷ fs ≡ others' → ⊥) → ⊥
  no_more_in_call call made before f fs [] others [] others' x y p q next = next before p q
  no_more_in_call call made before f fs [] others (z ∷ own') others' x y p q next = none_left (z.entry.place, z.entry.event) (sym x ∙ y.0)
  no_more_in_call call made before f fs (z ∷ own) others [] others' x y p q next = none_left (z.entry.place, z.entry.event) (sym y ∙ x.0)
  no_more_in_call call made [] f fs (u ∷ own) others (v ∷ own') others' x y p q next = apart u (own ++ others) (sym p)
  no_more_in_call call made (z ∷ before) f fs (u ∷ own) others (v ∷ own') others' x y p q next =
      no_more_in_call call (made ++ z ∷ []) before f fs own others own' others'
      (subst (λ (l : Line). Follows hash numbers call (made ++ l ∷ []) own) (sym (heads p).0) x.1)
      (subst (λ (l : Line). Follows hash numbers call (made ++ l ∷ []) own') (sym (heads q).0) y.1)
      (heads p).1 (heads q).1 next

  pub no_more : (calls : List Call) (number : ℕ) (before : List Line) (f : Line) (fs : List Line)
      → Scripted hash numbers worker number calls before → Scripted hash numbers worker number calls (before ++ f ∷ fs) → ⊥
  no_more [] number before f fs one other = behind before f fs other
  no_more (call ∷ calls) number before f fs one other =
      no_more_in_call call [] before f fs one.0 one.1 other.0 other.1 one.2.follows other.2.follows one.2.whole other.2.whole
      (λ rest p q. no_more calls (number + 1) rest f fs
      (subst (Scripted hash numbers worker (number + 1) calls) (sym p) one.3) (subst (Scripted hash numbers worker (number + 1) calls) (sym q) other.3))

-- ---- the entries of a worker

by_itself : (worker : ℕ) (before : List Line) (e : Line) (es : List Line) → e.entry.who.worker ≡ worker
    → entries_by worker (before ++ e ∷ es) ≡ entries_by worker before ++ e ∷ entries_by worker es
by_itself worker [] e es same = grind (arith, common_steps, nat_tests, same)
by_itself worker (x ∷ before) e es same = by_test (x.entry.who.worker == worker) refl (by_itself worker before e es same)
  where
    by_test : (t : Bool) → (x.entry.who.worker == worker) ≡ t → entries_by worker (before ++ e ∷ es) ≡ entries_by worker before ++ e ∷ entries_by worker es
        → entries_by worker ((x ∷ before) ++ e ∷ es) ≡ entries_by worker (x ∷ before) ++ e ∷ entries_by worker es
    by_test true f more = grind (arith, common_steps, f, more)
    by_test false f more = grind (arith, common_steps, f, more)

no_script : (scripts : List (List Call)) (worker : ℕ) → length scripts ≤ worker → script_at scripts worker ≡ []
no_script [] worker le = grind (arith, common_steps)
no_script (script ∷ scripts) zero le = absurd (omega (arith, le))
no_script (script ∷ scripts) (suc worker) le = grind (arith, common_steps, no_script scripts worker (omega (arith, le)))

module _ (hash : Hash) (numbers : Numbers) (scripts : List (List Call)) where
  own_script : (before : List Line) (e : Line) (es : List Line) (worker : ℕ) → e.entry.who.worker ≡ worker → AreScripted hash numbers scripts (before ++ e ∷ es)
      → Scripted hash numbers worker 0 (script_at scripts worker) (entries_by worker before ++ e ∷ entries_by worker es)
  own_script before e es worker same are = subst (Scripted hash numbers worker 0 (script_at scripts worker)) (by_itself worker before e es same) (are worker)

  -- each entry is of a worker that has a script
  pub has_script : (before : List Line) (e : Line) (es : List Line) → AreScripted hash numbers scripts (before ++ e ∷ es) → e.entry.who.worker < length scripts
  has_script before e es are =
      elim (cases_lt e.entry.who.worker (length scripts)) [
        | inl small ↦ small
        | inr large ↦
            absurd (behind (entries_by e.entry.who.worker before) e (entries_by e.entry.who.worker es)
            (subst (λ (calls : List Call). Scripted hash numbers e.entry.who.worker 0 calls (entries_by e.entry.who.worker before ++ e ∷ entries_by e.entry.who.worker es))
            (no_script scripts e.entry.who.worker large) (own_script before e es e.entry.who.worker refl are)))
      ]

  -- two histories that began alike go on alike where their next entries are of one worker
  pub goes_on_alike : (before : List Line) (e f : Line) (es fs : List Line) → e.entry.who.worker ≡ f.entry.who.worker
      → AreScripted hash numbers scripts (before ++ e ∷ es) → AreScripted hash numbers scripts (before ++ f ∷ fs) → AsksAlike e f
  goes_on_alike before e f es fs same one other =
      asks_next hash numbers f.entry.who.worker (script_at scripts f.entry.who.worker) 0 (entries_by f.entry.who.worker before) e f
      (entries_by f.entry.who.worker es) (entries_by f.entry.who.worker fs)
      (own_script before e es f.entry.who.worker same one) (own_script before f fs f.entry.who.worker refl other)

  -- and where one of them has ended the other has, too
  pub ends_alike : (before : List Line) (f : Line) (fs : List Line) → AreScripted hash numbers scripts (before ++ []) → AreScripted hash numbers scripts (before ++ f ∷ fs) → ⊥
  ends_alike before f fs one other =
      no_more hash numbers f.entry.who.worker (script_at scripts f.entry.who.worker) 0 (entries_by f.entry.who.worker before) f (entries_by f.entry.who.worker fs)
      (subst (λ (es : List Line). Scripted hash numbers f.entry.who.worker 0 (script_at scripts f.entry.who.worker) (entries_by f.entry.who.worker es)) (append-nil before) (one f.entry.who.worker))
      (own_script before f fs f.entry.who.worker refl other)

-- ---- what stands with entries

-- the stamps count up from a number, and what stands with each entry is fixed by it
abbrev pub Stands : Numbers → ℕ → List Line → Type 0
Stands numbers k [] = Unit {0}
Stands numbers k (e ∷ es) = (e.stamp ≡ k) × AgreesIn numbers e × Stands numbers (k + 1) es

pub stand_all : (numbers : Numbers) (k : ℕ) (es : List Line) → ((i : ℕ) (e : Line) → slice_get es i ≡ Some e → e.stamp ≡ k + i)
    → ((i : ℕ) (e : Line) → slice_get es i ≡ Some e → AgreesIn numbers e) → Stands numbers k es
stand_all numbers k [] stamped agrees = tt
stand_all numbers k (e ∷ es) stamped agrees =
    (stamped 0 e refl ∙ no_more_than k, agrees 0 e refl, stand_all numbers (k + 1) es (λ i f there. stamped (suc i) f there ∙ one_more k i) (λ i f there. agrees (suc i) f there))
  where
    no_more_than : (n : ℕ) → n + 0 ≡ n
    no_more_than n = omega arith

    one_more : (n i : ℕ) → n + suc i ≡ n + 1 + i
    one_more n i = omega arith

-- entries that ask alike are answered alike
pub same_entry : (hash : Hash) (numbers : Numbers) (m : Machine) (k : ℕ) (e f : Line) → AsksAlike e f → e.stamp ≡ k → f.stamp ≡ k → AgreesIn numbers e → AgreesIn numbers f
    → reply_to hash m e ≡ Some e.entry.reply → reply_to hash m f ≡ Some f.entry.reply → e ≡ f
same_entry hash numbers m k e f alike one other a b x y =
    let stamp : e.stamp ≡ f.stamp = one ∙ sym other in
    let part : e.part ≡ f.part = a.part ∙ ap (λ (p : Place). part_number (length numbers.files) numbers.processes p) alike.place ∙ sym b.part in
    let caller : e.caller ≡ f.caller = a.caller ∙ ap (λ (w : Who). w.worker) alike.who ∙ sym b.caller in
    let asked : reply_to hash m e ≡ reply_to hash m f
    = ap (λ (n : ℕ). option_map (λ (x : Reply × Machine). x.0) (step hash m n e.entry.place e.entry.event)) stamp
    ∙ ap (λ (p : Place). option_map (λ (x : Reply × Machine). x.0) (step hash m f.stamp p e.entry.event)) alike.place
    ∙ ap (λ (x : Event). option_map (λ (x : Reply × Machine). x.0) (step hash m f.stamp f.entry.place x)) alike.event in
    let reply : e.entry.reply ≡ f.entry.reply = inside (sym x ∙ asked ∙ y) in
    ap (λ (n : ℕ). made_of n e.part e.caller e.entry.who e.entry.place e.entry.event e.entry.reply) stamp
    ∙ ap (λ (n : ℕ). made_of f.stamp n e.caller e.entry.who e.entry.place e.entry.event e.entry.reply) part
    ∙ ap (λ (n : ℕ). made_of f.stamp f.part n e.entry.who e.entry.place e.entry.event e.entry.reply) caller
    ∙ ap (λ (w : Who). made_of f.stamp f.part f.caller w e.entry.place e.entry.event e.entry.reply) alike.who
    ∙ ap (λ (p : Place). made_of f.stamp f.part f.caller f.entry.who p e.entry.event e.entry.reply) alike.place
    ∙ ap (λ (z : Event). made_of f.stamp f.part f.caller f.entry.who f.entry.place z e.entry.reply) alike.event
    ∙ ap (λ (r : Reply). made_of f.stamp f.part f.caller f.entry.who f.entry.place f.entry.event r) reply
  where
    inside : {r s : Reply} → Some r ≡ Some s → r ≡ s
    inside same = grind (arith, common_steps, same)

    made_of : ℕ → ℕ → ℕ → Who → Place → Event → Reply → Line
    made_of n part caller who place event reply =
        record { stamp = n; part = part; caller = caller; entry = record { who = who; place = place; event = event; reply = reply } }
