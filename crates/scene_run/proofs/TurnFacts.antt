-- Scripts one after another: each script's calls are there once and in order, and those of each stand before the next.
use Rattle.std.proofs.Common.{◌≡◌, ℕ, zero, suc, ◌+◌, ◌<◌, ◌≤◌, false, List, [], ◌∷◌, ◌++◌, length, drop, refl, sym, ap, subst, ◌∙◌, arith, append_assoc, append-nil, add-one, drop-cons}
use Rattle.std.proofs.Math.Seq.{drop-length}
use Rattle.std.specs.Prelude.{◌==◌, All, slice_index_or}
use Rattle.std.specs.List.{AllByRecursion}
use Rattle.std.proofs.lemmas.Grind.{common_steps}
use Rattle.std.proofs.lemmas.Bool.Decides.{nat_tests}
use Rattle.std.proofs.lemmas.List.Elements.{filter-append}
use Rattle.pg_digest.specs.Kinds.{Hash}
use Rattle.cs_policy.specs.declared.call.Call.{Call}
use Rattle.pg_history.specs.Machine.{Line}
use Rattle.pg_history.specs.Opening.{Numbers}
use Rattle.pg_history.specs.Legal.{Scripted, AreScripted, entries_by, script_at}
use Rattle.pg_history.specs.Solo.{InOrder}
use Rattle.pg_history.proofs.ListFacts.{all-append, all-map}
use Rattle.pg_calls.specs.Parts.{PartsNow}
use Rattle.pg_calls.specs.Scripts.{IsBy, Plays}
use Rattle.scene_run.specs.Turns.{Turn, InTurn, PlaysAll}

-- ---- whose entries they are

by-of : (numbers : Numbers) (worker : ℕ) (xs : List Line) → All (IsBy numbers worker) xs → AllByRecursion (λ e. e.entry.who.worker ≡ worker) xs
by-of numbers worker [] all = tt
by-of numbers worker (x ∷ xs) all =
    ((all 0 x (omega arith)).by_whom, by-of numbers worker xs (λ k d lt. all (suc k) d (omega (arith, lt))))

only : (worker : ℕ) (xs : List Line) → AllByRecursion (λ e. e.entry.who.worker ≡ worker) xs → entries_by worker xs ≡ xs
only worker [] all = refl
only worker (x ∷ xs) all = grind (arith, common_steps, nat_tests, all.0, only worker xs all.1)

none : (worker : ℕ) (xs : List Line) → AllByRecursion (λ e. (e.entry.who.worker == worker) ≡ false) xs → entries_by worker xs ≡ []
none worker [] all = refl
none worker (x ∷ xs) all = grind (arith, common_steps, nat_tests, all.0, none worker xs all.1)

other : (a b : ℕ) → a < b → (a == b) ≡ false
other a b lt = grind (arith, common_steps, nat_tests, lt)

other_way : (a b : ℕ) → b < a → (a == b) ≡ false
other_way a b lt = grind (arith, common_steps, nat_tests, lt)

module _ (hash : Hash) (numbers : Numbers) where
  -- the entries are of the first worker and of those behind it
  from-of : (base : ℕ) (scripts : List (List Call)) (es : List Line) → InTurn hash numbers base scripts es
      → AllByRecursion (λ e. base ≤ e.entry.who.worker) es
  from-of base [] es is = subst (λ xs. AllByRecursion (λ e. base ≤ e.entry.who.worker) xs) (sym is) tt
  from-of base (script ∷ scripts) es is =
      let turn : Turn hash numbers base script es is.0 is.1 = is.2 in
      subst (λ xs. AllByRecursion (λ e. base ≤ e.entry.who.worker) xs) (sym turn.whole)
      (all-append (λ e. base ≤ e.entry.who.worker) is.0 is.1
      (all-map (λ e. e.entry.who.worker ≡ base) (λ e. base ≤ e.entry.who.worker) (λ x e. omega (arith, e)) is.0 (by-of numbers base is.0 turn.by_worker))
      (all-map (λ e. base + 1 ≤ e.entry.who.worker) (λ e. base ≤ e.entry.who.worker) (λ x e. omega (arith, e)) is.1 (from-of (base + 1) scripts is.1 is.3)))

  -- ---- each script's calls, once and in order

  by-turn : (base : ℕ) (scripts : List (List Call)) (es : List Line) → InTurn hash numbers base scripts es → (w : ℕ)
      → Scripted hash numbers (base + w) 0 (script_at scripts w) (entries_by (base + w) es)
  by-turn base [] es is zero = ap (λ xs. entries_by (base + 0) xs) is
  by-turn base [] es is (suc w) = ap (λ xs. entries_by (base + suc w) xs) is
  by-turn base (script ∷ scripts) es is zero =
      let turn : Turn hash numbers base script es is.0 is.1 = is.2 in
      let same : base + 0 ≡ base = omega arith in
      subst (λ w. Scripted hash numbers w 0 script (entries_by w es)) (sym same)
      (subst (λ xs. Scripted hash numbers base 0 script xs) (sym (
      ap (λ xs. entries_by base xs) turn.whole
      ∙ filter-append (λ e. e.entry.who.worker == base) is.0 is.1
      ∙ ap (λ xs. xs ++ entries_by base is.1) (only base is.0 (by-of numbers base is.0 turn.by_worker))
      ∙ ap (λ xs. is.0 ++ xs) (none base is.1 (all-map (λ e. base + 1 ≤ e.entry.who.worker) (λ e. (e.entry.who.worker == base) ≡ false) (λ x e. other_way _ _ (omega (arith, e))) is.1 (from-of (base + 1) scripts is.1 is.3)))
      ∙ append-nil is.0)) turn.scripted)
  by-turn base (script ∷ scripts) es is (suc w) =
      let turn : Turn hash numbers base script es is.0 is.1 = is.2 in
      let same : base + 1 + w ≡ base + suc w = omega arith in
      subst (λ xs. Scripted hash numbers (base + suc w) 0 (script_at scripts w) xs) (sym (
      ap (λ xs. entries_by (base + suc w) xs) turn.whole
      ∙ filter-append (λ e. e.entry.who.worker == base + suc w) is.0 is.1
      ∙ ap (λ xs. xs ++ entries_by (base + suc w) is.1) (none (base + suc w) is.0 (all-map (λ e. e.entry.who.worker ≡ base) (λ e. (e.entry.who.worker == base + suc w) ≡ false) (λ x e. other _ _ (omega (arith, e))) is.0 (by-of numbers base is.0 turn.by_worker)))))
      (subst (λ n. Scripted hash numbers n 0 (script_at scripts w) (entries_by n is.1)) same (by-turn (base + 1) scripts is.1 is.3 w))

  pub in-turn-scripted : (scripts : List (List Call)) (es : List Line) → InTurn hash numbers 0 scripts es → AreScripted hash numbers scripts es
  in-turn-scripted scripts es is w =
      let same : 0 + w ≡ w = omega arith in
      subst (λ n. Scripted hash numbers n 0 (script_at scripts w) (entries_by n es)) same (by-turn 0 scripts es is w)

  -- ---- those of each script before those of the next

  ordered : (worker : ℕ) (own others : List Line) → AllByRecursion (λ e. e.entry.who.worker ≡ worker) own
      → AllByRecursion (λ e. worker + 1 ≤ e.entry.who.worker) others → InOrder others → InOrder (own ++ others)
  ordered worker [] others by from order = order
  ordered worker (x ∷ xs) others by from order = (
    all-append (λ later. x.entry.who.worker ≤ later.entry.who.worker) xs others
        (all-map (λ e. e.entry.who.worker ≡ worker) (λ later. x.entry.who.worker ≤ later.entry.who.worker) (λ y e. omega (arith, e, by.0)) xs by.1)
        (all-map (λ e. worker + 1 ≤ e.entry.who.worker) (λ later. x.entry.who.worker ≤ later.entry.who.worker) (λ y e. omega (arith, e, by.0)) others from),
    ordered worker xs others by.1 from order,
  )

  pub in-turn-ordered : (base : ℕ) (scripts : List (List Call)) (es : List Line) → InTurn hash numbers base scripts es → InOrder es
  in-turn-ordered base [] es is = subst (λ xs. InOrder xs) (sym is) tt
  in-turn-ordered base (script ∷ scripts) es is =
      let turn : Turn hash numbers base script es is.0 is.1 = is.2 in
      subst (λ xs. InOrder xs) (sym turn.whole)
      (ordered base is.0 is.1 (by-of numbers base is.0 turn.by_worker) (from-of (base + 1) scripts is.1 is.3) (in-turn-ordered (base + 1) scripts is.1 is.3))

-- ---- scripts as far as they were played

-- What the scripts before a place have added: whatever follows them as that of the rest, all of it is that of the scripts.
pub record Turned (hash : Hash) (scripts : List (List Call)) (done : ℕ) (start now : PartsNow) : Type 0 where
  pub own : List Line
  pub made : now ≡ record start { made = start.made ++ own }
  pub joins : (rest : List Line) → InTurn hash start.numbers done (drop done scripts) rest → InTurn hash start.numbers 0 scripts (own ++ rest)
  pub earlier : AllByRecursion (λ e. e.entry.who.worker < done) own

module _ (hash : Hash) (scripts : List (List Call)) (start : PartsNow) where
  pub turned-none : Turned hash scripts 0 start start
  turned-none = record {
    own = [];
    made = ap (λ m. record start { made = m }) (sym (append-nil start.made));
    joins = λ rest is. is;
    earlier = tt;
  }

  pub turned-one : (done : ℕ) (now new : PartsNow) (script : List Call) → Turned hash scripts done start now → drop done scripts ≡ script ∷ drop (done + 1) scripts
      → Plays hash done script now new → Turned hash scripts (done + 1) start new
  turned-one done now new script turned next plays = record {
    own = turned.own ++ plays.own;
    made = plays.made ∙ ap (λ (p : PartsNow). record p { made = p.made ++ plays.own }) turned.made
        ∙ ap (λ m. record start { made = m }) (append_assoc start.made turned.own plays.own);
    joins = λ rest is. subst (λ es. InTurn hash start.numbers 0 scripts es) (sym (append_assoc turned.own plays.own rest))
        (turned.joins (plays.own ++ rest) (subst (λ ss. InTurn hash start.numbers done ss (plays.own ++ rest)) (sym next)
        (plays.own, rest, record { whole = refl; scripted = scripted; by_worker = by_worker }, is)));
    earlier = all-append (λ e. e.entry.who.worker < done + 1) turned.own plays.own
        (all-map (λ e. e.entry.who.worker < done) (λ e. e.entry.who.worker < done + 1) (λ x e. omega (arith, e)) turned.own turned.earlier)
        (all-map (λ e. e.entry.who.worker ≡ done) (λ e. e.entry.who.worker < done + 1) (λ x e. omega (arith, e)) plays.own (by-of start.numbers done plays.own by_worker));
  }
    where
      scripted : Scripted hash start.numbers done 0 script plays.own
      scripted = subst (λ (p : PartsNow). Scripted hash p.numbers done 0 script plays.own) turned.made plays.scripted

      by_worker : All (IsBy start.numbers done) plays.own
      by_worker = subst (λ (p : PartsNow). All (IsBy p.numbers done) plays.own) turned.made plays.by_worker

  pub turned-all : (now : PartsNow) → Turned hash scripts (length scripts) start now → PlaysAll hash scripts start now
  turned-all now turned = record {
    own = turned.own;
    made = turned.made;
    in_turn = subst (λ es. InTurn hash start.numbers 0 scripts es) (append-nil turned.own)
        (turned.joins [] (subst (λ ss. InTurn hash start.numbers (length scripts) ss []) (sym (drop-length scripts)) refl));
  }

-- ---- the script at a place

pub same-default : {A : Type 0} (xs : List A) (k : ℕ) (a b : A) → k < length xs → slice_index_or xs k a ≡ slice_index_or xs k b
same-default [] k a b lt = absurd (omega (arith, lt))
same-default (x ∷ xs) zero a b lt = refl
same-default (x ∷ xs) (suc k) a b lt = same-default xs k a b (omega (arith, lt))

pub next-script : (scripts : List (List Call)) (done : ℕ) (script : List Call) → done < length scripts → slice_index_or scripts done script ≡ script
    → drop done scripts ≡ script ∷ drop (done + 1) scripts
next-script scripts done script lt is =
    drop-cons scripts done script lt ∙ ap (λ x. x ∷ drop (suc done) scripts) is ∙ ap (λ n. script ∷ drop n scripts) (sym (add-one done))
