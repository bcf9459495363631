-- In a history that the machine answers and that has each script's calls, every entry rests on earlier ones of its call.
use Rattle.std.proofs.Common.{◌≡◌, ◌<◌, ◌≤◌, ◌+◌, ℕ, zero, suc, Bool, true, false, List, [], ◌∷◌, ◌++◌, Some, refl, sym, ap, subst, ◌∙◌, arith, append_assoc, inl, inr}
use Rattle.std.specs.Prelude.{◌==◌, slice_get, filter, take, if◌then◌else◌}
use Rattle.std.specs.List.{AllByRecursion}
use Rattle.std.proofs.lemmas.Grind.{common_steps}
use Rattle.pg_digest.specs.Kinds.{Hash}
use Rattle.cs_policy.specs.declared.call.Call.{Call}
use Rattle.cs_policy.specs.declared.entry.Who.{Who}
use Rattle.pg_history.specs.Machine.{Line, Machine, Answered, replay}
use Rattle.pg_history.specs.Opening.{Opening, Numbers, numbers_of}
use Rattle.pg_history.specs.Calls.{of_trust, next_event}
use Rattle.pg_history.specs.Links.{IsNamed, IsLinked}
use Rattle.pg_history.specs.Legal.{Follows, AreOf, Begins, Scripted, AgreesIn, Legal, entries_by, script_at}
use Rattle.pg_history.proofs.ListFacts.{all-append, all-map, all-filter}
use Rattle.pg_history.proofs.SteppedFacts.{stepped}
use Rattle.pg_history.proofs.DenialFacts.{answered_at}
use Rattle.pg_history.proofs.SoloFacts.{StampedFrom, stamped_all, all_parts}
use Rattle.pg_history.proofs.LinkFacts.{MadeFrom, OfItsKind, next_links}

-- ---- what stands of each entry

-- the stamps rise
abbrev Rising : List Line → Type 0
Rising [] = Unit {0}
Rising (e ∷ es) = AllByRecursion (λ later. e.stamp < later.stamp) es × Rising es

from_stamp : (stamp : ℕ) (es : List Line) → StampedFrom stamp es → AllByRecursion (λ e. stamp ≤ e.stamp) es
from_stamp stamp [] is = tt
from_stamp stamp (e ∷ es) is = (omega (arith, is.0), all-map (λ x. stamp + 1 ≤ x.stamp) (λ x. stamp ≤ x.stamp) (λ x le. omega (arith, le)) es (from_stamp (stamp + 1) es is.1))

stamped_rise : (stamp : ℕ) (es : List Line) → StampedFrom stamp es → Rising es
stamped_rise stamp [] is = tt
stamped_rise stamp (e ∷ es) is =
    (all-map (λ x. stamp + 1 ≤ x.stamp) (λ x. e.stamp < x.stamp) (λ x le. omega (arith, le, is.0)) es (from_stamp (stamp + 1) es is.1), stamped_rise (stamp + 1) es is.1)

filter_rises : (q : Line → Bool) (es : List Line) → Rising es → Rising (filter q es)
filter_rises q [] rising = tt
filter_rises q (e ∷ es) rising = by_test (q e) (filter_rises q es rising.1)
  where
    by_test : (b : Bool) → Rising (filter q es) → Rising (if b then e ∷ filter q es else filter q es)
    by_test true rest = (all-filter (λ later. e.stamp < later.stamp) q es rising.0, rest)
    by_test false rest = rest

rising_parts : (es fs : List Line) → Rising (es ++ fs) → Rising es × Rising fs
rising_parts [] fs rising = (tt, rising)
rising_parts (e ∷ es) fs rising =
    let parts = rising_parts es fs rising.1 in
    ((all_front (λ later. e.stamp < later.stamp) es fs rising.0, parts.0), parts.1)
  where
    all_front : (P : Line → Type 0) (xs ys : List Line) → AllByRecursion P (xs ++ ys) → AllByRecursion P xs
    all_front P [] ys all = tt
    all_front P (x ∷ xs) ys all = (all.0, all_front P xs ys all.1)

-- what holds at each place holds of all
all_places : (P : Line → Type 0) (xs : List Line) → ((k : ℕ) (x : Line) → slice_get xs k ≡ Some x → P x) → AllByRecursion P xs
all_places P [] at = tt
all_places P (x ∷ xs) at = (at 0 x refl, all_places P xs (λ k y there. at (suc k) y there))

-- what holds of all that pass a test holds of one that stands at a place and passes it
passed_place : (P : Line → Type 0) (q : Line → Bool) (xs : List Line) (k : ℕ) (x : Line) → AllByRecursion P (filter q xs) → slice_get xs k ≡ Some x → q x ≡ true → P x
passed_place P q [] k x all there passes = absurd (grind (arith, common_steps, there))
passed_place P q (y ∷ ys) k x all there passes = by_test (q y) k refl all there (λ j others e. passed_place P q ys j x others e passes)
  where
    first : (j : ℕ) → j ≡ 0 → slice_get (y ∷ ys) j ≡ Some x → y ≡ x
    first j is e = grind (arith, common_steps, is, e)

    rest : (j : ℕ) → slice_get (y ∷ ys) (suc j) ≡ Some x → slice_get ys j ≡ Some x
    rest j e = grind (arith, common_steps, e)

    by_test : (b : Bool) (j : ℕ) → q y ≡ b → AllByRecursion P (if b then y ∷ filter q ys else filter q ys) → slice_get (y ∷ ys) j ≡ Some x
        → ((i : ℕ) → AllByRecursion P (filter q ys) → slice_get ys i ≡ Some x → P x) → P x
    by_test true zero f all e later = subst P (first 0 refl e) all.0
    by_test true (suc j) f all e later = later j all.1 (rest j e)
    by_test false zero f all e later = absurd (grind (arith, common_steps, f, passes, ap q (first 0 refl e)))
    by_test false (suc j) f all e later = later j all (rest j e)

-- ---- the entries of one call

-- it stands at its stamp
abbrev StandsIn : List Line → Line → Type 0
StandsIn history x = slice_get history x.stamp ≡ Some x

abbrev IsOf : Who → Line → Type 0
IsOf who x = x.entry.who ≡ who

module _ (hash : Hash) (numbers : Numbers) (history : List Line) where
  made_more : (c : Call) (before xs : List Line) (e : Line) → MadeFrom hash numbers c before xs → next_event hash numbers c (before ++ xs) ≡ Some (e.entry.place, e.entry.event) → MadeFrom hash numbers c before (xs ++ e ∷ [])
  made_more c before [] e made next = (ap (next_event hash numbers c) (sym (nothing_more before)) ∙ next, tt)
    where
      nothing_more : (xs : List Line) → xs ++ [] ≡ xs
      nothing_more [] = refl
      nothing_more (x ∷ xs) = ap (λ ys. x ∷ ys) (nothing_more xs)
  made_more c before (x ∷ xs) e made next =
      (made.0, made_more c (before ++ x ∷ []) xs e made.1 (ap (next_event hash numbers c) (append_assoc before (x ∷ []) xs) ∙ next))

  named : (who : Who) (e : Line) (made : List Line) → IsOf who e → AllByRecursion (StandsIn history) made → AllByRecursion (IsOf who) made → AllByRecursion (λ x. x.stamp < e.stamp) made
      → AllByRecursion (λ x. IsNamed history e x.stamp x) made
  named who e [] same placed whos less = tt
  named who e (x ∷ xs) same placed whos less =
      (record { here = placed.0; earlier = less.0; same_call = whos.0 ∙ sym same }, named who e xs same placed.1 whos.1 less.1)

  -- the heads, and the tails, of what is said of later entries
  less_first : (e : Line) (es made : List Line) → AllByRecursion (λ x. AllByRecursion (λ y. x.stamp < y.stamp) (e ∷ es)) made → AllByRecursion (λ x. x.stamp < e.stamp) made
  less_first e es made all = all-map (λ x. AllByRecursion (λ y. x.stamp < y.stamp) (e ∷ es)) (λ x. x.stamp < e.stamp) (λ x l. l.0) made all

  less_rest : (e : Line) (es made : List Line) → AllByRecursion (λ x. AllByRecursion (λ y. x.stamp < y.stamp) (e ∷ es)) made → AllByRecursion (λ x. AllByRecursion (λ y. x.stamp < y.stamp) es) made
  less_rest e es made all = all-map (λ x. AllByRecursion (λ y. x.stamp < y.stamp) (e ∷ es)) (λ x. AllByRecursion (λ y. x.stamp < y.stamp) es) (λ x l. l.1) made all

  call_links : (c : Call) (who : Who) (made own : List Line) → AllByRecursion (StandsIn history) made → AllByRecursion (IsOf who) made → AllByRecursion OfItsKind made → MadeFrom hash numbers c [] made
      → AllByRecursion (λ x. AllByRecursion (λ y. x.stamp < y.stamp) own) made → AllByRecursion (StandsIn history) own → AllByRecursion (IsOf who) own → AllByRecursion OfItsKind own → Rising own
      → Follows hash numbers c made own → AllByRecursion (IsLinked hash numbers history) own
  call_links c who made [] placed whos kinds was less own_placed own_whos own_kinds rising follows = tt
  call_links c who made (e ∷ es) placed whos kinds was less own_placed own_whos own_kinds rising follows = (
    next_links hash numbers history e c made (named who e made own_whos.0 placed whos (less_first e es made less)) kinds was (e.entry.place, e.entry.event) follows.0,
    call_links c who (made ++ e ∷ []) es
        (all-append (StandsIn history) made (e ∷ []) placed (own_placed.0, tt))
        (all-append (IsOf who) made (e ∷ []) whos (own_whos.0, tt))
        (all-append OfItsKind made (e ∷ []) kinds (own_kinds.0, tt))
        (made_more c [] made e was follows.0)
        (all-append (λ x. AllByRecursion (λ y. x.stamp < y.stamp) es) made (e ∷ []) (less_rest e es made less) (rising.0, tt))
        own_placed.1 own_whos.1 own_kinds.1 rising.1 follows.1,
  )

  all_of : (worker number : ℕ) (es : List Line) → AreOf worker number es → AllByRecursion (IsOf (record { worker = worker; call = number })) es
  all_of worker number [] are = tt
  all_of worker number (e ∷ es) are = (are.0, all_of worker number es are.1)

  script_links : (worker number : ℕ) (calls : List Call) (es : List Line) → AllByRecursion (StandsIn history) es → AllByRecursion OfItsKind es → Rising es → Scripted hash numbers worker number calls es
      → AllByRecursion (IsLinked hash numbers history) es
  script_links worker number [] es placed kinds rising is = subst (AllByRecursion (IsLinked hash numbers history)) (sym is) tt
  script_links worker number (c ∷ calls) es placed kinds rising is =
      let own : List Line = is.0 in
      let others : List Line = is.1 in
      let begins : Begins hash numbers worker number c es own others = is.2 in
      let placed_parts = all_parts (StandsIn history) own others (subst (AllByRecursion (StandsIn history)) begins.whole placed) in
      let kind_parts = all_parts OfItsKind own others (subst (AllByRecursion OfItsKind) begins.whole kinds) in
      let rise_parts = rising_parts own others (subst Rising begins.whole rising) in
      subst (AllByRecursion (IsLinked hash numbers history)) (sym begins.whole)
      (all-append (IsLinked hash numbers history) own others
      (call_links c (record { worker = worker; call = number }) [] own tt tt tt tt tt placed_parts.0 (all_of worker number own begins.same_call) kind_parts.0 rise_parts.0 begins.follows)
      (script_links worker (number + 1) calls others placed_parts.1 kind_parts.1 rise_parts.1 is.3))

-- ---- a whole history

-- an entry of a file is answered by the file
kind_of : (hash : Hash) (m : Machine) (history : List Line) → Answered hash m history → (k : ℕ) (x : Line) → slice_get history k ≡ Some x → OfItsKind x
kind_of hash m history answered k x there number at = elim (stepped hash (replay hash m (take k history)) x (answered_at hash m history answered k x there)) [
  | inl s ↦ ap of_trust s.answer
  | inr (inl s) ↦ absurd (grind (arith, common_steps, at, s.here))
  | inr (inr s) ↦ absurd (grind (arith, common_steps, at, s.here))
]

pub scripts_link : (hash : Hash) (o : Opening) (scripts : List (List Call)) (history : List Line) → ((k : ℕ) (e : Line) → slice_get history k ≡ Some e → e.stamp ≡ k)
    → ((k : ℕ) (e : Line) → slice_get history k ≡ Some e → AgreesIn (numbers_of o) e) → Answered hash o.machine history
    → ((worker : ℕ) → Scripted hash (numbers_of o) worker 0 (script_at scripts worker) (entries_by worker history)) → Legal hash o scripts history
scripts_link hash o scripts history stamps agrees answered calls = record {
  linked = record { stamps = stamps; agrees = agrees; replies = answered; links = links };
  calls = calls;
}
  where
    placed : AllByRecursion (StandsIn history) history
    placed = all_places (StandsIn history) history (λ k e there. ap (slice_get history) (stamps k e there) ∙ there)

    rising : Rising history
    rising = stamped_rise 0 history (stamped_all 0 history (λ k e there. stamps k e there ∙ no_more k))
      where
        no_more : (n : ℕ) → n ≡ 0 + n
        no_more n = omega arith

    links : (k : ℕ) (e : Line) → slice_get history k ≡ Some e → IsLinked hash (numbers_of o) history e
    links k e there =
        passed_place (IsLinked hash (numbers_of o) history) (λ x. x.entry.who.worker == e.entry.who.worker) history k e
        (script_links hash (numbers_of o) history e.entry.who.worker 0 (script_at scripts e.entry.who.worker) (entries_by e.entry.who.worker history)
        (all-filter (StandsIn history) (λ x. x.entry.who.worker == e.entry.who.worker) history placed)
        (all-filter OfItsKind (λ x. x.entry.who.worker == e.entry.who.worker) history (all_places OfItsKind history (kind_of hash o.machine history answered)))
        (filter_rises (λ x. x.entry.who.worker == e.entry.who.worker) history rising)
        (calls e.entry.who.worker))
        there (itself e.entry.who.worker)
      where
        itself : (n : ℕ) → (n == n) ≡ true
        itself n = grind (arith, common_steps)
