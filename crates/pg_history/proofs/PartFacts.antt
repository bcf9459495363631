-- What each part answers, the machine answers.
use Rattle.std.proofs.Common.{◌≡◌, ℕ, zero, suc, true, false, List, [], ◌∷◌, Option, Some, None, refl, sym, ap, subst, ◌∙◌, arith, inl, inr}
use Rattle.std.specs.Prelude.{◌==◌, slice_get, slice_set, IsSome, unwrap_or, if◌then◌else◌}
use Rattle.std.specs.Option.{option_map}
use Rattle.std.proofs.lemmas.Grind.{common_steps}
use Rattle.pg_digest.specs.Kinds.{Hash}
use Rattle.cs_policy.specs.declared.entry.Event.{Event}
use Rattle.cs_policy.specs.declared.entry.Event.TheVariants as event
use Rattle.cs_policy.specs.declared.entry.Reply.TheVariants as reply
use Rattle.cs_policy.specs.declared.entry.Place.{Place}
use Rattle.cs_policy.specs.declared.entry.Place.TheVariants as place
use Rattle.pg_process.specs.ProcessStep.{PlainProcess}
use Rattle.pg_trusted.specs.TrustStep.{TrustList}
use Rattle.pg_history.specs.Machine.{Line, FilePart, Machine, reply_to, after, Answered}
use Rattle.pg_history.specs.ByParts.{is_at, entries_at, file_answer, process_answer, trust_answer, FileAnswers, ProcessAnswers, TrustAnswers, HasPart, AnsweredByParts}
use Rattle.pg_history.proofs.ListFacts.{at_place}

-- ---- which entries are a part's

own_first : (at : Place) (e : Line) (es : List Line) → is_at at e.entry.place ≡ true → entries_at at (e ∷ es) ≡ e ∷ entries_at at es
own_first at e es is = ap (λ b. if b then e ∷ entries_at at es else entries_at at es) is

other_first : (at : Place) (e : Line) (es : List Line) → is_at at e.entry.place ≡ false → entries_at at (e ∷ es) ≡ entries_at at es
other_first at e es is = ap (λ b. if b then e ∷ entries_at at es else entries_at at es) is

itself : (n : ℕ) → (n == n) ≡ true
itself n = grind (arith, common_steps)

found : {X : Type 0} (o : Option X) → IsSome o → (x : X) × (o ≡ Some x)
found None is = absurd cc
found (Some x) is = (x, refl)

-- an entry at a place, by the place
at_its_place : (at : Place) (e : Line) (p : Place) → e.entry.place ≡ p → is_at at p ≡ true → is_at at e.entry.place ≡ true
at_its_place at e p here is = ap (is_at at) here ∙ is

-- ---- one entry

-- where the machine answers so, by an answer of the part
record Goes (hash : Hash) (m : Machine) (e : Line) (next : Machine) : Type 0 where
  answered : reply_to hash m e ≡ Some e.entry.reply
  next_is : after hash m e ≡ next

module _ (hash : Hash) (m : Machine) (e : Line) where
  file_goes : (number : ℕ) (part : FilePart) → e.entry.place ≡ place.File number → slice_get m.files number ≡ Some part
      → option_map (λ a. reply.File a.0) (file_answer hash part e.stamp e.entry.event) ≡ Some e.entry.reply
      → Goes hash m e (record m { files = slice_set m.files number (unwrap_or (option_map (λ a. a.1) (file_answer hash part e.stamp e.entry.event)) part) })
  file_goes number part here there answers = by_event e.entry.event refl answers
    where
      by_event : (v : Event) → e.entry.event ≡ v → option_map (λ a. reply.File a.0) (file_answer hash part e.stamp v) ≡ Some e.entry.reply
          → Goes hash m e (record m { files = slice_set m.files number (unwrap_or (option_map (λ a. a.1) (file_answer hash part e.stamp e.entry.event)) part) })
      by_event (event.File fe) is a = record { answered = rw (here, is, there) a; next_is = rw (here, is, there) refl }
      by_event (event.Proc pe) is a = absurd (grind (arith, common_steps, a))
      by_event (event.Trust te) is a = absurd (grind (arith, common_steps, a))

  process_goes : (pid : ℕ) (p : PlainProcess) → e.entry.place ≡ place.Process pid → slice_get m.processes pid ≡ Some p
      → option_map (λ a. reply.Proc a.0) (process_answer p e.entry.event) ≡ Some e.entry.reply
      → Goes hash m e (record m { processes = slice_set m.processes pid (unwrap_or (option_map (λ a. a.1) (process_answer p e.entry.event)) p) })
  process_goes pid p here there answers = by_event e.entry.event refl answers
    where
      by_event : (v : Event) → e.entry.event ≡ v → option_map (λ a. reply.Proc a.0) (process_answer p v) ≡ Some e.entry.reply
          → Goes hash m e (record m { processes = slice_set m.processes pid (unwrap_or (option_map (λ a. a.1) (process_answer p e.entry.event)) p) })
      by_event (event.File fe) is a = absurd (grind (arith, common_steps, a))
      by_event (event.Proc pe) is a = record { answered = rw (here, is, there) a; next_is = rw (here, is, there) refl }
      by_event (event.Trust te) is a = absurd (grind (arith, common_steps, a))

  trust_goes : e.entry.place ≡ place.Trust → option_map (λ a. reply.Trust a.0) (trust_answer m.trust e.entry.event) ≡ Some e.entry.reply
      → Goes hash m e (record m { trust = unwrap_or (option_map (λ a. a.1) (trust_answer m.trust e.entry.event)) m.trust })
  trust_goes here answers = by_event e.entry.event refl answers
    where
      by_event : (v : Event) → e.entry.event ≡ v → option_map (λ a. reply.Trust a.0) (trust_answer m.trust v) ≡ Some e.entry.reply
          → Goes hash m e (record m { trust = unwrap_or (option_map (λ a. a.1) (trust_answer m.trust e.entry.event)) m.trust })
      by_event (event.File fe) is a = absurd (grind (arith, common_steps, a))
      by_event (event.Proc pe) is a = absurd (grind (arith, common_steps, a))
      by_event (event.Trust te) is a = record { answered = rw (here, is) a; next_is = rw (here, is) refl }

-- ---- a history

-- a part that stood in the list stands in the list that was changed
still_there : {X : Type 0} (xs : List X) (i j : ℕ) (x : X) → IsSome (slice_get xs j) → IsSome (slice_get (slice_set xs i x) j)
still_there [] i j x is = absurd (grind (arith, common_steps, is))
still_there (y ∷ ys) zero zero x is = refl
still_there (y ∷ ys) zero (suc j) x is = is
still_there (y ∷ ys) (suc i) zero x is = refl
still_there (y ∷ ys) (suc i) (suc j) x is = still_there ys i j x is

module _ (hash : Hash) where
  each_part : (history : List Line) (m : Machine) → AnsweredByParts hash m history → Answered hash m history
  each_part [] m parts = tt
  each_part (e ∷ es) m parts = by_place e.entry.place refl (parts.placed 0 e refl) (each_part es)
    where
      placed_later : (k : ℕ) (x : Line) → slice_get es k ≡ Some x → HasPart m x.entry.place
      placed_later k x there = parts.placed (suc k) x there

      goes_on : (next : Machine) → Goes hash m e next → Answered hash next es → Answered hash m (e ∷ es)
      goes_on next goes rest = (goes.answered, subst (λ n. Answered hash n es) (sym goes.next_is) rest)

      -- the entries of another part are those behind the first
      file_rest : (number : ℕ) (part : FilePart) → slice_get m.files number ≡ Some part → is_at (place.File number) e.entry.place ≡ false → FileAnswers hash part (entries_at (place.File number) es)
      file_rest number part there apart = subst (FileAnswers hash part) (other_first (place.File number) e es apart) (parts.files number part there)

      process_rest : (pid : ℕ) (p : PlainProcess) → slice_get m.processes pid ≡ Some p → is_at (place.Process pid) e.entry.place ≡ false → ProcessAnswers p (entries_at (place.Process pid) es)
      process_rest pid p there apart = subst (ProcessAnswers p) (other_first (place.Process pid) e es apart) (parts.processes pid p there)

      trust_rest : is_at place.Trust e.entry.place ≡ false → TrustAnswers m.trust (entries_at place.Trust es)
      trust_rest apart = subst (TrustAnswers m.trust) (other_first place.Trust e es apart) parts.trust

      by_place : (at : Place) → e.entry.place ≡ at → HasPart m e.entry.place → ((n : Machine) → AnsweredByParts hash n es → Answered hash n es) → Answered hash m (e ∷ es)
      by_place (place.File number) here has rest =
          let stands = found (slice_get m.files number) (subst (HasPart m) here has) in
          let own = subst (FileAnswers hash stands.0) (own_first (place.File number) e es (at_its_place (place.File number) e (place.File number) here (itself number))) (parts.files number stands.0 stands.1) in
          let new : FilePart = unwrap_or (option_map (λ a. a.1) (file_answer hash stands.0 e.stamp e.entry.event)) stands.0 in
          goes_on (record m { files = slice_set m.files number new }) (file_goes hash m e number stands.0 here stands.1 own.0)
          (rest (record m { files = slice_set m.files number new }) (record {
            files = λ k part there. elim (at_place m.files number k new stands.0 part stands.1 there) [
              | inl same ↦ subst (λ n. FileAnswers hash part (entries_at (place.File n) es)) (sym same.0) (subst (λ p. FileAnswers hash p (entries_at (place.File number) es)) (sym same.1) own.1)
              | inr other ↦ file_rest k part other.1 (ap (is_at (place.File k)) here ∙ other.0)
            ];
            processes = λ pid p there. process_rest pid p there (ap (is_at (place.Process pid)) here);
            trust = trust_rest (ap (is_at place.Trust) here);
            placed = λ k x there. by_part x.entry.place (placed_later k x there) number new;
          }))
        where
          by_part : (at : Place) → HasPart m at → (number : ℕ) (new : FilePart) → HasPart (record m { files = slice_set m.files number new }) at
          by_part (place.File k) is number new = still_there m.files number k new is
          by_part (place.Process pid) is number new = is
          by_part place.Trust is number new = is
      by_place (place.Process pid) here has rest =
          let stands = found (slice_get m.processes pid) (subst (HasPart m) here has) in
          let own = subst (ProcessAnswers stands.0) (own_first (place.Process pid) e es (at_its_place (place.Process pid) e (place.Process pid) here (itself pid))) (parts.processes pid stands.0 stands.1) in
          let new : PlainProcess = unwrap_or (option_map (λ a. a.1) (process_answer stands.0 e.entry.event)) stands.0 in
          goes_on (record m { processes = slice_set m.processes pid new }) (process_goes hash m e pid stands.0 here stands.1 own.0)
          (rest (record m { processes = slice_set m.processes pid new }) (record {
            files = λ k part there. file_rest k part there (ap (is_at (place.File k)) here);
            processes = λ k p there. elim (at_place m.processes pid k new stands.0 p stands.1 there) [
              | inl same ↦ subst (λ n. ProcessAnswers p (entries_at (place.Process n) es)) (sym same.0) (subst (λ q. ProcessAnswers q (entries_at (place.Process pid) es)) (sym same.1) own.1)
              | inr other ↦ process_rest k p other.1 (ap (is_at (place.Process k)) here ∙ other.0)
            ];
            trust = trust_rest (ap (is_at place.Trust) here);
            placed = λ k x there. by_part x.entry.place (placed_later k x there) pid new;
          }))
        where
          by_part : (at : Place) → HasPart m at → (pid : ℕ) (new : PlainProcess) → HasPart (record m { processes = slice_set m.processes pid new }) at
          by_part (place.File k) is pid new = is
          by_part (place.Process k) is pid new = still_there m.processes pid k new is
          by_part place.Trust is pid new = is
      by_place place.Trust here has rest =
          let own = subst (TrustAnswers m.trust) (own_first place.Trust e es (at_its_place place.Trust e place.Trust here refl)) parts.trust in
          let new : TrustList = unwrap_or (option_map (λ a. a.1) (trust_answer m.trust e.entry.event)) m.trust in
          goes_on (record m { trust = new }) (trust_goes hash m e here own.0)
          (rest (record m { trust = new }) (record {
            files = λ k part there. file_rest k part there (ap (is_at (place.File k)) here);
            processes = λ pid p there. process_rest pid p there (ap (is_at (place.Process pid)) here);
            trust = own.1;
            placed = λ k x there. by_part x.entry.place (placed_later k x there) new;
          }))
        where
          by_part : (at : Place) → HasPart m at → (new : TrustList) → HasPart (record m { trust = new }) at
          by_part (place.File k) is new = is
          by_part (place.Process k) is new = is
          by_part place.Trust is new = is

pub parts_answer : (hash : Hash) (m : Machine) (history : List Line) → AnsweredByParts hash m history → Answered hash m history
parts_answer hash m history parts = each_part hash history m parts
