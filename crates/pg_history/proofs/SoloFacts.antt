-- A legal history whose scripts stand one after another is the one that the machine gives of them.
use Rattle.std.proofs.Common.{◌≡◌, ◌<◌, ◌≤◌, ◌+◌, ℕ, zero, suc, Bool, List, [], ◌∷◌, ◌++◌, length, filter, Option, Some, None, refl, sym, ap, subst, ◌∙◌, arith, length-append}
use Rattle.std.specs.Prelude.{◌==◌, slice_get, unwrap_or}
use Rattle.std.specs.List.{AllByRecursion, range_with_len}
use Rattle.std.specs.Int.{bit_at}
use Rattle.std.specs.Option.{option_map, option_and_then}
use Rattle.std.proofs.lemmas.Grind.{common_steps}
use Rattle.std.proofs.lemmas.Option.{slice_get_within}
use Rattle.pg_digest.specs.Kinds.{Hash}
use Rattle.cs_policy.specs.declared.call.Call.{Call}
use Rattle.cs_policy.specs.declared.call.Call.TheVariants as call
use Rattle.cs_policy.specs.declared.entry.Who.{Who}
use Rattle.cs_policy.specs.declared.entry.Place.TheVariants as place
use Rattle.cs_policy.specs.declared.entry.Event.TheVariants as event
use Rattle.cs_policy.specs.declared.entry.Reply.{Reply}
use Rattle.cs_policy.specs.declared.file.FileEvent.TheVariants as file
use Rattle.cs_policy.specs.Entry.{part_number}
use Rattle.pg_history.specs.Machine.{Line, Machine, step, after, replay, Answered}
use Rattle.pg_history.specs.Opening.{Opening, Numbers, numbers_of}
use Rattle.pg_history.specs.Calls.{Asked, of_process, exited, files_in, next_event}
use Rattle.pg_history.specs.Legal.{Follows, AgreesIn, Legal}
use Rattle.pg_history.specs.Solo.{line_of, entered, entered_if, entries_from, most_entries, entries_of, all_calls, history_of, solo, InOrder}
use Rattle.pg_history.proofs.OrderFacts.{RunsFirst, Runs, all_run}

-- ---- no call makes more than 17 entries

filtered : (p : ℕ → Bool) (xs : List ℕ) → length (filter p xs) ≤ length xs
filtered p [] = omega arith
filtered p (x ∷ xs) = grind (arith, common_steps, filtered p xs)

few_files : (bits : ℕ) → length (files_in bits) ≤ 16
few_files bits = filtered (λ number. bit_at bits number == 1) (range_with_len 0 16)

some_file : (pid : ℕ) (bits k : ℕ) (asked : Asked) → option_map (λ number. (place.File number, event.File (file.DropPid pid))) (slice_get (files_in bits) k) ≡ Some asked → k < 16
some_file pid bits k asked e = by_found (slice_get (files_in bits) k) refl e
  where
    by_found : (found : Option ℕ) → slice_get (files_in bits) k ≡ found → option_map (λ number. (place.File number, event.File (file.DropPid pid))) found ≡ Some asked → k < 16
    by_found None f g = absurd (grind (arith, common_steps, g))
    by_found (Some number) f g = omega (arith, slice_get_within (files_in bits) k number f, few_files bits)

some_exit : (pid : ℕ) (found : Option ℕ) (k : ℕ) (asked : Asked)
    → option_and_then (λ files. option_map (λ number. (place.File number, event.File (file.DropPid pid))) (slice_get (files_in files) k)) found ≡ Some asked → k < 16
some_exit pid None k asked e = absurd (grind (arith, common_steps, e))
some_exit pid (Some bits) k asked e = some_file pid bits k asked e

one : (x : Line) → length (x ∷ []) ≤ 16
one x = omega arith

two : (x y : Line) → length (x ∷ y ∷ []) ≤ 16
two x y = omega arith

next_short : (hash : Hash) (numbers : Numbers) (c : Call) (made : List Line) (asked : Asked) → next_event hash numbers c made ≡ Some asked → length made ≤ 16
next_short hash numbers c [] asked e = omega arith
next_short hash numbers c (x ∷ []) asked e = one x
next_short hash numbers c (x ∷ y ∷ []) asked e = two x y
next_short hash numbers (call.Spawn pid) (x ∷ y ∷ z ∷ zs) asked e = absurd (grind (arith, common_steps, e))
next_short hash numbers (call.Map pid addr number first pages prot shared) (x ∷ y ∷ z ∷ zs) asked e = absurd (grind (arith, common_steps, e))
next_short hash numbers (call.Unmap pid addr) (x ∷ y ∷ z ∷ zs) asked e = absurd (grind (arith, common_steps, e))
next_short hash numbers (call.Attach number slice) (x ∷ y ∷ z ∷ zs) asked e = absurd (grind (arith, common_steps, e))
next_short hash numbers (call.LoadTrust cache) (x ∷ y ∷ z ∷ zs) asked e = absurd (grind (arith, common_steps, e))
next_short hash numbers (call.Fault pid addr access) (x ∷ y ∷ z ∷ zs) asked e = absurd (grind (arith, common_steps, e))
next_short hash numbers (call.Store pid addr bytes) (x ∷ y ∷ z ∷ zs) asked e = absurd (grind (arith, common_steps, e))
next_short hash numbers (call.Load pid addr count) (x ∷ y ∷ z ∷ zs) asked e = absurd (grind (arith, common_steps, e))
next_short hash numbers (call.Fetch pid addr count) (x ∷ y ∷ z ∷ zs) asked e = absurd (grind (arith, common_steps, e))
next_short hash numbers (call.Write number at piece) (x ∷ y ∷ z ∷ zs) asked e = absurd (grind (arith, common_steps, e))
next_short hash numbers (call.Evict number page) (x ∷ y ∷ z ∷ zs) asked e = absurd (grind (arith, common_steps, e))
next_short hash numbers (call.Debug pid) (x ∷ y ∷ z ∷ zs) asked e = absurd (grind (arith, common_steps, e))
next_short hash numbers (call.Exit pid) (x ∷ y ∷ z ∷ zs) asked e = longer (some_exit pid (option_and_then exited (of_process x.entry.reply)) (length (y ∷ z ∷ zs)) asked e)
  where
    longer : length (y ∷ z ∷ zs) < 16 → length (x ∷ y ∷ z ∷ zs) ≤ 16
    longer lt = omega (arith, lt)

follows_short : (hash : Hash) (numbers : Numbers) (c : Call) (made es : List Line) → Follows hash numbers c made es → length made ≤ 17 → length made + length es ≤ 17
follows_short hash numbers c made [] follows le = omega (arith, le)
follows_short hash numbers c made (e ∷ es) follows le =
    let more : length (made ++ e ∷ []) ≡ length made + 1 = length-append made (e ∷ []) in
    omega (
      arith,
      more,
      follows_short hash numbers c (made ++ e ∷ []) es follows.1
          (omega (arith, more, next_short hash numbers c made (e.entry.place, e.entry.event) follows.0)),
    )

-- ---- what stands with entries

-- the stamps count up from a number
abbrev pub StampedFrom : ℕ → List Line → Type 0
StampedFrom stamp [] = Unit {0}
StampedFrom stamp (e ∷ es) = (e.stamp ≡ stamp) × StampedFrom (stamp + 1) es

stamped_parts : (stamp : ℕ) (es fs : List Line) → StampedFrom stamp (es ++ fs) → StampedFrom stamp es × StampedFrom (stamp + length es) fs
stamped_parts stamp [] fs is = (tt, subst (λ n. StampedFrom n fs) (zero_more stamp) is)
  where
    zero_more : (n : ℕ) → n ≡ n + 0
    zero_more n = omega arith
stamped_parts stamp (e ∷ es) fs is =
    let parts = stamped_parts (stamp + 1) es fs is.1 in
    ((is.0, parts.0), subst (λ n. StampedFrom n fs) (one_more stamp es) parts.1)
  where
    one_more : (n : ℕ) (xs : List Line) → n + 1 + length xs ≡ n + length (e ∷ xs)
    one_more n xs = grind (arith, common_steps)

pub stamped_all : (k : ℕ) (es : List Line) → ((i : ℕ) (e : Line) → slice_get es i ≡ Some e → e.stamp ≡ k + i) → StampedFrom k es
stamped_all k [] is = tt
stamped_all k (e ∷ es) is =
    (is 0 e refl ∙ no_more k, stamped_all (k + 1) es (λ i f there. is (suc i) f there ∙ one_more k i))
  where
    no_more : (n : ℕ) → n + 0 ≡ n
    no_more n = omega arith

    one_more : (n i : ℕ) → n + suc i ≡ n + 1 + i
    one_more n i = omega arith

agree_all : (numbers : Numbers) (es : List Line) → ((i : ℕ) (e : Line) → slice_get es i ≡ Some e → AgreesIn numbers e) → AllByRecursion (AgreesIn numbers) es
agree_all numbers [] is = tt
agree_all numbers (e ∷ es) is = (is 0 e refl, agree_all numbers es (λ i f there. is (suc i) f there))

pub all_parts : (P : Line → Type 0) (es fs : List Line) → AllByRecursion P (es ++ fs) → AllByRecursion P es × AllByRecursion P fs
all_parts P [] fs all = (tt, all)
all_parts P (e ∷ es) fs all = let parts = all_parts P es fs all.1 in ((all.0, parts.0), parts.1)

answered_parts : (hash : Hash) (m : Machine) (es fs : List Line) → Answered hash m (es ++ fs) → Answered hash m es × Answered hash (replay hash m es) fs
answered_parts hash m [] fs all = (tt, all)
answered_parts hash m (e ∷ es) fs all = let parts = answered_parts hash (after hash m e) es fs all.1 in ((all.0, parts.0), parts.1)

-- ---- one call

module _ (hash : Hash) (numbers : Numbers) (who : Who) (c : Call) where
  -- the entry that is made of an event is the one that stands there
  line_is : (stamp : ℕ) (e : Line) → e.stamp ≡ stamp → AgreesIn numbers e → e.entry.who ≡ who → line_of numbers stamp who (e.entry.place, e.entry.event) e.entry.reply ≡ e
  line_is stamp e stamped agrees same =
      ap (λ k. made_of k (part_number (length numbers.files) numbers.processes e.entry.place) who.worker who) (sym stamped)
      ∙ ap (λ k. made_of e.stamp k who.worker who) (sym agrees.part)
      ∙ ap (λ k. made_of e.stamp e.part k who) (sym (agrees.caller ∙ ap (λ (w : Who). w.worker) same))
      ∙ ap (λ w. made_of e.stamp e.part e.caller w) (sym same)
    where
      made_of : ℕ → ℕ → ℕ → Who → Line
      made_of k part caller w = record { stamp = k; part = part; caller = caller; entry = record { who = w; place = e.entry.place; event = e.entry.event; reply = e.entry.reply } }

  some_answer : (found : Option (Reply × Machine)) (m : Machine) (r : Reply) → option_map (λ a. a.0) found ≡ Some r → found ≡ Some (r, unwrap_or (option_map (λ a. a.1) found) m)
  some_answer None m r e = absurd (grind (arith, common_steps, e))
  some_answer (Some a) m r e = ap (λ x. Some (x, a.1)) (inside e)
    where
      inside : Some a.0 ≡ Some r → a.0 ≡ r
      inside f = grind (arith, common_steps, f)

  own_is : (most : ℕ) (m : Machine) (stamp : ℕ) (made own : List Line) → Follows hash numbers c made own → AllByRecursion (λ e. e.entry.who ≡ who) own → Answered hash m own
      → StampedFrom stamp own → AllByRecursion (AgreesIn numbers) own → length own ≤ most → entries_from most hash numbers m stamp who c made ≡ own
  own_is zero m stamp made [] follows same answered stamped agrees le = refl
  own_is (suc most) m stamp made [] follows same answered stamped agrees le =
      ap (entered_if hash numbers m stamp who made (λ m' made'. entries_from most hash numbers m' (stamp + 1) who c made')) follows
  own_is zero m stamp made (e ∷ own) follows same answered stamped agrees le = absurd (omega (arith, le))
  own_is (suc most) m stamp made (e ∷ own) follows same answered stamped agrees le =
      let line : line_of numbers stamp who (e.entry.place, e.entry.event) e.entry.reply ≡ e = line_is stamp e stamped.0 agrees.0 same.0 in
      let stepped : step hash m stamp e.entry.place e.entry.event ≡ Some (e.entry.reply, after hash m e) =
      ap (λ s. step hash m s e.entry.place e.entry.event) (sym stamped.0) ∙ some_answer (step hash m e.stamp e.entry.place e.entry.event) m e.entry.reply answered.0 in
      ap (entered_if hash numbers m stamp who made (λ m' made'. entries_from most hash numbers m' (stamp + 1) who c made')) follows.0
      ∙ ap (entered numbers stamp who (e.entry.place, e.entry.event) made (λ m' made'. entries_from most hash numbers m' (stamp + 1) who c made')) stepped
      ∙ ap (λ x. x ∷ entries_from most hash numbers (after hash m e) (stamp + 1) who c (made ++ x ∷ [])) line
      ∙ ap (λ es. e ∷ es) (own_is most (after hash m e) (stamp + 1) (made ++ e ∷ []) own follows.1 same.1 answered.1 stamped.1 agrees.1 (omega (arith, le)))

-- ---- all calls

runs_are : (hash : Hash) (numbers : Numbers) (calls : List (Who × Call)) (m : Machine) (stamp : ℕ) (es : List Line) → Runs hash numbers calls es → Answered hash m es
    → StampedFrom stamp es → AllByRecursion (AgreesIn numbers) es → es ≡ history_of hash numbers m stamp calls
unfolding history_of
runs_are hash numbers [] m stamp es runs answered stamped agrees = runs
runs_are hash numbers (made ∷ calls) m stamp es runs answered stamped agrees =
    let own : List Line = runs.0 in
    let others : List Line = runs.1 in
    let first : RunsFirst hash numbers made es own others = runs.2 in
    let answers = answered_parts hash m own others (subst (Answered hash m) first.whole answered) in
    let stamps = stamped_parts stamp own others (subst (StampedFrom stamp) first.whole stamped) in
    let agreed = all_parts (AgreesIn numbers) own others (subst (AllByRecursion (AgreesIn numbers)) first.whole agrees) in
    let own_are : entries_of hash numbers m stamp made.0 made.1 ≡ own =
    own_is hash numbers made.0 made.1 most_entries m stamp [] own first.follows first.same_call answers.0 stamps.0 agreed.0 (omega (arith, follows_short hash numbers made.1 [] own first.follows (omega arith))) in
    let rest : others ≡ history_of hash numbers (replay hash m own) (stamp + length own) calls =
    runs_are hash numbers calls (replay hash m own) (stamp + length own) others runs.3 answers.1 stamps.1 agreed.1 in
    first.whole ∙ ap (λ fs. own ++ fs) rest ∙ ap (λ xs. xs ++ history_of hash numbers (replay hash m xs) (stamp + length xs) calls) (sym own_are)

pub ordered_is_solo : (hash : Hash) (o : Opening) (scripts : List (List Call)) (history : List Line) → Legal hash o scripts history → InOrder history → history ≡ solo hash o scripts
ordered_is_solo hash o scripts history legal order =
    runs_are hash (numbers_of o) (all_calls 0 scripts) o.machine 0 history (all_run hash (numbers_of o) scripts history order legal.calls) legal.linked.replies
    (stamped_all 0 history (λ i e there. legal.linked.stamps i e there ∙ no_more i))
    (agree_all (numbers_of o) history legal.linked.agrees)
  where
    no_more : (n : ℕ) → n ≡ 0 + n
    no_more n = omega arith
