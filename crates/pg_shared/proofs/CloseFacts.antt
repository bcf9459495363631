-- A run is closed: what the spines and the passes of its book say of its history.
use Rattle.std.proofs.Common.{◌≡◌, ◌⊎◌, ℕ, zero, suc, ◌+◌, ◌-◌, ◌<◌, ◌≤◌, Bool, true, false, eqb, eqb-true, eq-eqb, ltb, ltb-true, ltb-false, List, [], ◌∷◌, ◌++◌, length, filter, Some, refl, sym, ap, subst, ◌∙◌, arith, inl, inr, length-append}
use Rattle.std.specs.Prelude.{◌==◌, ◌&&◌, slice_get, if◌then◌else◌, All}
use Rattle.std.specs.List.{AllByRecursion}
use Rattle.std.proofs.lemmas.Grind.{common_steps}
use Rattle.pg_digest.specs.Kinds.{Hash}
use Rattle.pg_book.specs.declared.needs.Needs.{Needs}
use Rattle.pg_book.specs.declared.receipt.Receipt.{Receipt}
use Rattle.pg_book.specs.Needs.{nothing_needed, parts_of}
use Rattle.pg_book.specs.Lists.{Among}
use Rattle.pg_book.specs.Models.{SpineOf, PassOf, BookOf, spine_receipts, pass_receipts, IsSpineAt, IsPassAt}
use Rattle.pg_book.specs.Opening.{EachFrom}
use Rattle.pg_book.specs.Closing.{stamped, AreSpinesOf, ArePassesOf, IsHistory}
use Rattle.pg_book.proofs.Placing.{each_map}
use Rattle.cs_policy.specs.declared.entry.Place.{Place}
use Rattle.cs_policy.specs.declared.entry.Place.TheVariants as place
use Rattle.cs_policy.specs.declared.entry.Entry.{Entry}
use Rattle.pg_object.specs.Object.{ObjectNow}
use Rattle.pg_process.specs.ProcessStep.{PlainProcess}
use Rattle.pg_trusted.specs.TrustStep.{TrustList}
use Rattle.pg_history.specs.Machine.{Line}
use Rattle.pg_history.specs.Opening.{Numbers}
use Rattle.pg_history.specs.ByParts.{is_at, entries_at}
use Rattle.pg_history.specs.Legal.{AgreesIn, entries_by}
use Rattle.pg_history.proofs.ListFacts.{get-front, get-end}
use Rattle.pg_calls.specs.Room.{plus, Within, event_uses, used_by, given_to, IsPlaceIn}
use Rattle.pg_calls.proofs.RoomFacts.{within-nothing, nothing-plus, used_one, used_by-cons, is_at-same}
use Rattle.pg_parts.specs.Opened.{OpenedNow, numbers_in, IsOpenable}
use Rattle.pg_parts.specs.Replays.{FileWent, ProcessWent, TrustWent}
use Rattle.pg_parts.proofs.ListFacts.{all-placed}
use Rattle.pg_parts.proofs.ReadingFacts.{IsIn, in-filter}
use Rattle.pg_parts.proofs.RoomSums.{NeedsAre}
use Rattle.pg_machine.specs.Solo.{WentOn, IsRunning}
use Rattle.pg_machine.proofs.HistoryFacts.{in-of}
use Rattle.pg_machine.proofs.OpeningFacts.{opening-answers}
use Rattle.pg_machine.proofs.AskFacts.{length-numbers, there-at, within-of}
use Rattle.pg_shared.specs.Plan.{Plan, number_at}
use Rattle.pg_shared.specs.Drawn.{lines_in, drawn_on, drawn_by}
use Rattle.pg_shared.specs.Passes.{IsPassOf}
use Rattle.pg_shared.specs.Spines.{IsSpineOf}
use Rattle.pg_shared.specs.Cells.{IsFileKept, IsProcessKept, IsTrustOf}
use Rattle.pg_shared.specs.Opening.{parts_in, IsBookOf, SharedNow, IsSharedOf}
use Rattle.pg_shared.specs.Closing.{AreKept, ArePassesOfRun, parts_now, IsClosed}
use Rattle.pg_shared.proofs.ReceiptFacts.{one-place}

-- ---- lists

module _ {A : Type 0} where
  -- an element at its place
  pub each-get : (P : ℕ → A → Type 0) (n : ℕ) (xs : List A) (k : ℕ) (x : A) → EachFrom P n xs → slice_get xs k ≡ Some x → P (n + k) x
  each-get P n [] k x each there = absurd (grind (arith, common_steps, there))
  each-get P n (y ∷ ys) zero x each there =
      subst (λ (m : ℕ). P m x) (omega arith) (subst (P n) (grind (arith, common_steps, there)) each.0)
  each-get P n (y ∷ ys) (suc k) x each there = subst (λ (m : ℕ). P m x) (omega arith) (each-get P (suc n) ys k x each.1 there)

  -- the same from the first on
  each_at : (P : ℕ → A → Type 0) (xs : List A) (k : ℕ) (x : A) → EachFrom P 0 xs → slice_get xs k ≡ Some x → P k x
  each_at P xs k x each there = let same : 0 + k ≡ k = omega arith in subst (λ (n : ℕ). P n x) same (each-get P 0 xs k x each there)

  get_behind : (xs ys : List A) (k : ℕ) (y : A) → slice_get ys k ≡ Some y → slice_get (xs ++ ys) (length xs + k) ≡ Some y
  get_behind [] ys k y there = let same : k ≡ 0 + k = omega arith in subst (λ (n : ℕ). slice_get ys n ≡ Some y) same there
  get_behind (x ∷ xs) ys k y there =
      let same : suc (length xs + k) ≡ length (x ∷ xs) + k = omega arith in
      subst (λ (n : ℕ). slice_get ((x ∷ xs) ++ ys) n ≡ Some y) same (get_behind xs ys k y there)

  filter_same : (p q : A → Bool) (xs : List A) → AllByRecursion (λ x. p x ≡ q x) xs → filter p xs ≡ filter q xs
  filter_same p q [] all = refl
  filter_same p q (x ∷ xs) all =
      ap (λ b. if b then x ∷ filter p xs else filter p xs) all.0 ∙ ap (λ l. if q x then x ∷ l else l) (filter_same p q xs all.1)

all_in : (P : Line → Type 0) (es : List Line) (k : ℕ) (e : Line) → AllByRecursion P es → slice_get es k ≡ Some e → P e
all_in P [] k e all there = absurd (grind (arith, common_steps, there))
all_in P (x ∷ xs) zero e all there = subst P (grind (arith, common_steps, there)) all.0
all_in P (x ∷ xs) (suc k) e all there = all_in P xs k e all.1 there

all_so : (P Q : Line → Type 0) → ((x : Line) → P x → Q x) → (es : List Line) → AllByRecursion P es → AllByRecursion Q es
all_so P Q so [] all = tt
all_so P Q so (x ∷ xs) all = (so x all.0, all_so P Q so xs all.1)

-- the receipt of an entry that was drawn
drawn_in : (xs : List (Receipt Entry)) (e : Line) → IsIn e (lines_in xs) → (r : Receipt Entry) × Among r xs × (stamped r ≡ e)
drawn_in [] e there = absurd there
drawn_in (x ∷ xs) e (inl same) = (x, inl refl, same)
drawn_in (x ∷ xs) e (inr later) = let found = drawn_in xs e later in (found.0, inr found.1, found.2)

-- ---- parts and spines in pairs

module _ {A : Type 0} (P : ℕ → A → SpineOf Entry → Type 0) where
  pub kept-push : (n : ℕ) (xs : List A) (spines : List (SpineOf Entry)) (k : ℕ) (x : A) (s : SpineOf Entry) → AreKept P n xs spines → n + length xs ≡ k → P k x s → AreKept P n (xs ++ x ∷ []) (spines ++ s ∷ [])
  kept-push n [] [] k x s kept count one = (subst (λ (m : ℕ). P m x s) (omega (arith, count)) one, tt)
  kept-push n [] (t ∷ spines) k x s kept count one = absurd kept
  kept-push n (y ∷ xs) [] k x s kept count one = absurd kept
  kept-push n (y ∷ xs) (t ∷ spines) k x s kept count one = (kept.0, kept-push (suc n) xs spines k x s kept.1 (omega (arith, count)) one)

  pub kept-count : (n : ℕ) (xs : List A) (spines : List (SpineOf Entry)) → AreKept P n xs spines → length spines ≡ length xs
  kept-count n [] [] kept = refl
  kept-count n [] (t ∷ spines) kept = absurd kept
  kept-count n (y ∷ xs) [] kept = absurd kept
  kept-count n (y ∷ xs) (t ∷ spines) kept = ap suc (kept-count (suc n) xs spines kept.1)

  -- the spine of a part
  kept_at : (n : ℕ) (xs : List A) (spines : List (SpineOf Entry)) (k : ℕ) (x : A) → AreKept P n xs spines → slice_get xs k ≡ Some x → (s : SpineOf Entry) × (slice_get spines k ≡ Some s) × P (n + k) x s
  kept_at n [] spines k x kept there = absurd (grind (arith, common_steps, there))
  kept_at n (y ∷ xs) [] k x kept there = absurd kept
  kept_at n (y ∷ xs) (t ∷ spines) zero x kept there =
      (t, refl, subst (λ (m : ℕ). P m x t) (omega arith) (subst (λ z. P n z t) (grind (arith, common_steps, there)) kept.0))
  kept_at n (y ∷ xs) (t ∷ spines) (suc k) x kept there =
      let found = kept_at (suc n) xs spines k x kept.1 there in (found.0, found.1, subst (λ (m : ℕ). P m x found.0) (omega arith) found.2)

  -- the same from the first on
  kept_there : (xs : List A) (spines : List (SpineOf Entry)) (k : ℕ) (x : A) → AreKept P 0 xs spines → slice_get xs k ≡ Some x → (s : SpineOf Entry) × (slice_get spines k ≡ Some s) × P k x s
  kept_there xs spines k x kept there =
      let found = kept_at 0 xs spines k x kept there in
      let same : 0 + k ≡ k = omega arith in
      (found.0, found.1, subst (λ (n : ℕ). P n x found.0) same found.2)

  -- what is so of each spine
  kept_each : (Q : ℕ → SpineOf Entry → Type 0) (n m : ℕ) (xs : List A) (spines : List (SpineOf Entry)) → AreKept P n xs spines → ((k : ℕ) (x : A) (s : SpineOf Entry) → P (n + k) x s → Q (m + k) s) → EachFrom Q m spines
  kept_each Q n m [] [] kept so = tt
  kept_each Q n m [] (t ∷ spines) kept so = absurd kept
  kept_each Q n m (y ∷ xs) [] kept so = absurd kept
  kept_each Q n m (y ∷ xs) (t ∷ spines) kept so = (
    subst (λ (j : ℕ). Q j t) (omega arith) (so 0 y t (subst (λ (j : ℕ). P j y t) (omega arith) kept.0)),
    kept_each Q (suc n) (suc m) xs spines kept.1 (λ k x s one. subst (λ (j : ℕ). Q j s) (omega arith) (so (suc k) x s (subst (λ (j : ℕ). P j x s) (omega arith) one))),
  )

each_join : {A : Type 0} (Q : ℕ → A → Type 0) (n m : ℕ) (xs ys : List A) → EachFrom Q n xs → n + length xs ≡ m → EachFrom Q m ys → EachFrom Q n (xs ++ ys)
each_join Q n m [] ys all count more = subst (λ (j : ℕ). EachFrom Q j ys) (omega (arith, count)) more
each_join Q n m (x ∷ xs) ys all count more = (all.0, each_join Q (suc n) m xs ys all.1 (omega (arith, count)) more)

-- ---- the parts of a run

abbrev pub FileAt : Hash → Plan → ℕ → ObjectNow → SpineOf Entry → Type 0
FileAt hash plan number object spine = IsFileKept hash plan number (record { object = object; spine = spine })

abbrev pub ProcessAt : Plan → ℕ → PlainProcess → SpineOf Entry → Type 0
ProcessAt plan pid p spine = IsProcessKept plan pid (record { process = p; spine = spine })

module _ (hash : Hash) (plan : Plan) (openable : IsOpenable hash plan.start)
    (files : List ObjectNow) (file_spines : List (SpineOf Entry)) (files_kept : AreKept (FileAt hash plan) 0 files file_spines)
    (files_count : length files ≡ length plan.start.files)
    (processes : List PlainProcess) (process_spines : List (SpineOf Entry)) (processes_kept : AreKept (ProcessAt plan) 0 processes process_spines)
    (processes_count : length processes ≡ length plan.start.processes)
    (trust : TrustList) (trust_spine : SpineOf Entry) (trust_kept : IsTrustOf plan (record { trust = trust; spine = trust_spine })) where
  abbrev numbers : Numbers
  numbers = numbers_in plan.start

  abbrev spines : List (SpineOf Entry)
  spines = (file_spines ++ process_spines) ++ trust_spine ∷ []

  file_spines_count : length file_spines ≡ length plan.start.files
  file_spines_count = kept-count (FileAt hash plan) 0 files file_spines files_kept ∙ files_count

  process_spines_count : length process_spines ≡ length plan.start.processes
  process_spines_count = kept-count (ProcessAt plan) 0 processes process_spines processes_kept ∙ processes_count

  pub spines-count : length spines ≡ parts_in plan.start
  spines-count =
      let a = length-append (file_spines ++ process_spines) (trust_spine ∷ []) in let b = length-append file_spines process_spines in
      omega (arith, a, b, file_spines_count, process_spines_count)

  -- they are all spines of the book
  pub spines-are : (book : BookOf Entry) → book.book ≡ plan.book → EachFrom (IsSpineAt book.book) 0 spines
  spines-are book same =
      subst (λ b. EachFrom (IsSpineAt b) 0 spines) (sym same)
      (each_join (IsSpineAt plan.book) 0 (length plan.start.files + length plan.start.processes) (file_spines ++ process_spines) (trust_spine ∷ [])
      (each_join (IsSpineAt plan.book) 0 (length plan.start.files) file_spines process_spines
      (kept_each (FileAt hash plan) (IsSpineAt plan.book) 0 0 files file_spines files_kept (λ k object s one. record { same_book = one.spine.same_book; is_part = one.spine.part }))
      (omega (arith, file_spines_count))
      (kept_each (ProcessAt plan) (IsSpineAt plan.book) 0 (length plan.start.files) processes process_spines processes_kept
      (λ k p s one. record { same_book = one.spine.same_book; is_part = (let e = one.spine.part in let l = length-numbers plan.start.files in omega (arith, e, l)) })))
      (let a = length-append file_spines process_spines in omega (arith, a, file_spines_count, process_spines_count))
      (record { same_book = trust_kept.spine.same_book; is_part = trust_kept.spine.part ∙ ap (λ (n : ℕ). n + length plan.start.processes) (length-numbers plan.start.files) }, tt))

  -- ---- the history

  module _ (passes : List (PassOf Entry)) (history : List Line) (is : IsHistory spines passes history) where
    -- the spine of a part, and its entries in the history
    record HasSpine (at : Place) : Type 0 where
      spine : SpineOf Entry
      of : IsSpineOf plan at spine
      all : filter (λ (e : Line). eqb e.part (number_at plan at)) history ≡ drawn_on spine

    at_number : (k : ℕ) (at : Place) (s : SpineOf Entry) → IsSpineOf plan at s → number_at plan at ≡ k → slice_get spines k ≡ Some s → HasSpine at
    at_number k at s of number there = record {
      spine = s;
      of = of;
      all = ap (λ (n : ℕ). filter (λ (e : Line). eqb e.part n) history) number ∙ each_at (λ part t. filter (λ (e : Line). eqb e.part part) history ≡ lines_in (spine_receipts t)) spines k s is.of_spines there;
    }

    file_there : (number : ℕ) → number < length plan.start.files → (object : ObjectNow) × (slice_get files number ≡ Some object)
    file_there number inside = there-at files number (omega (arith, inside, files_count))

    process_there : (pid : ℕ) → pid < length plan.start.processes → (p : PlainProcess) × (slice_get processes pid ≡ Some p)
    process_there pid inside = there-at processes pid (omega (arith, inside, processes_count))

    record FileThere (number : ℕ) (object : ObjectNow) : Type 0 where
      spine : SpineOf Entry
      kept : IsFileKept hash plan number (record { object = object; spine = spine })
      all : filter (λ (e : Line). eqb e.part number) history ≡ drawn_on spine

    the_file : (number : ℕ) (object : ObjectNow) → slice_get files number ≡ Some object → FileThere number object
    the_file number object there =
        let found = kept_there (FileAt hash plan) files file_spines number object files_kept there in
        record {
          spine = found.0;
          kept = found.2;
          all = each_at (λ part t. filter (λ (e : Line). eqb e.part part) history ≡ lines_in (spine_receipts t)) spines number found.0 is.of_spines
              (get-front (file_spines ++ process_spines) (trust_spine ∷ []) number found.0 (get-front file_spines process_spines number found.0 found.1));
        }

    record ProcessThere (pid : ℕ) (p : PlainProcess) : Type 0 where
      spine : SpineOf Entry
      kept : IsProcessKept plan pid (record { process = p; spine = spine })
      all : filter (λ (e : Line). eqb e.part (number_at plan (place.Process pid))) history ≡ drawn_on spine

    the_process : (pid : ℕ) (p : PlainProcess) → slice_get processes pid ≡ Some p → ProcessThere pid p
    the_process pid p there =
        let found = kept_there (ProcessAt plan) processes process_spines pid p processes_kept there in
        let number : length file_spines + pid ≡ number_at plan (place.Process pid) = ap (λ (n : ℕ). n + pid) (file_spines_count ∙ sym (length-numbers plan.start.files)) in
        record {
          spine = found.0;
          kept = found.2;
          all = ap (λ (n : ℕ). filter (λ (e : Line). eqb e.part n) history) (sym number)
              ∙ each_at (λ part t. filter (λ (e : Line). eqb e.part part) history ≡ lines_in (spine_receipts t)) spines (length file_spines + pid) found.0 is.of_spines
              (get-front (file_spines ++ process_spines) (trust_spine ∷ []) (length file_spines + pid) found.0 (get_behind file_spines process_spines pid found.0 found.1));
        }

    the_trust : filter (λ (e : Line). eqb e.part (number_at plan place.Trust)) history ≡ drawn_on trust_spine
    the_trust =
        let number : length (file_spines ++ process_spines) ≡ number_at plan place.Trust =
        (let a = length-append file_spines process_spines in let b = length-numbers plan.start.files in omega (arith, a, b, file_spines_count, process_spines_count)) in
        ap (λ (n : ℕ). filter (λ (e : Line). eqb e.part n) history) (sym number)
        ∙ each_at (λ part t. filter (λ (e : Line). eqb e.part part) history ≡ lines_in (spine_receipts t)) spines (length (file_spines ++ process_spines)) trust_spine is.of_spines
        (get-end (file_spines ++ process_spines) trust_spine [])

    spine_at : (at : Place) → IsPlaceIn numbers at → HasSpine at
    spine_at (place.File number) placed =
        let there = file_there number (omega (arith, placed, length-numbers plan.start.files)) in
        let found = the_file number there.0 there.1 in record { spine = found.spine; of = found.kept.spine; all = found.all }
    spine_at (place.Process pid) placed =
        let there = process_there pid placed in
        let found = the_process pid there.0 there.1 in record { spine = found.spine; of = found.kept.spine; all = found.all }
    spine_at place.Trust placed = record { spine = trust_spine; of = trust_kept.spine; all = the_trust }

    -- ---- each entry

    pub record IsRunLine (e : Line) : Type 0 where
      pub placed : IsPlaceIn numbers e.entry.place
      pub agrees : AgreesIn numbers e
      pub worker : e.entry.who.worker < length plan.start.needs

    record HasPlace (n : ℕ) : Type 0 where
      at : Place
      placed : IsPlaceIn numbers at
      number : number_at plan at ≡ n

    place_of : (n : ℕ) → n < length spines → HasPlace n
    place_of n inside = by_file (ltb n (length plan.start.files)) refl
      where
        long : length numbers.files ≡ length plan.start.files
        long = length-numbers plan.start.files

        by_process : length plan.start.files ≤ n → (b : Bool) → ltb n (length plan.start.files + length plan.start.processes) ≡ b → HasPlace n
        by_process behind true less =
            let below = ltb-true _ _ less in
            record { at = place.Process (n - length plan.start.files); placed = omega (arith, behind, below); number = omega (arith, behind, long) }
        by_process behind false most =
            let above = ltb-false _ _ most in
            record { at = place.Trust; placed = tt; number = omega (arith, above, long, inside, spines-count) }

        by_file : (b : Bool) → ltb n (length plan.start.files) ≡ b → HasPlace n
        by_file true less = let below = ltb-true _ _ less in record { at = place.File n; placed = omega (arith, below, long); number = refl }
        by_file false most = by_process (ltb-false _ _ most) (ltb n (length plan.start.files + length plan.start.processes)) refl

    run_line : (k : ℕ) (e : Line) → slice_get history k ≡ Some e → IsRunLine e
    run_line k e there =
        let home = place_of e.part (is.of_book k e there).0 in
        let found = spine_at home.at home.placed in
        let here : IsIn e (filter (λ (x : Line). eqb x.part (number_at plan home.at)) history) = in-filter (λ (x : Line). eqb x.part (number_at plan home.at)) e history (eq-eqb _ _ (sym home.number)) (in-of history k e there) in
        let drawn = drawn_in (spine_receipts found.spine) e (subst (λ l. IsIn e l) found.all here) in
        let one = found.of.entries drawn.0 drawn.1 in
        subst IsRunLine drawn.2 (record {
          placed = subst (IsPlaceIn numbers) (sym one.place) home.placed;
          agrees = record { part = one.part ∙ ap (number_at plan) (sym one.place); caller = one.caller };
          worker = one.worker;
        })

    all_run : AllByRecursion IsRunLine history
    all_run = all-placed IsRunLine history run_line

    -- ---- the entries of a part, and of a worker

    same_part : (at : Place) → IsPlaceIn numbers at → (e : Line) → IsRunLine e → is_at at e.entry.place ≡ eqb e.part (number_at plan at)
    same_part at placed e one = by_test (is_at at e.entry.place) (eqb e.part (number_at plan at)) refl refl
      where
        by_test : (b c : Bool) → is_at at e.entry.place ≡ b → eqb e.part (number_at plan at) ≡ c → b ≡ c
        by_test true true here there = refl
        by_test false false here there = refl
        by_test true false here there =
            let same = is_at-same at e.entry.place here in
            let number : e.part ≡ number_at plan at = one.agrees.part ∙ ap (number_at plan) (sym same) in
            sym (eq-eqb _ _ number) ∙ there
        by_test false true here there =
            let number : number_at plan at ≡ number_at plan e.entry.place = sym (eqb-true _ _ there) ∙ one.agrees.part in
            sym here ∙ one-place numbers at e.entry.place placed one.placed number

    entries_are : (at : Place) (placed : IsPlaceIn numbers at) → entries_at at history ≡ filter (λ (e : Line). eqb e.part (number_at plan at)) history
    entries_are at placed = filter_same (λ (e : Line). is_at at e.entry.place) (λ (e : Line). eqb e.part (number_at plan at)) history
        (all_so IsRunLine (λ e. is_at at e.entry.place ≡ eqb e.part (number_at plan at)) (same_part at placed) history all_run)

    by_whom : (w : ℕ) → entries_by w history ≡ filter (λ (e : Line). eqb e.caller w) history
    by_whom w = filter_same (λ (e : Line). e.entry.who.worker == w) (λ (e : Line). eqb e.caller w) history
        (all_so IsRunLine (λ e. (e.entry.who.worker == w) ≡ eqb e.caller w) (λ e one. ap (λ (n : ℕ). eqb n w) (sym one.agrees.caller)) history all_run)

    -- ---- what workers have used

    used_there : (w : ℕ) (at : Place) (es : List Line) → NeedsAre (used_by w at es) (used_by w at (entries_at at es))
    used_there w at [] = refl
    used_there w at (e ∷ es) = used_by-cons w at e es ∙ by_place (is_at at e.entry.place) refl (used_there w at es)
      where
        by_place : (b : Bool) → is_at at e.entry.place ≡ b → NeedsAre (used_by w at es) (used_by w at (entries_at at es))
            → NeedsAre (plus (used_one w at e) (used_by w at es)) (used_by w at (if b then e ∷ entries_at at es else entries_at at es))
        by_place true here rest = ap (λ n. plus (used_one w at e) n) rest ∙ sym (used_by-cons w at e (entries_at at es))
        by_place false apart rest =
            ap (λ b. plus (if e.entry.who.worker == w && b then event_uses e.entry.event else nothing_needed) (used_by w at es)) apart
            ∙ by_worker (e.entry.who.worker == w) ∙ rest
          where
            by_worker : (b : Bool) → NeedsAre (plus (if b && false then event_uses e.entry.event else nothing_needed) (used_by w at es)) (used_by w at es)
            by_worker true = nothing-plus (used_by w at es)
            by_worker false = nothing-plus (used_by w at es)

    -- no entries are at a place that the run does not have
    none_there : (at : Place) → (IsPlaceIn numbers at → ⊥) → (es : List Line) → AllByRecursion IsRunLine es → entries_at at es ≡ []
    none_there at outside [] all = refl
    none_there at outside (e ∷ es) all =
        ap (λ b. if b then e ∷ entries_at at es else entries_at at es) (apart (is_at at e.entry.place) refl) ∙ none_there at outside es all.1
      where
        apart : (b : Bool) → is_at at e.entry.place ≡ b → is_at at e.entry.place ≡ false
        apart true here = absurd (outside (subst (IsPlaceIn numbers) (sym (is_at-same at e.entry.place here)) all.0.placed))
        apart false is_not = is_not

    is_placed : (at : Place) → IsPlaceIn numbers at ⊎ (IsPlaceIn numbers at → ⊥)
    is_placed (place.File number) = by_test (ltb number (length numbers.files)) refl
      where
        by_test : (b : Bool) → ltb number (length numbers.files) ≡ b → (number < length numbers.files) ⊎ (number < length numbers.files → ⊥)
        by_test true less = inl (ltb-true _ _ less)
        by_test false most = let above = ltb-false _ _ most in inr (λ less. absurd (omega (arith, above, less)))
    is_placed (place.Process pid) = by_test (ltb pid numbers.processes) refl
      where
        by_test : (b : Bool) → ltb pid numbers.processes ≡ b → (pid < numbers.processes) ⊎ (pid < numbers.processes → ⊥)
        by_test true less = inl (ltb-true _ _ less)
        by_test false most = let above = ltb-false _ _ most in inr (λ less. absurd (omega (arith, above, less)))
    is_placed place.Trust = inl tt

    within_run : (w : ℕ) (at : Place) → Within (used_by w at history) (given_to numbers plan.start.needs w at)
    within_run w at = by_place (is_placed at)
      where
        by_place : IsPlaceIn numbers at ⊎ (IsPlaceIn numbers at → ⊥) → Within (used_by w at history) (given_to numbers plan.start.needs w at)
        by_place (inl placed) =
            let found = spine_at at placed in
            subst (λ n. Within n (given_to numbers plan.start.needs w at)) (sym (used_there w at history ∙ ap (λ l. used_by w at l) (entries_are at placed ∙ found.all))) (found.of.within w at)
        by_place (inr outside) =
            subst (λ n. Within n (given_to numbers plan.start.needs w at)) (sym (used_there w at history ∙ ap (λ l. used_by w at l) (none_there at outside history all_run))) (within-nothing _)

    -- ---- the parts went on

    some_same : {X : Type 0} (a b : X) → Some a ≡ Some b → a ≡ b
    some_same a b e = grind (arith, common_steps, e)

    went_on : WentOn hash plan.start history (parts_now plan files processes trust)
    went_on = record {
      page_size = refl;
      adhoc = refl;
      needs = refl;
      files_count = files_count;
      processes_count = processes_count;
      files = λ number old new opened there.
          let found = the_file number new there in
          let placed : number < length numbers.files = (let inside = within-of plan.start.files number old opened in omega (arith, inside, length-numbers plan.start.files)) in
          subst (λ (o : ObjectNow). FileWent hash o (entries_at (place.File number) history) new) (some_same found.kept.opened old (sym found.kept.here ∙ opened))
          (subst (λ es. FileWent hash found.kept.opened es new) (sym (entries_are (place.File number) placed ∙ found.all)) found.kept.went);
      processes = λ pid old new opened there.
          let found = the_process pid new there in
          let placed : pid < numbers.processes = within-of plan.start.processes pid old opened in
          subst (λ (p : PlainProcess). ProcessWent (length numbers.files) p (entries_at (place.Process pid) history) new) (some_same found.kept.opened old (sym found.kept.here ∙ opened))
          (subst (λ es. ProcessWent (length numbers.files) found.kept.opened es new) (sym (entries_are (place.Process pid) placed ∙ found.all)) found.kept.went);
      trust = subst (λ es. TrustWent plan.start.trust es trust) (sym (entries_are place.Trust tt ∙ the_trust)) trust_kept.went;
    }

    running : IsRunning hash plan.start history (parts_now plan files processes trust)
    running = record {
      openable = openable;
      went = went_on;
      stamps = is.stamps;
      agrees = λ k e there. (run_line k e there).agrees;
      placed = all_so IsRunLine (λ e. IsPlaceIn numbers e.entry.place) (λ e one. one.placed) history all_run;
      workers = all_so IsRunLine (λ e. e.entry.who.worker < length plan.start.needs) (λ e one. one.worker) history all_run;
      within = within_run;
    }

    -- the run is closed
    pub closes : IsClosed hash plan passes history (parts_now plan files processes trust)
    closes = record {
      stamps = is.stamps;
      agrees = running.agrees;
      workers = running.workers;
      by_worker = each_map (λ caller (p : PassOf Entry). filter (λ (e : Line). eqb e.caller caller) history ≡ lines_in (pass_receipts p)) (λ w p. entries_by w history ≡ drawn_by p) 0 passes
          (λ w p same. by_whom w ∙ same) is.of_passes;
      went = went_on;
      answered = opening-answers hash plan.start (parts_now plan files processes trust) history running;
    }

-- ---- what the book's close asks

pub table-parts : (start : OpenedNow) → 0 < length start.needs → All (λ (row : List Needs). length row ≡ parts_in start) start.needs → parts_of start.needs ≡ parts_in start
table-parts start = by_rows start.needs
  where
    by_rows : (needs : List (List Needs)) → 0 < length needs → All (λ (row : List Needs). length row ≡ parts_in start) needs → parts_of needs ≡ parts_in start
    by_rows [] some even = absurd (omega (arith, some))
    by_rows (row ∷ rows) some even = even 0 row (omega arith)

-- the passes are those of the book
pub passes-are : (plan : Plan) (book : BookOf Entry) → book.book ≡ plan.book → (passes : List (PassOf Entry)) → EachFrom (IsPassOf plan) 0 passes → EachFrom (IsPassAt book.book) 0 passes
passes-are plan book same passes each =
    each_map (IsPassOf plan) (IsPassAt book.book) 0 passes (λ w p of. record { same_book = of.same_book ∙ sym same; is_caller = of.caller }) each

module _ (hash : Hash) (plan : Plan) (now : SharedNow) (shared : IsSharedOf hash plan now) (book : BookOf Entry) (of_book : IsBookOf plan book) where
  same_needs : parts_of book.view.needs ≡ parts_in plan.start
  same_needs = ap parts_of of_book.needs ∙ table-parts plan.start shared.some shared.even

  module _ (files : List ObjectNow) (file_spines : List (SpineOf Entry)) (files_kept : AreKept (FileAt hash plan) 0 files file_spines) (files_count : length files ≡ now.files)
      (processes : List PlainProcess) (process_spines : List (SpineOf Entry)) (processes_kept : AreKept (ProcessAt plan) 0 processes process_spines) (processes_count : length processes ≡ now.processes)
      (trust : TrustList) (trust_spine : SpineOf Entry) (trust_kept : IsTrustOf plan (record { trust = trust; spine = trust_spine }))
      (spines : List (SpineOf Entry)) (spines_is : spines ≡ (file_spines ++ process_spines) ++ trust_spine ∷ []) where
    all_files : length files ≡ length plan.start.files
    all_files = files_count ∙ shared.files

    all_processes : length processes ≡ length plan.start.processes
    all_processes = processes_count ∙ shared.processes

    pub closes-spines : AreSpinesOf book spines
    closes-spines =
        subst (AreSpinesOf book) (sym spines_is) (record {
          count = spines-count hash plan shared.openable files file_spines files_kept all_files processes process_spines processes_kept all_processes trust trust_spine trust_kept ∙ sym same_needs;
          each = spines-are hash plan shared.openable files file_spines files_kept all_files processes process_spines processes_kept all_processes trust trust_spine trust_kept book of_book.same_book;
        })

    pub closes-run : (passes : List (PassOf Entry)) (history : List Line) → IsHistory spines passes history → IsClosed hash plan passes history (parts_now plan files processes trust)
    closes-run passes history is =
        closes hash plan shared.openable files file_spines files_kept all_files processes process_spines processes_kept all_processes trust trust_spine trust_kept passes history
        (subst (λ (ss : List (SpineOf Entry)). IsHistory ss passes history) spines_is is)

  pub closes-passes : (passes : List (PassOf Entry)) → ArePassesOfRun plan passes → ArePassesOf book passes
  closes-passes passes run = record {
    count = run.count ∙ sym (ap length of_book.needs);
    each = passes-are plan book of_book.same_book passes run.each;
  }
