-- The events of an exit behind its first: each file of the process drops its regions.
use Rattle.std.proofs.Common.{◌≡◌, ℕ, zero, suc, ◌+◌, ◌<◌, Bool, true, false, List, [], ◌∷◌, ◌++◌, length, map, Option, Some, None, refl, sym, ap, subst, ◌∙◌, arith, append_assoc, append-nil, add-one}
use Rattle.std.proofs.lemmas.List.Elements.{All-cons}
use Rattle.std.specs.Prelude.{All, ◌==◌, cond, filter, slice_get, not, if◌then◌else◌}
use Rattle.std.specs.List.{range_with_len}
use Rattle.std.specs.Option.{option_map, option_and_then}
use Rattle.std.specs.Int.{bit_at}
use Rattle.std.proofs.lemmas.Grind.{common_steps}
use Rattle.std.proofs.lemmas.List.{map-append}
use Rattle.pg_book.specs.declared.needs.Needs.{Needs}
use Rattle.pg_book.specs.declared.receipt.Receipt.{Receipt}
use Rattle.pg_book.specs.Needs.{nothing_needed}
use Rattle.pg_book.specs.Closing.{stamped}
use Rattle.pg_digest.specs.Kinds.{Hash}
use Rattle.cs_policy.specs.declared.file.FileEvent.TheVariants as file
use Rattle.cs_policy.specs.declared.process.ProcEvent.TheVariants as process
use Rattle.cs_policy.specs.declared.entry.Event.TheVariants as event
use Rattle.cs_policy.specs.declared.entry.Place.{Place}
use Rattle.cs_policy.specs.declared.entry.Place.TheVariants as place
use Rattle.cs_policy.specs.declared.entry.Who.{Who}
use Rattle.cs_policy.specs.declared.entry.Entry.{Entry}
use Rattle.cs_policy.specs.declared.call.Call.TheVariants as call
use Rattle.pg_history.specs.Machine.{Line}
use Rattle.pg_history.specs.Opening.{Numbers}
use Rattle.pg_history.specs.ByParts.{is_at}
use Rattle.pg_history.specs.Calls.{Asked, of_process, exited, files_in, next_event}
use Rattle.pg_history.specs.Legal.{Follows}
use Rattle.pg_calls.specs.Room.{plus, Within, IsPlaceIn, one_entry, used_by, given_to, Use, at_file, at_process, at_some_file, use_at, uses_at, uses_of}
use Rattle.pg_calls.specs.Parts.{PartsNow, HasRoom, Asks}
use Rattle.pg_calls.specs.Calls.{HasRoomFor, IsOf, Enters, is_consequence, last_of}
use Rattle.pg_calls.specs.Exits.{asked_of, drops_in, HasRoomToDrop, Drops}
use Rattle.pg_calls.proofs.RoomFacts.{within-refl, within-trans, within-plus, within-nothing, within-front, within-join, needs-same, nothing-plus, number-same, used_by-append, FitsOne, Fit, FitsNext, fit-used, fit-next}
use Rattle.pg_calls.proofs.CallFacts.{adds-none, adds-one, asked-is_of, one-done, all-counted, Next}

-- what one file uses
abbrev pub one_of : ℕ → Use
one_of number = at_file number one_entry

-- ---- distinct files use one entry each

-- a file below them is none of them
not_among : (t : ℕ → Bool) (k a n : ℕ) → k < a → uses_at (place.File k) (map one_of (filter t (range_with_len a n))) ≡ nothing_needed
not_among t k a zero lt = refl
not_among t k a (suc n) lt = by_test (not_among t k (a + 1) n (omega (arith, lt))) (t a)
  where
    other : (a == k) ≡ false
    other = grind (arith, common_steps, lt)

    by_test : uses_at (place.File k) (map one_of (filter t (range_with_len (a + 1) n))) ≡ nothing_needed → (b : Bool) → uses_at (place.File k) (map one_of (cond b (a ∷ filter t (range_with_len (a + 1) n)) (filter t (range_with_len (a + 1) n)))) ≡ nothing_needed
    by_test rest true =
        ap (λ b. plus (if b then one_entry else nothing_needed) (uses_at (place.File k) (map one_of (filter t (range_with_len (a + 1) n))))) other
        ∙ nothing-plus _ ∙ rest
    by_test rest false = rest

at_most_one : (t : ℕ → Bool) (k a n : ℕ) → Within (uses_at (place.File k) (map one_of (filter t (range_with_len a n)))) one_entry
at_most_one t k a zero = within-nothing one_entry
at_most_one t k a (suc n) = by_test (at_most_one t k (a + 1) n) (t a)
  where
    by_number : Within (uses_at (place.File k) (map one_of (filter t (range_with_len (a + 1) n)))) one_entry → (b : Bool) → (a == k) ≡ b → Within (plus (if b then one_entry else nothing_needed) (uses_at (place.File k) (map one_of (filter t (range_with_len (a + 1) n))))) one_entry
    by_number rest true e = subst (λ m. Within (plus one_entry m) one_entry) (sym (not_among t k (a + 1) n (grind (arith, common_steps, e))))
        (record { entries = omega arith; regions = omega arith; records = omega arith; copies = omega arith; blobs = omega arith; numbers = omega arith })
    by_number rest false e = subst (λ m. Within m one_entry) (sym (nothing-plus _)) rest

    by_test : Within (uses_at (place.File k) (map one_of (filter t (range_with_len (a + 1) n)))) one_entry → (b : Bool) → Within (uses_at (place.File k) (map one_of (cond b (a ∷ filter t (range_with_len (a + 1) n)) (filter t (range_with_len (a + 1) n))))) one_entry
    by_test rest true = by_number rest (a == k) refl
    by_test rest false = rest

nothing_elsewhere : (p : Place) → ((n : ℕ) → is_at (place.File n) p ≡ false) → (ns : List ℕ) → uses_at p (map one_of ns) ≡ nothing_needed
nothing_elsewhere p apart [] = refl
nothing_elsewhere p apart (n ∷ ns) =
    ap (λ b. plus (if b then one_entry else nothing_needed) (uses_at p (map one_of ns))) (apart n) ∙ nothing-plus _ ∙ nothing_elsewhere p apart ns

pub files-counted : (t : ℕ → Bool) (n : ℕ) (p : Place) → Within (uses_at p (map one_of (filter t (range_with_len 0 n)))) (use_at p (at_some_file one_entry))
files-counted t n (place.File k) = at_most_one t k 0 n
files-counted t n (place.Process pid) =
    subst (λ m. Within m nothing_needed) (sym (nothing_elsewhere (place.Process pid) (λ k. refl) (filter t (range_with_len 0 n)))) (within-refl nothing_needed)
files-counted t n place.Trust =
    subst (λ m. Within m nothing_needed) (sym (nothing_elsewhere place.Trust (λ k. refl) (filter t (range_with_len 0 n)))) (within-refl nothing_needed)

-- one number more
filter-more : (t : ℕ → Bool) (a n j : ℕ) → a + n ≡ j → filter t (range_with_len a (suc n)) ≡ filter t (range_with_len a n) ++ cond (t j) (j ∷ []) []
filter-more t a zero j e = by_same (omega (arith, e))
  where
    by_same : a ≡ j → cond (t a) (a ∷ []) [] ≡ cond (t j) (j ∷ []) []
    by_same s = ap (λ m. cond (t m) (m ∷ []) []) s
filter-more t a (suc n) j e = by_test (filter-more t (a + 1) n j (omega (arith, e))) (t a)
  where
    by_test : filter t (range_with_len (a + 1) (suc n)) ≡ filter t (range_with_len (a + 1) n) ++ cond (t j) (j ∷ []) [] → (b : Bool) → cond b (a ∷ filter t (range_with_len (a + 1) (suc n))) (filter t (range_with_len (a + 1) (suc n)))
        ≡ cond b (a ∷ filter t (range_with_len (a + 1) n)) (filter t (range_with_len (a + 1) n)) ++ cond (t j) (j ∷ []) []
    by_test rest true = ap (λ xs. a ∷ xs) rest
    by_test rest false = rest

pub set-more : (t : ℕ → Bool) (n : ℕ) → t n ≡ true → filter t (range_with_len 0 (n + 1)) ≡ filter t (range_with_len 0 n) ++ n ∷ []
set-more t n e = ap (λ m. filter t (range_with_len 0 m)) (add-one n) ∙ filter-more t 0 n n (omega arith) ∙ ap (λ b. filter t (range_with_len 0 n) ++ cond b (n ∷ []) []) e

pub unset-more : (t : ℕ → Bool) (n : ℕ) → t n ≡ false → filter t (range_with_len 0 (n + 1)) ≡ filter t (range_with_len 0 n)
unset-more t n e = ap (λ m. filter t (range_with_len 0 m)) (add-one n) ∙ filter-more t 0 n n (omega arith) ∙ ap (λ b. filter t (range_with_len 0 n) ++ cond b (n ∷ []) []) e ∙ append-nil _

-- ---- entries that drop regions

abbrev DropsEach : ℕ → List ℕ → List Line → Type 0
DropsEach pid files own = ◌≡◌ {A = List Asked} (map asked_of own) (map (drops_in pid) files)

head_is : (a b : Asked) (xs ys : List Asked) → ◌≡◌ {A = List Asked} (a ∷ xs) (b ∷ ys) → a ≡ b
head_is a b xs ys e = grind (arith, common_steps, e)

tail_is : (a b : Asked) (xs ys : List Asked) → ◌≡◌ {A = List Asked} (a ∷ xs) (b ∷ ys) → xs ≡ ys
tail_is a b xs ys e = grind (arith, common_steps, e)

drop_fits : (pid number : ℕ) → FitsOne (one_of number) (place.File number) (event.File (file.DropPid pid))
drop_fits pid number = record { there = number-same number; uses = within-refl one_entry }

fits_as : (pid number : ℕ) (x : Line) → asked_of x ≡ drops_in pid number → FitsOne (one_of number) x.entry.place x.entry.event
fits_as pid number x e = subst (λ (a : Asked). FitsOne (one_of number) a.0 a.1) (sym e) (drop_fits pid number)

pub drops-fit : (pid : ℕ) (files more : List ℕ) (own : List Line) → DropsEach pid files own → Fit (map one_of (files ++ more)) own
drops-fit pid files more [] e = tt
drops-fit pid [] more (x ∷ xs) e = absurd (grind (arith, common_steps, e))
drops-fit pid (n ∷ ns) more (x ∷ xs) e =
    (fits_as pid n x (head_is _ _ _ _ e), drops-fit pid ns more xs (tail_is _ _ _ _ e))

pub drops-next : (pid number : ℕ) (files : List ℕ) (own : List Line) → DropsEach pid files own
    → FitsNext (map one_of (files ++ number ∷ [])) own (place.File number) (event.File (file.DropPid pid))
drops-next pid number [] [] e = drop_fits pid number
drops-next pid number [] (x ∷ xs) e = absurd (grind (arith, common_steps, e))
drops-next pid number (n ∷ ns) [] e = absurd (grind (arith, common_steps, e))
drops-next pid number (n ∷ ns) (x ∷ xs) e = drops-next pid number ns xs (tail_is _ _ _ _ e)

pub drops-none : (who : Who) (pid : ℕ) (start : PartsNow) → Drops who pid [] start start
drops-none who pid start = record { own = []; adds = adds-none who start; each = refl }

pub drops-one : (who : Who) (pid number : ℕ) (files : List ℕ) (start now : PartsNow) (receipt : Receipt Entry) (new : PartsNow)
    → Drops who pid files start now → Asks now who (place.File number) (event.File (file.DropPid pid)) receipt new
    → Drops who pid (files ++ number ∷ []) start new
drops-one who pid number files start now receipt new drops asks = record {
  own = drops.own ++ stamped receipt ∷ [];
  adds = adds-one who start drops.own now _ _ receipt new drops.adds asks;
  each = map-append asked_of drops.own (stamped receipt ∷ [])
      ∙ ap (λ xs. xs ++ asked_of (stamped receipt) ∷ []) drops.each
      ∙ ap (λ (a : Asked). map (drops_in pid) files ++ a ∷ []) one
      ∙ sym (map-append (drops_in pid) files (number ∷ []));
}
  where
    one : asked_of (stamped receipt) ≡ drops_in pid number
    one = λ i. (asks.place i, asks.event i)

-- there is room for the next
pub drops-room : (who : Who) (pid number : ℕ) (t : ℕ → Bool) (start now : PartsNow) → Drops who pid (filter t (range_with_len 0 number)) start now
    → t number ≡ true → HasRoomToDrop start who → HasRoom now who (place.File number) (event.File (file.DropPid pid))
drops-room who pid number t start now drops set has =
    subst (λ (p : PartsNow). HasRoom p who (place.File number) (event.File (file.DropPid pid))) (sym drops.adds.made)
    (λ here. subst (λ n. Within (plus n one_entry) (given_to start.numbers start.needs who.worker (place.File number))) (sym (used_by-append who.worker (place.File number) start.made drops.own))
    (within-join _ _ _ _ _ (has (place.File number) here) (within-trans _ _ _
    (fit-next who.worker (place.File number) (event.File (file.DropPid pid)) (map one_of (filter t (range_with_len 0 number) ++ number ∷ [])) drops.own
    (drops-fit pid (filter t (range_with_len 0 number)) (number ∷ []) drops.own drops.each)
    (drops-next pid number (filter t (range_with_len 0 number)) drops.own drops.each))
    (subst (λ ns. Within (uses_at (place.File number) (map one_of ns)) one_entry) (set-more t number set) (files-counted t (number + 1) (place.File number))))))

-- ---- the exit

module _ (hash : Hash) (numbers : Numbers) (pid : ℕ) (exit : Line) (bits : ℕ) (is : option_and_then exited (of_process exit.entry.reply) ≡ Some bits) where
  by_files : (done : List Line) → ◌≡◌ {A = Option Asked} (next_event hash numbers (call.Exit pid) (exit ∷ done)) (option_map (drops_in pid) (slice_get (files_in bits) (length done)))
  by_files done = ap (λ o. option_and_then (λ files. option_map (drops_in pid) (slice_get (files_in files) (length done))) o) is

  at_end : (xs : List ℕ) → slice_get xs (length xs) ≡ None
  at_end [] = refl
  at_end (x ∷ xs) = grind (arith, common_steps, at_end xs)

  at_next : (xs ys : List ℕ) (y : ℕ) → slice_get (xs ++ y ∷ ys) (length xs) ≡ Some y
  at_next [] ys y = refl
  at_next (x ∷ xs) ys y = grind (arith, common_steps, at_next xs ys y)

  same_length : (files : List ℕ) (own : List Line) → DropsEach pid files own → length own ≡ length files
  same_length [] [] e = refl
  same_length [] (x ∷ xs) e = absurd (grind (arith, common_steps, e))
  same_length (n ∷ ns) [] e = absurd (grind (arith, common_steps, e))
  same_length (n ∷ ns) (x ∷ xs) e = ap suc (same_length ns xs (tail_is _ _ _ _ e))

  pub follow-drops : (done rest : List Line) (before behind : List ℕ) → files_in bits ≡ before ++ behind → length done ≡ length before → DropsEach pid behind rest
      → Follows hash numbers (call.Exit pid) (exit ∷ done) rest
  follow-drops done [] before [] all same e =
      by_files done ∙ ap (λ k. option_map (drops_in pid) (slice_get (files_in bits) k)) same
      ∙ ap (λ xs. option_map (drops_in pid) (slice_get xs (length before))) (all ∙ append-nil before)
      ∙ ap (λ o. option_map (drops_in pid) o) (at_end before)
  follow-drops done [] before (n ∷ ns) all same e = absurd (grind (arith, common_steps, e))
  follow-drops done (x ∷ xs) before [] all same e = absurd (grind (arith, common_steps, e))
  follow-drops done (x ∷ xs) before (n ∷ ns) all same e = (
    by_files done ∙ ap (λ k. option_map (drops_in pid) (slice_get (files_in bits) k)) same
        ∙ ap (λ ys. option_map (drops_in pid) (slice_get ys (length before))) all
        ∙ ap (λ o. option_map (drops_in pid) o) (at_next before ns n)
        ∙ ap Some (sym (head_is _ _ _ _ e)),
    follow-drops (done ++ x ∷ []) xs (before ++ n ∷ []) ns (all ∙ sym (append_assoc before (n ∷ []) ns)) (grind (arith, common_steps, same)) (tail_is _ _ _ _ e),
  )

abbrev tells_of : Line → Bool
tells_of e = not (is_consequence e.entry.event)

quiet : (pid : ℕ) (files : List ℕ) (own : List Line) → DropsEach pid files own → filter tells_of own ≡ []
quiet pid files [] e = refl
quiet pid [] (x ∷ xs) e = absurd (grind (arith, common_steps, e))
quiet pid (n ∷ ns) (x ∷ xs) e =
    ap (λ (a : Asked). cond (not (is_consequence a.1)) (x ∷ filter tells_of xs) (filter tells_of xs)) (head_is _ _ _ _ e)
    ∙ quiet pid ns xs (tail_is _ _ _ _ e)

plus-nothing : (one : Needs) → plus one nothing_needed ≡ one
plus-nothing one = needs-same _ _ (omega arith) (omega arith) (omega arith) (omega arith) (omega arith) (omega arith)

module _ (hash : Hash) (who : Who) (pid : ℕ) (start now : PartsNow) (exit : Receipt Entry)
    (asks : Asks start who (place.Process pid) (event.Proc process.Exit) exit now) where
  exit-fit : FitsOne (at_process pid one_entry) exit.entry.place exit.entry.event
  exit-fit = subst (λ q. FitsOne (at_process pid one_entry) q exit.entry.event) (sym asks.place)
      (subst (λ e. FitsOne (at_process pid one_entry) (place.Process pid) e) (sym asks.event)
      (record { there = number-same pid; uses = within-refl one_entry }))

  pub exit-room : HasRoomFor start who (call.Exit pid) → HasRoomToDrop now who
  exit-room has p =
      subst (λ (q : PartsNow). IsPlaceIn q.numbers p → Within (plus (used_by who.worker p q.made) (use_at p (at_some_file one_entry))) (given_to q.numbers q.needs who.worker p)) (sym asks.made)
      (λ here. subst (λ n. Within (plus n (use_at p (at_some_file one_entry))) (given_to start.numbers start.needs who.worker p)) (sym (used_by-append who.worker p start.made (stamped exit ∷ [])))
      (within-join _ _ _ _ _ (has p here) (within-plus _ _ _ _ first-used (within-front _ _ _ (within-refl (use_at p (at_some_file one_entry)))))))
    where
      first-used : Within (used_by who.worker p (stamped exit ∷ [])) (use_at p (at_process pid one_entry))
      first-used = within-trans _ _ _ (fit-used who.worker p (at_process pid one_entry ∷ []) (stamped exit ∷ []) (exit-fit, tt))
          (subst (λ n. Within n (use_at p (at_process pid one_entry))) (sym (plus-nothing (use_at p (at_process pid one_entry)))) (within-refl (use_at p (at_process pid one_entry))))

  -- an exit that no file follows
  pub exit-alone : option_and_then exited (of_process exit.entry.reply) ≡ None → Enters hash (call.Exit pid) who start exit.entry.reply now
  exit-alone none =
      one-done hash (call.Exit pid) (uses_of (call.Exit pid)) who start (all-counted (call.Exit pid)) (place.Process pid) (event.Proc process.Exit) exit now refl
      (record { there = number-same pid; uses = within-refl one_entry }) asks refl
      (ap (λ o. option_and_then (λ files. option_map (drops_in pid) (slice_get (files_in files) 0)) o) none)

  pub exit-done : (bits : ℕ) (later : PartsNow) → option_and_then exited (of_process exit.entry.reply) ≡ Some bits
      → Drops who pid (files_in bits) now later → Enters hash (call.Exit pid) who start exit.entry.reply later
  exit-done bits later is drops = record {
    own = stamped exit ∷ drops.own;
    adds = record {
      made = drops.adds.made ∙ ap (λ (p : PartsNow). record p { made = p.made ++ drops.own }) asks.made
          ∙ ap (λ m. record start { made = m }) (append_assoc start.made (stamped exit ∷ []) drops.own);
      of_call = All-cons (IsOf start.numbers who) (stamped exit) drops.own
          (asked-is_of who start _ _ exit now asks)
          (subst (λ (p : PartsNow). All (IsOf p.numbers who) drops.own) asks.made drops.adds.of_call);
    };
    follows = (
      begun,
      follow-drops hash start.numbers pid (stamped exit) bits is [] drops.own [] (files_in bits) refl refl drops.each,
    );
    answers =
        ap (λ e. option_map (λ (x : Line). x.entry.reply) (last_of (cond (not (is_consequence e)) (stamped exit ∷ filter tells_of drops.own) (filter tells_of drops.own)))) asks.event
        ∙ ap (λ xs. option_map (λ (x : Line). x.entry.reply) (last_of (stamped exit ∷ xs))) (quiet pid (files_in bits) drops.own drops.each);
    room = λ p. within-trans _ _ _
        (fit-used who.worker p (at_process pid one_entry ∷ map one_of (files_in bits ++ [])) (stamped exit ∷ drops.own) (exit-fit, drops-fit pid (files_in bits) [] drops.own drops.each))
        (within-plus _ _ _ _ (within-refl (use_at p (at_process pid one_entry)))
        (subst (λ ns. Within (uses_at p (map one_of ns)) (plus (use_at p (at_some_file one_entry)) nothing_needed)) (sym (append-nil (files_in bits)))
        (within-front _ _ _ (files-counted (λ n. bit_at bits n == 1) 16 p))));
  }
    where
      begun : Next hash start.numbers (call.Exit pid) [] exit.entry.place exit.entry.event
      begun = subst (λ q. Next hash start.numbers (call.Exit pid) [] q exit.entry.event) (sym asks.place)
          (subst (λ e. Next hash start.numbers (call.Exit pid) [] (place.Process pid) e) (sym asks.event) refl)
