-- Room of a part is enough for all workers: what each has used is no more than it was given, so the sum is no more than all
-- were given.
use Rattle.std.proofs.Common.{◌≡◌, ℕ, zero, suc, ◌+◌, ◌-◌, ◌<◌, ◌≤◌, Bool, true, false, List, [], ◌∷◌, length, refl, sym, ap, subst, ◌∙◌, arith}
use Rattle.std.specs.Prelude.{◌==◌, ◌&&◌, slice_index_or, if◌then◌else◌}
use Rattle.std.specs.List.{AllByRecursion}
use Rattle.std.proofs.lemmas.Grind.{common_steps}
use Rattle.pg_book.specs.declared.needs.Needs.{Needs}
use Rattle.pg_book.specs.Needs.{nothing_needed, row_entries, all_entries}
use Rattle.pg_book.specs.Needs.{entries_at as needed_at}
use Rattle.cs_policy.specs.declared.access.Access.TheVariants.{Read, Write, Execute}
use Rattle.cs_policy.specs.declared.file.FileEvent.TheVariants as file
use Rattle.cs_policy.specs.declared.process.ProcEvent.TheVariants as process
use Rattle.cs_policy.specs.declared.entry.Event.{Event}
use Rattle.cs_policy.specs.declared.entry.Event.TheVariants as event
use Rattle.cs_policy.specs.declared.entry.Place.{Place}
use Rattle.cs_policy.specs.declared.entry.Place.TheVariants as place
use Rattle.cs_policy.specs.Entry.{part_number}
use Rattle.pg_history.specs.Machine.{Line}
use Rattle.pg_history.specs.Opening.{Numbers}
use Rattle.pg_history.specs.ByParts.{is_at, entries_at}
use Rattle.pg_calls.specs.Room.{plus, Within, event_uses, used_by, given_to, IsPlaceIn}
use Rattle.pg_calls.proofs.RoomFacts.{within-refl, within-trans, within-plus, within-behind, within-nothing, plus-assoc, used_one, used_by-cons, is_at-same, number-same}
use Rattle.pg_parts.specs.Rooms.{part_needs, uses_in}

abbrev pub NeedsAre : Needs → Needs → Type 0
NeedsAre one two = ◌≡◌ {A = Needs} one two

-- ---- sums over workers

-- what u gives for each of the rows, by their numbers
abbrev sum_of : (ℕ → Needs) → List (List Needs) → Needs
sum_of u [] = nothing_needed
sum_of u (row ∷ rows) = plus (u 0) (sum_of (λ w. u (suc w)) rows)

sum_within : (u : ℕ → Needs) (rows : List (List Needs)) (part : ℕ) → ((w : ℕ) → Within (u w) (slice_index_or (slice_index_or rows w []) part nothing_needed))
    → Within (sum_of u rows) (part_needs rows part)
sum_within u [] part each = within-nothing nothing_needed
sum_within u (row ∷ rows) part each = within-plus _ _ _ _ (each 0) (sum_within (λ w. u (suc w)) rows part (λ w. each (suc w)))

sum_rises : (u v : ℕ → Needs) (rows : List (List Needs)) → ((w : ℕ) → Within (u w) (v w)) → Within (sum_of u rows) (sum_of v rows)
sum_rises u v [] each = within-nothing nothing_needed
sum_rises u v (row ∷ rows) each = within-plus _ _ _ _ (each 0) (sum_rises (λ w. u (suc w)) (λ w. v (suc w)) rows (λ w. each (suc w)))

-- a sum that holds more at one place
sum_more : (d : Needs) (u v : ℕ → Needs) (rows : List (List Needs)) (i : ℕ) → i < length rows → ((w : ℕ) → Within (u w) (v w)) → Within (plus d (u i)) (v i)
    → Within (plus d (sum_of u rows)) (sum_of v rows)
sum_more d u v [] i inside each here = absurd (omega (arith, inside))
sum_more d u v (row ∷ rows) zero inside each here =
    subst (λ n. Within n (sum_of v (row ∷ rows))) (plus-assoc d (u 0) (sum_of (λ w. u (suc w)) rows))
    (within-plus _ _ _ _ here (sum_rises (λ w. u (suc w)) (λ w. v (suc w)) rows (λ w. each (suc w))))
sum_more d u v (row ∷ rows) (suc i) inside each here =
    let first = each 0 in
    let rest = sum_more d (λ w. u (suc w)) (λ w. v (suc w)) rows i (omega (arith, inside)) (λ w. each (suc w)) here in
    record {
      entries = omega (arith, first.entries, rest.entries);
      regions = omega (arith, first.regions, rest.regions);
      records = omega (arith, first.records, rest.records);
      copies = omega (arith, first.copies, rest.copies);
      blobs = omega (arith, first.blobs, rest.blobs);
      numbers = omega (arith, first.numbers, rest.numbers);
    }

-- ---- what all workers have used of a part

used_rises : (w : ℕ) (at : Place) (e : Line) (es : List Line) → Within (used_by w at es) (used_by w at (e ∷ es))
used_rises w at e es = subst (λ n. Within (used_by w at es) n) (sym (used_by-cons w at e es)) (within-behind _ _ _ (within-refl (used_by w at es)))

-- an entry is used by its worker at its place
used_here : (at : Place) (e : Line) (es : List Line) → is_at at e.entry.place ≡ true
    → NeedsAre (used_by e.entry.who.worker at (e ∷ es)) (plus (event_uses e.entry.event) (used_by e.entry.who.worker at es))
used_here at e es here =
    ap (λ b. if b && is_at at e.entry.place then plus (event_uses e.entry.event) (used_by e.entry.who.worker at es) else used_by e.entry.who.worker at es) (number-same e.entry.who.worker)
    ∙ ap (λ b. if true && b then plus (event_uses e.entry.event) (used_by e.entry.who.worker at es) else used_by e.entry.who.worker at es) here

module _ (at : Place) (rows : List (List Needs)) where
  all_used : (es : List Line) → AllByRecursion (λ e. e.entry.who.worker < length rows) es → Within (uses_in (entries_at at es)) (sum_of (λ w. used_by w at es) rows)
  all_used [] workers = within-nothing _
  all_used (e ∷ es) workers = by_place (is_at at e.entry.place) refl (all_used es workers.1)
    where
      by_place : (b : Bool) → is_at at e.entry.place ≡ b → Within (uses_in (entries_at at es)) (sum_of (λ w. used_by w at es) rows)
          → Within (uses_in (if b then e ∷ entries_at at es else entries_at at es)) (sum_of (λ w. used_by w at (e ∷ es)) rows)
      by_place true here rest =
          within-trans _ _ _ (within-plus _ _ _ _ (within-refl (event_uses e.entry.event)) rest)
          (sum_more (event_uses e.entry.event) (λ w. used_by w at es) (λ w. used_by w at (e ∷ es)) rows e.entry.who.worker workers.0 (λ w. used_rises w at e es)
          (subst (λ n. Within (plus (event_uses e.entry.event) (used_by e.entry.who.worker at es)) n) (sym (used_here at e es here)) (within-refl _)))
      by_place false apart rest = within-trans _ _ _ rest (sum_rises (λ w. used_by w at es) (λ w. used_by w at (e ∷ es)) rows (λ w. used_rises w at e es))

-- What the entries of a part use is no more than all workers may use of it.
pub uses-within : (numbers : Numbers) (needs : List (List Needs)) (at : Place) (es : List Line) → AllByRecursion (λ e. e.entry.who.worker < length needs) es
    → ((w : ℕ) → Within (used_by w at es) (given_to numbers needs w at))
    → Within (uses_in (entries_at at es)) (part_needs needs (part_number (length numbers.files) numbers.processes at))
uses-within numbers needs at es workers each =
    within-trans _ _ _ (all_used at needs es workers)
    (sum_within (λ w. used_by w at es) needs (part_number (length numbers.files) numbers.processes at) each)

-- ---- one entry more

-- each worker stays within what it was given, where one makes an entry for which it has room
pub within-more : (numbers : Numbers) (needs : List (List Needs)) (es : List Line) (e : Line) → ((w : ℕ) (at : Place) → Within (used_by w at es) (given_to numbers needs w at))
    → Within (plus (used_by e.entry.who.worker e.entry.place es) (event_uses e.entry.event)) (given_to numbers needs e.entry.who.worker e.entry.place)
    → (w : ℕ) (at : Place) → Within (plus (used_by w at es) (used_one w at e)) (given_to numbers needs w at)
within-more numbers needs es e each room w at = by_test (e.entry.who.worker == w) (is_at at e.entry.place) refl refl
  where
    nothing_more : Within (plus (used_by w at es) nothing_needed) (given_to numbers needs w at)
    nothing_more =
        let a = each w at in
        record {
          entries = omega (arith, a.entries);
          regions = omega (arith, a.regions);
          records = omega (arith, a.records);
          copies = omega (arith, a.copies);
          blobs = omega (arith, a.blobs);
          numbers = omega (arith, a.numbers);
        }

    by_test : (b c : Bool) → (e.entry.who.worker == w) ≡ b → is_at at e.entry.place ≡ c
        → Within (plus (used_by w at es) (if b && c then event_uses e.entry.event else nothing_needed)) (given_to numbers needs w at)
    by_test true true f g =
        let same : e.entry.who.worker ≡ w = grind (arith, common_steps, f) in
        let here : at ≡ e.entry.place = is_at-same at e.entry.place g in
        subst (λ p. Within (plus (used_by w p es) (event_uses e.entry.event)) (given_to numbers needs w p)) (sym here)
        (subst (λ n. Within (plus (used_by n e.entry.place es) (event_uses e.entry.event)) (given_to numbers needs n e.entry.place)) same room)
    by_test true false f g = nothing_more
    by_test false true f g = nothing_more
    by_test false false f g = nothing_more

-- ---- how many entries there are

-- every event is one entry
one_each : (e : Event) → (event_uses e).entries ≡ 1
one_each (event.Trust e) = refl
one_each (event.Proc (process.Insert at number file_pages first pages prot shared)) = refl
one_each (event.Proc process.Start) = refl
one_each (event.Proc (process.Resolve addr access)) = refl
one_each (event.Proc (process.Remove at)) = refl
one_each (event.Proc process.Debug) = refl
one_each (event.Proc process.Punish) = refl
one_each (event.Proc process.ClearValid) = refl
one_each (event.Proc process.Exit) = refl
one_each (event.File (file.ReadSignature slice)) = refl
one_each (event.File (file.AddBlob slice cdhash read lookup)) = refl
one_each (event.File (file.RefuseBlob read refusal)) = refl
one_each (event.File (file.Write at piece)) = refl
one_each (event.File (file.AddRegion region insert)) = refl
one_each (event.File (file.DropRegion id)) = refl
one_each (event.File (file.DropPid pid)) = refl
one_each (event.File (file.Enter id page Read flags resolve)) = refl
one_each (event.File (file.Enter id page Write flags resolve)) = refl
one_each (event.File (file.Enter id page Execute flags resolve)) = refl
one_each (event.File (file.Store id page at bytes resolve)) = refl
one_each (event.File (file.Load id page at count resolve)) = refl
one_each (event.File (file.Fetch id page at count resolve)) = refl
one_each (event.File (file.Evict page)) = refl

-- one entry less of one part
abbrev less_row : List Needs → ℕ → List Needs
less_row [] part = []
less_row (n ∷ row) zero = record n { entries = n.entries - 1 } ∷ row
less_row (n ∷ row) (suc part) = n ∷ less_row row part

abbrev less_at : List (List Needs) → ℕ → ℕ → List (List Needs)
less_at [] w part = []
less_at (row ∷ rows) zero part = less_row row part ∷ rows
less_at (row ∷ rows) (suc w) part = row ∷ less_at rows w part

abbrev row_at : List Needs → ℕ → ℕ
row_at row part = (slice_index_or row part nothing_needed).entries

row_less : (row : List Needs) (part : ℕ) → 0 < row_at row part → row_entries row ≡ row_entries (less_row row part) + 1
row_less [] part some = absurd (omega (arith, some))
row_less (n ∷ row) zero some = omega (arith, some)
row_less (n ∷ row) (suc part) some = let rest = row_less row part some in omega (arith, rest)

all_less : (needs : List (List Needs)) (w part : ℕ) → 0 < needed_at needs w part → all_entries needs ≡ all_entries (less_at needs w part) + 1
all_less [] w part some = absurd (omega (arith, some))
all_less (row ∷ rows) zero part some = let first = row_less row part some in omega (arith, first)
all_less (row ∷ rows) (suc w) part some = let rest = all_less rows w part some in omega (arith, rest)

row_same : (row : List Needs) (part : ℕ) → row_at row part ≤ row_at (less_row row part) part + 1
row_same [] part = omega arith
row_same (n ∷ row) zero = omega arith
row_same (n ∷ row) (suc part) = row_same row part

at_same : (needs : List (List Needs)) (w part : ℕ) → needed_at needs w part ≤ needed_at (less_at needs w part) w part + 1
at_same [] w part = omega arith
at_same (row ∷ rows) zero part = row_same row part
at_same (row ∷ rows) (suc w) part = at_same rows w part

row_other : (row : List Needs) (part other : ℕ) → (other == part) ≡ false → row_at (less_row row part) other ≡ row_at row other
row_other [] part other apart = refl
row_other (n ∷ row) zero zero apart = absurd (grind (arith, common_steps, apart))
row_other (n ∷ row) zero (suc other) apart = refl
row_other (n ∷ row) (suc part) zero apart = refl
row_other (n ∷ row) (suc part) (suc other) apart = row_other row part other (grind (arith, common_steps, apart))

at_other : (needs : List (List Needs)) (w part v other : ℕ) → ((v == w) && (other == part)) ≡ false → needed_at (less_at needs w part) v other ≡ needed_at needs v other
at_other [] w part v other apart = refl
at_other (row ∷ rows) zero part zero other apart = row_other row part other (grind (arith, common_steps, apart))
at_other (row ∷ rows) zero part (suc v) other apart = refl
at_other (row ∷ rows) (suc w) part zero other apart = refl
at_other (row ∷ rows) (suc w) part (suc v) other apart = at_other rows w part v other (grind (arith, common_steps, apart))

module _ (numbers : Numbers) where
  abbrev number_of : Place → ℕ
  number_of at = part_number (length numbers.files) numbers.processes at

  -- the number of a part tells its place
  one_place : (a b : Place) → IsPlaceIn numbers a → IsPlaceIn numbers b → number_of a ≡ number_of b → is_at a b ≡ true
  one_place (place.File a) (place.File b) here there e = grind (arith, common_steps, e)
  one_place (place.File a) (place.Process b) here there e = absurd (omega (arith, here, e))
  one_place (place.File a) place.Trust here there e = absurd (omega (arith, here, e))
  one_place (place.Process a) (place.File b) here there e = absurd (omega (arith, there, e))
  one_place (place.Process a) (place.Process b) here there e = let same : a ≡ b = omega (arith, e) in grind (arith, common_steps, same)
  one_place (place.Process a) place.Trust here there e = absurd (omega (arith, here, e))
  one_place place.Trust (place.File b) here there e = absurd (omega (arith, there, e))
  one_place place.Trust (place.Process b) here there e = absurd (omega (arith, there, e))
  one_place place.Trust place.Trust here there e = refl

  -- There are no more entries than all workers may make.
  pub entries-within : (es : List Line) (needs : List (List Needs)) → AllByRecursion (λ e. IsPlaceIn numbers e.entry.place) es
      → ((w : ℕ) (at : Place) → IsPlaceIn numbers at → (used_by w at es).entries ≤ needed_at needs w (number_of at)) → length es ≤ all_entries needs
  entries-within [] needs placed each = omega arith
  entries-within (e ∷ es) needs placed each =
      let w = e.entry.who.worker in
      let part = number_of e.entry.place in
      let own : (used_by w e.entry.place (e ∷ es)).entries ≡ (event_uses e.entry.event).entries + (used_by w e.entry.place es).entries =
      ap (λ (n : Needs). n.entries) (used_here e.entry.place e es (itself e.entry.place)) in
      let most = each w e.entry.place placed.0 in
      let some : 0 < needed_at needs w part = omega (arith, own, most, one_each e.entry.event) in
      let less = all_less needs w part some in
      let rest = entries-within es (less_at needs w part) placed.1 (λ v at there. by_test v at there ((v == w) && (number_of at == part)) refl) in
      omega (arith, less, rest)
    where
      itself : (at : Place) → is_at at at ≡ true
      itself (place.File a) = number-same a
      itself (place.Process a) = number-same a
      itself place.Trust = refl

      by_test : (v : ℕ) (at : Place) → IsPlaceIn numbers at → (b : Bool) → ((v == e.entry.who.worker) && (number_of at == number_of e.entry.place)) ≡ b
          → (used_by v at es).entries ≤ needed_at (less_at needs e.entry.who.worker (number_of e.entry.place)) v (number_of at)
      by_test v at there true f =
          let worker : v ≡ e.entry.who.worker = grind (arith, common_steps, f) in
          let part : number_of at ≡ number_of e.entry.place = grind (arith, common_steps, f) in
          let here : at ≡ e.entry.place = is_at-same at e.entry.place (one_place at e.entry.place there placed.0 part) in
          let own : (used_by e.entry.who.worker e.entry.place (e ∷ es)).entries ≡ (event_uses e.entry.event).entries + (used_by e.entry.who.worker e.entry.place es).entries =
          ap (λ (n : Needs). n.entries) (used_here e.entry.place e es (itself e.entry.place)) in
          let most = each e.entry.who.worker e.entry.place placed.0 in
          let left = at_same needs e.entry.who.worker (number_of e.entry.place) in
          subst (λ p. (used_by v p es).entries ≤ needed_at (less_at needs e.entry.who.worker (number_of e.entry.place)) v (number_of p)) (sym here)
          (subst (λ n. (used_by n e.entry.place es).entries ≤ needed_at (less_at needs e.entry.who.worker (number_of e.entry.place)) n (number_of e.entry.place)) (sym worker)
          (omega (arith, own, most, left, one_each e.entry.event)))
      by_test v at there false f =
          let less = used_rises v at e es in
          let most = each v at there in
          let same = at_other needs e.entry.who.worker (number_of e.entry.place) v (number_of at) f in
          omega (arith, less.entries, most, same)
