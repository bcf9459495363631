-- Rising lists of receipts as entries: what one holds and another, and how much of a part they use.
use Rattle.std.proofs.Common.{◌≡◌, ℕ, zero, suc, ◌<◌, ◌≤◌, Bool, true, false, eqb, eqb-true, List, [], ◌∷◌, ◌++◌, length, Some, refl, sym, ap, subst, ◌∙◌, arith, inl, inr}
use Rattle.std.specs.Prelude.{◌==◌, ◌&&◌, Contains, slice_get, if◌then◌else◌}
use Rattle.std.specs.List.{AllByRecursion}
use Rattle.std.proofs.lemmas.Grind.{common_steps}
use Rattle.pg_book.specs.declared.needs.Needs.{Needs}
use Rattle.pg_book.specs.declared.receipt.Receipt.{Receipt}
use Rattle.pg_book.specs.Needs.{nothing_needed}
use Rattle.pg_book.specs.Lists.{Among, Rising, of_part}
use Rattle.pg_book.specs.Closing.{stamped}
use Rattle.cs_policy.specs.declared.access.Access.TheVariants.{Read, Write, Execute}
use Rattle.cs_policy.specs.declared.file.FileEvent.TheVariants as file
use Rattle.cs_policy.specs.declared.process.ProcEvent.TheVariants as process
use Rattle.cs_policy.specs.declared.entry.Event.{Event}
use Rattle.cs_policy.specs.declared.entry.Event.TheVariants as event
use Rattle.cs_policy.specs.declared.entry.Place.{Place}
use Rattle.cs_policy.specs.declared.entry.Place.TheVariants as place
use Rattle.cs_policy.specs.declared.entry.Entry.{Entry}
use Rattle.cs_policy.specs.Entry.{part_number}
use Rattle.pg_history.specs.Machine.{Line}
use Rattle.pg_history.specs.Opening.{Numbers}
use Rattle.pg_history.specs.ByParts.{is_at, entries_at}
use Rattle.pg_calls.specs.Room.{plus, Within, event_uses, used_by, IsPlaceIn}
use Rattle.pg_calls.proofs.RoomFacts.{within-refl, within-trans, within-plus, within-behind, within-nothing, nothing-plus, used_one, used_by-cons, number-same}
use Rattle.pg_parts.proofs.RoomSums.{NeedsAre}
use Rattle.pg_parts.proofs.ReadingFacts.{IsIn}
use Rattle.pg_machine.proofs.HistoryFacts.{placed-of}
use Rattle.pg_shared.specs.Drawn.{lines_in}

-- ---- receipts as entries

abbrev unstamped : Line → Receipt Entry
unstamped e = record { part = e.part; caller = e.caller; stamp = e.stamp; entry = e.entry }

pub stamped-same : (r s : Receipt Entry) → stamped r ≡ stamped s → r ≡ s
stamped-same r s same = ap unstamped same

some_same : {X : Type 0} (a b : X) → Some a ≡ Some b → a ≡ b
some_same a b is = grind (arith, common_steps, is)

pub lines-append : (xs ys : List (Receipt Entry)) → lines_in (xs ++ ys) ≡ lines_in xs ++ lines_in ys
lines-append [] ys = refl
lines-append (x ∷ xs) ys = ap (λ l. stamped x ∷ l) (lines-append xs ys)

-- what is so of each receipt is so of each entry
pub all-lines : (P : Line → Type 0) (xs : List (Receipt Entry)) → ((r : Receipt Entry) → Among r xs → P (stamped r)) → AllByRecursion P (lines_in xs)
all-lines P [] each = tt
all-lines P (x ∷ xs) each = (each x (inl refl), all-lines P xs (λ r there. each r (inr there)))

pub in-lines : (r : Receipt Entry) (xs : List (Receipt Entry)) → Among r xs → IsIn (stamped r) (lines_in xs)
in-lines r [] there = absurd there
in-lines r (x ∷ xs) (inl same) = inl (ap stamped same)
in-lines r (x ∷ xs) (inr later) = inr (in-lines r xs later)

among_placed : (xs : List (Receipt Entry)) (k : ℕ) (r : Receipt Entry) → slice_get (lines_in xs) k ≡ Some (stamped r) → Among r xs
among_placed [] k r there = absurd (grind (arith, common_steps, there))
among_placed (x ∷ xs) zero r there = inl (stamped-same x r (some_same (stamped x) (stamped r) there))
among_placed (x ∷ xs) (suc k) r there = inr (among_placed xs k r there)

-- an entry that is contained is that of a receipt of the list
pub among-lines : (xs : List (Receipt Entry)) (r : Receipt Entry) → Contains (lines_in xs) (stamped r) → Among r xs
among-lines xs r there = let here = placed-of (lines_in xs) (stamped r) there in among_placed xs here.0 r here.1

-- a rising list has one receipt of a stamp
pub only-stamp : (xs : List (Receipt Entry)) (r : Receipt Entry) → Rising xs → Among r xs → (s : Receipt Entry) → Among s xs → s.stamp ≡ r.stamp → s ≡ r
only-stamp [] r rising there s also same = absurd there
only-stamp (x ∷ xs) r rising (inl is) s (inl so) same = sym so ∙ is
only-stamp (x ∷ xs) r rising (inl is) s (inr later) same =
    let above = rising.0 s later in let here = ap (λ (z : Receipt Entry). z.stamp) is in absurd (omega (arith, above, here, same))
only-stamp (x ∷ xs) r rising (inr later) s (inl so) same =
    let above = rising.0 r later in let here = ap (λ (z : Receipt Entry). z.stamp) so in absurd (omega (arith, above, here, same))
only-stamp (x ∷ xs) r rising (inr there) s (inr also) same = only-stamp xs r rising.1 there s also same

-- entries that all are at a part
pub entries-all : (at : Place) (es : List Line) → AllByRecursion (λ e. is_at at e.entry.place ≡ true) es → entries_at at es ≡ es
entries-all at [] all = refl
entries-all at (e ∷ es) all =
    ap (λ b. if b then e ∷ entries_at at es else entries_at at es) all.0 ∙ ap (λ l. e ∷ l) (entries-all at es all.1)

-- ---- what lists use of a part

module _ (w : ℕ) (at : Place) where
  -- what a list has behind a receipt of it
  record Behind (x : Receipt Entry) (ys : List (Receipt Entry)) : Type 0 where
    others : List (Receipt Entry)
    rising : Rising others
    less : Within (plus (used_one w at (stamped x)) (used_by w at (lines_in others))) (used_by w at (lines_in ys))
    later : (r : Receipt Entry) → Among r ys → x.stamp < r.stamp → Among r others

  behind : (x : Receipt Entry) (ys : List (Receipt Entry)) → Rising ys → Among x ys → Behind x ys
  behind x [] rising there = absurd there
  behind x (y ∷ ys) rising (inl same) = record {
    others = ys;
    rising = rising.1;
    less =
        subst (λ (r : Receipt Entry). Within (plus (used_one w at (stamped r)) (used_by w at (lines_in ys))) (used_by w at (lines_in (y ∷ ys)))) same
        (subst (λ n. Within (plus (used_one w at (stamped y)) (used_by w at (lines_in ys))) n) (sym (used_by-cons w at (stamped y) (lines_in ys))) (within-refl _));
    later = behind_it;
  }
    where
      behind_it : (r : Receipt Entry) → Among r (y ∷ ys) → x.stamp < r.stamp → Among r ys
      behind_it r (inl is) above =
          let a = ap (λ (z : Receipt Entry). z.stamp) same in let b = ap (λ (z : Receipt Entry). z.stamp) is in absurd (omega (arith, a, b, above))
      behind_it r (inr there) above = there
  behind x (y ∷ ys) rising (inr there) =
      let back = behind x ys rising.1 there in
      record {
        others = back.others;
        rising = back.rising;
        less =
            subst (λ n. Within (plus (used_one w at (stamped x)) (used_by w at (lines_in back.others))) n) (sym (used_by-cons w at (stamped y) (lines_in ys)))
            (within-behind _ _ _ back.less);
        later = behind_it back;
      }
    where
      behind_it : (back : Behind x ys) (r : Receipt Entry) → Among r (y ∷ ys) → x.stamp < r.stamp → Among r back.others
      behind_it back r (inl is) above =
          let a = rising.0 x there in let b = ap (λ (z : Receipt Entry). z.stamp) is in absurd (omega (arith, a, b, above))
      behind_it back r (inr also) above = back.later r also above

  -- Where each receipt of a worker in the first list stands in the second, the worker uses no more by the first.
  pub fewer-used : (xs ys : List (Receipt Entry)) → Rising xs → Rising ys → ((r : Receipt Entry) → Among r xs → r.entry.who.worker ≡ w → Among r ys)
      → Within (used_by w at (lines_in xs)) (used_by w at (lines_in ys))
  fewer-used [] ys rising above each = within-nothing _
  fewer-used (x ∷ xs) ys rising above each =
      subst (λ n. Within n (used_by w at (lines_in ys))) (sym (used_by-cons w at (stamped x) (lines_in xs)))
      (by_worker (x.entry.who.worker == w) refl (fewer-used xs))
    where
      by_worker : (b : Bool) → (x.entry.who.worker == w) ≡ b
          → ((zs : List (Receipt Entry)) → Rising xs → Rising zs → ((r : Receipt Entry) → Among r xs → r.entry.who.worker ≡ w → Among r zs) → Within (used_by w at (lines_in xs)) (used_by w at (lines_in zs)))
          → Within (plus (used_one w at (stamped x)) (used_by w at (lines_in xs))) (used_by w at (lines_in ys))
      by_worker true is fewer =
          let same : x.entry.who.worker ≡ w = grind (arith, common_steps, is) in
          let back = behind x ys above (each x (inl refl) same) in
          within-trans _ _ _
          (within-plus _ _ _ _ (within-refl (used_one w at (stamped x)))
          (fewer back.others rising.1 back.rising (λ r there by. back.later r (each r (inr there) by) (rising.0 r there))))
          back.less
      by_worker false is fewer =
          subst (λ n. Within (plus n (used_by w at (lines_in xs))) (used_by w at (lines_in ys))) (sym none)
          (within-trans (plus nothing_needed (used_by w at (lines_in xs))) (used_by w at (lines_in xs)) (used_by w at (lines_in ys))
          (subst (λ n. Within n (used_by w at (lines_in xs))) (sym (nothing-plus (used_by w at (lines_in xs)))) (within-refl _))
          (fewer ys rising.1 above (λ r there by. each r (inr there) by)))
        where
          none : NeedsAre (used_one w at (stamped x)) nothing_needed
          none = ap (λ b. if b && is_at at x.entry.place then event_uses x.entry.event else nothing_needed) is

-- ---- how many entries of a part

-- every event is one entry
pub one-each : (e : Event) → (event_uses e).entries ≡ 1
one-each (event.Trust e) = refl
one-each (event.Proc (process.Insert at number file_pages first pages prot shared)) = refl
one-each (event.Proc process.Start) = refl
one-each (event.Proc (process.Resolve addr access)) = refl
one-each (event.Proc (process.Remove at)) = refl
one-each (event.Proc process.Debug) = refl
one-each (event.Proc process.Punish) = refl
one-each (event.Proc process.ClearValid) = refl
one-each (event.Proc process.Exit) = refl
one-each (event.File (file.ReadSignature slice)) = refl
one-each (event.File (file.AddBlob slice cdhash read lookup)) = refl
one-each (event.File (file.RefuseBlob read refusal)) = refl
one-each (event.File (file.Write at piece)) = refl
one-each (event.File (file.AddRegion region insert)) = refl
one-each (event.File (file.DropRegion id)) = refl
one-each (event.File (file.DropPid pid)) = refl
one-each (event.File (file.Enter id page Read flags resolve)) = refl
one-each (event.File (file.Enter id page Write flags resolve)) = refl
one-each (event.File (file.Enter id page Execute flags resolve)) = refl
one-each (event.File (file.Store id page at bytes resolve)) = refl
one-each (event.File (file.Load id page at count resolve)) = refl
one-each (event.File (file.Fetch id page at count resolve)) = refl
one-each (event.File (file.Evict page)) = refl

module _ (numbers : Numbers) where
  abbrev pub number_in_order : Place → ℕ
  number_in_order at = part_number (length numbers.files) numbers.processes at

  -- the number of a part tells its place
  pub one-place : (a b : Place) → IsPlaceIn numbers a → IsPlaceIn numbers b → number_in_order a ≡ number_in_order b → is_at a b ≡ true
  one-place (place.File a) (place.File b) here there e = grind (arith, common_steps, e)
  one-place (place.File a) (place.Process b) here there e = absurd (omega (arith, here, e))
  one-place (place.File a) place.Trust here there e = absurd (omega (arith, here, e))
  one-place (place.Process a) (place.File b) here there e = absurd (omega (arith, there, e))
  one-place (place.Process a) (place.Process b) here there e = let same : a ≡ b = omega (arith, e) in grind (arith, common_steps, same)
  one-place (place.Process a) place.Trust here there e = absurd (omega (arith, here, e))
  one-place place.Trust (place.File b) here there e = absurd (omega (arith, there, e))
  one-place place.Trust (place.Process b) here there e = absurd (omega (arith, there, e))
  one-place place.Trust place.Trust here there e = refl

  module _ (w : ℕ) (at : Place) (placed : IsPlaceIn numbers at) where
    -- what is so of each receipt of a worker
    pub record IsCounted (r : Receipt Entry) : Type 0 where
      pub by_whom : r.entry.who.worker ≡ w
      pub there : IsPlaceIn numbers r.entry.place
      pub part : r.part ≡ number_in_order r.entry.place

    -- a worker's receipts of a part are its entries there
    pub counted : (xs : List (Receipt Entry)) → ((r : Receipt Entry) → Among r xs → IsCounted r) → length (of_part (number_in_order at) xs) ≤ (used_by w at (lines_in xs)).entries
    counted [] each = omega arith
    counted (x ∷ xs) each = by_part (eqb x.part (number_in_order at)) refl (counted xs (λ r there. each r (inr there)))
      where
        one : IsCounted x
        one = each x (inl refl)

        by_worker : (x.entry.who.worker == w) ≡ true
        by_worker = ap (λ n. n == w) one.by_whom ∙ number-same w

        cons : NeedsAre (used_by w at (lines_in (x ∷ xs))) (plus (used_one w at (stamped x)) (used_by w at (lines_in xs)))
        cons = used_by-cons w at (stamped x) (lines_in xs)

        by_part : (b : Bool) → eqb x.part (number_in_order at) ≡ b → length (of_part (number_in_order at) xs) ≤ (used_by w at (lines_in xs)).entries
            → length (if b then x ∷ of_part (number_in_order at) xs else of_part (number_in_order at) xs) ≤ (used_by w at (lines_in (x ∷ xs))).entries
        by_part true is few =
            let here : is_at at x.entry.place ≡ true = one-place at x.entry.place placed one.there (sym (eqb-true _ _ is) ∙ one.part) in
            let uses : NeedsAre (used_one w at (stamped x)) (event_uses x.entry.event) =
            ap (λ b. if b && is_at at x.entry.place then event_uses x.entry.event else nothing_needed) by_worker ∙ ap (λ b. if true && b then event_uses x.entry.event else nothing_needed) here in
            let whole = ap (λ (n : Needs). n.entries) (cons ∙ ap (λ n. plus n (used_by w at (lines_in xs))) uses) in
            omega (arith, whole, one-each x.entry.event, few)
        by_part false is few = let whole = ap (λ (n : Needs). n.entries) cons in omega (arith, whole, few)
