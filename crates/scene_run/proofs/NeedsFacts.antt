-- What each worker was given of each part is what its script's calls may use.
use Rattle.std.proofs.Common.{◌≡◌, ℕ, ◌+◌, ◌-◌, ◌<◌, ◌≤◌, true, false, List, [], ◌∷◌, ◌++◌, length, map, refl, sym, ap, subst, ◌∙◌, arith}
use Rattle.std.specs.Prelude.{◌==◌, ◌&&◌, nat_lt, slice_index_or, if◌then◌else◌}
use Rattle.std.specs.List.{AllByRecursion}
use Rattle.std.proofs.lemmas.Grind.{common_steps}
use Rattle.std.proofs.lemmas.Bool.Decides.{nat_tests}
use Rattle.std.proofs.lemmas.List.{get_or-map}
use Rattle.std.proofs.lemmas.List.FromFn.{get_or-map-range_with_len}
use Rattle.pg_book.specs.Needs.{nothing_needed}
use Rattle.cs_policy.specs.declared.entry.Place.{Place}
use Rattle.cs_policy.specs.declared.entry.Place.TheVariants as place
use Rattle.cs_policy.specs.declared.call.Call.{Call}
use Rattle.cs_policy.specs.Entry.{part_number}
use Rattle.pg_history.specs.Machine.{Line}
use Rattle.pg_history.specs.Opening.{Numbers}
use Rattle.pg_history.specs.ByParts.{is_at}
use Rattle.pg_calls.specs.Room.{plus, Within, IsPlaceIn, event_uses, used_by, given_to}
use Rattle.pg_calls.specs.Parts.{PartsNow}
use Rattle.pg_calls.specs.Scripts.{calls_use, HasRoomForAll}
use Rattle.pg_calls.proofs.RoomFacts.{within-refl, nothing-plus}
use Rattle.scene_run.specs.Needs.{place_of, row_of}

less : (a b : ℕ) → a < b → nat_lt a b ≡ true
less a b lt = grind (arith, common_steps, nat_tests, lt)

not_less : (a b : ℕ) → b ≤ a → nat_lt a b ≡ false
not_less a b le = grind (arith, common_steps, nat_tests, le)

-- the part of a place has that place
place-again : (numbers : Numbers) (at : Place) → IsPlaceIn numbers at
    → place_of (length numbers.files) numbers.processes (part_number (length numbers.files) numbers.processes at) ≡ at
place-again numbers (place.File number) here =
    ap (λ b. if b then place.File number else (if nat_lt number (length numbers.files + numbers.processes) then place.Process (number - length numbers.files) else place.Trust)) (less number (length numbers.files) here)
place-again numbers (place.Process pid) here =
    let back : length numbers.files + pid - length numbers.files ≡ pid = omega arith in
    ap (λ b. if b then place.File (length numbers.files + pid) else (if nat_lt (length numbers.files + pid) (length numbers.files + numbers.processes) then place.Process (length numbers.files + pid - length numbers.files) else place.Trust))
    (not_less (length numbers.files + pid) (length numbers.files) (omega arith))
    ∙ ap (λ b. if b then place.Process (length numbers.files + pid - length numbers.files) else place.Trust) (less _ _ (omega (arith, here)))
    ∙ ap (λ n. place.Process n) back
place-again numbers place.Trust here =
    ap (λ b. if b then place.File (length numbers.files + numbers.processes) else (if nat_lt (length numbers.files + numbers.processes) (length numbers.files + numbers.processes) then place.Process (length numbers.files + numbers.processes - length numbers.files) else place.Trust))
    (not_less (length numbers.files + numbers.processes) (length numbers.files) (omega arith))
    ∙ ap (λ b. if b then place.Process (length numbers.files + numbers.processes - length numbers.files) else place.Trust) (not_less _ _ (omega arith))

part-below : (numbers : Numbers) (at : Place) → IsPlaceIn numbers at
    → part_number (length numbers.files) numbers.processes at < length numbers.files + numbers.processes + 1
part-below numbers (place.File number) here = omega (arith, here)
part-below numbers (place.Process pid) here = omega (arith, here)
part-below numbers place.Trust here = omega arith

pub given-is : (numbers : Numbers) (scripts : List (List Call)) (worker : ℕ) (at : Place) → worker < length scripts → IsPlaceIn numbers at
    → given_to numbers (map (row_of (length numbers.files) numbers.processes) scripts) worker at ≡ calls_use (slice_index_or scripts worker []) at
given-is numbers scripts worker at lt here =
    ap (λ row. slice_index_or row (part_number (length numbers.files) numbers.processes at) nothing_needed)
    (get_or-map (row_of (length numbers.files) numbers.processes) scripts worker [] [] lt)
    ∙ get_or-map-range_with_len (λ part. calls_use (slice_index_or scripts worker []) (place_of (length numbers.files) numbers.processes part)) 0
    (length numbers.files + numbers.processes + 1) (part_number (length numbers.files) numbers.processes at) (part_number (length numbers.files) numbers.processes at)
    nothing_needed (part-below numbers at here) (omega arith)
    ∙ ap (λ p. calls_use (slice_index_or scripts worker []) p) (place-again numbers at here)

unused : (worker : ℕ) (at : Place) (es : List Line) → AllByRecursion (λ e. e.entry.who.worker < worker) es → used_by worker at es ≡ nothing_needed
unused worker at [] all = refl
unused worker at (x ∷ xs) all =
    let apart : (x.entry.who.worker == worker) ≡ false = grind (arith, common_steps, nat_tests, all.0) in
    ap (λ b. if b && is_at at x.entry.place then plus (event_uses x.entry.event) (used_by worker at xs) else used_by worker at xs) apart
    ∙ unused worker at xs all.1

-- Each worker that has made nothing yet has room for its whole script.
pub room-for-script : (start now : PartsNow) (scripts : List (List Call)) (worker : ℕ) (own : List Line)
    → start.needs ≡ map (row_of (length start.numbers.files) start.numbers.processes) scripts → start.made ≡ []
    → worker < length scripts → now ≡ record start { made = start.made ++ own } → AllByRecursion (λ e. e.entry.who.worker < worker) own
    → HasRoomForAll now worker (slice_index_or scripts worker [])
room-for-script start now scripts worker own needs none lt is earlier at =
    subst (λ (p : PartsNow). IsPlaceIn p.numbers at → Within (plus (used_by worker at p.made) (calls_use (slice_index_or scripts worker []) at)) (given_to p.numbers p.needs worker at)) (sym is)
    (λ here. subst (λ n. Within n (given_to start.numbers start.needs worker at)) (sym (uses ∙ nothing-plus _))
    (subst (λ n. Within (calls_use (slice_index_or scripts worker []) at) n) (sym (ap (λ ns. given_to start.numbers ns worker at) needs ∙ given-is start.numbers scripts worker at lt here))
    (within-refl (calls_use (slice_index_or scripts worker []) at))))
  where
    uses : plus (used_by worker at (start.made ++ own)) (calls_use (slice_index_or scripts worker []) at) ≡ plus nothing_needed (calls_use (slice_index_or scripts worker []) at)
    uses = ap (λ (xs : List Line). plus (used_by worker at (xs ++ own)) (calls_use (slice_index_or scripts worker []) at)) none
        ∙ ap (λ n. plus n (calls_use (slice_index_or scripts worker []) at)) (unused worker at own earlier)
