-- What callers may use of a run's parts is what their scripts may use, so each may play its script.
use Rattle.std.proofs.Common.{◌≡◌, ℕ, zero, suc, ◌+◌, ◌<◌, ◌≤◌, List, [], ◌∷◌, length, map, refl, sym, ap, subst, ◌∙◌, arith}
use Rattle.std.specs.Prelude.{All, slice_index_or}
use Rattle.std.proofs.lemmas.List.{length-map, get_or-map}
use Rattle.std.proofs.lemmas.List.FromFn.{length-map-range_with_len}
use Rattle.cs_policy.specs.declared.call.Call.{Call}
use Rattle.cs_policy.specs.declared.entry.Place.{Place}
use Rattle.pg_book.specs.declared.needs.Needs.{Needs}
use Rattle.pg_history.specs.Opening.{Numbers}
use Rattle.pg_history.specs.Legal.{script_at, calls_in}
use Rattle.pg_calls.specs.Calls.{IsDeclared}
use Rattle.pg_calls.specs.Room.{Within, IsPlaceIn, given_to}
use Rattle.pg_calls.specs.Scripts.{calls_use}
use Rattle.pg_calls.proofs.RoomFacts.{within-refl}
use Rattle.pg_parts.specs.Opened.{OpenedNow, numbers_in}
use Rattle.pg_shared.specs.Plan.{Plan}
use Rattle.pg_shared.specs.Opening.{parts_in, IsShared}
use Rattle.scene_text.specs.declared.whole.Scene.{Scene}
use Rattle.scene_text.specs.Scenes.{scene_lines}
use Rattle.scene_open.specs.Limits.{IsWithin}
use Rattle.scene_run.specs.Needs.{row_of, place_of, played, AreFew}
use Rattle.scene_run.specs.Starts.{IsStartOf}
use Rattle.scene_run.proofs.LinesFacts.{few-scripts, scene-declared}
use Rattle.scene_run.proofs.NeedsFacts.{given-is}
use Rattle.scene_threads.specs.Workers.{MayPlay}

-- ---- scripts

-- the script of a number is that of the caller who has it
same_script : (scripts : List (List Call)) (number : ℕ) → script_at (played scripts) number ≡ script_at scripts number
same_script [] zero = refl
same_script [] (suc number) = refl
same_script (script ∷ scripts) number = refl

some_played : (scripts : List (List Call)) → 0 < length (played scripts)
some_played [] = omega arith
some_played (script ∷ scripts) = omega arith

few_played : (scripts : List (List Call)) → length scripts ≤ 8 → length (played scripts) ≤ 8
few_played [] le = omega arith
few_played (script ∷ scripts) le = le

all_played : (scripts : List (List Call)) → length scripts ≤ length (played scripts)
all_played [] = omega arith
all_played (script ∷ scripts) = omega arith

few_in_script : (scripts : List (List Call)) (number : ℕ) → length (script_at scripts number) ≤ calls_in scripts
few_in_script [] number = omega arith
few_in_script (script ∷ scripts) zero = omega arith
few_in_script (script ∷ scripts) (suc number) = omega (arith, few_in_script scripts number)

all_in_script : (P : Call → Type 0) (scripts : List (List Call)) (number : ℕ) → All (All P) scripts → All P (script_at scripts number)
all_in_script P [] number all = λ k d lt. absurd (omega (arith, lt))
all_in_script P (script ∷ scripts) zero all = all 0 script (omega arith)
all_in_script P (script ∷ scripts) (suc number) all = all_in_script P scripts number (λ k d lt. all (suc k) d (omega (arith, lt)))

-- ---- the parts of a scene's machine

module _ (scene : Scene) (start : OpenedNow) (within : IsWithin (scene_lines scene)) (is : IsStartOf scene start) where
  few : AreFew scene.scripts
  few = few-scripts scene within

  abbrev numbers : Numbers
  numbers = numbers_in start

  rows : start.needs ≡ map (row_of (length start.files) (length start.processes)) (played scene.scripts)
  rows = is.needs

  callers : length start.needs ≡ length (played scene.scripts)
  callers = ap length rows ∙ length-map (played scene.scripts) (row_of (length start.files) (length start.processes))

  pub some-callers : 0 < length start.needs
  some-callers = omega (arith, callers, some_played scene.scripts)

  pub all-scripts : length scene.scripts ≤ length start.needs
  all-scripts = omega (arith, callers, all_played scene.scripts)

  pub few-calls : calls_in scene.scripts ≤ 4096
  few-calls = few.calls

  few_callers : length start.needs < 4294967296
  few_callers = omega (arith, callers, few_played scene.scripts few.workers)

  even : (k : ℕ) (d : List Needs) → k < length start.needs → length (slice_index_or start.needs k d) ≡ parts_in start
  even k d lt =
      ap (λ (ns : List (List Needs)). length (slice_index_or ns k d)) rows
      ∙ ap length (get_or-map (row_of (length start.files) (length start.processes)) (played scene.scripts) k [] d (omega (arith, lt, callers)))
      ∙ length-map-range_with_len (λ part. calls_use (script_at (played scene.scripts) k) (place_of (length start.files) (length start.processes) part)) 0
      (length start.files + length start.processes + 1)

  pub is-shared : IsShared start
  is-shared = record { some = some-callers; few = few_callers; even = even }

  rows_by_numbers : start.needs ≡ map (row_of (length numbers.files) numbers.processes) (played scene.scripts)
  rows_by_numbers = rows ∙ ap (λ n. map (row_of n (length start.processes)) (played scene.scripts)) (sym (length-map start.files _))

  room : (number : ℕ) (at : Place) → number < length start.needs → IsPlaceIn numbers at
      → Within (calls_use (script_at scene.scripts number) at) (given_to numbers start.needs number at)
  room number at lt here =
      subst (λ (n : Needs). Within (calls_use (script_at scene.scripts number) at) n)
      (sym (ap (λ ns. given_to numbers ns number at) rows_by_numbers
      ∙ given-is numbers (played scene.scripts) number at (omega (arith, lt, callers)) here
      ∙ ap (λ cs. calls_use cs at) (same_script scene.scripts number)))
      (within-refl (calls_use (script_at scene.scripts number) at))

  declared : (number : ℕ) → All (IsDeclared numbers) (script_at scene.scripts number)
  declared number = all_in_script (IsDeclared numbers) scene.scripts number
      (subst (λ (n : Numbers). All (All (IsDeclared n)) scene.scripts) (sym is.numbers) (scene-declared scene is.opening is.fits))

  pub may-play : (plan : Plan) → plan.start ≡ start → MayPlay plan scene.scripts
  may-play plan same = record {
    workers = subst (λ (s : OpenedNow). length s.needs < 4294967296) (sym same) few_callers;
    few = λ number. omega (arith, few_in_script scene.scripts number, few.calls);
    declared = subst (λ (s : OpenedNow). (number : ℕ) → All (IsDeclared (numbers_in s)) (script_at scene.scripts number)) (sym same) declared;
    room = subst (λ (s : OpenedNow). (number : ℕ) (at : Place) → number < length s.needs → IsPlaceIn (numbers_in s) at
        → Within (calls_use (script_at scene.scripts number) at) (given_to (numbers_in s) s.needs number at)) (sym same) room;
  }
