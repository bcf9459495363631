-- The opening that the pagers tell, and what the machine answers from there.
use Rattle.std.proofs.Common.{◌≡◌, ℕ, zero, suc, ◌<◌, List, [], ◌∷◌, length, map, Option, Some, None, refl, sym, ap, subst, ◌∙◌, arith}
use Rattle.std.specs.Prelude.{All, IfSome, IsSome, slice_get}
use Rattle.std.specs.List.{AllByRecursion}
use Rattle.std.specs.Option.{option_map, option_and_then}
use Rattle.std.proofs.lemmas.Grind.{common_steps}
use Rattle.pg_digest.specs.Kinds.{Hash}
use Rattle.pg_io.specs.Pager.{ToldPages}
use Rattle.cs_policy.specs.declared.entry.Place.{Place}
use Rattle.cs_policy.specs.declared.entry.Place.TheVariants as place
use Rattle.pg_cache.specs.Contents.{overlaid}
use Rattle.pg_cache.proofs.ContentsFacts.{length-overlaid}
use Rattle.pg_object.specs.Object.{ObjectNow, seen}
use Rattle.pg_history.specs.Machine.{Line, FilePart}
use Rattle.pg_history.specs.Opening.{Opening, Numbers, FileNumbers, IsFresh}
use Rattle.pg_history.specs.ByParts.{entries_at, HasPart, AnsweredByParts}
use Rattle.pg_calls.specs.Room.{IsPlaceIn}
use Rattle.pg_parts.specs.Opened.{OpenedNow, numbers_in, told_part, told_parts, opening_in, IsFreshFile}
use Rattle.pg_parts.specs.Replays.{TellsOn}
use Rattle.pg_parts.proofs.ListFacts.{all-placed}
use Rattle.pg_machine.specs.Solo.{IsRunning, IsAnswered}

-- the numbers of a file, by what is told of it, and by its object
abbrev number_of : FilePart → FileNumbers
number_of part = record { pages = length part.file.pages; layout = part.file.layout }

abbrev pub number_in : ObjectNow → FileNumbers
number_in object = record { pages = object.pages.cache.pager.pages; layout = object.layout }

-- ---- the files that are told

-- each part is told of the object at its place
pub record AreTold (objects : List ObjectNow) (parts : List FilePart) : Type 0 where
  pub count : length parts ≡ length objects
  pub each : (number : ℕ) (part : FilePart) → slice_get parts number ≡ Some part → (object : ObjectNow) × (slice_get objects number ≡ Some object) × (told_part object [] ≡ Some part)

some_same : {X : Type 0} (a b : X) → Some a ≡ Some b → a ≡ b
some_same a b is = grind (arith, common_steps, is)

pub are-told : (objects : List ObjectNow) (parts : List FilePart) → told_parts objects ≡ Some parts → AreTold objects parts
are-told [] parts is =
    subst (AreTold []) (some_same [] parts is) (record { count = refl; each = λ number part there. absurd (grind (arith, common_steps, there)) })
are-told (object ∷ objects) parts is = by_first (told_part object []) refl (told_parts objects) refl is (are-told objects)
  where
    by_number : (part : FilePart) (later : List FilePart) → told_part object [] ≡ Some part → AreTold objects later
        → (number : ℕ) (p : FilePart) → slice_get (part ∷ later) number ≡ Some p
        → (o : ObjectNow) × (slice_get (object ∷ objects) number ≡ Some o) × (told_part o [] ≡ Some p)
    by_number part later first told zero p there = (object, refl, first ∙ there)
    by_number part later first told (suc number) p there = told.each number p there

    by_first : (o : Option FilePart) → told_part object [] ≡ o → (others : Option (List FilePart)) → told_parts objects ≡ others
        → option_and_then (λ part. option_map (λ rest. part ∷ rest) others) o ≡ Some parts
        → ((later : List FilePart) → told_parts objects ≡ Some later → AreTold objects later) → AreTold (object ∷ objects) parts
    by_first None first others rest e told = absurd (grind (arith, common_steps, e))
    by_first (Some part) first None rest e told = absurd (grind (arith, common_steps, e))
    by_first (Some part) first (Some later) rest e told =
        subst (AreTold (object ∷ objects)) (some_same (part ∷ later) parts e) (record {
          count = ap suc (told later rest).count;
          each = by_number part later first (told later rest);
        })

-- ---- an opening

-- a part that is told of such an object
abbrev pub IsFreshPart : ℕ → ObjectNow → FilePart → Type 0
IsFreshPart size object part = IsFresh size part × (length part.file.pages ≡ object.pages.cache.pager.pages) × (part.file.layout ≡ object.layout)

module _ (hash : Hash) (size : ℕ) (object : ObjectNow) (fresh : IsFreshFile hash size object) where
  abbrev part_of : ToldPages → FilePart
  part_of told = record { file = seen object (overlaid object.pages.cache.held 0 told.holds); made = told.made; fails = told.fails; readings = [] }

  by_told : (o : Option ToldPages) → object.pages.cache.pager.told ≡ o → IfSome o (λ told. told.made ≡ 0)
      → IfSome o (λ told. (length told.holds ≡ object.pages.cache.pager.pages) × All (λ bytes. length bytes ≡ object.pages.cache.pager.page_size) told.holds)
      → IfSome (option_map part_of o) (IsFreshPart size object)
  by_told None is uncalled whole = tt
  by_told (Some told) is uncalled whole = (
    record {
      file = fresh.plain (overlaid object.pages.cache.held 0 told.holds);
      some = fresh.kept.sound.listed.some;
      unread = refl;
      uncalled = uncalled;
    },
    length-overlaid object.pages.cache.held 0 told.holds ∙ whole.0,
    refl,
  )

  pub fresh-part : IfSome (told_part object []) (IsFreshPart size object)
  fresh-part = by_told object.pages.cache.pager.told refl fresh.uncalled fresh.kept.sound.sized.tells

-- what is told of a file that was just opened
pub told-fresh : (hash : Hash) (size : ℕ) (object : ObjectNow) (part : FilePart) → IsFreshFile hash size object → told_part object [] ≡ Some part → IsFreshPart size object part
told-fresh hash size object part fresh is = subst (λ o. IfSome o (IsFreshPart size object)) is (fresh-part hash size object fresh)

-- the numbers of the files
pub numbers-told : (hash : Hash) (size : ℕ) (objects : List ObjectNow) (parts : List FilePart) → AllByRecursion (IsFreshFile hash size) objects → told_parts objects ≡ Some parts
    → ◌≡◌ {A = List FileNumbers} (map number_of parts) (map number_in objects)
numbers-told hash size [] parts fresh is =
    ap (map number_of) (sym (some_same [] parts is))
numbers-told hash size (object ∷ objects) parts fresh is =
    by_first (told_part object []) refl (told_parts objects) refl is (λ later. numbers-told hash size objects later fresh.1)
  where
    by_first : (o : Option FilePart) → told_part object [] ≡ o → (others : Option (List FilePart)) → told_parts objects ≡ others
        → option_and_then (λ part. option_map (λ rest. part ∷ rest) others) o ≡ Some parts
        → ((later : List FilePart) → told_parts objects ≡ Some later → ◌≡◌ {A = List FileNumbers} (map number_of later) (map number_in objects))
        → ◌≡◌ {A = List FileNumbers} (map number_of parts) (map number_in (object ∷ objects))
    by_first None first others rest e others_are = absurd (grind (arith, common_steps, e))
    by_first (Some part) first None rest e others_are = absurd (grind (arith, common_steps, e))
    by_first (Some part) first (Some later) rest e others_are =
        let own = told-fresh hash size object part fresh.0 first in
        let one : number_of part ≡ number_in object = λ i. record { pages = own.1 i; layout = own.2 i } in
        ap (map number_of) (sym (some_same (part ∷ later) parts e))
        ∙ ap (λ n. n ∷ map number_of later) one
        ∙ ap (λ ns. number_in object ∷ ns) (others_are later rest)

-- ---- the machine

-- an element of a list that has so many
there_at : {X : Type 0} (xs : List X) (k : ℕ) → k < length xs → (x : X) × (slice_get xs k ≡ Some x)
there_at [] k inside = absurd (omega (arith, inside))
there_at (y ∷ ys) zero inside = (y, refl)
there_at (y ∷ ys) (suc k) inside = there_at ys k (omega (arith, inside))

within_of : {X : Type 0} (xs : List X) (k : ℕ) (x : X) → slice_get xs k ≡ Some x → k < length xs
within_of [] k x e = absurd (grind (arith, common_steps, e))
within_of (y ∷ ys) zero x e = omega arith
within_of (y ∷ ys) (suc k) x e = let rest = within_of ys k x e in omega (arith, rest)

all_at : (P : Line → Type 0) (es : List Line) (k : ℕ) (e : Line) → AllByRecursion P es → slice_get es k ≡ Some e → P e
all_at P [] k e all there = absurd (grind (arith, common_steps, there))
all_at P (x ∷ xs) zero e all there = subst P (some_same x e there) all.0
all_at P (x ∷ xs) (suc k) e all there = all_at P xs k e all.1 there

module _ (hash : Hash) (start now : OpenedNow) (history : List Line) (running : IsRunning hash start history now) (parts : List FilePart) (told : told_parts start.files ≡ Some parts) where
  abbrev opening : Opening
  opening = record {
    page_size = start.page_size;
    adhoc = start.adhoc;
    machine = record { files = parts; processes = start.processes; trust = start.trust };
  }

  abbrev with_files : List FileNumbers → Numbers
  with_files files = record { page_size = start.page_size; adhoc = start.adhoc; files = files; processes = length start.processes; caches = length start.trust.caches }

  has_part : (at : Place) → IsPlaceIn (numbers_in start) at → HasPart opening.machine at
  has_part (place.File number) there =
      let count = (are-told start.files parts told).count in
      let found = there_at parts number (omega (arith, there, count, length_map start.files)) in
      subst (λ o. IsSome o) (sym found.1) refl
    where
      length_map : (xs : List ObjectNow) → length (map number_in xs) ≡ length xs
      length_map [] = refl
      length_map (x ∷ xs) = ap suc (length_map xs)
  has_part (place.Process pid) there = let found = there_at start.processes pid there in subst (λ o. IsSome o) (sym found.1) refl
  has_part place.Trust there = tt

  answered : AnsweredByParts hash opening.machine history
  answered = record {
    files = λ number part there.
        let old = (are-told start.files parts told).each number part there in
        let new = there_at now.files number (let a = within_of start.files number old.0 old.1 in let b = running.went.files_count in omega (arith, a, b)) in
        let went = running.went.files number old.0 new.0 old.1 new.1 in
        (subst (λ o. IfSome o (λ p. TellsOn hash p (entries_at (place.File number) history) new.0)) old.2 went.told).answers;
    processes = λ pid p there.
        let new = there_at now.processes pid (let a = within_of start.processes pid p there in let b = running.went.processes_count in omega (arith, a, b)) in
        (running.went.processes pid p new.0 there new.1).answers;
    trust = running.went.trust.answers;
    placed = λ k e there. has_part e.entry.place (all_at (λ x. IsPlaceIn (numbers_in start) x.entry.place) history k e running.placed there);
  }

  is_answered : IsAnswered hash (numbers_in start) history opening
  is_answered = record {
    opening = record {
      known = running.openable.known;
      files = λ number part there.
          let old = (are-told start.files parts told).each number part there in
          (told-fresh hash start.page_size old.0 part (running.openable.files number old.0 old.1) old.2).0;
      processes = running.openable.processes;
      unloaded = running.openable.unloaded;
    };
    same_numbers =
        ap with_files (numbers-told hash start.page_size start.files parts (all-placed (IsFreshFile hash start.page_size) start.files running.openable.files) told);
    answered = answered;
  }

-- where all pagers told, the machine answers the history
pub opening-answers : (hash : Hash) (start now : OpenedNow) (history : List Line) → IsRunning hash start history now → IfSome (opening_in start) (IsAnswered hash (numbers_in start) history)
opening-answers hash start now history running = by_parts (told_parts start.files) refl
  where
    opening_of : List FilePart → Opening
    opening_of files = record { page_size = start.page_size; adhoc = start.adhoc; machine = record { files = files; processes = start.processes; trust = start.trust } }

    by_parts : (o : Option (List FilePart)) → told_parts start.files ≡ o
        → IfSome (option_map (λ files. opening_of files) o) (IsAnswered hash (numbers_in start) history)
    by_parts None is = tt
    by_parts (Some parts) is = is_answered hash start now history running parts is
