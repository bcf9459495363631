-- A machine that was just opened stands.
use Rattle.std.proofs.Common.{◌≡◌, ℕ, ◌<◌, [], length, Option, Some, None, refl, sym, ap, subst, ◌∙◌, arith}
use Rattle.std.specs.Prelude.{IfSome, slice_get}
use Rattle.std.specs.List.{AllByRecursion}
use Rattle.std.specs.Option.{option_map}
use Rattle.std.proofs.lemmas.Grind.{common_steps}
use Rattle.pg_digest.specs.Kinds.{Hash}
use Rattle.pg_io.specs.Pager.{ToldPages}
use Rattle.pg_cache.specs.Contents.{overlaid}
use Rattle.pg_object.specs.Object.{ObjectNow, seen}
use Rattle.pg_object.specs.Kept.{IsKept}
use Rattle.pg_process.specs.declared.mapping.Mapping.{Mapping}
use Rattle.pg_process.specs.ProcessStep.{PlainProcess, fresh}
use Rattle.pg_history.specs.Machine.{FilePart}
use Rattle.pg_calls.proofs.RoomFacts.{within-nothing}
use Rattle.pg_parts.specs.Opened.{OpenedNow, numbers_in, IsOpenable}
use Rattle.pg_parts.specs.Replays.{TellsOn, FileWent, ProcessWent}
use Rattle.pg_machine.specs.Solo.{IsRunning}

some_same : {X : Type 0} (a b : X) → Some a ≡ Some b → a ≡ b
some_same a b is = grind (arith, common_steps, is)

module _ (hash : Hash) (object : ObjectNow) (kept : IsKept hash object) where
  abbrev part_of : ToldPages → FilePart
  part_of told = record { file = seen object (overlaid object.pages.cache.held 0 told.holds); made = told.made; fails = told.fails; readings = [] }

  told_yet : (o : Option ToldPages) → object.pages.cache.pager.told ≡ o → IfSome (option_map part_of o) (λ part. TellsOn hash part [] object)
  told_yet None is = tt
  told_yet (Some told) is = record { answers = tt; is = ap (option_map part_of) is }

  file_yet : FileWent hash object [] object
  file_yet = record {
    kept = kept;
    sizes = record { limit = refl; pages = refl; page_size = refl };
    layout = refl;
    spare = record { regions = omega arith; records = omega arith; copies = omega arith; blobs = omega arith };
    told = told_yet object.pages.cache.pager.told refl;
  }

process_yet : (files number size : ℕ) (p : PlainProcess) → p ≡ fresh number p.declared size → ProcessWent files p [] p
process_yet files number size p is = record {
  answers = tt;
  is = refl;
  made = omega arith;
  declared = subst (AllByRecursion (λ (m : Mapping). m.file < files)) (sym (ap (λ (q : PlainProcess). q.regions) is)) tt;
}

none_there : {X : Type 0} {P : Type 0} (k : ℕ) (x : X) → slice_get [] k ≡ Some x → P
none_there k x there = absurd (grind (arith, common_steps, there))

pub starts : (hash : Hash) (start : OpenedNow) → IsOpenable hash start → IsRunning hash start [] start
starts hash start openable = record {
  openable = openable;
  went = record {
    page_size = refl;
    adhoc = refl;
    needs = refl;
    files_count = refl;
    processes_count = refl;
    files = λ number old new opened found.
        subst (λ (o : ObjectNow). FileWent hash old [] o) (some_same old new (sym opened ∙ found)) (file_yet hash old (openable.files number old opened).kept);
    processes = λ pid old new opened found.
        subst (λ (p : PlainProcess). ProcessWent (length (numbers_in start).files) old [] p) (some_same old new (sym opened ∙ found))
        (process_yet (length (numbers_in start).files) pid start.page_size old (openable.processes pid old opened));
    trust = record { answers = tt; is = refl; caches = refl };
  };
  stamps = λ k e there. none_there k e there;
  agrees = λ k e there. none_there k e there;
  placed = tt;
  workers = tt;
  within = λ worker at. within-nothing _;
}
