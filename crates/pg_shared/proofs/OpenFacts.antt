-- A run is opened: its passes, and the cells of its parts.
use Rattle.std.proofs.Common.{◌≡◌, ℕ, suc, ◌+◌, ◌<◌, ◌≤◌, List, [], ◌∷◌, length, map, Some, refl, sym, ap, subst, ◌∙◌, arith}
use Rattle.std.specs.Prelude.{slice_get}
use Rattle.std.proofs.lemmas.Grind.{common_steps}
use Rattle.pg_digest.specs.Kinds.{Hash}
use Rattle.atomic_table.specs.Seated.{TableId}
use Rattle.pg_book.specs.Needs.{parts_of}
use Rattle.pg_book.specs.Lists.{Among, Rising}
use Rattle.pg_book.specs.Models.{SpineOf, PassOf, BookOf, spine_receipts, pass_receipts}
use Rattle.pg_book.proofs.Placing.{each_map}
use Rattle.pg_book.specs.Opening as book
use Rattle.pg_book.specs.Opening.{EachFrom, IsNewSpine, IsNewPass, IsOpened}
use Rattle.cs_policy.specs.declared.entry.Place.{Place}
use Rattle.cs_policy.specs.declared.entry.Place.TheVariants as place
use Rattle.cs_policy.specs.declared.entry.Entry.{Entry}
use Rattle.pg_plain.specs.PlainFile.{Attached, PlainFile}
use Rattle.pg_object.specs.Object.{ObjectNow}
use Rattle.pg_process.specs.ProcessStep.{PlainProcess}
use Rattle.pg_history.specs.Machine.{Line}
use Rattle.pg_calls.specs.Room.{Within, IsPlaceIn, used_by, given_to}
use Rattle.pg_calls.proofs.RoomFacts.{within-nothing}
use Rattle.pg_parts.specs.Opened.{OpenedNow, numbers_in, IsOpenable}
use Rattle.pg_parts.specs.Replays.{FileWent, ProcessWent, TrustWent}
use Rattle.pg_machine.proofs.StartFacts.{starts}
use Rattle.pg_machine.proofs.AskFacts.{length-numbers, within-of}
use Rattle.pg_shared.specs.Plan.{Plan, number_at}
use Rattle.pg_shared.specs.Drawn.{lines_in, drawn_on}
use Rattle.pg_shared.specs.Passes.{IsPassOf}
use Rattle.pg_shared.specs.Spines.{IsSpineOf}
use Rattle.pg_shared.specs.Cells.{IsFileOf, IsProcessOf, IsTrustOf}
use Rattle.pg_shared.specs.Opening.{parts_in, known_of, declared_of, KnownNow, ReadyNow, IsReady, IsSharedOf, IsShared, IsNewPassOf, IsOpenedAs}
use Rattle.pg_shared.specs.Closing.{ArePassesOfRun}
use Rattle.pg_shared.proofs.CloseFacts.{table-parts}

-- ---- the book

module _ (hash : Hash) (start : OpenedNow) (openable : IsOpenable hash start) (shared : IsShared start) where
  pub same-parts : parts_of start.needs ≡ parts_in start
  same-parts = table-parts start shared.some shared.even

  pub book-openable : book.IsOpenable start.needs
  book-openable = record {
    caller = shared.some;
    callers = shared.few;
    parts = let files = openable.few_files in let processes = openable.few_processes in omega (arith, files, processes, same-parts);
    even = λ k row inside. shared.even k row inside ∙ sym same-parts;
    entries = openable.entries;
  }

-- ---- passes

new_pass : (plan : Plan) (caller : ℕ) (pass : PassOf Entry) → caller < length plan.start.needs → IsNewPass plan.start.needs plan.book caller pass → IsNewPassOf plan caller pass
new_pass plan caller pass inside new = record {
  is_pass = record {
    same_book = new.place.same_book;
    caller = new.place.is_caller;
    declared = inside;
    needs = new.view.needs_are;
    rising = subst Rising (sym none) tt;
    own = λ r there. absurd (subst (Among r) none there);
  };
  unmade = none;
}
  where
    none : pass_receipts pass ≡ []
    none = new.view.lists (parts_of pass.view.needs + pass.caller)

new_passes : (plan : Plan) (n : ℕ) (passes : List (PassOf Entry)) → n + length passes ≤ length plan.start.needs → EachFrom (IsNewPass plan.start.needs plan.book) n passes → EachFrom (IsNewPassOf plan) n passes
new_passes plan n [] few each = tt
new_passes plan n (p ∷ passes) few each = (new_pass plan n p (omega (arith, few)) each.0, new_passes plan (suc n) passes (omega (arith, few)) each.1)

pub opened-as : (plan : Plan) (opened : BookOf Entry) (spines : List (SpineOf Entry)) (passes : List (PassOf Entry)) → opened.book ≡ plan.book → IsOpened plan.start.needs opened spines passes
    → IsOpenedAs plan.start plan passes
opened-as plan opened spines passes same is = record {
  same_start = refl;
  count = is.pass_count;
  each = new_passes plan 0 passes (omega (arith, is.pass_count)) (subst (λ (b : TableId). EachFrom (IsNewPass plan.start.needs b) 0 passes) same is.passes_are);
}

-- ---- cells

module _ (plan : Plan) (at : Place) (n : ℕ) (number : number_at plan at ≡ n) (placed : IsPlaceIn (numbers_in plan.start) at) (spine : SpineOf Entry) (new : IsNewSpine plan.start.needs plan.book n spine) where
  none : spine_receipts spine ≡ []
  none = new.view.lists spine.part

  pub new-drawn : drawn_on spine ≡ []
  new-drawn = ap lines_in none

  pub new-spine : IsSpineOf plan at spine
  new-spine = record {
    same_book = new.place.same_book;
    part = new.place.is_part ∙ sym number;
    placed = placed;
    rising = subst Rising (sym none) tt;
    entries = λ r there. absurd (subst (Among r) none there);
    within = λ w other. subst (λ (l : List Line). Within (used_by w other l) (given_to (numbers_in plan.start) plan.start.needs w other)) (sym new-drawn) (within-nothing _);
  }

module _ (hash : Hash) (plan : Plan) (openable : IsOpenable hash plan.start) (spine : SpineOf Entry) where
  pub new-file : (number : ℕ) (object : ObjectNow) → slice_get plan.start.files number ≡ Some object → IsNewSpine plan.start.needs plan.book number spine
      → IsFileOf hash plan (record { object = object; spine = spine })
  new-file number object here new =
      let inside = within-of plan.start.files number object here in
      let placed : number < length (numbers_in plan.start).files = omega (arith, inside, length-numbers plan.start.files) in
      record {
        number = number;
        kept = record {
          opened = object;
          here = here;
          fresh = openable.files number object here;
          spare = openable.spare number object here;
          spine = new-spine plan (place.File number) number refl placed spine new;
          went = subst (λ es. FileWent hash object es object) (sym (new-drawn plan (place.File number) number refl placed spine new)) ((starts hash plan.start openable).went.files number object object here here);
          admitted = λ k attached there.
              absurd (grind (arith, common_steps, ap (λ (bs : List Attached). slice_get bs k) (sym (ap (λ (f : PlainFile). f.blobs) ((openable.files number object here).plain []))) ∙ there));
        };
      }

  pub new-process : (pid : ℕ) (p : PlainProcess) → slice_get plan.start.processes pid ≡ Some p → IsNewSpine plan.start.needs plan.book (length plan.start.files + pid) spine
      → IsProcessOf plan (record { process = p; spine = spine })
  new-process pid p here new =
      let placed : pid < (numbers_in plan.start).processes = within-of plan.start.processes pid p here in
      let number : number_at plan (place.Process pid) ≡ length plan.start.files + pid = ap (λ (n : ℕ). n + pid) (length-numbers plan.start.files) in
      record {
        pid = pid;
        kept = record {
          opened = p;
          here = here;
          few_files = openable.few_files;
          numbers = openable.numbers pid p here;
          spine = new-spine plan (place.Process pid) (length plan.start.files + pid) number placed spine new;
          went = subst (λ es. ProcessWent (length (numbers_in plan.start).files) p es p) (sym (new-drawn plan (place.Process pid) (length plan.start.files + pid) number placed spine new))
              ((starts hash plan.start openable).went.processes pid p p here here);
        };
      }

  pub new-trust : IsNewSpine plan.start.needs plan.book (length plan.start.files + length plan.start.processes) spine → IsTrustOf plan (record { trust = plan.start.trust; spine = spine })
  new-trust new =
      let number : number_at plan place.Trust ≡ length plan.start.files + length plan.start.processes = ap (λ (n : ℕ). n + length plan.start.processes) (length-numbers plan.start.files) in
      record {
        spine = new-spine plan place.Trust (length plan.start.files + length plan.start.processes) number tt spine new;
        went = subst (λ es. TrustWent plan.start.trust es plan.start.trust) (sym (new-drawn plan place.Trust (length plan.start.files + length plan.start.processes) number tt spine new))
            (starts hash plan.start openable).went.trust;
      }

-- ---- a run that was opened

module _ (hash : Hash) (opened start parts : OpenedNow) (openable : IsOpenable hash opened) (shared : IsShared opened) (is : start ≡ opened) (viewed : parts ≡ opened)
    (the_book : BookOf Entry) (spines : List (SpineOf Entry)) (passes : List (PassOf Entry)) (books : IsOpened parts.needs the_book spines passes) where
  abbrev plan_of : OpenedNow → Plan
  plan_of s = record { book = the_book.book; start = s }

  at_opened : IsOpened opened.needs the_book spines passes
  at_opened = subst (λ (o : OpenedNow). IsOpened o.needs the_book spines passes) viewed books

  pub opens-as : IsOpenedAs opened (plan_of start) passes
  opens-as = subst (λ (s : OpenedNow). IsOpenedAs opened (plan_of s) passes) (sym is) (opened-as (plan_of opened) the_book spines passes refl at_opened)

  pub opens-ready : (known : KnownNow) → known.files ≡ map known_of parts.files → known.declared ≡ map declared_of parts.processes → known.fixed ≡ parts.trust.fixed
      → IsReady hash (plan_of start) (record {
        page_size = parts.page_size;
        adhoc = parts.adhoc;
        files = parts.files;
        processes = parts.processes;
        trust = parts.trust;
        known = known;
        book = the_book;
        spines = spines;
      })
  opens-ready known files declared fixed =
      subst (λ (s : OpenedNow). IsReady hash (plan_of s) (record {
        page_size = parts.page_size;
        adhoc = parts.adhoc;
        files = parts.files;
        processes = parts.processes;
        trust = parts.trust;
        known = known;
        book = the_book;
        spines = spines;
      })) (sym is) (record {
        openable = openable;
        page_size = ap (λ (o : OpenedNow). o.page_size) viewed;
        adhoc = ap (λ (o : OpenedNow). o.adhoc) viewed;
        files = ap (λ (o : OpenedNow). o.files) viewed;
        processes = ap (λ (o : OpenedNow). o.processes) viewed;
        trust = ap (λ (o : OpenedNow). o.trust) viewed;
        known = record {
          files = files ∙ ap (λ (o : OpenedNow). map known_of o.files) viewed;
          declared = declared ∙ ap (λ (o : OpenedNow). map declared_of o.processes) viewed;
          fixed = fixed ∙ ap (λ (o : OpenedNow). o.trust.fixed) viewed;
        };
        book = refl;
        needs = at_opened.knows.needs_are;
        count = at_opened.spine_count ∙ same-parts hash opened openable shared;
        spines = at_opened.spines_are;
        even = shared.even;
        some = shared.some;
      })

-- it is the run's, under its name
pub named-ready : (hash : Hash) (plan self seen : Plan) (now : ReadyNow) → IsReady hash seen now → seen ≡ self → plan ≡ self → IsReady hash plan now
named-ready hash plan self seen now ready view name = subst (λ (p : Plan). IsReady hash p now) (view ∙ sym name) ready

-- what lies behind locks is that of the run
pub shares : (hash : Hash) (plan : Plan) (now : ReadyNow) → IsReady hash plan now → (files processes : ℕ) → files ≡ length now.files → processes ≡ length now.processes
    → IsSharedOf hash plan (record {
      page_size = now.page_size;
      adhoc = now.adhoc;
      known = now.known;
      files = files;
      processes = processes;
    })
shares hash plan now ready files processes files_are processes_are = record {
  openable = ready.openable;
  page_size = ready.page_size;
  adhoc = ready.adhoc;
  known = ready.known;
  files = files_are ∙ ap length ready.files;
  processes = processes_are ∙ ap length ready.processes;
  even = ready.even;
  some = ready.some;
}

-- passes that drew nothing are passes of the run
pub passes-of-run : (plan : Plan) (start : OpenedNow) (passes : List (PassOf Entry)) → IsOpenedAs start plan passes → ArePassesOfRun plan passes
passes-of-run plan start passes opened = record {
  count = opened.count ∙ sym (ap (λ (o : OpenedNow). length o.needs) opened.same_start);
  each = each_map (IsNewPassOf plan) (IsPassOf plan) 0 passes (λ w p new. new.is_pass) opened.each;
}
