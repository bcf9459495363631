-- What a call of an object leaves of it, by the plain step that it is.
use Rattle.std.proofs.Common.{◌≡◌, ℕ, ◌+◌, ◌≤◌, List, [], ◌∷◌, ◌++◌, length, Option, Some, None, refl, sym, ap, subst, ◌∙◌, arith, length-append}
use Rattle.std.specs.Prelude.{IfSome, IsSomeAnd}
use Rattle.std.specs.Option.{option_map}
use Rattle.pg_digest.specs.Kinds.{Hash}
use Rattle.pg_io.specs.Pager.{ToldPages}
use Rattle.pg_io.specs.Calls.{count_after, first_failing}
use Rattle.cs_policy.specs.declared.access.Access.TheVariants.{Read, Write, Execute}
use Rattle.cs_policy.specs.declared.file.FileEvent.{FileEvent}
use Rattle.cs_policy.specs.declared.file.FileEvent.TheVariants as file
use Rattle.cs_policy.specs.declared.file.FileReply.{FileReply}
use Rattle.cs_policy.specs.ProcFlags.{guarded}
use Rattle.cs_blob.specs.Signature.{Signature}
use Rattle.pg_cache.specs.Cache.{CacheNow, KeepsSizes}
use Rattle.pg_cache.specs.Contents.{overlaid}
use Rattle.pg_plain.specs.PlainFile.{Attached, PlainFile}
use Rattle.pg_plain.specs.Calls.{page_calls, calls_made}
use Rattle.pg_plain.specs.Steps.{file_step}
use Rattle.pg_object.specs.Object.{ObjectNow, seen}
use Rattle.pg_object.specs.Acts.{Acts, Tells, room_used}
use Rattle.pg_history.specs.Machine.{Reading, FilePart, blob_of, outcome_of, part_step}
use Rattle.pg_sealing.proofs.StepCases.{step_leaves}
use Rattle.pg_sealing.proofs.FileFacts.{given_blobs, step_stays}
use Rattle.pg_calls.specs.Room.{file_uses}
use Rattle.pg_parts.specs.Opened.{told_part}
use Rattle.pg_parts.specs.Replays.{LeavesSpare}
use Rattle.pg_parts.specs.Laws.{StepsTold, ToldCallsAreSteps}

-- ---- what stays

pub sizes-through : (one two three : CacheNow) → KeepsSizes one two → KeepsSizes two three → KeepsSizes one three
sizes-through one two three a b = record {
  limit = b.limit ∙ a.limit;
  pages = b.pages ∙ a.pages;
  page_size = b.page_size ∙ a.page_size;
}

module _ (hash : Hash) (old new : ObjectNow) (e : FileEvent) (blob : Option Signature) (answer : FileReply) (acts : Acts hash old e blob answer new) where
  after_step : seen new acts.pages_after ≡ (file_step hash (seen old acts.pages) e blob acts.outcome).1
  after_step = ap (λ (a : FileReply × PlainFile). a.1) acts.step

  pub layout-stays : new.layout ≡ old.layout
  layout-stays = ap (λ (f : PlainFile). f.layout) after_step ∙ (step_stays hash (seen old acts.pages) e blob acts.outcome).layout

  -- one signature more where one is attached
  blobs-rise : length new.blobs ≤ length old.blobs + (file_uses e).blobs
  blobs-rise =
      subst (λ (f : PlainFile). length f.blobs ≤ length old.blobs + (file_uses e).blobs) (sym after_step)
      (step_leaves hash (seen old acts.pages) (λ f. length f.blobs ≤ length old.blobs + (file_uses e).blobs) e blob acts.outcome (record {
        itself = omega arith;
        attached = λ slice cdhash read lookup number b is. subst (λ v. length (old.blobs ++ record { slice = number; signature = b } ∷ []) ≤ length old.blobs + (file_uses v).blobs) (sym is)
            (let new : Attached = record { slice = number; signature = b } in let n = length-append old.blobs (new ∷ []) in omega (arith, n));
        written_over = λ at piece bytes is. omega arith;
        mapped = λ region insert is. omega arith;
        dropped = λ id is. omega arith;
        dropped_all = λ pid is. omega arith;
        given = λ id page access flags resolve region is found.
            subst (λ bs. length bs ≤ length old.blobs + (file_uses e).blobs) (sym (given_blobs region page access (guarded flags) (seen old acts.pages))) (omega arith);
        stored_copy = λ id page at bytes resolve is. omega arith;
        stored_page = λ id page at bytes resolve is. omega arith;
        left = λ page is. omega arith;
      }))

-- what an event uses of an object's room is counted so
record Counted (e : FileEvent) : Type 0 where
  regions : (room_used e).regions ≤ (file_uses e).regions
  records : (room_used e).records ≤ (file_uses e).records
  copies : (room_used e).copies ≤ (file_uses e).copies

counted : (e : FileEvent) → Counted e
counted (file.ReadSignature slice) = record { regions = omega arith; records = omega arith; copies = omega arith }
counted (file.AddBlob slice cdhash read lookup) = record { regions = omega arith; records = omega arith; copies = omega arith }
counted (file.RefuseBlob read refusal) = record { regions = omega arith; records = omega arith; copies = omega arith }
counted (file.Write at piece) = record { regions = omega arith; records = omega arith; copies = omega arith }
counted (file.AddRegion region insert) = record { regions = omega arith; records = omega arith; copies = omega arith }
counted (file.DropRegion id) = record { regions = omega arith; records = omega arith; copies = omega arith }
counted (file.DropPid pid) = record { regions = omega arith; records = omega arith; copies = omega arith }
counted (file.Enter id page Read flags resolve) = record { regions = omega arith; records = omega arith; copies = omega arith }
counted (file.Enter id page Write flags resolve) = record { regions = omega arith; records = omega arith; copies = omega arith }
counted (file.Enter id page Execute flags resolve) = record { regions = omega arith; records = omega arith; copies = omega arith }
counted (file.Store id page at bytes resolve) = record { regions = omega arith; records = omega arith; copies = omega arith }
counted (file.Load id page at count resolve) = record { regions = omega arith; records = omega arith; copies = omega arith }
counted (file.Fetch id page at count resolve) = record { regions = omega arith; records = omega arith; copies = omega arith }
counted (file.Evict page) = record { regions = omega arith; records = omega arith; copies = omega arith }

pub leaves-spare : (hash : Hash) (old new : ObjectNow) (e : FileEvent) (blob : Option Signature) (answer : FileReply) → Acts hash old e blob answer new
    → LeavesSpare (file_uses e) old new
leaves-spare hash old new e blob answer acts = record {
  regions = omega (arith, acts.room.regions, (counted e).regions);
  records = omega (arith, acts.room.records, (counted e).records);
  copies = omega (arith, acts.room.copies, (counted e).copies);
  blobs = blobs-rise hash old new e blob answer acts;
}

-- ---- what is told

-- the part that is told of an object
abbrev part_told : ObjectNow → List Reading → ToldPages → FilePart
part_told now readings told = record {
  file = seen now (overlaid now.pages.cache.held 0 told.holds);
  made = told.made;
  fails = told.fails;
  readings = readings;
}

module _ (hash : Hash) (old new : ObjectNow) (e : FileEvent) (blob : Option Signature) (answer : FileReply) (acts : Acts hash old e blob answer new) (stamp : ℕ) (readings : List Reading) where
  -- where both tell so
  both_told : (before now : ToldPages) → old.pages.cache.pager.told ≡ Some before → new.pages.cache.pager.told ≡ Some now
      → Tells before (length (page_calls hash (seen old acts.pages) e)) acts.outcome now
      → acts.pages ≡ overlaid old.pages.cache.held 0 before.holds → acts.pages_after ≡ overlaid new.pages.cache.held 0 now.holds
      → blob ≡ blob_of hash (part_told old readings before) e
      → StepsTold hash stamp (part_told old readings before) e answer new
  both_told before now was is tells found found_after same =
      let part = part_told old readings before in
      let plain : seen old acts.pages ≡ part.file = ap (seen old) found in
      let outcome : acts.outcome ≡ outcome_of hash part e = tells.first ∙ ap (λ (f : PlainFile). first_failing before.made before.fails (length (page_calls hash f e))) plain in
      let step : (answer, seen new acts.pages_after) ≡ file_step hash part.file e (blob_of hash part e) (outcome_of hash part e) =
      acts.step ∙ ap (λ (f : PlainFile). file_step hash f e blob acts.outcome) plain ∙ ap (λ b. file_step hash part.file e b acts.outcome) same ∙ ap (λ n. file_step hash part.file e (blob_of hash part e) n) outcome in
      let replies : answer ≡ (part_step hash stamp part e).0 = ap (λ (a : FileReply × PlainFile). a.0) step in
      let file_is : seen new (overlaid new.pages.cache.held 0 now.holds) ≡ (part_step hash stamp part e).1.file =
      sym (ap (seen new) found_after) ∙ ap (λ (a : FileReply × PlainFile). a.1) step in
      let made_is : now.made ≡ (part_step hash stamp part e).1.made =
      tells.made ∙ ap (λ n. count_after before.made (calls_made n (length (page_calls hash (seen old acts.pages) e)))) outcome
      ∙ ap (λ (f : PlainFile). count_after before.made (calls_made (outcome_of hash part e) (length (page_calls hash f e)))) plain in
      record {
        answers = replies;
        is = ap (option_map (part_told new (part_step hash stamp part e).1.readings)) is
            ∙ ap (λ (p : FilePart). Some p) (λ i. record { file = file_is i; made = made_is i; fails = tells.fails i; readings = (part_step hash stamp part e).1.readings });
      }

  by_told : (before now : Option ToldPages) → old.pages.cache.pager.told ≡ before → new.pages.cache.pager.told ≡ now
      → IfSome before (λ b. IsSomeAnd now (λ n. Tells b (length (page_calls hash (seen old acts.pages) e)) acts.outcome n))
      → IfSome (option_map (λ t. overlaid old.pages.cache.held 0 t.holds) before) (λ content. acts.pages ≡ content)
      → IfSome (option_map (λ t. overlaid new.pages.cache.held 0 t.holds) now) (λ content. acts.pages_after ≡ content)
      → IfSome (option_map (part_told old readings) before) (λ part. blob ≡ blob_of hash part e → StepsTold hash stamp part e answer new)
  by_told None now was is tells found found_after = tt
  by_told (Some before) None was is tells found found_after = absurd tells
  by_told (Some before) (Some now) was is tells found found_after = λ same. both_told before now was is tells found found_after same

  pub steps-told : IfSome (told_part old readings) (λ part. blob ≡ blob_of hash part e → StepsTold hash stamp part e answer new)
  steps-told = by_told old.pages.cache.pager.told new.pages.cache.pager.told refl refl acts.told acts.found.told acts.found_after.told

pub calls_are_steps : ToldCallsAreSteps
calls_are_steps hash old new e blob answer stamp readings part acts told same =
    subst (λ o. IfSome o (λ p. blob ≡ blob_of hash p e → StepsTold hash stamp p e answer new)) told
    (steps-told hash old new e blob answer acts stamp readings) same
