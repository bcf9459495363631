-- Calls that make no pager call and leave the pages as they are.
use Rattle.std.proofs.Common.{◌≡◌, ℕ, false, List, [], Option, None, length, refl, sym, ap, subst, ◌∙◌, arith, ◌++◌}
use Rattle.std.specs.Prelude.{All}
use Rattle.pg_digest.specs.Kinds.{Hash}
use Rattle.cs_policy.specs.declared.file.FileEvent.{FileEvent}
use Rattle.cs_policy.specs.declared.file.FileReply.{FileReply}
use Rattle.cs_blob.specs.Signature.{Signature}
use Rattle.pg_io.specs.Pager.{MadeCalls}
use Rattle.pg_io.proofs.CallLaws.{no_calls}
use Rattle.pg_cache.specs.Finds.{Finds}
use Rattle.pg_cache.proofs.Laws.{some_pages, some_finds}
use Rattle.pg_pages.specs.Pages.{PagesNow}
use Rattle.pg_regions.specs.Lookups.{IsWriter}
use Rattle.pg_regions.specs.RegionsNow.{RegionsNow, IsSound}
use Rattle.pg_regions.specs.Steps.{KeepsRoom}
use Rattle.pg_plain.specs.Calls.{page_calls}
use Rattle.pg_plain.specs.Steps.{file_step}
use Rattle.pg_io.specs.declared.pager_call.PagerCall.{PagerCall}
use Rattle.pg_cache.proofs.CalledLaws.{called_none}
use Rattle.pg_object.specs.Object.{ObjectNow, seen}
use Rattle.pg_object.specs.PagerCalls.{reads_made}
use Rattle.pg_object.specs.Kept.{IsInside, IsKept}
use Rattle.pg_object.specs.Acts.{results, room_used, LeavesRoom, given_back, GainsRoom, Acts}
use Rattle.pg_object.specs.Checked.{takes_out, KeepsChecked}
use Rattle.pg_object.proofs.PagerCallFacts.{no_reads, reads_are, reads_uncalled, done_uncalled}
use Rattle.pg_object.proofs.TellFacts.{tells_of}
use Rattle.pg_object.proofs.KeepFacts.{keep_after}
use Rattle.pg_object.proofs.CheckedFacts.{checked_quietly}

-- All that the contract of a call says which calls the digester not at all.
pub record Does (hash : Hash) (old : ObjectNow) (e : FileEvent) (blob : Option Signature) (answer : FileReply) (new : ObjectNow) : Type 0 where
  pub acts : Acts hash old e blob answer new
  pub checked : KeepsChecked old e answer new
  pub unhashed : new.pages.calls ≡ old.pages.calls
  pub kept : IsKept hash new

-- An event without pager calls, at which the pages stay, is the plain step for all bytes of the pages.
pub record Quiet (hash : Hash) (old : ObjectNow) (e : FileEvent) (blob : Option Signature) (answer : FileReply) (new : ObjectNow) : Type 0 where
  pub same : new.pages ≡ old.pages
  pub uncalled : (pages : List (List ℕ)) → page_calls hash (seen old pages) e ≡ []
  pub step : (pages : List (List ℕ)) → (answer, seen new pages) ≡ file_step hash (seen old pages) e blob 0
  pub room : LeavesRoom (room_used e) old.regions new.regions
  pub gains : GainsRoom (given_back answer) old.regions new.regions
  pub untaken : (page : ℕ) → takes_out old e answer page ≡ false

pub acts_quietly : (hash : Hash) (old new : ObjectNow) (e : FileEvent) (blob : Option Signature) (answer : FileReply) → IsKept hash old
    → Quiet hash old e blob answer new → Acts hash old e blob answer new
acts_quietly hash old new e blob answer kept quiet = record {
  pages = pages;
  pages_after = pages;
  outcome = 0;
  few = omega arith;
  found = some_finds old.pages.cache kept.sound;
  found_after = subst (λ (now : PagesNow). Finds now.cache pages) (sym quiet.same) (some_finds old.pages.cache kept.sound);
  step = quiet.step pages;
  faults = ap (λ (now : PagesNow). now.cache.pager.faults) quiet.same;
  told = tells_of old.pages.cache.pager new.pages.cache.pager (length (page_calls hash (seen old pages) e)) 0 (omega arith) made;
  calls = ap (λ (now : PagesNow). now.cache.pager.calls) quiet.same ∙ called_none old.pages.cache.pager
      ∙ ap (λ (calls : List PagerCall). old.pages.cache.pager.calls ++ calls) (sym (done_uncalled hash (seen old pages) e 0 (quiet.uncalled pages)));
  reads = reads_are 0 (reads_made hash (seen old pages) e 0) old.pages.cache.pager.reads new.pages.cache.pager.reads (sym (reads_uncalled hash (seen old pages) e 0 (quiet.uncalled pages)))
      (no_reads old.pages.cache.pager.reads new.pages.cache.pager.reads (ap (λ (now : PagesNow). now.cache.pager.reads) quiet.same));
  sizes = record {
    limit = ap (λ (now : PagesNow). now.cache.limit) quiet.same;
    pages = ap (λ (now : PagesNow). now.cache.pager.pages) quiet.same;
    page_size = ap (λ (now : PagesNow). now.cache.pager.page_size) quiet.same;
  };
  room = quiet.room;
  gains = quiet.gains;
}
  where
    pages : List (List ℕ)
    pages = some_pages old.pages.cache

    made : MadeCalls old.pages.cache.pager (results (length (page_calls hash (seen old pages) e)) 0) new.pages.cache.pager
    made =
        subst (λ (calls : List ℕ). MadeCalls old.pages.cache.pager (results (length calls) 0) new.pages.cache.pager) (sym (quiet.uncalled pages))
        (subst (λ (now : PagesNow). MadeCalls old.pages.cache.pager [] now.cache.pager) (sym quiet.same) (no_calls old.pages.cache.pager))

-- ---- regions that change

-- What the regions of an object keep: their pages lie within the file, and no writer comes.
pub record Fewer (old : ObjectNow) (regions : RegionsNow) : Type 0 where
  pub sound : IsSound regions
  pub page : regions.page ≡ old.regions.page
  pub inside : All (IsInside old.pages.cache.pager.pages) regions.regions
  pub writers : (page id : ℕ) → IsWriter regions.regions regions.records page id → IsWriter old.regions.regions old.regions.records page id

pub kept_quietly : (hash : Hash) (old : ObjectNow) (regions : RegionsNow) (e : FileEvent) (answer : FileReply) → IsKept hash old
    → Quiet hash old e None answer (record old { regions = regions }) → Fewer old regions → IsKept hash (record old { regions = regions })
kept_quietly hash old regions e answer kept quiet fewer = record {
  keep = keep_after hash old (record old { regions = regions }) e None answer kept (acts_quietly hash old (record old { regions = regions }) e None answer kept quiet) tt;
  sound = kept.sound;
  marked = kept.marked;
  regions_sound = fewer.sound;
  page = fewer.page ∙ kept.page;
  seals = record {
    signed = kept.seals.signed;
    unmapped = kept.seals.unmapped;
    unwritten = λ p id writer. kept.seals.unwritten p id (fewer.writers p id writer);
  };
  reached = kept.reached;
  laid = kept.laid;
  inside = fewer.inside;
  signatures = kept.signatures;
  fits = kept.fits;
  few_blobs = kept.few_blobs;
}

-- a call that changes the regions alone
pub does_quietly : (hash : Hash) (old : ObjectNow) (regions : RegionsNow) (e : FileEvent) (answer : FileReply) → IsKept hash old
    → Quiet hash old e None answer (record old { regions = regions }) → Fewer old regions → Does hash old e None answer (record old { regions = regions })
does_quietly hash old regions e answer kept quiet fewer = record {
  acts = acts_quietly hash old (record old { regions = regions }) e None answer kept quiet;
  checked = checked_quietly old (record old { regions = regions }) e answer refl quiet.untaken;
  unhashed = refl;
  kept = kept_quietly hash old regions e answer kept quiet fewer;
}

-- a call that changes nothing
pub does_nothing : (hash : Hash) (old : ObjectNow) (e : FileEvent) (answer : FileReply) → IsKept hash old → Quiet hash old e None answer old → Does hash old e None answer old
does_nothing hash old e answer kept quiet = record {
  acts = acts_quietly hash old old e None answer kept quiet;
  checked = checked_quietly old old e answer refl quiet.untaken;
  unhashed = refl;
  kept = kept;
}

-- ---- room

pub room_stays : (old : RegionsNow) → LeavesRoom (record { regions = 0; records = 0; copies = 0 }) old old
room_stays old = record { regions = omega arith; records = omega arith; copies = omega arith }

pub room_kept : (old new : RegionsNow) → KeepsRoom old new → LeavesRoom (record { regions = 0; records = 0; copies = 0 }) old new
room_kept old new keeps = record {
  regions = let more = keeps.regions in omega arith;
  records = let more = keeps.records in omega arith;
  copies = let more = keeps.copies in omega arith;
}
