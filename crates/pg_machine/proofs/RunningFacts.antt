-- A machine stands after one part was asked and the entry was made.
use Rattle.std.proofs.Common.{◌≡◌, ℕ, ◌+◌, ◌<◌, true, false, List, [], ◌∷◌, ◌++◌, length, Some, refl, sym, ap, subst, ◌∙◌, arith, inl, inr, length-append}
use Rattle.std.specs.Prelude.{slice_get, slice_set}
use Rattle.std.specs.List.{AllByRecursion}
use Rattle.std.proofs.lemmas.Grind.{common_steps}
use Rattle.std.proofs.Math.ListN.{length-set}
use Rattle.pg_digest.specs.Kinds.{Hash}
use Rattle.pg_book.specs.declared.needs.Needs.{Needs}
use Rattle.pg_book.specs.Needs.{nothing_needed, all_entries}
use Rattle.cs_policy.specs.declared.process.ProcEvent.{ProcEvent}
use Rattle.cs_policy.specs.declared.trust.TrustEvent.{TrustEvent}
use Rattle.cs_policy.specs.declared.entry.Event.TheVariants as event
use Rattle.cs_policy.specs.declared.entry.Reply.TheVariants as reply
use Rattle.cs_policy.specs.declared.entry.Place.{Place}
use Rattle.cs_policy.specs.declared.entry.Place.TheVariants as place
use Rattle.cs_policy.specs.Entry.{part_number}
use Rattle.pg_object.specs.Object.{ObjectNow}
use Rattle.pg_process.specs.ProcessStep.{PlainProcess, process_step}
use Rattle.pg_trusted.specs.TrustStep.{trust_step}
use Rattle.pg_history.specs.Machine.{Line}
use Rattle.pg_history.specs.ByParts.{is_at, entries_at}
use Rattle.pg_history.specs.Legal.{AgreesIn}
use Rattle.pg_history.proofs.ListFacts.{at_place, all-append}
use Rattle.pg_calls.specs.Room.{plus, Within, event_uses, used_by, given_to, IsPlaceIn}
use Rattle.pg_calls.specs.Asking.{IsProperOf}
use Rattle.pg_calls.proofs.RoomFacts.{used_by-append, used_by-cons, used_one, number-same}
use Rattle.pg_parts.specs.Rooms.{part_needs, uses_in}
use Rattle.pg_parts.specs.Opened.{OpenedNow, numbers_in}
use Rattle.pg_parts.specs.Replays.{FileWent, ProcessWent, TrustWent}
use Rattle.pg_parts.proofs.ReplayFacts.{uses-snoc, process-goes, trust-goes}
use Rattle.pg_parts.proofs.RoomSums.{NeedsAre, uses-within, within-more, entries-within}
use Rattle.pg_machine.specs.Solo.{WentOn, IsRunning}
use Rattle.pg_machine.proofs.HistoryFacts.{entries-own, entries-other, stamped-more, agrees-more}

-- The line is the next one: a worker of the run has room for its event at a part of the machine.
pub record IsNext (start : OpenedNow) (history : List Line) (e : Line) : Type 0 where
  pub stamp : e.stamp ≡ length history
  pub agrees : AgreesIn (numbers_in start) e
  pub placed : IsPlaceIn (numbers_in start) e.entry.place
  pub worker : e.entry.who.worker < length start.needs
  pub room : Within (plus (used_by e.entry.who.worker e.entry.place history) (event_uses e.entry.event)) (given_to (numbers_in start) start.needs e.entry.who.worker e.entry.place)

module _ (hash : Hash) (start : OpenedNow) (history : List Line) (now : OpenedNow) (running : IsRunning hash start history now) (e : Line) (next : IsNext start history e) where
  abbrev longer : List Line
  longer = history ++ e ∷ []

  within_longer : (w : ℕ) (at : Place) → Within (used_by w at longer) (given_to (numbers_in start) start.needs w at)
  within_longer w at =
      subst (λ n. Within n (given_to (numbers_in start) start.needs w at))
      (sym (used_by-append w at history (e ∷ []) ∙ ap (λ n. plus (used_by w at history) n) (one w at)))
      (within-more (numbers_in start) start.needs history e running.within next.room w at)
    where
      one : (w : ℕ) (at : Place) → NeedsAre (used_by w at (e ∷ [])) (used_one w at e)
      one w at = used_by-cons w at e [] ∙ plus_nothing (used_one w at e)
        where
          plus_nothing : (n : Needs) → NeedsAre (plus n nothing_needed) n
          plus_nothing n = λ i. record {
            entries = plus_zero n.entries i;
            regions = plus_zero n.regions i;
            records = plus_zero n.records i;
            copies = plus_zero n.copies i;
            blobs = plus_zero n.blobs i;
            numbers = plus_zero n.numbers i;
          }
            where
              plus_zero : (k : ℕ) → k + 0 ≡ k
              plus_zero k = omega arith

  workers_longer : AllByRecursion (λ x. x.entry.who.worker < length start.needs) longer
  workers_longer = all-append (λ (x : Line). x.entry.who.worker < length start.needs) history (e ∷ []) running.workers (next.worker, tt)

  placed_longer : AllByRecursion (λ x. IsPlaceIn (numbers_in start) x.entry.place) longer
  placed_longer = all-append (λ (x : Line). IsPlaceIn (numbers_in start) x.entry.place) history (e ∷ []) running.placed (next.placed, tt)

  -- there is room for one entry more
  pub room-for-entry : length history < all_entries start.needs
  room-for-entry =
      let most = entries-within (numbers_in start) longer start.needs placed_longer (λ w at there. (within_longer w at).entries) in
      let long = length-append history (e ∷ []) in
      omega (arith, most, long)

  -- what the part's entries use with this one is no more than all workers may use of it
  pub uses-fit : Within (plus (uses_in (entries_at e.entry.place history)) (event_uses e.entry.event)) (part_needs start.needs (part_number (length (numbers_in start).files) (numbers_in start).processes e.entry.place))
  uses-fit =
      subst (λ n. Within n (part_needs start.needs (part_number (length (numbers_in start).files) (numbers_in start).processes e.entry.place)))
      (ap uses_in (entries-own e.entry.place history e (itself e.entry.place)) ∙ uses-snoc (entries_at e.entry.place history) e)
      (uses-within (numbers_in start) start.needs e.entry.place longer workers_longer (λ w. within_longer w e.entry.place))
    where
      itself : (at : Place) → is_at at at ≡ true
      itself (place.File a) = number-same a
      itself (place.Process a) = number-same a
      itself place.Trust = refl

  -- it stands where the parts have gone on
  pub runs-on : (after : OpenedNow) → WentOn hash start longer after → IsRunning hash start longer after
  runs-on after went = record {
    openable = running.openable;
    went = went;
    stamps = stamped-more history e running.stamps next.stamp;
    agrees = agrees-more (numbers_in start) history e running.agrees next.agrees;
    placed = placed_longer;
    workers = workers_longer;
    within = within_longer;
  }

  -- ---- a part was asked

  own : (at : Place) → e.entry.place ≡ at → is_at at at ≡ true → entries_at at longer ≡ entries_at at history ++ e ∷ []
  own at here itself = entries-own at history e (ap (is_at at) here ∙ itself)

  apart : (at other : Place) → e.entry.place ≡ other → is_at at other ≡ false → entries_at at longer ≡ entries_at at history
  apart at other here is = entries-other at history e (ap (is_at at) here ∙ is)

  abbrev FileAt : ℕ → ObjectNow → List Line → ObjectNow → Type 0
  FileAt number old es new = FileWent hash old (entries_at (place.File number) es) new

  abbrev ProcessAt : ℕ → PlainProcess → List Line → PlainProcess → Type 0
  ProcessAt pid old es new = ProcessWent (length (numbers_in start).files) old (entries_at (place.Process pid) es) new

  pub file-asked : (number : ℕ) (old object new : ObjectNow) → e.entry.place ≡ place.File number → slice_get start.files number ≡ Some old → slice_get now.files number ≡ Some object
      → FileWent hash old (entries_at (place.File number) history ++ e ∷ []) new
      → WentOn hash start longer (record now { files = slice_set now.files number new })
  file-asked number old object new here stood there goes = record {
    page_size = running.went.page_size;
    adhoc = running.went.adhoc;
    needs = running.went.needs;
    files_count = length-set now.files number new ∙ running.went.files_count;
    processes_count = running.went.processes_count;
    files = λ k one other opened found. elim (at_place now.files number k new object other there found) [
      | inl same ↦
          subst (λ n. FileWent hash one (entries_at (place.File n) longer) other) (sym same.0)
          (subst (λ (o : ObjectNow). FileWent hash one (entries_at (place.File number) longer) o) (sym same.1)
          (subst (λ (o : ObjectNow). FileWent hash o (entries_at (place.File number) longer) new) (some_same old one (sym stood ∙ ap (slice_get start.files) (sym same.0) ∙ opened))
          (subst (λ es. FileWent hash old es new) (sym (own (place.File number) here (number-same number))) goes)))
      | inr apart_from ↦
          subst (λ es. FileWent hash one es other) (sym (apart (place.File k) (place.File number) here apart_from.0)) (running.went.files k one other opened apart_from.1)
    ];
    processes = λ pid one other opened found.
        subst (λ es. ProcessWent (length (numbers_in start).files) one es other) (sym (apart (place.Process pid) (place.File number) here refl)) (running.went.processes pid one other opened found);
    trust = subst (λ es. TrustWent start.trust es now.trust) (sym (apart place.Trust (place.File number) here refl)) running.went.trust;
  }
    where
      some_same : (a b : ObjectNow) → Some a ≡ Some b → a ≡ b
      some_same a b is = grind (arith, common_steps, is)

  pub process-asked : (pid : ℕ) (old p : PlainProcess) (asked : ProcEvent) → e.entry.place ≡ place.Process pid → slice_get start.processes pid ≡ Some old → slice_get now.processes pid ≡ Some p
      → IsProperOf (numbers_in start) asked → e.entry.event ≡ event.Proc asked → e.entry.reply ≡ reply.Proc (process_step p asked).0
      → WentOn hash start longer (record now { processes = slice_set now.processes pid (process_step p asked).1 })
  process-asked pid old p asked here stood there proper is replied = record {
    page_size = running.went.page_size;
    adhoc = running.went.adhoc;
    needs = running.went.needs;
    files_count = running.went.files_count;
    processes_count = length-set now.processes pid (process_step p asked).1 ∙ running.went.processes_count;
    files = λ k one other opened found.
        subst (λ es. FileWent hash one es other) (sym (apart (place.File k) (place.Process pid) here refl)) (running.went.files k one other opened found);
    processes = λ k one other opened found. elim (at_place now.processes pid k (process_step p asked).1 p other there found) [
      | inl same ↦
          subst (λ n. ProcessWent (length (numbers_in start).files) one (entries_at (place.Process n) longer) other) (sym same.0)
          (subst (λ (q : PlainProcess). ProcessWent (length (numbers_in start).files) one (entries_at (place.Process pid) longer) q) (sym same.1)
          (subst (λ (q : PlainProcess). ProcessWent (length (numbers_in start).files) q (entries_at (place.Process pid) longer) (process_step p asked).1) (some_same old one (sym stood ∙ ap (slice_get start.processes) (sym same.0) ∙ opened))
          (subst (λ es. ProcessWent (length (numbers_in start).files) old es (process_step p asked).1) (sym (own (place.Process pid) here (number-same pid)))
          (process-goes (numbers_in start) old p (entries_at (place.Process pid) history) e asked (running.went.processes pid old p stood there) proper is replied))))
      | inr apart_from ↦
          subst (λ es. ProcessWent (length (numbers_in start).files) one es other) (sym (apart (place.Process k) (place.Process pid) here apart_from.0)) (running.went.processes k one other opened apart_from.1)
    ];
    trust = subst (λ es. TrustWent start.trust es now.trust) (sym (apart place.Trust (place.Process pid) here refl)) running.went.trust;
  }
    where
      some_same : (a b : PlainProcess) → Some a ≡ Some b → a ≡ b
      some_same a b is = grind (arith, common_steps, is)

  pub trust-asked : (asked : TrustEvent) → e.entry.place ≡ place.Trust → e.entry.event ≡ event.Trust asked → e.entry.reply ≡ reply.Trust (trust_step now.trust asked).0
      → WentOn hash start longer (record now { trust = (trust_step now.trust asked).1 })
  trust-asked asked here is replied = record {
    page_size = running.went.page_size;
    adhoc = running.went.adhoc;
    needs = running.went.needs;
    files_count = running.went.files_count;
    processes_count = running.went.processes_count;
    files = λ k one other opened found.
        subst (λ es. FileWent hash one es other) (sym (apart (place.File k) place.Trust here refl)) (running.went.files k one other opened found);
    processes = λ k one other opened found.
        subst (λ es. ProcessWent (length (numbers_in start).files) one es other) (sym (apart (place.Process k) place.Trust here refl)) (running.went.processes k one other opened found);
    trust = subst (λ es. TrustWent start.trust es (trust_step now.trust asked).1) (sym (own place.Trust here refl)) (trust-goes start.trust now.trust (entries_at place.Trust history) e asked running.went.trust is replied);
  }
