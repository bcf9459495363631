-- An event at another part leaves what is known of a file.
use Rattle.std.proofs.Common.{◌≡◌, ◌<◌, ◌+◌, ◌/◌, ℕ, List, [], ◌∷◌, ◌++◌, length, Some, refl, sym, subst, ◌∙◌, arith, inl, inr, length-append}
use Rattle.std.specs.Prelude.{slice_get}
use Rattle.std.specs.List.{AllByRecursion}
use Rattle.pg_digest.specs.Kinds.{Hash}
use Rattle.cs_policy.specs.declared.trust.TrustReply.{TrustReply}
use Rattle.cs_policy.specs.declared.entry.Place.TheVariants as place
use Rattle.pg_plain.specs.PlainFile.{Attached}
use Rattle.pg_process.specs.ProcessStep.{PlainProcess}
use Rattle.pg_process.proofs.GuardFacts.{IsUnguarded}
use Rattle.pg_history.specs.Machine.{Line, Reading, FilePart, Machine}
use Rattle.pg_history.specs.Opening.{Opening}
use Rattle.pg_history.specs.Content.{Told, told_at, told_over}
use Rattle.pg_history.specs.Links.{IsNamed, NamesLookup}
use Rattle.pg_history.specs.Sealing.{Admitted}
use Rattle.pg_history.proofs.ListFacts.{get-front, get-last, all-map}
use Rattle.pg_sealing.proofs.Holds.{untold, FileHolds}

-- one line more
abbrev pub with_line : List Line → Line → List Line
with_line history e = history ++ e ∷ []

pub told-append : (size number : ℕ) (xs ys : List Line) (told : Told) → told_over size number (xs ++ ys) told ≡ told_over size number ys (told_over size number xs told)
told-append size number [] ys told = refl
told-append size number (x ∷ xs) ys told = told-append size number xs ys (told_at size number x.entry.place x.entry.event x.entry.reply told)

named_later : (history : List Line) (last e : Line) (stamp : ℕ) (named : Line) → IsNamed history e stamp named → IsNamed (with_line history last) e stamp named
named_later history last e stamp named is = record { here = get-front history (last ∷ []) stamp named is.here; earlier = is.earlier; same_call = is.same_call }

lookup_later : (history : List Line) (last e : Line) (stamp : ℕ) (cdhash : List ℕ) (answer : TrustReply) → NamesLookup history e stamp cdhash answer → NamesLookup (with_line history last) e stamp cdhash answer
lookup_later history last e stamp cdhash answer is = record {
  lookup = is.lookup;
  named = named_later history last e stamp is.lookup is.named;
  place = is.place;
  event = is.event;
  reply = is.reply;
}

pub admitted_later : (o : Opening) (history : List Line) (last : Line) (number k : ℕ) (attached : Attached) → Admitted o history number k attached → Admitted o (with_line history last) number k attached
admitted_later o history last number k attached is = record {
  adding = is.adding;
  read = is.read;
  lookup = is.lookup;
  answer = is.answer;
  here = get-front history (last ∷ []) is.adding.stamp is.adding is.here;
  place = is.place;
  event = is.event;
  reply = is.reply;
  looked_up = lookup_later history last is.adding is.lookup attached.signature.cdhash is.answer is.looked_up;
  admitted = is.admitted;
}

pub longer : (history : List Line) (e : Line) → length (with_line history e) ≡ length history + 1
longer history e = length-append history (e ∷ [])

pub early_later : (history : List Line) (e : Line) (readings : List Reading) → AllByRecursion (λ reading. reading.stamp < length history) readings
    → AllByRecursion (λ reading. reading.stamp < length (with_line history e)) readings
early_later history e readings all =
    all-map (λ reading. reading.stamp < length history) (λ reading. reading.stamp < length (with_line history e)) (λ reading less. omega (arith, less, longer history e)) readings all

-- processes that were not guarded are not guarded later
abbrev pub StayUnguarded : Machine → Machine → Type 0
StayUnguarded m new = (k : ℕ) (p : PlainProcess) → slice_get new.processes k ≡ Some p → ((q : PlainProcess) → slice_get m.processes k ≡ Some q → IsUnguarded q) → IsUnguarded p

pub file_extends : (hash : Hash) (o : Opening) (history : List Line) (m new : Machine) (e : Line) (number : ℕ) (part : FilePart) → FileHolds hash o history m number part
    → (e.entry.place ≡ place.File number → ⊥) → ((told : Told) → told_at o.page_size number e.entry.place e.entry.event e.entry.reply told ≡ told)
    → StayUnguarded m new → FileHolds hash o (with_line history e) new number part
file_extends hash o history m new e number part holds apart untouched stay = record {
  keep = holds.keep;
  page_size = holds.page_size;
  ranges = holds.ranges;
  content = told-append o.page_size number history (e ∷ []) (untold o number) ∙ untouched (told_over o.page_size number history (untold o number)) ∙ holds.content;
  readings = λ k x slice bytes there at is gives. elim (get-last history e x k there) [
    | inl old ↦ holds.readings k x slice bytes old at is gives
    | inr last ↦ absurd (apart (subst (λ (y : Line). y.entry.place ≡ place.File number) (sym last.1) at))
  ];
  early = early_later history e part.readings holds.early;
  admitted = λ k attached there. admitted_later o history e number k attached (holds.admitted k attached there);
  owned = holds.owned;
  unguarded = λ id page given p there. stay (id / 4096) p there (λ q old. holds.unguarded id page given q old);
}
