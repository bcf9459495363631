-- How the run of a file ends, by what was read of it.
use Rattle.std.proofs.Common.{◌≡◌, ℕ, ◌<◌, ◌≤◌, Bool, true, false, List, length, take, Option, Some, None, refl, ap, sym, ◌∙◌, arith, inl, inr}
use Rattle.std.specs.Prelude.{if◌then◌else◌, option_and_then}
use Rattle.std.specs.Io.KnownBytes.{append_known}
use Rattle.std.proofs.lemmas.Bool.{cases_lt, lt-ltb, le-ltb}
use Rattle.std.proofs.lemmas.List.{take_all, length-take}
use Rattle.pg_bytes.specs.declared.Status.{Status}
use Rattle.pg_bytes.specs.declared.Status.TheVariants as status
use Rattle.pg_io.specs.Files.{GivesFirst, Told, next_read}
use Rattle.macho_slices.specs.declared.refusal.FatRefusal.{FatRefusal}
use Rattle.macho_slices.specs.Rules as fat
use Rattle.macho_slices.specs.Refusals.{refusal_of}
use Rattle.cs_verify.specs.declared.report.SliceReport.{SliceReport}
use Rattle.pg_digest.specs.Kinds.{Hash}
use Rattle.cs_verify.specs.Report.{IsReport, report, all_match}
use Rattle.csverify.specs.Words.{path_of}
use Rattle.csverify.specs.Ending.{Ending, most, refused, reported, too_large, judged, verified, of_file, of_path, ending_of, file_of, Ends, IsSealed, IsNotSealed, IsVerdictOf, IsCaused}

-- a file that has a report
pub verified_report : (hash : Hash) (bytes : List ℕ) (found : List SliceReport) → IsReport hash bytes found → reported found ≡ verified hash bytes
unfolding verified
verified_report hash bytes found is = rw (is.says, is.unbroken) refl

-- a file that breaks the grammar of fat files
pub verified_refusal : (hash : Hash) (bytes : List ℕ) (refusal : FatRefusal) → fat.broken bytes ≡ Some refusal → refused (refusal_of refusal) ≡ verified hash bytes
unfolding verified
verified_refusal hash bytes refusal is = rw is refl

-- a file with more bytes than it may have
large : (hash : Hash) (bytes : List ℕ) → most < length bytes → of_file hash (Some bytes) ≡ too_large
large hash bytes lt = rw (lt-ltb most (length bytes) lt) refl

-- a file with no more
small : (hash : Hash) (bytes : List ℕ) → length bytes ≤ most → of_file hash (Some bytes) ≡ judged hash bytes (fat.broken bytes)
unfolding verified
small hash bytes le = rw (le-ltb most (length bytes) le) refl

-- its first bytes, one more than it may have, end the run as all of them would
first_bytes : (hash : Hash) (whole : List ℕ) → of_file hash (Some (take 67108865 whole)) ≡ of_file hash (Some whole)
first_bytes hash whole = elim (cases_lt most (length whole)) [
  | inl long ↦ large hash (take 67108865 whole) (omega (arith, length-take 67108865 whole)) ∙ sym (large hash whole long)
  | inr short ↦ ap (λ (xs : List ℕ). of_file hash (Some xs)) (take_all 67108865 whole (omega arith))
]

pub file_read : (hash : Hash) (found : Option (List ℕ)) (bytes : List ℕ) (e : Ending) → GivesFirst found 67108865 bytes → e ≡ of_file hash (Some bytes) → e ≡ of_file hash found
file_read hash found bytes e gives is =
    is ∙ ap (λ (xs : List ℕ). of_file hash (Some xs)) gives.given_first ∙ first_bytes hash gives.whole ∙ ap (of_file hash) (sym gives.found_whole)

-- either verdict comes by words that are not refused
verdict_caused : (b : Bool) (before now : ℕ) (text : List ℕ) → IsCaused false before now (if b then status.Done else status.NotSealed) text
verdict_caused true before now text = refl
verdict_caused false before now text = refl

judged_caused : (hash : Hash) (bytes : List ℕ) (rule : Option FatRefusal) (before now : ℕ) → IsCaused false before now (judged hash bytes rule).status (judged hash bytes rule).text
judged_caused hash bytes (Some refusal) before now = refl
judged_caused hash bytes None before now = verdict_caused (all_match (report hash bytes)) before now (reported (report hash bytes)).text

-- equal endings have the same cause
caused_as : (refused : Bool) (before now : ℕ) (e f : Ending) → e ≡ f → IsCaused refused before now f.status f.text → IsCaused refused before now e.status e.text
caused_as refused before now e f is cause = rw is cause

-- a file that was read ends the run by words that are not refused
pub read_caused : (hash : Hash) (bytes : List ℕ) (before now : ℕ) (e : Ending) → e ≡ of_file hash (Some bytes) → IsCaused false before now e.status e.text
read_caused hash bytes before now e is = elim (cases_lt most (length bytes)) [
  | inl long ↦ caused_as false before now e too_large (is ∙ large hash bytes long) (refl, refl, refl, refl)
  | inr short ↦ caused_as false before now e (judged hash bytes (fat.broken bytes)) (is ∙ small hash bytes short) (judged_caused hash bytes (fat.broken bytes) before now)
]

-- which of the two verdicts was chosen tells whether all matched
all_matched : (b : Bool) → status.Done ≡ (if b then status.Done else status.NotSealed) → b ≡ true
all_matched true is = refl
all_matched false is = absurd cc

not_matched : (b : Bool) → status.NotSealed ≡ (if b then status.Done else status.NotSealed) → b ≡ false
not_matched true is = absurd cc
not_matched false is = refl

-- a file within the limit that ends as sealed is sealed
judged_done : (hash : Hash) (bytes : List ℕ) (rule : Option FatRefusal) → length bytes ≤ most → fat.broken bytes ≡ rule → status.Done ≡ (judged hash bytes rule).status → IsSealed hash (Some bytes)
judged_done hash bytes (Some refusal) fits broken is = absurd cc
judged_done hash bytes None fits broken is = record {
  bytes = bytes;
  read = refl;
  within = fits;
  unbroken = broken;
  matching = all_matched (all_match (report hash bytes)) is;
}

-- and one that ends as not sealed is not
judged_not_sealed : (hash : Hash) (bytes : List ℕ) (rule : Option FatRefusal) → length bytes ≤ most → fat.broken bytes ≡ rule → status.NotSealed ≡ (judged hash bytes rule).status → IsNotSealed hash (Some bytes)
judged_not_sealed hash bytes (Some refusal) fits broken is = record {
  bytes = bytes;
  read = refl;
  within = fits;
  fault = inl (rw broken refl);
}
judged_not_sealed hash bytes None fits broken is = record {
  bytes = bytes;
  read = refl;
  within = fits;
  fault = inr (not_matched (all_match (report hash bytes)) is);
}

-- a file that was read ends by its bytes, unless it is too large
file_done : (hash : Hash) (found : Option (List ℕ)) → status.Done ≡ (of_file hash found).status → IsSealed hash found
unfolding verified
file_done hash None is = absurd cc
file_done hash (Some bytes) is = elim (cases_lt most (length bytes)) [
  | inl long ↦ let bad : status.Done ≡ too_large.status = is ∙ ap (λ (e : Ending). e.status) (large hash bytes long) in absurd cc
  | inr short ↦ judged_done hash bytes (fat.broken bytes) short refl (is ∙ ap (λ (e : Ending). e.status) (small hash bytes short))
]

file_not_sealed : (hash : Hash) (found : Option (List ℕ)) → status.NotSealed ≡ (of_file hash found).status → IsNotSealed hash found
unfolding verified
file_not_sealed hash None is = absurd cc
file_not_sealed hash (Some bytes) is = elim (cases_lt most (length bytes)) [
  | inl long ↦ let bad : status.NotSealed ≡ too_large.status = is ∙ ap (λ (e : Ending). e.status) (large hash bytes long) in absurd cc
  | inr short ↦ judged_not_sealed hash bytes (fat.broken bytes) short refl (is ∙ ap (λ (e : Ending). e.status) (small hash bytes short))
]

-- a run that ends as sealed read a sealed file
path_done : (hash : Hash) (told : Told) (path : Option (List ℕ)) → status.Done ≡ (of_path hash told path).status → IsSealed hash (option_and_then (next_read told) path)
path_done hash told None is = absurd cc
path_done hash told (Some path) is = file_done hash (next_read told path) is

-- and one that ends as not sealed read one that is not
path_not_sealed : (hash : Hash) (told : Told) (path : Option (List ℕ)) → status.NotSealed ≡ (of_path hash told path).status → IsNotSealed hash (option_and_then (next_read told) path)
path_not_sealed hash told None is = absurd cc
path_not_sealed hash told (Some path) is = file_not_sealed hash (next_read told path) is

-- a run that ends by what the files tell has the verdict of the file
pub ends_verdict : (hash : Hash) (words : List (List ℕ)) (told : Told) (s : Status) (before now : Option (List ℕ)) → Ends (ending_of hash words told) s before now → IsVerdictOf hash (file_of words told) s
ends_verdict hash words told status.Done before now ends = path_done hash told (path_of words) ends.0
ends_verdict hash words told status.NotSealed before now ends = path_not_sealed hash told (path_of words) ends.0
ends_verdict hash words told status.Usage before now ends = tt
ends_verdict hash words told (status.SceneBad line kind) before now ends = tt
ends_verdict hash words told (status.FileFault item) before now ends = tt
ends_verdict hash words told status.SinkFault before now ends = tt
ends_verdict hash words told (status.Limit which number) before now ends = tt
ends_verdict hash words told (status.TrustBad item number arg) before now ends = tt
ends_verdict hash words told status.NoMemory before now ends = tt

-- a status that comes before the first write, and the whole text that went out
ends_by : (refused : Bool) (old new : ℕ) (s : Status) (text : List ℕ) (f : Ending) (before now : Option (List ℕ)) → IsCaused refused old new s text → s ≡ f.status → now ≡ append_known before f.text → Ends f s before now
ends_by refused old new status.Done text f before now cause is sent = (is, sent)
ends_by refused old new status.NotSealed text f before now cause is sent = (is, sent)
ends_by refused old new status.Usage text f before now cause is sent = (is, sent)
ends_by refused old new (status.SceneBad line kind) text f before now cause is sent = absurd cause
ends_by refused old new (status.FileFault item) text f before now cause is sent = (is, sent)
ends_by refused old new status.SinkFault text f before now cause is sent = absurd cause
ends_by refused old new (status.Limit which number) text f before now cause is sent = (is, sent)
ends_by refused old new (status.TrustBad item number arg) text f before now cause is sent = absurd cause
ends_by refused old new status.NoMemory text f before now cause is sent = absurd cause

-- a run that wrote its whole text ends as its ending says
pub whole_ends : (refused : Bool) (old new : ℕ) (e f : Ending) (before now : Option (List ℕ)) → IsCaused refused old new e.status e.text → e ≡ f → now ≡ append_known before e.text → Ends f e.status before now
whole_ends refused old new e f before now cause same sent =
    ends_by refused old new e.status e.text f before now cause (ap (λ (x : Ending). x.status) same)
    (sent ∙ ap (λ (x : Ending). append_known before x.text) same)
