-- What the words of events say: the keyword tells the row of the table.
use Rattle.std.specs.Prelude.{ℕ, List, [], ◌∷◌, Option, None, option_map, option_and_then}
use Rattle.cs_policy.specs.declared.file.FileEvent.{FileEvent}
use Rattle.cs_policy.specs.declared.process.ProcEvent.{ProcEvent}
use Rattle.cs_policy.specs.declared.process.ProcEvent.TheVariants as proc
use Rattle.cs_policy.specs.declared.trust.TrustEvent.{TrustEvent}
use Rattle.cs_policy.specs.declared.entry.Event.{Event}
use Rattle.cs_policy.specs.declared.entry.Event.TheVariants as event
use Rattle.cs_policy.specs.declared.entry.Place.{Place}
use Rattle.cs_policy.specs.declared.entry.Place.TheVariants as place
use Rattle.pg_report.specs.declared.words.FileWord.{FileWord}
use Rattle.pg_report.specs.declared.words.FileWord.TheVariants as file_key
use Rattle.pg_report.specs.declared.words.ProcWord.{ProcWord}
use Rattle.pg_report.specs.declared.words.ProcWord.TheVariants as proc_key
use Rattle.pg_report.specs.declared.words.TrustWord.{TrustWord}
use Rattle.pg_report.specs.declared.words.TrustWord.TheVariants as trust_key
use Rattle.pg_report.specs.Words.{file_word, proc_word, trust_word}
use Rattle.pg_report.specs.EventTable as row

-- what the words behind a keyword say
abbrev pub file_event_row : FileWord → List (List ℕ) → Option FileEvent
file_event_row file_key.ReadSignature words = row.read_signature.says words
file_event_row file_key.AddBlob words = row.add_blob.says words
file_event_row file_key.RefuseBlob words = row.refuse_blob.says words
file_event_row file_key.Write words = row.write.says words
file_event_row file_key.AddRegion words = row.add_region.says words
file_event_row file_key.DropRegion words = row.drop_region.says words
file_event_row file_key.DropPid words = row.drop_pid.says words
file_event_row file_key.Enter words = row.enter.says words
file_event_row file_key.Store words = row.store.says words
file_event_row file_key.Load words = row.load.says words
file_event_row file_key.Fetch words = row.fetch.says words
file_event_row file_key.Evict words = row.evict.says words

abbrev pub proc_event_row : ProcWord → List (List ℕ) → Option ProcEvent
proc_event_row proc_key.Start words = (row.alone proc.Start).says words
proc_event_row proc_key.Insert words = row.insert.says words
proc_event_row proc_key.Resolve words = row.resolve.says words
proc_event_row proc_key.Remove words = row.remove.says words
proc_event_row proc_key.Debug words = (row.alone proc.Debug).says words
proc_event_row proc_key.Punish words = (row.alone proc.Punish).says words
proc_event_row proc_key.ClearValid words = (row.alone proc.ClearValid).says words
proc_event_row proc_key.Exit words = (row.alone proc.Exit).says words

abbrev pub trust_event_row : TrustWord → List (List ℕ) → Option TrustEvent
trust_event_row trust_key.LoadModule words = row.load_module.says words
trust_event_row trust_key.Lookup words = row.lookup.says words

-- what the words of an event say
unfoldable pub file_event_of : List (List ℕ) → Option FileEvent
file_event_of [] = None
file_event_of (word ∷ words) = option_and_then (λ key. file_event_row key words) (file_word word)

unfoldable pub proc_event_of : List (List ℕ) → Option ProcEvent
proc_event_of [] = None
proc_event_of (word ∷ words) = option_and_then (λ key. proc_event_row key words) (proc_word word)

unfoldable pub trust_event_of : List (List ℕ) → Option TrustEvent
trust_event_of [] = None
trust_event_of (word ∷ words) = option_and_then (λ key. trust_event_row key words) (trust_word word)

-- an event of the part
abbrev pub event_of : Place → List (List ℕ) → Option Event
event_of (place.File f) words = option_map (λ e. event.File e) (file_event_of words)
event_of (place.Process pid) words = option_map (λ e. event.Proc e) (proc_event_of words)
event_of place.Trust words = option_map (λ e. event.Trust e) (trust_event_of words)
