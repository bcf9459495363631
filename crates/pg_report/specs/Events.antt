-- How events are printed: the keyword of each, and the words of its row of the table.
use Rattle.std.specs.Prelude.{ℕ, List, [], ◌∷◌}
use Rattle.cs_policy.specs.declared.file.FileEvent.{FileEvent}
use Rattle.cs_policy.specs.declared.file.FileEvent.TheVariants as file
use Rattle.cs_policy.specs.declared.process.ProcEvent.{ProcEvent}
use Rattle.cs_policy.specs.declared.process.ProcEvent.TheVariants as proc
use Rattle.cs_policy.specs.declared.trust.TrustEvent.{TrustEvent}
use Rattle.cs_policy.specs.declared.trust.TrustEvent.TheVariants as trust
use Rattle.cs_policy.specs.declared.entry.Event.{Event}
use Rattle.cs_policy.specs.declared.entry.Event.TheVariants as event
use Rattle.pg_report.specs.declared.words.FileWord.TheVariants as file_key
use Rattle.pg_report.specs.declared.words.ProcWord.TheVariants as proc_key
use Rattle.pg_report.specs.declared.words.TrustWord.TheVariants as trust_key
use Rattle.pg_report.specs.Words.{file_keyword, proc_keyword, trust_keyword}
use Rattle.pg_report.specs.EventTable as row

-- events of files
abbrev pub file_event_words : FileEvent → List (List ℕ)
file_event_words (file.ReadSignature slice) = file_keyword file_key.ReadSignature ∷ row.read_signature.words slice
file_event_words (file.AddBlob slice cdhash read lookup) = file_keyword file_key.AddBlob ∷ row.add_blob.words (slice, cdhash, read, lookup)
file_event_words (file.RefuseBlob read refusal) = file_keyword file_key.RefuseBlob ∷ row.refuse_blob.words (read, refusal)
file_event_words (file.Write at piece) = file_keyword file_key.Write ∷ row.write.words (at, piece)
file_event_words (file.AddRegion region insert) =
    file_keyword file_key.AddRegion
    ∷ row.add_region.words (region.id, region.pid, region.first, region.pages, region.prot, region.shared, insert)
file_event_words (file.DropRegion id) = file_keyword file_key.DropRegion ∷ row.drop_region.words id
file_event_words (file.DropPid pid) = file_keyword file_key.DropPid ∷ row.drop_pid.words pid
file_event_words (file.Enter id page access flags resolve) = file_keyword file_key.Enter ∷ row.enter.words (id, page, access, flags, resolve)
file_event_words (file.Store id page at bytes resolve) = file_keyword file_key.Store ∷ row.store.words (id, page, at, bytes, resolve)
file_event_words (file.Load id page at count resolve) = file_keyword file_key.Load ∷ row.load.words (id, page, at, count, resolve)
file_event_words (file.Fetch id page at count resolve) = file_keyword file_key.Fetch ∷ row.fetch.words (id, page, at, count, resolve)
file_event_words (file.Evict page) = file_keyword file_key.Evict ∷ row.evict.words page

-- events of processes
abbrev pub proc_event_words : ProcEvent → List (List ℕ)
proc_event_words proc.Start = proc_keyword proc_key.Start ∷ (row.alone proc.Start).words tt
proc_event_words (proc.Insert at file file_pages first pages prot shared) =
    proc_keyword proc_key.Insert ∷ row.insert.words (at, file, first, pages, prot, shared)
proc_event_words (proc.Resolve addr access) = proc_keyword proc_key.Resolve ∷ row.resolve.words (addr, access)
proc_event_words (proc.Remove at) = proc_keyword proc_key.Remove ∷ row.remove.words at
proc_event_words proc.Debug = proc_keyword proc_key.Debug ∷ (row.alone proc.Debug).words tt
proc_event_words proc.Punish = proc_keyword proc_key.Punish ∷ (row.alone proc.Punish).words tt
proc_event_words proc.ClearValid = proc_keyword proc_key.ClearValid ∷ (row.alone proc.ClearValid).words tt
proc_event_words proc.Exit = proc_keyword proc_key.Exit ∷ (row.alone proc.Exit).words tt

-- events of the trust list
abbrev pub trust_event_words : TrustEvent → List (List ℕ)
trust_event_words (trust.LoadModule cache) = trust_keyword trust_key.LoadModule ∷ row.load_module.words cache
trust_event_words (trust.Lookup cdhash) = trust_keyword trust_key.Lookup ∷ row.lookup.words cdhash

abbrev pub event_words : Event → List (List ℕ)
event_words (event.File e) = file_event_words e
event_words (event.Proc e) = proc_event_words e
event_words (event.Trust e) = trust_event_words e
