-- The words with which events, replies and denials begin.
use Rattle.std.specs.Prelude.{ℕ, List, [], ◌∷◌, codes, Option}
use Rattle.pg_words.specs.Rows.{named}
use Rattle.pg_report.specs.declared.words.FileWord.{FileWord}
use Rattle.pg_report.specs.declared.words.FileWord.TheVariants as file
use Rattle.pg_report.specs.declared.words.ProcWord.{ProcWord}
use Rattle.pg_report.specs.declared.words.ProcWord.TheVariants as proc
use Rattle.pg_report.specs.declared.words.TrustWord.{TrustWord}
use Rattle.pg_report.specs.declared.words.TrustWord.TheVariants as trust
use Rattle.pg_report.specs.declared.words.ReplyWord.{ReplyWord}
use Rattle.pg_report.specs.declared.words.ReplyWord.TheVariants as reply
use Rattle.pg_report.specs.declared.words.DenialWord.{DenialWord}
use Rattle.pg_report.specs.declared.words.DenialWord.TheVariants as denial

-- a word with which an event of a file begins
abbrev pub file_keyword : FileWord → List ℕ
file_keyword file.ReadSignature = codes "readsig"
file_keyword file.AddBlob = codes "addblob"
file_keyword file.RefuseBlob = codes "refuse"
file_keyword file.Write = codes "write"
file_keyword file.AddRegion = codes "addregion"
file_keyword file.DropRegion = codes "dropregion"
file_keyword file.DropPid = codes "droppid"
file_keyword file.Enter = codes "enter"
file_keyword file.Store = codes "store"
file_keyword file.Load = codes "load"
file_keyword file.Fetch = codes "fetch"
file_keyword file.Evict = codes "evict"

abbrev pub file_words : List FileWord
file_words =
    file.ReadSignature ∷ file.AddBlob ∷ file.RefuseBlob ∷ file.Write ∷ file.AddRegion ∷ file.DropRegion ∷
    file.DropPid ∷ file.Enter ∷ file.Store ∷ file.Load ∷ file.Fetch ∷ file.Evict ∷ []

unfoldable pub file_word : List ℕ → Option FileWord
file_word word = named file_keyword file_words word

-- a word with which an event of a process begins
abbrev pub proc_keyword : ProcWord → List ℕ
proc_keyword proc.Start = codes "start"
proc_keyword proc.Insert = codes "insert"
proc_keyword proc.Resolve = codes "resolve"
proc_keyword proc.Remove = codes "remove"
proc_keyword proc.Debug = codes "debug"
proc_keyword proc.Punish = codes "punish"
proc_keyword proc.ClearValid = codes "clearvalid"
proc_keyword proc.Exit = codes "exit"

abbrev pub proc_words : List ProcWord
proc_words =
    proc.Start ∷ proc.Insert ∷ proc.Resolve ∷ proc.Remove ∷ proc.Debug ∷ proc.Punish ∷ proc.ClearValid ∷
    proc.Exit ∷ []

unfoldable pub proc_word : List ℕ → Option ProcWord
proc_word word = named proc_keyword proc_words word

-- a word with which an event of the trust list begins
abbrev pub trust_keyword : TrustWord → List ℕ
trust_keyword trust.LoadModule = codes "loadmodule"
trust_keyword trust.Lookup = codes "lookup"

abbrev pub trust_words : List TrustWord
trust_words =
    trust.LoadModule ∷ trust.Lookup ∷ []

unfoldable pub trust_word : List ℕ → Option TrustWord
trust_word word = named trust_keyword trust_words word

-- a word with which a reply begins
abbrev pub reply_keyword : ReplyWord → List ℕ
reply_keyword reply.NoSlices = codes "noslices"
reply_keyword reply.NoSlice = codes "noslice"
reply_keyword reply.NoImage = codes "noimage"
reply_keyword reply.PagerFault = codes "pagerfault"
reply_keyword reply.Read = codes "read"
reply_keyword reply.Already = codes "already"
reply_keyword reply.Overlap = codes "overlap"
reply_keyword reply.Attached = codes "attached"
reply_keyword reply.Noted = codes "noted"
reply_keyword reply.PastEnd = codes "pastend"
reply_keyword reply.Short = codes "short"
reply_keyword reply.Written = codes "written"
reply_keyword reply.Added = codes "added"
reply_keyword reply.NoRegion = codes "noregion"
reply_keyword reply.Dropped = codes "dropped"
reply_keyword reply.Denied = codes "denied"
reply_keyword reply.Given = codes "given"
reply_keyword reply.NotMapped = codes "notmapped"
reply_keyword reply.Stored = codes "stored"
reply_keyword reply.Bytes = codes "bytes"
reply_keyword reply.NotResident = codes "notresident"
reply_keyword reply.Evicted = codes "evicted"
reply_keyword reply.Dead = codes "dead"
reply_keyword reply.Killed = codes "killed"
reply_keyword reply.Started = codes "started"
reply_keyword reply.Began = codes "began"
reply_keyword reply.OutOfFile = codes "outoffile"
reply_keyword reply.Full = codes "full"
reply_keyword reply.Inserted = codes "inserted"
reply_keyword reply.NoMap = codes "nomap"
reply_keyword reply.Prot = codes "prot"
reply_keyword reply.Region = codes "region"
reply_keyword reply.Removed = codes "removed"
reply_keyword reply.Debugged = codes "debugged"
reply_keyword reply.Kill = codes "kill"
reply_keyword reply.Spare = codes "spare"
reply_keyword reply.Cleared = codes "cleared"
reply_keyword reply.Exited = codes "exited"
reply_keyword reply.Refused = codes "refused"
reply_keyword reply.Loaded = codes "loaded"
reply_keyword reply.Listed = codes "listed"
reply_keyword reply.Unlisted = codes "unlisted"

abbrev pub reply_words : List ReplyWord
reply_words =
    reply.NoSlices ∷ reply.NoSlice ∷ reply.NoImage ∷ reply.PagerFault ∷ reply.Read ∷ reply.Already ∷
    reply.Overlap ∷ reply.Attached ∷ reply.Noted ∷ reply.PastEnd ∷ reply.Short ∷ reply.Written ∷ reply.Added ∷
    reply.NoRegion ∷ reply.Dropped ∷ reply.Denied ∷ reply.Given ∷ reply.NotMapped ∷ reply.Stored ∷
    reply.Bytes ∷ reply.NotResident ∷ reply.Evicted ∷ reply.Dead ∷ reply.Killed ∷ reply.Started ∷ reply.Began ∷
    reply.OutOfFile ∷ reply.Full ∷ reply.Inserted ∷ reply.NoMap ∷ reply.Prot ∷ reply.Region ∷ reply.Removed ∷
    reply.Debugged ∷ reply.Kill ∷ reply.Spare ∷ reply.Cleared ∷ reply.Exited ∷ reply.Refused ∷ reply.Loaded ∷
    reply.Listed ∷ reply.Unlisted ∷ []

unfoldable pub reply_word : List ℕ → Option ReplyWord
reply_word word = named reply_keyword reply_words word

-- a word with which a denial begins
abbrev pub denial_keyword : DenialWord → List ℕ
denial_keyword denial.PrivateCopy = codes "privatecopy"
denial_keyword denial.Unsigned = codes "unsigned"
denial_keyword denial.BeyondLimit = codes "beyondlimit"
denial_keyword denial.WritableShared = codes "writableshared"
denial_keyword denial.Mismatch = codes "mismatch"
denial_keyword denial.SealedWrite = codes "sealedwrite"

abbrev pub denial_words : List DenialWord
denial_words =
    denial.PrivateCopy ∷ denial.Unsigned ∷ denial.BeyondLimit ∷ denial.WritableShared ∷ denial.Mismatch ∷
    denial.SealedWrite ∷ []

unfoldable pub denial_word : List ℕ → Option DenialWord
denial_word word = named denial_keyword denial_words word
