-- How a run goes and how it ends: its status, and the text that it writes.
use Rattle.std.specs.Prelude.{◌≡◌, ◌≢◌, ℕ, Bool, true, false, List, [], length, replicate, Option, Some, None, is_some, option_map, Result, Ok, Err}
use Rattle.std.specs.Io.KnownBytes.{append_known}
use Rattle.pg_bytes.specs.Counts.{Rose}
use Rattle.pg_bytes.specs.declared.status.Status.{Status}
use Rattle.pg_bytes.specs.declared.status.Status.TheVariants as status
use Rattle.pg_bytes.specs.declared.status.Which.TheVariants.{FileBytes}
use Rattle.pg_digest.specs.Kinds.{Hash}
use Rattle.pg_io.specs.Files.{Told, next_read, after_read}
use Rattle.pg_io.specs.Sink.{SentPart}
use Rattle.cs_sign.specs.declared.early.Early.{Early}
use Rattle.cs_sign.specs.declared.early.Early.TheVariants.{Usage, Unread, TooLarge, Refused}
use Rattle.cs_sign.specs.declared.early.Stop.{Stop}
use Rattle.cs_sign.specs.declared.early.Stop.TheVariants as stop
use Rattle.cs_sign.specs.declared.refusal.SignRefusal.{SignRefusal}
use Rattle.cs_sign.specs.Caches.{listed, trust_cache}
use Rattle.cs_sign.specs.Early.{most, status_of, early_line}
use Rattle.cs_sign.specs.Reading.{Found, and_then, read_of, cached, finds, IsCaused}
use Rattle.cs_sign.specs.Requests.{Request, page_of}
use Rattle.cs_sign.specs.Rules.{broken}
use Rattle.cs_sign.specs.Signed.{signed}
use Rattle.cs_sign.specs.Words.{Text, SignWords, sign_words, cache_paths}

-- a status, and the whole text that goes with it
pub record Ending : Type 0 where
  pub status : Status
  pub text : List ℕ

-- ---- the run of `sign`

-- what a file is to be signed with
abbrev pub request_of : SignWords → Option (List ℕ) → Request
request_of words given = record { ident = words.ident; entitlements = given; page = page_of words.page }

-- by the first rule that is broken
abbrev pub judged : Hash → List ℕ → Request → Option SignRefusal → Result (List ℕ) Early
judged hash bytes request None = Ok (signed hash bytes request)
judged hash bytes request (Some refusal) = Err (Refused refusal)

-- a file is signed
unfoldable pub signed_with : Hash → List ℕ → SignWords → Option (List ℕ) → Result (List ℕ) Early
signed_with hash bytes words given = judged hash bytes (request_of words given) (broken bytes (request_of words given))

-- with the entitlements, by what was found of their file, where the words name one
abbrev pub entitled : Hash → SignWords → List ℕ → Option Found → Result (List ℕ) Early
entitled hash words bytes None = signed_with hash bytes words None
entitled hash words bytes (Some found) =
    and_then (read_of 1 found) (λ given. signed_with hash bytes words (Some given))

-- by what was found of the file and of that of the entitlements
abbrev pub sign_run : Hash → SignWords → Found → Option Found → Result (List ℕ) Early
sign_run hash words found given = and_then (read_of 0 found) (λ bytes. entitled hash words bytes given)

-- what is found of the file of the entitlements, where this is told
abbrev pub given_told : Told → SignWords → Option Found
given_told told words = option_map (next_read (after_read told)) words.entitlements

-- ---- the run of `cache`

-- a trust cache of version 1 whose number is 0
abbrev pub cache_of : List (List ℕ) → List ℕ
cache_of hashes = trust_cache 1 (replicate 16 0) (listed hashes)

-- by what was found of each file
abbrev pub cache_run : Hash → List Found → Result (List ℕ) Early
cache_run hash found = and_then (cached hash 0 found []) (λ hashes. Ok (cache_of hashes))

-- ---- the run of any words

abbrev pub run_by : Hash → Told → Option SignWords → Option (List Text) → Result (List ℕ) Early
run_by hash told (Some words) paths = sign_run hash words (next_read told words.path) (given_told told words)
run_by hash told None (Some paths) = cache_run hash (finds told paths)
run_by hash told None None = Err Usage

abbrev pub run_of : Hash → List Text → Told → Result (List ℕ) Early
run_of hash words told = run_by hash told (sign_words words) (cache_paths words)

-- ---- the run over some bytes of the files, whatever they tell

-- The file that is signed, and that of the entitlements where the words name one, could not be read or have some bytes.
pub record SignsSome (hash : Hash) (words : SignWords) (goes : Result (List ℕ) Early) : Type 0 where
  pub found : Found
  pub given : Option Found
  pub named : is_some given ≡ is_some words.entitlements
  pub is : goes ≡ sign_run hash words found given

-- The same of each file of which a trust cache is built.
pub record CachesSome (hash : Hash) (many : ℕ) (goes : Result (List ℕ) Early) : Type 0 where
  pub found : List Found
  pub each : length found ≡ many
  pub is : goes ≡ cache_run hash found

abbrev pub RunsBySome : Hash → Option SignWords → Option (List Text) → Result (List ℕ) Early → Type 0
RunsBySome hash (Some words) paths goes = SignsSome hash words goes
RunsBySome hash None (Some paths) goes = CachesSome hash (length paths) goes
RunsBySome hash None None goes = goes ≡ Err Usage

abbrev pub RunsSome : Hash → List Text → Result (List ℕ) Early → Type 0
RunsSome hash words goes = RunsBySome hash (sign_words words) (cache_paths words) goes

-- ---- reads

-- how many files a run reads at most
abbrev pub reads_by : Option SignWords → Option (List Text) → ℕ
reads_by (Some words) paths = 2
reads_by None (Some paths) = length paths
reads_by None None = 0

abbrev pub most_reads : List Text → ℕ
most_reads words = reads_by (sign_words words) (cache_paths words)

-- ---- how it ends

-- early with its one line
abbrev pub early_end : Early → Ending
early_end early = record { status = status_of early; text = early_line early }

-- early, or with what it has made
abbrev pub end_of : Result (List ℕ) Early → Ending
end_of (Ok made) = record { status = status.Done; text = made }
end_of (Err early) = early_end early

abbrev pub ending_of : Hash → List Text → Told → Ending
ending_of hash words told = end_of (run_of hash words told)

-- The run has this status and this text. Where the sink faults, its text is cut short; where memory runs out,
-- nothing is written.
abbrev pub Ends : Ending → Status → Option (List ℕ) → Option (List ℕ) → Type 0
Ends ending status.NoMemory before now = now ≡ before
Ends ending status.SinkFault before now = SentPart before now ending.text
Ends ending other before now = (other ≡ ending.status) × (now ≡ append_known before ending.text)

-- The run goes so over some bytes of the files that the words name.
pub record IsEndingOfSome (hash : Hash) (words : List Text) (ending : Ending) : Type 0 where
  pub goes : Result (List ℕ) Early
  pub runs : RunsSome hash words goes
  pub is : ending ≡ end_of goes

-- The run has the status and the text of one over some bytes of these files.
pub record EndsSome (hash : Hash) (words : List Text) (ended : Status) (before now : Option (List ℕ)) : Type 0 where
  pub ending : Ending
  pub of_some : IsEndingOfSome hash words ending
  pub ends : Ends ending ended before now

-- Words that have none of the forms end the run by the usage line, and no others do. A fault of the sink or want of memory
-- may come in its place.
abbrev pub EndsByForm : Bool → Status → Option (List ℕ) → Option (List ℕ) → Type 0
EndsByForm false s before now = Ends (early_end Usage) s before now
EndsByForm true s before now = s ≢ status.Usage

-- ---- causes

-- what was made comes by words of a form, and so does each early end but that of other words; the count of the files' faults
-- rises where a file could not be read
abbrev pub IsMadeCaused : {T : Type 0} → Bool → Result T Stop → ℕ → ℕ → Type 0
IsMadeCaused form (Err (stop.Early Usage)) before now = (form ≡ false) × (now ≡ before)
IsMadeCaused form (Err stop.NoMemory) before now = now ≡ before
IsMadeCaused form other before now = (form ≡ true) × IsCaused other before now

-- what each status before the first write comes by, and its line; the others do not come
abbrev pub IsEndCaused : Bool → ℕ → ℕ → Status → List ℕ → Type 0
IsEndCaused form before now status.Done text = (form ≡ true) × (now ≡ before)
IsEndCaused form before now status.NotSealed text = (form ≡ true) × (now ≡ before)
IsEndCaused form before now status.Usage text = (form ≡ false) × (now ≡ before) × (text ≡ early_line Usage)
IsEndCaused form before now (status.FileFault item) text = (form ≡ true) × Rose before now × (text ≡ early_line (Unread item))
IsEndCaused form before now (status.Limit which number) text = (form ≡ true) × (now ≡ before) × (which ≡ FileBytes) × (number ≡ most) × (text ≡ early_line TooLarge)
IsEndCaused form before now other text = ⊥

-- where a run ends early by its words or files, its one line went out
abbrev pub Says : Status → Option (List ℕ) → Option (List ℕ) → Type 0
Says status.Usage before now = now ≡ append_known before (early_line Usage)
Says (status.FileFault item) before now = now ≡ append_known before (early_line (Unread item))
Says (status.Limit which number) before now = now ≡ append_known before (early_line TooLarge)
Says other before now = Unit {0}
