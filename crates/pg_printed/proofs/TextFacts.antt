-- The journal of a history is the text of the lines that tell of its entries.
use Rattle.std.proofs.Common.{◌≡◌, ℕ, ◌+◌, ◌^◌, ◌<◌, Bool, List, [], ◌∷◌, ◌++◌, length, count_by, cond, map, Result, Ok, refl, ap, sym, subst, ◌∙◌, arith}
use Rattle.std.specs.List.{flat_map}
use Rattle.std.proofs.lemmas.Grind.{common_steps}
use Rattle.std.proofs.lemmas.List.{length-map}
use Rattle.std.proofs.lemmas.List.Concat.{flat_map-cons}
use Rattle.std.proofs.lemmas.List.Sums.{sum_by-cons}
use Rattle.cs_policy.specs.declared.file.FileReply.{FileReply}
use Rattle.cs_policy.specs.declared.file.FileReply.TheVariants as file_reply
use Rattle.cs_policy.specs.declared.process.ProcEvent.{ProcEvent}
use Rattle.cs_policy.specs.declared.process.ProcEvent.TheVariants as proc
use Rattle.cs_policy.specs.declared.entry.Event.{Event}
use Rattle.cs_policy.specs.declared.entry.Event.TheVariants as event
use Rattle.cs_policy.specs.declared.entry.Reply.{Reply}
use Rattle.cs_policy.specs.declared.entry.Reply.TheVariants as reply
use Rattle.cs_policy.specs.declared.entry.Entry.{Entry}
use Rattle.pg_book.specs.declared.receipt.Stamped.{Stamped}
use Rattle.pg_report.specs.declared.line.Line.{Line}
use Rattle.pg_report.specs.Events.{proc_event_words, event_words}
use Rattle.pg_report.specs.Replies.{file_reply_words, reply_words, read_count}
use Rattle.pg_report.specs.Journal.{entry_text, stamped_text, is_given, is_denied, summary, journal}
use Rattle.pg_report.specs.Reading.{said}
use Rattle.pg_report.specs.Grammar.{line_text_of, text_of}
use Rattle.pg_report.proofs.AgainFacts.{said_again}
use Rattle.pg_report.proofs.LineAgain.{all_again}
use Rattle.pg_printed.specs.Printed.{proc_event_told, event_told, file_reply_told, reply_told, line_told, IsHeld}

-- ---- one entry

proc_words : (e : ProcEvent) → proc_event_words (proc_event_told e) ≡ proc_event_words e
proc_words proc.Start = refl
proc_words (proc.Insert at file file_pages first pages prot shared) = refl
proc_words (proc.Resolve addr access) = refl
proc_words (proc.Remove at) = refl
proc_words proc.Debug = refl
proc_words proc.Punish = refl
proc_words proc.ClearValid = refl
proc_words proc.Exit = refl

words_told : (e : Event) → event_words (event_told e) ≡ event_words e
words_told (event.File e) = refl
words_told (event.Proc e) = proc_words e
words_told (event.Trust e) = refl

file_reply_same : (read : ℕ) (r : FileReply) → file_reply_words read (file_reply_told r) ≡ file_reply_words read r
file_reply_same read (file_reply.NoSlices refusal) = refl
file_reply_same read (file_reply.NoSlice count) = refl
file_reply_same read (file_reply.NoImage refusal) = refl
file_reply_same read (file_reply.PagerFault page) = refl
file_reply_same read (file_reply.Read bytes) = refl
file_reply_same read (file_reply.Already blob) = refl
file_reply_same read (file_reply.Overlap blob) = refl
file_reply_same read (file_reply.Attached blob) = refl
file_reply_same read file_reply.Noted = refl
file_reply_same read (file_reply.PastEnd length) = refl
file_reply_same read (file_reply.Short written) = refl
file_reply_same read (file_reply.Written count) = refl
file_reply_same read file_reply.Added = refl
file_reply_same read (file_reply.NoRegion id) = refl
file_reply_same read file_reply.Dropped = refl
file_reply_same read (file_reply.DroppedAll count) = refl
file_reply_same read (file_reply.Denied denial) = refl
file_reply_same read (file_reply.Given victim violation) = refl
file_reply_same read file_reply.NotMapped = refl
file_reply_same read file_reply.Stored = refl
file_reply_same read (file_reply.Got bytes) = refl
file_reply_same read file_reply.NotResident = refl
file_reply_same read file_reply.Evicted = refl

reply_same : (read : ℕ) (r : Reply) → reply_words read (reply_told r) ≡ reply_words read r
reply_same read (reply.File r) = file_reply_same read r
reply_same read (reply.Proc r) = refl
reply_same read (reply.Trust r) = refl

file_given : (r : FileReply) → is_given (reply.File (file_reply_told r)) ≡ is_given (reply.File r)
file_given (file_reply.NoSlices refusal) = refl
file_given (file_reply.NoSlice count) = refl
file_given (file_reply.NoImage refusal) = refl
file_given (file_reply.PagerFault page) = refl
file_given (file_reply.Read bytes) = refl
file_given (file_reply.Already blob) = refl
file_given (file_reply.Overlap blob) = refl
file_given (file_reply.Attached blob) = refl
file_given file_reply.Noted = refl
file_given (file_reply.PastEnd length) = refl
file_given (file_reply.Short written) = refl
file_given (file_reply.Written count) = refl
file_given file_reply.Added = refl
file_given (file_reply.NoRegion id) = refl
file_given file_reply.Dropped = refl
file_given (file_reply.DroppedAll count) = refl
file_given (file_reply.Denied denial) = refl
file_given (file_reply.Given victim violation) = refl
file_given file_reply.NotMapped = refl
file_given file_reply.Stored = refl
file_given (file_reply.Got bytes) = refl
file_given file_reply.NotResident = refl
file_given file_reply.Evicted = refl

file_denied : (r : FileReply) → is_denied (reply.File (file_reply_told r)) ≡ is_denied (reply.File r)
file_denied (file_reply.NoSlices refusal) = refl
file_denied (file_reply.NoSlice count) = refl
file_denied (file_reply.NoImage refusal) = refl
file_denied (file_reply.PagerFault page) = refl
file_denied (file_reply.Read bytes) = refl
file_denied (file_reply.Already blob) = refl
file_denied (file_reply.Overlap blob) = refl
file_denied (file_reply.Attached blob) = refl
file_denied file_reply.Noted = refl
file_denied (file_reply.PastEnd length) = refl
file_denied (file_reply.Short written) = refl
file_denied (file_reply.Written count) = refl
file_denied file_reply.Added = refl
file_denied (file_reply.NoRegion id) = refl
file_denied file_reply.Dropped = refl
file_denied (file_reply.DroppedAll count) = refl
file_denied (file_reply.Denied denial) = refl
file_denied (file_reply.Given victim violation) = refl
file_denied file_reply.NotMapped = refl
file_denied file_reply.Stored = refl
file_denied (file_reply.Got bytes) = refl
file_denied file_reply.NotResident = refl
file_denied file_reply.Evicted = refl

given_same : (r : Reply) → is_given (reply_told r) ≡ is_given r
given_same (reply.File r) = file_given r
given_same (reply.Proc r) = refl
given_same (reply.Trust r) = refl

denied_same : (r : Reply) → is_denied (reply_told r) ≡ is_denied r
denied_same (reply.File r) = file_denied r
denied_same (reply.Proc r) = refl
denied_same (reply.Trust r) = refl

text_told : (e : Stamped Entry) → line_text_of (line_told e) ≡ stamped_text e
unfolding entry_text
text_told e = rw (words_told e.entry.event, reply_same (read_count e.entry.reply) e.entry.reply) refl

-- ---- all of them

all_told : (history : List (Stamped Entry)) → flat_map line_text_of (map line_told history) ≡ flat_map stamped_text history
all_told [] = refl
all_told (e ∷ es) =
    flat_map-cons line_text_of (line_told e) (map line_told es)
    ∙ ap (λ (t : List ℕ). t ++ flat_map line_text_of (map line_told es)) (text_told e)
    ∙ ap (λ (t : List ℕ). stamped_text e ++ t) (all_told es)
    ∙ sym (flat_map-cons stamped_text e es)

count_told : (test : Reply → Bool) → ((r : Reply) → test (reply_told r) ≡ test r) → (history : List (Stamped Entry))
    → count_by (λ (l : Line). test l.entry.reply) (map line_told history) ≡ count_by (λ (e : Stamped Entry). test e.entry.reply) history
count_told test same [] = refl
count_told test same (e ∷ es) =
    sum_by-cons (λ (l : Line). cond (test l.entry.reply) 1 0) (line_told e) (map line_told es)
    ∙ ap (λ (t : Bool). cond t 1 0 + count_by (λ (l : Line). test l.entry.reply) (map line_told es)) (same e.entry.reply)
    ∙ ap (λ (n : ℕ). cond (test e.entry.reply) 1 0 + n) (count_told test same es)
    ∙ sym (sum_by-cons (λ (x : Stamped Entry). cond (test x.entry.reply) 1 0) e es)

length_told : (history : List (Stamped Entry)) → length (map line_told history) ≡ length history
length_told history = length-map history line_told

pub journal_told : (history : List (Stamped Entry)) (calls : ℕ) → journal history calls ≡ text_of (map line_told history) calls
unfolding journal summary text_of
journal_told history calls = sym (rw (all_told history, length_told history, count_told is_given given_same history, count_told is_denied denied_same history) refl)

-- what the journal says
pub journal_said : (history : List (Stamped Entry)) (calls : ℕ) → IsHeld history calls → said (journal history calls) ≡ Ok (map line_told history, calls)
journal_said history calls held =
    said_again (map line_told history) calls (journal history calls) (subst (λ (n : ℕ). n < 2 ^ 64) (sym (length_told history)) held.entries) held.counted
    (all_again 0 (map line_told history) held.lines) (journal_told history calls)

-- equal journals say the same lines
pub same_lines : (one other : List (Stamped Entry)) (calls more : ℕ) → IsHeld one calls → IsHeld other more → journal one calls ≡ journal other more
    → (map line_told one ≡ map line_told other) × (calls ≡ more)
same_lines one other calls more a b same = inside (sym (journal_said one calls a) ∙ ap said same ∙ journal_said other more b)
  where
    inside : {xs ys : List Line} {c d : ℕ} → ◌≡◌ {A = Result (List Line × ℕ) ℕ} (Ok (xs, c)) (Ok (ys, d)) → (xs ≡ ys) × (c ≡ d)
    inside e = (grind (arith, common_steps, e), grind (arith, common_steps, e))
