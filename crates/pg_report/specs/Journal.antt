-- The text of a history: a line for each event, and four lines that sum it up.
use Rattle.std.specs.Prelude.{ℕ, Bool, true, false, List, ◌∷◌, ◌++◌, length, count_by, codes}
use Rattle.std.specs.List.{flat_map}
use Rattle.std.specs.Fmt.{decimal}
use Rattle.cs_policy.specs.declared.file.FileReply.TheVariants as file
use Rattle.cs_policy.specs.declared.entry.Reply.{Reply}
use Rattle.cs_policy.specs.declared.entry.Reply.TheVariants as reply
use Rattle.cs_policy.specs.declared.entry.Entry.{Entry}
use Rattle.pg_book.specs.declared.receipt.Stamped.{Stamped}
use Rattle.pg_words.specs.Lines.{line_text}
use Rattle.pg_report.specs.Forms.{who_text, place_text}
use Rattle.pg_report.specs.Events.{event_words}
use Rattle.pg_report.specs.Replies.{reply_words, read_count}

-- the words of an event's line: its stamp, who made it, where, the event, and the reply
abbrev pub entry_words : ℕ → ℕ → Entry → List (List ℕ)
entry_words stamp read entry =
    decimal stamp ∷ who_text entry.who ∷ place_text entry.place
    ∷ (event_words entry.event ++ (codes "->" ∷ reply_words read entry.reply))

-- the line
unfoldable pub entry_text : ℕ → ℕ → Entry → List ℕ
entry_text stamp read entry = line_text (entry_words stamp read entry) ++ codes "\n"

abbrev pub stamped_text : Stamped Entry → List ℕ
stamped_text s = entry_text s.stamp (read_count s.entry.reply) s.entry

-- an access was given, or denied
abbrev pub is_given : Reply → Bool
is_given (reply.File (file.Given victim violation)) = true
is_given (reply.File other) = false
is_given (reply.Proc r) = false
is_given (reply.Trust r) = false

abbrev pub is_denied : Reply → Bool
is_denied (reply.File (file.Denied denial)) = true
is_denied (reply.File other) = false
is_denied (reply.Proc r) = false
is_denied (reply.Trust r) = false

-- the lines that sum up so many events and calls, and so many accesses that were given and denied
abbrev pub summary_text : ℕ → ℕ → ℕ → ℕ → List ℕ
summary_text events calls given denied =
    codes "events " ++ (decimal events ++ (codes "\ncalls " ++ (decimal calls
    ++ (codes "\ngiven " ++ (decimal given ++ (codes "\ndenied " ++ (decimal denied ++ codes "\n")))))))

-- the summary of a history of so many calls
unfoldable pub summary : List (Stamped Entry) → ℕ → List ℕ
summary history calls =
    summary_text (length history) calls (count_by (λ s. is_given s.entry.reply) history) (count_by (λ s. is_denied s.entry.reply) history)

-- its journal
unfoldable pub journal : List (Stamped Entry) → ℕ → List ℕ
journal history calls = flat_map stamped_text history ++ summary history calls
