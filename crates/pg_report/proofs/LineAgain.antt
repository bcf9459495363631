-- A line that fits says itself.
use Rattle.std.proofs.Common.{◌≡◌, ℕ, ◌+◌, ◌^◌, ◌<◌, List, [], ◌∷◌, ◌++◌, codes, length, Option, Some, Result, Ok, option_map, refl, ap, sym, ◌∙◌, subst}
use Rattle.std.specs.Option.{option_and_then}
use Rattle.std.proofs.lemmas.Bool.{eq-eqb}
use Rattle.cs_policy.specs.declared.entry.Event.{Event}
use Rattle.cs_policy.specs.declared.entry.Event.TheVariants as event
use Rattle.cs_policy.specs.declared.entry.Reply.{Reply}
use Rattle.cs_policy.specs.declared.entry.Reply.TheVariants as reply
use Rattle.pg_words.specs.Lines.{AreWords}
use Rattle.pg_words.proofs.PlainFacts.{decimal_is_word}
use Rattle.pg_report.specs.declared.line.Line.{Line}
use Rattle.pg_report.specs.declared.words.ReplyWord.{ReplyWord}
use Rattle.pg_report.specs.Events.{event_words}
use Rattle.pg_report.specs.Replies.{proc_reply_words, trust_reply_words, reply_words}
use Rattle.pg_report.specs.ReplyTable.{Told}
use Rattle.pg_report.specs.ReplyRows.{file_reply_row, proc_reply_row, trust_reply_row, reply_row, reply_of}
use Rattle.pg_report.specs.Reading.{with_word, at_arrow, line_said}
use Rattle.pg_report.specs.Fits.{ReplyFits, LineFits, LinesFit}
use Rattle.pg_report.proofs.AgainFacts.{SaysItself, AllSayThemselves}
use Rattle.pg_report.proofs.FormAgain.{long_again, who_again, place_again, who_is_word, place_is_word}
use Rattle.pg_report.proofs.RowAgain.{ArePlain}
use Rattle.pg_report.proofs.EventAgain.{event_again}
use Rattle.pg_report.proofs.AnswerAgain.{Answered, reply_key_again, trust_again}
use Rattle.pg_report.proofs.ProcAgain.{proc_again}
use Rattle.pg_report.proofs.FileAgain.{file_again}

arrow_again : (words rest : List (List ℕ)) → ArePlain words → at_arrow (words ++ (codes "->" ∷ rest)) ≡ Some (words, rest)
unfolding at_arrow
arrow_again [] rest plain = refl
arrow_again (w ∷ words) rest plain = rw (plain.0) (ap (option_map (with_word w)) (arrow_again words rest plain.1))

both_are : (a b : List (List ℕ)) → AreWords a → AreWords b → AreWords (a ++ b)
both_are [] b x y = y
both_are (w ∷ a) b x y = (x.0, both_are a b x.1 y)

-- a reply that is read behind its event
record Replied (e : Event) (words : List (List ℕ)) (r : Reply) (n : ℕ) : Type 0 where
  says : reply_of e words ≡ Some (r, n)
  are : AreWords words

replied : {X : Type 0} (e : Event) (row : ReplyWord → List (List ℕ) → Option X) (make : X → Reply × ℕ) (words : List (List ℕ)) (x : X) → ((k : ReplyWord) (ws : List (List ℕ)) → reply_row e k ws ≡ option_map make (row k ws)) → Answered row words x → Replied e words (make x).0 (make x).1
unfolding reply_of
replied e row make words x same a =
    let k = reply_key_again a.key in
    subst (λ (ws : List (List ℕ)). Replied e ws (make x).0 (make x).1) (sym a.is)
    (record { says = ap (option_and_then (λ key. reply_row e key a.rest)) k.0 ∙ same a.key a.rest ∙ ap (option_map make) a.reads.says; are = (k.1, a.reads.are) })

reply_again : (e : Event) (r : Reply) (n : ℕ) → ReplyFits e r n → Replied e (reply_words n r) r n
reply_again (event.File e) (reply.File r) n f = replied (event.File e) (file_reply_row e) (λ (told : Told). (reply.File told.0, told.1)) _ (r, n) (λ k ws. refl) (file_again e r n f)
reply_again (event.File e) (reply.Proc r) n f = elim f [ ]
reply_again (event.File e) (reply.Trust r) n f = elim f [ ]
reply_again (event.Proc e) (reply.Proc r) n f =
    subst (λ (m : ℕ). Replied (event.Proc e) (proc_reply_words r) (reply.Proc r) m) (sym f.1)
    (replied (event.Proc e) (proc_reply_row e) (λ r. (reply.Proc r, 0)) _ r (λ k ws. refl) (proc_again e r f.0))
reply_again (event.Proc e) (reply.File r) n f = elim f [ ]
reply_again (event.Proc e) (reply.Trust r) n f = elim f [ ]
reply_again (event.Trust e) (reply.Trust r) n f =
    subst (λ (m : ℕ). Replied (event.Trust e) (trust_reply_words r) (reply.Trust r) m) (sym f.1)
    (replied (event.Trust e) (trust_reply_row e) (λ r. (reply.Trust r, 0)) _ r (λ k ws. refl) (trust_again e r f.0))
reply_again (event.Trust e) (reply.File r) n f = elim f [ ]
reply_again (event.Trust e) (reply.Proc r) n f = elim f [ ]

line_again : (due : ℕ) (l : Line) → LineFits due l → SaysItself due l
unfolding line_said
line_again due l f =
    let e = event_again l.entry.place l.entry.event f.event in
    let r = reply_again l.entry.event l.entry.reply l.read f.reply in
    let lt : l.stamp < 2 ^ 64 = subst (λ (n : ℕ). n < 2 ^ 64) (sym f.stamp) f.few in
    record {
      words = (decimal_is_word l.stamp lt, (who_is_word l.entry.who f.worker f.call, (place_is_word l.entry.place f.place, both_are (event_words l.entry.event) _ e.are (refl, r.are))));
      says = rw (long_again l.stamp lt, who_again l.entry.who f.worker f.call, place_again l.entry.place f.place, arrow_again (event_words l.entry.event) (reply_words l.read l.entry.reply) e.plain, e.says, r.says, eq-eqb l.stamp due f.stamp) refl;
    }

pub all_again : (due : ℕ) (lines : List Line) → LinesFit due lines → AllSayThemselves due lines
all_again due [] f = tt
all_again due (l ∷ lines) f = (line_again due l f.0, all_again (due + 1) lines f.1)
