-- The line of an event, part by part.
use Rattle.std.proofs.Common.{◌≡◌, ℕ, List, [], ◌∷◌, ◌++◌, codes, ap, sym, ◌∙◌, append_assoc}
use Rattle.std.specs.Fmt.{decimal}
use Rattle.pg_words.specs.Lines.{spaced, line_text}
use Rattle.cs_policy.specs.declared.entry.Entry.{Entry}
use Rattle.pg_report.specs.Events.{event_words}
use Rattle.pg_report.specs.Replies.{reply_words}
use Rattle.pg_report.specs.Forms.{who_text, place_text}
use Rattle.pg_report.specs.Journal.{entry_words, entry_text}
use Rattle.pg_report.proofs.SpaceFacts.{spaced_behind, line_spaced}

pub entry_made : (old : List ℕ) (stamp read : ℕ) (entry : Entry)
    → ((((old ++ (decimal stamp ++ spaced (who_text entry.who ∷ place_text entry.place ∷ []))) ++ spaced (event_words entry.event)) ++ codes " ->") ++ spaced (reply_words read entry.reply)) ++ codes "\n"
    ≡ old ++ entry_text stamp read entry
unfolding entry_text
entry_made old stamp read entry =
    let seat = who_text entry.who ∷ place_text entry.place ∷ [] in
    let event = event_words entry.event in
    let reply = reply_words read entry.reply in
    let front = old ++ decimal stamp in
    let one : (old ++ (decimal stamp ++ spaced seat)) ++ spaced event ≡ front ++ spaced (seat ++ event) =
    ap (λ (t : List ℕ). t ++ spaced event) (sym (append_assoc old (decimal stamp) (spaced seat))) ∙ spaced_behind front seat event in
    let two : (front ++ spaced (seat ++ event)) ++ spaced (codes "->" ∷ []) ≡ front ++ spaced ((seat ++ event) ++ (codes "->" ∷ [])) = spaced_behind front (seat ++ event) (codes "->" ∷ []) in
    let three : (front ++ spaced ((seat ++ event) ++ (codes "->" ∷ []))) ++ spaced reply ≡ front ++ spaced (((seat ++ event) ++ (codes "->" ∷ [])) ++ reply) = spaced_behind front ((seat ++ event) ++ (codes "->" ∷ [])) reply in
    let words : ((seat ++ event) ++ (codes "->" ∷ [])) ++ reply ≡ seat ++ (event ++ (codes "->" ∷ reply)) =
    append_assoc (seat ++ event) (codes "->" ∷ []) reply ∙ append_assoc seat event (codes "->" ∷ reply) in
    ap (λ (t : List ℕ). t ++ codes "\n")
    (ap (λ (t : List ℕ). (t ++ codes " ->") ++ spaced reply) one ∙ ap (λ (t : List ℕ). t ++ spaced reply) two ∙ three
    ∙ ap (λ (w : List (List ℕ)). front ++ spaced w) words ∙ append_assoc old (decimal stamp) (spaced (seat ++ (event ++ (codes "->" ∷ reply))))
    ∙ ap (λ (t : List ℕ). old ++ t) (sym (line_spaced (decimal stamp) (seat ++ (event ++ (codes "->" ∷ reply))))))
    ∙ append_assoc old (line_text (entry_words stamp read entry)) (codes "\n")
