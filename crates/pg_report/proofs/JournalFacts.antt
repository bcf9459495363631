-- A text that is read as a journal is the text of its lines.
use Rattle.std.proofs.Common.{◌≡◌, ℕ, suc, ◌+◌, ◌^◌, ◌<◌, ◌==◌, cond, Bool, true, false, List, [], ◌∷◌, ◌++◌, length, codes, count_by, Option, Some, None, Result, Ok, Err, refl, ap, sym, subst, ◌∙◌, append_assoc, arith}
use Rattle.std.specs.Prelude.{bytes_eq}
use Rattle.std.specs.List.{flat_map, join_with_byte}
use Rattle.std.specs.Fmt.{decimal}
use Rattle.std.proofs.lemmas.Bool.{eqb-true}
use Rattle.std.proofs.lemmas.Option.{none-some}
use Rattle.std.proofs.lemmas.List.{append-nil}
use Rattle.std.proofs.lemmas.List.Concat.{flat_map-cons}
use Rattle.std.proofs.lemmas.Grind.{flat_map-append}
use Rattle.std.proofs.lemmas.List.Splits.{join_with_byte-slice_split}
use Rattle.cs_policy.specs.declared.entry.Entry.{Entry}
use Rattle.cs_policy.specs.declared.entry.Reply.{Reply}
use Rattle.pg_words.specs.Lines.{lines_of, words_of, line_text}
use Rattle.pg_words.proofs.LineFacts.{line_of_words}
use Rattle.pg_words.proofs.NameFacts.{chosen, is_word_text}
use Rattle.pg_words.proofs.HexFacts.{map_takes}
use Rattle.pg_report.specs.declared.line.Line.{Line}
use Rattle.pg_report.specs.Forms.{long, who_text, who_form, place_text, place_form}
use Rattle.pg_report.specs.EventRows.{event_of}
use Rattle.pg_report.specs.ReplyRows.{reply_of}
use Rattle.pg_report.specs.Journal.{entry_words, entry_text, is_given, is_denied, summary_text}
use Rattle.pg_report.specs.Reading.{Halves, is_arrow, with_word, at_arrow, made_line, line_said, line_of, counted, ended, is_wanted, taken, sum_line, is_end, last_sums, sums_of, sums, said_or, said_behind, said, ◌>>>◌}
use Rattle.pg_report.specs.Fits.{LineFits, LinesFit}
use Rattle.pg_report.specs.Grammar.{line_text_of, text_of, IsJournal}
use Rattle.pg_report.proofs.TookFacts.{bind_some, some_is, long_took, who_took, place_took}
use Rattle.pg_report.proofs.FormFits.{long_bound, who_fits, place_fits}
use Rattle.pg_report.proofs.EventFits.{event_fits}
use Rattle.pg_report.proofs.ReplyFits.{reply_fits}
use Rattle.pg_report.proofs.EventFacts.{event_is}
use Rattle.pg_report.proofs.ReplyFacts.{reply_is}

-- ---- one line

arrow_is : (words : List (List ℕ)) (halves : Halves) → at_arrow words ≡ Some halves → words ≡ halves.0 ++ (codes "->" ∷ halves.1)
unfolding at_arrow
arrow_is [] halves e = absurd cc
arrow_is (word ∷ words) halves e =
    chosen (is_arrow word) _ _ _ e
    (λ t e.
    let same : ([], words) ≡ halves = some_is ([], words) halves e in
    ap (λ (w : List ℕ). w ∷ words) (is_word_text word (codes "->") t) ∙ ap (λ (h : Halves). h.0 ++ (codes "->" ∷ h.1)) same)
    (λ e.
    let m = map_takes (with_word word) (at_arrow words) halves e in
    ap (λ (ws : List (List ℕ)). word ∷ ws) (arrow_is words m.0 m.1) ∙ ap (λ (h : Halves). h.0 ++ (codes "->" ∷ h.1)) m.2)

-- what a line that was read is
pub record IsLine (due : ℕ) (words : List (List ℕ)) (l : Line) : Type 0 where
  pub is : words ≡ entry_words l.stamp l.read l.entry
  pub fits : LineFits due l

made_is : (due stamp : ℕ) (entry : Entry) (read : ℕ) (l : Line) (words : List (List ℕ)) → words ≡ entry_words stamp read entry
    → (stamp ≡ due → LineFits due (record { stamp = stamp; entry = entry; read = read })) → made_line due stamp entry read ≡ Some l → IsLine due words l
made_is due stamp entry read l words is fits e = by (stamp == due) refl e
  where
    by : (t : Bool) → (stamp == due) ≡ t → cond t (Some (record { stamp = stamp; entry = entry; read = read })) None ≡ Some l → IsLine due words l
    by true t e = subst (λ (x : Line). IsLine due words x) (some_is (record { stamp = stamp; entry = entry; read = read }) l e) (record { is = is; fits = fits (eqb-true stamp due t) })
    by false t e = absurd cc

pub line_is : (due : ℕ) (words : List (List ℕ)) (l : Line) → line_said due words ≡ Some l → IsLine due words l
unfolding line_said
line_is due [] l e = absurd cc
line_is due (a ∷ []) l e = absurd cc
line_is due (a ∷ b ∷ []) l e = absurd cc
line_is due (a ∷ b ∷ c ∷ words) l e =
    let s = bind_some _ (long a) l e in
    let w = bind_some _ (who_form b) l s.2 in
    let p = bind_some _ (place_form c) l w.2 in
    let h = bind_some _ (at_arrow words) l p.2 in
    let v = bind_some _ (event_of p.0 h.0.0) l h.2 in
    let r = bind_some (λ (told : Reply × ℕ). made_line due s.0 (record { who = w.0; place = p.0; event = v.0; reply = told.0 }) told.1) (reply_of v.0 h.0.1) l v.2 in
    let entry : Entry = record { who = w.0; place = p.0; event = v.0; reply = r.0.0 } in
    let behind : words ≡ h.0.0 ++ (codes "->" ∷ h.0.1) = arrow_is words h.0 h.1 in
    let is : a ∷ b ∷ c ∷ words ≡ entry_words s.0 r.0.1 entry =
    (λ i. long_took.is a s.0 s.1 i ∷ who_took.is b w.0 w.1 i ∷ place_took.is c p.0 p.1 i ∷ behind i)
    ∙ (λ i. decimal s.0 ∷ who_text w.0 ∷ place_text p.0 ∷ (sym (event_is p.0 h.0.0 v.0 v.1) i ++ (codes "->" ∷ sym (reply_is v.0 h.0.1 r.0 r.1) i))) in
    let who = who_fits b w.0 w.1 in
    let fits : s.0 ≡ due → LineFits due (record { stamp = s.0; entry = entry; read = r.0.1 }) =
    λ same. record {
      stamp = same;
      few = subst (λ (n : ℕ). n < 2 ^ 64) same (long_bound.fits a s.0 s.1);
      worker = who.0;
      call = who.1;
      place = place_fits c p.0 p.1;
      event = event_fits p.0 h.0.0 v.0 v.1;
      reply = reply_fits v.0 h.0.1 r.0 r.1;
    } in
    made_is due s.0 entry r.0.1 l (a ∷ b ∷ c ∷ words) is fits r.2

pub text_is : (due : ℕ) (text : List ℕ) (l : Line) → line_of due text ≡ Some l → text ++ codes "\n" ≡ line_text_of l
unfolding entry_text
text_is due text l e = ap (λ (t : List ℕ). t ++ codes "\n") (sym (line_of_words text) ∙ ap line_text (line_is due (words_of text) l e).is)

-- ---- sums

pub guarded_ok : {A : Type 0} (t : Bool) (r : Result A ℕ) (line : ℕ) (x : A) → cond t r (Err line) ≡ Ok x → (t ≡ true) × (r ≡ Ok x)
guarded_ok true r line x e = (refl, e)
guarded_ok false r line x e = absurd cc

bind_ok : {A B : Type 0} (r : Result A ℕ) (f : A → Result B ℕ) (y : B) → (r >>> f) ≡ Ok y → (x : A) × (r ≡ Ok x) × (f x ≡ Ok y)
bind_ok (Ok x) f y e = (x, refl, e)
bind_ok (Err line) f y e = absurd cc

pub ok_is : {A : Type 0} (x y : A) → ◌≡◌ {A = Result A ℕ} (Ok x) (Ok y) → x ≡ y
ok_is x y e = cc

pub counted_is : (word : List ℕ) (words : List (List ℕ)) (n : ℕ) → counted word words ≡ Some n → words ≡ word ∷ decimal n ∷ []
counted_is word [] n e = absurd cc
counted_is word (a ∷ []) n e = absurd cc
counted_is word (a ∷ b ∷ []) n e =
    chosen (bytes_eq a word) _ _ _ e (λ t e. (λ i. is_word_text a word t i ∷ long_took.is b n e i ∷ [])) (λ e. absurd cc)
counted_is word (a ∷ b ∷ c ∷ words) n e = absurd cc

pub counted_fits : (word : List ℕ) (words : List (List ℕ)) (n : ℕ) → counted word words ≡ Some n → n < 2 ^ 64
counted_fits word [] n e = absurd cc
counted_fits word (a ∷ []) n e = absurd cc
counted_fits word (a ∷ b ∷ []) n e = chosen (bytes_eq a word) _ _ _ e (λ t e. long_bound.fits b n e) (λ e. absurd (none-some n e))
counted_fits word (a ∷ b ∷ c ∷ words) n e = absurd cc

-- a line that counts, and the lines behind it
pub record IsSum (word : List ℕ) (wanted : Option ℕ) (texts : List (List ℕ)) (n : ℕ) (rest : List (List ℕ)) : Type 0 where
  pub is : join_with_byte 10 texts ≡ word ++ 32 ∷ (decimal n ++ 10 ∷ join_with_byte 10 rest)
  pub wanted_is : is_wanted wanted n ≡ true
  pub bound : n < 2 ^ 64

joined : (text : List ℕ) (texts : List (List ℕ)) → ended texts ≡ true → join_with_byte 10 (text ∷ texts) ≡ text ++ 10 ∷ join_with_byte 10 texts
joined text [] more = absurd cc
joined text (next ∷ texts) more = refl

sum_is : (line : ℕ) (word : List ℕ) (wanted : Option ℕ) (texts : List (List ℕ)) (s : ℕ × List (List ℕ)) → sum_line line word wanted texts ≡ Ok s → IsSum word wanted texts s.0 s.1
unfolding sum_line
sum_is line word wanted [] s e = absurd cc
sum_is line word wanted (text ∷ texts) s e =
    let g = guarded_ok (ended texts) _ line s e in
    by (counted word (words_of text)) refl g.0 g.1
  where
    by : (o : Option ℕ) → counted word (words_of text) ≡ o → ended texts ≡ true → taken line wanted texts o ≡ Ok s → IsSum word wanted (text ∷ texts) s.0 s.1
    by None c more e = absurd cc
    by (Some n) c more e =
        let w = guarded_ok (is_wanted wanted n) (Ok (n, texts)) line s e in
        let here : text ≡ word ++ 32 ∷ decimal n = sym (line_of_words text) ∙ ap line_text (counted_is word (words_of text) n c) in
        let whole : join_with_byte 10 (text ∷ texts) ≡ word ++ 32 ∷ (decimal n ++ 10 ∷ join_with_byte 10 texts) =
        joined text texts more ∙ ap (λ (t : List ℕ). t ++ 10 ∷ join_with_byte 10 texts) here ∙ append_assoc word (32 ∷ decimal n) (10 ∷ join_with_byte 10 texts) in
        subst (λ (x : ℕ × List (List ℕ)). IsSum word wanted (text ∷ texts) x.0 x.1) (ok_is (n, texts) s w.1) (record { is = whole; wanted_is = w.0; bound = counted_fits word (words_of text) n c })

end_is : (texts : List (List ℕ)) → is_end texts ≡ true → join_with_byte 10 texts ≡ []
end_is [] e = absurd cc
end_is ([] ∷ []) e = refl
end_is ((c ∷ cs) ∷ []) e = absurd cc
end_is (text ∷ next ∷ texts) e = absurd (ended_twice text next texts e)
  where
    ended_twice : (text next : List ℕ) (texts : List (List ℕ)) → is_end (text ∷ next ∷ texts) ≡ true → ⊥
    ended_twice [] next texts e = absurd cc
    ended_twice (c ∷ cs) next texts e = absurd cc

-- the lines that sum up, and nothing behind them
record AreSums (events given denied : ℕ) (texts : List (List ℕ)) (calls : ℕ) : Type 0 where
  is : join_with_byte 10 texts ≡ summary_text events calls given denied
  few : events < 2 ^ 64
  counted : calls < 2 ^ 64

sums_are : (events given denied : ℕ) (texts : List (List ℕ)) (calls : ℕ) → sums_of events given denied texts ≡ Ok calls → AreSums events given denied texts calls
unfolding sums_of last_sums
sums_are events given denied texts calls e =
    let ev = bind_ok (sum_line (events + 1) (codes "events") (Some events) texts) _ calls e in
    let ca = bind_ok (sum_line (events + 2) (codes "calls") None ev.0.1) _ calls ev.2 in
    let la = bind_ok (last_sums events given denied ca.0.1) (λ _. Ok ca.0.0) calls ca.2 in
    let gi = bind_ok (sum_line (events + 3) (codes "given") (Some given) ca.0.1) _ la.0 la.1 in
    let de = bind_ok (sum_line (events + 4) (codes "denied") (Some denied) gi.0.1) (λ d. cond (is_end d.1) (Ok tt) (Err (events + 5))) la.0 gi.2 in
    let en = guarded_ok (is_end de.0.1) (Ok tt) (events + 5) la.0 de.2 in
    let s1 = sum_is (events + 1) (codes "events") (Some events) texts ev.0 ev.1 in
    let s2 = sum_is (events + 2) (codes "calls") None ev.0.1 ca.0 ca.1 in
    let s3 = sum_is (events + 3) (codes "given") (Some given) ca.0.1 gi.0 gi.1 in
    let s4 = sum_is (events + 4) (codes "denied") (Some denied) gi.0.1 de.0 de.1 in
    let n1 : ev.0.0 ≡ events = eqb-true ev.0.0 events s1.wanted_is in
    let n2 : ca.0.0 ≡ calls = ok_is ca.0.0 calls la.2 in
    let n3 : gi.0.0 ≡ given = eqb-true gi.0.0 given s3.wanted_is in
    let n4 : de.0.0 ≡ denied = eqb-true de.0.0 denied s4.wanted_is in
    let last : join_with_byte 10 de.0.1 ≡ [] = end_is de.0.1 en.0 in
    let is : join_with_byte 10 texts ≡ summary_text events calls given denied =
    s1.is ∙ (λ i. codes "events" ++ 32 ∷ (decimal (n1 i) ++ 10 ∷ s2.is i))
    ∙ (λ i. codes "events" ++ 32 ∷ (decimal events ++ 10 ∷ (codes "calls" ++ 32 ∷ (decimal (n2 i) ++ 10 ∷ s3.is i))))
    ∙ (λ i. codes "events" ++ 32 ∷ (decimal events ++ 10 ∷ (codes "calls" ++ 32 ∷ (decimal calls ++ 10 ∷ (codes "given" ++ 32 ∷ (decimal (n3 i) ++ 10 ∷ s4.is i))))))
    ∙ (λ i. codes "events" ++ 32 ∷ (decimal events ++ 10 ∷ (codes "calls" ++ 32 ∷ (decimal calls ++ 10 ∷ (codes "given" ++ 32 ∷ (decimal given ++ 10 ∷ (codes "denied" ++ 32 ∷ (decimal (n4 i) ++ 10 ∷ last i)))))))) in
    record { is = is; few = subst (λ (n : ℕ). n < 2 ^ 64) n1 s1.bound; counted = subst (λ (n : ℕ). n < 2 ^ 64) n2 s2.bound }

-- ---- a whole journal

pub fits_push : (due : ℕ) (above : List Line) (l : Line) → LinesFit due above → LineFits (due + length above) l → LinesFit due (above ++ l ∷ [])
fits_push due [] l all is = let same : due + 0 ≡ due = omega arith in (subst (λ (n : ℕ). LineFits n l) same is, tt)
fits_push due (x ∷ above) l all is =
    let same : due + suc (length above) ≡ (due + 1) + length above = omega arith in
    (all.0, fits_push (due + 1) above l all.1 (subst (λ (n : ℕ). LineFits n l) same is))

abbrev Said : Type 0
Said = List Line × ℕ

pub record Whole (above : List Line) (texts : List (List ℕ)) (s : Said) : Type 0 where
  pub printed : flat_map line_text_of above ++ join_with_byte 10 texts ≡ text_of s.0 s.1
  pub fit : LinesFit 0 s.0
  pub few : length s.0 < 2 ^ 64
  pub counted : s.1 < 2 ^ 64

sums_whole : (above : List Line) (texts : List (List ℕ)) (s : Said) → LinesFit 0 above → sums above texts ≡ Ok s → Whole above texts s
unfolding sums text_of
sums_whole above texts s stamped e =
    let b = bind_ok (sums_of (length above) (count_by (λ l. is_given l.entry.reply) above) (count_by (λ l. is_denied l.entry.reply) above) texts) (λ calls. Ok (above, calls)) s e in
    let a = sums_are _ _ _ texts b.0 b.1 in
    let printed = ap (λ (t : List ℕ). flat_map line_text_of above ++ t) a.is in
    subst (λ (x : Said). Whole above texts x) (ok_is (above, b.0) s b.2) (record { printed = printed; fit = stamped; few = a.few; counted = a.counted })

pushed : (above : List Line) (l : Line) → flat_map line_text_of (above ++ l ∷ []) ≡ flat_map line_text_of above ++ line_text_of l
pushed above l = flat_map-append line_text_of above (l ∷ []) ∙ ap (λ (t : List ℕ). flat_map line_text_of above ++ t) (flat_map-cons line_text_of l [] ∙ append-nil (line_text_of l))

whole_is : (texts : List (List ℕ)) (above : List Line) (s : Said) → LinesFit 0 above → said_behind above texts ≡ Ok s → Whole above texts s
unfolding said_behind
whole_is [] above s stamped e = absurd cc
whole_is (text ∷ texts) above s stamped e =
    let g = guarded_ok (ended texts) _ (length above + 1) s e in
    by (line_of (length above) text) refl g.0 g.1 (λ l stamped more. whole_is texts (above ++ l ∷ []) s stamped more)
  where
    by : (o : Option Line) → line_of (length above) text ≡ o → ended texts ≡ true → said_or (λ x. said_behind (above ++ x ∷ []) texts) (sums above (text ∷ texts)) o ≡ Ok s
        → ((l : Line) → LinesFit 0 (above ++ l ∷ []) → said_behind (above ++ l ∷ []) texts ≡ Ok s → Whole (above ++ l ∷ []) texts s) → Whole above (text ∷ texts) s
    by None says more e next = sums_whole above (text ∷ texts) s stamped e
    by (Some l) says more e next =
        let due = (line_is (length above) (words_of text) l says).fits in
        let w = next l (fits_push 0 above l stamped (subst (λ (n : ℕ). LineFits n l) (let same : length above ≡ 0 + length above = omega arith in same) due)) e in
        let here : join_with_byte 10 (text ∷ texts) ≡ line_text_of l ++ join_with_byte 10 texts =
        joined text texts more ∙ sym (append_assoc text (codes "\n") (join_with_byte 10 texts)) ∙ ap (λ (t : List ℕ). t ++ join_with_byte 10 texts) (text_is (length above) text l says) in
        let all : flat_map line_text_of above ++ join_with_byte 10 (text ∷ texts) ≡ flat_map line_text_of (above ++ l ∷ []) ++ join_with_byte 10 texts =
        ap (λ (t : List ℕ). flat_map line_text_of above ++ t) here ∙ sym (append_assoc (flat_map line_text_of above) (line_text_of l) (join_with_byte 10 texts))
        ∙ ap (λ (t : List ℕ). t ++ join_with_byte 10 texts) (sym (pushed above l)) in
        record { printed = all ∙ w.printed; fit = w.fit; few = w.few; counted = w.counted }

pub journal_is : (text : List ℕ) (s : Said) → said text ≡ Ok s → IsJournal text s.0 s.1
unfolding said lines_of
journal_is text s e =
    let w = whole_is (lines_of text) [] s tt e in
    record { printed = sym (join_with_byte-slice_split 10 text) ∙ w.printed; fit = w.fit; few = w.few; counted = w.counted }
