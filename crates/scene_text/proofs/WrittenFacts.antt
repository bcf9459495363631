-- A line that says something is how that is printed.
use Rattle.std.proofs.Common.{◌≡◌, ℕ, zero, suc, ◌+◌, ◌^◌, ◌==◌, ◌++◌, take, drop, map, append_assoc, subst, count_by, cond, not, eqb, Bool, true, false, List, [], ◌∷◌, length, codes, Option, Some, None, Result, Ok, Err, refl, ap, sym, ◌∙◌, arith}
use Rattle.std.specs.Prelude.{bytes_eq}
use Rattle.std.specs.List.{list_all, slice_get}
use Rattle.std.proofs.lemmas.List.{append-nil, map-append}
use Rattle.std.specs.Option.{option_and_then, option_or, option_map}
use Rattle.std.specs.Fmt.{decimal}
use Rattle.std.proofs.lemmas.Option.{option_and_then_some}
use Rattle.hex.specs.Hex.{encode_lower}
use Rattle.cs_policy.specs.declared.call.Call.{Call}
use Rattle.cs_policy.specs.declared.call.Call.TheVariants as call
use Rattle.pg_words.specs.Rows.{named, row1, row2, row3}
use Rattle.pg_words.specs.Lines.{words_of, line_text, is_text_byte}
use Rattle.pg_words.specs.Numbers.{address_text}
use Rattle.pg_words.specs.Digits.{bytes_word, hex_word}
use Rattle.pg_words.specs.Names.{name_word, file_text, process_text, cache_text, prot_word, prot_text, share_word, share_text, access_word, access_text}
use Rattle.pg_words.specs.Data.{data_word, data_text}
use Rattle.pg_words.proofs.HexFacts.{map_takes, hex_takes, bytes_takes}
use Rattle.pg_words.proofs.NumeralFacts.{number_takes, address_takes}
use Rattle.pg_words.proofs.NameFacts.{name_takes, prot_takes, share_takes, access_takes, chosen, is_word_text}
use Rattle.pg_words.proofs.PieceFacts.{data_takes}
use Rattle.pg_words.proofs.LineFacts.{line_of_words}
use Rattle.scene_text.specs.declared.head.Head.{Head}
use Rattle.scene_text.specs.declared.head.Head.TheVariants as head
use Rattle.scene_text.specs.declared.line.Line.{Line}
use Rattle.scene_text.specs.declared.line.Line.TheVariants as line
use Rattle.scene_text.specs.declared.line.Known.{Known}
use Rattle.scene_text.specs.declared.keywords.HeadWord.{HeadWord}
use Rattle.scene_text.specs.declared.keywords.HeadWord.TheVariants as hword
use Rattle.scene_text.specs.declared.keywords.CallWord.{CallWord}
use Rattle.scene_text.specs.declared.keywords.CallWord.TheVariants as cword
use Rattle.scene_text.specs.declared.keywords.Keyword.{Keyword}
use Rattle.scene_text.specs.declared.keywords.Keyword.TheVariants as key
use Rattle.scene_text.specs.Keywords.{head_text, head_words, head_word, call_text, call_words, call_word, keyword_of, head_columns, call_columns}
use Rattle.scene_text.specs.Known.{page_bytes}
use Rattle.scene_text.specs.Headers.{number, file_name, path_word, adhoc_word, flags_word, declared_text, head_says, head_line, head_known, head_in_range}
use Rattle.scene_text.specs.Calls.{process_name, cache_name, address, map_row, call_says, call_line, call_known, call_in_range}
use Rattle.scene_text.specs.Lines.{place, words, unknown, range, is_head_misplaced, head_of, call_of, said_if, said_of, line_of}
use Rattle.scene_text.specs.Texts.{Flaw, is_skipped, opening, words_in, AreFit, MeetsGrammar, said_behind, said_by_lines, said, IsScene}
use Rattle.scene_text.specs.declared.whole.Scene.{Scene}
use Rattle.scene_text.specs.declared.whole.SceneFail.{SceneFail}
use Rattle.scene_text.specs.declared.whole.SceneFail.TheVariants.{NoMemory, Bad}
use Rattle.scene_text.specs.Scenes.{scene_lines}
use Rattle.scene_text.specs.Known.{known_of}
use Rattle.scene_text.specs.Lines.{not_text, first_line}
use Rattle.scene_text.specs.Results.{Reads, IsRead}
use Rattle.scene_text.proofs.RoundFacts.{line_says}
use Rattle.scene_text.proofs.SceneLines.{only_scene}
use Rattle.scene_text.specs.Written.{told_lines, written, IsWritten, IsBadFirst, IsBadBehind, IsFirstBad, ReadsScene}
use Rattle.scene_text.proofs.LoopFacts.{skips, speaks, is_bad, at_end}
use Rattle.pg_words.specs.Lines.{lines_of}
use Rattle.std.proofs.lemmas.Bool.{eqb-true}
use Rattle.std.proofs.lemmas.List.Splits.{length-slice_split}
use Rattle.std.specs.List.{slice_split}
use Rattle.pg_words.specs.Lines.{is_break}
use Rattle.std.proofs.lemmas.Slice.Eq.{bytes_eq-Decides}
use Rattle.scene_text.proofs.GrammarFacts.{row1_takes, some_takes, path_same, flags_same, named_takes, unless, checked_takes, ok_takes, not_false, as_line_takes, line_fits, lines_take, meets}

abbrev Texts : Type 0
Texts = List (List ℕ)

-- a form whose words are how their values are printed
abbrev Prints : {A : Type 0} → (List ℕ → Option A) → (A → List ℕ) → Type 0
Prints {A} a text = (w : List ℕ) (x : A) → a w ≡ Some x → w ≡ text x

module _ {X : Type 0} (all : X → Texts) (k : List ℕ) (y : X) where
  took1 : {A : Type 0} (a : List ℕ → Option A) (text : A → List ℕ) → Prints a text → (make : A → X) → ((x : A) → all (make x) ≡ k ∷ text x ∷ []) → (ws : Texts) → row1 a make ws ≡ Some y → all y ≡ k ∷ ws
  took1 a text p make is [] e = absurd cc
  took1 a text p make is (w ∷ []) e = let m = map_takes make (a w) y e in ap all (sym m.2) ∙ is m.0 ∙ ap (λ (t : List ℕ). k ∷ t ∷ []) (sym (p w m.0 m.1))
  took1 a text p make is (w ∷ v ∷ ws) e = absurd cc

  took2 : {A B : Type 0} (a : List ℕ → Option A) (b : List ℕ → Option B) (ta : A → List ℕ) (tb : B → List ℕ) → Prints a ta → Prints b tb → (make : A → B → X)
      → ((x : A) (z : B) → all (make x z) ≡ k ∷ ta x ∷ tb z ∷ []) → (ws : Texts) → row2 a b make ws ≡ Some y → all y ≡ k ∷ ws
  took2 a b ta tb p q make is [] e = absurd cc
  took2 a b ta tb p q make is (v ∷ []) e = absurd cc
  took2 a b ta tb p q make is (v ∷ w ∷ []) e =
      option_and_then_some _ (a v) y e (λ x is_x e. option_and_then_some _ (b w) y e (λ z is_z e.
      ap all (sym (some_takes (make x z) y e)) ∙ is x z ∙ (λ i. k ∷ sym (p v x is_x) i ∷ sym (q w z is_z) i ∷ [])))
  took2 a b ta tb p q make is (v ∷ w ∷ u ∷ ws) e = absurd cc

  took3 : {A B C : Type 0} (a : List ℕ → Option A) (b : List ℕ → Option B) (c : List ℕ → Option C) (ta : A → List ℕ) (tb : B → List ℕ) (tc : C → List ℕ) → Prints a ta → Prints b tb → Prints c tc
      → (make : A → B → C → X) → ((x : A) (z : B) (s : C) → all (make x z s) ≡ k ∷ ta x ∷ tb z ∷ tc s ∷ []) → (ws : Texts) → row3 a b c make ws ≡ Some y → all y ≡ k ∷ ws
  took3 a b c ta tb tc p q r make is [] e = absurd cc
  took3 a b c ta tb tc p q r make is (u ∷ []) e = absurd cc
  took3 a b c ta tb tc p q r make is (u ∷ v ∷ []) e = absurd cc
  took3 a b c ta tb tc p q r make is (u ∷ v ∷ w ∷ []) e =
      option_and_then_some _ (a u) y e (λ x is_x e. option_and_then_some _ (b v) y e (λ z is_z e. option_and_then_some _ (c w) y e (λ s is_s e.
      ap all (sym (some_takes (make x z s) y e)) ∙ is x z s ∙ (λ i. k ∷ sym (p u x is_x) i ∷ sym (q v z is_z) i ∷ sym (r w s is_s) i ∷ []))))
  took3 a b c ta tb tc p q r make is (u ∷ v ∷ w ∷ s ∷ ws) e = absurd cc

numbers : Prints number decimal
numbers w n e = (number_takes (2 ^ 64) n w (omega arith) e).is

files : Prints file_name file_text
files w n e = (name_takes (2 ^ 64) 102 n w (omega arith) e).is

processes : Prints process_name process_text
processes w n e = (name_takes (2 ^ 64) 112 n w (omega arith) e).is

caches : Prints cache_name cache_text
caches w n e = (name_takes (2 ^ 64) 99 n w (omega arith) e).is

addresses : Prints address address_text
addresses w n e = (address_takes (2 ^ 47) n w (omega arith) e).is

paths : Prints path_word (λ path. path)
paths w path e = path_same w path e

adhocs : Prints adhoc_word (λ x. codes "adhoc")
unfolding adhoc_word
adhocs w x e = chosen (bytes_eq w (codes "adhoc")) _ _ _ e (λ t e. is_word_text w (codes "adhoc") t) (λ e. absurd cc)

declared : Prints flags_word declared_text
declared w flags e = flags_same w flags e

cdhashes : Prints (bytes_word 20) encode_lower
cdhashes w bytes e = (bytes_takes 20 bytes w e).decoded.is

hexes : Prints hex_word encode_lower
hexes w bytes e = (hex_takes bytes w e).decoded.is

pieces : Prints (data_word (2 ^ 64)) data_text
pieces w piece e = (data_takes (2 ^ 64) w piece (omega arith) e).is

prots : Prints prot_word prot_text
prots w prot e = prot_takes prot w e

shares : Prints share_word share_text
shares w shared e = share_takes shared w e

accesses : Prints access_word access_text
accesses w access e = access_takes access w e

head_printed : (w : HeadWord) (columns : Texts) (h : Head) → head_says w columns ≡ Some h → head_line h ≡ head_text w ∷ columns
head_printed hword.PageSize columns h e = took1 head_line _ h number decimal numbers (λ n. head.PageSize n) (λ n. refl) columns e
head_printed hword.Policy columns h e = took1 head_line _ h adhoc_word (λ x. codes "adhoc") adhocs (λ x. head.Adhoc) (λ x. refl) columns e
head_printed hword.Resident columns h e = took1 head_line _ h number decimal numbers (λ n. head.Resident n) (λ n. refl) columns e
head_printed hword.File columns h e = took1 head_line _ h path_word (λ p. p) paths (λ p. head.File p) (λ p. refl) columns e
head_printed hword.Raw columns h e = took3 head_line _ h path_word number number (λ p. p) decimal decimal paths numbers numbers (λ p off len. head.Raw p off len) (λ p off len. refl) columns e
head_printed hword.Static columns h e = took1 head_line _ h path_word (λ p. p) paths (λ p. head.Static p) (λ p. refl) columns e
head_printed hword.Admit columns h e = took1 head_line _ h (bytes_word 20) encode_lower cdhashes (λ c. head.Admit c) (λ c. refl) columns e
head_printed hword.Cache columns h e = took1 head_line _ h path_word (λ p. p) paths (λ p. head.Cache p) (λ p. refl) columns e
head_printed hword.Process columns h e = took1 head_line _ h flags_word declared_text declared (λ f. head.Process f) (λ f. refl) columns e
head_printed hword.Fail columns h e = took2 head_line _ h file_name number file_text decimal files numbers (λ f n. head.Fail f n) (λ f n. refl) columns e

map_printed : (columns : Texts) (c : Call) → map_row columns ≡ Some c → call_line c ≡ call_text cword.Map ∷ columns
unfolding map_row
map_printed [] c e = absurd cc
map_printed (a1 ∷ []) c e = absurd cc
map_printed (a1 ∷ a2 ∷ []) c e = absurd cc
map_printed (a1 ∷ a2 ∷ a3 ∷ []) c e = absurd cc
map_printed (a1 ∷ a2 ∷ a3 ∷ a4 ∷ []) c e = absurd cc
map_printed (a1 ∷ a2 ∷ a3 ∷ a4 ∷ a5 ∷ []) c e = absurd cc
map_printed (a1 ∷ a2 ∷ a3 ∷ a4 ∷ a5 ∷ a6 ∷ []) c e = absurd cc
map_printed (a1 ∷ a2 ∷ a3 ∷ a4 ∷ a5 ∷ a6 ∷ a7 ∷ []) c e =
    option_and_then_some _ (process_name a1) c e (λ pid is_pid e.
    option_and_then_some _ (address a2) c e (λ addr is_addr e.
    option_and_then_some _ (file_name a3) c e (λ file is_file e.
    option_and_then_some _ (number a4) c e (λ first is_first e.
    option_and_then_some _ (number a5) c e (λ pages is_pages e.
    option_and_then_some _ (prot_word a6) c e (λ prot is_prot e.
    option_and_then_some _ (share_word a7) c e (λ shared is_shared e.
    ap call_line (sym (some_takes (call.Map pid addr file first pages prot shared) c e))
    ∙ (λ i. call_text cword.Map ∷ sym (processes a1 pid is_pid) i ∷ sym (addresses a2 addr is_addr) i ∷ sym (files a3 file is_file) i ∷ sym (numbers a4 first is_first) i
    ∷ sym (numbers a5 pages is_pages) i ∷ sym (prots a6 prot is_prot) i ∷ sym (shares a7 shared is_shared) i ∷ []))))))))
map_printed (a1 ∷ a2 ∷ a3 ∷ a4 ∷ a5 ∷ a6 ∷ a7 ∷ a8 ∷ more) c e = absurd cc

call_printed : (w : CallWord) (columns : Texts) (c : Call) → call_says w columns ≡ Some c → call_line c ≡ call_text w ∷ columns
call_printed cword.Spawn columns c e = took1 call_line _ c process_name process_text processes (λ p. call.Spawn p) (λ p. refl) columns e
call_printed cword.Map columns c e = map_printed columns c e
call_printed cword.Unmap columns c e = took2 call_line _ c process_name address process_text address_text processes addresses (λ p a. call.Unmap p a) (λ p a. refl) columns e
call_printed cword.Attach columns c e = took2 call_line _ c file_name number file_text decimal files numbers (λ f n. call.Attach f n) (λ f n. refl) columns e
call_printed cword.LoadTrust columns c e = took1 call_line _ c cache_name cache_text caches (λ n. call.LoadTrust n) (λ n. refl) columns e
call_printed cword.Fault columns c e =
    took3 call_line _ c process_name address access_word process_text address_text access_text processes addresses accesses (λ p a x. call.Fault p a x) (λ p a x. refl) columns e
call_printed cword.Store columns c e =
    took3 call_line _ c process_name address hex_word process_text address_text encode_lower processes addresses hexes (λ p a x. call.Store p a x) (λ p a x. refl) columns e
call_printed cword.Load columns c e =
    took3 call_line _ c process_name address number process_text address_text decimal processes addresses numbers (λ p a x. call.Load p a x) (λ p a x. refl) columns e
call_printed cword.Fetch columns c e =
    took3 call_line _ c process_name address number process_text address_text decimal processes addresses numbers (λ p a x. call.Fetch p a x) (λ p a x. refl) columns e
call_printed cword.Write columns c e =
    took3 call_line _ c file_name number (data_word (2 ^ 64)) file_text decimal data_text files numbers pieces (λ f n d. call.Write f n d) (λ f n d. refl) columns e
call_printed cword.Evict columns c e = took2 call_line _ c file_name number file_text decimal files numbers (λ f n. call.Evict f n) (λ f n. refl) columns e
call_printed cword.Debug columns c e = took1 call_line _ c process_name process_text processes (λ p. call.Debug p) (λ p. refl) columns e
call_printed cword.Exit columns c e = took1 call_line _ c process_name process_text processes (λ p. call.Exit p) (λ p. refl) columns e

-- ---- lines

head_word_is : (word : List ℕ) (k : HeadWord) → head_word word ≡ Some k → word ≡ head_text k
unfolding head_word
head_word_is word k e = named_takes head_text head_words word k e

call_word_is : (word : List ℕ) (k : CallWord) → call_word word ≡ Some k → word ≡ call_text k
unfolding call_word
call_word_is word k e = named_takes call_text call_words word k e

keyword_text : Keyword → List ℕ
keyword_text (key.Head w) = head_text w
keyword_text key.Script = codes "script"
keyword_text (key.Call w) = call_text w

-- the first of two that says something
either : {A P : Type 0} (o p : Option A) (x : A) → option_or o p ≡ Some x → (o ≡ Some x → P) → (p ≡ Some x → P) → P
either None p x e first second = second e
either (Some y) p x e first second = first e

keyword_is : (word : List ℕ) (k : Keyword) → keyword_of word ≡ Some k → word ≡ keyword_text k
unfolding keyword_of keyword_text
keyword_is word k e =
    chosen (bytes_eq word (codes "script")) _ _ _ e
    (λ t e. is_word_text word (codes "script") t ∙ ap keyword_text (some_takes key.Script k e))
    (λ e.
    either (option_map (λ w. key.Head w) (head_word word)) (option_map (λ w. key.Call w) (call_word word)) k e
    (λ e. let m = map_takes (λ w. key.Head w) (head_word word) k e in head_word_is word m.0 m.1 ∙ ap keyword_text m.2)
    (λ e. let m = map_takes (λ w. key.Call w) (call_word word) k e in call_word_is word m.0 m.1 ∙ ap keyword_text m.2))

head_of_printed : (known : Known) (w : HeadWord) (columns : Texts) (h : Head) → head_of known w columns ≡ Ok h → head_line h ≡ head_text w ∷ columns
unfolding head_of
head_of_printed known w columns h e =
    let a = unless (is_head_misplaced known w) place _ h e in
    let b = unless (not (eqb (length columns) (head_columns w))) words _ h a.1 in
    let c = checked_takes (head_known known) head_in_range (head_says w columns) h b.1 in
    head_printed w columns h c.says

call_of_printed : (known : Known) (w : CallWord) (columns : Texts) (c : Call) → call_of known w columns ≡ Ok c → call_line c ≡ call_text w ∷ columns
unfolding call_of
call_of_printed known w columns c e =
    let a = unless (not known.script) place _ c e in
    let b = unless (not (eqb (length columns) (call_columns w))) words _ c a.1 in
    let d = checked_takes (call_known known) (call_in_range (page_bytes known.large)) (call_says w columns) c b.1 in
    call_printed w columns c d.says

not_none : (columns : Texts) → not (eqb (length columns) 0) ≡ false → columns ≡ []
not_none [] e = refl
not_none (c ∷ columns) e = let zero_length : length (c ∷ columns) ≡ 0 = eqb-true (length (c ∷ columns)) 0 (not_false (eqb (length (c ∷ columns)) 0) e) in absurd (omega (arith, zero_length))

keyword_printed : (known : Known) (word : List ℕ) (k : Option Keyword) (columns : Texts) (x : Line) → keyword_of word ≡ k → said_if known k columns ≡ Ok x → words_in x ≡ word ∷ columns
unfolding keyword_text
keyword_printed known word None columns x is e = absurd cc
keyword_printed known word (Some (key.Head w)) columns x is e =
    let m = as_line_takes (λ h. line.Head h) (head_of known w columns) x e in
    ap words_in (sym m.2) ∙ head_of_printed known w columns m.0 m.1 ∙ ap (λ (v : List ℕ). v ∷ columns) (sym (keyword_is word (key.Head w) is))
keyword_printed known word (Some key.Script) columns x is e =
    let a = unless (not (eqb (length columns) 0)) words (Ok line.Script) x e in
    ap words_in (sym (ok_takes line.Script x a.1)) ∙ (λ i. sym (keyword_is word key.Script is) i ∷ sym (not_none columns a.0) i)
keyword_printed known word (Some (key.Call w)) columns x is e =
    let m = as_line_takes (λ c. line.Call c) (call_of known w columns) x e in
    ap words_in (sym m.2) ∙ call_of_printed known w columns m.0 m.1 ∙ ap (λ (v : List ℕ). v ∷ columns) (sym (keyword_is word (key.Call w) is))

said_printed : (known : Known) (ws : Texts) (x : Line) → said_of known ws ≡ Ok x → words_in x ≡ ws
said_printed known [] x e = absurd cc
said_printed known (w ∷ columns) x e = keyword_printed known w (keyword_of w) columns x refl e

line_printed : (known : Known) (text : List ℕ) (x : Line) → line_of known text ≡ Ok x → text ≡ line_text (words_in x)
unfolding line_of
line_printed known text x e =
    sym (line_of_words text) ∙ ap line_text (sym (said_printed known (words_of text) x (unless (not (list_all is_text_byte text)) _ _ x e).1))

-- ---- texts

-- the lines that follow are these, as they are printed
record Tells (above all : List Line) (ts : Texts) : Type 0 where
  more : List Line
  is : all ≡ above ++ more
  lines : told_lines ts ≡ written more

err_clash : (x : List Line) (f : Flaw) → ◌≡◌ {A = Result (List Line) Flaw} (Err f) (Ok x) → ⊥
err_clash x f e = absurd cc

tells_more : (above : List Line) (n : ℕ) (t : List ℕ) (ts : Texts) (all : List Line) (s : Bool) (r : Result Line ℕ)
    → is_skipped t ≡ s → line_of (known_of above) t ≡ r → said_behind above n (t ∷ ts) ≡ Ok all
    → ((others : List Line) (m : ℕ) → said_behind others m ts ≡ Ok all → Tells others all ts) → Tells above all (t ∷ ts)
tells_more above n t ts all true r skipped is e more =
    let f = more above (n + 1) (sym (skips above n t ts skipped) ∙ e) in
    record { more = f.more; is = f.is; lines = ap (λ (s : Bool). cond s (told_lines ts) (t ∷ told_lines ts)) skipped ∙ f.lines }
tells_more above n t ts all false (Err k) told is e more = absurd (err_clash all _ (sym (is_bad above n t ts k told is) ∙ e))
tells_more above n t ts all false (Ok x) told is e more =
    let f = more (above ++ x ∷ []) (n + 1) (sym (speaks above n t ts x told is) ∙ e) in
    record {
      more = x ∷ f.more;
      is = f.is ∙ append_assoc above (x ∷ []) f.more;
      lines = ap (λ (s : Bool). cond s (told_lines ts) (t ∷ told_lines ts)) told ∙ (λ i. line_printed (known_of above) t x is i ∷ f.lines i);
    }

behind_tells : (above : List Line) (n : ℕ) (ts : Texts) (all : List Line) → said_behind above n ts ≡ Ok all → Tells above all ts
behind_tells above n [] all e = record { more = []; is = sym (append-nil above ∙ lines_take above all (sym (at_end above n) ∙ e)); lines = refl }
behind_tells above n (t ∷ ts) all e = tells_more above n t ts all (is_skipped t) (line_of (known_of above) t) refl refl e (λ others m e. behind_tells others m ts all e)

-- the line with this number is bad: those above it are these, as they are printed
record Stops (above : List Line) (n : ℕ) (ts : Texts) (f : Flaw) : Type 0 where
  spot : ℕ
  more : List Line
  number : f.line ≡ n + spot
  lines : told_lines (take spot ts) ≡ written more
  fit : AreFit above more
  this : List ℕ
  at : slice_get ts spot ≡ Some this
  told : is_skipped this ≡ false
  bad : line_of (known_of (above ++ more)) this ≡ Err f.kind

flaw_is : (f g : Flaw) → ◌≡◌ {A = Result (List Line) Flaw} (Err f) (Err g) → f ≡ g
flaw_is f g e = cc

stops_more : (above : List Line) (n : ℕ) (t : List ℕ) (ts : Texts) (f : Flaw) (s : Bool) (r : Result Line ℕ)
    → is_skipped t ≡ s → line_of (known_of above) t ≡ r → said_behind above n (t ∷ ts) ≡ Err f
    → ((others : List Line) (m : ℕ) → said_behind others m ts ≡ Err f → Stops others m ts f) → Stops above n (t ∷ ts) f
stops_more above n t ts f true r skipped is e more =
    let g = more above (n + 1) (sym (skips above n t ts skipped) ∙ e) in
    let number = g.number in
    record {
      spot = suc g.spot;
      more = g.more;
      number = number ∙ omega arith;
      lines = ap (λ (s : Bool). cond s (told_lines (take g.spot ts)) (t ∷ told_lines (take g.spot ts))) skipped ∙ g.lines;
      fit = g.fit;
      this = g.this;
      at = g.at;
      told = g.told;
      bad = g.bad;
    }
stops_more above n t ts f false (Err k) told is e more =
    let flaw = flaw_is _ f (sym (is_bad above n t ts k told is) ∙ e) in
    record {
      spot = 0;
      more = [];
      number = ap (λ (x : Flaw). x.line) (sym flaw) ∙ omega arith;
      lines = refl;
      fit = tt;
      this = t;
      at = refl;
      told = told;
      bad = ap (λ (x : List Line). line_of (known_of x) t) (append-nil above) ∙ is ∙ ap (λ (x : Flaw). Err x.kind) flaw;
    }
stops_more above n t ts f false (Ok x) told is e more =
    let g = more (above ++ x ∷ []) (n + 1) (sym (speaks above n t ts x told is) ∙ e) in
    let number = g.number in
    record {
      spot = suc g.spot;
      more = x ∷ g.more;
      number = number ∙ omega arith;
      lines = ap (λ (s : Bool). cond s (told_lines (take g.spot ts)) (t ∷ told_lines (take g.spot ts))) told ∙ (λ i. line_printed (known_of above) t x is i ∷ g.lines i);
      fit = (line_fits (known_of above) t x is, g.fit);
      this = g.this;
      at = g.at;
      told = g.told;
      bad = ap (λ (y : List Line). line_of (known_of y) g.this) (sym (append_assoc above (x ∷ []) g.more)) ∙ g.bad;
    }

ok_clash : (x : List Line) (f : Flaw) → ◌≡◌ {A = Result (List Line) Flaw} (Ok x) (Err f) → ⊥
ok_clash x f e = absurd cc

behind_stops : (above : List Line) (n : ℕ) (ts : Texts) (f : Flaw) → said_behind above n ts ≡ Err f → Stops above n ts f
behind_stops above n [] f e = absurd (ok_clash above f (sym (at_end above n) ∙ e))
behind_stops above n (t ∷ ts) f e = stops_more above n t ts f (is_skipped t) (line_of (known_of above) t) refl refl e (λ others m e. behind_stops others m ts f e)

-- a text of these lines
module _ (text : List ℕ) (t : List ℕ) (ts : Texts) (is : lines_of text ≡ t ∷ ts) where
  written_so : (scene : Scene) → MeetsGrammar scene → said_by_lines (t ∷ ts) ≡ Ok (scene_lines scene) → IsWritten text scene
  written_so scene fits e = by (list_all is_text_byte t) (bytes_eq t opening) refl e
    where
      by : (plain same : Bool) → bytes_eq t opening ≡ same
          → cond (not plain) (Err (record { line = 1; kind = not_text })) (cond same (said_behind [] 2 ts) (Err (record { line = 1; kind = first_line }))) ≡ Ok (scene_lines scene) → IsWritten text scene
      by false same q e = absurd (err_clash (scene_lines scene) _ e)
      by true false q e = absurd (err_clash (scene_lines scene) _ e)
      by true true q e =
          let g = behind_tells [] 2 ts (scene_lines scene) e in
          record {
            first = ap (take 1) is ∙ ap (λ (w : List ℕ). w ∷ []) (is_word_text t opening q);
            lines = ap (λ (x : Texts). told_lines (drop 1 x)) is ∙ g.lines ∙ ap written (sym g.is);
            meets = fits;
          }

  -- where it stops behind the first line
  behind_first : bytes_eq t opening ≡ true → (f : Flaw) → Stops [] 2 ts f → IsFirstBad text f.line f.kind
  behind_first q f g =
      let at : f.line ≡ suc (suc g.spot) = let n = g.number in omega (arith, n) in
      subst (λ (n : ℕ). IsFirstBad text n f.kind) (sym at)
      (record {
        first = ap (take 1) is ∙ ap (λ (w : List ℕ). w ∷ []) (is_word_text t opening q);
        above = g.more;
        lines = ap (λ (x : Texts). told_lines (take g.spot (drop 1 x))) is ∙ g.lines;
        fit = g.fit;
        this = g.this;
        at = ap (λ (x : Texts). slice_get (drop 1 x) g.spot) is ∙ g.at;
        told = g.told;
        bad = g.bad;
      })

  at_first : (kind : ℕ) (f : Flaw) → (t ≡ opening → ⊥) → kind ≡ cond (not (list_all is_text_byte t)) not_text first_line → record { line = 1; kind = kind } ≡ f → IsFirstBad text f.line f.kind
  at_first kind f other tried flaw =
      subst (λ (x : Flaw). IsFirstBad text x.line x.kind) flaw (record { this = t; at = ap (take 1) is; other = other; is = tried })

  bad_so : (f : Flaw) → said_by_lines (t ∷ ts) ≡ Err f → IsFirstBad text f.line f.kind
  bad_so f e = by (list_all is_text_byte t) (bytes_eq t opening) refl refl e
    where
      by : (plain same : Bool) → list_all is_text_byte t ≡ plain → bytes_eq t opening ≡ same
          → cond (not plain) (Err (record { line = 1; kind = not_text })) (cond same (said_behind [] 2 ts) (Err (record { line = 1; kind = first_line }))) ≡ Err f → IsFirstBad text f.line f.kind
      by false same p q e =
          at_first not_text f (λ o. absurd (clash_bool (sym p ∙ ap (list_all is_text_byte) o))) (ap (λ (b : Bool). cond (not b) not_text first_line) (sym p)) (flaw_is _ f e)
        where
          clash_bool : false ≡ true → ⊥
          clash_bool e = absurd cc
      by true false p q e =
          at_first first_line f (λ o. absurd (clash_bool (sym q ∙ (bytes_eq-Decides t opening).1 o))) (ap (λ (b : Bool). cond (not b) not_text first_line) (sym p)) (flaw_is _ f e)
        where
          clash_bool : false ≡ true → ⊥
          clash_bool e = absurd cc
      by true true p q e = behind_first q f (behind_stops [] 2 ts f e)

-- what is answered is the scene whose text it is, or the first bad line
pub reads_scene : (text : List ℕ) (r : Result Scene SceneFail) → Reads r (said text) → ReadsScene r text
unfolding said lines_of
reads_scene text r reads = by (lines_of text) refl (length-slice_split is_break text) r reads
  where
    by : (ls : Texts) → lines_of text ≡ ls → length (slice_split is_break text) ≡ count_by is_break text + 1 → (r : Result Scene SceneFail) → Reads r (said_by_lines ls) → ReadsScene r text
    by [] is some r reads = absurd (let none = ap length is in omega (arith, none, some))
    by (t ∷ ts) is some (Ok scene) reads = written_so text t ts is scene (meets text scene (ap said_by_lines is ∙ reads)) reads
    by (t ∷ ts) is some (Err NoMemory) reads = tt
    by (t ∷ ts) is some (Err (Bad line kind)) reads = bad_so text t ts is (record { line = line; kind = kind }) reads

-- ---- a text that is written so says the scene

tail_same : (a b : List ℕ) (xs ys : Texts) → a ∷ xs ≡ b ∷ ys → (a ≡ b) × (xs ≡ ys)
tail_same a b xs ys e = (cc, cc)

says_more : (above : List Line) (n : ℕ) (t : List ℕ) (ts : Texts) (lines : List Line) (s : Bool) → is_skipped t ≡ s → AreFit above lines → told_lines (t ∷ ts) ≡ written lines
    → ((others more : List Line) (m : ℕ) → AreFit others more → told_lines ts ≡ written more → said_behind others m ts ≡ Ok (others ++ more)) → said_behind above n (t ∷ ts) ≡ Ok (above ++ lines)
says_more above n t ts lines true skipped fit e more =
    skips above n t ts skipped ∙ more above lines (n + 1) fit (sym (ap (λ (s : Bool). cond s (told_lines ts) (t ∷ told_lines ts)) skipped) ∙ e)
says_more above n t ts [] false told fit e more = absurd (none (sym (ap (λ (s : Bool). cond s (told_lines ts) (t ∷ told_lines ts)) told) ∙ e))
  where
    none : t ∷ told_lines ts ≡ [] → ⊥
    none e = absurd cc
says_more above n t ts (x ∷ lines) false told fit e more =
    let p = tail_same t (line_text (words_in x)) (told_lines ts) (written lines) (sym (ap (λ (s : Bool). cond s (told_lines ts) (t ∷ told_lines ts)) told) ∙ e) in
    speaks above n t ts x told (ap (line_of (known_of above)) p.0 ∙ line_says (known_of above) x fit.0)
    ∙ more (above ++ x ∷ []) lines (n + 1) fit.1 p.1 ∙ ap (λ (y : List Line). Ok y) (append_assoc above (x ∷ []) lines)

behind_says : (ts : Texts) (above lines : List Line) (n : ℕ) → AreFit above lines → told_lines ts ≡ written lines → said_behind above n ts ≡ Ok (above ++ lines)
behind_says [] above [] n fit e = at_end above n ∙ ap (λ (y : List Line). Ok y) (sym (append-nil above))
behind_says [] above (x ∷ lines) n fit e = absurd (none e)
  where
    none : [] ≡ line_text (words_in x) ∷ written lines → ⊥
    none e = absurd cc
behind_says (t ∷ ts) above lines n fit e = says_more above n t ts lines (is_skipped t) refl fit e (λ others more m fit e. behind_says ts others more m fit e)

head_same : (a b : List ℕ) → a ∷ [] ≡ b ∷ [] → a ≡ b
head_same a b e = cc

pub written_says : (text : List ℕ) (scene : Scene) → IsWritten text scene → IsScene text scene
unfolding said
written_says text scene w = by (lines_of text) refl
  where
    none : [] ≡ opening ∷ [] → ⊥
    none e = absurd cc

    by : (ls : Texts) → lines_of text ≡ ls → said_by_lines (lines_of text) ≡ Ok (scene_lines scene)
    by [] is = absurd (none (sym (ap (take 1) is) ∙ w.first))
    by (t ∷ ts) is =
        let first : t ≡ opening = head_same t opening (sym (ap (take 1) is) ∙ w.first) in
        ap said_by_lines (is ∙ ap (λ (v : List ℕ). v ∷ ts) first)
        ∙ behind_says ts [] (scene_lines scene) 2 w.meets (sym (ap (λ (x : Texts). told_lines (drop 1 x)) is) ∙ w.lines)

-- of whatever scene it is the text, that is what is answered
pub only_written : (text : List ℕ) (r : Result Scene SceneFail) → Reads r (said text) → (scene : Scene) → IsWritten text scene → IsRead r scene
only_written text r reads scene w = only_scene text r reads scene (written_says text scene w)
