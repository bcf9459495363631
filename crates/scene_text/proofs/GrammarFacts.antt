-- The scene that a text says meets the grammar.
use Rattle.std.proofs.Common.{◌≡◌, ℕ, ◌+◌, ◌^◌, ◌<◌, cond, Bool, true, false, not, eqb, List, [], ◌∷◌, ◌++◌, length, Option, Some, None, Result, Ok, Err, refl, ap, sym, subst, ◌∙◌, append_assoc, arith}
use Rattle.std.specs.Prelude.{bytes_eq}
use Rattle.std.specs.List.{list_all}
use Rattle.std.proofs.lemmas.List.{append-nil}
use Rattle.std.proofs.lemmas.Option.{option_and_then_some}
use Rattle.cs_policy.specs.declared.call.Call.{Call}
use Rattle.cs_policy.specs.declared.call.Call.TheVariants as call
use Rattle.cs_policy.specs.declared.flags.ProcFlags.{ProcFlags}
use Rattle.pg_words.specs.Rows.{row1, row2, row3, named}
use Rattle.pg_words.specs.Lines.{is_text_byte, lines_of, words_of}
use Rattle.pg_words.specs.Digits.{bytes_word, hex_word}
use Rattle.pg_words.specs.Names.{name_word, prot_word, share_word, access_word}
use Rattle.pg_words.specs.Data.{data_word}
use Rattle.pg_words.proofs.HexFacts.{map_takes, hex_takes, bytes_takes}
use Rattle.pg_words.proofs.NumeralFacts.{guarded_takes, number_takes, address_takes}
use Rattle.pg_words.proofs.NameFacts.{name_takes, chosen, is_word_text}
use Rattle.pg_words.proofs.PieceFacts.{data_takes}
use Rattle.scene_text.specs.declared.head.Head.{Head}
use Rattle.scene_text.specs.declared.head.Head.TheVariants as head
use Rattle.scene_text.specs.declared.line.Line.{Line}
use Rattle.scene_text.specs.declared.line.Line.TheVariants as line
use Rattle.scene_text.specs.declared.line.Known.{Known}
use Rattle.scene_text.specs.declared.whole.Scene.{Scene}
use Rattle.scene_text.specs.declared.keywords.HeadWord.{HeadWord}
use Rattle.scene_text.specs.declared.keywords.HeadWord.TheVariants as hword
use Rattle.scene_text.specs.declared.keywords.CallWord.{CallWord}
use Rattle.scene_text.specs.declared.keywords.CallWord.TheVariants as cword
use Rattle.scene_text.specs.declared.keywords.Keyword.{Keyword}
use Rattle.scene_text.specs.declared.keywords.Keyword.TheVariants as key
use Rattle.scene_text.specs.Keywords.{keyword_of, head_columns, call_columns}
use Rattle.scene_text.specs.Scenes.{scene_lines}
use Rattle.scene_text.specs.Known.{known_of, page_bytes}
use Rattle.scene_text.specs.Headers.{number, file_name, path_word, adhoc_word, flags_word, declared_text, declared_flags, head_says, head_key, head_known, head_in_range, HeadHasForm, IsPath}
use Rattle.scene_text.specs.Calls.{process_name, cache_name, address, map_row, call_says, call_known, call_in_range, CallHasForm}
use Rattle.scene_text.specs.Lines.{place, words, unknown, range, checked, is_head_misplaced, head_of, call_of, as_line, said_if, said_of, line_of}
use Rattle.scene_text.specs.Texts.{Flaw, is_skipped, said_behind, said_by_lines, said, opening, IsHeadFit, IsCallFit, IsFit, AreFit, MeetsGrammar, IsScene}
use Rattle.scene_text.proofs.LoopFacts.{skips, speaks, is_bad, at_end}

-- ---- rows of columns

pub row1_takes : {A X P : Type 0} (a : List ℕ → Option A) (make : A → X) (ws : List (List ℕ)) (y : X) → row1 a make ws ≡ Some y
    → ((w : List ℕ) (x : A) → a w ≡ Some x → make x ≡ y → P) → P
row1_takes a make [] y e k = absurd cc
row1_takes a make (w ∷ []) y e k = let m = map_takes make (a w) y e in k w m.0 m.1 m.2
row1_takes a make (w ∷ v ∷ ws) y e k = absurd cc

pub some_takes : {X : Type 0} (x y : X) → Some x ≡ Some y → x ≡ y
some_takes x y e = cc

row2_takes : {A B X P : Type 0} (a : List ℕ → Option A) (b : List ℕ → Option B) (make : A → B → X) (ws : List (List ℕ)) (z : X) → row2 a b make ws ≡ Some z
    → ((v w : List ℕ) (x : A) (y : B) → a v ≡ Some x → b w ≡ Some y → make x y ≡ z → P) → P
row2_takes a b make [] z e k = absurd cc
row2_takes a b make (v ∷ []) z e k = absurd cc
row2_takes a b make (v ∷ w ∷ []) z e k =
    option_and_then_some _ (a v) z e (λ x is_x e. option_and_then_some _ (b w) z e (λ y is_y e. k v w x y is_x is_y (some_takes (make x y) z e)))
row2_takes a b make (v ∷ w ∷ u ∷ ws) z e k = absurd cc

row3_takes : {A B C X P : Type 0} (a : List ℕ → Option A) (b : List ℕ → Option B) (c : List ℕ → Option C) (make : A → B → C → X) (ws : List (List ℕ)) (t : X) → row3 a b c make ws ≡ Some t
    → ((u v w : List ℕ) (x : A) (y : B) (z : C) → a u ≡ Some x → b v ≡ Some y → c w ≡ Some z → make x y z ≡ t → P) → P
row3_takes a b c make [] t e k = absurd cc
row3_takes a b c make (u ∷ []) t e k = absurd cc
row3_takes a b c make (u ∷ v ∷ []) t e k = absurd cc
row3_takes a b c make (u ∷ v ∷ w ∷ []) t e k =
    option_and_then_some _ (a u) t e (λ x is_x e. option_and_then_some _ (b v) t e (λ y is_y e. option_and_then_some _ (c w) t e (λ z is_z e.
    k u v w x y z is_x is_y is_z (some_takes (make x y z) t e))))
row3_takes a b c make (u ∷ v ∷ w ∷ s ∷ ws) t e k = absurd cc

-- ---- words

small : (w : List ℕ) (n : ℕ) → number w ≡ Some n → n < 2 ^ 64
small w n e = (number_takes (2 ^ 64) n w (omega arith) e).fits

named_small : (letter : ℕ) (w : List ℕ) (n : ℕ) → name_word (2 ^ 64) letter w ≡ Some n → n < 2 ^ 64
named_small letter w n e = (name_takes (2 ^ 64) letter n w (omega arith) e).fits

near : (w : List ℕ) (n : ℕ) → address w ≡ Some n → n < 2 ^ 47
near w n e = (address_takes (2 ^ 47) n w (omega arith) e).fits

pub path_same : (w path : List ℕ) → path_word w ≡ Some path → w ≡ path
unfolding path_word
path_same w path e = some_takes w path (guarded_takes _ _ path e).1

is_path : (w path : List ℕ) → path_word w ≡ Some path → IsPath path
is_path w path e = subst (λ (v : List ℕ). path_word v ≡ Some path) (path_same w path e) e

pub named_takes : {A : Type 0} (text : A → List ℕ) (table : List A) (w : List ℕ) (x : A) → named text table w ≡ Some x → w ≡ text x
named_takes text [] w x e = absurd cc
named_takes text (first ∷ others) w x e =
    chosen (bytes_eq w (text first)) _ _ _ e
    (λ t e. is_word_text w (text first) t ∙ ap text (some_takes first x e))
    (λ e. named_takes text others w x e)

pub flags_same : (w : List ℕ) (flags : ProcFlags) → flags_word w ≡ Some flags → w ≡ declared_text flags
unfolding flags_word
flags_same w flags e = named_takes declared_text declared_flags w flags e

is_flags : (w : List ℕ) (flags : ProcFlags) → flags_word w ≡ Some flags → flags_word (declared_text flags) ≡ Some flags
is_flags w flags e = subst (λ (v : List ℕ). flags_word v ≡ Some flags) (flags_same w flags e) e

-- ---- header lines

-- the value has a form, and its keyword
abbrev HeadFrom : HeadWord → Head → Type 0
HeadFrom w h = HeadHasForm h × (head_key h ≡ w)

head_form : (w : HeadWord) (columns : List (List ℕ)) (h : Head) → head_says w columns ≡ Some h → HeadFrom w h
head_form hword.PageSize columns h e = row1_takes number (λ n. head.PageSize n) columns h e (λ w n is made. subst (HeadFrom hword.PageSize) made (small w n is, refl))
head_form hword.Policy columns h e = row1_takes adhoc_word (λ _. head.Adhoc) columns h e (λ w n is made. subst (HeadFrom hword.Policy) made (tt, refl))
head_form hword.Resident columns h e = row1_takes number (λ n. head.Resident n) columns h e (λ w n is made. subst (HeadFrom hword.Resident) made (small w n is, refl))
head_form hword.File columns h e = row1_takes path_word (λ p. head.File p) columns h e (λ w p is made. subst (HeadFrom hword.File) made (is_path w p is, refl))
head_form hword.Raw columns h e = row3_takes path_word number number (λ p off len. head.Raw p off len) columns h e
    (λ u v w p off len is_p is_off is_len made. subst (HeadFrom hword.Raw) made ((is_path u p is_p, small v off is_off, small w len is_len), refl))
head_form hword.Static columns h e = row1_takes path_word (λ p. head.Static p) columns h e (λ w p is made. subst (HeadFrom hword.Static) made (is_path w p is, refl))
head_form hword.Admit columns h e = row1_takes (bytes_word 20) (λ c. head.Admit c) columns h e
    (λ w c is made. let b = bytes_takes 20 c w is in subst (HeadFrom hword.Admit) made ((b.decoded.fits, b.size), refl))
head_form hword.Cache columns h e = row1_takes path_word (λ p. head.Cache p) columns h e (λ w p is made. subst (HeadFrom hword.Cache) made (is_path w p is, refl))
head_form hword.Process columns h e = row1_takes flags_word (λ f. head.Process f) columns h e (λ w f is made. subst (HeadFrom hword.Process) made (is_flags w f is, refl))
head_form hword.Fail columns h e = row2_takes file_name number (λ f n. head.Fail f n) columns h e
    (λ v w f n is_f is_n made. subst (HeadFrom hword.Fail) made ((named_small 102 v f is_f, small w n is_n), refl))

-- ---- tests in their order

pub unless : {A : Type 0} (t : Bool) (k : ℕ) (r : Result A ℕ) (x : A) → cond t (Err k) r ≡ Ok x → (t ≡ false) × (r ≡ Ok x)
unless true k r x e = absurd cc
unless false k r x e = (refl, e)

pub not_false : (t : Bool) → not t ≡ false → t ≡ true
not_false true e = refl
not_false false e = absurd cc

pub ok_takes : {A : Type 0} (x y : A) → ◌≡◌ {A = Result A ℕ} (Ok x) (Ok y) → x ≡ y
ok_takes x y e = cc

pub record Checked {A : Type 0} (known in_range : A → Bool) (o : Option A) (x : A) : Type 0 where
  pub says : o ≡ Some x
  pub names : known x ≡ true
  pub ranges : in_range x ≡ true

pub checked_takes : {A : Type 0} (known in_range : A → Bool) (o : Option A) (x : A) → checked known in_range o ≡ Ok x → Checked known in_range o x
checked_takes known in_range None x e = absurd cc
checked_takes known in_range (Some y) x e =
    let a = unless (not (known y)) unknown _ x e in
    let b = unless (not (in_range y)) range _ x a.1 in
    let same = ok_takes y x b.1 in
    record {
      says = ap (λ z. Some z) same;
      names = ap known (sym same) ∙ not_false (known y) a.0;
      ranges = ap in_range (sym same) ∙ not_false (in_range y) b.0;
    }

head_fits : (known : Known) (w : HeadWord) (columns : List (List ℕ)) (h : Head) → head_of known w columns ≡ Ok h → IsHeadFit known h
unfolding head_of
head_fits known w columns h e =
    let a = unless (is_head_misplaced known w) place _ h e in
    let b = unless (not (eqb (length columns) (head_columns w))) words _ h a.1 in
    let c = checked_takes (head_known known) head_in_range (head_says w columns) h b.1 in
    let f = head_form w columns h c.says in
    record { form = f.0; placed = ap (is_head_misplaced known) f.1 ∙ a.0; declared = c.names; in_range = c.ranges }

-- ---- calls

map_form : (columns : List (List ℕ)) (c : Call) → map_row columns ≡ Some c → CallHasForm c
unfolding map_row
map_form [] c e = absurd cc
map_form (a1 ∷ []) c e = absurd cc
map_form (a1 ∷ a2 ∷ []) c e = absurd cc
map_form (a1 ∷ a2 ∷ a3 ∷ []) c e = absurd cc
map_form (a1 ∷ a2 ∷ a3 ∷ a4 ∷ []) c e = absurd cc
map_form (a1 ∷ a2 ∷ a3 ∷ a4 ∷ a5 ∷ []) c e = absurd cc
map_form (a1 ∷ a2 ∷ a3 ∷ a4 ∷ a5 ∷ a6 ∷ []) c e = absurd cc
map_form (a1 ∷ a2 ∷ a3 ∷ a4 ∷ a5 ∷ a6 ∷ a7 ∷ []) c e =
    option_and_then_some _ (process_name a1) c e (λ pid is_pid e.
    option_and_then_some _ (address a2) c e (λ addr is_addr e.
    option_and_then_some _ (file_name a3) c e (λ file is_file e.
    option_and_then_some _ (number a4) c e (λ first is_first e.
    option_and_then_some _ (number a5) c e (λ pages is_pages e.
    option_and_then_some _ (prot_word a6) c e (λ prot is_prot e.
    option_and_then_some _ (share_word a7) c e (λ shared is_shared e.
    subst CallHasForm (some_takes (call.Map pid addr file first pages prot shared) c e)
    (named_small 112 a1 pid is_pid, near a2 addr is_addr, named_small 102 a3 file is_file, small a4 first is_first, small a5 pages is_pages))))))))
map_form (a1 ∷ a2 ∷ a3 ∷ a4 ∷ a5 ∷ a6 ∷ a7 ∷ a8 ∷ more) c e = absurd cc

call_form : (w : CallWord) (columns : List (List ℕ)) (c : Call) → call_says w columns ≡ Some c → CallHasForm c
call_form cword.Spawn columns c e = row1_takes process_name (λ p. call.Spawn p) columns c e (λ w p is made. subst CallHasForm made (named_small 112 w p is))
call_form cword.Map columns c e = map_form columns c e
call_form cword.Unmap columns c e = row2_takes process_name address (λ p a. call.Unmap p a) columns c e
    (λ v w p a is_p is_a made. subst CallHasForm made (named_small 112 v p is_p, near w a is_a))
call_form cword.Attach columns c e = row2_takes file_name number (λ f n. call.Attach f n) columns c e
    (λ v w f n is_f is_n made. subst CallHasForm made (named_small 102 v f is_f, small w n is_n))
call_form cword.LoadTrust columns c e = row1_takes cache_name (λ n. call.LoadTrust n) columns c e (λ w n is made. subst CallHasForm made (named_small 99 w n is))
call_form cword.Fault columns c e = row3_takes process_name address access_word (λ p a x. call.Fault p a x) columns c e
    (λ u v w p a x is_p is_a is_x made. subst CallHasForm made (named_small 112 u p is_p, near v a is_a))
call_form cword.Store columns c e = row3_takes process_name address hex_word (λ p a x. call.Store p a x) columns c e
    (λ u v w p a x is_p is_a is_x made. let h = hex_takes x w is_x in subst CallHasForm made (named_small 112 u p is_p, near v a is_a, h.decoded.fits, h.some))
call_form cword.Load columns c e = row3_takes process_name address number (λ p a x. call.Load p a x) columns c e
    (λ u v w p a x is_p is_a is_x made. subst CallHasForm made (named_small 112 u p is_p, near v a is_a, small w x is_x))
call_form cword.Fetch columns c e = row3_takes process_name address number (λ p a x. call.Fetch p a x) columns c e
    (λ u v w p a x is_p is_a is_x made. subst CallHasForm made (named_small 112 u p is_p, near v a is_a, small w x is_x))
call_form cword.Write columns c e = row3_takes file_name number (data_word (2 ^ 64)) (λ f n d. call.Write f n d) columns c e
    (λ u v w f n d is_f is_n is_d made. subst CallHasForm made (named_small 102 u f is_f, small v n is_n, (data_takes (2 ^ 64) w d (omega arith) is_d).can))
call_form cword.Evict columns c e = row2_takes file_name number (λ f n. call.Evict f n) columns c e
    (λ v w f n is_f is_n made. subst CallHasForm made (named_small 102 v f is_f, small w n is_n))
call_form cword.Debug columns c e = row1_takes process_name (λ p. call.Debug p) columns c e (λ w p is made. subst CallHasForm made (named_small 112 w p is))
call_form cword.Exit columns c e = row1_takes process_name (λ p. call.Exit p) columns c e (λ w p is made. subst CallHasForm made (named_small 112 w p is))

call_fits : (known : Known) (w : CallWord) (columns : List (List ℕ)) (c : Call) → call_of known w columns ≡ Ok c → IsCallFit known c
unfolding call_of
call_fits known w columns c e =
    let a = unless (not known.script) place _ c e in
    let b = unless (not (eqb (length columns) (call_columns w))) words _ c a.1 in
    let d = checked_takes (call_known known) (call_in_range (page_bytes known.large)) (call_says w columns) c b.1 in
    record { form = call_form w columns c d.says; placed = not_false known.script a.0; declared = d.names; in_range = d.ranges }

-- ---- lines

pub as_line_takes : {A : Type 0} (make : A → Line) (r : Result A ℕ) (x : Line) → as_line make r ≡ Ok x → (y : A) × (r ≡ Ok y) × (make y ≡ x)
as_line_takes make (Ok y) x e = (y, refl, ok_takes (make y) x e)
as_line_takes make (Err k) x e = absurd cc

keyword_fits : (known : Known) (k : Option Keyword) (columns : List (List ℕ)) (x : Line) → said_if known k columns ≡ Ok x → IsFit known x
keyword_fits known None columns x e = absurd cc
keyword_fits known (Some (key.Head w)) columns x e =
    let m = as_line_takes (λ h. line.Head h) (head_of known w columns) x e in
    subst (IsFit known) m.2 (head_fits known w columns m.0 m.1)
keyword_fits known (Some key.Script) columns x e =
    let a = unless (not (eqb (length columns) 0)) words (Ok line.Script) x e in
    subst (IsFit known) (ok_takes line.Script x a.1) tt
keyword_fits known (Some (key.Call w)) columns x e =
    let m = as_line_takes (λ c. line.Call c) (call_of known w columns) x e in
    subst (IsFit known) m.2 (call_fits known w columns m.0 m.1)

said_fits : (known : Known) (ws : List (List ℕ)) (x : Line) → said_of known ws ≡ Ok x → IsFit known x
said_fits known [] x e = absurd cc
said_fits known (w ∷ columns) x e = keyword_fits known (keyword_of w) columns x e

pub line_fits : (known : Known) (text : List ℕ) (x : Line) → line_of known text ≡ Ok x → IsFit known x
unfolding line_of
line_fits known text x e = said_fits known (words_of text) x (unless (not (list_all is_text_byte text)) _ _ x e).1

-- ---- texts

-- lines behind others, each of which fits
record Fits (above all : List Line) : Type 0 where
  pub more : List Line
  pub is : all ≡ above ++ more
  pub fit : AreFit above more

pub lines_take : {A : Type 0} (x y : A) → ◌≡◌ {A = Result A Flaw} (Ok x) (Ok y) → x ≡ y
lines_take x y e = cc

one_more : (above : List Line) (n : ℕ) (t : List ℕ) (ts : List (List ℕ)) (all : List Line) (s : Bool) (r : Result Line ℕ)
    → is_skipped t ≡ s → line_of (known_of above) t ≡ r → said_behind above n (t ∷ ts) ≡ Ok all
    → ((others : List Line) (m : ℕ) → said_behind others m ts ≡ Ok all → Fits others all) → Fits above all
one_more above n t ts all true r skipped is e more = more above (n + 1) (sym (skips above n t ts skipped) ∙ e)
one_more above n t ts all false (Err k) told is e more =
    let bad = sym e ∙ is_bad above n t ts k told is in absurd cc
one_more above n t ts all false (Ok x) told is e more =
    let f = more (above ++ x ∷ []) (n + 1) (sym (speaks above n t ts x told is) ∙ e) in
    record { more = x ∷ f.more; is = f.is ∙ append_assoc above (x ∷ []) f.more; fit = (line_fits (known_of above) t x is, f.fit) }

behind_fits : (above : List Line) (n : ℕ) (ts : List (List ℕ)) (all : List Line) → said_behind above n ts ≡ Ok all → Fits above all
behind_fits above n [] all e = record { more = []; is = sym (append-nil above ∙ lines_take above all (sym (at_end above n) ∙ e)); fit = tt }
behind_fits above n (t ∷ ts) all e =
    one_more above n t ts all (is_skipped t) (line_of (known_of above) t) refl refl e (λ others m e. behind_fits others m ts all e)

unless_flaw : {A : Type 0} (t : Bool) (k : Flaw) (r : Result A Flaw) (x : A) → cond t (Err k) r ≡ Ok x → (t ≡ false) × (r ≡ Ok x)
unless_flaw true k r x e = absurd cc
unless_flaw false k r x e = (refl, e)

if_flaw : {A : Type 0} (t : Bool) (k : Flaw) (r : Result A Flaw) (x : A) → cond t r (Err k) ≡ Ok x → r ≡ Ok x
if_flaw true k r x e = e
if_flaw false k r x e = absurd cc

texts_fit : (ts : List (List ℕ)) (all : List Line) → said_by_lines ts ≡ Ok all → AreFit [] all
texts_fit [] all e = absurd cc
texts_fit (t ∷ ts) all e =
    let a = unless_flaw (not (list_all is_text_byte t)) _ _ all e in
    let f = behind_fits [] 2 ts all (if_flaw (bytes_eq t opening) _ _ all a.1) in
    subst (AreFit []) (sym f.is) f.fit

pub meets : (text : List ℕ) (scene : Scene) → IsScene text scene → MeetsGrammar scene
unfolding said
meets text scene e = texts_fit (lines_of text) (scene_lines scene) e
