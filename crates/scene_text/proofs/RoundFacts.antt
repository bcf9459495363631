-- A scene as it is printed is read as the scene.
use Rattle.std.proofs.Common.{◌≡◌, ℕ, ◌+◌, ◌<◌, false, List, [], ◌∷◌, ◌++◌, map, length, codes, Some, Ok, refl, ap, sym, ◌∙◌, append_assoc, arith}
use Rattle.std.specs.List.{flat_map}
use Rattle.std.proofs.lemmas.Bool.{eq-eqb}
use Rattle.std.proofs.lemmas.List.{append-nil}
use Rattle.std.proofs.lemmas.List.Concat.{flat_map-cons}
use Rattle.std.proofs.lemmas.List.Folds.{flat_map-map}
use Rattle.std.proofs.lemmas.Grind.{flat_map-append}
use Rattle.pg_words.specs.Lines.{lines_of, line_text, AreWords}
use Rattle.pg_words.proofs.LineFacts.{words_of_line, line_is_text, first_line, no_line}
use Rattle.cs_policy.specs.declared.call.Call.{Call}
use Rattle.cs_policy.specs.declared.call.Call.TheVariants.{Spawn, Map, Unmap, Attach, LoadTrust, Fault, Store, Load, Fetch, Write, Evict, Debug, Exit}
use Rattle.scene_text.specs.declared.head.Head.{Head}
use Rattle.scene_text.specs.declared.head.Head.TheVariants.{PageSize, Adhoc, Resident, File, Raw, Static, Admit, Cache, Process, Fail}
use Rattle.scene_text.specs.declared.line.Line.{Line}
use Rattle.scene_text.specs.declared.line.Line.TheVariants as line
use Rattle.scene_text.specs.declared.line.Known.{Known}
use Rattle.scene_text.specs.declared.whole.Scene.{Scene}
use Rattle.scene_text.specs.declared.keywords.Keyword.TheVariants as key
use Rattle.scene_text.specs.Keywords.{keyword_of}
use Rattle.scene_text.specs.Scenes.{script_lines, lines_in, scene_lines}
use Rattle.scene_text.specs.Known.{known_of}
use Rattle.scene_text.specs.Headers.{head_key, head_line}
use Rattle.scene_text.specs.Calls.{call_key, call_line}
use Rattle.scene_text.specs.Lines.{head_of, call_of, said_of, line_of}
use Rattle.scene_text.specs.Texts.{is_skipped, said_behind, said_by_lines, said, words_in, printed_line, printed, IsHeadFit, IsCallFit, IsFit, AreFit, MeetsGrammar, IsScene}
use Rattle.scene_text.specs.Printing.{script_text}
use Rattle.scene_text.proofs.HeaderFacts.{head_rest, head_line_is, head_count, head_keyword, head_again, head_words_are}
use Rattle.scene_text.proofs.CallFacts.{call_rest, call_line_is, call_count, call_keyword, call_again, call_words_are}
use Rattle.scene_text.proofs.LoopFacts.{skips, speaks, at_end}

head_fits : (known : Known) (h : Head) → IsHeadFit known h → head_of known (head_key h) (head_rest h) ≡ Ok h
unfolding head_of
head_fits known h fit = rw (fit.placed, eq-eqb _ _ (head_count h), head_again h fit.form, fit.declared, fit.in_range) refl

call_fits : (known : Known) (c : Call) → IsCallFit known c → call_of known (call_key c) (call_rest c) ≡ Ok c
unfolding call_of
call_fits known c fit = rw (fit.placed, eq-eqb _ _ (call_count c), call_again c fit.form, fit.declared, fit.in_range) refl

script_keyword : keyword_of (codes "script") ≡ Some key.Script
unfolding keyword_of
script_keyword = refl

-- the words of a line that fits say the line
words_say : (known : Known) (x : Line) → IsFit known x → said_of known (words_in x) ≡ Ok x
words_say known (line.Head h) fit = ap (said_of known) (head_line_is h) ∙ rw (head_keyword (head_key h), head_fits known h fit) refl
words_say known line.Script fit = rw script_keyword refl
words_say known (line.Call c) fit = ap (said_of known) (call_line_is c) ∙ rw (call_keyword (call_key c), call_fits known c fit) refl

words_are : (known : Known) (x : Line) → IsFit known x → AreWords (words_in x)
words_are known (line.Head h) fit = head_words_are h fit.form
words_are known line.Script fit = (refl, tt)
words_are known (line.Call c) fit = call_words_are c fit.form

some_words : (x : Line) → 0 < length (words_in x)
some_words (line.Head h) = rw (head_line_is h) (omega arith)
some_words line.Script = omega arith
some_words (line.Call c) = rw (call_line_is c) (omega arith)

head_told : (h : Head) → is_skipped (line_text (head_line h)) ≡ false
head_told (PageSize bytes) = refl
head_told Adhoc = refl
head_told (Resident pages) = refl
head_told (File path) = refl
head_told (Raw path off len) = refl
head_told (Static path) = refl
head_told (Admit cdhash) = refl
head_told (Cache path) = refl
head_told (Process flags) = refl
head_told (Fail file call) = refl

call_told : (c : Call) → is_skipped (line_text (call_line c)) ≡ false
call_told (Spawn pid) = refl
call_told (Map pid addr file first pages prot shared) = refl
call_told (Unmap pid addr) = refl
call_told (Attach file slice) = refl
call_told (LoadTrust cache) = refl
call_told (Fault pid addr access) = refl
call_told (Store pid addr bytes) = refl
call_told (Load pid addr count) = refl
call_told (Fetch pid addr count) = refl
call_told (Write file at piece) = refl
call_told (Evict file page) = refl
call_told (Debug pid) = refl
call_told (Exit pid) = refl

told : (x : Line) → is_skipped (line_text (words_in x)) ≡ false
told (line.Head h) = head_told h
told line.Script = refl
told (line.Call c) = call_told c

pub line_says : (known : Known) (x : Line) → IsFit known x → line_of known (line_text (words_in x)) ≡ Ok x
unfolding line_of
line_says known x fit = rw (line_is_text (words_in x) (words_are known x fit), words_of_line (words_in x) (some_words x) (words_are known x fit)) (words_say known x fit)

-- lines that fit are read one after another
lines_say : (lines above : List Line) (number : ℕ) → AreFit above lines → said_behind above number (lines_of (flat_map printed_line lines)) ≡ Ok (above ++ lines)
lines_say [] above number fit =
    ap (said_behind above number) no_line ∙ skips above number [] [] refl ∙ at_end above (number + 1) ∙ ap (λ (all : List Line). Ok all) (sym (append-nil above))
lines_say (x ∷ lines) above number fit =
    let text = line_text (words_in x) in
    let rest = flat_map printed_line lines in
    let parts : flat_map printed_line (x ∷ lines) ≡ text ++ 10 ∷ rest = flat_map-cons printed_line x lines ∙ append_assoc text (codes "\n") rest in
    let first : lines_of (flat_map printed_line (x ∷ lines)) ≡ text ∷ lines_of rest = ap lines_of parts ∙ first_line text rest (line_is_text (words_in x) (words_are (known_of above) x fit.0)) in
    ap (said_behind above number) first ∙ speaks above number text (lines_of rest) x (told x) (line_says (known_of above) x fit.0)
    ∙ lines_say lines (above ++ x ∷ []) (number + 1) fit.1 ∙ ap (λ (all : List Line). Ok all) (append_assoc above (x ∷ []) lines)

pub read_again : (scene : Scene) → MeetsGrammar scene → IsScene (printed scene) scene
unfolding said printed
read_again scene fit =
    let rest = flat_map printed_line (scene_lines scene) in
    ap said_by_lines (first_line (codes "scene 1") rest refl) ∙ lines_say (scene_lines scene) [] 2 fit

-- what is printed, part by part
scripts_printed : (scripts : List (List Call)) → flat_map printed_line (flat_map script_lines scripts) ≡ flat_map script_text scripts
scripts_printed [] = refl
scripts_printed (calls ∷ scripts) =
    ap (flat_map printed_line) (flat_map-cons script_lines calls scripts) ∙ flat_map-append printed_line (script_lines calls) (flat_map script_lines scripts)
    ∙ (λ i. (flat_map-cons printed_line line.Script (map (λ c. line.Call c) calls) ∙ ap (λ (more : List ℕ). codes "script\n" ++ more) (flat_map-map printed_line (λ c. line.Call c) calls)) i ++ scripts_printed scripts i)
    ∙ sym (flat_map-cons script_text calls scripts)

pub printed_parts : (head : List Head) (scripts : List (List Call)) → (codes "scene 1\n" ++ flat_map (λ h. printed_line (line.Head h)) head) ++ flat_map script_text scripts ≡ codes "scene 1\n" ++ flat_map printed_line (lines_in head scripts)
printed_parts head scripts =
    ap (λ (more : List ℕ). codes "scene 1\n" ++ more)
    ((λ i. sym (flat_map-map printed_line (λ h. line.Head h) head) i ++ sym (scripts_printed scripts) i) ∙ sym (flat_map-append printed_line (map (λ h. line.Head h) head) (flat_map script_lines scripts)))

-- the text that is made part by part
pub made_is : (scene : Scene) (text mid new : List ℕ) (head : List Head) (scripts : List (List Call)) → text ≡ codes "scene 1\n" → head ≡ scene.head → scripts ≡ scene.scripts
    → mid ≡ text ++ flat_map (λ h. printed_line (line.Head h)) head → new ≡ mid ++ flat_map script_text scripts → new ≡ printed scene
unfolding printed
made_is scene text mid new head scripts e h s m n =
    n ∙ (λ i. m i ++ flat_map script_text (s i)) ∙ (λ i. (e i ++ flat_map (λ x. printed_line (line.Head x)) (h i)) ++ flat_map script_text scene.scripts) ∙ printed_parts scene.head scene.scripts
