-- What each header line and each call of a scene that meets the grammar keeps.
use Rattle.std.proofs.Common.{◌≡◌, ℕ, ◌^◌, ◌<◌, ◌≤◌, cond, Bool, true, false, ltb, List, [], ◌∷◌, ◌++◌, map, refl, ap, sym, subst, ◌∙◌, append_assoc, arith}
use Rattle.std.specs.Prelude.{All, ◌&&◌, ◌||◌, IsAscii, count_by}
use Rattle.std.specs.List.{flat_map, list_any, AllByRecursion}
use Rattle.std.proofs.lemmas.List.{append-nil}
use Rattle.std.proofs.lemmas.List.Concat.{flat_map-cons}
use Rattle.std.proofs.lemmas.List.Elements.{All-from_recursion, All-weaker}
use Rattle.std.proofs.lemmas.List.Folds.{list_any-append}
use Rattle.std.proofs.lemmas.List.Sums.{sum_by-append}
use Rattle.std.proofs.lemmas.Bool.{and_parts}
use Rattle.std.proofs.lemmas.Bool.Decides.{nat_tests}
use Rattle.cs_policy.specs.declared.call.Call.{Call}
use Rattle.cs_policy.specs.declared.call.Call.TheVariants as call
use Rattle.pg_words.proofs.WordFacts.{IsAscii-from_graphic}
use Rattle.pg_words.proofs.NumeralFacts.{guarded_takes}
use Rattle.scene_text.specs.declared.head.Head.{Head}
use Rattle.scene_text.specs.declared.head.Head.TheVariants as head
use Rattle.scene_text.specs.declared.line.Line.{Line}
use Rattle.scene_text.specs.declared.line.Line.TheVariants as line
use Rattle.scene_text.specs.declared.line.Known.{Known}
use Rattle.scene_text.specs.declared.whole.Scene.{Scene}
use Rattle.scene_text.specs.Scenes.{script_lines, scene_lines}
use Rattle.scene_text.specs.Known.{is_file, is_process, is_cache, is_script, is_adhoc, large_after, large_from, known_of, page_bytes}
use Rattle.scene_text.specs.Headers.{path_word, head_in_range, IsPath, HeadHasForm}
use Rattle.scene_text.specs.Calls.{call_known, call_in_range}
use Rattle.scene_text.specs.Texts.{IsCallFit, AreFit, MeetsGrammar}
use Rattle.scene_open.specs.Drafts.{IsReadable}
use Rattle.scene_open.specs.Fits.{AreDeclared}

-- ---- header lines

-- the forms and the ranges of a header line
pub record IsSaid (h : Head) : Type 0 where
  pub form : HeadHasForm h
  pub in_range : head_in_range h ≡ true

heads_said : (heads : List Head) (above rest : List Line) → AreFit above (map (λ h. line.Head h) heads ++ rest) → AllByRecursion IsSaid heads
heads_said [] above rest fit = tt
heads_said (h ∷ heads) above rest fit =
    (record { form = fit.0.form; in_range = fit.0.in_range }, heads_said heads (above ++ line.Head h ∷ []) rest fit.1)

pub said_heads : (scene : Scene) → MeetsGrammar scene → AllByRecursion IsSaid scene.head
said_heads scene fit = heads_said scene.head [] (flat_map script_lines scene.scripts) fit

ascii_path : (path : List ℕ) → IsPath path → IsAscii path
unfolding path_word
ascii_path path e =
    let g = guarded_takes _ _ path e in
    let w = and_parts _ _ g.0 in
    IsAscii-from_graphic path w.1

below_32 : (n : ℕ) → ltb n (2 ^ 32) ≡ true → n < 2 ^ 32
below_32 n e = grind (arith, nat_tests)

readable : (h : Head) → IsSaid h → IsReadable h
readable (head.PageSize bytes) s = tt
readable head.Adhoc s = tt
readable (head.Resident pages) s = tt
readable (head.File path) s = ascii_path path s.form
readable (head.Raw path off len) s =
    let r = and_parts _ _ s.in_range in
    (ascii_path path s.form.0, below_32 off r.0, below_32 len r.1)
readable (head.Static path) s = ascii_path path s.form
readable (head.Admit cdhash) s = tt
readable (head.Cache path) s = ascii_path path s.form
readable (head.Process flags) s = tt
readable (head.Fail file number) s = tt

pub all_readable : (scene : Scene) → MeetsGrammar scene → All IsReadable scene.head
all_readable scene fit = All-weaker IsSaid IsReadable readable scene.head (All-from_recursion IsSaid scene.head (said_heads scene fit))

-- ---- what lines declare together

-- the first lines declare no more than all
record IsLess (less more : Known) : Type 0 where
  pub files : less.files ≤ more.files
  pub processes : less.processes ≤ more.processes
  pub caches : less.caches ≤ more.caches
  pub large : less.large ≡ more.large
  pub script : less.script ≡ true → more.script ≡ true

below_more : (n a b : ℕ) → a ≤ b → ltb n a ≡ true → ltb n b ≡ true
below_more n a b le e = grind (arith, nat_tests)

both_more : (a b c d : Bool) → (a ≡ true → b ≡ true) → (c ≡ true → d ≡ true) → (a && c) ≡ true → (b && d) ≡ true
both_more a b c d f g e = let p = and_parts a c e in rw (f p.0, g p.1) refl

known_more : (less more : Known) → IsLess less more → (c : Call) → call_known less c ≡ true → call_known more c ≡ true
known_more less more le (call.Spawn pid) e = below_more pid _ _ le.processes e
known_more less more le (call.Map pid addr file first pages prot shared) e =
    both_more _ _ _ _ (below_more pid _ _ le.processes) (below_more file _ _ le.files) e
known_more less more le (call.Unmap pid addr) e = below_more pid _ _ le.processes e
known_more less more le (call.Attach file slice) e = below_more file _ _ le.files e
known_more less more le (call.LoadTrust cache) e = below_more cache _ _ le.caches e
known_more less more le (call.Fault pid addr access) e = below_more pid _ _ le.processes e
known_more less more le (call.Store pid addr bytes) e = below_more pid _ _ le.processes e
known_more less more le (call.Load pid addr count) e = below_more pid _ _ le.processes e
known_more less more le (call.Fetch pid addr count) e = below_more pid _ _ le.processes e
known_more less more le (call.Write file at piece) e = below_more file _ _ le.files e
known_more less more le (call.Evict file page) e = below_more file _ _ le.files e
known_more less more le (call.Debug pid) e = below_more pid _ _ le.processes e
known_more less more le (call.Exit pid) e = below_more pid _ _ le.processes e

call_more : (less more : Known) → IsLess less more → (c : Call) → IsCallFit less c → IsCallFit more c
call_more less more le c fit = record {
  form = fit.form;
  placed = le.script fit.placed;
  declared = known_more less more le c fit.declared;
  in_range = ap (λ l. call_in_range (page_bytes l) c) (sym le.large) ∙ fit.in_range;
}

-- lines of scripts say nothing of the size of a page
large_calls : (calls : List Call) (before : Bool) (rest : List Line) → large_from before (map (λ c. line.Call c) calls ++ rest) ≡ large_from before rest
large_calls [] before rest = refl
large_calls (c ∷ calls) before rest = large_calls calls before rest

large_scripts : (scripts : List (List Call)) (before : Bool) → large_from before (flat_map script_lines scripts) ≡ before
large_scripts [] before = refl
large_scripts (calls ∷ scripts) before =
    ap (large_from before) (flat_map-cons script_lines calls scripts) ∙ large_calls calls before (flat_map script_lines scripts) ∙ large_scripts scripts before

large_join : (lines rest : List Line) (before : Bool) → large_from before (lines ++ rest) ≡ large_from (large_from before lines) rest
large_join [] rest before = refl
large_join (x ∷ lines) rest before = large_join lines rest (large_after before x)

-- the size of a page is what the header lines say
pub large_heads : (scene : Scene) → large_from false (scene_lines scene) ≡ large_from false (map (λ h. line.Head h) scene.head)
large_heads scene =
    large_join (map (λ h. line.Head h) scene.head) (flat_map script_lines scene.scripts) false ∙ large_scripts scene.scripts (large_from false (map (λ h. line.Head h) scene.head))

-- a test of what is made of each
pub any_map : {A B : Type 0} (p : B → Bool) (f : A → B) (xs : List A) → list_any p (map f xs) ≡ list_any (λ x. p (f x)) xs
any_map p f [] = refl
any_map p f (x ∷ xs) = ap (λ t. p (f x) || t) (any_map p f xs)

-- and so is the policy
any_calls : (calls : List Call) → list_any is_adhoc (map (λ c. line.Call c) calls) ≡ false
any_calls [] = refl
any_calls (c ∷ calls) = any_calls calls

any_scripts : (scripts : List (List Call)) → list_any is_adhoc (flat_map script_lines scripts) ≡ false
any_scripts [] = refl
any_scripts (calls ∷ scripts) =
    ap (list_any is_adhoc) (flat_map-cons script_lines calls scripts) ∙ list_any-append is_adhoc (script_lines calls) (flat_map script_lines scripts)
    ∙ (λ i. any_calls calls i || any_scripts scripts i)

or_false : (t : Bool) → (t || false) ≡ t
or_false true = refl
or_false false = refl

pub adhoc_heads : (scene : Scene) → list_any is_adhoc (scene_lines scene) ≡ list_any is_adhoc (map (λ h. line.Head h) scene.head)
adhoc_heads scene =
    list_any-append is_adhoc (map (λ h. line.Head h) scene.head) (flat_map script_lines scene.scripts)
    ∙ ap (λ t. list_any is_adhoc (map (λ h. line.Head h) scene.head) || t) (any_scripts scene.scripts) ∙ or_false _

-- ---- the calls

-- some lines of scripts are left behind these
record IsPart (above rest whole : List Line) : Type 0 where
  pub joined : whole ≡ above ++ rest
  pub quiet : (before : Bool) → large_from before rest ≡ before

any_true : (p : Line → Bool) (xs ys : List Line) → list_any p xs ≡ true → list_any p (xs ++ ys) ≡ true
any_true p xs ys e = list_any-append p xs ys ∙ rw e refl

part_less : (above rest whole : List Line) → IsPart above rest whole → IsLess (known_of above) (known_of whole)
part_less above rest whole part = rw part.joined (record {
  files = fewer is_file;
  processes = fewer is_process;
  caches = fewer is_cache;
  large = sym (large_join above rest false ∙ part.quiet (large_from false above));
  script = any_true is_script above rest;
})
  where
    fewer : (p : Line → Bool) → count_by p above ≤ count_by p (above ++ rest)
    fewer p = let s = sum_by-append (λ x. cond (p x) 1 0) above rest in omega arith

calls_fit : (calls : List Call) (above rest whole : List Line) → IsPart above (map (λ c. line.Call c) calls ++ rest) whole
    → AreFit above (map (λ c. line.Call c) calls ++ rest) → AllByRecursion (IsCallFit (known_of whole)) calls
calls_fit [] above rest whole part fit = tt
calls_fit (c ∷ calls) above rest whole part fit =
    let next : IsPart (above ++ line.Call c ∷ []) (map (λ d. line.Call d) calls ++ rest) whole =
    record { joined = part.joined ∙ sym (append_assoc above (line.Call c ∷ []) (map (λ d. line.Call d) calls ++ rest)); quiet = part.quiet } in
    (call_more _ _ (part_less above _ whole part) c fit.0, calls_fit calls (above ++ line.Call c ∷ []) rest whole next fit.1)

-- what is left behind the calls fits behind them
rest_fit : (xs rest above : List Line) → AreFit above (xs ++ rest) → AreFit (above ++ xs) rest
rest_fit [] rest above fit = rw append-nil fit
rest_fit (x ∷ xs) rest above fit = rw (← append_assoc above (x ∷ []) xs) (rest_fit xs rest (above ++ x ∷ []) fit.1)

scripts_fit : (scripts : List (List Call)) (above whole : List Line) → IsPart above (flat_map script_lines scripts) whole
    → AreFit above (flat_map script_lines scripts) → AllByRecursion (All (IsCallFit (known_of whole))) scripts
scripts_fit [] above whole part fit = tt
scripts_fit (calls ∷ scripts) above whole part fit =
    let rest = flat_map script_lines scripts in
    let split = flat_map-cons script_lines calls scripts in
    let here : AreFit above (script_lines calls ++ rest) = subst (AreFit above) split fit in
    let begun : IsPart (above ++ line.Script ∷ []) (map (λ c. line.Call c) calls ++ rest) whole = record {
      joined = part.joined ∙ ap (λ more. above ++ more) split ∙ sym (append_assoc above (line.Script ∷ []) (map (λ c. line.Call c) calls ++ rest));
      quiet = λ before. large_calls calls before rest ∙ large_scripts scripts before;
    } in
    let after : IsPart (above ++ script_lines calls) rest whole = record {
      joined = part.joined ∙ ap (λ more. above ++ more) split ∙ sym (append_assoc above (script_lines calls) rest);
      quiet = large_scripts scripts;
    } in (
      All-from_recursion _ calls (calls_fit calls (above ++ line.Script ∷ []) rest whole begun here.1),
      scripts_fit scripts (above ++ script_lines calls) whole after (rest_fit (script_lines calls) rest above here),
    )

pub scene_calls : (scene : Scene) → MeetsGrammar scene → AreDeclared (known_of (scene_lines scene)) scene.scripts
scene_calls scene fit =
    let heads = map (λ h. line.Head h) scene.head in
    All-from_recursion _ scene.scripts
    (scripts_fit scene.scripts heads (scene_lines scene) (record { joined = refl; quiet = large_scripts scene.scripts })
    (rest_fit heads (flat_map script_lines scene.scripts) [] fit))
