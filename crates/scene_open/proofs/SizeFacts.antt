-- A scene within the limits has few header lines.
use Rattle.std.proofs.Common.{◌≡◌, ℕ, ◌+◌, ◌^◌, ◌<◌, ◌≤◌, cond, Bool, true, false, List, [], ◌∷◌, ◌++◌, map, length, refl, ap, ◌∙◌, arith}
use Rattle.std.specs.Prelude.{◌||◌, count_by}
use Rattle.std.specs.List.{list_any, flat_map}
use Rattle.std.proofs.lemmas.List.Sums.{sum_by-cons}
use Rattle.std.proofs.lemmas.List.Folds.{list_any-append}
use Rattle.scene_text.specs.declared.head.Head.{Head}
use Rattle.scene_text.specs.declared.head.Head.TheVariants as head
use Rattle.scene_text.specs.declared.line.Line.{Line}
use Rattle.scene_text.specs.declared.line.Line.TheVariants as line
use Rattle.scene_text.specs.declared.whole.Scene.{Scene}
use Rattle.scene_text.specs.Scenes.{script_lines, scene_lines}
use Rattle.scene_text.specs.Known.{is_file, is_process, is_cache, is_page_size, is_resident, is_adhoc, known_of}
use Rattle.scene_text.specs.Texts.{IsHeadFit, AreFit, MeetsGrammar}
use Rattle.scene_open.specs.Limits.{is_static, is_fail, IsWithin}
use Rattle.scene_open.proofs.CountFacts.{heads_count}

abbrev kind : (Line → Bool) → Head → ℕ
kind p h = cond (p (line.Head h)) 1 0

abbrev many : (Line → Bool) → List Head → ℕ
many p heads = count_by (λ h. p (line.Head h)) heads

-- each header line is of one kind
one_kind : (h : Head) → 1 ≡ kind is_file h + kind is_process h + kind is_static h + kind is_cache h + kind is_fail h + kind is_page_size h + kind is_resident h + kind is_adhoc h
one_kind (head.PageSize bytes) = refl
one_kind head.Adhoc = refl
one_kind (head.Resident pages) = refl
one_kind (head.File path) = refl
one_kind (head.Raw path off len) = refl
one_kind (head.Static path) = refl
one_kind (head.Admit cdhash) = refl
one_kind (head.Cache path) = refl
one_kind (head.Process flags) = refl
one_kind (head.Fail file number) = refl

by_kind : (heads : List Head) → length heads ≡ many is_file heads + many is_process heads + many is_static heads + many is_cache heads + many is_fail heads + many is_page_size heads + many is_resident heads + many is_adhoc heads
by_kind [] = refl
by_kind (h ∷ heads) =
    let one = one_kind h in
    let rest = by_kind heads in
    let a = sum_by-cons (λ x. cond (is_file (line.Head x)) 1 0) h heads in
    let b = sum_by-cons (λ x. cond (is_process (line.Head x)) 1 0) h heads in
    let c = sum_by-cons (λ x. cond (is_static (line.Head x)) 1 0) h heads in
    let d = sum_by-cons (λ x. cond (is_cache (line.Head x)) 1 0) h heads in
    let e = sum_by-cons (λ x. cond (is_fail (line.Head x)) 1 0) h heads in
    let f = sum_by-cons (λ x. cond (is_page_size (line.Head x)) 1 0) h heads in
    let g = sum_by-cons (λ x. cond (is_resident (line.Head x)) 1 0) h heads in
    let i = sum_by-cons (λ x. cond (is_adhoc (line.Head x)) 1 0) h heads in
    omega (arith, one, rest, a, b, c, d, e, f, g, i)

-- ---- lines that stand once

cond_le : (t : Bool) → cond t 1 0 ≤ 1
cond_le true = omega arith
cond_le false = omega arith

or_true : (t : Bool) → (t || true) ≡ true
or_true true = refl
or_true false = refl

or_false : (t : Bool) → (t || false) ≡ t
or_false true = refl
or_false false = refl

right_false : (s t : Bool) → (s || t) ≡ false → t ≡ false
right_false true t e = absurd cc
right_false false t e = e

any_one : (p : Line → Bool) (above : List Line) (x : Line) → list_any p (above ++ x ∷ []) ≡ (list_any p above || (p x || false))
any_one p above x = list_any-append p above (x ∷ [])

-- one more line, where it is of the kind or not
step : (p : Line → Bool) (h : Head) (heads : List Head) (above : List Line) (t : Bool) → p (line.Head h) ≡ t → (p (line.Head h) ≡ true → list_any p above ≡ false)
    → many p heads + cond (list_any p (above ++ line.Head h ∷ [])) 1 0 ≤ 1 → many p (h ∷ heads) + cond (list_any p above) 1 0 ≤ 1
step p h heads above true is first rest =
    let count = sum_by-cons (λ x. cond (p (line.Head x)) 1 0) h heads ∙ ap {B = ℕ} (λ t. cond t 1 0 + many p heads) is in
    let none = ap {B = ℕ} (λ t. cond t 1 0) (first is) in
    let now = ap {B = ℕ} (λ t. cond t 1 0) (any_one p above (line.Head h) ∙ ap (λ t. list_any p above || (t || false)) is ∙ or_true (list_any p above)) in
    omega (arith, count, none, now, rest)
step p h heads above false is first rest =
    let count = sum_by-cons (λ x. cond (p (line.Head x)) 1 0) h heads ∙ ap {B = ℕ} (λ t. cond t 1 0 + many p heads) is in
    let now = ap {B = ℕ} (λ t. cond t 1 0) (any_one p above (line.Head h) ∙ ap (λ t. list_any p above || (t || false)) is ∙ or_false (list_any p above)) in
    omega (arith, count, now, rest)

once : (p : Line → Bool) → ((above : List Line) (h : Head) → IsHeadFit (known_of above) h → p (line.Head h) ≡ true → list_any p above ≡ false)
    → (heads : List Head) (above rest : List Line) → AreFit above (map (λ h. line.Head h) heads ++ rest) → many p heads + cond (list_any p above) 1 0 ≤ 1
once p first [] above rest fit = cond_le_zero (list_any p above)
  where
    cond_le_zero : (t : Bool) → 0 + cond t 1 0 ≤ 1
    cond_le_zero true = omega arith
    cond_le_zero false = omega arith
once p first (h ∷ heads) above rest fit =
    step p h heads above (p (line.Head h)) refl (first above h fit.0) (once p first heads (above ++ line.Head h ∷ []) rest fit.1)

first_size : (above : List Line) (h : Head) → IsHeadFit (known_of above) h → is_page_size (line.Head h) ≡ true → list_any is_page_size above ≡ false
first_size above (head.PageSize bytes) fit e = right_false _ _ fit.placed
first_size above head.Adhoc fit e = absurd cc
first_size above (head.Resident pages) fit e = absurd cc
first_size above (head.File path) fit e = absurd cc
first_size above (head.Raw path off len) fit e = absurd cc
first_size above (head.Static path) fit e = absurd cc
first_size above (head.Admit cdhash) fit e = absurd cc
first_size above (head.Cache path) fit e = absurd cc
first_size above (head.Process flags) fit e = absurd cc
first_size above (head.Fail file number) fit e = absurd cc

first_resident : (above : List Line) (h : Head) → IsHeadFit (known_of above) h → is_resident (line.Head h) ≡ true → list_any is_resident above ≡ false
first_resident above (head.Resident pages) fit e = right_false _ _ fit.placed
first_resident above head.Adhoc fit e = absurd cc
first_resident above (head.PageSize bytes) fit e = absurd cc
first_resident above (head.File path) fit e = absurd cc
first_resident above (head.Raw path off len) fit e = absurd cc
first_resident above (head.Static path) fit e = absurd cc
first_resident above (head.Admit cdhash) fit e = absurd cc
first_resident above (head.Cache path) fit e = absurd cc
first_resident above (head.Process flags) fit e = absurd cc
first_resident above (head.Fail file number) fit e = absurd cc

first_policy : (above : List Line) (h : Head) → IsHeadFit (known_of above) h → is_adhoc (line.Head h) ≡ true → list_any is_adhoc above ≡ false
first_policy above head.Adhoc fit e = right_false _ _ fit.placed
first_policy above (head.PageSize bytes) fit e = absurd cc
first_policy above (head.Resident pages) fit e = absurd cc
first_policy above (head.File path) fit e = absurd cc
first_policy above (head.Raw path off len) fit e = absurd cc
first_policy above (head.Static path) fit e = absurd cc
first_policy above (head.Admit cdhash) fit e = absurd cc
first_policy above (head.Cache path) fit e = absurd cc
first_policy above (head.Process flags) fit e = absurd cc
first_policy above (head.Fail file number) fit e = absurd cc

pub few_heads : (scene : Scene) → MeetsGrammar scene → IsWithin (scene_lines scene) → length scene.head < 2 ^ 32
few_heads scene fit within =
    let all = by_kind scene.head in
    let rest = flat_map script_lines scene.scripts in
    let a = heads_count is_file refl (λ c. refl) scene in
    let b = heads_count is_process refl (λ c. refl) scene in
    let c = heads_count is_static refl (λ c. refl) scene in
    let d = heads_count is_cache refl (λ c. refl) scene in
    let e = heads_count is_fail refl (λ c. refl) scene in
    let f = once is_page_size first_size scene.head [] rest fit in
    let g = once is_resident first_resident scene.head [] rest fit in
    let h = once is_adhoc first_policy scene.head [] rest fit in
    omega (arith, all, a, b, c, d, e, f, g, h, within.files, within.processes, within.statics, within.caches, within.fails)
