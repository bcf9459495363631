-- The lines of a scene, counted over its header lines and its scripts.
use Rattle.std.proofs.Common.{◌≡◌, ℕ, ◌+◌, ◌-◌, ◌^◌, ◌<◌, ◌≤◌, cond, Bool, true, false, ltb, List, [], ◌∷◌, map, length, Option, Some, None, refl, ap, sym, subst, ◌∙◌, arith}
use Rattle.std.specs.Prelude.{min}
use Rattle.std.specs.Option.{option_or}
use Rattle.std.proofs.lemmas.Bool.{lt-ltb, le-ltb}
use Rattle.std.proofs.lemmas.Bool.Decides.{nat_tests}
use Rattle.pg_bytes.specs.declared.status.Status.{Status}
use Rattle.pg_bytes.specs.declared.status.Status.TheVariants.{Limit}
use Rattle.pg_bytes.specs.declared.status.Which.{Which}
use Rattle.pg_bytes.specs.declared.status.Which.TheVariants as which
use Rattle.pg_bytes.specs.Rules.{first}
use Rattle.scene_text.specs.Known.{is_file, is_process, is_cache, is_script}
use Rattle.scene_open.specs.Limits.{is_call, is_attach, is_static, is_fail, above, over_limit, IsWithin}
use Rattle.scene_open.specs.Ends.{IsEndCaused}
use Rattle.std.specs.List.{flat_map, sum_by, count_by}
use Rattle.std.proofs.lemmas.List.Sums.{sum_by-append, sum_by-cons}
use Rattle.std.proofs.lemmas.List.Concat.{flat_map-cons}
use Rattle.cs_policy.specs.declared.call.Call.{Call}
use Rattle.scene_text.specs.declared.head.Head.{Head}
use Rattle.scene_text.specs.declared.line.Line.{Line}
use Rattle.scene_text.specs.declared.line.Line.TheVariants as line
use Rattle.scene_text.specs.declared.whole.Scene.{Scene}
use Rattle.scene_text.specs.Scenes.{script_lines, scene_lines}

pub count-map : {A B : Type 0} (p : B → Bool) (f : A → B) (xs : List A) → count_by p (map f xs) ≡ count_by (λ x. p (f x)) xs
count-map p f [] = refl
count-map p f (x ∷ xs) =
    sum_by-cons (λ y. cond (p y) 1 0) (f x) (map f xs) ∙ ap (λ n. cond (p (f x)) 1 0 + n) (count-map p f xs)
    ∙ sym (sum_by-cons (λ y. cond (p (f y)) 1 0) x xs)

-- each script is counted
scripts_count : (p : Line → Bool) (scripts : List (List Call)) → count_by p (flat_map script_lines scripts) ≡ sum_by (λ calls. count_by p (script_lines calls)) scripts
scripts_count p [] = refl
scripts_count p (calls ∷ scripts) =
    ap (count_by p) (flat_map-cons script_lines calls scripts)
    ∙ sum_by-append (λ x. cond (p x) 1 0) (script_lines calls) (flat_map script_lines scripts)
    ∙ ap (λ n. count_by p (script_lines calls) + n) (scripts_count p scripts)
    ∙ sym (sum_by-cons (λ cs. count_by p (script_lines cs)) calls scripts)

script_count : (p : Line → Bool) (calls : List Call) → count_by p (script_lines calls) ≡ cond (p line.Script) 1 0 + count_by (λ c. p (line.Call c)) calls
script_count p calls =
    sum_by-cons (λ x. cond (p x) 1 0) line.Script (map (λ c. line.Call c) calls)
    ∙ ap (λ n. cond (p line.Script) 1 0 + n) (count-map p (λ c. line.Call c) calls)

sum_congr : {A : Type 0} (f g : A → ℕ) (same : (x : A) → f x ≡ g x) (xs : List A) → sum_by f xs ≡ sum_by g xs
sum_congr f g same [] = refl
sum_congr f g same (x ∷ xs) = sum_by-cons f x xs ∙ (λ i. same x i + sum_congr f g same xs i) ∙ sym (sum_by-cons g x xs)

-- all lines
pub lines_count : (p : Line → Bool) (scene : Scene) → count_by p (scene_lines scene)
    ≡ count_by (λ h. p (line.Head h)) scene.head + sum_by (λ calls. cond (p line.Script) 1 0 + count_by (λ c. p (line.Call c)) calls) scene.scripts
lines_count p scene =
    sum_by-append (λ x. cond (p x) 1 0) (map (λ h. line.Head h) scene.head) (flat_map script_lines scene.scripts)
    ∙ (λ i. count-map p (λ h. line.Head h) scene.head i + (scripts_count p scene.scripts ∙ sum_congr _ _ (script_count p) scene.scripts) i)

none_count : {A : Type 0} (p : A → Bool) → ((x : A) → p x ≡ false) → (xs : List A) → count_by p xs ≡ 0
none_count p none [] = refl
none_count p none (x ∷ xs) = sum_by-cons (λ y. cond (p y) 1 0) x xs ∙ rw (none x) (rw (none_count p none xs) refl)

sum_zero : {A : Type 0} (f : A → ℕ) → ((x : A) → f x ≡ 0) → (xs : List A) → sum_by f xs ≡ 0
sum_zero f none [] = refl
sum_zero f none (x ∷ xs) = sum_by-cons f x xs ∙ rw (none x) (rw (sum_zero f none xs) refl)

-- lines that are header lines
pub heads_count : (p : Line → Bool) → p line.Script ≡ false → ((c : Call) → p (line.Call c) ≡ false) → (scene : Scene)
    → count_by p (scene_lines scene) ≡ count_by (λ h. p (line.Head h)) scene.head
heads_count p script calls scene =
    let none = sum_zero (λ cs. cond (p line.Script) 1 0 + count_by (λ c. p (line.Call c)) cs)
    (λ cs. rw script (ap (λ n. 0 + n) (none_count (λ c. p (line.Call c)) calls cs))) scene.scripts in
    lines_count p scene ∙ ap (λ n. count_by (λ h. p (line.Head h)) scene.head + n) none ∙ (omega arith)

count_ones : {A : Type 0} (xs : List A) → sum_by (λ _. 1) xs ≡ length xs
count_ones [] = refl
count_ones (x ∷ xs) = sum_by-cons (λ _. 1) x xs ∙ ap (λ n. 1 + n) (count_ones xs) ∙ (omega arith)

-- lines that begin scripts
pub scripts_are : (p : Line → Bool) → p line.Script ≡ true → ((h : Head) → p (line.Head h) ≡ false) → ((c : Call) → p (line.Call c) ≡ false) → (scene : Scene)
    → count_by p (scene_lines scene) ≡ length scene.scripts
scripts_are p script heads calls scene =
    lines_count p scene
    ∙ (λ i. none_count (λ h. p (line.Head h)) heads scene.head i
    + (sum_congr (λ cs. cond (p line.Script) 1 0 + count_by (λ c. p (line.Call c)) cs) (λ _. 1) (λ cs. rw script (ap (λ n. 1 + n) (none_count (λ c. p (line.Call c)) calls cs))) scene.scripts ∙ count_ones scene.scripts) i)
    ∙ (omega arith)

no_more : (n : ℕ) → 0 + n ≡ n
no_more n = omega arith

-- lines that are calls
pub calls_count : (p : Line → Bool) → p line.Script ≡ false → ((h : Head) → p (line.Head h) ≡ false) → (scene : Scene)
    → count_by p (scene_lines scene) ≡ sum_by (λ cs. count_by (λ c. p (line.Call c)) cs) scene.scripts
calls_count p script heads scene =
    lines_count p scene
    ∙ (λ i. none_count (λ h. p (line.Head h)) heads scene.head i + sum_congr (λ cs. cond (p line.Script) 1 0 + count_by (λ c. p (line.Call c)) cs) (λ cs. count_by (λ c. p (line.Call c)) cs) (λ cs. rw script (no_more (count_by (λ c. p (line.Call c)) cs))) scene.scripts i) ∙ (omega arith)

-- ---- the limits

-- tests one after another
chain : {A : Type 0} (t1 t2 t3 t4 t5 t6 t7 t8 : Bool) (x1 x2 x3 x4 x5 x6 x7 x8 : A)
    → option_or (option_or (option_or (option_or (option_or (option_or (option_or (cond t1 (Some x1) None) (cond t2 (Some x2) None)) (cond t3 (Some x3) None)) (cond t4 (Some x4) None)) (cond t5 (Some x5) None)) (cond t6 (Some x6) None)) (cond t7 (Some x7) None)) (cond t8 (Some x8) None)
    ≡ cond t1 (Some x1) (cond t2 (Some x2) (cond t3 (Some x3) (cond t4 (Some x4) (cond t5 (Some x5) (cond t6 (Some x6) (cond t7 (Some x7) (cond t8 (Some x8) None)))))))
chain true t2 t3 t4 t5 t6 t7 t8 x1 x2 x3 x4 x5 x6 x7 x8 = refl
chain false true t3 t4 t5 t6 t7 t8 x1 x2 x3 x4 x5 x6 x7 x8 = refl
chain false false true t4 t5 t6 t7 t8 x1 x2 x3 x4 x5 x6 x7 x8 = refl
chain false false false true t5 t6 t7 t8 x1 x2 x3 x4 x5 x6 x7 x8 = refl
chain false false false false true t6 t7 t8 x1 x2 x3 x4 x5 x6 x7 x8 = refl
chain false false false false false true t7 t8 x1 x2 x3 x4 x5 x6 x7 x8 = refl
chain false false false false false false true t8 x1 x2 x3 x4 x5 x6 x7 x8 = refl
chain false false false false false false false t8 x1 x2 x3 x4 x5 x6 x7 x8 = refl

-- the limit that a count passes
abbrev over_by : Which → ℕ → ℕ → Option Status
over_by which limit count = first (above which limit count ∷ [])

-- a count that stands still at the greatest number passes a small limit as the whole count does
still : (limit n : ℕ) → limit < 2 ^ 64 - 1 → ltb limit (min n (2 ^ 64 - 1)) ≡ ltb limit n
still limit n small = by (ltb limit n) refl
  where
    by : (t : Bool) → ltb limit n ≡ t → ltb limit (min n (2 ^ 64 - 1)) ≡ t
    by true more = lt-ltb limit (min n (2 ^ 64 - 1)) (grind (arith, nat_tests))
    by false less = le-ltb limit (min n (2 ^ 64 - 1)) (grind (arith, nat_tests))

pub first_is : (scene : Scene) (n1 n2 n3 n4 n5 n6 n7 n8 : ℕ)
    → n1 ≡ min (sum_by length scene.scripts) (2 ^ 64 - 1) → n2 ≡ length scene.scripts
    → n3 ≡ count_by (λ h. is_file (line.Head h)) scene.head → n4 ≡ count_by (λ h. is_process (line.Head h)) scene.head
    → n5 ≡ count_by (λ h. is_static (line.Head h)) scene.head → n6 ≡ count_by (λ h. is_cache (line.Head h)) scene.head
    → n7 ≡ count_by (λ h. is_fail (line.Head h)) scene.head
    → n8 ≡ min (sum_by (λ cs. count_by (λ c. is_attach (line.Call c)) cs) scene.scripts) (2 ^ 64 - 1)
    → option_or (option_or (option_or (option_or (option_or (option_or (option_or (over_by which.Calls 4096 n1) (over_by which.Workers 8 n2)) (over_by which.Files 16 n3)) (over_by which.Processes 64 n4)) (over_by which.Statics 64 n5)) (over_by which.Caches 64 n6)) (over_by which.Fails 64 n7)) (over_by which.Attaches 64 n8)
    ≡ over_limit (scene_lines scene)
unfolding over_limit
first_is scene n1 n2 n3 n4 n5 n6 n7 n8 e1 e2 e3 e4 e5 e6 e7 e8 =
    chain (ltb 4096 n1) (ltb 8 n2) (ltb 16 n3) (ltb 64 n4) (ltb 64 n5) (ltb 64 n6) (ltb 64 n7) (ltb 64 n8)
    (Limit which.Calls 4096) (Limit which.Workers 8) (Limit which.Files 16) (Limit which.Processes 64) (Limit which.Statics 64) (Limit which.Caches 64) (Limit which.Fails 64) (Limit which.Attaches 64)
    ∙ (λ i. cond (t1 i) (Some (Limit which.Calls 4096)) (cond (t2 i) (Some (Limit which.Workers 8)) (cond (t3 i) (Some (Limit which.Files 16)) (cond (t4 i) (Some (Limit which.Processes 64))
    (cond (t5 i) (Some (Limit which.Statics 64)) (cond (t6 i) (Some (Limit which.Caches 64)) (cond (t7 i) (Some (Limit which.Fails 64)) (cond (t8 i) (Some (Limit which.Attaches 64)) None))))))))
  where
    calls_one : (cs : List Call) → count_by (λ c. is_call (line.Call c)) cs ≡ length cs
    calls_one cs = count_ones cs

    t1 : ltb 4096 n1 ≡ ltb 4096 (count_by is_call (scene_lines scene))
    t1 = ap (ltb 4096) e1 ∙ still 4096 (sum_by length scene.scripts) (omega arith)
        ∙ ap (ltb 4096) (sym (calls_count is_call refl (λ h. refl) scene ∙ sum_congr (λ cs. count_by (λ c. is_call (line.Call c)) cs) length calls_one scene.scripts))

    t2 : ltb 8 n2 ≡ ltb 8 (count_by is_script (scene_lines scene))
    t2 = ap (ltb 8) (e2 ∙ sym (scripts_are is_script refl (λ h. refl) (λ c. refl) scene))

    t3 : ltb 16 n3 ≡ ltb 16 (count_by is_file (scene_lines scene))
    t3 = ap (ltb 16) (e3 ∙ sym (heads_count is_file refl (λ c. refl) scene))

    t4 : ltb 64 n4 ≡ ltb 64 (count_by is_process (scene_lines scene))
    t4 = ap (ltb 64) (e4 ∙ sym (heads_count is_process refl (λ c. refl) scene))

    t5 : ltb 64 n5 ≡ ltb 64 (count_by is_static (scene_lines scene))
    t5 = ap (ltb 64) (e5 ∙ sym (heads_count is_static refl (λ c. refl) scene))

    t6 : ltb 64 n6 ≡ ltb 64 (count_by is_cache (scene_lines scene))
    t6 = ap (ltb 64) (e6 ∙ sym (heads_count is_cache refl (λ c. refl) scene))

    t7 : ltb 64 n7 ≡ ltb 64 (count_by is_fail (scene_lines scene))
    t7 = ap (ltb 64) (e7 ∙ sym (heads_count is_fail refl (λ c. refl) scene))

    t8 : ltb 64 n8 ≡ ltb 64 (count_by is_attach (scene_lines scene))
    t8 = ap (ltb 64) e8 ∙ still 64 (sum_by (λ cs. count_by (λ c. is_attach (line.Call c)) cs) scene.scripts) (omega arith) ∙ ap (ltb 64) (sym (calls_count is_attach refl (λ h. refl) scene))

at_most : (limit n : ℕ) → ltb limit n ≡ false → n ≤ limit
at_most limit n e = grind (arith, nat_tests)

-- none of the tests passes
none_of : {A : Type 0} (t1 t2 t3 t4 t5 t6 t7 t8 : Bool) (x1 x2 x3 x4 x5 x6 x7 x8 : A)
    → cond t1 (Some x1) (cond t2 (Some x2) (cond t3 (Some x3) (cond t4 (Some x4) (cond t5 (Some x5) (cond t6 (Some x6) (cond t7 (Some x7) (cond t8 (Some x8) None))))))) ≡ None
    → (t1 ≡ false) × (t2 ≡ false) × (t3 ≡ false) × (t4 ≡ false) × (t5 ≡ false) × (t6 ≡ false) × (t7 ≡ false) × (t8 ≡ false)
none_of true t2 t3 t4 t5 t6 t7 t8 x1 x2 x3 x4 x5 x6 x7 x8 e = absurd cc
none_of false true t3 t4 t5 t6 t7 t8 x1 x2 x3 x4 x5 x6 x7 x8 e = absurd cc
none_of false false true t4 t5 t6 t7 t8 x1 x2 x3 x4 x5 x6 x7 x8 e = absurd cc
none_of false false false true t5 t6 t7 t8 x1 x2 x3 x4 x5 x6 x7 x8 e = absurd cc
none_of false false false false true t6 t7 t8 x1 x2 x3 x4 x5 x6 x7 x8 e = absurd cc
none_of false false false false false true t7 t8 x1 x2 x3 x4 x5 x6 x7 x8 e = absurd cc
none_of false false false false false false true t8 x1 x2 x3 x4 x5 x6 x7 x8 e = absurd cc
none_of false false false false false false false true x1 x2 x3 x4 x5 x6 x7 x8 e = absurd cc
none_of false false false false false false false false x1 x2 x3 x4 x5 x6 x7 x8 e = (refl, refl, refl, refl, refl, refl, refl, refl)

-- a scene that passes no limit is within each
pub within_from : (lines : List Line) → over_limit lines ≡ None → IsWithin lines
unfolding over_limit
within_from lines kept =
    let k = none_of (ltb 4096 (count_by is_call lines)) (ltb 8 (count_by is_script lines)) (ltb 16 (count_by is_file lines)) (ltb 64 (count_by is_process lines))
    (ltb 64 (count_by is_static lines)) (ltb 64 (count_by is_cache lines)) (ltb 64 (count_by is_fail lines)) (ltb 64 (count_by is_attach lines))
    (Limit which.Calls 4096) (Limit which.Workers 8) (Limit which.Files 16) (Limit which.Processes 64)
    (Limit which.Statics 64) (Limit which.Caches 64) (Limit which.Fails 64) (Limit which.Attaches 64) kept in
    record {
      calls = at_most 4096 _ k.0;
      workers = at_most 8 _ k.1;
      files = at_most 16 _ k.2;
      processes = at_most 64 _ k.3;
      statics = at_most 64 _ k.4;
      caches = at_most 64 _ k.5;
      fails = at_most 64 _ k.6;
      attaches = at_most 64 _ k.7;
    }

some_takes : {X : Type 0} (x y : X) → Some x ≡ Some y → x ≡ y
some_takes x y e = cc

-- what is true of each limit is true of the one that is passed
pick : (P : Status → Type 0) (t1 t2 t3 t4 t5 t6 t7 t8 : Bool) (x1 x2 x3 x4 x5 x6 x7 x8 : Status) → P x1 → P x2 → P x3 → P x4 → P x5 → P x6 → P x7 → P x8 → (s : Status)
    → cond t1 (Some x1) (cond t2 (Some x2) (cond t3 (Some x3) (cond t4 (Some x4) (cond t5 (Some x5) (cond t6 (Some x6) (cond t7 (Some x7) (cond t8 (Some x8) None))))))) ≡ Some s → P s
pick P true t2 t3 t4 t5 t6 t7 t8 x1 x2 x3 x4 x5 x6 x7 x8 p1 p2 p3 p4 p5 p6 p7 p8 s e = subst P (some_takes x1 s e) p1
pick P false true t3 t4 t5 t6 t7 t8 x1 x2 x3 x4 x5 x6 x7 x8 p1 p2 p3 p4 p5 p6 p7 p8 s e = subst P (some_takes x2 s e) p2
pick P false false true t4 t5 t6 t7 t8 x1 x2 x3 x4 x5 x6 x7 x8 p1 p2 p3 p4 p5 p6 p7 p8 s e = subst P (some_takes x3 s e) p3
pick P false false false true t5 t6 t7 t8 x1 x2 x3 x4 x5 x6 x7 x8 p1 p2 p3 p4 p5 p6 p7 p8 s e = subst P (some_takes x4 s e) p4
pick P false false false false true t6 t7 t8 x1 x2 x3 x4 x5 x6 x7 x8 p1 p2 p3 p4 p5 p6 p7 p8 s e = subst P (some_takes x5 s e) p5
pick P false false false false false true t7 t8 x1 x2 x3 x4 x5 x6 x7 x8 p1 p2 p3 p4 p5 p6 p7 p8 s e = subst P (some_takes x6 s e) p6
pick P false false false false false false true t8 x1 x2 x3 x4 x5 x6 x7 x8 p1 p2 p3 p4 p5 p6 p7 p8 s e = subst P (some_takes x7 s e) p7
pick P false false false false false false false true x1 x2 x3 x4 x5 x6 x7 x8 p1 p2 p3 p4 p5 p6 p7 p8 s e = subst P (some_takes x8 s e) p8
pick P false false false false false false false false x1 x2 x3 x4 x5 x6 x7 x8 p1 p2 p3 p4 p5 p6 p7 p8 s e = absurd cc

-- a limit tells of no read
pub over_cause : (lines : List Line) (s : Status) (faults : ℕ) → over_limit lines ≡ Some s → IsEndCaused s faults faults
unfolding over_limit
over_cause lines s faults e =
    pick (λ x. IsEndCaused x faults faults) (ltb 4096 (count_by is_call lines)) (ltb 8 (count_by is_script lines)) (ltb 16 (count_by is_file lines)) (ltb 64 (count_by is_process lines))
    (ltb 64 (count_by is_static lines)) (ltb 64 (count_by is_cache lines)) (ltb 64 (count_by is_fail lines)) (ltb 64 (count_by is_attach lines))
    (Limit which.Calls 4096) (Limit which.Workers 8) (Limit which.Files 16) (Limit which.Processes 64)
    (Limit which.Statics 64) (Limit which.Caches 64) (Limit which.Fails 64) (Limit which.Attaches 64) refl refl refl refl refl refl refl refl s e
