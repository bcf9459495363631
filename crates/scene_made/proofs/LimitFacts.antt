-- The lines of a made scene are within the limits.
use Rattle.std.proofs.Common.{◌≡◌, ℕ, zero, suc, ◌+◌, ◌*◌, ◌/◌, ◌%◌, ◌^◌, cond, Bool, true, false, List, [], ◌∷◌, map, length, refl, ap, ◌∙◌, arith}
use Rattle.std.specs.List.{count_by}
use Rattle.std.proofs.lemmas.List.Sums.{sum_by-cons}
use Rattle.cs_policy.specs.declared.call.Call.{Call}
use Rattle.cs_policy.specs.declared.call.Call.TheVariants as call
use Rattle.cs_policy.specs.declared.access.Prot.TheVariants.{RX}
use Rattle.scene_text.specs.declared.line.Line.TheVariants as line
use Rattle.scene_text.specs.declared.whole.Scene.{Scene}
use Rattle.scene_text.specs.Known.{is_file, is_process, is_cache, is_script}
use Rattle.scene_text.specs.Scenes.{scene_lines}
use Rattle.scene_open.specs.Limits.{is_call, is_attach, is_static, is_fail, IsWithin}
use Rattle.scene_open.proofs.CountFacts.{heads_count, scripts_are, calls_count}
use Rattle.scene_made.specs.Made.{next, call_by, call_of, draws, script, heads_of, four}

-- so many draws
draws-count : (n x : ℕ) → length (draws n x) ≡ n
unfolding draws
draws-count zero x = refl
draws-count (suc n) x = ap suc (draws-count n (next x))

-- all of the drawn calls are counted, or none
drawn-count : (p : Call → Bool) (each : Bool) (file : ℕ) → ((x : ℕ) → p (call_of file x) ≡ each) → (xs : List ℕ) → count_by p (map (call_of file) xs) ≡ length xs * cond each 1 0
drawn-count p each file all [] = omega arith
drawn-count p each file all (x ∷ xs) =
    sum_by-cons (λ c. cond (p c) 1 0) (call_of file x) (map (call_of file) xs)
    ∙ (λ i. cond (all x i) 1 0 + drawn-count p each file all xs i) ∙ (omega arith)

script-is : (n file : ℕ) → script n file ≡ call.Spawn file ∷ call.Map file 0x10000 file 0 64 RX false ∷ call.Attach file 0 ∷ map (call_of file) (draws 1000 (8 * n + file))
script-is n file = unfold script in refl

-- the calls of a script
script-count : (p : Call → Bool) (each : Bool) (n file : ℕ) → ((x : ℕ) → p (call_of file x) ≡ each) → count_by p (script n file)
    ≡ cond (p (call.Spawn file)) 1 0 + (cond (p (call.Map file 0x10000 file 0 64 RX false)) 1 0 + (cond (p (call.Attach file 0)) 1 0 + 1000 * cond each 1 0))
script-count p each n file all =
    let one : Call → ℕ = λ c. cond (p c) 1 0 in
    let drawn : List Call = map (call_of file) (draws 1000 (8 * n + file)) in
    let last : count_by p drawn ≡ 1000 * cond each 1 0 =
    drawn-count p each file all (draws 1000 (8 * n + file)) ∙ ap (λ k. k * cond each 1 0) (draws-count 1000 (8 * n + file)) in
    ap (count_by p) (script-is n file)
    ∙ sum_by-cons one (call.Spawn file) (call.Map file 0x10000 file 0 64 RX false ∷ call.Attach file 0 ∷ drawn)
    ∙ ap (λ k. one (call.Spawn file) + k) (sum_by-cons one (call.Map file 0x10000 file 0 64 RX false) (call.Attach file 0 ∷ drawn)
    ∙ ap (λ k. one (call.Map file 0x10000 file 0 64 RX false) + k) (sum_by-cons one (call.Attach file 0) drawn
    ∙ ap (λ k. one (call.Attach file 0) + k) last))

drawn-not-attach : (file y c : ℕ) → is_attach (line.Call (call_by file y c)) ≡ false
drawn-not-attach file y zero = refl
drawn-not-attach file y (suc zero) = refl
drawn-not-attach file y (suc (suc others)) = refl

not-attach : (file x : ℕ) → is_attach (line.Call (call_of file x)) ≡ false
not-attach file x = unfold call_of in drawn-not-attach file (x / 2 ^ 33) ((x / 2 ^ 33 / 64) % 8)

calls-of : (n file : ℕ) → count_by (λ c. is_call (line.Call c)) (script n file) ≡ 1003
calls-of n file = script-count (λ c. is_call (line.Call c)) true n file (λ x. refl)

attaches-of : (n file : ℕ) → count_by (λ c. is_attach (line.Call c)) (script n file) ≡ 1
attaches-of n file = script-count (λ c. is_attach (line.Call c)) false n file (not-attach file)

pub made_within : (n : ℕ) (a b c d : List ℕ) (made : Scene) → made.head ≡ heads_of (a ∷ b ∷ c ∷ d ∷ []) → made.scripts ≡ map (script n) four → IsWithin (scene_lines made)
made_within n a b c d made head scripts =
    let calls : count_by is_call (scene_lines made) ≡ 4012 =
    calls_count is_call refl (λ h. refl) made ∙ (rw (scripts, calls-of n 0, calls-of n 1, calls-of n 2, calls-of n 3) refl) in
    let attaches : count_by is_attach (scene_lines made) ≡ 4 =
    calls_count is_attach refl (λ h. refl) made ∙ (rw (scripts, attaches-of n 0, attaches-of n 1, attaches-of n 2, attaches-of n 3) refl) in
    let workers : count_by is_script (scene_lines made) ≡ 4 =
    scripts_are is_script refl (λ h. refl) (λ k. refl) made ∙ (rw scripts refl) in
    let files : count_by is_file (scene_lines made) ≡ 4 = heads_count is_file refl (λ k. refl) made ∙ (rw head refl) in
    let processes : count_by is_process (scene_lines made) ≡ 4 = heads_count is_process refl (λ k. refl) made ∙ (rw head refl) in
    let statics : count_by is_static (scene_lines made) ≡ 4 = heads_count is_static refl (λ k. refl) made ∙ (rw head refl) in
    let caches : count_by is_cache (scene_lines made) ≡ 0 = heads_count is_cache refl (λ k. refl) made ∙ (rw head refl) in
    let fails : count_by is_fail (scene_lines made) ≡ 0 = heads_count is_fail refl (λ k. refl) made ∙ (rw head refl) in
    record {
      calls = omega arith;
      workers = omega arith;
      files = omega arith;
      processes = omega arith;
      statics = omega arith;
      caches = omega arith;
      fails = omega arith;
      attaches = omega arith;
    }
