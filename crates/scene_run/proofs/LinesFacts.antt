-- A scene within the limits has few scripts with few calls, and its calls name what its opening has.
use Rattle.std.proofs.Common.{◌≡◌, ℕ, zero, suc, ◌+◌, ◌≤◌, Bool, List, [], ◌∷◌, length, map, refl, ap, ◌∙◌, arith}
use Rattle.std.specs.Prelude.{All, count_by, slice_index_or}
use Rattle.std.specs.List.{flat_map}
use Rattle.std.proofs.Common.{cond}
use Rattle.std.proofs.lemmas.List.Sums.{sum_by-cons, sum_by-append}
use Rattle.cs_policy.specs.declared.call.Call.{Call}
use Rattle.cs_policy.specs.declared.call.Call.TheVariants as call
use Rattle.pg_history.specs.Opening.{Opening, Numbers, numbers_of}
use Rattle.pg_history.specs.Legal.{calls_in}
use Rattle.pg_calls.specs.Calls.{IsDeclared}
use Rattle.scene_text.specs.declared.line.Line.{Line}
use Rattle.scene_text.specs.declared.line.Line.TheVariants as line
use Rattle.scene_text.specs.declared.line.Known.{Known}
use Rattle.scene_text.specs.declared.whole.Scene.{Scene}
use Rattle.scene_text.specs.Known.{known_of, is_script}
use Rattle.scene_text.specs.Scenes.{script_lines, scene_lines}
use Rattle.scene_text.specs.Texts.{IsCallFit}
use Rattle.scene_open.specs.Limits.{is_call, is_attach, IsWithin}
use Rattle.scene_open.specs.Fits.{IsNumbered, IsOpeningFor}
use Rattle.scene_run.specs.Needs.{attaches_one, attaches, attaches_in, AreFew}
use Rattle.scene_run.proofs.DeclaredFacts.{declared-call}

-- ---- counts

abbrev one : (Line → Bool) → Line → ℕ
one p x = cond (p x) 1 0

script-calls : (cs : List Call) → count_by is_call (map (λ c. line.Call c) cs) ≡ length cs
script-calls [] = refl
script-calls (c ∷ cs) = omega (arith, sum_by-cons (one is_call) (line.Call c) (map (λ d. line.Call d) cs), script-calls cs)

attach-one : (c : Call) → one is_attach (line.Call c) ≡ attaches_one c
attach-one (call.Spawn pid) = refl
attach-one (call.Map pid addr file first pages prot shared) = refl
attach-one (call.Unmap pid addr) = refl
attach-one (call.Attach file slice) = refl
attach-one (call.LoadTrust cache) = refl
attach-one (call.Fault pid addr access) = refl
attach-one (call.Store pid addr bytes) = refl
attach-one (call.Load pid addr count) = refl
attach-one (call.Fetch pid addr count) = refl
attach-one (call.Write file at piece) = refl
attach-one (call.Evict file page) = refl
attach-one (call.Debug pid) = refl
attach-one (call.Exit pid) = refl

script-attaches : (cs : List Call) → count_by is_attach (map (λ c. line.Call c) cs) ≡ attaches cs
script-attaches [] = refl
script-attaches (c ∷ cs) =
    sum_by-cons (one is_attach) (line.Call c) (map (λ d. line.Call d) cs)
    ∙ (λ i. attach-one c i + script-attaches cs i)

script-none : (cs : List Call) → count_by is_script (map (λ c. line.Call c) cs) ≡ 0
script-none [] = refl
script-none (c ∷ cs) = omega (arith, sum_by-cons (one is_script) (line.Call c) (map (λ d. line.Call d) cs), script-none cs)

next-script : (p : Line → Bool) (cs : List Call) (scripts : List (List Call))
    → count_by p (flat_map script_lines (cs ∷ scripts)) ≡ one p line.Script + count_by p (map (λ c. line.Call c) cs) + count_by p (flat_map script_lines scripts)
next-script p cs scripts =
    sum_by-append (one p) (script_lines cs) (flat_map script_lines scripts)
    ∙ ap (λ n. n + count_by p (flat_map script_lines scripts)) (sum_by-cons (one p) line.Script (map (λ c. line.Call c) cs))

calls-counted : (scripts : List (List Call)) → count_by is_call (flat_map script_lines scripts) ≡ calls_in scripts
calls-counted [] = refl
calls-counted (cs ∷ scripts) = omega (arith, next-script is_call cs scripts, script-calls cs, calls-counted scripts)

attaches-counted : (scripts : List (List Call)) → count_by is_attach (flat_map script_lines scripts) ≡ attaches_in scripts
attaches-counted [] = refl
attaches-counted (cs ∷ scripts) = omega (arith, next-script is_attach cs scripts, script-attaches cs, attaches-counted scripts)

scripts-counted : (scripts : List (List Call)) → count_by is_script (flat_map script_lines scripts) ≡ length scripts
scripts-counted [] = refl
scripts-counted (cs ∷ scripts) = omega (arith, next-script is_script cs scripts, script-none cs, scripts-counted scripts)

behind-heads : (p : Line → Bool) (scene : Scene) → count_by p (flat_map script_lines scene.scripts) ≤ count_by p (scene_lines scene)
behind-heads p scene = omega (arith, sum_by-append (one p) (map (λ h. line.Head h) scene.head) (flat_map script_lines scene.scripts))

pub few-scripts : (scene : Scene) → IsWithin (scene_lines scene) → AreFew scene.scripts
few-scripts scene is = record {
  workers = omega (arith, is.workers, behind-heads is_script scene, scripts-counted scene.scripts);
  calls = omega (arith, is.calls, behind-heads is_call scene, calls-counted scene.scripts);
  attaches = omega (arith, is.attaches, behind-heads is_attach scene, attaches-counted scene.scripts);
}

pub all-short : (scripts : List (List Call)) (most : ℕ) → calls_in scripts ≤ most → All (λ script. length script ≤ most) scripts
all-short [] most le k d lt = absurd (omega (arith, lt))
all-short (cs ∷ scripts) most le zero d lt = omega (arith, le)
all-short (cs ∷ scripts) most le (suc k) d lt = all-short scripts most (omega (arith, le)) k d (omega (arith, lt))

-- ---- names

module _ (known : Known) (numbers : Numbers) (is : IsNumbered known numbers) where
  fit-declared : (c : Call) → IsCallFit known c → IsDeclared numbers c
  fit-declared c fit = declared-call known numbers is.page_size is.files is.processes is.caches c fit.declared fit.in_range

  pub all-declared : (scripts : List (List Call)) → All (All (IsCallFit known)) scripts → All (All (IsDeclared numbers)) scripts
  all-declared scripts all k d lt i c here = fit-declared (slice_index_or (slice_index_or scripts k d) i c) (all k d lt i c here)

pub scene-declared : (scene : Scene) (o : Opening) → IsOpeningFor scene o → All (All (IsDeclared (numbers_of o))) scene.scripts
scene-declared scene o is = all-declared (known_of (scene_lines scene)) (numbers_of o) is.numbers scene.scripts is.calls
