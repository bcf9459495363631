-- The lines of a made scene meet the grammar.
use Rattle.std.proofs.Common.{◌≡◌, ℕ, zero, suc, ◌+◌, ◌*◌, ◌/◌, ◌%◌, ◌^◌, ◌<◌, true, false, nat_lt, List, [], ◌∷◌, ◌++◌, map, codes, refl, sym, subst, ap, ◌∙◌, arith}
use Rattle.std.proofs.lemmas.Bool.Decides.{nat_tests}
use Rattle.cs_policy.specs.declared.call.Call.TheVariants as call
use Rattle.pg_words.proofs.HexFacts.{no_bytes, more_bytes}
use Rattle.scene_text.specs.declared.line.Line.{Line}
use Rattle.scene_text.specs.declared.line.Line.TheVariants as line
use Rattle.scene_text.specs.declared.line.Known.{Known}
use Rattle.std.specs.List.{flat_map}
use Rattle.cs_policy.specs.declared.access.Prot.TheVariants.{RX}
use Rattle.scene_text.specs.declared.whole.Scene.{Scene}
use Rattle.scene_text.specs.Headers.{IsPath, path_word, flags_word}
use Rattle.scene_text.specs.Known.{known_of, known_after}
use Rattle.scene_text.specs.Scenes.{script_lines, scene_lines}
use Rattle.scene_text.specs.Texts.{IsHeadFit, IsCallFit, IsFit, AreFit, MeetsGrammar}
use Rattle.scene_text.proofs.LoopFacts.{known_more}
use Rattle.scene_made.specs.Listed.{IsListed}
use Rattle.scene_made.specs.Made.{call_by, call_of, draws, script, heads_of, four, raw, process, admit}

-- lines that are fit behind others which have declared so much
abbrev AreFitFrom : Known → List Line → Type 0
AreFitFrom known [] = Unit {0}
AreFitFrom known (x ∷ lines) = IsFit known x × AreFitFrom (known_after known x) lines

fit_from : (above lines : List Line) (known : Known) → known_of above ≡ known → AreFitFrom known lines → AreFit above lines
fit_from above [] known is fit = tt
fit_from above (x ∷ lines) known is fit = (
  subst (λ k. IsFit k x) (sym is) fit.0,
  fit_from (above ++ x ∷ []) lines (known_after known x) (known_more above x ∙ ap (λ k. known_after k x) is) fit.1,
)

-- ---- calls

-- what is declared behind the header, in a script
abbrev in_script : Known
in_script = record { files = 4; processes = 4; caches = 0; large = false; sized = false; limited = true; adhoc = false; script = true }

below-ltb : (a b : ℕ) → a < b → nat_lt a b ≡ true
below-ltb a b lt = grind (arith, nat_tests)

drawn_fits : (file y c : ℕ) → file < 4 → IsCallFit in_script (call_by file y c)
drawn_fits file y zero lt = record {
  form = (omega arith, omega arith, (more_bytes (y % 256) [] (omega arith) no_bytes, omega arith));
  placed = refl;
  declared = below-ltb file 4 lt;
  in_range = rw (below-ltb (4096 * (y % 64) + y / 512 % 4096) 4294967296 (omega arith)) refl;
}
drawn_fits file y (suc zero) lt = record {
  form = (omega arith, omega arith);
  placed = refl;
  declared = below-ltb file 4 lt;
  in_range = below-ltb (y % 64) (2 ^ 32) (omega arith);
}
drawn_fits file y (suc (suc others)) lt = record {
  form = (omega arith, omega arith);
  placed = refl;
  declared = below-ltb file 4 lt;
  in_range = refl;
}

call_fits : (file x : ℕ) → file < 4 → IsCallFit in_script (call_of file x)
call_fits file x lt = unfold call_of in drawn_fits file (x / 2 ^ 33) ((x / 2 ^ 33 / 64) % 8) lt

-- the calls for some draws, and other lines behind them
calls_fit : (file : ℕ) (xs : List ℕ) (rest : List Line) → file < 4 → AreFitFrom in_script rest
    → AreFitFrom in_script (map (λ c. line.Call c) (map (call_of file) xs) ++ rest)
calls_fit file [] rest lt others = others
calls_fit file (x ∷ xs) rest lt others = (call_fits file x lt, calls_fit file xs rest lt others)

spawn_fits : (file : ℕ) → file < 4 → IsCallFit in_script (call.Spawn file)
spawn_fits file lt = record { form = omega arith; placed = refl; declared = below-ltb file 4 lt; in_range = refl }

map_fits : (file : ℕ) → file < 4 → IsCallFit in_script (call.Map file 0x10000 file 0 64 RX false)
map_fits file lt = record {
  form = (omega arith, omega arith, omega arith, omega arith, omega arith);
  placed = refl;
  declared = rw (below-ltb file 4 lt) refl;
  in_range = refl;
}

attach_fits : (file : ℕ) → file < 4 → IsCallFit in_script (call.Attach file 0)
attach_fits file lt = record { form = (omega arith, omega arith); placed = refl; declared = below-ltb file 4 lt; in_range = refl }

-- a script, and other lines behind it
script_fits : (n file : ℕ) (rest : List Line) → file < 4 → AreFitFrom in_script rest
    → AreFitFrom in_script (map (λ c. line.Call c) (script n file) ++ rest)
script_fits n file rest lt others =
    unfold script in
    (spawn_fits file lt, (map_fits file lt, (attach_fits file lt, calls_fit file (draws 1000 (8 * n + file)) rest lt others)))

-- the four scripts
scripts_fit : (n : ℕ) → AreFitFrom in_script (flat_map script_lines (map (script n) four))
scripts_fit n =
    (tt, script_fits n 0 _ (omega arith) (tt, script_fits n 1 _ (omega arith) (tt, script_fits n 2 _ (omega arith) (tt, script_fits n 3 _ (omega arith) tt))))

-- ---- header lines

admit_fits : (known : Known) (cdhash : List ℕ) → known.script ≡ false → IsListed cdhash → IsHeadFit known (admit cdhash)
admit_fits known cdhash outside listed = record { form = (listed.bytes, listed.count); placed = outside; declared = refl; in_range = refl }

process_fits : (known : Known) → known.script ≡ false → IsHeadFit known process
process_fits known outside = record { form = unfold flags_word in refl; placed = outside; declared = refl; in_range = refl }

raw_fits : (known : Known) (name : List ℕ) → known.script ≡ false → IsPath name → IsHeadFit known (raw name)
raw_fits known name outside path = record { form = (path, omega arith, omega arith); placed = outside; declared = refl; in_range = refl }

first_path : IsPath (codes "gen0")
first_path = unfold path_word in refl

second_path : IsPath (codes "gen1")
second_path = unfold path_word in refl

third_path : IsPath (codes "gen2")
third_path = unfold path_word in refl

fourth_path : IsPath (codes "gen3")
fourth_path = unfold path_word in refl

-- all lines
pub made_fits : (n : ℕ) (a b c d : List ℕ) → IsListed a → IsListed b → IsListed c → IsListed d
    → (made : Scene) → made.head ≡ heads_of (a ∷ b ∷ c ∷ d ∷ []) → made.scripts ≡ map (script n) four → MeetsGrammar made
made_fits n a b c d la lb lc ld made head scripts =
    fit_from [] (scene_lines made) _ refl (rw (head, scripts) (
      record { form = omega arith; placed = refl; declared = refl; in_range = refl },
      (
        raw_fits _ _ refl first_path,
        (
          raw_fits _ _ refl second_path,
          (
            raw_fits _ _ refl third_path,
            (
              raw_fits _ _ refl fourth_path,
              (
                process_fits _ refl,
                (
                  process_fits _ refl,
                  (
                    process_fits _ refl,
                    (
                      process_fits _ refl,
                      (admit_fits _ a refl la, (admit_fits _ b refl lb, (admit_fits _ c refl lc, (admit_fits _ d refl ld, scripts_fit n)))),
                    ),
                  ),
                ),
              ),
            ),
          ),
        ),
      ),
    ))
