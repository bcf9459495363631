-- What reading a scene's file answers.
use Rattle.std.proofs.Common.{◌≡◌, ℕ, ◌<◌, ◌≤◌, cond, Bool, true, false, ltb, List, length, take, Option, Some, None, Result, Ok, Err, refl, ap, sym, subst, ◌∙◌, arith}
use Rattle.std.proofs.lemmas.List.{take_all}
use Rattle.std.proofs.lemmas.Bool.{lt-ltb}
use Rattle.std.proofs.lemmas.Bool.Decides.{nat_tests}
use Rattle.pg_bytes.specs.declared.status.Status.{Status}
use Rattle.pg_bytes.specs.declared.status.Status.TheVariants as status
use Rattle.pg_bytes.specs.declared.status.Which.TheVariants as which
use Rattle.pg_io.specs.Files.{Told, after_read, GivesFirst}
use Rattle.scene_text.specs.declared.whole.Scene.{Scene}
use Rattle.scene_text.specs.Texts.{said, IsScene}
use Rattle.scene_open.specs.Items.{ReadsWithin}
use Rattle.scene_open.specs.Ends.{said_end, text_end, ReadsScene, ReadsText, ReadsSome}
use Rattle.scene_open.proofs.CutFacts.{IsCut, is_all, is_longer, cut}

-- a text of a scene that passes
pub passing : (text : List ℕ) (scene : Scene) → length text ≤ 1048576 → IsScene text scene → said_end (said text) ≡ None → text_end text ≡ None
passing text scene few says kept = by (ltb 1048576 (length text)) refl
  where
    by : (t : Bool) → ltb 1048576 (length text) ≡ t → cond t (Some (status.Limit which.Scene 1048576)) (said_end (said text)) ≡ None
    by true long = let more : 1048576 < length text = grind (arith, nat_tests) in absurd (omega (arith, few, more))
    by false short = kept

long_text : (text : List ℕ) → 1048576 < length text → text_end text ≡ Some (status.Limit which.Scene 1048576)
long_text text long = rw (lt-ltb 1048576 (length text) long) refl

none_some : {A : Type 0} (x : A) (o : Option A) → o ≡ None → o ≡ Some x → ⊥
none_some x o a b = let e = sym a ∙ b in absurd cc

same_end : (whole text : List ℕ) → IsCut 1048576 whole text → text_end text ≡ text_end whole
same_end whole text (is_all same) = ap text_end same
same_end whole text (is_longer long longer) = long_text text long ∙ sym (long_text whole longer)

same_text : (whole text : List ℕ) → IsCut 1048576 whole text → text_end text ≡ None → text ≡ whole
same_text whole text (is_all same) kept = same
same_text whole text (is_longer long longer) kept = absurd (none_some _ _ kept (long_text text long))

-- the first bytes of the scene's file tell what all of it does
pub text_cut : (whole text : List ℕ) (result : Result Scene Status) → text ≡ take 1048577 whole → ReadsText text result → ReadsScene (Some whole) result
text_cut whole text (Ok scene) is reads =
    let c = cut 1048576 whole text is in
    let same = same_text whole text c reads.0 in
    record { text = whole; read = refl; passes = sym (same_end whole text c) ∙ reads.0; says = subst (λ t. IsScene t scene) same reads.1 }
text_cut whole text (Err status.Done) is reads = sym (same_end whole text (cut 1048576 whole text is)) ∙ reads
text_cut whole text (Err status.NotSealed) is reads = sym (same_end whole text (cut 1048576 whole text is)) ∙ reads
text_cut whole text (Err status.Usage) is reads = sym (same_end whole text (cut 1048576 whole text is)) ∙ reads
text_cut whole text (Err (status.SceneBad line kind)) is reads = sym (same_end whole text (cut 1048576 whole text is)) ∙ reads
text_cut whole text (Err (status.FileFault item)) is reads = sym (same_end whole text (cut 1048576 whole text is)) ∙ reads
text_cut whole text (Err status.SinkFault) is reads = sym (same_end whole text (cut 1048576 whole text is)) ∙ reads
text_cut whole text (Err (status.Limit which limit)) is reads = sym (same_end whole text (cut 1048576 whole text is)) ∙ reads
text_cut whole text (Err (status.TrustBad item n arg)) is reads = sym (same_end whole text (cut 1048576 whole text is)) ∙ reads
text_cut whole text (Err status.NoMemory) is reads = tt

pub text_told : (found : Option (List ℕ)) (text : List ℕ) (result : Result Scene Status) → GivesFirst found 1048577 text → ReadsText text result → ReadsScene found result
text_told found text result gives reads = subst (λ f. ReadsScene f result) (sym gives.found_whole) (text_cut gives.whole text result gives.given_first reads)

pub text_some : (text : List ℕ) (result : Result Scene Status) → length text ≤ 1048577 → ReadsText text result → ReadsSome result
text_some text result few reads = (Some text, text_cut text text result (sym (take_all 1048577 text few)) reads)

pub one_read : (t : Told) (now : Option Told) → now ≡ Some (after_read t) → ReadsWithin t 1 now
one_read t now is = record { reads = 1; few = omega arith; after = is }

pub no_read : (t : Told) (now : Option Told) → now ≡ Some t → ReadsWithin t 1 now
no_read t now is = record { reads = 0; few = omega arith; after = is }
