-- What follows from what the words of a command line ask for.
use Rattle.std.proofs.Common.{◌≡◌, Bool, true, false, codes, ℕ, ◌<◌, ◌≤◌, List, [], ◌∷◌, length, map, Option, Some, None, Err, inl, inr, refl, sym, ap, subst, ◌∙◌, arith}
use Rattle.std.specs.Prelude.{◌≢◌, bytes_eq, slice_index_or}
use Rattle.pg_words.proofs.NameFacts.{is_word_text}
use Rattle.pg_bytes.specs.declared.status.Status.{Status}
use Rattle.pg_bytes.specs.declared.status.Status.TheVariants as status
use Rattle.pg_io.specs.Files.{Told}
use Rattle.scene_open.specs.Items.{ReadsWithin}
use Rattle.scene_run.specs.Ending.{Run, AreSolo, path_of, run_path, run_by, reads_by, EndsTo, EndsBy, RunsTo, CountsFaults}
use Rattle.scene_threads.specs.Words.{ArePath, made_number, EndsByWords}

-- ---- the paths that words name

-- two words, of which this is the first
pub two-words : {A : Type 0} (text : A → List ℕ) (words : List A) (d : A) (first : List ℕ) → 2 ≤ length words → length words < 3 → text (slice_index_or words 0 d) ≡ first
    → (other : List ℕ) × (map text words ≡ first ∷ other ∷ [])
two-words text [] d first least below is = absurd (omega (arith, least))
two-words text (a ∷ []) d first least below is = absurd (omega (arith, least))
two-words text (a ∷ b ∷ []) d first least below is = (text b, ap (λ (word : List ℕ). word ∷ text b ∷ []) is)
two-words text (a ∷ b ∷ c ∷ rest) d first least below is = absurd (omega (arith, below))

pub path-named : (words : List (List ℕ)) (path : List ℕ) → words ≡ path ∷ [] → path_of words ≡ Some path
path-named words path is = ap path_of is

pub solo-named : (words : List (List ℕ)) (solo : AreSolo words) → path_of words ≡ Some solo.0
solo-named words solo = ap path_of solo.1

pub path-not-solo : (words : List (List ℕ)) (path : List ℕ) → words ≡ path ∷ [] → AreSolo words → ⊥
path-not-solo words path is solo = absurd (omega (arith, ap length (sym is ∙ solo.1)))

pub named-some : (named : Option (List ℕ)) (path : List ℕ) → named ≡ Some path → named ≡ None → ⊥
named-some named path is none =
    let both : ◌≡◌ {A = Option (List ℕ)} (Some path) None = sym is ∙ none in
    cc

pub solo-not-path : (words : List (List ℕ)) → AreSolo words → ArePath words → ⊥
solo-not-path words solo path = path-not-solo words path.0 path.1 solo

pub none-not-path : (words : List (List ℕ)) → path_of words ≡ None → ArePath words → ⊥
none-not-path words none path = named-some (path_of words) path.0 (path-named words path.0 path.1) none

pub none-not-solo : (words : List (List ℕ)) → path_of words ≡ None → AreSolo words → ⊥
none-not-solo words none solo = named-some (path_of words) solo.0 (solo-named words solo) none

-- ---- a run over the path that was named

module _ (IsText : Run → List ℕ → Type 0) (told : Told) (named : Option (List ℕ)) (path : List ℕ) (is : named ≡ Some path) (before now : Option (List ℕ)) where
  pub path-output : (s : Status) → EndsTo IsText (run_path told path) s before now → EndsTo IsText (run_by told named) s before now
  path-output s ends = subst (λ (p : Option (List ℕ)). EndsTo IsText (run_by told p) s before now) (sym is) ends

  pub path-legal : RunsTo IsText (run_path told path) before now → RunsTo IsText (run_by told named) before now
  path-legal runs = subst (λ (p : Option (List ℕ)). RunsTo IsText (run_by told p) before now) (sym is) runs

pub path-usage : (named : Option (List ℕ)) (number : Option ℕ) (path : List ℕ) (s : Status) (before now : Option (List ℕ)) → named ≡ Some path → s ≢ status.Usage → EndsByWords named number s before now
path-usage named number path s before now is other = subst (λ (p : Option (List ℕ)). EndsByWords p number s before now) (sym is) other

-- ---- the numbers that words name

pub path-unmade : (words : List (List ℕ)) (path : List ℕ) (n : ℕ) → words ≡ path ∷ [] → made_number words ≡ Some n → ⊥
path-unmade words path n is number =
    let both : ◌≡◌ {A = Option ℕ} None (Some n) = sym (ap made_number is) ∙ number in
    cc

pub solo-unmade : (words : List (List ℕ)) (n : ℕ) → AreSolo words → made_number words ≡ Some n → ⊥
solo-unmade words n solo number =
    let both : ◌≡◌ {A = Option ℕ} None (Some n) = sym (ap made_number solo.1) ∙ number in
    cc

pub number-some : (number : Option ℕ) (n : ℕ) → number ≡ Some n → number ≡ None → ⊥
number-some number n is none =
    let both : ◌≡◌ {A = Option ℕ} (Some n) None = sym is ∙ none in
    cc

pub number-same : (number : Option ℕ) (n m : ℕ) → number ≡ Some n → number ≡ Some m → n ≡ m
number-same number n m is other =
    let both : ◌≡◌ {A = Option ℕ} (Some n) (Some m) = sym is ∙ other in
    cc

made-other : (a b : List ℕ) (n : ℕ) (is_gen : Bool) → bytes_eq a (codes "gen") ≡ is_gen → made_number (a ∷ b ∷ []) ≡ Some n → path_of (a ∷ b ∷ []) ≡ None
made-other a b n true gen is = rw (is_word_text a (codes "gen") gen) refl
made-other a b n false gen is = absurd (number-some (made_number (a ∷ b ∷ [])) n is (rw gen refl))

-- words that name a number name no path
pub made-unnamed : (words : List (List ℕ)) (n : ℕ) → made_number words ≡ Some n → path_of words ≡ None
made-unnamed [] n is = absurd cc
made-unnamed (a ∷ []) n is = absurd cc
made-unnamed (a ∷ b ∷ []) n is = made-other a b n (bytes_eq a (codes "gen")) refl is
made-unnamed (a ∷ b ∷ c ∷ rest) n is = absurd cc

pub made-usage : (named : Option (List ℕ)) (number : Option ℕ) (n : ℕ) (s : Status) (before now : Option (List ℕ)) → named ≡ None → number ≡ Some n → s ≢ status.Usage → EndsByWords named number s before now
made-usage named number n s before now unnamed is other = rw (unnamed, is) other

-- ---- a run by which the usage line is written

abbrev IsUsage : Status → Option (List ℕ) → Option (List ℕ) → Type 0
IsUsage s before now = EndsBy (Err status.Usage) s before now

module _ (s : Status) (before now : Option (List ℕ)) where
  neither : (kind : Status) → IsUsage s before now → s ≡ kind → kind ≢ status.Usage → kind ≢ status.SinkFault → ⊥
  neither kind (inl out) is usage fault = usage (sym is ∙ out.0)
  neither kind (inr out) is usage fault = fault (sym is ∙ out.0)

  pub usage-no-verdict : IsUsage s before now → s ≢ status.NotSealed
  usage-no-verdict out is = neither status.NotSealed out is (λ e. cc) (λ e. cc)

  pub usage-no-memory : IsUsage s before now → s ≡ status.NoMemory → now ≡ before
  usage-no-memory out is = absurd (neither status.NoMemory out is (λ e. cc) (λ e. cc))

  pub usage-faults : (count : ℕ) → IsUsage s before now → CountsFaults s count count
  usage-faults count (inl out) = subst (λ (x : Status). CountsFaults x count count) (sym out.0) refl
  usage-faults count (inr out) =
      let le : count ≤ count = omega arith in
      subst (λ (x : Status). CountsFaults x count count) (sym out.0) le

  pub usage-by-words : (named : Option (List ℕ)) (number : Option ℕ) → named ≡ None → number ≡ None → IsUsage s before now → EndsByWords named number s before now
  usage-by-words named number none unmade out = rw (none, unmade) out

pub none-reads : (told : Told) (named : Option (List ℕ)) (now : Option Told) → named ≡ None → now ≡ Some told → ReadsWithin told (reads_by named told) now
none-reads told named now none tells =
    subst (λ (p : Option (List ℕ)). ReadsWithin told (reads_by p told) now) (sym none) (record { reads = 0; few = omega arith; after = tells })
