-- One line after another is read.
use Rattle.std.proofs.Common.{◌≡◌, ℕ, ◌+◌, cond, Bool, true, false, List, [], ◌∷◌, ◌++◌, length, Option, Some, None, Result, Ok, Err, count_by, refl, ap, sym, ◌∙◌, arith}
use Rattle.std.specs.Prelude.{◌||◌}
use Rattle.std.specs.List.{list_any}
use Rattle.std.specs.Borrow.{Bor}
use Rattle.std.proofs.lemmas.List.Folds.{list_any-append}
use Rattle.std.proofs.lemmas.List.Sums.{sum_by_push}
use Rattle.scene_text.specs.declared.line.Line.{Line}
use Rattle.scene_text.specs.declared.line.Known.{Known}
use Rattle.scene_text.specs.Known.{is_file, is_process, is_cache, is_page_size, is_resident, is_adhoc, is_script, large_from, large_after, known_of, known_after, counted}
use Rattle.scene_text.specs.Lines.{line_of}
use Rattle.scene_text.specs.Texts.{Flaw, is_skipped, said_behind}
use Rattle.pg_words.specs.Lines.{lines_of}
use Rattle.pg_words.specs.Cut.{lines_behind}
use Rattle.scene_text.specs.declared.draft.Draft.{Draft}
use Rattle.scene_text.specs.declared.whole.SceneFail.{SceneFail}
use Rattle.scene_text.specs.declared.whole.SceneFail.TheVariants.{NoMemory, Bad}
use Rattle.scene_text.specs.Results.{Fails}
use Rattle.scene_text.specs.Drafts.{draft_lines, IsWhole, Takes}

-- how much is left to read
abbrev pub left : Option (Bor (List ℕ)) → ℕ
left None = 0
left (Some rest) = length rest.now + 1

-- one more line counts where it declares
one_more : (n : ℕ) (t : Bool) → n + cond t 1 0 ≡ counted n t
one_more n true = refl
one_more n false = omega arith

counted_more : (p : Line → Bool) (lines : List Line) (x : Line) → count_by p (lines ++ x ∷ []) ≡ counted (count_by p lines) (p x)
counted_more p lines x = sum_by_push (λ y. cond (p y) 1 0) lines x ∙ one_more (count_by p lines) (p x)

or_false : (t : Bool) → (t || false) ≡ t
or_false true = refl
or_false false = refl

any_more : (p : Line → Bool) (lines : List Line) (x : Line) → list_any p (lines ++ x ∷ []) ≡ (list_any p lines || p x)
any_more p lines x = list_any-append p lines (x ∷ []) ∙ ap (λ t. list_any p lines || t) (or_false (p x))

large_more : (before : Bool) (lines : List Line) (x : Line) → large_from before (lines ++ x ∷ []) ≡ large_after (large_from before lines) x
large_more before [] x = refl
large_more before (y ∷ lines) x = large_more (large_after before y) lines x

-- what one more line declares
pub known_more : (lines : List Line) (x : Line) → known_of (lines ++ x ∷ []) ≡ known_after (known_of lines) x
known_more lines x = λ i. record {
  files = counted_more is_file lines x i;
  processes = counted_more is_process lines x i;
  caches = counted_more is_cache lines x i;
  large = large_more false lines x i;
  sized = any_more is_page_size lines x i;
  limited = any_more is_resident lines x i;
  adhoc = any_more is_adhoc lines x i;
  script = any_more is_script lines x i;
}

-- a line that is skipped
pub skips : (above : List Line) (number : ℕ) (text : List ℕ) (texts : List (List ℕ)) → is_skipped text ≡ true → said_behind above number (text ∷ texts) ≡ said_behind above (number + 1) texts
unfolding said_behind
skips above number text texts skipped = rw skipped refl

-- a line that says something, or is bad
pub speaks : (above : List Line) (number : ℕ) (text : List ℕ) (texts : List (List ℕ)) (x : Line) → is_skipped text ≡ false → line_of (known_of above) text ≡ Ok x
    → said_behind above number (text ∷ texts) ≡ said_behind (above ++ x ∷ []) (number + 1) texts
unfolding said_behind
speaks above number text texts x told says = rw (told, says) refl

pub is_bad : (above : List Line) (number : ℕ) (text : List ℕ) (texts : List (List ℕ)) (kind : ℕ) → is_skipped text ≡ false → line_of (known_of above) text ≡ Err kind
    → said_behind above number (text ∷ texts) ≡ Err (record { line = number; kind = kind })
unfolding said_behind
is_bad above number text texts kind told bad = rw (told, bad) refl

pub at_end : (above : List Line) (number : ℕ) → said_behind above number [] ≡ Ok above
unfolding said_behind
at_end above number = refl

-- the next line is taken off
pub turned : (above : List Line) (number : ℕ) (rest : Option (Bor (List ℕ))) (text : Bor (List ℕ)) (first : List ℕ) (more : List (List ℕ)) (total : Result (List Line) Flaw)
    → rest ≡ Some text → lines_of text.now ≡ first ∷ more → said_behind above number (lines_behind rest) ≡ total → said_behind above number (first ∷ more) ≡ total
turned above number rest text first more total is cut so_far = ap (said_behind above number) (sym (ap lines_behind is ∙ cut)) ∙ so_far

-- what the loop keeps
pub record Keeps (draft : Draft) (known : Known) (number : ℕ) (texts : List (List ℕ)) (total : Result (List Line) Flaw) : Type 0 where
  pub said : said_behind (draft_lines draft) (number + 1) texts ≡ total
  pub known_is : known ≡ known_of (draft_lines draft)
  pub whole : IsWhole draft
  pub begun : draft.begun ≡ known.script

-- a bad line ends the reading
pub ends : (e : SceneFail) (draft new : Draft) (known : Known) (number : ℕ) (text : List ℕ) (more : List (List ℕ)) (total : Result (List Line) Flaw)
    → is_skipped text ≡ false → known ≡ known_of (draft_lines draft) → said_behind (draft_lines draft) number (text ∷ more) ≡ total → Takes draft known text number new (Err e) → Fails e total
ends NoMemory draft new known number text more total told is so_far taken = tt
ends (Bad line kind) draft new known number text more total told is so_far taken =
    let bad = is_bad (draft_lines draft) number text more kind told (rw (← is) taken.1) in
    sym so_far ∙ bad ∙ ap (λ (n : ℕ). Err (record { line = n; kind = kind })) (sym taken.0)

-- a line that says something is added
pub goes_on : (draft new : Draft) (known now : Known) (number : ℕ) (text : List ℕ) (more : List (List ℕ)) (total : Result (List Line) Flaw)
    → is_skipped text ≡ false → known ≡ known_of (draft_lines draft) → said_behind (draft_lines draft) number (text ∷ more) ≡ total → Takes draft known text number new (Ok now) → Keeps new now number more total
goes_on draft new known now number text more total told is so_far taken =
    let x = taken.0 in
    let added = taken.2 in
    let step = speaks (draft_lines draft) number text more x told (rw (← is) taken.1) in
    record {
      said = ap (λ (lines : List Line). said_behind lines (number + 1) more) added.lines ∙ sym step ∙ so_far;
      known_is = added.declared ∙ ap (λ (k : Known). known_after k x) is ∙ sym (known_more (draft_lines draft) x) ∙ ap known_of (sym added.lines);
      whole = added.whole;
      begun = added.begun;
    }
