-- What the parse of the command line tells of the path, and that a run by it is the run by the words.
use Rattle.std.proofs.Common.{◌≡◌, ◌⊎◌, ℕ, Bor, suc, length, arith, List, [], ◌∷◌, Option, Some, None, Result, Ok, Err, IsErr, is_err, true, false, not, refl, ap, sym, ◌∙◌, inl, inr, codes}
use Rattle.std.specs.Prelude.{IfOk, IfErr, OnOk, OnErr, IsFalse}
use Rattle.std.proofs.lemmas.Bool.{ne_eqb}
use Rattle.clap.specs.Words.{App, Row, Text, matches_of, fault_of, first_of, kind_of, HasKind, IsAmong, Kinds}
use Rattle.clap.specs.Walk.{is_empty}
use Rattle.clap.specs.declared.error.Error.{Error}
use Rattle.clap.specs.declared.error.kind.ErrorKind.{ErrorKind}
use Rattle.csverify.specs.Words.{verifier, is_refused, path_of, IsShort, IsFaultIn}
use Rattle.pg_digest.specs.Kinds.{Hash}
use Rattle.pg_io.specs.Files.{Told}
use Rattle.csverify.specs.Ending.{Ending, named, of_path, ending_of, told_beside, told_after, TellsEither}

-- the command finds no fault in the words that it takes
pub words_taken : (app : App) (words : List Text) → app ≡ verifier → fault_of app words ≡ [] → is_refused words ≡ false
unfolding is_refused
words_taken app words is none =
    let no_fault : fault_of verifier words ≡ [] = rw is at none in
    rw no_fault refl

-- the path of words that the command takes
pub path_is : (app : App) (words : List Text) (rows : List Row) (path : Text) → app ≡ verifier → fault_of app words ≡ [] → rows ≡ matches_of app words → first_of (codes "PATH") rows ≡ Some path → path_of words ≡ Some path
unfolding path_of
path_is app words rows path is none found first =
    let taken : is_refused words ≡ false = words_taken app words is none in
    let read : first_of (codes "PATH") (matches_of verifier words) ≡ Some path = rw (found, is) at first in
    rw taken read

-- a list that has an element is not empty
not_empty : (fault : ErrorKind) (faults : Kinds) → not (is_empty (fault ∷ faults)) ≡ true
not_empty fault faults = ap not (ne_eqb (length (fault ∷ faults)) 0 (λ e. let bad : suc (length faults) ≡ 0 = e in absurd (omega arith)))

-- the command finds a fault in words where one of a kind is found
fault_found : (words : List Text) (faults : Kinds) (k : ErrorKind) → fault_of verifier words ≡ faults → IsAmong k faults → is_refused words ≡ true
unfolding is_refused
fault_found words [] k is among = absurd among
fault_found words (x ∷ xs) k is among = rw is (not_empty x xs)

-- no path of words in which the command finds a fault
no_path : (words : List Text) → is_refused words ≡ true → path_of words ≡ None
unfolding path_of
no_path words is = rw is refl

-- an error of the command line is for want of memory or for a fault in the words
pub words_refused : (app : App) (words : List Text) (error : Error) → app ≡ verifier → HasKind (fault_of app words) error → IsFaultIn words error
words_refused app words error is has = elim has [
  | inl memory ↦ inl memory
  | inr among ↦ inr (fault_found words (fault_of app words) (kind_of error) (ap (λ (a : App). fault_of a words) (sym is)) among)
]

-- a run by what the command line gave is the run by the words
pub record Agrees (path : Result (Bor (List ℕ)) Error) (words : List Text) : Type 0 where
  pub same_path : named path ≡ path_of words
  pub same_refusal : is_err path ≡ is_refused words

-- it is, unless the run gives up before it begins
abbrev pub IsRunBy : {E F : Type 0} → Result (Bor (List ℕ)) Error → List Text → Result E F → Type 0
IsRunBy path words r = (IsErr r × (named path ≡ None)) ⊎ Agrees path words

pub by_words : {E F : Type 0} (path : Result (Bor (List ℕ)) Error) (words : List Text) (r : Result E F) → IfOk path (λ p. path_of words ≡ Some p.now) → OnOk path (IsFalse (is_refused words)) → IfErr path (IsFaultIn words) → IfErr path (λ e. IsShort e → IsErr r) → IsRunBy path words r
by_words (Ok p) words r is taken fault short = inr (record { same_path = sym is; same_refusal = sym taken })
by_words (Err e) words r is taken fault short = elim fault [
  | inl memory ↦ inl (short memory, refl)
  | inr refused ↦ inr (record { same_path = sym (no_path words refused); same_refusal = sym refused })
]

-- so it ends as the words say
pub ends_by_words : {F : Type 0} (hash : Hash) (told : Told) (path : Result (Bor (List ℕ)) Error) (words : List Text) (r : Result Ending F) → IsRunBy path words r → IfOk r (λ e. e ≡ of_path hash told (named path)) → IfOk r (λ e. e ≡ ending_of hash words told)
ends_by_words hash told path words (Ok e) (inl short) is = let bad : false ≡ true = short.0 in absurd cc
ends_by_words hash told path words (Ok e) (inr run) is = is ∙ ap (of_path hash told) run.same_path
ends_by_words hash told path words (Err e) run is = tt

-- and reads what they name
pub reads_by_words : {E F : Type 0} (told : Told) (now : Option Told) (path : Result (Bor (List ℕ)) Error) (words : List Text) (r : Result E F) → IsRunBy path words r → OnOk r (now ≡ Some (told_beside (named path) told)) → OnOk r (now ≡ Some (told_after words told))
reads_by_words told now path words (Ok e) (inl short) is = let bad : false ≡ true = short.0 in absurd cc
reads_by_words told now path words (Ok e) (inr run) is = is ∙ ap (λ (p : Option Text). Some (told_beside p told)) run.same_path
reads_by_words told now path words (Err e) run is = tt

-- or nothing, where it gives up
pub short_by_words : {E F : Type 0} (told : Told) (now : Option Told) (path : Result (Bor (List ℕ)) Error) (words : List Text) (r : Result E F) → IsRunBy path words r → OnErr r (TellsEither told (told_beside (named path) told) now) → OnErr r (TellsEither told (told_after words told) now)
short_by_words told now path words (Ok e) run is = tt
short_by_words told now path words (Err e) (inl short) is = elim is [
  | inl before ↦ inl before
  | inr after ↦ inl (after ∙ ap (λ (p : Option Text). Some (told_beside p told)) short.1)
]
short_by_words told now path words (Err e) (inr run) is = elim is [
  | inl before ↦ inl before
  | inr after ↦ inr (after ∙ ap (λ (p : Option Text). Some (told_beside p told)) run.same_path)
]
