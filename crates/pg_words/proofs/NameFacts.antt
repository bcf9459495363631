-- Names are printed as the words that say them.
use Rattle.std.proofs.Common.{◌≡◌, ℕ, ◌^◌, ◌<◌, ◌≤◌, cond, Bool, true, false, List, [], ◌∷◌, Option, Some, refl, ap, ◌∙◌}
use Rattle.std.specs.Fmt.{decimal}
use Rattle.std.specs.Prelude.{bytes_eq}
use Rattle.std.proofs.lemmas.Bool.{eqb-true, eq-eqb}
use Rattle.std.proofs.lemmas.Slice.Eq.{bytes_eq-Decides}
use Rattle.cs_policy.specs.declared.access.Access.{Access}
use Rattle.cs_policy.specs.declared.access.Access.TheVariants.{Read, Write, Execute}
use Rattle.cs_policy.specs.declared.access.Prot.{Prot}
use Rattle.cs_policy.specs.declared.access.Prot.TheVariants.{R, RW, RX, RWX}
use Rattle.pg_words.specs.Names.{name_word, prot_text, prot_word, share_text, share_word, access_text, access_word}
use Rattle.pg_words.proofs.NumeralFacts.{guarded_again, guarded_takes, number_again, number_takes, Says}

pub name_again : (limit letter n : ℕ) → limit ≤ 2 ^ 64 → n < limit → name_word limit letter (letter ∷ decimal n) ≡ Some n
unfolding name_word
name_again limit letter n most lt = guarded_again _ _ n (eq-eqb letter letter refl) (number_again limit n most lt)

pub name_takes : (limit letter n : ℕ) (word : List ℕ) → limit ≤ 2 ^ 64 → name_word limit letter word ≡ Some n → Says word (letter ∷ decimal n) n limit
unfolding name_word
name_takes limit letter n [] most e = absurd cc
name_takes limit letter n (c ∷ digits) most e =
    let g = guarded_takes _ _ n e in
    let same = eqb-true c letter g.0 in
    let s = number_takes limit n digits most g.1 in
    record { is = (λ i. same i ∷ s.is i); fits = s.fits }

-- the first of a table that a word is
pub chosen : {A P : Type 0} (t : Bool) (x y z : Option A) → cond t x y ≡ z → (t ≡ true → x ≡ z → P) → (y ≡ z → P) → P
chosen true x y z e at_true at_false = at_true refl e
chosen false x y z e at_true at_false = at_false e

pub is_word_text : (word text : List ℕ) → bytes_eq word text ≡ true → word ≡ text
is_word_text word text e = (bytes_eq-Decides word text).0 e

pub prot_again : (prot : Prot) → prot_word (prot_text prot) ≡ Some prot
unfolding prot_word
prot_again R = refl
prot_again RW = refl
prot_again RX = refl
prot_again RWX = refl

pub share_again : (shared : Bool) → share_word (share_text shared) ≡ Some shared
unfolding share_word
share_again true = refl
share_again false = refl

pub access_again : (access : Access) → access_word (access_text access) ≡ Some access
unfolding access_word
access_again Read = refl
access_again Write = refl
access_again Execute = refl

-- a word that a test takes for a text says what the text does
tested : {A : Type 0} (print : A → List ℕ) (word : List ℕ) (x y : A) → bytes_eq word (print x) ≡ true → Some x ≡ Some y → word ≡ print y
tested print word x y t e = is_word_text word (print x) t ∙ ap print (let same : x ≡ y = cc in same)

pub prot_takes : (prot : Prot) (word : List ℕ) → prot_word word ≡ Some prot → word ≡ prot_text prot
unfolding prot_word
prot_takes prot word e =
    chosen _ _ _ _ e (tested prot_text word R prot)
    (λ e. chosen _ _ _ _ e (tested prot_text word RW prot)
    (λ e. chosen _ _ _ _ e (tested prot_text word RX prot)
    (λ e. chosen _ _ _ _ e (tested prot_text word RWX prot) (λ e. absurd cc))))

pub share_takes : (shared : Bool) (word : List ℕ) → share_word word ≡ Some shared → word ≡ share_text shared
unfolding share_word
share_takes shared word e =
    chosen _ _ _ _ e (tested share_text word true shared)
    (λ e. chosen _ _ _ _ e (tested share_text word false shared) (λ e. absurd cc))

pub access_takes : (access : Access) (word : List ℕ) → access_word word ≡ Some access → word ≡ access_text access
unfolding access_word
access_takes access word e =
    chosen _ _ _ _ e (tested access_text word Read access)
    (λ e. chosen _ _ _ _ e (tested access_text word Write access)
    (λ e. chosen _ _ _ _ e (tested access_text word Execute access) (λ e. absurd cc)))
