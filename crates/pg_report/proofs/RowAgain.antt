-- Columns and rows that are read as they were printed.
use Rattle.std.proofs.Common.{◌≡◌, ℕ, ◌^◌, ◌<◌, Bool, true, false, List, [], ◌∷◌, codes, Option, Some, None, option_map, refl, ap, sym, ◌∙◌, arith}
use Rattle.std.specs.Fmt.{decimal}
use Rattle.hex.specs.Hex.{encode_lower}
use Rattle.cs_policy.specs.declared.access.Access.{Access}
use Rattle.cs_policy.specs.declared.access.Prot.{Prot}
use Rattle.cs_policy.specs.declared.data.Data.{Data}
use Rattle.cs_policy.specs.declared.refusal.Refusal.{Refusal}
use Rattle.cs_policy.specs.declared.flags.ProcFlags.{ProcFlags}
use Rattle.cs_policy.specs.ProcFlags.{number_of}
use Rattle.cs_policy.specs.Refusal.{refusal_text}
use Rattle.pg_words.specs.Numbers.{number_word, address_word, address_text}
use Rattle.pg_words.specs.Digits.{hex_word, bytes_word, flags_word, flags_text}
use Rattle.pg_words.specs.Data.{data_word, data_text, CanWrite}
use Rattle.pg_words.specs.Lines.{is_word, AreWords}
use Rattle.pg_words.specs.Names.{name_word, file_text, process_text, cache_text, prot_word, prot_text, share_word, share_text, access_word, access_text}
use Rattle.pg_words.specs.Rows.{row0, row1, row2, row4, row5}
use Rattle.pg_words.proofs.NameFacts.{prot_again, share_again, access_again, is_word_text}
use Rattle.pg_words.proofs.PieceFacts.{data_again}
use Rattle.pg_words.proofs.PlainFacts.{decimal_is_word, address_is_word, hex_is_word, prot_is_word, share_is_word, access_is_word, data_is_word}
use Rattle.pg_report.specs.Forms.{stamp_text}
use Rattle.pg_report.specs.Forms.{long, short, file_form, process_form, cache_form, address_form, stamp_form, flags_form, cdhash_form, few_bytes, data_form, refusal_form}
use Rattle.pg_report.specs.Reading.{is_arrow}
use Rattle.pg_report.specs.Fits.{RefusalFits, FewBytes, IsCdhash}
use Rattle.pg_report.proofs.FormAgain.{long_again, short_again, file_again, process_again, cache_again, stamp_again, addr_again, cdhash_again, few_again, flag_again, refusal_again, refusal_is_word, flags_is_word}

-- a word that its column reads as a value, and that is no arrow
pub record Col {A : Type 0} (a : List ℕ → Option A) (w : List ℕ) (x : A) : Type 0 where
  pub says : a w ≡ Some x
  pub word : is_word w ≡ true
  pub plain : is_arrow w ≡ false

some_none : {A : Type 0} (x : A) (o : Option A) → o ≡ Some x → o ≡ None → ⊥
some_none x o e n = absurd (clash x (sym e ∙ n))
  where
    clash : {A : Type 0} (x : A) → Some x ≡ None → ⊥
    clash x e = absurd cc

pub col : {A : Type 0} (a : List ℕ → Option A) (w : List ℕ) (x : A) → a (codes "->") ≡ None → a w ≡ Some x → is_word w ≡ true → Col a w x
col a w x none e is = record { says = e; word = is; plain = by (is_arrow w) refl }
  where
    by : (t : Bool) → is_arrow w ≡ t → is_arrow w ≡ false
    by false p = p
    by true p = absurd (some_none x (a w) e (ap a (is_word_text w (codes "->") p) ∙ none))

pub long_col : (n : ℕ) → n < 2 ^ 64 → Col long (decimal n) n
unfolding number_word
long_col n lt = col long _ n refl (long_again n lt) (decimal_is_word n lt)

pub short_col : (n : ℕ) → n < 2 ^ 32 → Col short (decimal n) n
unfolding number_word
short_col n lt = col short _ n refl (short_again n lt) (decimal_is_word n (omega arith))

pub file_col : (n : ℕ) → n < 2 ^ 32 → Col file_form (file_text n) n
unfolding name_word
file_col n lt = col file_form _ n refl (file_again n lt) (decimal_is_word n (omega arith))

pub process_col : (n : ℕ) → n < 2 ^ 32 → Col process_form (process_text n) n
unfolding name_word
process_col n lt = col process_form _ n refl (process_again n lt) (decimal_is_word n (omega arith))

pub cache_col : (n : ℕ) → n < 2 ^ 32 → Col cache_form (cache_text n) n
unfolding name_word
cache_col n lt = col cache_form _ n refl (cache_again n lt) (decimal_is_word n (omega arith))

pub stamp_col : (n : ℕ) → n < 2 ^ 64 → Col stamp_form (stamp_text n) n
unfolding name_word
stamp_col n lt = col stamp_form _ n refl (stamp_again n lt) (decimal_is_word n lt)

pub addr_col : (n : ℕ) → n < 2 ^ 64 → Col address_form (address_text n) n
unfolding address_word
addr_col n lt = col address_form _ n refl (addr_again n lt) (address_is_word n lt)

pub cdhash_col : (b : List ℕ) → IsCdhash b → Col cdhash_form (encode_lower b) b
unfolding bytes_word
cdhash_col b f = col cdhash_form _ b refl (cdhash_again b f) (hex_is_word b f.are)

pub few_col : (most : ℕ) (b : List ℕ) → FewBytes most b → Col (few_bytes most) (encode_lower b) b
unfolding few_bytes hex_word
few_col most b f = col (few_bytes most) _ b refl (few_again most b f) (hex_is_word b f.are)

pub flags_col : (f : ProcFlags) → number_of f < 2 ^ 32 → Col flags_form (flags_text (number_of f)) f
unfolding flags_word bytes_word
flags_col f lt = col flags_form _ f refl (flag_again f lt) (flags_is_word (number_of f) lt)

pub data_col : (d : Data) → CanWrite (2 ^ 32) d → Col data_form (data_text d) d
unfolding data_word hex_word
data_col d f = col data_form _ d refl (data_again (2 ^ 32) d (omega arith) f) (data_is_word (2 ^ 32) d (omega arith) f)

pub prot_col : (p : Prot) → Col prot_word (prot_text p) p
unfolding prot_word
prot_col p = col prot_word _ p refl (prot_again p) (prot_is_word p)

pub share_col : (s : Bool) → Col share_word (share_text s) s
unfolding share_word
share_col s = col share_word _ s refl (share_again s) (share_is_word s)

pub access_col : (a : Access) → Col access_word (access_text a) a
unfolding access_word
access_col a = col access_word _ a refl (access_again a) (access_is_word a)

pub refusal_col : (r : Refusal) → RefusalFits r → Col refusal_form (refusal_text r) r
unfolding refusal_form
refusal_col r f = col refusal_form _ r refl (refusal_again r f) (refusal_is_word r f)

-- words that are no arrows
abbrev pub ArePlain : List (List ℕ) → Type 0
ArePlain [] = Unit {0}
ArePlain (w ∷ words) = (is_arrow w ≡ false) × ArePlain words

-- words that a row reads as a value
pub record Row {X : Type 0} (row : List (List ℕ) → Option X) (words : List (List ℕ)) (x : X) : Type 0 where
  pub says : row words ≡ Some x
  pub are : AreWords words
  pub plain : ArePlain words

pub row0_of : {X : Type 0} (made : X) → Row (row0 made) [] made
row0_of made = record { says = refl; are = tt; plain = tt }

pub row1_of : {A X : Type 0} (a : List ℕ → Option A) (make : A → X) {u : List ℕ} {x : A} → Col a u x → Row (row1 a make) (u ∷ []) (make x)
row1_of a make c = record { says = ap (option_map make) c.says; are = (c.word, tt); plain = (c.plain, tt) }

pub row2_of : {A B X : Type 0} (a : List ℕ → Option A) (b : List ℕ → Option B) (make : A → B → X) {u v : List ℕ} {x : A} {y : B}
    → Col a u x → Col b v y → Row (row2 a b make) (u ∷ v ∷ []) (make x y)
row2_of a b make c d = record { says = rw (c.says, d.says) refl; are = (c.word, (d.word, tt)); plain = (c.plain, (d.plain, tt)) }

pub row4_of : {A B C D X : Type 0} (a : List ℕ → Option A) (b : List ℕ → Option B) (c : List ℕ → Option C) (d : List ℕ → Option D) (make : A → B → C → D → X)
    {p q r s : List ℕ} {x : A} {y : B} {z : C} {w : D} → Col a p x → Col b q y → Col c r z → Col d s w → Row (row4 a b c d make) (p ∷ q ∷ r ∷ s ∷ []) (make x y z w)
row4_of a b c d make f g h i =
    record { says = rw (f.says, g.says, h.says, i.says) refl; are = (f.word, (g.word, (h.word, (i.word, tt)))); plain = (f.plain, (g.plain, (h.plain, (i.plain, tt)))) }

pub row5_of : {A B C D E X : Type 0} (a : List ℕ → Option A) (b : List ℕ → Option B) (c : List ℕ → Option C) (d : List ℕ → Option D) (e : List ℕ → Option E) (make : A → B → C → D → E → X)
    {p q r s t : List ℕ} {x : A} {y : B} {z : C} {w : D} {v : E} → Col a p x → Col b q y → Col c r z → Col d s w → Col e t v → Row (row5 a b c d e make) (p ∷ q ∷ r ∷ s ∷ t ∷ []) (make x y z w v)
row5_of a b c d e make f g h i j =
    record { says = rw (f.says, g.says, h.says, i.says, j.says) refl; are = (f.word, (g.word, (h.word, (i.word, (j.word, tt))))); plain = (f.plain, (g.plain, (h.plain, (i.plain, (j.plain, tt))))) }
