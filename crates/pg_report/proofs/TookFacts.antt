-- A word that says something is how that is printed.
use Rattle.std.proofs.Common.{◌≡◌, ℕ, ◌^◌, ◌==◌, cond, Bool, true, false, List, [], ◌∷◌, length, drop, codes, Option, Some, None, refl, ap, sym, ◌∙◌, arith}
use Rattle.std.specs.Prelude.{bytes_eq, nat_le}
use Rattle.std.specs.List.{slice_split, join_with_byte}
use Rattle.std.specs.Option.{option_and_then, option_map, option_or}
use Rattle.std.specs.Fmt.{decimal}
use Rattle.std.proofs.lemmas.Bool.{eqb-true}
use Rattle.std.proofs.lemmas.List.Splits.{join_with_byte-slice_split}
use Rattle.hex.specs.Hex.{encode_lower}
use Rattle.cs_policy.specs.declared.entry.Who.{Who}
use Rattle.cs_policy.specs.declared.entry.Place.{Place}
use Rattle.cs_policy.specs.declared.entry.Place.TheVariants as place
use Rattle.cs_policy.specs.declared.flags.ProcFlags.{ProcFlags}
use Rattle.cs_policy.specs.declared.refusal.Refusal.{Refusal}
use Rattle.cs_policy.specs.ProcFlags.{number_of, flags_of}
use Rattle.cs_policy.specs.Refusal.{family_name, refusal_text}
use Rattle.pg_words.specs.Numbers.{address_text}
use Rattle.pg_words.specs.Digits.{hex_word, flags_word, flags_text}
use Rattle.pg_words.specs.Names.{file_text, process_text, cache_text, prot_word, prot_text, share_word, share_text, access_word, access_text}
use Rattle.pg_words.specs.Data.{data_text}
use Rattle.pg_words.specs.Rows.{named, row0, row1, row2, row4, row5}
use Rattle.pg_words.proofs.NumeralFacts.{number_takes, address_takes}
use Rattle.pg_words.proofs.NameFacts.{name_takes, prot_takes, share_takes, access_takes, chosen, is_word_text}
use Rattle.pg_words.proofs.HexFacts.{hex_takes, bytes_takes, flags_takes, map_takes}
use Rattle.pg_words.proofs.PieceFacts.{data_takes}
use Rattle.pg_report.specs.Forms.{stamp_text}
use Rattle.pg_report.specs.Forms.{who_text, place_text}
use Rattle.pg_report.specs.Forms.{long, short, tiny, only, file_form, process_form, cache_form, address_form, stamp_form, flags_form, cdhash_form, few_bytes, data_form, families, family_form, refusal_form, refusal_made, who_form, who_made, place_form}

-- a form whose words are how their values are printed
pub record Took {A : Type 0} (a : List ℕ → Option A) (text : A → List ℕ) : Type 0 where
  pub is : (word : List ℕ) (x : A) → a word ≡ Some x → word ≡ text x

-- the first step of two that say something
pub bind_some : {A B : Type 0} (f : A → Option B) (o : Option A) (y : B) → option_and_then f o ≡ Some y → (x : A) × (o ≡ Some x) × (f x ≡ Some y)
bind_some f (Some x) y e = (x, refl, e)
bind_some f None y e = absurd cc

pub some_is : {A : Type 0} (x y : A) → Some x ≡ Some y → x ≡ y
some_is x y e = cc

pub long_took : Took long decimal
long_took = record { is = λ w x e. (number_takes (2 ^ 64) x w (omega arith) e).is }

pub short_took : Took short decimal
short_took = record { is = λ w x e. (number_takes (2 ^ 32) x w (omega arith) e).is }

pub tiny_took : Took tiny decimal
tiny_took = record { is = λ w x e. (number_takes (2 ^ 8) x w (omega arith) e).is }

pub file_took : Took file_form file_text
file_took = record { is = λ w x e. (name_takes (2 ^ 32) 102 x w (omega arith) e).is }

pub process_took : Took process_form process_text
process_took = record { is = λ w x e. (name_takes (2 ^ 32) 112 x w (omega arith) e).is }

pub cache_took : Took cache_form cache_text
cache_took = record { is = λ w x e. (name_takes (2 ^ 32) 99 x w (omega arith) e).is }

pub stamp_took : Took stamp_form stamp_text
stamp_took = record { is = λ w x e. (name_takes (2 ^ 64) 64 x w (omega arith) e).is }

pub address_took : Took address_form address_text
address_took = record { is = λ w x e. (address_takes (2 ^ 64) x w (omega arith) e).is }

pub cdhash_took : Took cdhash_form encode_lower
cdhash_took = record { is = λ w x e. (bytes_takes 20 x w e).decoded.is }

pub data_took : Took data_form data_text
data_took = record { is = λ w x e. (data_takes (2 ^ 32) w x (omega arith) e).is }

pub prot_took : Took prot_word prot_text
prot_took = record { is = λ w x e. prot_takes x w e }

pub share_took : Took share_word share_text
share_took = record { is = λ w x e. share_takes x w e }

pub access_took : Took access_word access_text
access_took = record { is = λ w x e. access_takes x w e }

flags_are : (w : List ℕ) (f : ProcFlags) → flags_form w ≡ Some f → w ≡ flags_text (number_of f)
flags_are w f e =
    let m = map_takes flags_of (flags_word w) f e in
    (flags_takes m.0 w m.1).is ∙ ap (λ (g : ProcFlags). flags_text (number_of g)) m.2

pub flags_took : Took flags_form (λ f. flags_text (number_of f))
flags_took = record { is = flags_are }

tested : {A : Type 0} (t : Bool) (x y : A) → cond t (Some x) None ≡ Some y → x ≡ y
tested true x y e = cc
tested false x y e = absurd cc

few_are : (most : ℕ) (w bytes : List ℕ) → few_bytes most w ≡ Some bytes → w ≡ encode_lower bytes
unfolding few_bytes
few_are most w bytes e =
    let b = bind_some (λ (read : List ℕ). cond (nat_le (length read) most) (Some read) None) (hex_word w) bytes e in
    (hex_takes b.0 w b.1).decoded.is ∙ ap encode_lower (tested (nat_le (length b.0) most) b.0 bytes b.2)

pub few_took : (most : ℕ) → Took (few_bytes most) encode_lower
few_took most = record { is = few_are most }

only_is : (limit : ℕ) (w : List ℕ) (n : ℕ) → only limit w ≡ Some n → w ≡ decimal n
only_is limit w n e =
    let b = bind_some (λ (m : ℕ). cond (m == limit) (Some m) None) (short w) n e in
    short_took.is w b.0 b.1 ∙ ap decimal (tested (b.0 == limit) b.0 n b.2)

pub only_took : (limit : ℕ) → Took (only limit) decimal
only_took limit = record { is = only_is limit }

-- a word that is found in a table is the text there
pub named_is : {K : Type 0} (text : K → List ℕ) (keys : List K) (word : List ℕ) (key : K) → named text keys word ≡ Some key → word ≡ text key
named_is text [] word key e = absurd cc
named_is text (first ∷ keys) word key e = by (bytes_eq word (text first)) refl e (named_is text keys word key)
  where
    by : (t : Bool) → bytes_eq word (text first) ≡ t → cond t (Some first) (named text keys word) ≡ Some key → (named text keys word ≡ Some key → word ≡ text key) → word ≡ text key
    by true t e more = is_word_text word (text first) t ∙ ap text (some_is first key e)
    by false t e more = more e

family_is : (w : List ℕ) (f : ℕ) → family_form w ≡ Some f → w ≡ family_name f
unfolding family_form
family_is w f e = named_is family_name families w f e

pub family_took : Took family_form family_name
family_took = record { is = family_is }

-- ---- rows

pub took0 : {X : Type 0} (made : X) (words : X → List (List ℕ)) (ws : List (List ℕ)) (x : X) (k : List ℕ) → words made ≡ k ∷ [] → row0 made ws ≡ Some x → words x ≡ k ∷ ws
took0 made words [] x k is e = ap words (sym (some_is made x e)) ∙ is
took0 made words (w ∷ ws) x k is e = absurd cc

pub took1 : {A X : Type 0} {a : List ℕ → Option A} {ta : A → List ℕ} → Took a ta → (make : A → X) (words : X → List (List ℕ)) (ws : List (List ℕ)) (x : X) (k : List ℕ)
    → ((v : A) → words (make v) ≡ k ∷ ta v ∷ []) → row1 a make ws ≡ Some x → words x ≡ k ∷ ws
took1 c make words [] x k is e = absurd cc
took1 {a = a} c make words (w ∷ []) x k is e =
    let m = map_takes make (a w) x e in
    ap words (sym m.2) ∙ is m.0 ∙ ap (λ (t : List ℕ). k ∷ t ∷ []) (sym (c.is w m.0 m.1))
took1 c make words (w ∷ y ∷ ws) x k is e = absurd cc

pub took2 : {A B X : Type 0} {a : List ℕ → Option A} {b : List ℕ → Option B} {ta : A → List ℕ} {tb : B → List ℕ} → Took a ta → Took b tb
    → (make : A → B → X) (words : X → List (List ℕ)) (ws : List (List ℕ)) (x : X) (k : List ℕ)
    → ((v : A) (w : B) → words (make v w) ≡ k ∷ ta v ∷ tb w ∷ []) → row2 a b make ws ≡ Some x → words x ≡ k ∷ ws
took2 c d make words [] x k is e = absurd cc
took2 c d make words (w ∷ []) x k is e = absurd cc
took2 {a = a} {b = b} c d make words (v ∷ w ∷ []) x k is e =
    let m = bind_some (λ p. option_and_then (λ q. Some (make p q)) (b w)) (a v) x e in
    let n = bind_some (λ q. Some (make m.0 q)) (b w) x m.2 in
    ap words (sym (some_is (make m.0 n.0) x n.2)) ∙ is m.0 n.0 ∙ (λ i. k ∷ sym (c.is v m.0 m.1) i ∷ sym (d.is w n.0 n.1) i ∷ [])
took2 c d make words (v ∷ w ∷ y ∷ ws) x k is e = absurd cc

pub took4 : {A B C D X : Type 0} {a : List ℕ → Option A} {b : List ℕ → Option B} {c : List ℕ → Option C} {d : List ℕ → Option D}
    {ta : A → List ℕ} {tb : B → List ℕ} {tc : C → List ℕ} {td : D → List ℕ} → Took a ta → Took b tb → Took c tc → Took d td
    → (make : A → B → C → D → X) (words : X → List (List ℕ)) (ws : List (List ℕ)) (x : X) (k : List ℕ)
    → ((p : A) (q : B) (r : C) (s : D) → words (make p q r s) ≡ k ∷ ta p ∷ tb q ∷ tc r ∷ td s ∷ []) → row4 a b c d make ws ≡ Some x → words x ≡ k ∷ ws
took4 ka kb kc kd make words [] x k is e = absurd cc
took4 ka kb kc kd make words (u ∷ []) x k is e = absurd cc
took4 ka kb kc kd make words (u ∷ v ∷ []) x k is e = absurd cc
took4 ka kb kc kd make words (u ∷ v ∷ w ∷ []) x k is e = absurd cc
took4 {a = a} {b = b} {c = c} {d = d} ka kb kc kd make words (u ∷ v ∷ w ∷ y ∷ []) x k is e =
    let m = bind_some (λ p. option_and_then (λ q. option_and_then (λ r. option_and_then (λ s. Some (make p q r s)) (d y)) (c w)) (b v)) (a u) x e in
    let n = bind_some (λ q. option_and_then (λ r. option_and_then (λ s. Some (make m.0 q r s)) (d y)) (c w)) (b v) x m.2 in
    let o = bind_some (λ r. option_and_then (λ s. Some (make m.0 n.0 r s)) (d y)) (c w) x n.2 in
    let l = bind_some (λ s. Some (make m.0 n.0 o.0 s)) (d y) x o.2 in
    ap words (sym (some_is (make m.0 n.0 o.0 l.0) x l.2)) ∙ is m.0 n.0 o.0 l.0
    ∙ (λ i. k ∷ sym (ka.is u m.0 m.1) i ∷ sym (kb.is v n.0 n.1) i ∷ sym (kc.is w o.0 o.1) i ∷ sym (kd.is y l.0 l.1) i ∷ [])
took4 ka kb kc kd make words (u ∷ v ∷ w ∷ y ∷ z ∷ ws) x k is e = absurd cc

pub took5 : {A B C D E X : Type 0} {a : List ℕ → Option A} {b : List ℕ → Option B} {c : List ℕ → Option C} {d : List ℕ → Option D} {f : List ℕ → Option E}
    {ta : A → List ℕ} {tb : B → List ℕ} {tc : C → List ℕ} {td : D → List ℕ} {tf : E → List ℕ} → Took a ta → Took b tb → Took c tc → Took d td → Took f tf
    → (make : A → B → C → D → E → X) (words : X → List (List ℕ)) (ws : List (List ℕ)) (x : X) (k : List ℕ)
    → ((p : A) (q : B) (r : C) (s : D) (t : E) → words (make p q r s t) ≡ k ∷ ta p ∷ tb q ∷ tc r ∷ td s ∷ tf t ∷ []) → row5 a b c d f make ws ≡ Some x → words x ≡ k ∷ ws
took5 ka kb kc kd kf make words [] x k is e = absurd cc
took5 ka kb kc kd kf make words (u ∷ []) x k is e = absurd cc
took5 ka kb kc kd kf make words (u ∷ v ∷ []) x k is e = absurd cc
took5 ka kb kc kd kf make words (u ∷ v ∷ w ∷ []) x k is e = absurd cc
took5 ka kb kc kd kf make words (u ∷ v ∷ w ∷ y ∷ []) x k is e = absurd cc
took5 {a = a} {b = b} {c = c} {d = d} {f = f} ka kb kc kd kf make words (u ∷ v ∷ w ∷ y ∷ z ∷ []) x k is e =
    let m = bind_some (λ p. option_and_then (λ q. option_and_then (λ r. option_and_then (λ s. option_and_then (λ t. Some (make p q r s t)) (f z)) (d y)) (c w)) (b v)) (a u) x e in
    let n = bind_some (λ q. option_and_then (λ r. option_and_then (λ s. option_and_then (λ t. Some (make m.0 q r s t)) (f z)) (d y)) (c w)) (b v) x m.2 in
    let o = bind_some (λ r. option_and_then (λ s. option_and_then (λ t. Some (make m.0 n.0 r s t)) (f z)) (d y)) (c w) x n.2 in
    let l = bind_some (λ s. option_and_then (λ t. Some (make m.0 n.0 o.0 s t)) (f z)) (d y) x o.2 in
    let j = bind_some (λ t. Some (make m.0 n.0 o.0 l.0 t)) (f z) x l.2 in
    ap words (sym (some_is (make m.0 n.0 o.0 l.0 j.0) x j.2)) ∙ is m.0 n.0 o.0 l.0 j.0
    ∙ (λ i. k ∷ sym (ka.is u m.0 m.1) i ∷ sym (kb.is v n.0 n.1) i ∷ sym (kc.is w o.0 o.1) i ∷ sym (kd.is y l.0 l.1) i ∷ sym (kf.is z j.0 j.1) i ∷ [])
took5 ka kb kc kd kf make words (u ∷ v ∷ w ∷ y ∷ z ∷ z2 ∷ ws) x k is e = absurd cc

-- ---- words of parts

-- the parts of a refusal, in a row
abbrev refusal_parts : Refusal → List (List ℕ)
refusal_parts r = family_name r.family ∷ decimal r.number ∷ decimal r.a ∷ decimal r.b ∷ []

refusal_is : (w : List ℕ) (r : Refusal) → refusal_form w ≡ Some r → w ≡ refusal_text r
unfolding refusal_form
refusal_is w r e =
    let parts = slice_split (λ b. b == 46) w in
    let k = took4 family_took tiny_took long_took long_took refusal_made (λ r. [] ∷ refusal_parts r) parts r [] (λ p q s t. refl) e in
    let same : refusal_parts r ≡ parts = ap (λ (ws : List (List ℕ)). drop 1 ws) k in
    sym (join_with_byte-slice_split 46 w) ∙ ap (join_with_byte 46) (sym same)

pub refusal_took : Took refusal_form refusal_text
refusal_took = record { is = refusal_is }

who_is : (w : List ℕ) (x : Who) → who_form w ≡ Some x → w ≡ who_text x
unfolding who_form
who_is w x e =
    let parts = slice_split (λ b. b == 46) w in
    let k = took2 short_took short_took who_made (λ x. [] ∷ decimal x.worker ∷ decimal x.call ∷ []) parts x [] (λ p q. refl) e in
    let same : decimal x.worker ∷ decimal x.call ∷ [] ≡ parts = ap (λ (ws : List (List ℕ)). drop 1 ws) k in
    sym (join_with_byte-slice_split 46 w) ∙ ap (join_with_byte 46) (sym same)

pub who_took : Took who_form who_text
who_took = record { is = who_is }

-- the first of two that says something
pub either : {A P : Type 0} (o p : Option A) (x : A) → option_or o p ≡ Some x → (o ≡ Some x → P) → (p ≡ Some x → P) → P
either None p x e first second = second e
either (Some y) p x e first second = first e

place_is : (w : List ℕ) (p : Place) → place_form w ≡ Some p → w ≡ place_text p
unfolding place_form
place_is w p e =
    either (option_map (λ f. place.File f) (file_form w)) _ p e
    (λ e. let m = map_takes (λ f. place.File f) (file_form w) p e in file_took.is w m.0 m.1 ∙ ap place_text m.2)
    (λ e.
    either (option_map (λ q. place.Process q) (process_form w)) _ p e
    (λ e. let m = map_takes (λ q. place.Process q) (process_form w) p e in process_took.is w m.0 m.1 ∙ ap place_text m.2)
    (λ e. named_is place_text (place.Trust ∷ []) w p e))

pub place_took : Took place_form place_text
place_took = record { is = place_is }
