-- What a word says is in the bounds of its type.
use Rattle.std.proofs.Common.{◌≡◌, ℕ, zero, suc, ◌+◌, ◌*◌, ◌^◌, ◌<◌, ◌≤◌, ◌==◌, cond, Bool, true, false, List, [], ◌∷◌, length, codes, Option, Some, None, refl, ap, sym, ◌∙◌, subst, arith}
use Rattle.std.specs.Prelude.{bytes_eq, nat_le}
use Rattle.std.specs.List.{slice_split}
use Rattle.std.specs.Option.{option_and_then, option_map, option_or}
use Rattle.std.proofs.Math.Nat.{pow-suc}
use Rattle.std.proofs.lemmas.Bool.{eqb-true, leb-true}
use Rattle.std.proofs.lemmas.Option.{none-some}
use Rattle.cs_policy.specs.declared.entry.Who.{Who}
use Rattle.cs_policy.specs.declared.entry.Place.{Place}
use Rattle.cs_policy.specs.declared.entry.Place.TheVariants as place
use Rattle.cs_policy.specs.declared.data.Data.{Data}
use Rattle.cs_policy.specs.declared.flags.ProcFlags.{ProcFlags}
use Rattle.cs_policy.specs.declared.refusal.Refusal.{Refusal}
use Rattle.cs_policy.specs.ProcFlags.{number_of, flags_of}
use Rattle.cs_policy.specs.Refusal.{family_name}
use Rattle.pg_words.specs.Digits.{hex_word, flags_word}
use Rattle.pg_words.specs.Data.{CanWrite}
use Rattle.pg_words.specs.Rows.{named, row0, row1, row2, row4, row5, row6, row7}
use Rattle.pg_words.proofs.NumeralFacts.{number_takes, address_takes}
use Rattle.pg_words.proofs.NameFacts.{name_takes, chosen}
use Rattle.pg_words.proofs.HexFacts.{hex_takes, bytes_takes, flags_takes, map_takes}
use Rattle.pg_words.proofs.PieceFacts.{data_takes}
use Rattle.pg_report.specs.Forms.{long, short, tiny, only, file_form, process_form, cache_form, address_form, stamp_form, flags_form, cdhash_form, few_bytes, data_form, families, family_form, refusal_form, refusal_made, who_form, who_made, place_form, bits_form, files_form}
use Rattle.pg_report.specs.Fits.{Is32, Is64, AreFlags, AreFiles, RefusalFits, FewBytes, IsCdhash, PlaceFits}
use Rattle.pg_report.proofs.TookFacts.{bind_some, some_is, either}

-- a form whose words say values in their bounds
pub record Bound {A : Type 0} (a : List ℕ → Option A) (P : A → Type 0) : Type 0 where
  pub fits : (word : List ℕ) (x : A) → a word ≡ Some x → P x

pub long_bound : Bound long Is64
long_bound = record { fits = λ w x e. (number_takes (2 ^ 64) x w (omega arith) e).fits }

pub short_bound : Bound short Is32
short_bound = record { fits = λ w x e. (number_takes (2 ^ 32) x w (omega arith) e).fits }

tiny_bound : Bound tiny (λ n. n < 2 ^ 8)
tiny_bound = record { fits = λ w x e. (number_takes (2 ^ 8) x w (omega arith) e).fits }

pub file_bound : Bound file_form Is32
file_bound = record { fits = λ w x e. (name_takes (2 ^ 32) 102 x w (omega arith) e).fits }

pub process_bound : Bound process_form Is32
process_bound = record { fits = λ w x e. (name_takes (2 ^ 32) 112 x w (omega arith) e).fits }

pub cache_bound : Bound cache_form Is32
cache_bound = record { fits = λ w x e. (name_takes (2 ^ 32) 99 x w (omega arith) e).fits }

pub stamp_bound : Bound stamp_form Is64
stamp_bound = record { fits = λ w x e. (name_takes (2 ^ 64) 64 x w (omega arith) e).fits }

pub address_bound : Bound address_form Is64
address_bound = record { fits = λ w x e. (address_takes (2 ^ 64) x w (omega arith) e).fits }

pub any_bound : {A : Type 0} (a : List ℕ → Option A) → Bound a (λ x. Unit {0})
any_bound a = record { fits = λ w x e. tt }

cdhash_fits : (w : List ℕ) (x : List ℕ) → cdhash_form w ≡ Some x → IsCdhash x
cdhash_fits w x e = let b = bytes_takes 20 x w e in record { are = b.decoded.fits; count = b.size }

pub cdhash_bound : Bound cdhash_form IsCdhash
cdhash_bound = record { fits = cdhash_fits }

pub data_bound : Bound data_form (CanWrite (2 ^ 32))
data_bound = record { fits = λ w x e. (data_takes (2 ^ 32) w x (omega arith) e).can }

flags_fit : (w : List ℕ) (f : ProcFlags) → flags_form w ≡ Some f → AreFlags f
flags_fit w f e = let m = map_takes flags_of (flags_word w) f e in subst AreFlags m.2 (flags_takes m.0 w m.1).fits

pub flags_bound : Bound flags_form AreFlags
flags_bound = record { fits = flags_fit }

-- a value that passes a test
tested : {A : Type 0} (t : Bool) (x y : A) → cond t (Some x) None ≡ Some y → (t ≡ true) × (x ≡ y)
tested true x y e = (refl, some_is x y e)
tested false x y e = absurd cc

few_fit : (most : ℕ) (w bytes : List ℕ) → few_bytes most w ≡ Some bytes → FewBytes most bytes
unfolding few_bytes
few_fit most w bytes e =
    let b = bind_some (λ (read : List ℕ). cond (nat_le (length read) most) (Some read) None) (hex_word w) bytes e in
    let t = tested (nat_le (length b.0) most) b.0 bytes b.2 in
    let h = hex_takes b.0 w b.1 in
    subst (FewBytes most) t.1 (record { are = h.decoded.fits; some = h.some; few = leb-true (length b.0) most t.0 })

pub few_bound : (most : ℕ) → Bound (few_bytes most) (FewBytes most)
few_bound most = record { fits = few_fit most }

only_fits : (limit : ℕ) (w : List ℕ) (n : ℕ) → only limit w ≡ Some n → n ≡ limit
only_fits limit w n e =
    let b = bind_some (λ (m : ℕ). cond (m == limit) (Some m) None) (short w) n e in
    let t = tested (b.0 == limit) b.0 n b.2 in
    sym t.1 ∙ eqb-true b.0 limit t.0

pub only_bound : (limit : ℕ) → Bound (only limit) (λ n. n ≡ limit)
only_bound limit = record { fits = only_fits limit }

-- ---- rows

module _ {X : Type 0} (Q : X → Type 0) (x : X) where
  pub fit0 : (made : X) (ws : List (List ℕ)) → Q made → row0 made ws ≡ Some x → Q x
  fit0 made [] q e = subst Q (some_is made x e) q
  fit0 made (w ∷ ws) q e = absurd cc

  pub fit1 : {A : Type 0} {a : List ℕ → Option A} {P : A → Type 0} → Bound a P → (make : A → X) (ws : List (List ℕ)) → ((v : A) → P v → Q (make v)) → row1 a make ws ≡ Some x → Q x
  fit1 c make [] q e = absurd cc
  fit1 {a = a} c make (w ∷ []) q e = let m = map_takes make (a w) x e in subst Q m.2 (q m.0 (c.fits w m.0 m.1))
  fit1 c make (w ∷ y ∷ ws) q e = absurd cc

  pub fit2 : {A B : Type 0} {a : List ℕ → Option A} {b : List ℕ → Option B} {P : A → Type 0} {R : B → Type 0} → Bound a P → Bound b R → (make : A → B → X) (ws : List (List ℕ))
      → ((v : A) (w : B) → P v → R w → Q (make v w)) → row2 a b make ws ≡ Some x → Q x
  fit2 c d make [] q e = absurd cc
  fit2 c d make (v ∷ []) q e = absurd cc
  fit2 {a = a} {b = b} c d make (v ∷ w ∷ []) q e =
      let m = bind_some (λ p. option_and_then (λ q. Some (make p q)) (b w)) (a v) x e in
      let n = bind_some (λ q. Some (make m.0 q)) (b w) x m.2 in
      subst Q (some_is (make m.0 n.0) x n.2) (q m.0 n.0 (c.fits v m.0 m.1) (d.fits w n.0 n.1))
  fit2 c d make (v ∷ w ∷ y ∷ ws) q e = absurd cc

  pub fit4 : {A B C D : Type 0} {a : List ℕ → Option A} {b : List ℕ → Option B} {c : List ℕ → Option C} {d : List ℕ → Option D} {P : A → Type 0} {R : B → Type 0} {S : C → Type 0} {T : D → Type 0}
      → Bound a P → Bound b R → Bound c S → Bound d T → (make : A → B → C → D → X) (ws : List (List ℕ))
      → ((p : A) (r : B) (s : C) (t : D) → P p → R r → S s → T t → Q (make p r s t)) → row4 a b c d make ws ≡ Some x → Q x
  fit4 ka kb kc kd make [] q e = absurd cc
  fit4 ka kb kc kd make (u ∷ []) q e = absurd cc
  fit4 ka kb kc kd make (u ∷ v ∷ []) q e = absurd cc
  fit4 ka kb kc kd make (u ∷ v ∷ w ∷ []) q e = absurd cc
  fit4 {a = a} {b = b} {c = c} {d = d} ka kb kc kd make (u ∷ v ∷ w ∷ y ∷ []) q e =
      let m = bind_some (λ p. option_and_then (λ q. option_and_then (λ r. option_and_then (λ s. Some (make p q r s)) (d y)) (c w)) (b v)) (a u) x e in
      let n = bind_some (λ q. option_and_then (λ r. option_and_then (λ s. Some (make m.0 q r s)) (d y)) (c w)) (b v) x m.2 in
      let o = bind_some (λ r. option_and_then (λ s. Some (make m.0 n.0 r s)) (d y)) (c w) x n.2 in
      let l = bind_some (λ s. Some (make m.0 n.0 o.0 s)) (d y) x o.2 in
      subst Q (some_is (make m.0 n.0 o.0 l.0) x l.2) (q m.0 n.0 o.0 l.0 (ka.fits u m.0 m.1) (kb.fits v n.0 n.1) (kc.fits w o.0 o.1) (kd.fits y l.0 l.1))
  fit4 ka kb kc kd make (u ∷ v ∷ w ∷ y ∷ z ∷ ws) q e = absurd cc

  pub fit5 : {A B C D E : Type 0} {a : List ℕ → Option A} {b : List ℕ → Option B} {c : List ℕ → Option C} {d : List ℕ → Option D} {f : List ℕ → Option E}
      {P : A → Type 0} {R : B → Type 0} {S : C → Type 0} {T : D → Type 0} {U : E → Type 0}
      → Bound a P → Bound b R → Bound c S → Bound d T → Bound f U → (make : A → B → C → D → E → X) (ws : List (List ℕ))
      → ((p : A) (r : B) (s : C) (t : D) (u : E) → P p → R r → S s → T t → U u → Q (make p r s t u)) → row5 a b c d f make ws ≡ Some x → Q x
  fit5 ka kb kc kd kf make [] q e = absurd cc
  fit5 ka kb kc kd kf make (u ∷ []) q e = absurd cc
  fit5 ka kb kc kd kf make (u ∷ v ∷ []) q e = absurd cc
  fit5 ka kb kc kd kf make (u ∷ v ∷ w ∷ []) q e = absurd cc
  fit5 ka kb kc kd kf make (u ∷ v ∷ w ∷ y ∷ []) q e = absurd cc
  fit5 {a = a} {b = b} {c = c} {d = d} {f = f} ka kb kc kd kf make (u ∷ v ∷ w ∷ y ∷ z ∷ []) q e =
      let m = bind_some (λ p. option_and_then (λ q. option_and_then (λ r. option_and_then (λ s. option_and_then (λ t. Some (make p q r s t)) (f z)) (d y)) (c w)) (b v)) (a u) x e in
      let n = bind_some (λ q. option_and_then (λ r. option_and_then (λ s. option_and_then (λ t. Some (make m.0 q r s t)) (f z)) (d y)) (c w)) (b v) x m.2 in
      let o = bind_some (λ r. option_and_then (λ s. option_and_then (λ t. Some (make m.0 n.0 r s t)) (f z)) (d y)) (c w) x n.2 in
      let l = bind_some (λ s. option_and_then (λ t. Some (make m.0 n.0 o.0 s t)) (f z)) (d y) x o.2 in
      let j = bind_some (λ t. Some (make m.0 n.0 o.0 l.0 t)) (f z) x l.2 in
      subst Q (some_is (make m.0 n.0 o.0 l.0 j.0) x j.2)
      (q m.0 n.0 o.0 l.0 j.0 (ka.fits u m.0 m.1) (kb.fits v n.0 n.1) (kc.fits w o.0 o.1) (kd.fits y l.0 l.1) (kf.fits z j.0 j.1))
  fit5 ka kb kc kd kf make (u ∷ v ∷ w ∷ y ∷ z ∷ z2 ∷ ws) q e = absurd cc

-- ---- words of parts

-- a family that has a name is one of six
family_fits : (w : List ℕ) (f : ℕ) → family_form w ≡ Some f → (1 ≤ f) × (f ≤ 6)
unfolding family_form
family_fits w f e = from families 6 (omega arith, (omega arith, (omega arith, (omega arith, (omega arith, (omega arith, tt)))))) e
  where
    Among : ℕ → List ℕ → Type 0
    Among most [] = Unit {0}
    Among most (n ∷ ns) = ((1 ≤ n) × (n ≤ most)) × Among most ns

    from : (ns : List ℕ) (most : ℕ) → Among most ns → named family_name ns w ≡ Some f → (1 ≤ f) × (f ≤ most)
    from [] most all e = absurd cc
    from (n ∷ ns) most all e =
        chosen (bytes_eq w (family_name n)) _ _ _ e (λ t e. subst (λ (m : ℕ). (1 ≤ m) × (m ≤ most)) (some_is n f e) all.0) (λ e. from ns most all.1 e)

family_bound : Bound family_form (λ f. (1 ≤ f) × (f ≤ 6))
family_bound = record { fits = family_fits }

refusal_fits : (w : List ℕ) (r : Refusal) → refusal_form w ≡ Some r → RefusalFits r
unfolding refusal_form
refusal_fits w r e =
    fit4 RefusalFits r family_bound tiny_bound long_bound long_bound refusal_made (slice_split (λ b. b == 46) w)
    (λ f n a b x y z u. record { family = x.0; named = x.1; number = y; a = z; b = u }) e

pub refusal_bound : Bound refusal_form RefusalFits
refusal_bound = record { fits = refusal_fits }

pub who_fits : (w : List ℕ) (x : Who) → who_form w ≡ Some x → Is32 x.worker × Is32 x.call
unfolding who_form
who_fits w x e = fit2 (λ (y : Who). Is32 y.worker × Is32 y.call) x short_bound short_bound who_made (slice_split (λ b. b == 46) w) (λ a b p q. (p, q)) e

pub place_fits : (w : List ℕ) (p : Place) → place_form w ≡ Some p → PlaceFits p
unfolding place_form
place_fits w p e =
    either (option_map (λ f. place.File f) (file_form w)) _ p e
    (λ e. let m = map_takes (λ f. place.File f) (file_form w) p e in subst PlaceFits m.2 (file_bound.fits w m.0 m.1))
    (λ e.
    either (option_map (λ q. place.Process q) (process_form w)) _ p e
    (λ e. let m = map_takes (λ q. place.Process q) (process_form w) p e in subst PlaceFits m.2 (process_bound.fits w m.0 m.1))
    (λ e. chosen _ _ _ _ e (λ t e. subst PlaceFits (some_is place.Trust p e) tt) (λ e. absurd (none-some p e))))

bits_fit : (count file : ℕ) (names : List (List ℕ)) (bits : ℕ) → bits_form count file names ≡ Some bits → bits < 2 ^ count
unfolding bits_form
bits_fit zero file [] bits e = let z = some_is 0 bits e in omega (arith, z)
bits_fit zero file (name ∷ names) bits e = absurd cc
bits_fit (suc count) file [] bits e = let z = some_is 0 bits e in let p = positive (suc count) in omega (arith, z, p)
  where
    positive : (n : ℕ) → 0 < 2 ^ n
    positive zero = omega arith
    positive (suc n) = let p = positive n in omega (arith, p, pow-suc 2 n)
bits_fit (suc count) file (name ∷ names) bits e =
    let b = bind_some (λ n. cond (n == file) (option_map (λ m. 1 + 2 * m) (bits_form count (file + 1) names)) (option_map (λ m. 2 * m) (bits_form count (file + 1) (name ∷ names)))) (file_form name) bits e in
    chosen (b.0 == file) _ _ _ b.2
    (λ t e.
    let m = map_takes (λ n. 1 + 2 * n) (bits_form count (file + 1) names) bits e in
    let lt = bits_fit count (file + 1) names m.0 m.1 in
    let same = m.2 in
    omega (arith, lt, same, pow-suc 2 count))
    (λ e.
    let m = map_takes (λ n. 2 * n) (bits_form count (file + 1) (name ∷ names)) bits e in
    let lt = bits_fit count (file + 1) (name ∷ names) m.0 m.1 in
    let same = m.2 in
    omega (arith, lt, same, pow-suc 2 count))

files_fit : (w : List ℕ) (files : ℕ) → files_form w ≡ Some files → AreFiles files
unfolding files_form
files_fit w files e =
    chosen _ _ _ _ e (λ t e. let z = some_is 0 files e in omega (arith, z)) (λ e. bits_fit 16 0 (slice_split (λ b. b == 44) w) files e)

pub files_bound : Bound files_form AreFiles
files_bound = record { fits = files_fit }
