-- Where the parts of an accepted directory lie.
use Rattle.std.proofs.Common.{◌≡◌, ℕ, ◌+◌, ◌-◌, ◌*◌, ◌<◌, ◌≤◌, List, None, refl, sym, ap, subst, arith}
use Rattle.std.proofs.lemmas.Bool.Decides.{nat_tests}
use Rattle.std.proofs.lemmas.Nat.{rows}
use Rattle.pg_bytes.specs.Ranges.{bytes_in}
use Rattle.pg_digest.specs.Kinds.{size_of}
use Rattle.cs_directory.specs.Layout.{length_field, version, hash_offset, ident_offset, special_slots, code_slots, hash_size, kind}
use Rattle.cs_directory.specs.Fields.{Fields}
use Rattle.pg_bytes.specs.Rules.{first}
use Rattle.cs_directory.specs.Rules.{frame_rules, hash_rules, slot_rules, text_rules, IsFramed}
use Rattle.cs_directory.specs.Directory.{directory_in, IsDirectory, IsInside, slot_at, special_at}
use Rattle.pg_bytes.proofs.RuleFacts.{NoneBroken-from}
use Rattle.cs_directory.proofs.RuleFacts.{AreKept-from}

-- where the header and the directory end, if the rules on them are kept
pub IsFramed-from : (bytes : List ℕ) → first (frame_rules bytes) ≡ None → IsFramed bytes
IsFramed-from bytes e =
    let unbroken = NoneBroken-from (frame_rules bytes) e in
    let length = unbroken.1.1.0 in
    let header = unbroken.1.1.1.1.0 in
    record {
      kept = e;
      header = grind (arith, nat_tests);
      fixed = grind (arith, nat_tests);
      within = grind (arith, nat_tests);
    }

-- the numbers of a directory, one by one
pub record HasNumbers (bytes : List ℕ) (d : Fields) : Type 0 where
  pub length : d.length ≡ length_field bytes
  pub version : d.version ≡ version bytes
  pub hash_offset : d.hash_offset ≡ hash_offset bytes
  pub ident_offset : d.ident_offset ≡ ident_offset bytes
  pub special_slots : d.special_slots ≡ special_slots bytes
  pub code_slots : d.code_slots ≡ code_slots bytes
  pub kind : d.kind ≡ kind bytes

pub HasNumbers-from : (bytes : List ℕ) (d : Fields) → d ≡ directory_in bytes → HasNumbers bytes d
HasNumbers-from bytes d e = record {
  length = ap (λ (d : Fields). d.length) e;
  version = ap (λ (d : Fields). d.version) e;
  hash_offset = ap (λ (d : Fields). d.hash_offset) e;
  ident_offset = ap (λ (d : Fields). d.ident_offset) e;
  special_slots = ap (λ (d : Fields). d.special_slots) e;
  code_slots = ap (λ (d : Fields). d.code_slots) e;
  kind = ap (λ (d : Fields). d.kind) e;
}

-- each inequality is the rule that would be broken without it
pub IsInside-from : (bytes : List ℕ) (d : Fields) → IsDirectory bytes d → IsInside bytes d
IsInside-from bytes d known =
    let kept = AreKept-from bytes known.unbroken in
    let numbers = HasNumbers-from bytes d known.fields in
    let framed = IsFramed-from bytes kept.frame in
    let size = (NoneBroken-from (hash_rules bytes) kept.hash).1.1.0 in
    let slots = (NoneBroken-from (slot_rules bytes) kept.slot).0 in
    let ident = (NoneBroken-from (text_rules bytes) kept.text).0 in
    let sized : hash_size bytes ≡ size_of (kind bytes) = grind (arith, nat_tests) in
    let kinds : size_of d.kind ≡ size_of (kind bytes) = ap size_of numbers.kind in
    record {
      within = omega arith;
      header = omega arith;
      size = cc;
      specials = grind (arith, nat_tests);
      codes = grind (arith, nat_tests);
      ident = grind (arith, nat_tests);
    }

-- what holds of the value of a directory holds of the fields that it is the view of
pub IsDirectory-along : (bytes : List ℕ) {d e : Fields} → d ≡ e → IsDirectory bytes e → IsDirectory bytes d
IsDirectory-along bytes same known = let P : Fields → Type 0 = λ d. IsDirectory bytes d in subst P (sym same) known

-- A code slot ends within the directory.
pub code_slot_end : (bytes : List ℕ) (d : Fields) (i : ℕ) → IsDirectory bytes d → i < d.code_slots → d.hash_offset + (i * size_of d.kind + size_of d.kind) ≤ d.length
code_slot_end bytes d i known lt =
    let inside = IsInside-from bytes d known in
    grind (arith, rows)

-- A special slot begins within the directory.
pub special_slot_start : (bytes : List ℕ) (d : Fields) (t : ℕ) → IsDirectory bytes d → t ≤ d.special_slots → t * size_of d.kind ≤ d.hash_offset
special_slot_start bytes d t known le =
    let inside = IsInside-from bytes d known in
    grind (arith, rows)

-- A special slot ends within the directory.
pub special_slot_end : (bytes : List ℕ) (d : Fields) (t : ℕ) → IsDirectory bytes d → 0 < t → t ≤ d.special_slots → (d.hash_offset - t * size_of d.kind) + size_of d.kind ≤ d.length
special_slot_end bytes d t known positive le =
    let inside = IsInside-from bytes d known in
    let start = special_slot_start bytes d t known le in
    let one : 1 * size_of d.kind ≤ t * size_of d.kind = grind (arith, rows) in
    omega arith

-- the slots, by the numbers of the directory
pub slot_at-fields : (bytes : List ℕ) (d : Fields) (i : ℕ) → IsDirectory bytes d → slot_at bytes i ≡ bytes_in bytes (record { at = d.hash_offset + i * size_of d.kind; len = size_of d.kind })
unfolding slot_at
slot_at-fields bytes d i known =
    let inside = IsInside-from bytes d known in
    rw (inside.size, ← (HasNumbers-from bytes d known.fields).hash_offset) refl

pub special_at-fields : (bytes : List ℕ) (d : Fields) (t : ℕ) → IsDirectory bytes d → special_at bytes t ≡ bytes_in bytes (record { at = d.hash_offset - t * size_of d.kind; len = size_of d.kind })
unfolding special_at
special_at-fields bytes d t known =
    let inside = IsInside-from bytes d known in
    rw (inside.size, ← (HasNumbers-from bytes d known.fields).hash_offset) refl
