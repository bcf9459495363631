-- What is read of a signature: its table, and the blobs behind it.
use Rattle.std.proofs.Common.{◌≡◌, ℕ, suc, ◌+◌, ◌*◌, ◌^◌, ◌<◌, ◌≤◌, false, nat_lt, List, [], ◌∷◌, ◌++◌, length, drop, slice_index, refl, sym, ap, ◌∙◌, arith, length-append}
use Rattle.std.specs.List.{flat_map}
use Rattle.std.proofs.lemmas.Bool.{le-ltb}
use Rattle.std.proofs.lemmas.List.{append_assoc, append-nil, drop-drop, drop_at, take_at, get_or-append-add}
use Rattle.std.proofs.lemmas.List.Concat.{flat_map-append}
use Rattle.byteorder.specs.Endian.{big_from}
use Rattle.byteorder.specs.Numbers.{big_from-bytes}
use Rattle.pg_bytes.specs.Fields.{be32_at, be64_at}
use Rattle.pg_bytes.specs.Ranges.{bytes_in}
use Rattle.cs_superblob.specs.Layout.{count, length_field, table_end, slot_type, offset, blob_length}
use Rattle.cs_superblob.specs.Rules.{is_out}
use Rattle.cs_sign.specs.declared.fields.Field.{Field}
use Rattle.cs_sign.specs.declared.fields.Field.TheVariants.{Byte, Word, Long}
use Rattle.cs_sign.specs.Blobs.{Part, blob, superblob, index, field_bytes, part_bytes, parts_length}
use Rattle.cs_sign.proofs.SizeFacts.{fields_size, length-fields, length-blob, length-superblob}

-- ---- one number

-- what stands behind some bytes
pub drop-behind : (prefix rest : List ℕ) (k at : ℕ) → length prefix + k ≡ at → drop at (prefix ++ rest) ≡ drop k rest
drop-behind prefix rest k at is =
    rw (← is) (sym (drop-drop k (length prefix) (prefix ++ rest)) ∙ ap (drop k) (drop_at prefix rest (length prefix) refl))

pub be32-behind : (prefix rest : List ℕ) (k at : ℕ) → length prefix + k ≡ at → be32_at (prefix ++ rest) at ≡ be32_at rest k
unfolding be32_at
be32-behind prefix rest k at is = ap (big_from 0 4) (drop-behind prefix rest k at is)

pub be64-behind : (prefix rest : List ℕ) (k at : ℕ) → length prefix + k ≡ at → be64_at (prefix ++ rest) at ≡ be64_at rest k
unfolding be64_at
be64-behind prefix rest k at is = ap (big_from 0 8) (drop-behind prefix rest k at is)

word-front : (number : ℕ) (rest : List ℕ) → number < 2 ^ 32 → be32_at (field_bytes (Word number) ++ rest) 0 ≡ number
unfolding be32_at field_bytes
word-front number rest fits = big_from-bytes 4 number rest ∙ omega arith

long-front : (number : ℕ) (rest : List ℕ) → number < 2 ^ 64 → be64_at (field_bytes (Long number) ++ rest) 0 ≡ number
unfolding be64_at field_bytes
long-front number rest fits = big_from-bytes 8 number rest ∙ omega arith

byte-front : (number : ℕ) (rest : List ℕ) → slice_index (field_bytes (Byte number) ++ rest) 0 ≡ number
unfolding field_bytes
byte-front number rest = refl

-- fields, by those before one of them
fields-split : (before after : List Field) (field : Field) (rest : List ℕ) → flat_map field_bytes (before ++ field ∷ after) ++ rest ≡ flat_map field_bytes before ++ (field_bytes field ++ (flat_map field_bytes after ++ rest))
fields-split before after field rest =
    ap (λ (xs : List ℕ). xs ++ rest) (flat_map-append field_bytes before (field ∷ after))
    ∙ append_assoc (flat_map field_bytes before) (field_bytes field ++ flat_map field_bytes after) rest
    ∙ ap (λ (xs : List ℕ). flat_map field_bytes before ++ xs) (append_assoc (field_bytes field) (flat_map field_bytes after) rest)

pub word-at : (before after : List Field) (number at : ℕ) (rest : List ℕ) → number < 2 ^ 32 → fields_size before ≡ at → be32_at (flat_map field_bytes (before ++ Word number ∷ after) ++ rest) at ≡ number
word-at before after number at rest fits is =
    let place : length (flat_map field_bytes before) + 0 ≡ at = omega (arith, length-fields before, is) in
    ap (λ (xs : List ℕ). be32_at xs at) (fields-split before after (Word number) rest)
    ∙ be32-behind (flat_map field_bytes before) (field_bytes (Word number) ++ (flat_map field_bytes after ++ rest)) 0 at place
    ∙ word-front number (flat_map field_bytes after ++ rest) fits

pub long-at : (before after : List Field) (number at : ℕ) (rest : List ℕ) → number < 2 ^ 64 → fields_size before ≡ at → be64_at (flat_map field_bytes (before ++ Long number ∷ after) ++ rest) at ≡ number
long-at before after number at rest fits is =
    let place : length (flat_map field_bytes before) + 0 ≡ at = omega (arith, length-fields before, is) in
    ap (λ (xs : List ℕ). be64_at xs at) (fields-split before after (Long number) rest)
    ∙ be64-behind (flat_map field_bytes before) (field_bytes (Long number) ++ (flat_map field_bytes after ++ rest)) 0 at place
    ∙ long-front number (flat_map field_bytes after ++ rest) fits

pub byte-at : (before after : List Field) (number at : ℕ) (rest : List ℕ) → fields_size before ≡ at → slice_index (flat_map field_bytes (before ++ Byte number ∷ after) ++ rest) at ≡ number
byte-at before after number at rest is =
    let place : at ≡ length (flat_map field_bytes before) + 0 = omega (arith, length-fields before, is) in
    ap (λ (xs : List ℕ). slice_index xs at) (fields-split before after (Byte number) rest)
    ∙ ap (λ (k : ℕ). slice_index (flat_map field_bytes before ++ (field_bytes (Byte number) ++ (flat_map field_bytes after ++ rest))) k) place
    ∙ get_or-append-add (flat_map field_bytes before) (field_bytes (Byte number) ++ (flat_map field_bytes after ++ rest)) 0 0
    ∙ byte-front number (flat_map field_bytes after ++ rest)

-- ---- the table as fields

abbrev pub table_of : ℕ → List Part → List Field
table_of at [] = []
table_of at (part ∷ more) = Word part.slot ∷ Word at ∷ table_of (at + length part.bytes) more

index-is : (at : ℕ) (parts : List Part) → index at parts ≡ flat_map field_bytes (table_of at parts)
index-is at [] = refl
index-is at (part ∷ more) =
    rw (index-is (at + length part.bytes) more, append-nil)
    (append_assoc (field_bytes (Word part.slot)) (field_bytes (Word at)) (flat_map field_bytes (table_of (at + length part.bytes) more)))

abbrev pub table : List Part → List Field
table parts =
    Word 0xfade0cc0 ∷ Word ((12 + 8 * length parts) + parts_length parts) ∷ Word (length parts) ∷ table_of (12 + 8 * length parts) parts

-- a SuperBlob is its table and its blobs
pub superblob-is : (parts : List Part) → superblob parts ≡ flat_map field_bytes (table parts) ++ flat_map part_bytes parts
superblob-is parts =
    let at = 12 + 8 * length parts in
    let long : 8 + length (field_bytes (Word (length parts)) ++ (index at parts ++ flat_map part_bytes parts)) ≡ at + parts_length parts =
    sym (length-blob 0xfade0cc0 (field_bytes (Word (length parts)) ++ (index at parts ++ flat_map part_bytes parts))) ∙ length-superblob parts in
    rw (long, index-is at parts, append-nil) (simp append_assoc)

-- the table, by the parts before one of them
table_of-split : (at : ℕ) (done more : List Part) (part : Part) → table_of at (done ++ part ∷ more) ≡ table_of at done ++ (Word part.slot ∷ Word (at + parts_length done) ∷ table_of ((at + parts_length done) + length part.bytes) more)
table_of-split at [] more part = let same : at + 0 ≡ at = omega arith in rw same refl
table_of-split at (first ∷ done) more part =
    let long = length-append first.bytes (flat_map part_bytes done) in
    let same : at + parts_length (first ∷ done) ≡ (at + length first.bytes) + parts_length done = omega (arith, long) in
    rw same (ap (λ (fields : List Field). Word first.slot ∷ Word at ∷ fields) (table_of-split (at + length first.bytes) done more part))

table_of-size : (at : ℕ) (done : List Part) → fields_size (table_of at done) ≡ 8 * length done
table_of-size at [] = omega arith
table_of-size at (first ∷ done) = omega (arith, table_of-size (at + length first.bytes) done)

-- ---- one blob

-- The blob's second number is its length.
pub record IsBlob (bytes : List ℕ) : Type 0 where
  pub header : 8 ≤ length bytes
  pub told : (rest : List ℕ) → be32_at (bytes ++ rest) 4 ≡ length bytes

pub IsBlob-blob : (magic : ℕ) (held : List ℕ) → 8 + length held < 2 ^ 32 → IsBlob (blob magic held)
IsBlob-blob magic held fits = record {
  header = omega (arith, length-blob magic held);
  told = λ rest.
      ap (λ (xs : List ℕ). be32_at xs 4) (append_assoc (flat_map field_bytes (Word magic ∷ Word (8 + length held) ∷ [])) held rest)
      ∙ word-at (Word magic ∷ []) [] (8 + length held) 4 (held ++ rest) fits refl ∙ sym (length-blob magic held);
}

-- The entry at a place is that of a part.
pub record IsSeated (bytes : List ℕ) (i : ℕ) (part : Part) (at : ℕ) : Type 0 where
  pub slot : slot_type bytes i ≡ part.slot
  pub place : offset bytes i ≡ at
  pub long : blob_length bytes i ≡ length part.bytes
  pub holds : bytes_in bytes (record { at = at; len = length part.bytes }) ≡ part.bytes
  pub inside : is_out bytes i ≡ false

-- a part of a text
pub part-held : (prefix bytes suffix : List ℕ) (at : ℕ) → length prefix ≡ at → bytes_in (prefix ++ (bytes ++ suffix)) (record { at = at; len = length bytes }) ≡ bytes
unfolding bytes_in
part-held prefix bytes suffix at is =
    rw (drop_at prefix (bytes ++ suffix) at is) (take_at bytes suffix (length bytes) refl)

module _ (parts : List Part) (zeros : List ℕ) (fits : (12 + 8 * length parts) + parts_length parts < 2 ^ 32) where
  abbrev sig : List ℕ
  sig = superblob parts ++ zeros

  abbrev behind : List ℕ
  behind = flat_map part_bytes parts ++ zeros

  sig-is : sig ≡ flat_map field_bytes (table parts) ++ behind
  sig-is = ap (λ (xs : List ℕ). xs ++ zeros) (superblob-is parts) ∙ append_assoc (flat_map field_bytes (table parts)) (flat_map part_bytes parts) zeros

  pub sig-magic : be32_at sig 0 ≡ 0xfade0cc0
  sig-magic = ap (λ (xs : List ℕ). be32_at xs 0) sig-is ∙ word-at [] (Word ((12 + 8 * length parts) + parts_length parts) ∷ Word (length parts) ∷ table_of (12 + 8 * length parts) parts) 0xfade0cc0 0 behind (omega arith) refl

  pub sig-length : length_field sig ≡ (12 + 8 * length parts) + parts_length parts
  sig-length = ap (λ (xs : List ℕ). be32_at xs 4) sig-is ∙ word-at (Word 0xfade0cc0 ∷ []) (Word (length parts) ∷ table_of (12 + 8 * length parts) parts) ((12 + 8 * length parts) + parts_length parts) 4 behind fits refl

  pub sig-count : count sig ≡ length parts
  sig-count = ap (λ (xs : List ℕ). be32_at xs 8) sig-is ∙ word-at (Word 0xfade0cc0 ∷ Word ((12 + 8 * length parts) + parts_length parts) ∷ []) (table_of (12 + 8 * length parts) parts) (length parts) 8 behind (omega arith) refl

  pub sig-long : length sig ≡ ((12 + 8 * length parts) + parts_length parts) + length zeros
  sig-long = omega (arith, length-append (superblob parts) zeros, length-superblob parts)

  pub seated : (done more : List Part) (part : Part) (i : ℕ) → parts ≡ done ++ part ∷ more → i ≡ length done → part.slot < 2 ^ 32 → IsBlob part.bytes → IsSeated sig i part ((12 + 8 * length parts) + parts_length done)
  seated done more part i split is_i small known =
      let te = 12 + 8 * length parts in
      let at = te + parts_length done in
      let head = Word 0xfade0cc0 ∷ Word (te + parts_length parts) ∷ Word (length parts) ∷ [] in
      let later = table_of (at + length part.bytes) more in
      let tabled : table parts ≡ head ++ (table_of te done ++ (Word part.slot ∷ Word at ∷ later)) =
      ap (λ (ps : List Part). head ++ table_of te ps) split ∙ ap (λ (fields : List Field). head ++ fields) (table_of-split te done more part) in
      let joined : table parts ≡ (head ++ table_of te done) ++ (Word part.slot ∷ Word at ∷ later) = tabled ∙ sym (append_assoc head (table_of te done) (Word part.slot ∷ Word at ∷ later)) in
      let front = head ++ table_of te done in
      let joined_next : table parts ≡ (front ++ Word part.slot ∷ []) ++ (Word at ∷ later) = joined ∙ sym (append_assoc front (Word part.slot ∷ []) (Word at ∷ later)) in
      let front_size : fields_size front ≡ 12 + 8 * i = omega (arith, table_of-size te done, is_i) in
      let parts_split : parts_length parts ≡ parts_length done + (length part.bytes + parts_length more) =
      ap parts_length split ∙ ap length (flat_map-append part_bytes done (part ∷ more)) ∙ omega (arith, length-append (flat_map part_bytes done) (part.bytes ++ flat_map part_bytes more), length-append part.bytes (flat_map part_bytes more)) in
      let prefix = flat_map field_bytes (table parts) ++ flat_map part_bytes done in
      let suffix = flat_map part_bytes more ++ zeros in
      let pieces : sig ≡ prefix ++ (part.bytes ++ suffix) =
      sig-is ∙ ap (λ (ps : List Part). flat_map field_bytes (table parts) ++ (flat_map part_bytes ps ++ zeros)) split
      ∙ ap (λ (xs : List ℕ). flat_map field_bytes (table parts) ++ (xs ++ zeros)) (flat_map-append part_bytes done (part ∷ more))
      ∙ simp append_assoc in
      let count_split : length parts ≡ length done + suc (length more) = ap length split ∙ length-append done (part ∷ more) in
      let prefix_long : length prefix ≡ at = omega (arith, length-append (flat_map field_bytes (table parts)) (flat_map part_bytes done), length-fields (table parts), table_of-size te parts) in
      let slot_is : slot_type sig i ≡ part.slot =
      ap (λ (xs : List ℕ). be32_at xs (12 + 8 * i)) (sig-is ∙ ap (λ (fields : List Field). flat_map field_bytes fields ++ behind) joined)
      ∙ word-at front (Word at ∷ later) part.slot (12 + 8 * i) behind small front_size in
      let next_size : fields_size (front ++ Word part.slot ∷ []) ≡ 16 + 8 * i = fields_size-append front (Word part.slot ∷ []) ∙ omega (arith, front_size) in
      let place_is : offset sig i ≡ at =
      ap (λ (xs : List ℕ). be32_at xs (16 + 8 * i)) (sig-is ∙ ap (λ (fields : List Field). flat_map field_bytes fields ++ behind) joined_next)
      ∙ word-at (front ++ Word part.slot ∷ []) later at (16 + 8 * i) behind (omega (arith, parts_split)) next_size in
      let long_is : blob_length sig i ≡ length part.bytes =
      ap (λ (p : ℕ). be32_at sig (p + 4)) place_is ∙ ap (λ (xs : List ℕ). be32_at xs (at + 4)) pieces
      ∙ be32-behind prefix (part.bytes ++ suffix) 4 (at + 4) (omega (arith, prefix_long)) ∙ known.told suffix in
      let a : nat_lt (offset sig i) (table_end sig) ≡ false = le-ltb _ _ (omega (arith, place_is, sig-count)) in
      let b : nat_lt (length_field sig) (offset sig i + 8) ≡ false = le-ltb _ _ (omega (arith, place_is, sig-length, parts_split, known.header)) in
      let c : nat_lt (blob_length sig i) 8 ≡ false = le-ltb _ _ (omega (arith, long_is, known.header)) in
      let d : nat_lt (length_field sig) (offset sig i + blob_length sig i) ≡ false = le-ltb _ _ (omega (arith, place_is, long_is, sig-length, parts_split)) in
      record {
        slot = slot_is;
        place = place_is;
        long = long_is;
        holds = ap (λ (xs : List ℕ). bytes_in xs (record { at = at; len = length part.bytes })) pieces ∙ part-held prefix part.bytes suffix at prefix_long;
        inside = rw (a, b, c, d) refl;
      }
    where
      fields_size-append : (xs ys : List Field) → fields_size (xs ++ ys) ≡ fields_size xs + fields_size ys
      fields_size-append [] ys = omega arith
      fields_size-append (x ∷ xs) ys = omega (arith, fields_size-append xs ys)
