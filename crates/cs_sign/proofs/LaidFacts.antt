-- The signature, read again: it breaks no rule, and its best directory is the one that was written.
use Rattle.std.proofs.Common.{◌≡◌, ℕ, ◌+◌, ◌*◌, ◌≤◌, Bool, true, false, ◌&&◌, ◌||◌, ◌==◌, nat_lt, nat_le, List, [], ◌∷◌, ◌++◌, length, take, map, Some, Option, None, refl, sym, ap, subst, ◌∙◌, arith}
use Rattle.std.specs.Prelude.{find, filter, is_some}
use Rattle.std.specs.List.{range_with_len, list_any}
use Rattle.std.specs.Cmp.Lexicographic.{nat_list_eq_equiv}
use Rattle.std.proofs.lemmas.Bool.{le-ltb}
use Rattle.pg_bytes.specs.Rules.{first}
use Rattle.pg_bytes.specs.Fields.{be32_at}
use Rattle.pg_bytes.specs.Ranges.{bytes_in}
use Rattle.pg_bytes.specs.declared.fields.Range.{Range}
use Rattle.pg_bytes.proofs.RuleFacts.{first-append-kept}
use Rattle.pg_digest.specs.Kinds.{Hash}
use Rattle.pg_digest.specs.declared.kinds.HashKind.TheVariants.{Sha256}
use Rattle.cs_superblob.specs.declared.entries.Seat.{Seat}
use Rattle.cs_superblob.specs.Layout.{length_field, count, table_end, slot_type, seats}
use Rattle.cs_superblob.specs.Rules.{frame_rules, place_rules, repeat_rules, repeat_rule, is_repeated}
use Rattle.cs_superblob.specs.Rules as index
use Rattle.cs_directory.specs.Directory.{special_at, directory_in}
use Rattle.cs_directory.specs.Rules as directory
use Rattle.cs_blob.specs.declared.refusal.BlobRefusal.{BlobRefusal}
use Rattle.cs_blob.specs.Parts.{is_bare, entries, directories}
use Rattle.cs_blob.specs.Candidates.{best, candidate}
use Rattle.cs_blob.specs.Rules.{index_rule, type_rule, directory_rule, cms_rule, special_rule, each_special, earliest, slot_types, fit_rules, broken}
use Rattle.cs_sign.specs.Blobs.{Part}
use Rattle.cs_sign.proofs.TableFacts.{IsSeated}

and-false : (b : Bool) → (b && false) ≡ false
and-false true = refl
and-false false = refl

-- What is read of the front of a SuperBlob of so many blobs.
pub record IsFront (bytes : List ℕ) (n : ℕ) : Type 0 where
  pub magic : be32_at bytes 0 ≡ 0xfade0cc0
  pub count : count bytes ≡ n
  pub table : 12 + 8 * n ≤ length_field bytes
  pub within : length_field bytes ≤ length bytes
  pub few : n ≤ 4

pub not-bare : (bytes : List ℕ) (n : ℕ) → IsFront bytes n → is_bare bytes ≡ false
unfolding is_bare
not-bare bytes n front = rw front.magic (and-false (nat_le 4 (length bytes)))

frame-kept : (bytes : List ℕ) (n : ℕ) → IsFront bytes n → first (frame_rules bytes) ≡ None
frame-kept bytes n front =
    let a : nat_lt (length bytes) 12 ≡ false = le-ltb _ _ (omega (arith, front.table, front.within)) in
    let b : nat_lt (length_field bytes) 12 ≡ false = le-ltb _ _ (omega (arith, front.table)) in
    let c : nat_lt (length bytes) (length_field bytes) ≡ false = le-ltb _ _ front.within in
    let d : nat_lt 1024 (count bytes) ≡ false = le-ltb _ _ (omega (arith, front.count, front.few)) in
    let e : nat_lt (length_field bytes) (table_end bytes) ≡ false = le-ltb _ _ (omega (arith, front.count, front.table)) in
    rw (a, front.magic, b, c, d, e) refl

index-joined : (bytes : List ℕ) → first (frame_rules bytes) ≡ None → first (place_rules bytes) ≡ None → first (repeat_rules bytes) ≡ None → index.broken bytes ≡ None
unfolding index.broken
index-joined bytes frame place repeat =
    first-append-kept (frame_rules bytes) (place_rules bytes ++ repeat_rules bytes) frame
    ∙ (first-append-kept (place_rules bytes) (repeat_rules bytes) place ∙ repeat)

-- the entry of a part
abbrev pub seat_of : Part → ℕ → Seat
seat_of part at = record { slot = part.slot; range = record { at = at; len = length part.bytes } }

-- ---- what the entries are known for, whatever their number

-- The entries of a signature, of which the first is that of the only directory.
pub record IsListed (bytes : List ℕ) (listed : List Seat) (first : Seat) : Type 0 where
  pub bare : is_bare bytes ≡ false
  pub index : index.broken bytes ≡ None
  pub seats : seats bytes ≡ listed
  pub directories : filter (λ seat. (seat.slot == 0) || (nat_le 0x1000 seat.slot && nat_le seat.slot 0x1004)) listed ≡ first ∷ []
  pub typed : is_some (find (λ seat. seat.slot == 0) listed) ≡ true

module _ (bytes : List ℕ) (listed : List Seat) (front : Seat) (known : IsListed bytes listed front) where
  pub entries-are : entries bytes ≡ listed
  unfolding entries
  entries-are = rw known.bare known.seats

  pub directories-are : directories bytes ≡ front ∷ []
  unfolding directories
  directories-are = rw (known.bare, known.seats) known.directories

  pub best-is : best bytes ≡ candidate bytes front
  unfolding best
  best-is = rw directories-are refl

  index-kept : index_rule bytes ≡ None
  unfolding index_rule
  index-kept = rw (known.bare, known.index) refl

  type-kept : type_rule bytes ≡ None
  unfolding type_rule
  type-kept = rw (known.bare, entries-are, known.typed) refl

  -- the rules, where the directory and what stands beside it keep theirs
  pub blob-kept : (hash : Hash) (slice : Range) → directory_rule bytes front ≡ None → cms_rule listed ≡ None → each_special hash bytes listed (candidate bytes front) ≡ None → fit_rules (candidate bytes front) slice None ≡ None → broken hash bytes slice None ≡ None
  unfolding broken
  blob-kept hash slice directed cms special fit =
      rw (index-kept, type-kept, directories-are, directed, entries-are, cms, best-is, special, fit) refl

-- ---- the rules one by one

pub directory-fine : (bytes dir : List ℕ) (front : Seat) → bytes_in bytes front.range ≡ dir → directory.broken dir ≡ None → directory_rule bytes front ≡ None
unfolding directory_rule
directory-fine bytes dir front held kept = rw (held, kept) refl

pub fit-fine : (bytes dir : List ℕ) (front : Seat) (slice : Range) → bytes_in bytes front.range ≡ dir → (directory_in dir).limit ≤ slice.len → fit_rules (candidate bytes front) slice None ≡ None
unfolding fit_rules candidate
fit-fine bytes dir front slice held le =
    let fits : nat_lt slice.len (directory_in dir).limit ≡ false = le-ltb _ _ le in
    rw (held, fits) refl

-- an empty CMS signature
pub cms-fine : (listed : List Seat) (seat : Seat) → find (λ s. s.slot == 0x10000) listed ≡ Some seat → seat.range.len ≡ 8 → cms_rule listed ≡ None
unfolding cms_rule
cms-fine listed seat found long = rw (found, long) refl

-- a blob that matches its slot
pub special-fine : (hash : Hash) (bytes dir held : List ℕ) (listed : List Seat) (front seat : Seat) (slot : ℕ) → find (λ s. s.slot == slot) listed ≡ Some seat → bytes_in bytes front.range ≡ dir → bytes_in bytes seat.range ≡ held → (directory_in dir).kind ≡ Sha256 → slot ≤ (directory_in dir).special_slots → special_at dir slot ≡ hash Sha256 held → special_rule hash bytes listed (candidate bytes front) slot ≡ None
unfolding special_rule candidate
special-fine hash bytes dir held listed front seat slot found directed blob kind_is le special =
    let few : nat_lt (directory_in dir).special_slots slot ≡ false = le-ltb _ _ le in
    rw (found, directed, few, blob, kind_is, special, nat_list_eq_equiv.refl (hash Sha256 held)) refl

-- and a type that has no blob
pub special-none : (hash : Hash) (bytes : List ℕ) (listed : List Seat) (front : Seat) (slot : ℕ) → find (λ s. s.slot == slot) listed ≡ None → special_rule hash bytes listed (candidate bytes front) slot ≡ None
unfolding special_rule
special-none hash bytes listed front slot none = rw none refl

-- the types that have a slot, each by itself
pub special-all : (rule : ℕ → Option BlobRefusal) → rule 1 ≡ None → rule 2 ≡ None → rule 3 ≡ None → rule 4 ≡ None → rule 5 ≡ None → rule 6 ≡ None → rule 7 ≡ None → rule 8 ≡ None → rule 9 ≡ None → rule 10 ≡ None → rule 11 ≡ None → earliest (map rule slot_types) ≡ None
unfolding slot_types
special-all rule a b c d e f g h i j k = rw (a, b, c, d, e, f, g, h, i, j, k) refl

-- ---- three and four blobs

-- whether a type stands twice, by the entries that were found
repeats : (bytes : List ℕ) (listed : List Seat) (i slot : ℕ) → seats bytes ≡ listed → slot_type bytes i ≡ slot → is_repeated bytes i ≡ list_any (λ seat. seat.slot == slot) (take i listed)
repeats bytes listed i slot seats_are slot_is =
    ap (λ (found : List Seat). list_any (λ seat. seat.slot == slot_type bytes i) (take i found)) seats_are
    ∙ ap (λ (t : ℕ). list_any (λ seat. seat.slot == t) (take i listed)) slot_is

module _ (bytes : List ℕ) (a b c : ℕ) (d q w : List ℕ) (front : IsFront bytes 3) (s0 : IsSeated bytes 0 (record { slot = 0; bytes = d }) a) (s1 : IsSeated bytes 1 (record { slot = 2; bytes = q }) b) (s2 : IsSeated bytes 2 (record { slot = 0x10000; bytes = w }) c) where
  abbrev pub three : List Seat
  three =
      record { slot = 0; range = record { at = a; len = length d } } ∷ record { slot = 2; range = record { at = b; len = length q } }
      ∷ record { slot = 0x10000; range = record { at = c; len = length w } } ∷ []

  three-seats : seats bytes ≡ three
  three-seats = rw (front.count, s0.slot, s0.long, s0.place, s1.slot, s1.long, s1.place, s2.slot, s2.long, s2.place) refl

  three-apart : first (repeat_rules bytes) ≡ None
  three-apart =
      let P : ℕ → Type 0 = λ n. first (map (repeat_rule bytes) (range_with_len 0 n)) ≡ None in
      let one : is_repeated bytes 1 ≡ false = repeats bytes three 1 2 three-seats s1.slot in
      let two : is_repeated bytes 2 ≡ false = repeats bytes three 2 0x10000 three-seats s2.slot in
      subst P (sym front.count) (rw (one, two) refl)

  pub three-listed : IsListed bytes three (record { slot = 0; range = record { at = a; len = length d } })
  three-listed = record {
    bare = not-bare bytes 3 front;
    index = index-joined bytes (frame-kept bytes 3 front) (rw (front.count, s0.inside, s1.inside, s2.inside) refl) three-apart;
    seats = three-seats;
    directories = refl;
    typed = refl;
  }

module _ (bytes : List ℕ) (a b c e : ℕ) (d q x w : List ℕ) (front : IsFront bytes 4) (s0 : IsSeated bytes 0 (record { slot = 0; bytes = d }) a) (s1 : IsSeated bytes 1 (record { slot = 2; bytes = q }) b) (s2 : IsSeated bytes 2 (record { slot = 5; bytes = x }) c) (s3 : IsSeated bytes 3 (record { slot = 0x10000; bytes = w }) e) where
  abbrev pub four : List Seat
  four =
      record { slot = 0; range = record { at = a; len = length d } } ∷ record { slot = 2; range = record { at = b; len = length q } }
      ∷ record { slot = 5; range = record { at = c; len = length x } } ∷ record { slot = 0x10000; range = record { at = e; len = length w } } ∷ []

  four-seats : seats bytes ≡ four
  four-seats = rw (front.count, s0.slot, s0.long, s0.place, s1.slot, s1.long, s1.place, s2.slot, s2.long, s2.place, s3.slot, s3.long, s3.place) refl

  four-apart : first (repeat_rules bytes) ≡ None
  four-apart =
      let P : ℕ → Type 0 = λ n. first (map (repeat_rule bytes) (range_with_len 0 n)) ≡ None in
      let one : is_repeated bytes 1 ≡ false = repeats bytes four 1 2 four-seats s1.slot in
      let two : is_repeated bytes 2 ≡ false = repeats bytes four 2 5 four-seats s2.slot in
      let last : is_repeated bytes 3 ≡ false = repeats bytes four 3 0x10000 four-seats s3.slot in
      subst P (sym front.count) (rw (one, two, last) refl)

  pub four-listed : IsListed bytes four (record { slot = 0; range = record { at = a; len = length d } })
  four-listed = record {
    bare = not-bare bytes 4 front;
    index = index-joined bytes (frame-kept bytes 4 front) (rw (front.count, s0.inside, s1.inside, s2.inside, s3.inside) refl) four-apart;
    seats = four-seats;
    directories = refl;
    typed = refl;
  }
