-- The rules that a SuperBlob keeps, and the first of them that a text breaks. Each speaks of the whole text.
-- The limit on entries and the rule that no type stands twice are this repository's own.
-- Source: `CS_SuperBlob` in XNU's `cs_blobs.h` and its checks in `ubc_subr.c`.
use Rattle.std.specs.Prelude.{◌≡◌, ℕ, ◌+◌, ◌≤◌, Bool, true, false, not, ◌||◌, List, [], ◌∷◌, ◌++◌, length, take, map, Option, Some, None, nat_lt, ◌==◌}
use Rattle.std.specs.List.{list_any}
use Rattle.pg_bytes.specs.Rules.{Rule, first}
use Rattle.cs_superblob.specs.declared.entries.Seat.{Seat}
use Rattle.cs_superblob.specs.declared.refusal.SuperRefusal.{SuperRefusal}
use Rattle.cs_superblob.specs.declared.refusal.SuperRefusal.TheVariants.{Short, BadMagic, LengthBad, CountBad, EntryOut, Twice}
use Rattle.cs_superblob.specs.declared.refusal.SuperFail.{SuperFail}
use Rattle.cs_superblob.specs.declared.refusal.SuperFail.TheVariants.{Refused, NoMemory}
use Rattle.cs_superblob.specs.Layout.{magic, length_field, count, table_end, slot_type, offset, blob_length, indexes, seat_at, seats}

-- on the header and on how long the table is
abbrev pub frame_rules : List ℕ → List (Rule SuperRefusal)
frame_rules bytes =
    (nat_lt (length bytes) 12, Short)
    ∷ (not (magic bytes == 0xfade0cc0), BadMagic (magic bytes))
    ∷ (nat_lt (length_field bytes) 12 || nat_lt (length bytes) (length_field bytes), LengthBad)
    ∷ (nat_lt 1024 (count bytes) || nat_lt (length_field bytes) (table_end bytes), CountBad)
    ∷ []

-- whether the blob of entry `i` begins within the table, has no whole header of its own, or ends behind the
-- SuperBlob
abbrev pub is_out : List ℕ → ℕ → Bool
is_out bytes i =
    (nat_lt (offset bytes i) (table_end bytes) || nat_lt (length_field bytes) (offset bytes i + 8))
    || (nat_lt (blob_length bytes i) 8 || nat_lt (length_field bytes) (offset bytes i + blob_length bytes i))

-- on where the blob of entry `i` lies
abbrev pub place_rule : List ℕ → ℕ → Rule SuperRefusal
place_rule bytes i = (is_out bytes i, EntryOut i)

abbrev pub place_rules : List ℕ → List (Rule SuperRefusal)
place_rules bytes = map (place_rule bytes) (indexes bytes)

-- whether an entry before entry `i` has the same type
abbrev pub is_repeated : List ℕ → ℕ → Bool
is_repeated bytes i = list_any (λ seat. seat.slot == slot_type bytes i) (take i (seats bytes))

-- on the type of entry `i`
abbrev pub repeat_rule : List ℕ → ℕ → Rule SuperRefusal
repeat_rule bytes i = (is_repeated bytes i, Twice (slot_type bytes i))

abbrev pub repeat_rules : List ℕ → List (Rule SuperRefusal)
repeat_rules bytes = map (repeat_rule bytes) (indexes bytes)

-- all rules in their order
abbrev pub rules : List ℕ → List (Rule SuperRefusal)
rules bytes = frame_rules bytes ++ (place_rules bytes ++ repeat_rules bytes)

-- the refusal of the first rule that the text breaks, or none where it is a SuperBlob
unfoldable pub broken : List ℕ → Option SuperRefusal
broken bytes = first (rules bytes)

-- an error that refuses gives this refusal; out of memory is tied to nothing
abbrev pub Refuses : Option SuperRefusal → SuperFail → Type 0
Refuses wanted (Refused refusal) = wanted ≡ Some refusal
Refuses wanted NoMemory = Unit {0}

-- Where the first rules are kept, the table lies within the SuperBlob, and the SuperBlob within the text.
pub record IsFramed (bytes : List ℕ) : Type 0 where
  pub kept : first (frame_rules bytes) ≡ None
  pub few : count bytes ≤ 1024
  pub table : table_end bytes ≤ length_field bytes
  pub within : length_field bytes ≤ length bytes

-- The blob of entry `i` is in place, and this is what the entry says.
pub record IsPlaced (bytes : List ℕ) (i : ℕ) (seat : Seat) : Type 0 where
  pub inside : is_out bytes i ≡ false
  pub value : seat ≡ seat_at bytes i

-- The blob of entry `i` is out of place, and the refusal says so.
pub record IsMisplaced (bytes : List ℕ) (i : ℕ) (refusal : SuperRefusal) : Type 0 where
  pub outside : is_out bytes i ≡ true
  pub value : refusal ≡ EntryOut i
