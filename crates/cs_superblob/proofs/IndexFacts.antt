-- Where the table and the blobs of an accepted SuperBlob lie.
use Rattle.std.proofs.Common.{◌≡◌, ℕ, zero, suc, All, ◌+◌, ◌<◌, ◌==◌, false, List, ◌++◌, ◌∙◌, Option, length, take, map, get_or, Some, None, ap, arith}
use Rattle.std.specs.List.{list_any, range_with_len}
use Rattle.std.proofs.lemmas.Bool.Decides.{nat_tests}
use Rattle.std.proofs.lemmas.List.FromFn.{length-map-range_with_len, get_or-map-range_with_len}
use Rattle.std.proofs.lemmas.List.Elements.{All-nil, All-cons}
use Rattle.cs_superblob.specs.declared.entries.Seat.{Seat}
use Rattle.cs_superblob.specs.declared.refusal.SuperRefusal.{SuperRefusal}
use Rattle.cs_superblob.specs.declared.refusal.SuperFail.{SuperFail}
use Rattle.cs_superblob.specs.declared.refusal.SuperFail.TheVariants.{Refused, NoMemory}
use Rattle.cs_superblob.specs.Layout.{count, slot_type, seat_at, seats}
use Rattle.pg_bytes.specs.Rules.{first}
use Rattle.cs_superblob.specs.Rules.{frame_rules, place_rule, place_rules, repeat_rules, is_out, is_repeated, broken, IsFramed, Refuses}
use Rattle.cs_superblob.specs.Index.{IsInside}
use Rattle.pg_bytes.proofs.RuleFacts.{kept-cons, NoneBroken-from, first-append-kept, first-append-broken}

-- where the table and the SuperBlob end, if the rules on them are kept
pub IsFramed-from : (bytes : List ℕ) → first (frame_rules bytes) ≡ None → IsFramed bytes
IsFramed-from bytes e =
    let unbroken = NoneBroken-from (frame_rules bytes) e in
    let length = unbroken.1.1.0 in
    let count = unbroken.1.1.1.0 in
    record {
      kept = e;
      few = grind (arith, nat_tests);
      table = grind (arith, nat_tests);
      within = grind (arith, nat_tests);
    }

pub length-seats : (bytes : List ℕ) → length (seats bytes) ≡ count bytes
length-seats bytes = length-map-range_with_len (seat_at bytes) 0 (count bytes)

-- the type in an entry of the list is that in the table
pub slot-seats : (bytes : List ℕ) (i : ℕ) (d : Seat) → i < count bytes → (get_or (seats bytes) i d).slot ≡ slot_type bytes i
slot-seats bytes i d lt = ap (λ seat. seat.slot) (get_or-map-range_with_len (seat_at bytes) 0 (count bytes) i i d lt (omega arith))

-- the list has as many entries as the table
pub length-found : (bytes : List ℕ) (found : List Seat) → found ≡ seats bytes → length found ≡ count bytes
length-found bytes found e = ap length e ∙ length-seats bytes

-- the test of an entry's type, by the entry in the list
pub is_repeated-found : (bytes : List ℕ) (found : List Seat) (i : ℕ) (d : Seat) → found ≡ seats bytes → i < length found → list_any (λ seat. seat.slot == (get_or found i d).slot) (take i found) ≡ is_repeated bytes i
is_repeated-found bytes found i d e lt =
    let within : i < count bytes = omega (arith, length-found bytes found e) in
    rw e (ap (λ slot. list_any (λ seat. seat.slot == slot) (take i (seats bytes))) (slot-seats bytes i d within))

-- the type of an entry in the list
pub slot-found : (bytes : List ℕ) (found : List Seat) (i : ℕ) (d : Seat) → found ≡ seats bytes → i < length found → (get_or found i d).slot ≡ slot_type bytes i
slot-found bytes found i d e lt =
    let within : i < count bytes = omega (arith, length-found bytes found e) in
    rw e (slot-seats bytes i d within)

-- a blob that is not out of place
pub IsInside-from : (bytes : List ℕ) (i : ℕ) → IsFramed bytes → is_out bytes i ≡ false → IsInside bytes (seat_at bytes i)
IsInside-from bytes i framed inside = record {
  behind = grind (arith, nat_tests);
  header = grind (arith, nat_tests);
  within = grind (arith, nat_tests);
  given = grind (arith, nat_tests);
}

-- the first broken rule of a group, where the groups before it are kept, is the first of all
pub broken_by_frame : (bytes : List ℕ) (refusal : SuperRefusal) → first (frame_rules bytes) ≡ Some refusal → broken bytes ≡ Some refusal
unfolding broken
broken_by_frame bytes refusal e = first-append-broken (frame_rules bytes) (place_rules bytes ++ repeat_rules bytes) refusal e

pub broken_by_place : (bytes : List ℕ) (refusal : SuperRefusal) → first (frame_rules bytes) ≡ None → first (place_rules bytes) ≡ Some refusal → broken bytes ≡ Some refusal
unfolding broken
broken_by_place bytes refusal frame e =
    first-append-kept (frame_rules bytes) (place_rules bytes ++ repeat_rules bytes) frame
    ∙ first-append-broken (place_rules bytes) (repeat_rules bytes) refusal e

-- the last group, and what it answers
pub broken_by_repeat : (bytes : List ℕ) (answer : Option SuperRefusal) → first (frame_rules bytes) ≡ None → first (place_rules bytes) ≡ None → first (repeat_rules bytes) ≡ answer → broken bytes ≡ answer
unfolding broken
broken_by_repeat bytes answer frame place e =
    first-append-kept (frame_rules bytes) (place_rules bytes ++ repeat_rules bytes) frame
    ∙ (first-append-kept (place_rules bytes) (repeat_rules bytes) place ∙ e)

-- the refusal of an entry's place, where the rules before it are kept
pub Refuses-place : (bytes : List ℕ) (fail : SuperFail) → first (frame_rules bytes) ≡ None → Refuses (first (place_rules bytes)) fail → Refuses (broken bytes) fail
Refuses-place bytes (Refused refusal) frame e = broken_by_place bytes refusal frame e
Refuses-place bytes NoMemory frame e = tt

-- each blob is inside, where all places are kept
numbered-inside : (bytes : List ℕ) (a n : ℕ) → IsFramed bytes → first (map (place_rule bytes) (range_with_len a n)) ≡ None → All (IsInside bytes) (map (seat_at bytes) (range_with_len a n))
numbered-inside bytes a zero framed kept = All-nil (IsInside bytes)
numbered-inside bytes a (suc n) framed kept =
    let parts = kept-cons (place_rule bytes a) (map (place_rule bytes) (range_with_len (a + 1) n)) kept in
    All-cons (IsInside bytes) (seat_at bytes a) (map (seat_at bytes) (range_with_len (a + 1) n))
    (IsInside-from bytes a framed parts.0)
    (numbered-inside bytes (a + 1) n framed parts.1)

pub seats-inside : (bytes : List ℕ) (found : List Seat) → IsFramed bytes → first (place_rules bytes) ≡ None → found ≡ seats bytes → All (IsInside bytes) found
seats-inside bytes found framed kept e = rw e (numbered-inside bytes 0 (count bytes) framed kept)
