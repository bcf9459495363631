-- What the load commands of an image are known for, one by one.
use Rattle.std.proofs.Common.{◌≡◌, ℕ, suc, zero, ◌+◌, ◌*◌, ◌<◌, ◌≤◌, Bool, true, false, cond, List, ◌∷◌, length, map, Option, Some, None, All, get_or, refl, arith}
use Rattle.std.specs.Prelude.{find, filter}
use Rattle.std.specs.List.{range_with_len, flat_map}
use Rattle.std.proofs.lemmas.Bool.Decides.{nat_tests}
use Rattle.std.proofs.lemmas.List.Elements.{All-nil, All-cons, All-map}
use Rattle.pg_bytes.specs.Rules.{Rule, first}
use Rattle.pg_bytes.proofs.RuleFacts.{kept-append, kept-cons, NoneBroken-from}
use Rattle.macho_cmds.specs.declared.segment.Segment.{Segment}
use Rattle.macho_cmds.specs.Layout.{command_count, commands_end, size, place_of, places, is_segment, is_signature, section_count, segment_at}
use Rattle.macho_cmds.specs.Rules.{is_bad, is_bad_segment, is_second_signature, rules_of, command_rules, signature_place}
use Rattle.macho_cmds.specs.Commands.{segments_among}

-- of groups that stand one for each number, the group of one
kept_group : {R : Type 0} (group : ℕ → List (Rule R)) (a n i : ℕ) → i < n → first (flat_map group (range_with_len a n)) ≡ None → first (group (a + i)) ≡ None
kept_group group a zero i lt kept = absurd (omega arith)
kept_group group a (suc n) zero lt kept =
    let same : a + 0 ≡ a = omega arith in
    rw same (kept-append (group a) (flat_map group (range_with_len (a + 1) n)) kept).0
kept_group group a (suc n) (suc i) lt kept =
    let same : a + suc i ≡ (a + 1) + i = omega arith in
    rw same (kept_group group (a + 1) n i (omega arith) (kept-append (group a) (flat_map group (range_with_len (a + 1) n)) kept).1)

-- A load command keeps the rules on it.
pub record IsKept (bytes : List ℕ) (i : ℕ) : Type 0 where
  pub head : is_bad bytes (place_of bytes i) ≡ false
  pub segment : is_bad_segment bytes (place_of bytes i) ≡ false
  pub single : is_second_signature bytes i ≡ false

pub IsKept-from : (bytes : List ℕ) (i : ℕ) → i < command_count bytes → first (command_rules bytes) ≡ None → IsKept bytes i
IsKept-from bytes i lt kept =
    let same : 0 + i ≡ i = omega arith in
    let group = rw same at (kept_group (rules_of bytes) 0 (command_count bytes) i lt kept) in
    let none = NoneBroken-from (rules_of bytes i) group in
    record { head = none.0; segment = none.1.0; single = none.1.1.0 }

-- it ends before all load commands end, and has a whole head
pub command-within : (bytes : List ℕ) (at : ℕ) → is_bad bytes at ≡ false → (at + size bytes at ≤ commands_end bytes) × (8 ≤ size bytes at)
command-within bytes at kept = (grind (arith, nat_tests), grind (arith, nat_tests))

-- that of the signature has 16 bytes
pub signature-size : (bytes : List ℕ) (at : ℕ) → is_bad bytes at ≡ false → is_signature bytes at ≡ true → size bytes at ≡ 16
signature-size bytes at kept is = grind (arith, nat_tests)

-- that of a segment has 72 and its sections
pub segment-size : (bytes : List ℕ) (at : ℕ) → is_bad_segment bytes at ≡ false → is_segment bytes at ≡ true → 72 + 80 * section_count bytes at ≤ size bytes at
segment-size bytes at kept is = grind (arith, nat_tests)

-- the first of several places that passes is one of them
first-found : (test : ℕ → Bool) (place : ℕ → ℕ) (a n x : ℕ) (rest : Option ℕ) → (rest ≡ Some x → (i : ℕ) × (i < (a + 1) + n) × (place i ≡ x) × (test x ≡ true)) → (b : Bool) → test (place a) ≡ b → cond b (Some (place a)) rest ≡ Some x → (i : ℕ) × (i < a + suc n) × (place i ≡ x) × (test x ≡ true)
first-found test place a n x rest later true passes found =
    let here : place a ≡ x = cc in
    (a, omega arith, here, rw (← here) passes)
first-found test place a n x rest later false fails found =
    let known = later found in
    (known.0, omega (arith, known.1), known.2, known.3)

found-place : (test : ℕ → Bool) (place : ℕ → ℕ) (a n x : ℕ) → find test (map place (range_with_len a n)) ≡ Some x → (i : ℕ) × (i < a + n) × (place i ≡ x) × (test x ≡ true)
found-place test place a zero x e = absurd cc
found-place test place a (suc n) x e =
    first-found test place a n x (find test (map place (range_with_len (a + 1) n))) (found-place test place (a + 1) n x) (test (place a)) refl e

-- what holds of each place that passes holds of all that are kept
kept-first : (P : ℕ → Type 0) (x : ℕ) (rest : List ℕ) → All P rest → (b : Bool) → (b ≡ true → P x) → All P (cond b (x ∷ rest) rest)
kept-first P x rest all true holds = All-cons P x rest (holds refl) all
kept-first P x rest all false holds = all

kept-places : (P : ℕ → Type 0) (test : ℕ → Bool) (place : ℕ → ℕ) (a n : ℕ) → ((i : ℕ) → i < a + n → test (place i) ≡ true → P (place i)) → All P (filter test (map place (range_with_len a n)))
kept-places P test place a zero holds = All-nil P
kept-places P test place a (suc n) holds =
    kept-first P (place a) (filter test (map place (range_with_len (a + 1) n))) (kept-places P test place (a + 1) n (λ i lt passes. holds i (omega arith) passes))
    (test (place a)) (λ passes. holds a (omega arith) passes)

-- The load command of the signature is one of the image's.
pub record IsSignatureAt (bytes : List ℕ) (at : ℕ) : Type 0 where
  pub index : ℕ
  pub among : index < command_count bytes
  pub place : place_of bytes index ≡ at
  pub kind : is_signature bytes at ≡ true

pub IsSignatureAt-from : (bytes : List ℕ) (at : ℕ) → signature_place bytes ≡ Some at → IsSignatureAt bytes at
IsSignatureAt-from bytes at e =
    let found = found-place (is_signature bytes) (place_of bytes) 0 (command_count bytes) at e in
    record { index = found.0; among = omega (arith, found.1); place = found.2; kind = found.3 }

-- A segment is that of one of the image's load commands.
pub record IsSegmentAt (bytes : List ℕ) (segment : Segment) : Type 0 where
  pub index : ℕ
  pub among : index < command_count bytes
  pub says : segment ≡ segment_at bytes (place_of bytes index)
  pub kind : is_segment bytes (place_of bytes index) ≡ true

pub IsSegmentAt-all : (bytes : List ℕ) → All (IsSegmentAt bytes) (segments_among bytes (command_count bytes))
IsSegmentAt-all bytes =
    All-map (IsSegmentAt bytes) (segment_at bytes) (filter (is_segment bytes) (places bytes (command_count bytes)))
    (kept-places (λ at. IsSegmentAt bytes (segment_at bytes at)) (is_segment bytes) (place_of bytes) 0 (command_count bytes)
    (λ i lt passes. record { index = i; among = omega (arith, lt); says = refl; kind = passes }))

-- of rules that stand one for each number, the rule of one
pub kept_rule : {R : Type 0} (rule : ℕ → Rule R) (a n i : ℕ) → i < n → first (map rule (range_with_len a n)) ≡ None → (rule (a + i)).0 ≡ false
kept_rule rule a zero i lt kept = absurd (omega arith)
kept_rule rule a (suc n) zero lt kept =
    let same : a + 0 ≡ a = omega arith in
    rw same (kept-cons (rule a) (map rule (range_with_len (a + 1) n)) kept).0
kept_rule rule a (suc n) (suc i) lt kept =
    let same : a + suc i ≡ (a + 1) + i = omega arith in
    rw same (kept_rule rule (a + 1) n i (omega arith) (kept-cons (rule a) (map rule (range_with_len (a + 1) n)) kept).1)

-- an element of the list of what passes, behind one more place
member-behind : {X : Type 0} (test : ℕ → Bool) (f : ℕ → X) (x : ℕ) (xs : List ℕ) (d : X) (at : ℕ) → (b : Bool) → (k : ℕ) × (k < length (map f xs)) × (get_or (map f xs) k d ≡ f at) → (k : ℕ) × (k < length (map f (cond b (x ∷ xs) xs))) × (get_or (map f (cond b (x ∷ xs) xs)) k d ≡ f at)
member-behind test f x xs d at true found = (suc found.0, omega (arith, found.1), found.2)
member-behind test f x xs d at false found = found

-- each place that passes is among those that are kept
pub member-place : {X : Type 0} (test : ℕ → Bool) (place : ℕ → ℕ) (f : ℕ → X) (d : X) (a n i : ℕ) → i < n → test (place (a + i)) ≡ true → (k : ℕ) × (k < length (map f (filter test (map place (range_with_len a n))))) × (get_or (map f (filter test (map place (range_with_len a n)))) k d ≡ f (place (a + i)))
member-place test place f d a zero i lt passes = absurd (omega arith)
member-place test place f d a (suc n) zero lt passes =
    let same : a + 0 ≡ a = omega arith in
    let here : test (place a) ≡ true = rw same at passes in
    rw (here, same) (0, omega arith, refl)
member-place test place f d a (suc n) (suc i) lt passes =
    let same : a + suc i ≡ (a + 1) + i = omega arith in
    let later = member-place test place f d (a + 1) n i (omega arith) (rw same at passes) in
    rw same (member-behind test f (place a) (filter test (map place (range_with_len (a + 1) n))) d (place ((a + 1) + i)) (test (place a)) later)
