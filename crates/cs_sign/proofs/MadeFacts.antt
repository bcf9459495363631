-- The signed file is an image: its load commands are those of the file, but for the sizes that are written.
use Rattle.std.proofs.Common.{◌≡◌, ℕ, zero, suc, ◌+◌, ◌*◌, ◌^◌, ◌<◌, ◌≤◌, ◌⊎◌, inl, inr, Bool, true, false, ◌&&◌, ◌==◌, nat_lt, List, ◌++◌, length, map, Some, None, refl, sym, ap, subst, ◌∙◌, arith, length-append}
use Rattle.std.specs.Prelude.{find, is_some}
use Rattle.std.specs.List.{range_with_len, flat_map}
use Rattle.std.proofs.lemmas.Bool.{cases_eq, le-ltb}
use Rattle.std.proofs.lemmas.Bool.Decides.{nat_tests}
use Rattle.pg_bytes.specs.Rules.{Rule, first}
use Rattle.pg_bytes.specs.Fields.{le32_at, le64_at}
use Rattle.pg_bytes.specs.declared.fields.Range.{Range}
use Rattle.pg_bytes.proofs.RuleFacts.{first-append-kept}
use Rattle.macho_cmds.specs.Layout.{command_count, commands_end, kind, size, place_of, is_segment, is_signature, fileoff, filesize, section_count, signature_range}
use Rattle.macho_cmds.specs.Rules.{header_rules, command_rules, signature_rules, rules_of, is_bad, is_bad_segment, maps_wrongly, is_second_signature, signature_among, signature_place}
use Rattle.macho_cmds.specs.Rules as macho
use Rattle.cs_sign.specs.declared.plan.Plan.{Plan}
use Rattle.cs_sign.specs.Body.{IsRoomy, body}
use Rattle.cs_sign.specs.Rules.{whole}
use Rattle.cs_sign.proofs.AlikeFacts.{IsClear, kept-clear, le32-same, le64-same, size-written, filesize-written}
use Rattle.cs_sign.proofs.CommandFacts.{IsKept, command-within, signature-size, segment-size}
use Rattle.cs_sign.proofs.PlaceFacts.{place-start, apart-from}
use Rattle.cs_sign.proofs.RoomFacts.{bytes_in-whole, length-body}

-- What is known of the file and of its plan: the commands that are written to, and where each segment ends.
pub record IsSignable (bytes : List ℕ) (plan : Plan) : Type 0 where
  pub room : IsRoomy bytes plan
  pub ends : commands_end bytes ≤ plan.limit
  pub each : (i : ℕ) → i < command_count bytes → IsKept bytes i
  pub single : (i : ℕ) → i < command_count bytes → is_second_signature bytes i ≡ false
  pub magic : le32_at bytes 0 ≡ 0xfeedfacf
  pub signature_found : signature_place bytes ≡ Some plan.signature
  pub signature_begins : le32_at bytes (plan.signature + 8) ≡ plan.limit
  pub signature : ℕ
  pub signature_among : signature < command_count bytes
  pub signature_place : place_of bytes signature ≡ plan.signature
  pub signature_kind : is_signature bytes plan.signature ≡ true
  pub linkedit : ℕ
  pub linkedit_among : linkedit < command_count bytes
  pub linkedit_place : place_of bytes linkedit ≡ plan.linkedit.at
  pub linkedit_kind : is_segment bytes plan.linkedit.at ≡ true
  pub linkedit_begins : fileoff bytes plan.linkedit.at ≡ plan.linkedit.fileoff
  pub others : (i : ℕ) → i < command_count bytes → is_segment bytes (place_of bytes i) ≡ true → (i ≡ linkedit → ⊥) → fileoff bytes (place_of bytes i) + filesize bytes (place_of bytes i) ≤ plan.limit

-- a load command is not both of a signature and of a segment
not-both : (bytes : List ℕ) (at : ℕ) → is_signature bytes at ≡ true → is_segment bytes at ≡ true → ⊥
not-both bytes at one other = grind (arith, nat_tests)

-- the first that passes, of places that are equal and tests that agree on them
find-kept : (test other : ℕ → Bool) (place moved : ℕ → ℕ) (a n : ℕ) → ((i : ℕ) → i < a + n → (moved i ≡ place i) × (other (place i) ≡ test (place i))) → find other (map moved (range_with_len a n)) ≡ find test (map place (range_with_len a n))
find-kept test other place moved a zero same = refl
find-kept test other place moved a (suc n) same =
    let here = same a (omega arith) in
    rw (here.0, here.1, find-kept test other place moved (a + 1) n (λ i lt. same i (omega arith))) refl

-- groups of rules of which each is kept
all-kept : {R : Type 0} (group : ℕ → List (Rule R)) (a n : ℕ) → ((i : ℕ) → i < a + n → first (group i) ≡ None) → first (flat_map group (range_with_len a n)) ≡ None
all-kept group a zero kept = refl
all-kept group a (suc n) kept =
    first-append-kept (group a) (flat_map group (range_with_len (a + 1) n)) (kept a (omega arith))
    ∙ all-kept group (a + 1) n (λ i lt. kept i (omega arith))

-- two places, by other names
shifted : {p q s l : ℕ} → p ≡ s → q ≡ l → (p + 12 + 4 ≤ q + 32) ⊎ (q + 56 ≤ p + 12) → ((s + 12) + 4 ≤ l + 32) ⊎ (l + 56 ≤ s + 12)
shifted first second (inl le) = inl (omega arith)
shifted first second (inr le) = inr (omega arith)

module _ (bytes : List ℕ) (plan : Plan) (count : ℕ) (rest : List ℕ) (known : IsSignable bytes plan) where
  abbrev made : List ℕ
  made = body bytes plan count ++ rest

  signature-long : size bytes (place_of bytes known.signature) ≡ 16
  signature-long =
      signature-size bytes (place_of bytes known.signature) (known.each known.signature known.signature_among).head (rw known.signature_place known.signature_kind)

  linkedit-long : 72 ≤ size bytes (place_of bytes known.linkedit)
  linkedit-long =
      omega (arith, segment-size bytes (place_of bytes known.linkedit) (known.each known.linkedit known.linkedit_among).segment (rw known.linkedit_place known.linkedit_kind))

  -- bytes of a load command that are clear
  clear-at : (i at n : ℕ) → i < command_count bytes → at + n ≤ size bytes (place_of bytes i) → (i ≡ known.signature → (at + n ≤ 12) ⊎ (16 ≤ at)) → (i ≡ known.linkedit → (at + n ≤ 48) ⊎ (56 ≤ at)) → (i ≡ known.linkedit → (at + n ≤ 32) ⊎ (40 ≤ at)) → IsClear plan (place_of bytes i + at) n
  clear-at i at n lt inside here there above =
      let ends = command-within bytes (place_of bytes i) (known.each i lt).head in
      record {
        within = omega (arith, ends.0, known.ends);
        signature = rw (← known.signature_place) (apart-from bytes i known.signature at n 12 16 inside (omega (arith, signature-long)) here);
        filesize = rw (← known.linkedit_place) (apart-from bytes i known.linkedit at n 48 56 inside (omega (arith, linkedit-long)) there);
        vmsize = rw (← known.linkedit_place) (apart-from bytes i known.linkedit at n 32 40 inside (omega (arith, linkedit-long)) above);
      }

  -- bytes of the header are clear
  clear-header : (at n : ℕ) → at + n ≤ 32 → IsClear plan at n
  clear-header at n le =
      let s = place-start bytes known.signature in
      let l = place-start bytes known.linkedit in
      record {
        within = omega (arith, known.ends);
        signature = inl (omega (arith, s, known.signature_place));
        filesize = inl (omega (arith, l, known.linkedit_place));
        vmsize = inl (omega (arith, l, known.linkedit_place));
      }

  pub header-kept : (at : ℕ) → at + 4 ≤ 32 → le32_at made at ≡ le32_at bytes at
  header-kept at le = le32-same made bytes at (kept-clear bytes plan count known.room rest at 4 (clear-header at 4 le))

  -- a number of four bytes of a load command
  word-kept : (i at : ℕ) → IsClear plan (place_of bytes i + at) 4 → le32_at made (place_of bytes i + at) ≡ le32_at bytes (place_of bytes i + at)
  word-kept i at clear = le32-same made bytes (place_of bytes i + at) (kept-clear bytes plan count known.room rest (place_of bytes i + at) 4 clear)

  long-kept : (i at : ℕ) → IsClear plan (place_of bytes i + at) 8 → le64_at made (place_of bytes i + at) ≡ le64_at bytes (place_of bytes i + at)
  long-kept i at clear = le64-same made bytes (place_of bytes i + at) (kept-clear bytes plan count known.room rest (place_of bytes i + at) 8 clear)

  -- the head of each
  kind-kept : (i : ℕ) → i < command_count bytes → kind made (place_of bytes i) ≡ kind bytes (place_of bytes i)
  kind-kept i lt =
      let inside = (command-within bytes (place_of bytes i) (known.each i lt).head).1 in
      let same : place_of bytes i + 0 ≡ place_of bytes i = omega arith in
      rw same at (word-kept i 0 (clear-at i 0 4 lt (omega (arith, inside)) (λ e. inl (omega arith)) (λ e. inl (omega arith)) (λ e. inl (omega arith))))

  size-kept : (i : ℕ) → i < command_count bytes → size made (place_of bytes i) ≡ size bytes (place_of bytes i)
  size-kept i lt =
      let inside = (command-within bytes (place_of bytes i) (known.each i lt).head).1 in
      word-kept i 4 (clear-at i 4 4 lt (omega (arith, inside)) (λ e. inl (omega arith)) (λ e. inl (omega arith)) (λ e. inl (omega arith)))

  pub count-kept : command_count made ≡ command_count bytes
  count-kept = header-kept 16 (omega arith)

  pub ends-kept : commands_end made ≡ commands_end bytes
  ends-kept = ap (λ (n : ℕ). 32 + n) (header-kept 20 (omega arith))

  -- where each begins
  pub place-kept : (i : ℕ) → i ≤ command_count bytes → place_of made i ≡ place_of bytes i
  unfolding place_of
  place-kept zero le = refl
  place-kept (suc i) le =
      let before = place-kept i (omega arith) in
      rw (before, size-kept i (omega arith)) refl

  -- ---- the rules on each

  bad-kept : (i : ℕ) → i < command_count bytes → is_bad made (place_of bytes i) ≡ false
  bad-kept i lt =
      rw (ends-kept, size-kept i lt, kind-kept i lt) (known.each i lt).head

  pub length-made : length made ≡ plan.limit + length rest
  length-made = omega (arith, length-append (body bytes plan count) rest, length-body bytes plan count known.room)

  -- a segment but the first `__LINKEDIT` maps the same bytes
  maps-other : (i : ℕ) → i < command_count bytes → is_segment bytes (place_of bytes i) ≡ true → (i ≡ known.linkedit → ⊥) → fileoff made (place_of bytes i) + filesize made (place_of bytes i) ≤ plan.limit
  maps-other i lt segment other =
      let long = segment-size bytes (place_of bytes i) (known.each i lt).segment segment in
      let apart : i ≡ known.signature → ⊥ = λ e. not-both bytes plan.signature known.signature_kind (rw (← known.signature_place, ← e) segment) in
      let begins = long-kept i 40 (clear-at i 40 8 lt (omega (arith, long)) (λ e. absurd (apart e)) (λ e. inl (omega arith)) (λ e. inr (omega arith))) in
      let holds = long-kept i 48 (clear-at i 48 8 lt (omega (arith, long)) (λ e. absurd (apart e)) (λ e. absurd (other e)) (λ e. inr (omega arith))) in
      omega (arith, begins, holds, known.others i lt segment other)

  -- and the first `__LINKEDIT` ends where the signed file ends
  maps-linkedit : plan.limit + count < 2 ^ 32 → fileoff made plan.linkedit.at + filesize made plan.linkedit.at ≡ plan.limit + count
  maps-linkedit fits =
      let place = place_of bytes known.linkedit in
      let segment : is_segment bytes place ≡ true = ap (is_segment bytes) known.linkedit_place ∙ known.linkedit_kind in
      let inside = segment-size bytes place (known.each known.linkedit known.linkedit_among).segment segment in
      let apart : known.linkedit ≡ known.signature → ⊥ = λ e. not-both bytes plan.signature known.signature_kind (ap (is_segment bytes) (sym known.signature_place ∙ ap (place_of bytes) (sym e)) ∙ segment) in
      let begins = long-kept known.linkedit 40 (clear-at known.linkedit 40 8 known.linkedit_among (omega (arith, inside)) (λ e. absurd (apart e)) (λ e. inl (omega arith)) (λ e. inr (omega arith))) in
      let moved : fileoff made plan.linkedit.at ≡ fileoff made place = ap (fileoff made) (sym known.linkedit_place) in
      let old : fileoff bytes place ≡ plan.linkedit.fileoff = ap (fileoff bytes) known.linkedit_place ∙ known.linkedit_begins in
      let written = filesize-written bytes plan count known.room rest (omega arith) in
      omega (arith, begins, moved, old, written, known.room.begins)

  -- where a segment ends in the signed file
  maps-within : (i : ℕ) → i < command_count bytes → is_segment bytes (place_of bytes i) ≡ true → count ≡ length rest → plan.limit + count < 2 ^ 32 → fileoff made (place_of bytes i) + filesize made (place_of bytes i) ≤ length made
  maps-within i lt segment long fits = elim (cases_eq i known.linkedit) [
    | inl same ↦
        let here : place_of bytes i ≡ plan.linkedit.at = ap (place_of bytes) same ∙ known.linkedit_place in
        let begins : fileoff made (place_of bytes i) ≡ fileoff made plan.linkedit.at = ap (fileoff made) here in
        let holds : filesize made (place_of bytes i) ≡ filesize made plan.linkedit.at = ap (filesize made) here in
        omega (arith, begins, holds, maps-linkedit fits, long, length-made)
    | inr other ↦ omega (arith, maps-other i lt segment other, length-made)
  ]

  -- the rule on a segment
  segment-kept : (i : ℕ) (b : Bool) → i < command_count bytes → is_segment bytes (place_of bytes i) ≡ b → count ≡ length rest → plan.limit + count < 2 ^ 32 → is_bad_segment made (place_of bytes i) ≡ false
  segment-kept i false lt other long fits =
      let kind_is : is_segment made (place_of bytes i) ≡ false = ap (λ (n : ℕ). n == 0x19) (kind-kept i lt) ∙ other in
      rw kind_is refl
  segment-kept i true lt segment long fits =
      let inside = segment-size bytes (place_of bytes i) (known.each i lt).segment segment in
      let apart : i ≡ known.signature → ⊥ = λ e. not-both bytes plan.signature known.signature_kind (ap (is_segment bytes) (sym known.signature_place ∙ ap (place_of bytes) (sym e)) ∙ segment) in
      let sections = word-kept i 64 (clear-at i 64 4 lt (omega (arith, inside)) (λ e. absurd (apart e)) (λ e. inr (omega arith)) (λ e. inr (omega arith))) in
      let sized = size-kept i lt in
      let ends = maps-within i lt segment long fits in
      let kind_is : is_segment made (place_of bytes i) ≡ true = ap (λ (n : ℕ). n == 0x19) (kind-kept i lt) ∙ segment in
      let first_test : nat_lt (size made (place_of bytes i)) (72 + 80 * section_count made (place_of bytes i)) ≡ false = le-ltb _ _ (omega (arith, sections, sized, inside)) in
      let second_test : nat_lt (length made) (fileoff made (place_of bytes i) + filesize made (place_of bytes i)) ≡ false = le-ltb _ _ ends in
      rw (kind_is, first_test, second_test) refl

  -- the load command of the signature, as it is found
  among-kept : (n : ℕ) → n ≤ command_count bytes → signature_among made n ≡ signature_among bytes n
  among-kept n le =
      find-kept (is_signature bytes) (is_signature made) (place_of bytes) (place_of made) 0 n
      (λ i lt. (place-kept i (omega arith), ap (λ (k : ℕ). k == 0x1d) (kind-kept i (omega arith))))

  second-kept : (i : ℕ) → i < command_count bytes → (is_signature made (place_of bytes i) && is_some (signature_among made i)) ≡ false
  second-kept i lt =
      let kind_is : is_signature made (place_of bytes i) ≡ is_signature bytes (place_of bytes i) = ap (λ (k : ℕ). k == 0x1d) (kind-kept i lt) in
      rw (kind_is, among-kept i (omega arith)) (known.single i lt)

  rules-kept : count ≡ length rest → plan.limit + count < 2 ^ 32 → (i : ℕ) → i < command_count bytes → first (rules_of made i) ≡ None
  rules-kept long fits i lt =
      let bad : is_bad made (place_of made i) ≡ false = ap (is_bad made) (place-kept i (omega arith)) ∙ bad-kept i lt in
      let segment : is_bad_segment made (place_of made i) ≡ false = ap (is_bad_segment made) (place-kept i (omega arith)) ∙ segment-kept i (is_segment bytes (place_of bytes i)) lt refl long fits in
      let second : is_second_signature made i ≡ false = ap (λ (p : ℕ). is_signature made p && is_some (signature_among made i)) (place-kept i (omega arith)) ∙ second-kept i lt in
      rw (bad, segment, second) refl

  commands-kept : count ≡ length rest → plan.limit + count < 2 ^ 32 → first (command_rules made) ≡ None
  commands-kept long fits =
      rw count-kept (all-kept (rules_of made) 0 (command_count bytes) (λ i lt. rules-kept long fits i (omega arith)))

  pub signature-found : signature_place made ≡ Some plan.signature
  signature-found = rw count-kept (among-kept (command_count bytes) (omega arith)) ∙ known.signature_found

  pub signature-lies : plan.limit + count < 2 ^ 32 → signature_range made plan.signature ≡ record { at = plan.limit; len = count }
  signature-lies fits =
      let place = known.signature_place in
      let kept = word-kept known.signature 8 (clear-at known.signature 8 4 known.signature_among (omega (arith, signature-long)) (λ e. inl (omega arith)) (λ e. inl (omega arith)) (λ e. inl (omega arith))) in
      let at_is : le32_at made (plan.signature + 8) ≡ plan.limit = ap (λ (p : ℕ). le32_at made (p + 8)) (sym place) ∙ kept ∙ ap (λ (p : ℕ). le32_at bytes (p + 8)) place ∙ known.signature_begins in
      let parted = apart-from bytes known.signature known.linkedit 12 4 32 56 (omega (arith, signature-long)) (omega (arith, linkedit-long))
      (λ e. absurd (not-both bytes plan.signature known.signature_kind (ap (is_segment bytes) (sym place ∙ ap (place_of bytes) e ∙ known.linkedit_place) ∙ known.linkedit_kind))) in
      let apart : ((plan.signature + 12) + 4 ≤ plan.linkedit.at + 32) ⊎ (plan.linkedit.at + 56 ≤ plan.signature + 12) = shifted known.signature_place known.linkedit_place parted in
      let len_is = size-written bytes plan count known.room rest (omega arith) apart in
      rw (at_is, len_is) refl

  signature-kept : count ≡ length rest → plan.limit + count < 2 ^ 32 → first (signature_rules made) ≡ None
  signature-kept long fits =
      let ends : nat_lt (length made) (plan.limit + count) ≡ false = le-ltb _ _ (omega (arith, long, length-made)) in
      let at_is : le32_at made (plan.signature + 8) ≡ plan.limit = ap (λ (r : Range). r.at) (signature-lies fits) in
      let len_is : le32_at made (plan.signature + 12) ≡ count = ap (λ (r : Range). r.len) (signature-lies fits) in
      rw (signature-found, at_is, len_is, ends) refl

  header-rules : first (header_rules 0 made) ≡ None
  header-rules =
      let magic_is = header-kept 0 (omega arith) ∙ known.magic in
      let short : nat_lt (length made) 32 ≡ false = le-ltb _ _ (omega (arith, length-made, known.ends)) in
      let all : nat_lt (length made) (commands_end made) ≡ false = le-ltb _ _ (omega (arith, length-made, known.ends, ends-kept)) in
      rw (short, magic_is, all) refl

  -- the signed file is an image
  pub image-kept : count ≡ length rest → plan.limit + count < 2 ^ 32 → macho.broken made (whole made) ≡ None
  unfolding macho.broken
  image-kept long fits =
      let P : List ℕ → Type 0 = λ b. first (header_rules 0 b ++ (command_rules b ++ signature_rules b)) ≡ None in
      subst P (sym (bytes_in-whole made))
      (first-append-kept (header_rules 0 made) (command_rules made ++ signature_rules made) header-rules
      ∙ (first-append-kept (command_rules made) (signature_rules made) (commands-kept long fits) ∙ signature-kept long fits))
