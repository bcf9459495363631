-- What is known of the load commands up to one of them.
use Rattle.std.proofs.Common.{◌≡◌, ℕ, Bool, true, false, cond, ◌&&◌, All, IfSome, ◌+◌, ◌<◌, ◌≤◌, List, [], ◌∷◌, ◌++◌, Option, length, map, Some, None, refl, ap, ◌∙◌, arith, add-one}
use Rattle.std.specs.Prelude.{is_some, find, filter}
use Rattle.std.specs.Option.{option_or}
use Rattle.std.proofs.lemmas.List.{map-append}
use Rattle.std.proofs.lemmas.List.Elements.{All-nil, All-cons, All-append}
use Rattle.std.proofs.lemmas.List.Folds.{find-append}
use Rattle.std.proofs.lemmas.List.FromFn.{map-range_with_len_more, filter_of_map_range_with_len_more}
use Rattle.macho_cmds.specs.declared.commands.Command.{Command}
use Rattle.macho_cmds.specs.declared.segment.Segment.{Segment}
use Rattle.macho_cmds.specs.Layout.{command_count, commands_end, size, place_of, places, is_segment, is_signature, segment_at}
use Rattle.pg_bytes.specs.Rules.{first}
use Rattle.macho_cmds.specs.Rules.{rules_of, signature_among}
use Rattle.macho_cmds.specs.Commands.{IsCommand, IsSegmentWithin, segments_among}
use Rattle.pg_bytes.proofs.RuleFacts.{NoneBroken-from}
use Rattle.macho_cmds.proofs.RuleFacts.{KeptBelow, KeptBelow-start, KeptBelow-next}

-- The first `i` load commands keep the rules on them, and were told of: the next begins here.
pub record IsWalked (bytes : List ℕ) (i at : ℕ) (found : List Segment) (noted : Option ℕ) : Type 0 where
  pub place : at ≡ place_of bytes i
  pub within : at ≤ commands_end bytes
  pub segments : found ≡ segments_among bytes i
  pub signature : noted ≡ signature_among bytes i
  pub inside : All (IsSegmentWithin (length bytes)) found
  pub command : IfSome noted (λ place. place + 16 ≤ length bytes)
  pub kept : KeptBelow (rules_of bytes) i (command_count bytes)

pub IsWalked-start : (bytes : List ℕ) → IsWalked bytes 0 32 [] None
unfolding place_of
IsWalked-start bytes = record {
  place = refl;
  within = omega arith;
  segments = refl;
  signature = refl;
  inside = All-nil (IsSegmentWithin (length bytes));
  command = tt;
  kept = KeptBelow-start (rules_of bytes) (command_count bytes);
}

-- where the next load command begins
place-next : (bytes : List ℕ) (i : ℕ) → place_of bytes (i + 1) ≡ place_of bytes i + size bytes (place_of bytes i)
unfolding place_of
place-next bytes i = rw add-one refl

-- a list of one element or none, as a function leaves it
map-cond : {X Y : Type 0} (f : X → Y) (b : Bool) (x : X) → map f (cond b (x ∷ []) []) ≡ cond b (f x ∷ []) []
map-cond f true x = refl
map-cond f false x = refl

segments-next : (bytes : List ℕ) (i : ℕ) → segments_among bytes (i + 1) ≡ segments_among bytes i ++ cond (is_segment bytes (place_of bytes i)) (segment_at bytes (place_of bytes i) ∷ []) []
segments-next bytes i =
    ap (map (segment_at bytes)) (filter_of_map_range_with_len_more (is_segment bytes) (place_of bytes) 0 i i (omega arith))
    ∙ (map-append (segment_at bytes) (filter (is_segment bytes) (places bytes i)) (cond (is_segment bytes (place_of bytes i)) (place_of bytes i ∷ []) [])
    ∙ ap (λ more. segments_among bytes i ++ more) (map-cond (segment_at bytes) (is_segment bytes (place_of bytes i)) (place_of bytes i)))

-- the first of those before, or this one
first-or : (b : Bool) (before : Option ℕ) (x : ℕ) → (b && is_some before) ≡ false → option_or before (cond b (Some x) None) ≡ cond b (Some x) before
first-or true None x e = refl
first-or true (Some y) x e = absurd cc
first-or false None x e = refl
first-or false (Some y) x e = refl

signature-next : (bytes : List ℕ) (i : ℕ) → (is_signature bytes (place_of bytes i) && is_some (signature_among bytes i)) ≡ false → signature_among bytes (i + 1) ≡ cond (is_signature bytes (place_of bytes i)) (Some (place_of bytes i)) (signature_among bytes i)
signature-next bytes i single =
    ap (find (is_signature bytes)) (map-range_with_len_more (place_of bytes) 0 i i (omega arith))
    ∙ (find-append (is_signature bytes) (places bytes i) (place_of bytes i ∷ [])
    ∙ first-or (is_signature bytes (place_of bytes i)) (signature_among bytes i) (place_of bytes i) single)

-- a segment that is told of only where there is one
All-cond : {X : Type 0} (P : X → Type 0) (b : Bool) (x : X) → (b ≡ true → P x) → All P (cond b (x ∷ []) [])
All-cond P true x holds = All-cons P x [] (holds refl) (All-nil P)
All-cond P false x holds = All-nil P

IfSome-cond : (P : ℕ → Type 0) (b : Bool) (x : ℕ) (before : Option ℕ) → (b ≡ true → P x) → IfSome before P → IfSome (cond b (Some x) before) P
IfSome-cond P true x before holds known = holds refl
IfSome-cond P false x before holds known = known

-- one load command more, which keeps its rules
pub IsWalked-next : (bytes : List ℕ) (i at : ℕ) (found more : List Segment) (noted next : Option ℕ) (command : Command) → IsWalked bytes i at found noted → i < command_count bytes → first (rules_of bytes i) ≡ None → IsCommand bytes at command → more ≡ found ++ cond (is_segment bytes at) (segment_at bytes at ∷ []) [] → next ≡ cond (is_signature bytes at) (Some at) noted → IsWalked bytes (i + 1) (at + command.size) more next
IsWalked-next bytes i at found more noted next command known lt kept head told seen =
    let single = (NoneBroken-from (rules_of bytes i) kept).1.1.0 in
    record {
      place = rw (place-next bytes i, ← known.place, head.counted) refl;
      within = omega (arith, head.within, head.counted);
      segments = rw (segments-next bytes i, ← known.place, told, known.segments) refl;
      signature = rw (signature-next bytes i single, ← known.place, seen, known.signature) refl;
      inside = rw told (All-append (IsSegmentWithin (length bytes)) found (cond (is_segment bytes at) (segment_at bytes at ∷ []) []) known.inside (All-cond (IsSegmentWithin (length bytes)) (is_segment bytes at) (segment_at bytes at) head.segment));
      command = rw seen (IfSome-cond (λ place. place + 16 ≤ length bytes) (is_signature bytes at) at noted head.signature known.command);
      kept = KeptBelow-next (rules_of bytes) i (command_count bytes) known.kept lt kept;
    }
