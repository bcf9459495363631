-- What the first broken rule of a list tells of its parts.
use Rattle.std.proofs.Common.{◌≡◌, ℕ, List, ◌++◌, Option, Some, None, ◌∙◌}
use Rattle.cs_directory.specs.declared.refusal.DirRefusal.{DirRefusal}
use Rattle.pg_bytes.specs.Rules.{Rule, first}
use Rattle.pg_bytes.proofs.RuleFacts.{first-append-kept, first-append-broken, kept-append}
use Rattle.cs_directory.specs.Rules.{frame_rules, hash_rules, slot_rules, text_rules, broken}

-- no rule of a group is broken
pub record AreKept (bytes : List ℕ) : Type 0 where
  pub frame : first (frame_rules bytes) ≡ None
  pub hash : first (hash_rules bytes) ≡ None
  pub slot : first (slot_rules bytes) ≡ None
  pub text : first (text_rules bytes) ≡ None

-- the rules behind each group
abbrev behind_slot : List ℕ → List (Rule DirRefusal)
behind_slot bytes = text_rules bytes

abbrev behind_hash : List ℕ → List (Rule DirRefusal)
behind_hash bytes = slot_rules bytes ++ behind_slot bytes

abbrev behind_frame : List ℕ → List (Rule DirRefusal)
behind_frame bytes = hash_rules bytes ++ behind_hash bytes

-- the first broken rule of a group, where the groups before it are kept, is the first of all
pub broken_by_frame : (bytes : List ℕ) (refusal : DirRefusal) → first (frame_rules bytes) ≡ Some refusal → broken bytes ≡ Some refusal
unfolding broken
broken_by_frame bytes refusal e = first-append-broken (frame_rules bytes) (behind_frame bytes) refusal e

pub broken_by_hash : (bytes : List ℕ) (refusal : DirRefusal) → first (frame_rules bytes) ≡ None → first (hash_rules bytes) ≡ Some refusal → broken bytes ≡ Some refusal
unfolding broken
broken_by_hash bytes refusal frame e =
    first-append-kept (frame_rules bytes) (behind_frame bytes) frame
    ∙ first-append-broken (hash_rules bytes) (behind_hash bytes) refusal e

pub broken_by_slot : (bytes : List ℕ) (refusal : DirRefusal) → first (frame_rules bytes) ≡ None → first (hash_rules bytes) ≡ None → first (slot_rules bytes) ≡ Some refusal → broken bytes ≡ Some refusal
unfolding broken
broken_by_slot bytes refusal frame hash e =
    first-append-kept (frame_rules bytes) (behind_frame bytes) frame
    ∙ (first-append-kept (hash_rules bytes) (behind_hash bytes) hash
    ∙ first-append-broken (slot_rules bytes) (behind_slot bytes) refusal e)

-- the last group, and what it answers
pub broken_by_text : (bytes : List ℕ) (answer : Option DirRefusal) → first (frame_rules bytes) ≡ None → first (hash_rules bytes) ≡ None → first (slot_rules bytes) ≡ None → first (text_rules bytes) ≡ answer → broken bytes ≡ answer
unfolding broken
broken_by_text bytes answer frame hash slot e =
    first-append-kept (frame_rules bytes) (behind_frame bytes) frame
    ∙ (first-append-kept (hash_rules bytes) (behind_hash bytes) hash
    ∙ (first-append-kept (slot_rules bytes) (behind_slot bytes) slot ∙ e))

pub AreKept-from : (bytes : List ℕ) → broken bytes ≡ None → AreKept bytes
unfolding broken
AreKept-from bytes e =
    let a = kept-append (frame_rules bytes) (hash_rules bytes ++ (slot_rules bytes ++ text_rules bytes)) e in
    let b = kept-append (hash_rules bytes) (slot_rules bytes ++ text_rules bytes) a.1 in
    let c = kept-append (slot_rules bytes) (text_rules bytes) b.1 in
    record { frame = a.0; hash = b.0; slot = c.0; text = c.1 }
