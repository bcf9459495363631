-- The rules that a code directory keeps, and the first of them that a text breaks. Each speaks of the whole
-- text. What the accepted profile leaves out are other versions than 0x20000 to 0x2ffff, hash pages of another
-- size than 4,096 or 16,384 bytes, and scatter vectors.
-- Source: `CS_CodeDirectory` in XNU's `cs_blobs.h` and its checks in `ubc_subr.c`.
use Rattle.std.specs.Prelude.{◌≡◌, ℕ, ◌+◌, ◌*◌, ◌≤◌, Bool, not, ◌&&◌, ◌||◌, List, [], ◌∷◌, ◌++◌, length, drop, Option, None, is_none, position, nat_lt, nat_le, ◌==◌}
use Rattle.pg_bytes.specs.Rules.{Rule, first}
use Rattle.pg_digest.specs.Kinds.{kind_numbered, size_of}
use Rattle.cs_directory.specs.HashPages.{page_numbered}
use Rattle.cs_directory.specs.declared.refusal.DirRefusal.{DirRefusal}
use Rattle.cs_directory.specs.declared.refusal.DirRefusal.TheVariants.{Short, BadMagic, LengthBad, Version, PageSize, HashType, HashSize, SlotsOut, Scatter, IdentBad, TeamBad}
use Rattle.cs_directory.specs.Layout.{magic, length_field, version, hash_offset, ident_offset, special_slots, code_slots, hash_size, hash_type, page_bits, scatter_offset, team_offset, header_length, kind, blob_bytes}

-- whether the place is past the directory's end, or no zero byte stands from it to that end
abbrev pub lacks_text : List ℕ → ℕ → Bool
lacks_text bytes at =
    nat_le (length_field bytes) at || is_none (position (λ b. b == 0) (drop at (blob_bytes bytes)))

-- whether the special slots begin before the directory, or the code slots end behind it
abbrev pub slots_are_out : List ℕ → Bool
slots_are_out bytes =
    nat_lt (hash_offset bytes) (special_slots bytes * hash_size bytes)
    || nat_lt (length_field bytes) (hash_offset bytes + code_slots bytes * hash_size bytes)

-- on the blob: its size, magic, length and version
abbrev pub frame_rules : List ℕ → List (Rule DirRefusal)
frame_rules bytes =
    (nat_lt (length bytes) 44, Short)
    ∷ (not (magic bytes == 0xfade0c02), BadMagic)
    ∷ (nat_lt (length_field bytes) 44 || nat_lt (length bytes) (length_field bytes), LengthBad)
    ∷ (nat_lt (version bytes) 0x20000 || nat_lt 0x2ffff (version bytes), Version (version bytes))
    ∷ (nat_lt (length_field bytes) (header_length (version bytes)), LengthBad)
    ∷ []

-- on how pages are hashed
abbrev pub hash_rules : List ℕ → List (Rule DirRefusal)
hash_rules bytes =
    (is_none (page_numbered (page_bits bytes)), PageSize (page_bits bytes))
    ∷ (is_none (kind_numbered (hash_type bytes)), HashType (hash_type bytes))
    ∷ (not (hash_size bytes == size_of (kind bytes)), HashSize (hash_size bytes))
    ∷ []

-- on where the slots lie
abbrev pub slot_rules : List ℕ → List (Rule DirRefusal)
slot_rules bytes =
    (slots_are_out bytes, SlotsOut)
    ∷ (nat_le 0x20100 (version bytes) && not (scatter_offset bytes == 0), Scatter)
    ∷ []

-- on the identifiers
abbrev pub text_rules : List ℕ → List (Rule DirRefusal)
text_rules bytes =
    (lacks_text bytes (ident_offset bytes), IdentBad)
    ∷ (nat_le 0x20200 (version bytes) && not (team_offset bytes == 0) && lacks_text bytes (team_offset bytes), TeamBad)
    ∷ []

-- all rules in their order
abbrev pub rules : List ℕ → List (Rule DirRefusal)
rules bytes = frame_rules bytes ++ (hash_rules bytes ++ (slot_rules bytes ++ text_rules bytes))

-- the refusal of the first rule that the text breaks, or none where it is a code directory
unfoldable pub broken : List ℕ → Option DirRefusal
broken bytes = first (rules bytes)

-- Where the first rules are kept, the header lies within the directory, and the directory within the text.
pub record IsFramed (bytes : List ℕ) : Type 0 where
  pub kept : first (frame_rules bytes) ≡ None
  pub header : header_length (version bytes) ≤ length_field bytes
  pub fixed : 44 ≤ length_field bytes
  pub within : length_field bytes ≤ length bytes
