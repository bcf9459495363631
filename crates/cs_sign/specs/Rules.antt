-- The rules that a file keeps that is to be signed, with what it is to be signed with, and the first of them that is
-- broken. Each speaks of the whole file.
-- Source: `mach-o/loader.h`; the rules are this repository's own profile.
use Rattle.std.specs.Prelude.{◌≡◌, ℕ, ◌+◌, ◌≤◌, Bool, false, not, ◌&&◌, ◌||◌, List, [], ◌∷◌, ◌++◌, length, map, Option, Some, None, is_none, nat_lt, ◌==◌}
use Rattle.std.specs.List.{list_any, range_with_len}
use Rattle.std.specs.Option.{option_or, option_map}
use Rattle.pg_bytes.specs.Rules.{Rule, first}
use Rattle.pg_bytes.specs.declared.fields.Range.{Range}
use Rattle.macho_cmds.specs.declared.segment.Segment.{Segment}
use Rattle.macho_cmds.specs.declared.mach_image.Image.{Image}
use Rattle.macho_cmds.specs.Layout.{commands_end}
use Rattle.macho_cmds.specs.Images.{image_of}
use Rattle.macho_cmds.specs.Rules as macho
use Rattle.cs_sign.specs.declared.refusal.SignRefusal.{SignRefusal}
use Rattle.cs_sign.specs.declared.refusal.SignRefusal.TheVariants.{Mach, SegmentPast, LinkeditBad, SignatureNotLast, IdentBad, EntitlementsLong, TooLarge}
use Rattle.cs_sign.specs.Plans.{linkedit_place, linkedit_of, segment_of, end_of}
use Rattle.cs_sign.specs.Requests.{Request, IsModest, entitlements_length, data_size}

-- whether a place is that of the first segment named `__LINKEDIT`
abbrev pub is_first : Option ℕ → ℕ → Bool
is_first None index = false
is_first (Some place) index = place == index

-- on where segment `index` ends: not behind the bytes that are signed, unless it stands at the place
abbrev pub past_rule : List Segment → Option ℕ → ℕ → ℕ → Rule SignRefusal
past_rule segments place limit index =
    (not (is_first place index) && nat_lt limit (end_of (segment_of segments index)), SegmentPast index)

-- on where the segments end, in their order
abbrev pub past_rules : List Segment → Option ℕ → ℕ → List (Rule SignRefusal)
past_rules segments place limit = map (past_rule segments place limit) (range_with_len 0 (length segments))

-- whether there is no `__LINKEDIT`, or the first one begins behind the bytes that are signed, or it does not end where
-- the file ends
abbrev pub is_bad_linkedit : Image → ℕ → Bool
is_bad_linkedit image length =
    is_none (linkedit_place image.segments)
    || (nat_lt image.sig.at (linkedit_of image.segments).fileoff || not (end_of (linkedit_of image.segments) == length))

-- whether the signature does not end where the file ends, or begins before the load commands end
abbrev pub is_not_last : Image → ℕ → ℕ → Bool
is_not_last image length commands_end =
    not (image.sig.at + image.sig.len == length) || nat_lt image.sig.at commands_end

-- on where `__LINKEDIT` and the signature lie
abbrev pub place_rules : Image → ℕ → ℕ → List (Rule SignRefusal)
place_rules image length commands_end =
    (is_bad_linkedit image length, LinkeditBad)
    ∷ (is_not_last image length commands_end, SignatureNotLast)
    ∷ []

-- whether an identifier is empty, has more than 255 bytes, or has a zero byte
abbrev pub is_bad_ident : List ℕ → Bool
is_bad_ident ident = (length ident == 0) || (nat_lt 255 (length ident) || list_any (λ b. b == 0) ident)

-- on what is asked, where so many bytes are signed
abbrev pub request_rules : Request → ℕ → List (Rule SignRefusal)
request_rules request limit =
    (is_bad_ident request.ident, IdentBad)
    ∷ (nat_lt 65536 (entitlements_length request), EntitlementsLong (entitlements_length request))
    ∷ (nat_lt 67108864 (limit + data_size request limit), TooLarge)
    ∷ []

-- on an image in a file of so many bytes whose load commands end at a place, and on what is asked
abbrev pub own_rules : Image → ℕ → ℕ → Request → List (Rule SignRefusal)
own_rules image length commands_end request =
    past_rules image.segments (linkedit_place image.segments) image.sig.at
    ++ (place_rules image length commands_end ++ request_rules request image.sig.at)

-- the file as one slice
abbrev pub whole : List ℕ → Range
whole bytes = record { at = 0; len = length bytes }

-- the refusal of the first rule that is broken, or none where the file can be signed so
unfoldable pub broken : List ℕ → Request → Option SignRefusal
broken bytes request =
    option_or (option_map Mach (macho.broken bytes (whole bytes)))
    (first (own_rules (image_of bytes) (length bytes) (commands_end bytes) request))

-- The rules on what is asked are kept: the signed file has no more than 67,108,864 bytes.
pub record IsSized (request : Request) (limit : ℕ) : Type 0 where
  pub modest : IsModest request
  pub some : list_any (λ b. b == 0) request.ident ≡ false
  pub within : limit + data_size request limit ≤ 67108864
