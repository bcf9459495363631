-- The rules that a trust cache of version 1 or 2 keeps, and the first of them that a text breaks. Each speaks of the
-- whole text.
-- Source: `trust_cache_module1` in XNU's `trustcache.h` for version 1. That the length is exact, the entries are in order and
-- at most 65,536 are taken is the accepted profile.
use Rattle.std.specs.Prelude.{◌≡◌, ℕ, ◌-◌, ◌≤◌, Bool, not, ◌&&◌, ◌||◌, List, [], ◌∷◌, ◌++◌, length, Option, Some, None, is_some, unwrap_or, position, slice_index_or, nat_lt, ◌==◌}
use Rattle.std.specs.List.{range_with_len}
use Rattle.std.specs.Ordering.{is_lt}
use Rattle.pg_bytes.specs.Rules.{Rule, first}
use Rattle.cs_trust.specs.declared.entries.Entry.{Entry}
use Rattle.cs_trust.specs.declared.refusal.TrustRefusal.{TrustRefusal}
use Rattle.cs_trust.specs.declared.refusal.TrustRefusal.TheVariants.{Short, Version, LengthBad, NotSorted, TooMany}
use Rattle.cs_trust.specs.declared.refusal.TrustFail.{TrustFail}
use Rattle.cs_trust.specs.declared.refusal.TrustFail.TheVariants.{Refused, NoMemory}
use Rattle.cs_trust.specs.Order.{order, cdhashes_of}
use Rattle.cs_trust.specs.Layout.{version, count, entry_place, entries}

-- whether the cdhash at a place is less than the one before
abbrev pub falls : List (List ℕ) → ℕ → Bool
falls cdhashes place =
    nat_lt 0 place && is_lt (order (slice_index_or cdhashes place []) (slice_index_or cdhashes (place - 1) []))

-- the first place, counted from 0, at which a cdhash is less than the one before
unfoldable pub first_fall : List (List ℕ) → Option ℕ
first_fall cdhashes = position (falls cdhashes) (range_with_len 0 (length cdhashes))

-- on the header and the length
abbrev pub frame_rules : List ℕ → List (Rule TrustRefusal)
frame_rules bytes =
    (nat_lt (length bytes) 24, Short)
    ∷ (not (version bytes == 1 || version bytes == 2), Version (version bytes))
    ∷ (nat_lt 65536 (count bytes), TooMany)
    ∷ (not (length bytes == entry_place (version bytes) (count bytes)), LengthBad)
    ∷ []

-- on the order of the entries
abbrev pub order_rules : List (List ℕ) → List (Rule TrustRefusal)
order_rules cdhashes = (is_some (first_fall cdhashes), NotSorted (unwrap_or (first_fall cdhashes) 0)) ∷ []

-- the refusal of the first rule that the text breaks, or none where it is a trust cache
unfoldable pub broken : List ℕ → Option TrustRefusal
broken bytes = first (frame_rules bytes ++ order_rules (cdhashes_of (entries bytes)))

-- The bytes are a trust cache, and these are its entries.
pub record IsModule (bytes : List ℕ) (found : List Entry) : Type 0 where
  pub unbroken : broken bytes ≡ None
  pub listed : found ≡ entries bytes

-- The header says this, and the bytes are as many as it says.
pub record IsFramed (bytes : List ℕ) (given number : ℕ) : Type 0 where
  pub version : given ≡ version bytes
  pub count : number ≡ count bytes
  pub limit : number ≤ 65536
  pub length : length bytes ≡ entry_place given number

-- why no module was made of the bytes: their first broken rule, or want of memory, which is tied to nothing
abbrev pub IsCause : List ℕ → TrustFail → Type 0
IsCause bytes (Refused refusal) = broken bytes ≡ Some refusal
IsCause bytes NoMemory = Unit {0}
