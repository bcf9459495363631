-- What the rules on a file of Mach-O images tell of its slices.
use Rattle.std.proofs.Common.{◌≡◌, ℕ, zero, suc, All, ◌+◌, ◌<◌, false, List, [], ◌∷◌, ◌++◌, ◌∙◌, Option, length, take, map, get_or, Some, None, sym, ap, arith}
use Rattle.std.specs.Prelude.{position, is_some, unwrap_or}
use Rattle.std.specs.List.{range_with_len}
use Rattle.std.proofs.lemmas.Bool.Decides.{nat_tests}
use Rattle.std.proofs.lemmas.List.{get_or_default}
use Rattle.std.proofs.lemmas.List.Elements.{All-nil, All-cons}
use Rattle.pg_bytes.specs.declared.fields.Range.{Range}
use Rattle.macho_slices.specs.declared.form.Form.{Form}
use Rattle.macho_slices.specs.declared.form.Form.TheVariants.{Fat}
use Rattle.macho_slices.specs.declared.form.Width.{Width}
use Rattle.macho_slices.specs.declared.refusal.FatRefusal.{FatRefusal}
use Rattle.macho_slices.specs.declared.refusal.FatRefusal.TheVariants.{Overlap}
use Rattle.macho_slices.specs.declared.refusal.FatFail.{FatFail}
use Rattle.macho_slices.specs.declared.refusal.FatFail.TheVariants.{Refused, NoMemory}
use Rattle.macho_slices.specs.Layout.{form_of, count, slice_at, fat_slices}
use Rattle.pg_bytes.specs.Rules.{first}
use Rattle.macho_slices.specs.Rules.{start_rules, table_rules, place_rule, place_rules, overlap_rule, overlap_rules, form_rules, meets, met, broken, Refuses}
use Rattle.macho_slices.specs.Slices.{IsWithin}
use Rattle.pg_bytes.proofs.RuleFacts.{KeptBelow, KeptBelow-next, broken_here, kept-cons, first-append-kept, first-append-broken}

-- the first earlier slice that meets a slice of the list
pub met-found : (slices : List Range) (b : ℕ) (d : Range) → b < length slices → position (λ other. meets other (get_or slices b d)) (take b slices) ≡ met slices b
met-found slices b d lt = ap (λ slice. position (λ other. meets other slice) (take b slices)) (get_or_default slices b d (record { at = 0; len = 0 }) lt)

-- the rule on slice `b` by what a search of the slices before it gave, where it stands at `b` in the list
pub overlap-broken : (slices : List Range) (b : ℕ) (d : Range) (a : ℕ) → KeptBelow (overlap_rule slices) b (length slices) → b < length slices → position (λ other. meets other (get_or slices b d)) (take b slices) ≡ Some a → first (overlap_rules slices) ≡ Some (Overlap a b)
overlap-broken slices b d a known lt e =
    let here : met slices b ≡ Some a = sym (met-found slices b d lt) ∙ e in
    broken_here (overlap_rule slices) b (length slices) known lt (ap is_some here) ∙ ap (λ place. Some (Overlap (unwrap_or place 0) b)) here

pub overlap-kept : (slices : List Range) (b : ℕ) (d : Range) → KeptBelow (overlap_rule slices) b (length slices) → b < length slices → position (λ other. meets other (get_or slices b d)) (take b slices) ≡ None → KeptBelow (overlap_rule slices) (b + 1) (length slices)
overlap-kept slices b d known lt e =
    let here : met slices b ≡ None = sym (met-found slices b d lt) ∙ e in
    KeptBelow-next (overlap_rule slices) b (length slices) known lt (ap is_some here)

-- the first broken rule of a group, where the groups before it are kept, is the first of all
pub broken_by_start : (bytes : List ℕ) (refusal : FatRefusal) → first (start_rules bytes) ≡ Some refusal → broken bytes ≡ Some refusal
unfolding broken
broken_by_start bytes refusal e = first-append-broken (start_rules bytes) (form_rules (form_of bytes) bytes) refusal e

-- what the rules on the file's form answer, where those on its start are kept
pub broken_by_form : (bytes : List ℕ) (form : Option Form) (answer : Option FatRefusal) → first (start_rules bytes) ≡ None → form_of bytes ≡ form → first (form_rules form bytes) ≡ answer → broken bytes ≡ answer
unfolding broken
broken_by_form bytes form answer start known e =
    first-append-kept (start_rules bytes) (form_rules (form_of bytes) bytes) start
    ∙ (ap (λ known. first (form_rules known bytes)) known ∙ e)

-- the rules on a fat file, by the first group that has a broken one
pub by_table : (width : Width) (bytes : List ℕ) (refusal : FatRefusal) → first (table_rules width bytes) ≡ Some refusal → first (form_rules (Some (Fat width)) bytes) ≡ Some refusal
by_table width bytes refusal e =
    first-append-broken (table_rules width bytes) (place_rules width bytes ++ overlap_rules (fat_slices width bytes)) refusal e

pub by_place : (width : Width) (bytes : List ℕ) (refusal : FatRefusal) → first (table_rules width bytes) ≡ None → first (place_rules width bytes) ≡ Some refusal → first (form_rules (Some (Fat width)) bytes) ≡ Some refusal
by_place width bytes refusal table e =
    first-append-kept (table_rules width bytes) (place_rules width bytes ++ overlap_rules (fat_slices width bytes)) table
    ∙ first-append-broken (place_rules width bytes) (overlap_rules (fat_slices width bytes)) refusal e

pub by_overlap : (width : Width) (bytes : List ℕ) (found : List Range) (answer : Option FatRefusal) → first (table_rules width bytes) ≡ None → first (place_rules width bytes) ≡ None → found ≡ fat_slices width bytes → first (overlap_rules found) ≡ answer → first (form_rules (Some (Fat width)) bytes) ≡ answer
by_overlap width bytes found answer table place known e =
    first-append-kept (table_rules width bytes) (place_rules width bytes ++ overlap_rules (fat_slices width bytes)) table
    ∙ (first-append-kept (place_rules width bytes) (overlap_rules (fat_slices width bytes)) place
    ∙ (ap (λ slices. first (overlap_rules slices)) (sym known) ∙ e))

-- the refusal of a slice's place, where the rules before it are kept
pub Refuses-place : (width : Width) (bytes : List ℕ) (fail : FatFail) → first (start_rules bytes) ≡ None → form_of bytes ≡ Some (Fat width) → first (table_rules width bytes) ≡ None → Refuses (first (place_rules width bytes)) fail → Refuses (broken bytes) fail
Refuses-place width bytes (Refused refusal) start form table e =
    broken_by_form bytes (Some (Fat width)) (Some refusal) start form (by_place width bytes refusal table e)
Refuses-place width bytes NoMemory start form table e = tt

-- a slice that does not end behind the file
within-from : (width : Width) (bytes : List ℕ) (i : ℕ) → (place_rule width bytes i).0 ≡ false → IsWithin bytes (slice_at width bytes i)
within-from width bytes i e = grind (arith, nat_tests)

-- each slice ends within the file, where all places are kept
numbered-within : (width : Width) (bytes : List ℕ) (a n : ℕ) → first (map (place_rule width bytes) (range_with_len a n)) ≡ None → All (IsWithin bytes) (map (slice_at width bytes) (range_with_len a n))
numbered-within width bytes a zero kept = All-nil (IsWithin bytes)
numbered-within width bytes a (suc n) kept =
    let parts = kept-cons (place_rule width bytes a) (map (place_rule width bytes) (range_with_len (a + 1) n)) kept in
    All-cons (IsWithin bytes) (slice_at width bytes a) (map (slice_at width bytes) (range_with_len (a + 1) n))
    (within-from width bytes a parts.0)
    (numbered-within width bytes (a + 1) n parts.1)

pub slices-within : (width : Width) (bytes : List ℕ) (found : List Range) → first (place_rules width bytes) ≡ None → found ≡ fat_slices width bytes → All (IsWithin bytes) found
slices-within width bytes found kept e = rw e (numbered-within width bytes 0 (count bytes) kept)

-- a thin file is within itself
pub whole-within : (bytes : List ℕ) (found : List Range) → found ≡ record { at = 0; len = length bytes } ∷ [] → All (IsWithin bytes) found
whole-within bytes found e = rw e (All-cons (IsWithin bytes) (record { at = 0; len = length bytes }) [] (omega arith) (All-nil (IsWithin bytes)))
