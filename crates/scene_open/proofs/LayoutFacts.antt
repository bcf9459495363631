-- The slices of a layout lie in the file that it is of.
use Rattle.std.proofs.Common.{◌≡◌, ℕ, zero, suc, ◌+◌, ◌≤◌, cond, Bool, true, false, ltb, List, [], ◌++◌, length, drop, Option, Some, None, refl, ap, ◌∙◌, arith}
use Rattle.std.specs.Prelude.{All, is_none}
use Rattle.std.specs.List.{range_with_len}
use Rattle.std.proofs.lemmas.List.{length-take-le, length-drop, length-map}
use Rattle.std.proofs.lemmas.List.Elements.{All-nil, All-cons, All-map, All-weaker}
use Rattle.std.proofs.lemmas.Bool.Decides.{nat_tests}
use Rattle.pg_bytes.specs.declared.fields.Range.{Range}
use Rattle.pg_bytes.specs.Ranges.{bytes_in}
use Rattle.pg_bytes.specs.Rules.{first}
use Rattle.pg_bytes.proofs.RuleFacts.{kept-append}
use Rattle.macho_slices.specs.declared.form.Form.{Form}
use Rattle.macho_slices.specs.declared.form.Form.TheVariants.{Thin, Fat}
use Rattle.macho_slices.specs.declared.form.Width.{Width}
use Rattle.macho_slices.specs.declared.refusal.FatRefusal.{FatRefusal}
use Rattle.macho_slices.specs.declared.refusal.FatRefusal.TheVariants.{Short, TooMany}
use Rattle.macho_slices.specs.Layout.{form_of, count, table_end, slice_at, fat_slices, slices_by}
use Rattle.macho_slices.specs.Rules as fat
use Rattle.macho_slices.specs.Rules.{start_rules, table_rules, place_rules, overlap_rules, form_rules}
use Rattle.macho_slices.specs.Slices.{IsWithin}
use Rattle.macho_slices.proofs.SliceFacts.{slices-within, whole-within}
use Rattle.macho_cmds.specs.declared.refusal.MachRefusal.{MachRefusal}
use Rattle.macho_cmds.specs.declared.refusal.MachRefusal.TheVariants.{NoSignature, SignatureOutOfSlice}
use Rattle.macho_cmds.specs.Images.{image_of}
use Rattle.macho_cmds.specs.Rules as macho
use Rattle.cs_policy.specs.declared.layout.SliceSeat.TheVariants as seat
use Rattle.macho_cmds.specs.Refusals as macho_refusals
use Rattle.scene_open.specs.Layouts.{seat_by, seat_in, laid_by, macho_layout, raw_seat, raw_layout, IsSeated, IsLaid}

-- ---- slices

three_kept : {A : Type 0} (t1 t2 t3 : Bool) (x1 x2 x3 : A) → cond t1 (Some x1) (cond t2 (Some x2) (cond t3 (Some x3) None)) ≡ None → t2 ≡ false
three_kept true t2 t3 x1 x2 x3 e = absurd cc
three_kept false true t3 x1 x2 x3 e = absurd cc
three_kept false false t3 x1 x2 x3 e = refl

at_most : (limit n : ℕ) → ltb limit n ≡ false → n ≤ limit
at_most limit n e = grind (arith, nat_tests)

few_slices : (width : Width) (bytes : List ℕ) → first (table_rules width bytes) ≡ None → count bytes ≤ 32
few_slices width bytes kept =
    at_most 32 (count bytes) (three_kept (ltb (length bytes) 8) (ltb 32 (count bytes)) (ltb (length bytes) (table_end width bytes)) Short (TooMany (count bytes)) Short kept)

record AreSlices (bytes : List ℕ) (slices : List Range) : Type 0 where
  pub few : length slices ≤ 32
  pub inside : All (IsWithin bytes) slices

length-range : (a n : ℕ) → length (range_with_len a n) ≡ n
length-range a zero = refl
length-range a (suc n) = ap suc (length-range (a + 1) n)

slices_form : (form : Option Form) (bytes : List ℕ) → first (form_rules form bytes) ≡ None → AreSlices bytes (slices_by form bytes)
slices_form None bytes kept = record { few = omega arith; inside = All-nil (IsWithin bytes) }
slices_form (Some Thin) bytes kept = record { few = omega arith; inside = whole-within bytes _ refl }
slices_form (Some (Fat width)) bytes kept =
    let a = kept-append (table_rules width bytes) (place_rules width bytes ++ overlap_rules (fat_slices width bytes)) kept in
    let b = kept-append (place_rules width bytes) (overlap_rules (fat_slices width bytes)) a.1 in
    let few = few_slices width bytes a.0 in
    let many = length-map (range_with_len 0 (count bytes)) (slice_at width bytes) ∙ length-range 0 (count bytes) in
    record { few = omega arith; inside = slices-within width bytes (fat_slices width bytes) b.0 refl }

slices_lie : (bytes : List ℕ) → fat.broken bytes ≡ None → AreSlices bytes (slices_by (form_of bytes) bytes)
unfolding fat.broken
slices_lie bytes kept = slices_form (form_of bytes) bytes (kept-append (start_rules bytes) (form_rules (form_of bytes) bytes) kept).1

-- ---- signatures

length-range_bytes : (bytes : List ℕ) (slice : Range) → IsWithin bytes slice → length (bytes_in bytes slice) ≡ slice.len
unfolding bytes_in
length-range_bytes bytes slice inside =
    let d = length-drop slice.at bytes in
    length-take-le slice.len (drop slice.at bytes) (omega arith)

two_kept : {A : Type 0} (t1 t2 : Bool) (x1 x2 : A) → cond t1 (Some x1) (cond t2 (Some x2) None) ≡ None → t2 ≡ false
two_kept true t2 x1 x2 e = absurd cc
two_kept false true x1 x2 e = absurd cc
two_kept false false x1 x2 e = refl

sig_kept : (start : ℕ) (bytes : List ℕ) → first (macho.rules start bytes) ≡ None → (macho.signature bytes).at + (macho.signature bytes).len ≤ length bytes
sig_kept start bytes kept =
    let a = kept-append (macho.header_rules start bytes) (macho.command_rules bytes ++ macho.signature_rules bytes) kept in
    let b = kept-append (macho.command_rules bytes) (macho.signature_rules bytes) a.1 in
    at_most (length bytes) _ (two_kept (is_none (macho.signature_place bytes)) (ltb (length bytes) ((macho.signature bytes).at + (macho.signature bytes).len)) NoSignature SignatureOutOfSlice b.1)

sig_lies : (file : List ℕ) (slice : Range) → IsWithin file slice → macho.broken file slice ≡ None
    → (image_of (bytes_in file slice)).sig.at + (image_of (bytes_in file slice)).sig.len ≤ slice.len
unfolding macho.broken image_of
sig_lies file slice inside kept =
    let len = length-range_bytes file slice inside in
    omega (arith, len, sig_kept slice.at (bytes_in file slice) kept)

seated_by : (file : List ℕ) (slice : Range) (refusal : Option MachRefusal) → IsWithin file slice → macho.broken file slice ≡ refusal
    → IsSeated (length file) (seat_by slice refusal (image_of (bytes_in file slice)).sig)
seated_by file slice (Some refusal) inside is = tt
seated_by file slice None inside is = let s = sig_lies file slice inside is in (inside, omega arith)

seated : (file : List ℕ) (slice : Range) → IsWithin file slice → IsSeated (length file) (seat_in file slice)
unfolding seat_in
seated file slice inside = seated_by file slice (macho.broken file slice) inside refl

laid : (file : List ℕ) (refusal : Option FatRefusal) → fat.broken file ≡ refusal → IsLaid (length file) (laid_by file refusal)
laid file (Some refusal) is = tt
laid file None is =
    let s = slices_lie file is in
    let many = length-map (slices_by (form_of file) file) (seat_in file) in
    (omega arith, All-map (IsSeated (length file)) (seat_in file) (slices_by (form_of file) file) (All-weaker (IsWithin file) (λ slice. IsSeated (length file) (seat_in file slice)) (λ slice inside. seated file slice inside) (slices_by (form_of file) file) s.inside))

-- ---- whole files

pub macho_laid : (file : List ℕ) → IsLaid (length file) (macho_layout file)
unfolding macho_layout
macho_laid file = laid file (fat.broken file) refl

raw_seated_by : (size : ℕ) (sig : Range) (t : Bool) → ltb size (sig.at + sig.len) ≡ t
    → IsSeated size (cond t (seat.Refused (macho_refusals.refusal_of SignatureOutOfSlice)) (seat.Signed (record { at = 0; len = size }) sig))
raw_seated_by size sig true past = tt
raw_seated_by size sig false past = (omega arith, at_most size _ past)

raw_seated : (size : ℕ) (sig : Range) → IsSeated size (raw_seat size sig)
raw_seated size sig = raw_seated_by size sig (ltb size (sig.at + sig.len)) refl

pub raw_laid : (file : List ℕ) (sig : Range) → IsLaid (length file) (raw_layout file sig)
raw_laid file sig = (omega arith, All-cons (IsSeated (length file)) (raw_seat (length file) sig) [] (raw_seated (length file) sig) (All-nil (IsSeated (length file))))
