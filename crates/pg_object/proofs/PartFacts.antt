-- The write of one page is that of the part of the data that lies on it.
use Rattle.std.proofs.Common.{◌≡◌, ℕ, ◌+◌, ◌-◌, ◌*◌, List, length, take, drop, replicate, sym, ap, subst, ◌∙◌, arith}
use Rattle.std.specs.Prelude.{Result, min}
use Rattle.std.proofs.lemmas.Grind.{common_steps}
use Rattle.cs_policy.specs.Data.{data_bytes}
use Rattle.cs_policy.specs.declared.data.Data.{Data}
use Rattle.cs_policy.specs.declared.data.Data.TheVariants.{Hex, Fill}
use Rattle.pg_cache.specs.Cache.{CacheNow}
use Rattle.pg_cache.specs.Gives.{WriteGives}
use Rattle.pg_cache.specs.declared.fault.PagerFault.{PagerFault}
use Rattle.pg_object.specs.declared.write.Part.{Part}
use Rattle.pg_object.specs.Writes.{offset_on, part_on}
use Rattle.pg_object.proofs.ReachFacts.{part_is, part_filled}

-- what is known of the part
pub record IsPart (size at count page : ℕ) (part : Part) : Type 0 where
  pub offset : part.offset ≡ offset_on size at page
  pub start : part.start ≡ page * size - at
  pub stop : part.stop ≡ part.start + min (count - part.start) (size - part.offset)

module _ (old new : CacheNow) (at page : ℕ) (result : Result (Unit {0}) PagerFault) (piece : Data) (count : ℕ) (part : Part)
    (counted : count ≡ length (data_bytes piece)) (is : IsPart old.pager.page_size at count page part) where
  pub gives_bytes : (bytes : List ℕ) → piece ≡ Hex bytes → WriteGives old page part.offset (take (part.stop - part.start) (drop part.start bytes)) result new
      → WriteGives old page (offset_on old.pager.page_size at page) (part_on old.pager.page_size at (data_bytes piece) page) result new
  gives_bytes bytes e gives =
      let same : data_bytes piece ≡ bytes = ap data_bytes e in
      let long : count ≡ length bytes = counted ∙ ap length same in
      let is_part = part_is old.pager.page_size at page bytes part.offset part.start part.stop is.offset is.start (is.stop ∙ ap (λ n. part.start + min (n - part.start) (old.pager.page_size - part.offset)) long) in
      subst (λ o. WriteGives old page o (part_on old.pager.page_size at (data_bytes piece) page) result new) is.offset
      (subst (λ b. WriteGives old page part.offset b result new) (sym (ap (λ b. part_on old.pager.page_size at b page) same ∙ is_part)) gives)

  pub gives_filled : (byte n : ℕ) → piece ≡ Fill byte n → WriteGives old page part.offset (replicate (part.stop - part.start) byte) result new
      → WriteGives old page (offset_on old.pager.page_size at page) (part_on old.pager.page_size at (data_bytes piece) page) result new
  gives_filled byte n e gives =
      let same : data_bytes piece ≡ replicate n byte = ap data_bytes e in
      let long : length (replicate n byte) ≡ n = grind (arith, common_steps) in
      let all : count ≡ n = counted ∙ ap length same ∙ long in
      let is_part = part_filled old.pager.page_size at page n byte part.offset part.start part.stop is.offset is.start (is.stop ∙ ap (λ m. part.start + min (m - part.start) (old.pager.page_size - part.offset)) all) in
      subst (λ o. WriteGives old page o (part_on old.pager.page_size at (data_bytes piece) page) result new) is.offset
      (subst (λ b. WriteGives old page part.offset b result new) (sym (ap (λ b. part_on old.pager.page_size at b page) same ∙ is_part)) gives)
