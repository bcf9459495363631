-- A `&` to the owner of a block's places is made where one to a value is. Assumes `Logic`.
use Prim.Native.Nat.{ℕ, ◌+◌, ◌*◌}
use Rattle.std.specs.Prelude.{List, [], ◌∷◌, length}
use Rattle.std.specs.Mem.{type_size}
use seplogic.Ra.Ura.{Ura}
use base.Fraction.{full_share}
use base.Fml.{Lft, Incl, ftrue, ffalse}
use types.Logic.{Logic}
use types.SemTy.{cells}
use denote.RattleType.{RattleType, RowLaws}
use denote.Memory.{mem, part_at, shared_of}
use denote.Param.Laws.{Laws}
use denote.RawPtr.{Ptr, block_ptr, null_ptr}
use denote.Sharing.{ShrLaws, said}
use denote.SharingLaws.{beside_shr_laws, said_shr_laws}
use denote.Shares.{Shares-less}
use denote.Slice.{elements_shared, elements_shr_laws}
use denote.Struct.Lending.{Lends, Lends-both, Lends-first, Lends-nothing, Lends-said, Lends-false}
use Rattle.pg_rows.specs.Ownership.{rooms, fit, in_block, places_own, places_lend}

pub lend_laws : (R : RattleType) → RowLaws R → (p : Ptr) (items : List R.Denot) (empty : ℕ) → ShrLaws (places_lend R p items empty)
lend_laws R L (block_ptr b o) items empty =
    beside_shr_laws (said (fit R (length items + empty))) (elements_shared R items b o) (said_shr_laws (fit R (length items + empty)) tt) (elements_shr_laws R L items b o)
lend_laws R L null_ptr items empty = said_shr_laws ffalse tt

module _ {M : Type 1} {𝓤 : Ura M} (𝓛 : Logic 𝓤) (l : Lft) (R : RattleType) (L : Laws R) (inc : Incl l R.lives) where
  values_lent : (xs : List R.Denot) (b o : ℕ) → Lends 𝓛 (cells (mem R) xs b o) (elements_shared R xs b o) l
  values_lent [] b o = Lends-nothing 𝓛 ftrue l
  values_lent (x ∷ xs) b o =
      Lends-both 𝓛 (part_at R full_share x b o) (cells (mem R) xs b (o + type_size R)) (shared_of R x b o) (elements_shared R xs b (o + type_size R)) l
      (λ κ ts. Shares-less 𝓛 R R.lives l inc (L.shares 𝓛) x κ ts b o) (values_lent xs b (o + type_size R))

  pub places_lent : (p : Ptr) (items : List R.Denot) (empty : ℕ) → Lends 𝓛 (places_own R p items empty) (places_lend R p items empty) l
  places_lent (block_ptr b o) items empty =
      let small = fit R (length items + empty) in let values = cells (mem R) items b o in
      Lends-both 𝓛 small (in_block R b o items empty) (said small) (elements_shared R items b o) l (Lends-said 𝓛 small tt l)
      (Lends-first 𝓛 values (rooms R b (length items * type_size R + o) empty) (elements_shared R items b o) l (values_lent items b o))
  places_lent null_ptr items empty = Lends-false 𝓛 (said ffalse) l
