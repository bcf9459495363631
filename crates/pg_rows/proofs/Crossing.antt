-- The owner of a block's places may cross threads as its values may, and the right to free it as its allocator may.
use Rattle.std.specs.Prelude.{ℕ, zero, suc, ◌+◌, ◌*◌, List, [], ◌∷◌, length}
use Rattle.std.specs.Mem.{type_size}
use base.Fraction.{full_share}
use base.Shift.{Keyless}
use types.SemTy.{cells}
use denote.RattleType.{RattleType}
use denote.Memory.{mem}
use denote.RawPtr.{Ptr, block_ptr, null_ptr}
use denote.Slice.{elements_shared}
use denote.Struct.Struct.{exits_of}
use denote.Struct.Owning.{shape, fields, to}
use denote.Param.Send.{IsSend, IsSync, Common, AllSend, part_keyless, owning_send, struct_send, struct_sync, sendable}
use Rattle.core.specs.declared.alloc.Allocator.{Ghosts}
use Rattle.std_alloc.proofs.SendSync.{FreesAnywhere, quiet}
use Rattle.pg_rows.specs.Ownership.{rooms, places_own, places_lend}
use Rattle.pg_rows.specs.contracts.places.Places as Places
use Rattle.pg_rows.specs.contracts.places.Release as Release

module _ (R : RattleType) where
  rooms-keyless : (n b o : ℕ) → Keyless (rooms R b o n)
  rooms-keyless zero b o = tt
  rooms-keyless (suc n) b o = (tt, rooms-keyless n b (o + type_size R))

  values-keyless : IsSend R → (xs : List R.Denot) (b o : ℕ) → Keyless (cells (mem R) xs b o)
  values-keyless s [] b o = tt
  values-keyless s (x ∷ xs) b o = (part_keyless R s full_share x b o, values-keyless s xs b (o + type_size R))

  own-keyless : IsSend R → (p : Ptr) (items : List R.Denot) (empty : ℕ) → Keyless (places_own R p items empty)
  own-keyless s (block_ptr b o) items empty = (tt, (values-keyless s items b o, rooms-keyless empty b (length items * type_size R + o)))
  own-keyless s null_ptr items empty = tt

  values-common : IsSync R → (xs : List R.Denot) (b o : ℕ) → Common (elements_shared R xs b o)
  values-common y [] b o κ = tt
  values-common y (x ∷ xs) b o κ = (y.shared x b o κ, values-common y xs b (o + type_size R) κ)

  lend-common : IsSync R → (p : Ptr) (items : List R.Denot) (empty : ℕ) → Common (places_lend R p items empty)
  lend-common y (block_ptr b o) items empty κ = (tt, values-common y items b o κ)
  lend-common y null_ptr items empty κ = tt

  pub places-send : IsSend R → IsSend (Places.the_row R)
  places-send s =
      let O = Places.the_type R in let all : AllSend (fields O) = (search sendable, tt) in
      owning_send O all (λ p. own-keyless s p.at p.items p.empty) (λ k. quiet (to O) (exits_of k (fields O)) ((struct_send (shape O) all).leaving k))

  pub places-sync : IsSync R → IsSync (Places.the_row R)
  places-sync y = let O = Places.the_type R in
      record { shared = λ p b o κ. ((struct_sync (shape O) (search sendable, tt)).shared (to O p) b o κ, lend-common y p.at p.items p.empty κ) }

  module _ (A : RattleType) (g : Ghosts A.Denot) where
    pub release-send : FreesAnywhere A.Denot g → IsSend (Release.the_row R A g)
    release-send f =
        let O = Release.the_type R A g in let all : AllSend (fields O) = (search sendable, tt) in
        owning_send O all (λ r. f.frees r.alloc _ r.at) (λ k. quiet (to O) (exits_of k (fields O)) ((struct_send (shape O) all).leaving k))

    pub release-sync : IsSync (Release.the_row R A g)
    release-sync = let O = Release.the_type R A g in
        record { shared = λ r b o κ. ((struct_sync (shape O) (search sendable, tt)).shared (to O r) b o κ, tt) }
