-- A `&` to the owner of the places reaches each value. Assumes `Logic`.
use mathlib.Core.List.{[], ◌++◌}
use base.Fml.{Incl-trans}
use contract.BorrowLft.{meet_⊑_left}
use denote.RattleType.{RattleType}
use denote.RawPtr.{RawPtr}
use denote.Param.Laws.{Laws}
use denote.Param.Shared.{copy_shared}
use denote.Struct.Laws.{field_copy}
use denote.Struct.Lending.{of_Lends}
use Rattle.core.specs.contracts.marker.PhantomData as marker
use Rattle.pg_rows.specs.contracts.places.Places as P
use Rattle.pg_rows.proofs.places.Places.TheLaw.Statement.{statement}
use Rattle.pg_rows.proofs.Sharing.{lend_laws, places_lent}

pub shares : (R : RattleType) (L : Laws R) → statement R L
shares R L =
    of_Lends (P.struct R) (P.the_codes R.Denot R.coded (marker.the_row RawPtr).coded) (P.the_heap R) (P.the_lent R) (λ d p. lend_laws R L.shr_laws d.at d.items d.empty)
    (copy_shared (marker.the_field RawPtr) (field_copy (marker.the_type RawPtr) tt), tt)
    (λ M 𝓤 𝓛 d p. places_lent 𝓛 (P.the_row R).lives R L (Incl-trans (meet_⊑_left (R.lives ++ []) _) (meet_⊑_left R.lives [])) d.at d.items d.empty)
