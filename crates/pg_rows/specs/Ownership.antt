-- What the owner of a block's places owns and lends, at values of the row R. The block is `length items + empty`
-- places long; its bytes are fewer than 2 ^ 63.
use Rattle.std.specs.Prelude.{ℕ, zero, suc, ◌+◌, ◌*◌, ◌^◌, List, length}
use Rattle.std.specs.Mem.{type_size}
use base.Fml.{Lft, Fml, ftrue, ffalse, fsep, flt, froom}
use mir.Syntax.{Ty, ty_array}
use mir.Raw.{raw}
use types.SemTy.{cells}
use denote.RattleType.{RattleType}
use denote.Memory.{lone, mem}
use denote.Slice.{elements_shared}
use denote.Sharing.{said, beside}
use denote.RawPtr.{Ptr, block_ptr, null_ptr}

module _ (R : RattleType) where
  -- room for n values, from o bytes into the block b on
  abbrev pub rooms : ℕ → ℕ → ℕ → Fml
  rooms b o zero = ftrue
  rooms b o (suc n) = fsep (froom (raw (lone R.mir)) b o) (rooms b (o + type_size R) n)

  -- so many places fit a block
  abbrev pub fit : ℕ → Fml
  fit n = flt (n * type_size R) (2 ^ 63)

  -- the values, and behind them the empty places
  abbrev pub in_block : ℕ → ℕ → List R.Denot → ℕ → Fml
  in_block b o items empty = fsep (cells (mem R) items b o) (rooms b (length items * type_size R + o) empty)

  abbrev pub places_own : Ptr → List R.Denot → ℕ → Fml
  places_own (block_ptr b o) items empty = fsep (fit (length items + empty)) (in_block b o items empty)
  places_own null_ptr items empty = ffalse

  -- a `&` to the owner reaches the values alone
  abbrev pub places_lend : Ptr → List R.Denot → ℕ → Lft → Fml
  places_lend (block_ptr b o) items empty = beside (said (fit (length items + empty))) (elements_shared R items b o)
  places_lend null_ptr items empty = said ffalse

  -- the allocator's token for a block of n places
  abbrev pub release_owns : (Ty → Ptr → Fml) → Ptr → ℕ → Fml
  release_owns token p n = token (raw (ty_array (lone R.mir) n)) p
