-- How the parts of a block belong together: where it starts, its places, and the right to hand it back.
use Rattle.std.specs.Prelude.{ℕ, ◌≡◌, ◌+◌, ◌<◌, [], ◌∷◌, ◌++◌, length}
use Rattle.pg_rows.specs.declared.places.Start.{Start}
use Rattle.pg_rows.specs.declared.places.Places.{Places}
use Rattle.pg_rows.specs.declared.places.Release.{Release}

-- They speak of one block of so many places, from this allocator.
pub record IsBlock {X A : Type 0} (start : Start X) (places : Places X) (release : Release X A) (len : ℕ) (alloc : A) : Type 0 where
  pub at : places.at ≡ start.ptr
  pub long : length places.items + places.empty ≡ len
  pub released_at : release.at ≡ start.ptr
  pub released : release.len ≡ len
  pub by : release.alloc ≡ alloc

-- the same, and no place is filled
pub record IsNewBlock {X A : Type 0} (start : Start X) (places : Places X) (release : Release X A) (len : ℕ) (alloc : A) : Type 0 where
  pub block : IsBlock start places release len alloc
  pub none : places.items ≡ []

-- the same, and each place is filled
pub record IsRow {X A : Type 0} (start : Start X) (places : Places X) (release : Release X A) (len : ℕ) (alloc : A) : Type 0 where
  pub block : IsBlock start places release len alloc
  pub full : places.empty ≡ 0

-- The block starts here, so many places of it are filled, and there is another.
pub record CanPush {X : Type 0} (start : Start X) (places : Places X) (filled : ℕ) : Type 0 where
  pub at : start.ptr ≡ places.at
  pub count : filled ≡ length places.items
  pub some : 0 < places.empty

-- One more place is filled, by this value.
pub record IsPushed {X : Type 0} (old : Places X) (value : X) (new : Places X) : Type 0 where
  pub at : new.at ≡ old.at
  pub items : new.items ≡ old.items ++ value ∷ []
  pub empty : new.empty + 1 ≡ old.empty
