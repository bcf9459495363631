-- The refusals of a signature: their numbers.
use Rattle.std.specs.Prelude.{ℕ}
use Rattle.cs_policy.specs.declared.refusal.Refusal.{Refusal}
use Rattle.cs_superblob.specs.Refusals as index
use Rattle.cs_directory.specs.Refusals as directory
use Rattle.cs_blob.specs.declared.refusal.BlobRefusal.{BlobRefusal}
use Rattle.cs_blob.specs.declared.refusal.BlobRefusal.TheVariants.{Super, Dir, NoDirectory, SameRank, CmsPresent, SpecialMismatch, SpecialMissing, LimitPastEnd, HashPageLarge, SliceOffset}

-- the number by which a refusal is printed
abbrev pub number_of : BlobRefusal → ℕ
number_of (Super refusal) = 1
number_of (Dir refusal) = 2
number_of NoDirectory = 3
number_of (SameRank a b) = 4
number_of (CmsPresent len) = 5
number_of (SpecialMismatch slot) = 6
number_of (SpecialMissing slot) = 7
number_of LimitPastEnd = 8
number_of (HashPageLarge n) = 9
number_of (SliceOffset at) = 10

-- what else a refusal of the signature's own rules tells, or 0
abbrev pub arguments_of : BlobRefusal → ℕ × ℕ
arguments_of (Super refusal) = (0, 0)
arguments_of (Dir refusal) = (0, 0)
arguments_of NoDirectory = (0, 0)
arguments_of (SameRank a b) = (a, b)
arguments_of (CmsPresent len) = (len, 0)
arguments_of (SpecialMismatch slot) = (slot, 0)
arguments_of (SpecialMissing slot) = (slot, 0)
arguments_of LimitPastEnd = (0, 0)
arguments_of (HashPageLarge n) = (n, 0)
arguments_of (SliceOffset at) = (at, 0)

abbrev own_refusal : BlobRefusal → Refusal
own_refusal refusal = record {
  family = 5;
  number = number_of refusal;
  a = (arguments_of refusal).0;
  b = (arguments_of refusal).1;
}

-- A refusal as all formats have it. One of the SuperBlob or of a code directory is told as that format tells it; the
-- others have the family of signatures.
abbrev pub refusal_of : BlobRefusal → Refusal
refusal_of (Super refusal) = index.refusal_of refusal
refusal_of (Dir refusal) = directory.refusal_of refusal
refusal_of refusal = own_refusal refusal
