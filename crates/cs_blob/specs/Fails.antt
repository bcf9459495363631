-- How the refusals of the SuperBlob are passed on.
use Rattle.cs_superblob.specs.declared.refusal.SuperFail.{SuperFail}
use Rattle.cs_superblob.specs.declared.refusal.SuperFail.TheVariants as of_index
use Rattle.cs_blob.specs.declared.refusal.BlobFail.{BlobFail}
use Rattle.cs_blob.specs.declared.refusal.BlobFail.TheVariants.{Refused, NoMemory}
use Rattle.cs_blob.specs.declared.refusal.BlobRefusal.TheVariants.{Super}

-- what there is no index for, there is no blob for
abbrev pub from_index : SuperFail → BlobFail
from_index (of_index.Refused refusal) = Refused (Super refusal)
from_index of_index.NoMemory = NoMemory
