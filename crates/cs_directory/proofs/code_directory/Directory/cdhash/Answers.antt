use Rattle.std.proofs.Common.{arith, refl}
use Rattle.cs_directory.specs.Directory.{cdhash}
use Rattle.cs_directory.proofs.DirectoryFacts.{IsDirectory-along, IsInside-from, HasNumbers-from}
use Rattle.cs_directory.proofs.code_directory.Directory.cdhash.Goals as goal

pub front-requires : goal.front-requires
front-requires g c =
    let inside = IsInside-from _ _ (IsDirectory-along _ c.self.view_is c.requires) in
    omega arith

pub returns-clause-value : goal.returns-clause-value
unfolding cdhash
returns-clause-value g c =
    let known = IsDirectory-along _ c.self.view_is c.requires in
    let numbers = HasNumbers-from _ _ known.fields in
    rw (c.copy_from_slice.ensures.after, c.digest_bytes.ensures.value, c.hash-digest.ensures.value, c.front.ensures, numbers.length, numbers.kind) refl
