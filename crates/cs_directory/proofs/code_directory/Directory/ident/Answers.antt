use Rattle.std.proofs.Common.{arith, length-take, refl}
use Rattle.cs_directory.specs.Directory.{ident_at}
use Rattle.cs_directory.proofs.DirectoryFacts.{IsDirectory-along, IsInside-from, HasNumbers-from}
use Rattle.cs_directory.proofs.code_directory.Directory.ident.Goals as goal

pub front-requires : goal.front-requires
front-requires c =
    let inside = IsInside-from _ _ (IsDirectory-along _ c.self.view_is c.requires) in
    omega arith

pub behind-requires : goal.behind-requires
behind-requires c =
    let inside = IsInside-from _ _ (IsDirectory-along _ c.self.view_is c.requires) in
    rw c.front.ensures (omega (arith, length-take c.self.inside.length c.args.bytes.now))

pub returns : goal.returns
unfolding ident_at
returns c =
    let known = IsDirectory-along _ c.self.view_is c.requires in
    let numbers = HasNumbers-from _ _ known.fields in
    rw (c.before_zero.ensures, c.behind.ensures, c.front.ensures, numbers.length, numbers.ident_offset) refl
