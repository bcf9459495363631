use Rattle.std.proofs.Common.{refl, arith}
use Rattle.cs_directory.proofs.DirectoryFacts.{IsDirectory-along, IsInside-from, special_slot_start, special_slot_end, special_at-fields}
use Rattle.cs_directory.proofs.code_directory.Directory.special.Goals as goal

pub overflow_mul-slot : goal.overflow_mul-slot
overflow_mul-slot c =
    let known = IsDirectory-along _ c.self.view_is c.requires in
    let inside = IsInside-from _ _ known in
    let start = special_slot_start _ _ c.args.t known (omega arith) in
    rw (c.from-size.ensures, c.size.ensures) (omega arith)

pub overflow_sub-slot : goal.overflow_sub-slot
overflow_sub-slot c =
    let known = IsDirectory-along _ c.self.view_is c.requires in
    let inside = IsInside-from _ _ known in
    let start = special_slot_start _ _ c.args.t known (omega arith) in
    rw (c.from-size.ensures, c.size.ensures) (omega arith)

pub bytes_in-requires : goal.bytes_in-requires
bytes_in-requires c =
    let known = IsDirectory-along _ c.self.view_is c.requires in
    let inside = IsInside-from _ _ known in
    let end = special_slot_end _ _ c.args.t known (omega arith) (omega arith) in
    rw (c.from-size.ensures, c.size.ensures) (omega arith)

pub returns-clause-slot : goal.returns-clause-slot
returns-clause-slot c =
    let known = IsDirectory-along _ c.self.view_is c.requires in
    rw (c.bytes_in.ensures.bytes, c.from-size.ensures, c.size.ensures, c.from-end.ensures, special_at-fields _ _ c.args.t known) refl
