use Rattle.std.proofs.Common.{refl, arith}
use Rattle.cs_directory.proofs.DirectoryFacts.{IsDirectory-along, IsInside-from, code_slot_end, slot_at-fields}
use Rattle.cs_directory.proofs.code_directory.Directory.slot.Goals as goal

pub overflow_mul-slot : goal.overflow_mul-slot
overflow_mul-slot c =
    let known = IsDirectory-along _ c.self.view_is c.requires in
    let inside = IsInside-from _ _ known in
    let end = code_slot_end _ _ c.args.i known (omega arith) in
    rw (c.from-size.ensures, c.size.ensures) (omega arith)

pub overflow_add-slot : goal.overflow_add-slot
overflow_add-slot c =
    let known = IsDirectory-along _ c.self.view_is c.requires in
    let inside = IsInside-from _ _ known in
    let end = code_slot_end _ _ c.args.i known (omega arith) in
    rw (c.from-size.ensures, c.size.ensures) (omega arith)

pub bytes_in-requires : goal.bytes_in-requires
bytes_in-requires c =
    let known = IsDirectory-along _ c.self.view_is c.requires in
    let inside = IsInside-from _ _ known in
    let end = code_slot_end _ _ c.args.i known (omega arith) in
    rw (c.from-size.ensures, c.size.ensures) (omega arith)

pub returns-clause-slot : goal.returns-clause-slot
returns-clause-slot c =
    let known = IsDirectory-along _ c.self.view_is c.requires in
    rw (c.bytes_in.ensures.bytes, c.from-size.ensures, c.size.ensures, c.from-start.ensures, slot_at-fields _ _ c.args.i known) refl
