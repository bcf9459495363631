use Rattle.std.proofs.Common.{◌≡◌, true, false, is_some, filter, refl, sym, ◌∙◌}
use Rattle.std.proofs.lemmas.Result.{err_from_is_err_and}
use Rattle.cs_blob.specs.Parts.{entry_of, is_directory_type}
use Rattle.cs_blob.proofs.PartsFacts.{HasParts-bare, bare_kept, HasParts-super, super_kept, Refuses-index, type_broken}
use Rattle.cs_blob.proofs.parts.parts_of.Goals as goal

pub returns-then-is_bare-clause-placed : goal.returns-then-is_bare-clause-placed
returns-then-is_bare-clause-placed c =
    rw (c.new.ensures.items, c.in_ok-push.ensures.items, c.new-directories.ensures.items, c.whole.ensures)
    (HasParts-bare _ (sym c.is_bare.ensures ∙ c.if-is_bare.true))

pub returns-then-is_bare-clause-kept : goal.returns-then-is_bare-clause-kept
returns-then-is_bare-clause-kept c = bare_kept _ (sym c.is_bare.ensures ∙ c.if-is_bare.true)

pub returns-in_err-entries-clause-refused : goal.returns-in_err-entries-clause-refused
returns-in_err-entries-clause-refused c =
    let exit = err_from_is_err_and c.from_residual-in_err-entries.result c.from_residual-in_err-entries.ensures.1 in
    rw (exit.1, exit.2) (Refuses-index _ _ (sym c.is_bare.ensures ∙ c.if-is_bare.false) c.in_err-entries.ensures.refused)

pub returns-then-is_none-clause-refused : goal.returns-then-is_none-clause-refused
returns-then-is_none-clause-refused c =
    let lacks : is_some (entry_of c.in_ok-entries.entries.items 0) ≡ false = rw (← c.deref.ensures.value, ← c.entry.ensures, c.is_none.ensures, c.if-is_none.true) refl in
    rw c.into.ensures (type_broken _ _ (sym c.is_bare.ensures ∙ c.if-is_bare.false) c.in_ok-entries.ensures.accepted lacks)

pub returns-clause-placed : goal.returns-clause-placed
returns-clause-placed c =
    let some : is_some (entry_of c.in_ok-entries.entries.items 0) ≡ true = rw (← c.deref.ensures.value, ← c.entry.ensures, c.is_none.ensures, c.if-is_none.false) refl in
    let chosen : c.in_ok-directories.directories.items ≡ filter (λ seat. is_directory_type seat.slot) c.in_ok-entries.entries.items = rw (← c.deref-2.ensures.value) c.in_ok-directories.ensures in
    HasParts-super _ _ _ (sym c.is_bare.ensures ∙ c.if-is_bare.false) c.in_ok-entries.ensures.accepted c.in_ok-entries.ensures.inside some chosen

pub returns-clause-kept : goal.returns-clause-kept
returns-clause-kept c =
    let some : is_some (entry_of c.in_ok-entries.entries.items 0) ≡ true = rw (← c.deref.ensures.value, ← c.entry.ensures, c.is_none.ensures, c.if-is_none.false) refl in
    super_kept _ _ (sym c.is_bare.ensures ∙ c.if-is_bare.false) c.in_ok-entries.ensures.accepted some
