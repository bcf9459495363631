use Rattle.std.proofs.Common.{sym, ◌∙◌, ◌==◌}
use Rattle.cs_blob.specs.Parts.{IsWithin}
use Rattle.cs_blob.proofs.PartsFacts.{All-find}
use Rattle.cs_blob.proofs.DigestFacts.{Digests-none, Digests-one}
use Rattle.cs_blob.proofs.checks.special.Goals as goal

pub bytes_in-requires : goal.bytes_in-requires
bytes_in-requires g c = record { within = (All-find (λ seat. IsWithin c.args.bytes.now seat.range) (λ seat. seat.slot == c.args.slot) c.args.entries.now c.in-Some.seat c.requires.within (sym c.in-Some.ensures)).within }

pub returns-in_default-clause-digests : goal.returns-in_default-clause-digests
returns-in_default-clause-digests g c =
    Digests-none c.args.entries.now c.args.slot _ c.requires.slot c.requires.last (sym c.entry.ensures ∙ c.in_default.is)

pub returns-then-ne-clause-digests : goal.returns-then-ne-clause-digests
returns-then-ne-clause-digests g c =
    rw c.from-slot.ensures (Digests-one c.args.entries.now c.args.slot _ _ c.in-Some.seat c.requires.slot c.requires.last (sym c.entry.ensures ∙ c.in-Some.is) c.hash-digest.ensures.counted c.hash-digest.ensures.once)

pub returns-clause-digests : goal.returns-clause-digests
returns-clause-digests g c =
    Digests-one c.args.entries.now c.args.slot _ _ c.in-Some.seat c.requires.slot c.requires.last (sym c.entry.ensures ∙ c.in-Some.is) c.hash-digest.ensures.counted c.hash-digest.ensures.once
