use Rattle.std.proofs.Common.{◌≡◌, refl}
use Rattle.cs_directory.specs.Directory.{cdhash}
use Rattle.pg_bytes.specs.Ranges.{bytes_in}
use Rattle.cs_blob.proofs.GrammarFacts.{IsSignature-from}
use Rattle.cs_blob.proofs.grammar.blob.Goals as goal

pub returns-clause-accepted : goal.returns-clause-accepted
returns-clause-accepted g c =
    let known = rw c.deref.ensures.value at c.in_ok-best.ensures.accepted in
    let code : c.cdhash-cdhash.result ≡ cdhash g.D.Digester.hash (bytes_in c.args.bytes.items c.in_ok-best.best.seat.range) = rw (c.cdhash-cdhash.ensures.value, c.bytes_in.ensures.bytes, c.deref-2.ensures.value) refl in
    IsSignature-from _ _ _ _ c.in_ok-best.best _ known code
