-- What a call answers that makes the report of a file, on one thread or on several.
use Rattle.std.specs.Prelude.{ℕ, List, Result, IfOk, IfErr}
use Rattle.std.specs.Global.{Vec}
use Rattle.pg_digest.specs.Kinds.{Hash}
use Rattle.macho_slices.specs.Rules as fat
use Rattle.cs_verify.specs.declared.report.SliceReport.{SliceReport}
use Rattle.cs_verify.specs.declared.report.VerifyFail.{VerifyFail}
use Rattle.cs_verify.specs.Report.{IsReport}
use Rattle.cs_verify.specs.Fails.{Refuses}

-- It answers the report that the grammars and these digests define, and refuses only by the first rule on fat files
-- that the file breaks. Of want of memory it says nothing.
pub record Verifies (hash : Hash) (file : List ℕ) (result : Result (Vec SliceReport) VerifyFail) : Type 0 where
  pub report : IfOk result (λ found. IsReport hash file found.items)
  pub refused : IfErr result (Refuses (fat.broken file))
