-- What bytes are as a signature of a slice, on a machine with pages of some size.
use Rattle.std.specs.Prelude.{ℕ, ◌≡◌, List, Some}
use Rattle.pg_bytes.specs.declared.fields.Range.{Range}
use Rattle.pg_digest.specs.Kinds.{Hash}
use Rattle.cs_policy.specs.declared.refusal.Refusal.{Refusal}
use Rattle.cs_blob.specs.declared.refusal.BlobRefusal.{BlobRefusal}
use Rattle.cs_blob.specs.Refusals.{refusal_of}
use Rattle.cs_blob.specs.Rules.{broken}
use Rattle.cs_blob.specs.Signed.{IsSignature}
use Rattle.pg_calls.specs.declared.attaching.Tried.{Tried}
use Rattle.pg_calls.specs.declared.attaching.Tried.TheVariants.{Signed, Refused}

-- the refusal is that of the first rule that the bytes break
pub record IsRefusedBy (hash : Hash) (bytes : List ℕ) (range : Range) (page : ℕ) (refusal : Refusal) : Type 0 where
  pub rule : BlobRefusal
  pub is_broken : broken hash bytes range (Some page) ≡ Some rule
  pub same : refusal ≡ refusal_of rule

-- they are the signature, or they are refused
abbrev pub Tries : Hash → List ℕ → Range → ℕ → Tried → Type 0
Tries hash bytes range page (Signed blob) = IsSignature hash bytes range (Some page) blob
Tries hash bytes range page (Refused refusal) = IsRefusedBy hash bytes range page refusal
