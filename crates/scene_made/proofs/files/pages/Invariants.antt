use Rattle.std.proofs.Common.{◌≡◌, ◌++◌, ◌-◌, ℕ, List}
use Rattle.std.specs.List.{flat_map, range_with_len}
use Rattle.pg_digest.specs.Digests.{sha_hash}
use Rattle.pg_digest.specs.declared.kinds.HashKind.TheVariants.{Sha256}
use Rattle.scene_made.specs.Made.{page_of, body, slots}
use Rattle.scene_made.proofs.files.pages.Given as goal

-- what stands so far, and what comes of the other pages
pub record IsBegun (bytes codes whole all : List ℕ) (n file number : ℕ) : Type 0 where
  pub body : bytes ++ flat_map (page_of n file) (range_with_len number (64 - number)) ≡ whole
  pub slots : codes ++ flat_map (λ page. sha_hash Sha256 (page_of n file page)) (range_with_len number (64 - number)) ≡ all

abbrev pub invariant-loop-number : goal.invariant-loop-number
invariant-loop-number l = IsBegun l.body.items l.slots.items (body l.n l.file) (slots sha_hash l.n l.file) l.n l.file l.number
