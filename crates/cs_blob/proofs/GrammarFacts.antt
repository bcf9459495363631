-- The first broken rule of a signature, by the group of rules that finds it.
use Rattle.std.proofs.Common.{◌≡◌, ℕ, List, [], ◌∷◌, Option, Some, None, refl}
use Rattle.pg_bytes.specs.declared.fields.Range.{Range}
use Rattle.cs_superblob.specs.declared.entries.Seat.{Seat}
use Rattle.cs_directory.specs.Directory.{cdhash}
use Rattle.cs_blob.specs.declared.candidates.Candidate.{Candidate}
use Rattle.cs_blob.specs.Signed.{IsBest, IsSignature, signature}
use Rattle.cs_blob.specs.declared.refusal.BlobRefusal.{BlobRefusal}
use Rattle.cs_blob.specs.declared.refusal.BlobFail.{BlobFail}
use Rattle.cs_blob.specs.declared.refusal.BlobFail.TheVariants.{Refused, NoMemory}
use Rattle.pg_bytes.specs.Ranges.{bytes_in}
use Rattle.cs_blob.specs.Parts.{entries, directories}
use Rattle.cs_blob.specs.Candidates.{among, best}
use Rattle.cs_blob.specs.Rules.{first_of, earliest, index_rule, type_rule, each_directory, same_ranks, cms_rule, each_special, fit_rules, broken, Refuses}
use Rattle.pg_digest.specs.Kinds.{Hash}

-- the last of several rules
last_rule : (rule answer : Option BlobRefusal) → rule ≡ answer → earliest (rule ∷ []) ≡ answer
last_rule None answer e = e
last_rule (Some refusal) answer e = e

-- The rules on the code directories and on the SuperBlob are kept.
pub record AreKept (bytes : List ℕ) : Type 0 where
  pub parts : first_of (index_rule bytes) (type_rule bytes) ≡ None
  pub directories : each_directory bytes (directories bytes) ≡ None

pub Refuses-parts : (hash : Hash) (bytes : List ℕ) (slice : Range) (page : Option ℕ) (fail : BlobFail) → Refuses (first_of (index_rule bytes) (type_rule bytes)) fail → Refuses (broken hash bytes slice page) fail
unfolding broken
Refuses-parts hash bytes slice page (Refused refusal) e = rw e refl
Refuses-parts hash bytes slice page NoMemory e = tt

pub Refuses-directories : (hash : Hash) (bytes : List ℕ) (slice : Range) (page : Option ℕ) (fail : BlobFail) → first_of (index_rule bytes) (type_rule bytes) ≡ None → Refuses (each_directory bytes (directories bytes)) fail → Refuses (broken hash bytes slice page) fail
unfolding broken
Refuses-directories hash bytes slice page (Refused refusal) parts e = rw (parts, e) refl
Refuses-directories hash bytes slice page NoMemory parts e = tt

pub broken_by_ranks : (hash : Hash) (bytes : List ℕ) (slice : Range) (page : Option ℕ) (refusal : BlobRefusal) → AreKept bytes → same_ranks [] (among bytes (directories bytes)) ≡ Some refusal → broken hash bytes slice page ≡ Some refusal
unfolding broken
broken_by_ranks hash bytes slice page refusal kept e = rw (kept.parts, kept.directories, e) refl

pub broken_by_cms : (hash : Hash) (bytes : List ℕ) (slice : Range) (page : Option ℕ) (refusal : BlobRefusal) → AreKept bytes → same_ranks [] (among bytes (directories bytes)) ≡ None → cms_rule (entries bytes) ≡ Some refusal → broken hash bytes slice page ≡ Some refusal
unfolding broken
broken_by_cms hash bytes slice page refusal kept ranks e =
    rw (kept.parts, kept.directories, ranks, e) refl

pub broken_by_special : (hash : Hash) (bytes : List ℕ) (slice : Range) (page : Option ℕ) (refusal : BlobRefusal) → AreKept bytes → same_ranks [] (among bytes (directories bytes)) ≡ None → cms_rule (entries bytes) ≡ None → each_special hash bytes (entries bytes) (best bytes) ≡ Some refusal → broken hash bytes slice page ≡ Some refusal
unfolding broken
broken_by_special hash bytes slice page refusal kept ranks cms e =
    rw (kept.parts, kept.directories, ranks, cms, e) refl

-- the last rule, and what it answers
pub broken_by_fit : (hash : Hash) (bytes : List ℕ) (slice : Range) (page : Option ℕ) (answer : Option BlobRefusal) → AreKept bytes → same_ranks [] (among bytes (directories bytes)) ≡ None → cms_rule (entries bytes) ≡ None → each_special hash bytes (entries bytes) (best bytes) ≡ None → fit_rules (best bytes) slice page ≡ answer → broken hash bytes slice page ≡ answer
unfolding broken
broken_by_fit hash bytes slice page answer kept ranks cms specials e =
    rw (kept.parts, kept.directories, ranks, cms, specials) (last_rule (fit_rules (best bytes) slice page) answer e)

-- the rules on the parts, over the lists that were found
pub AreKept-from : (bytes : List ℕ) (seats : List Seat) → seats ≡ directories bytes → first_of (index_rule bytes) (type_rule bytes) ≡ None → each_directory bytes seats ≡ None → AreKept bytes
AreKept-from bytes seats same parts each = record { parts = parts; directories = rw same at each }

-- the value that the best code directory gives
pub IsSignature-from : (hash : Hash) (bytes : List ℕ) (slice : Range) (page : Option ℕ) (held : Candidate) (code : List ℕ) → IsBest hash bytes slice page held → code ≡ cdhash hash (bytes_in bytes held.seat.range) → IsSignature hash bytes slice page (record { bytes = bytes; best = held.directory; best_bytes = bytes_in bytes held.seat.range; slice = slice; cdhash = code })
unfolding signature
IsSignature-from hash bytes slice page held code known e = record {
  unbroken = known.unbroken;
  value = rw (e, known.value) refl;
  directory = known.found.directory;
  greatest = known.greatest;
}
