-- What an accepted signature is known for, by `broken` and `signature` alone. The crates above cite these, and open
-- neither.
use Rattle.std.proofs.Common.{◌≡◌, ℕ, ◌+◌, ◌*◌, ◌%◌, ◌<◌, ◌≤◌, ◌==◌, true, false, Bool, cond, List, [], ◌∷◌, All, length, Option, Some, None, is_some, unwrap_or, refl, inl, inr, ◌⊎◌, arith}
use Rattle.std.proofs.lemmas.Bool.Decides.{nat_tests}
use Rattle.std.proofs.lemmas.List.Elements.{All-nil, All-cons}
use Rattle.pg_bytes.specs.declared.fields.Range.{Range}
use Rattle.pg_bytes.specs.Ranges.{bytes_in}
use Rattle.pg_digest.specs.Kinds.{Hash, size_of}
use Rattle.cs_superblob.specs.declared.entries.Seat.{Seat}
use Rattle.cs_superblob.specs.Layout.{seats}
use Rattle.pg_bytes.specs.PageSize.{IsPageSize}
use Rattle.pg_bytes.proofs.PageSizeFacts.{page_sizes}
use Rattle.std.specs.Option.{option_map}
use Rattle.cs_directory.specs.HashPages.{bytes_of}
use Rattle.cs_directory.specs.declared.hash_page.HashPage.{HashPage}
use Rattle.cs_directory.specs.declared.hash_page.HashPage.TheVariants.{Small, Large}
use Rattle.cs_directory.specs.declared.refusal.DirRefusal.{DirRefusal}
use Rattle.cs_directory.specs.Directory.{IsDirectory, cdhash}
use Rattle.cs_directory.proofs.DirectoryFacts.{IsInside-from}
use Rattle.cs_blob.specs.declared.candidates.Candidate.{Candidate}
use Rattle.cs_blob.specs.declared.refusal.BlobRefusal.{BlobRefusal}
use Rattle.cs_blob.specs.declared.refusal.BlobRefusal.TheVariants.{Dir, NoDirectory}
use Rattle.cs_blob.proofs.PartsFacts.{filter-some, first_type}
use Rattle.cs_blob.specs.Signature.{Signature}
use Rattle.cs_blob.specs.Parts.{is_bare, whole, entries, directories, is_directory_type, entry_of}
use Rattle.cs_blob.specs.Candidates.{among, best, candidate, strongest}
use Rattle.cs_blob.specs.Rules.{first_of, earliest, parts_rule, index_rule, type_rule, directory_rule, each_directory, same_ranks, cms_rule, each_special, limit_rule, page_rule, offset_rule, machine_rules, fit_rules, broken}
use Rattle.cs_blob.specs.Signed.{signature, IsSignature}
use Rattle.cs_blob.proofs.CandidateFacts.{All-strongest, strongest-greatest}

-- the parts of an accepted value are those of its bytes
pub signature-bytes : (hash : Hash) (bytes : List ℕ) (slice : Range) (page : Option ℕ) → (signature hash bytes slice page).bytes ≡ bytes
unfolding signature
signature-bytes hash bytes slice page = refl

pub signature-slice : (hash : Hash) (bytes : List ℕ) (slice : Range) (page : Option ℕ) → (signature hash bytes slice page).slice ≡ slice
unfolding signature
signature-slice hash bytes slice page = refl

pub signature-cdhash : (hash : Hash) (bytes : List ℕ) (slice : Range) (page : Option ℕ) → (signature hash bytes slice page).cdhash ≡ cdhash hash (signature hash bytes slice page).best_bytes
unfolding signature
signature-cdhash hash bytes slice page = refl

-- the size of the machine's pages does not change the value
pub signature-page : (hash : Hash) (bytes : List ℕ) (slice : Range) (page other : Option ℕ) → signature hash bytes slice page ≡ signature hash bytes slice other
unfolding signature
signature-page hash bytes slice page other = refl

-- two of which none is broken
kept_both : (one other : Option BlobRefusal) → first_of one other ≡ None → (one ≡ None) × (other ≡ None)
kept_both None other e = (refl, e)
kept_both (Some refusal) other e = absurd cc

-- Each group of the signature's rules is kept.
record AllKept (hash : Hash) (bytes : List ℕ) (slice : Range) (page : Option ℕ) : Type 0 where
  pub parts : parts_rule bytes ≡ None
  pub directories : each_directory bytes (directories bytes) ≡ None
  pub fit : fit_rules (best bytes) slice page ≡ None

AllKept-from : (hash : Hash) (bytes : List ℕ) (slice : Range) (page : Option ℕ) → broken hash bytes slice page ≡ None → AllKept hash bytes slice page
unfolding broken
AllKept-from hash bytes slice page e =
    let fit = earliest (fit_rules (best bytes) slice page ∷ []) in
    let specials = first_of (each_special hash bytes (entries bytes) (best bytes)) fit in
    let cms = first_of (cms_rule (entries bytes)) specials in
    let ranks = first_of (same_ranks [] (among bytes (directories bytes))) cms in
    let each = first_of (each_directory bytes (directories bytes)) ranks in
    let a = kept_both (parts_rule bytes) each e in
    let b = kept_both (each_directory bytes (directories bytes)) ranks a.1 in
    let c = kept_both (same_ranks [] (among bytes (directories bytes))) cms b.1 in
    let d = kept_both (cms_rule (entries bytes)) specials c.1 in
    let f = kept_both (each_special hash bytes (entries bytes) (best bytes)) fit d.1 in
    let g = kept_both (fit_rules (best bytes) slice page) None f.1 in
    record { parts = a.0; directories = b.0; fit = g.0 }

-- a test that gives a refusal where it is passed
kept_test : (test : Bool) (refusal : BlobRefusal) → cond test (Some refusal) None ≡ None → test ≡ false
kept_test true refusal e = absurd cc
kept_test false refusal e = refl

-- a test that gives a refusal where it is not passed
passed_test : (test : Bool) (refusal : BlobRefusal) → cond test None (Some refusal) ≡ None → test ≡ true
passed_test true refusal e = refl
passed_test false refusal e = absurd cc

-- the limit of an accepted signature is within the slice
pub limit-within : (hash : Hash) (bytes : List ℕ) (slice : Range) (page : Option ℕ) → broken hash bytes slice page ≡ None → (signature hash bytes slice page).best.limit ≤ slice.len
unfolding signature fit_rules
limit-within hash bytes slice page e =
    let kept = AllKept-from hash bytes slice page e in
    let fit = (kept_both (limit_rule (best bytes) slice) (machine_rules (best bytes) slice page) kept.fit).0 in
    let test = kept_test _ _ fit in
    grind (arith, nat_tests)

-- where the size of the machine's pages is given, an accepted signature's hash pages are no larger
pub page-within : (hash : Hash) (bytes : List ℕ) (slice : Range) (page : ℕ) → broken hash bytes slice (Some page) ≡ None → bytes_of (signature hash bytes slice (Some page)).best.page ≤ page
unfolding signature fit_rules
page-within hash bytes slice page e =
    let kept = AllKept-from hash bytes slice (Some page) e in
    let fit = (kept_both (limit_rule (best bytes) slice) (machine_rules (best bytes) slice (Some page)) kept.fit).1 in
    let test = kept_test _ _ (kept_both (page_rule (best bytes) page) (offset_rule slice page) fit).0 in
    grind (arith, nat_tests)

-- and the slice begins at a multiple of it
pub slice-aligned : (hash : Hash) (bytes : List ℕ) (slice : Range) (page : ℕ) → broken hash bytes slice (Some page) ≡ None → slice.at % page ≡ 0
unfolding fit_rules
slice-aligned hash bytes slice page e =
    let kept = AllKept-from hash bytes slice (Some page) e in
    let fit = (kept_both (limit_rule (best bytes) slice) (machine_rules (best bytes) slice (Some page)) kept.fit).1 in
    let test = passed_test _ _ (kept_both (page_rule (best bytes) page) (offset_rule slice page) fit).1 in
    grind (arith, nat_tests)

-- a rule of a code directory's grammar that is broken breaks one of the signature's
map_none : (broken : Option DirRefusal) → option_map Dir broken ≡ None → broken ≡ None
map_none None e = refl
map_none (Some refusal) e = absurd cc

-- the directories of entries whose rules are kept
directories-kept : (bytes : List ℕ) (seats : List Seat) → each_directory bytes seats ≡ None → All (λ found. IsDirectory (bytes_in bytes found.seat.range) found.directory) (among bytes seats)
unfolding directory_rule candidate
directories-kept bytes [] e = All-nil (λ found. IsDirectory (bytes_in bytes found.seat.range) found.directory)
directories-kept bytes (seat ∷ seats) e =
    let parts = kept_both (directory_rule bytes seat) (each_directory bytes seats) e in
    All-cons (λ found. IsDirectory (bytes_in bytes found.seat.range) found.directory) (candidate bytes seat) (among bytes seats)
    (record { unbroken = map_none _ parts.0; fields = refl })
    (directories-kept bytes seats parts.1)

-- where the rules on the blobs are kept, there is a code directory
some_by_form : (bytes : List ℕ) (bare : Bool) → is_bare bytes ≡ bare → parts_rule bytes ≡ None → 0 < length (directories bytes)
unfolding type_rule entries directories
some_by_form bytes true form e = rw form (omega arith)
some_by_form bytes false form e =
    let type = (kept_both (index_rule bytes) (type_rule bytes) e).1 in
    let kept = rw form at type in
    let some = passed_test (is_some (entry_of (seats bytes) 0)) NoDirectory kept in
    rw form (filter-some (λ seat. seat.slot == 0) (λ seat. is_directory_type seat.slot) first_type (seats bytes) some)

some-among : (bytes : List ℕ) (seats : List Seat) → 0 < length seats → 0 < length (among bytes seats)
some-among bytes [] lt = absurd (omega arith)
some-among bytes (seat ∷ seats) lt = omega arith

best-some : (found : List Candidate) (other : Candidate) → 0 < length found → Some (unwrap_or (strongest found) other) ≡ strongest found
best-some [] other lt = absurd (omega arith)
best-some (first ∷ more) other lt = refl

best-strongest : (bytes : List ℕ) → parts_rule bytes ≡ None → Some (best bytes) ≡ strongest (among bytes (directories bytes))
unfolding best
best-strongest bytes e =
    best-some (among bytes (directories bytes)) (candidate bytes (whole bytes)) (some-among bytes (directories bytes) (some_by_form bytes (is_bare bytes) refl e))

-- bytes that break no rule are a signature, and `signature` is its value
pub IsSignature-unbroken : (hash : Hash) (bytes : List ℕ) (slice : Range) (page : Option ℕ) → broken hash bytes slice page ≡ None → IsSignature hash bytes slice page (signature hash bytes slice page)
unfolding signature
IsSignature-unbroken hash bytes slice page e =
    let kept = AllKept-from hash bytes slice page e in
    let held = best-strongest bytes kept.parts in
    record {
      unbroken = e;
      value = refl;
      directory = All-strongest (λ found. IsDirectory (bytes_in bytes found.seat.range) found.directory) _ _ (directories-kept bytes (directories bytes) kept.directories) held;
      greatest = strongest-greatest _ _ held;
    }

-- the slots of an accepted signature lie within the bytes of its best directory
pub slots-within : (hash : Hash) (bytes : List ℕ) (slice : Range) (page : Option ℕ) (held : Signature) → IsSignature hash bytes slice page held → held.best.hash_offset + held.best.code_slots * size_of held.best.kind ≤ length held.best_bytes
slots-within hash bytes slice page held known =
    let inside = IsInside-from held.best_bytes held.best known.directory in
    omega arith

-- a machine's page is a number of hash pages that are no larger
pub page-divided : (page : HashPage) (size : ℕ) → IsPageSize size → bytes_of page ≤ size → size % bytes_of page ≡ 0
page-divided page size known = by_size page size (page_sizes size known)
  where
    by_size : (page : HashPage) (size : ℕ) → (size ≡ 4096) ⊎ (size ≡ 16384) → bytes_of page ≤ size → size % bytes_of page ≡ 0
    by_size Small size (inl e) within = rw e refl
    by_size Small size (inr e) within = rw e refl
    by_size Large size (inl e) within = absurd (omega arith)
    by_size Large size (inr e) within = rw e refl
