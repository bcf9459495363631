-- Which cdhashes the trust cache of several files lists.
use Rattle.std.proofs.Common.{◌≡◌, ℕ, zero, suc, ◌+◌, ◌*◌, ◌≤◌, ◌⊎◌, inl, inr, ⊎_elim, Bool, true, false, List, [], ◌∷◌, ◌++◌, length, map, replicate, nat_lt, Option, Some, None, Result, Ok, Err, IfSome, refl, sym, ap, ◌∙◌, arith, length-append, length-take}
use Rattle.std.specs.Prelude.{All, IsSome, unwrap_or}
use Rattle.std.specs.Result.{result_ok}
use Rattle.std.specs.List.{Contains, cons_option}
use Rattle.std.proofs.lemmas.Bool.{le-ltb}
use Rattle.std.proofs.lemmas.List.Elements.{All-nil, All-cons, All-append, Contains-append_left, Contains-append_right, Contains-append_cases}
use Rattle.pg_bytes.specs.declared.fields.Range.{Range}
use Rattle.pg_bytes.specs.Ranges.{bytes_in}
use Rattle.pg_digest.specs.Kinds.{Hash, size_of}
use Rattle.pg_digest.specs.declared.kinds.HashKind.{HashKind}
use Rattle.pg_digest.specs.declared.kinds.HashKind.TheVariants.{Sha1, Sha256, Sha256Short, Sha384}
use Rattle.cs_directory.specs.Directory.{cdhash}
use Rattle.cs_directory.specs.Layout.{kind, blob_bytes}
use Rattle.cs_blob.specs.Signed.{signature}
use Rattle.cs_blob.specs.declared.refusal.BlobRefusal.{BlobRefusal}
use Rattle.cs_blob.specs.Rules as blob
use Rattle.macho_cmds.specs.declared.mach_image.Image.{Image}
use Rattle.macho_cmds.specs.declared.refusal.MachRefusal.{MachRefusal}
use Rattle.macho_cmds.specs.Images.{image_of}
use Rattle.macho_cmds.specs.Rules as macho
use Rattle.macho_slices.specs.Layout.{form_of, slices_by}
use Rattle.macho_slices.specs.Rules as fat
use Rattle.macho_slices.specs.declared.refusal.FatRefusal.{FatRefusal}
use Rattle.cs_verify.specs.Report.{report, slice_report, framed_report, signed_report, all_match}
use Rattle.cs_trust.specs.Layout.{entries}
use Rattle.cs_trust.specs.Listed.{place_of}
use Rattle.cs_sign.specs.declared.early.Early.{Early}
use Rattle.cs_sign.specs.declared.early.Early.TheVariants.{TooLarge, NotSealed}
use Rattle.cs_sign.specs.Early.{most}
use Rattle.cs_sign.specs.Requests.{Request}
use Rattle.cs_sign.specs.Reading.{Found, limited, read_of, and_then, hash_in, hashes_in, sealed_hashes, cached}
use Rattle.cs_sign.specs.Caches.{listed}
use Rattle.cs_sign.specs.Ending.{cache_of, cache_run}
use Rattle.cs_sign.specs.Listing.{IsSlice, ListsSlices, IsListed, signed_cdhash}
use Rattle.cs_sign.specs.Verified.{IsVerified, accepted_slice}
use Rattle.cs_sign.proofs.CacheFacts.{length-listed}
use Rattle.cs_sign.proofs.ReadingFacts.{few-hashes}
use Rattle.cs_sign.proofs.SizeFacts.{HasSizes}
use Rattle.cs_sign.proofs.TakenFacts.{taken}

-- ---- a cdhash has 20 bytes

twenty : (k : HashKind) → 20 ≤ size_of k
twenty Sha1 = omega arith
twenty Sha256 = omega arith
twenty Sha256Short = omega arith
twenty Sha384 = omega arith

-- the same values, and the same results
ok-same : {X : Type 0} {a b : X} → Path (Result X Early) (Ok a) (Ok b) → a ≡ b
ok-same {X} {a} {b} e = ap (λ (r : Result X Early). unwrap_or (result_ok r) a) e

some-same : {a b : List ℕ} → Some a ≡ Some b → a ≡ b
some-same {a} {b} e = ap (λ (o : Found). unwrap_or o a) e

-- what was read is what was found
read-is : (item : ℕ) (found : Found) (bytes : List ℕ) → read_of item found ≡ Ok bytes → found ≡ Some bytes
read-is item None bytes is = absurd cc
read-is item (Some held) bytes is = by_length (nat_lt most (length held)) refl
  where
    by_length : (long : Bool) → nat_lt most (length held) ≡ long → Some held ≡ Some bytes
    by_length true e = let made : limited held ≡ Err TooLarge = rw e refl in let bad = sym is ∙ made in absurd cc
    by_length false e = let made : limited held ≡ Ok held = rw e refl in ap (λ (x : List ℕ). Some x) (ok-same (sym made ∙ is))

-- of these all elements have 20 bytes
abbrev AreHashes : List (List ℕ) → Type 0
AreHashes hashes = All (λ (h : List ℕ). length h ≡ 20) hashes

module _ (hash : Hash) (sizes : HasSizes hash) where
  length-cdhash : (bytes : List ℕ) → length (cdhash hash bytes) ≡ 20
  unfolding cdhash
  length-cdhash bytes = omega (arith, length-take 20 (hash (kind bytes) (blob_bytes bytes)), sizes (kind bytes) (blob_bytes bytes), twenty (kind bytes))

  hash-signed : (bytes : List ℕ) (slice : Range) (image : Image) (sig : List ℕ) (answer : Option BlobRefusal) → IfSome (hash_in (signed_report hash bytes slice image sig answer)) (λ h. length h ≡ 20)
  unfolding signature
  hash-signed bytes slice image sig (Some refusal) = tt
  hash-signed bytes slice image sig None = length-cdhash _

  hash-framed : (file : List ℕ) (slice : Range) (answer : Option MachRefusal) → IfSome (hash_in (framed_report hash file slice answer)) (λ h. length h ≡ 20)
  hash-framed file slice (Some refusal) = tt
  hash-framed file slice None =
      hash-signed (bytes_in file slice) slice (image_of (bytes_in file slice)) _ (blob.broken hash _ slice None)

  hash-slice : (file : List ℕ) (slice : Range) → IfSome (hash_in (slice_report hash file slice)) (λ h. length h ≡ 20)
  unfolding slice_report
  hash-slice file slice = hash-framed file slice (macho.broken file slice)

  more-hashes : (o : Option (List ℕ)) (hashes : List (List ℕ)) → IfSome o (λ h. length h ≡ 20) → AreHashes hashes → AreHashes (cons_option o hashes)
  more-hashes None hashes is rest = rest
  more-hashes (Some h) hashes is rest = All-cons (λ (x : List ℕ). length x ≡ 20) h hashes is rest

  hashes-slices : (file : List ℕ) (slices : List Range) → AreHashes (hashes_in (map (slice_report hash file) slices))
  hashes-slices file [] = All-nil (λ (x : List ℕ). length x ≡ 20)
  hashes-slices file (slice ∷ slices) =
      more-hashes (hash_in (slice_report hash file slice)) (hashes_in (map (slice_report hash file) slices)) (hash-slice file slice) (hashes-slices file slices)

  -- ---- what is taken of one file

  -- The file is sealed, and these are the cdhashes of its slices.
  record Sealed (bytes : List ℕ) (more : List (List ℕ)) : Type 0 where
    is : more ≡ hashes_in (report hash bytes)
    few : length more ≤ 32
    each : AreHashes more

  sealed-by : (item : ℕ) (bytes : List ℕ) (more : List (List ℕ)) (answer : Option FatRefusal) (whole : Bool) → fat.broken bytes ≡ answer → all_match (report hash bytes) ≡ whole → sealed_hashes hash item bytes ≡ Ok more → Sealed bytes more
  unfolding sealed_hashes
  sealed-by item bytes more None true kept match is =
      let made : sealed_hashes hash item bytes ≡ Ok (hashes_in (report hash bytes)) = rw (kept, match) refl in
      let same : more ≡ hashes_in (report hash bytes) = ok-same (sym is ∙ made) in
      record {
        is = same;
        few = omega (arith, ap length same, few-hashes hash bytes (report hash bytes) (record { unbroken = kept; says = refl }));
        each = rw same (hashes-slices bytes (slices_by (form_of bytes) bytes));
      }
  sealed-by item bytes more None false kept match is =
      let made : sealed_hashes hash item bytes ≡ Err (NotSealed item) = rw (kept, match) refl in
      let bad = sym is ∙ made in
      absurd cc
  sealed-by item bytes more (Some refusal) whole kept match is =
      let made : sealed_hashes hash item bytes ≡ Err (NotSealed item) = rw kept refl in
      let bad = sym is ∙ made in
      absurd cc

  sealed-is : (item : ℕ) (bytes : List ℕ) (more : List (List ℕ)) → sealed_hashes hash item bytes ≡ Ok more → Sealed bytes more
  sealed-is item bytes more is = sealed-by item bytes more (fat.broken bytes) (all_match (report hash bytes)) refl refl is

  -- ---- what is taken of several files

  -- What a run goes on with: the cdhashes that it had, and those of the slices of these files.
  record Gathered (found : List Found) (hashes all : List (List ℕ)) : Type 0 where
    few : length all ≤ length hashes + 32 * length found
    each : AreHashes hashes → AreHashes all
    gained : (h : List ℕ) → Contains all h → Contains hashes h ⊎ IsSlice hash found h
    kept : (h : List ℕ) → Contains hashes h ⊎ IsSlice hash found h → Contains all h

  no-file : {X : Type 0} (h : List ℕ) → IsSlice hash [] h → X
  no-file h slice = absurd (omega (arith, slice.file.1))

  gathered-none : (hashes all : List (List ℕ)) → all ≡ hashes → Gathered [] hashes all
  gathered-none hashes all same = record {
    few = omega (arith, ap length same);
    each = λ held. rw same held;
    gained = λ h held. inl (rw same at held);
    kept = λ h held. rw same (⊎_elim (λ known. known) (λ slice. no-file h slice) held);
  }

  -- a file among several, and among those behind the first
  slice-behind : (first : Found) (others : List Found) (h : List ℕ) → IsSlice hash others h → IsSlice hash (first ∷ others) h
  slice-behind first others h slice = record {
    bytes = slice.bytes;
    file = Contains-append_right (first ∷ []) others (Some slice.bytes) slice.file;
    slice = slice.slice;
  }

  file-cases : (first : Found) (others : List Found) (bytes : List ℕ) → Contains (first ∷ others) (Some bytes) → (first ≡ Some bytes) ⊎ Contains others (Some bytes)
  file-cases first others bytes (zero, lt, is) = inl is
  file-cases first others bytes (suc k, lt, is) = inr (k, omega arith, is)

  gathered-more : (first : Found) (others : List Found) (bytes : List ℕ) (hashes more all : List (List ℕ)) → first ≡ Some bytes → Sealed bytes more → Gathered others (hashes ++ more) all → Gathered (first ∷ others) hashes all
  gathered-more first others bytes hashes more all here sealed rest = record {
    few = omega (arith, rest.few, sealed.few, length-append hashes more);
    each = λ held. rest.each (All-append (λ (x : List ℕ). length x ≡ 20) hashes more held sealed.each);
    gained = λ h held. ⊎_elim
        (λ both. ⊎_elim
        (λ known. inl known)
        (λ new. inr (record { bytes = bytes; file = (0, omega arith, here); slice = rw (← sealed.is) new }))
        (Contains-append_cases hashes more h both))
        (λ slice. inr (slice-behind first others h slice))
        (rest.gained h held);
    kept = λ h held. rest.kept h (⊎_elim (λ known. inl (Contains-append_left hashes more h known)) (λ slice. placed h slice (file-cases first others slice.bytes slice.file)) held);
  }
    where
      placed : (h : List ℕ) (slice : IsSlice hash (first ∷ others) h) → (first ≡ Some slice.bytes) ⊎ Contains others (Some slice.bytes) → Contains (hashes ++ more) h ⊎ IsSlice hash others h
      placed h slice (inl same) =
          let bytes_are : bytes ≡ slice.bytes = some-same (sym here ∙ same) in
          inl (Contains-append_right hashes more h (rw (sealed.is, bytes_are) slice.slice))
      placed h slice (inr behind) = inr (record { bytes = slice.bytes; file = behind; slice = slice.slice })

  gathered : (found : List Found) (item : ℕ) (hashes all : List (List ℕ)) → cached hash item found hashes ≡ Ok all → Gathered found hashes all
  gathered [] item hashes all is = gathered-none hashes all (ok-same (sym is))
  gathered (first ∷ others) item hashes all is = by_read (read_of item first) refl is (λ more. gathered others (item + 1) (hashes ++ more) all)
    where
      by_sealed : (bytes : List ℕ) (answer : Result (List (List ℕ)) Early) → first ≡ Some bytes → sealed_hashes hash item bytes ≡ answer → and_then answer (λ more. cached hash (item + 1) others (hashes ++ more)) ≡ Ok all → ((more : List (List ℕ)) → cached hash (item + 1) others (hashes ++ more) ≡ Ok all → Gathered others (hashes ++ more) all) → Gathered (first ∷ others) hashes all
      by_sealed bytes (Ok more) here sealed goes rest = gathered-more first others bytes hashes more all here (sealed-is item bytes more sealed) (rest more goes)
      by_sealed bytes (Err early) here sealed goes rest = absurd cc

      by_read : (answer : Result (List ℕ) Early) → read_of item first ≡ answer → and_then answer (λ bytes. and_then (sealed_hashes hash item bytes) (λ more. cached hash (item + 1) others (hashes ++ more))) ≡ Ok all → ((more : List (List ℕ)) → cached hash (item + 1) others (hashes ++ more) ≡ Ok all → Gathered others (hashes ++ more) all) → Gathered (first ∷ others) hashes all
      by_read (Ok bytes) read goes rest = by_sealed bytes (sealed_hashes hash item bytes) (read-is item first bytes read) refl goes rest
      by_read (Err early) read goes rest = absurd cc

  -- ---- what is made of them

  made-by : (found : List Found) (made : List ℕ) (answer : Result (List (List ℕ)) Early) → length found ≤ 64 → cached hash 0 found [] ≡ answer → and_then answer (λ hashes. Ok (cache_of hashes)) ≡ Ok made → ListsSlices hash found made
  made-by found made (Err early) few goes is = absurd cc
  made-by found made (Ok all) few goes is =
      let known = gathered found 0 [] all goes in
      let some : length (listed all) ≤ 65536 = omega (arith, length-listed all, known.few, few) in
      let read = taken 1 (replicate 16 0) all (inl refl) refl some (known.each (All-nil (λ (x : List ℕ). length x ≡ 20))) in
      let same : made ≡ cache_of all = ok-same (sym is) in
      rw same (record {
        unbroken = read.unbroken;
        lists = λ h. (
          (λ placed. ⊎_elim (λ none. absurd (omega (arith, none.1))) (λ slice. slice) (known.gained h ((read.found h).0 placed))),
          (λ slice. (read.found h).1 (known.kept h (inr slice))),
        );
      })

  pub lists-slices : (found : List Found) (made : List ℕ) → length found ≤ 64 → cache_run hash found ≡ Ok made → ListsSlices hash found made
  lists-slices found made few is = made-by found made (cached hash 0 found []) few refl is

  -- ---- a signed file

  module _ (bytes : List ℕ) (request : Request) (signed : List ℕ) (verified : IsVerified hash bytes request signed) (short : length signed ≤ most) where
    one-hash : hashes_in (report hash signed) ≡ signed_cdhash hash bytes request ∷ []
    unfolding accepted_slice
    one-hash = rw verified.accepted refl

    whole : all_match (report hash signed) ≡ true
    unfolding accepted_slice
    whole = rw verified.accepted refl

    sealed : sealed_hashes hash 0 signed ≡ Ok (signed_cdhash hash bytes request ∷ [])
    unfolding sealed_hashes
    sealed = rw (verified.unbroken, whole, one-hash) refl

    alone : cache_run hash (Some signed ∷ []) ≡ Ok (cache_of (signed_cdhash hash bytes request ∷ []))
    alone = rw (le-ltb most (length signed) short, sealed) refl

    among : (found : List Found) (made : List ℕ) → length found ≤ 64 → Contains found (Some signed) → cache_run hash found ≡ Ok made → IsSome (place_of (entries made) (signed_cdhash hash bytes request))
    among found made few file is =
        ((lists-slices found made few is).lists (signed_cdhash hash bytes request)).1
        (record { bytes = signed; file = file; slice = rw one-hash (0, omega arith, refl) })

    pub is-listed : IsListed hash signed (signed_cdhash hash bytes request)
    is-listed = record { alone = alone; among = among }
