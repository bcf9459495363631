-- What the verifier says of a signed file: one slice that is accepted, and no page that does not match.
use Rattle.std.proofs.Common.{◌≡◌, ℕ, zero, suc, ◌+◌, ◌-◌, ◌*◌, ◌^◌, ◌<◌, ◌≤◌, true, false, nat_lt, List, [], ◌∷◌, ◌++◌, length, take, replicate, Option, Some, None, refl, sym, ap, subst, ◌∙◌, arith}
use Rattle.std.specs.Prelude.{bit_and}
use Rattle.std.specs.List.{range_with_len, filter_map}
use Rattle.std.specs.Int.{div_ceil}
use Rattle.std.specs.Cmp.Lexicographic.{nat_list_eq_equiv}
use Rattle.std.proofs.lemmas.Bool.{le-ltb, lt-ltb}
use Rattle.std.proofs.lemmas.List.{append-nil, length-replicate, take_at}
use Rattle.pg_bytes.specs.Rules.{first}
use Rattle.pg_bytes.specs.Fields.{le32_at}
use Rattle.pg_bytes.specs.Ranges.{bytes_in}
use Rattle.pg_bytes.specs.declared.fields.Range.{Range}
use Rattle.pg_digest.specs.Kinds.{Hash}
use Rattle.pg_digest.specs.declared.kinds.HashKind.{HashKind}
use Rattle.pg_digest.specs.declared.kinds.HashKind.TheVariants.{Sha256}
use Rattle.macho_slices.specs.Layout.{form_of}
use Rattle.macho_slices.specs.declared.form.Form.TheVariants.{Thin}
use Rattle.macho_slices.specs.Rules as fat
use Rattle.macho_cmds.specs.declared.mach_image.Image.{Image}
use Rattle.macho_cmds.specs.Layout.{commands_end, signature_range}
use Rattle.macho_cmds.specs.Rules.{signature_place}
use Rattle.macho_cmds.specs.Rules as macho
use Rattle.macho_cmds.specs.Images.{image_of}
use Rattle.cs_superblob.specs.declared.entries.Seat.{Seat}
use Rattle.cs_directory.specs.HashPages.{bytes_of}
use Rattle.cs_directory.specs.declared.hash_page.HashPage.{HashPage}
use Rattle.cs_directory.specs.Fields.{Fields}
use Rattle.cs_directory.specs.Directory.{slot_at, special_at, ident_at, flag_mask, cdhash, directory_in}
use Rattle.cs_directory.specs.Rules as directory_rules
use Rattle.cs_blob.specs.Candidates.{best, candidate}
use Rattle.cs_blob.specs.Rules.{special_rule, cms_rule}
use Rattle.cs_blob.specs.Rules as signed_rules
use Rattle.cs_blob.specs.Signed as blobs
use Rattle.cs_verify.specs.declared.report.BadPage.{BadPage}
use Rattle.cs_verify.specs.declared.report.SliceReport.{SliceReport}
use Rattle.cs_verify.specs.declared.report.SliceReport.TheVariants.{Accepted}
use Rattle.cs_verify.specs.Pages.{hash_page, bad_page, bad_between, bad_pages, pages_of}
use Rattle.cs_verify.specs.Report.{accepted, slice_report, report}
use Rattle.cs_sign.specs.declared.plan.Plan.{Plan}
use Rattle.cs_sign.specs.Blobs.{Part, superblob, parts_length}
use Rattle.cs_sign.specs.Body.{body}
use Rattle.cs_sign.specs.Directory.{directory, special_hash}
use Rattle.cs_sign.specs.Plans.{plan_of}
use Rattle.cs_sign.specs.Requests as requests
use Rattle.cs_sign.specs.Requests.{Request, data_size, where_entitled, super_size}
use Rattle.cs_sign.specs.Rules.{whole, own_rules, IsSized}
use Rattle.cs_sign.specs.Signed.{requirements, entitlements, wrapper, beside, parts_with, signature, signed}
use Rattle.cs_sign.specs.Verified.{slice_of, accepted_slice, IsVerified}
use Rattle.cs_sign.proofs.SizeFacts.{HasSizes, length-blob, length-superblob, parts_length-is, parts_count-is}
use Rattle.cs_sign.proofs.RoomFacts.{bytes_in-whole, length-body}
use Rattle.cs_sign.proofs.TableFacts.{IsBlob, IsBlob-blob, part-held, sig-magic, sig-length, sig-count, sig-long, seated}
use Rattle.cs_sign.proofs.LaidFacts.{IsFront, three-listed, four-listed, best-is, blob-kept, directory-fine, cms-fine, fit-fine, special-all, special-fine, special-none}
use Rattle.cs_sign.proofs.DirectoryFacts.{dir-told, dir-flags, dir-specials, dir-codes, dir-kind, dir-page, dir-limit, dir-kept, dir-named, dir-cdhash, dir-special, dir-slot}
use Rattle.cs_sign.proofs.SignableFacts.{IsSignable-from}
use Rattle.cs_sign.proofs.MadeFacts.{IsSignable, header-kept, signature-found, signature-lies, image-kept, length-made}

-- ---- the signature

-- A signature of a slice is accepted, and its best code directory has these bytes.
record IsReadBack (hash : Hash) (bytes : List ℕ) (slice : Range) (dir : List ℕ) : Type 0 where
  pub unbroken : signed_rules.broken hash bytes slice None ≡ None
  pub held : bytes_in bytes (best bytes).seat.range ≡ dir
  pub fields : (best bytes).directory ≡ directory_in dir

-- What is known of the code directory, for so many special slots.
record IsSound (hash : Hash) (dir : List ℕ) (slice : Range) (specials : ℕ) : Type 0 where
  pub blob : IsBlob dir
  pub kept : directory_rules.broken dir ≡ None
  pub kind : (directory_in dir).kind ≡ Sha256
  pub limit : (directory_in dir).limit ≤ slice.len
  pub slots : (directory_in dir).special_slots ≡ specials

-- the first entry is that of the best directory
read-back : (hash : Hash) (bytes dir : List ℕ) (slice : Range) (front : Seat) → best bytes ≡ candidate bytes front → bytes_in bytes front.range ≡ dir → signed_rules.broken hash bytes slice None ≡ None → IsReadBack hash bytes slice dir
unfolding candidate
read-back hash bytes dir slice front best_is held unbroken = record {
  unbroken = unbroken;
  held = rw best_is held;
  fields = rw (best_is, held) refl;
}

requirements-blob : IsBlob requirements.bytes
requirements-blob = IsBlob-blob 0xfade0c01 (replicate 4 0) (omega arith)

wrapper-blob : IsBlob wrapper.bytes
wrapper-blob = IsBlob-blob 0xfade0b01 [] (omega arith)

wrapper-long : length wrapper.bytes ≡ 8
wrapper-long = length-blob 0xfade0b01 []

-- the SuperBlob of these blobs, of which the first is the directory
front-of : (parts : List Part) (zeros : List ℕ) → (12 + 8 * length parts) + parts_length parts < 2 ^ 32 → length parts ≤ 4 → IsFront (superblob parts ++ zeros) (length parts)
front-of parts zeros fits few = record {
  magic = sig-magic parts zeros fits;
  count = sig-count parts zeros fits;
  table = omega (arith, sig-length parts zeros fits);
  within = omega (arith, sig-length parts zeros fits, sig-long parts zeros fits);
  few = few;
}

module _ (hash : Hash) (dir zeros : List ℕ) (slice : Range) (required : special_at dir 2 ≡ hash Sha256 requirements.bytes) where
  abbrev first_part : Part
  first_part = record { slot = 0; bytes = dir }

  abbrev three_parts : List Part
  three_parts = first_part ∷ requirements ∷ wrapper ∷ []

  abbrev three_sig : List ℕ
  three_sig = superblob three_parts ++ zeros

  three-read : IsSound hash dir slice 2 → (12 + 8 * length three_parts) + parts_length three_parts < 2 ^ 32 → IsReadBack hash three_sig slice dir
  three-read sound fits =
      let s0 = seated three_parts zeros fits [] (requirements ∷ wrapper ∷ []) first_part 0 refl refl (omega arith) sound.blob in
      let s1 = seated three_parts zeros fits (first_part ∷ []) (wrapper ∷ []) requirements 1 refl refl (omega arith) requirements-blob in
      let s2 = seated three_parts zeros fits (first_part ∷ requirements ∷ []) [] wrapper 2 refl refl (omega arith) wrapper-blob in
      let known = three-listed three_sig _ _ _ dir requirements.bytes wrapper.bytes (front-of three_parts zeros fits (omega arith)) s0 s1 s2 in
      let two = special-fine hash three_sig dir requirements.bytes _ _ _ 2 refl s0.holds s1.holds sound.kind (omega (arith, sound.slots)) required in
      let none = special-none hash three_sig _ _ in
      read-back hash three_sig dir slice _ (best-is three_sig _ _ known) s0.holds
      (blob-kept three_sig _ _ known hash slice
      (directory-fine three_sig dir _ s0.holds sound.kept)
      (cms-fine _ _ refl wrapper-long)
      (special-all _ (none 1 refl) two (none 3 refl) (none 4 refl) (none 5 refl) (none 6 refl) (none 7 refl) (none 8 refl) (none 9 refl) (none 10 refl) (none 11 refl))
      (fit-fine three_sig dir _ slice s0.holds sound.limit))

  abbrev four_parts : List ℕ → List Part
  four_parts given = first_part ∷ requirements ∷ entitlements given ∷ wrapper ∷ []

  abbrev four_sig : List ℕ → List ℕ
  four_sig given = superblob (four_parts given) ++ zeros

  four-read : (given : List ℕ) → length given ≤ 65536 → special_at dir 5 ≡ hash Sha256 (entitlements given).bytes → IsSound hash dir slice 5 → (12 + 8 * length (four_parts given)) + parts_length (four_parts given) < 2 ^ 32 → IsReadBack hash (four_sig given) slice dir
  four-read given short entitled sound fits =
      let parts = four_parts given in
      let sig = four_sig given in
      let s0 = seated parts zeros fits [] (requirements ∷ entitlements given ∷ wrapper ∷ []) first_part 0 refl refl (omega arith) sound.blob in
      let s1 = seated parts zeros fits (first_part ∷ []) (entitlements given ∷ wrapper ∷ []) requirements 1 refl refl (omega arith) requirements-blob in
      let s2 = seated parts zeros fits (first_part ∷ requirements ∷ []) (wrapper ∷ []) (entitlements given) 2 refl refl (omega arith) (IsBlob-blob 0xfade7171 given (omega (arith, short))) in
      let s3 = seated parts zeros fits (first_part ∷ requirements ∷ entitlements given ∷ []) [] wrapper 3 refl refl (omega arith) wrapper-blob in
      let known = four-listed sig _ _ _ _ dir requirements.bytes (entitlements given).bytes wrapper.bytes (front-of parts zeros fits (omega arith)) s0 s1 s2 s3 in
      let two = special-fine hash sig dir requirements.bytes _ _ _ 2 refl s0.holds s1.holds sound.kind (omega (arith, sound.slots)) required in
      let five = special-fine hash sig dir (entitlements given).bytes _ _ _ 5 refl s0.holds s2.holds sound.kind (omega (arith, sound.slots)) entitled in
      let none = special-none hash sig _ _ in
      read-back hash sig dir slice _ (best-is sig _ _ known) s0.holds
      (blob-kept sig _ _ known hash slice
      (directory-fine sig dir _ s0.holds sound.kept)
      (cms-fine _ _ refl wrapper-long)
      (special-all _ (none 1 refl) two (none 3 refl) (none 4 refl) five (none 6 refl) (none 7 refl) (none 8 refl) (none 9 refl) (none 10 refl) (none 11 refl))
      (fit-fine sig dir _ slice s0.holds sound.limit))

-- ---- the pages

no-less : (n : ℕ) → n - 0 ≡ n
no-less n = omega arith

none-bad : (rule : ℕ → Option BadPage) (a n : ℕ) → ((i : ℕ) → i < a + n → rule i ≡ None) → filter_map rule (range_with_len a n) ≡ []
none-bad rule a zero none = refl
none-bad rule a (suc n) none = rw (none a (omega arith)) (none-bad rule (a + 1) n (λ i lt. none i (omega arith)))

page-fine : (hash : Hash) (fields : Fields) (dir signed : List ℕ) (i : ℕ) → i < fields.code_slots → slot_at dir i ≡ hash fields.kind (hash_page (bytes_of fields.page) signed i) → bad_page hash fields dir signed i ≡ None
unfolding bad_page
page-fine hash fields dir signed i lt slot =
    let has : nat_lt i fields.code_slots ≡ true = lt-ltb _ _ lt in
    rw (has, slot, nat_list_eq_equiv.refl (hash fields.kind (hash_page (bytes_of fields.page) signed i))) refl

-- ---- one slice

slice-step : (hash : Hash) (made sig : List ℕ) (slice : Range) → macho.broken made slice ≡ None → bytes_in made slice ≡ made → bytes_in made (image_of made).sig ≡ sig → signed_rules.broken hash sig slice None ≡ None → slice_report hash made slice ≡ accepted hash made (image_of made) (blobs.signature hash sig slice None)
unfolding slice_report
slice-step hash made sig slice kept all sig_is unbroken = rw (kept, all, sig_is, unbroken) refl

-- what is told of a code directory
abbrev told_of : Hash → List ℕ → Image → Fields → List ℕ → SliceReport
told_of hash made image fields dir =
    Accepted image.cputype image.cpusubtype image.filetype (cdhash hash dir) fields.kind (bit_and fields.flags flag_mask)
    fields.limit fields.code_slots (ident_at dir) (bad_pages hash fields dir made) (pages_of fields)

accepted-step : (hash : Hash) (made sig dir : List ℕ) (slice : Range) (image : Image) → IsReadBack hash sig slice dir → accepted hash made image (blobs.signature hash sig slice None) ≡ told_of hash made image (directory_in dir) dir
unfolding blobs.signature
accepted-step hash made sig dir slice image back =
    ap (λ (fields : Fields). told_of hash made image fields (bytes_in sig (best sig).seat.range)) back.fields
    ∙ ap (λ (held : List ℕ). told_of hash made image (directory_in dir) held) back.held

-- reports that say the same
same-report : (a a1 b b1 c c1 : ℕ) (d d1 : List ℕ) (e e1 : HashKind) (f f1 g g1 h h1 : ℕ) (i i1 : List ℕ) (j j1 : List BadPage) (k k1 : ℕ) → a ≡ a1 → b ≡ b1 → c ≡ c1 → d ≡ d1 → e ≡ e1 → f ≡ f1 → g ≡ g1 → h ≡ h1 → i ≡ i1 → j ≡ j1 → k ≡ k1 → Accepted a b c d e f g h i j k ≡ Accepted a1 b1 c1 d1 e1 f1 g1 h1 i1 j1 k1
same-report a a1 b b1 c c1 d d1 e e1 f f1 g g1 h h1 i i1 j j1 k k1 pa pb pc pd pe pf pg ph pi pj pk =
    rw (pa, pb, pc, pd, pe, pf, pg, ph, pi, pj, pk) refl

thin-is : (made : List ℕ) → le32_at made 0 ≡ 0xfeedfacf → form_of made ≡ Some Thin
thin-is made magic = rw magic refl

thin-kept : (made : List ℕ) → 4 ≤ length made → form_of made ≡ Some Thin → fat.broken made ≡ None
unfolding fat.broken
thin-kept made long thin =
    let short : nat_lt (length made) 4 ≡ false = le-ltb _ _ long in
    rw (short, thin) refl

thin-report : (hash : Hash) (made : List ℕ) (said : SliceReport) → form_of made ≡ Some Thin → slice_report hash made (whole made) ≡ said → report hash made ≡ said ∷ []
thin-report hash made said thin is = rw (thin, is) refl

masked : bit_and 2 flag_mask ≡ 2
masked = refl

sig-is : (made : List ℕ) (at : ℕ) → signature_place made ≡ Some at → (image_of made).sig ≡ signature_range made at
unfolding image_of
sig-is made at found = rw found refl

cputype-is : (made : List ℕ) → (image_of made).cputype ≡ le32_at made 4
unfolding image_of
cputype-is made = refl

cpusubtype-is : (made : List ℕ) → (image_of made).cpusubtype ≡ le32_at made 8
unfolding image_of
cpusubtype-is made = refl

filetype-is : (made : List ℕ) → (image_of made).filetype ≡ le32_at made 12
unfolding image_of
filetype-is made = refl

module _ (hash : Hash) (sizes : HasSizes hash) (bytes : List ℕ) (request : Request) (plan : Plan) (known : IsSignable bytes plan) (sized : IsSized request plan.limit) where
  abbrev size : ℕ
  size = data_size request plan.limit

  abbrev text : List ℕ
  text = body bytes plan size

  abbrev parts : List Part
  parts = parts_with hash request plan text

  abbrev zeros : List ℕ
  zeros = replicate (size - length (superblob parts)) 0

  abbrev sig : List ℕ
  sig = superblob parts ++ zeros

  abbrev made : List ℕ
  made = text ++ sig

  abbrev dir : List ℕ
  dir = directory hash request plan (beside request.entitlements) text

  text-long : length text ≡ plan.limit
  text-long = length-body bytes plan size known.room

  super-long : (12 + 8 * length parts) + parts_length parts ≡ super_size request plan.limit
  super-long = omega (arith, parts_count-is hash request plan text, parts_length-is hash sizes request plan text text-long)

  fits : (12 + 8 * length parts) + parts_length parts < 2 ^ 32
  fits = omega (arith, super-long, sized.within)

  sig-size : length sig ≡ size
  sig-size = omega (arith, sig-long parts zeros fits, length-superblob parts, super-long, length-replicate {A = ℕ} (size - length (superblob parts)) 0)

  made-long : length made ≡ plan.limit + size
  made-long = omega (arith, length-made bytes plan size sig known, sig-size)

  short : plan.limit + size < 2 ^ 32
  short = omega (arith, sized.within)

  sound : (specials : ℕ) → requests.special_slots request ≡ specials → IsSound hash dir (whole made) specials
  sound specials is = record {
    blob = dir-told hash sizes request plan (beside request.entitlements) text text-long sized;
    kept = dir-kept hash sizes request plan (beside request.entitlements) text text-long sized;
    kind = dir-kind hash sizes request plan (beside request.entitlements) text text-long sized;
    limit = omega (arith, dir-limit hash sizes request plan (beside request.entitlements) text text-long sized, made-long);
    slots = dir-specials hash sizes request plan (beside request.entitlements) text text-long sized ∙ is;
  }

  sig-read : (given : Option (List ℕ)) → request.entitlements ≡ given → IsReadBack hash sig (whole made) dir
  sig-read None is =
      let P : Option (List ℕ) → Type 0 = λ o. IsReadBack hash (superblob (record { slot = 0; bytes = dir } ∷ beside o) ++ zeros) (whole made) dir in
      let Q : Option (List ℕ) → Type 0 = λ o. (12 + 8 * length (record { slot = 0; bytes = dir } ∷ beside o)) + parts_length (record { slot = 0; bytes = dir } ∷ beside o) < 2 ^ 32 in
      let slots : requests.special_slots request ≡ 2 = ap (where_entitled 5 2) is in
      let required : special_at dir 2 ≡ hash Sha256 requirements.bytes =
      dir-special hash sizes request plan (beside request.entitlements) text text-long sized 2 (omega (arith, slots)) (omega arith) ∙ ap (λ (o : Option (List ℕ)). special_hash hash (beside o) 2) is in
      subst P (sym is) (three-read hash dir zeros (whole made) required (sound 2 slots) (subst Q is fits))
  sig-read (Some given) is =
      let P : Option (List ℕ) → Type 0 = λ o. IsReadBack hash (superblob (record { slot = 0; bytes = dir } ∷ beside o) ++ zeros) (whole made) dir in
      let Q : Option (List ℕ) → Type 0 = λ o. (12 + 8 * length (record { slot = 0; bytes = dir } ∷ beside o)) + parts_length (record { slot = 0; bytes = dir } ∷ beside o) < 2 ^ 32 in
      let slots : requests.special_slots request ≡ 5 = ap (where_entitled 5 2) is in
      let given_short : length given ≤ 65536 = subst (λ (o : Option (List ℕ)). requests.entitled_length o ≤ 65536) is sized.modest.entitlements in
      let required : special_at dir 2 ≡ hash Sha256 requirements.bytes =
      dir-special hash sizes request plan (beside request.entitlements) text text-long sized 2 (omega (arith, slots)) (omega arith) ∙ ap (λ (o : Option (List ℕ)). special_hash hash (beside o) 2) is in
      let entitled : special_at dir 5 ≡ hash Sha256 (entitlements given).bytes =
      dir-special hash sizes request plan (beside request.entitlements) text text-long sized 5 (omega (arith, slots)) (omega arith) ∙ ap (λ (o : Option (List ℕ)). special_hash hash (beside o) 5) is in
      subst P (sym is) (four-read hash dir zeros (whole made) required given given_short entitled (sound 5 slots) (subst Q is fits))

  -- the pages
  pages-are : pages_of (directory_in dir) ≡ requests.code_slots request plan.limit
  pages-are =
      ap (λ (n : ℕ). div_ceil n (bytes_of (directory_in dir).page)) (dir-limit hash sizes request plan (beside request.entitlements) text text-long sized)
      ∙ ap (λ (p : HashPage). div_ceil plan.limit (bytes_of p)) (dir-page hash sizes request plan (beside request.entitlements) text text-long sized)

  signed-bytes : take (directory_in dir).limit made ≡ text
  signed-bytes =
      ap (λ (n : ℕ). take n made) (dir-limit hash sizes request plan (beside request.entitlements) text text-long sized)
      ∙ take_at text sig plan.limit text-long

  none-bad-pages : bad_pages hash (directory_in dir) dir made ≡ []
  unfolding bad_pages bad_between
  none-bad-pages =
      ap (λ (n : ℕ). filter_map (bad_page hash (directory_in dir) dir (take (directory_in dir).limit made)) (range_with_len 0 n)) (no-less (pages_of (directory_in dir)))
      ∙ none-bad _ 0 (pages_of (directory_in dir)) (λ i lt.
      let codes_are = dir-codes hash sizes request plan (beside request.entitlements) text text-long sized in
      let few : i < requests.code_slots request plan.limit = omega (arith, lt, pages-are) in
      page-fine hash (directory_in dir) dir (take (directory_in dir).limit made) i (omega (arith, few, codes_are))
      (dir-slot hash sizes request plan (beside request.entitlements) text text-long sized i few
      ∙ ap (λ (p : HashPage). hash Sha256 (hash_page (bytes_of p) text i)) (sym (dir-page hash sizes request plan (beside request.entitlements) text text-long sized))
      ∙ ap (λ (k : HashKind). hash k (hash_page (bytes_of (directory_in dir).page) text i)) (sym (dir-kind hash sizes request plan (beside request.entitlements) text text-long sized))
      ∙ ap (λ (xs : List ℕ). hash (directory_in dir).kind (hash_page (bytes_of (directory_in dir).page) xs i)) (sym signed-bytes)))

  sig-held : bytes_in made (image_of made).sig ≡ sig
  sig-held =
      ap (bytes_in made) (sig-is made plan.signature (signature-found bytes plan size sig known) ∙ signature-lies bytes plan size sig known short)
      ∙ ap (λ (n : ℕ). bytes_in made (record { at = plan.limit; len = n })) (sym sig-size)
      ∙ ap (λ (xs : List ℕ). bytes_in (text ++ xs) (record { at = plan.limit; len = length sig })) (sym (append-nil sig))
      ∙ part-held text sig [] plan.limit text-long

  thin : form_of made ≡ Some Thin
  thin = thin-is made (header-kept bytes plan size sig known 0 (omega arith) ∙ known.magic)

  -- what the verifier says of it
  pub made-verified : (image : Image) → image ≡ image_of bytes → (fat.broken made ≡ None) × (report hash made ≡ slice_of hash bytes request image plan ∷ [])
  made-verified image image_is =
      let back = sig-read request.entitlements refl in
      let kept = image-kept bytes plan size sig known (sym sig-size) short in
      let said = slice-step hash made sig (whole made) kept (bytes_in-whole made) sig-held back.unbroken ∙ accepted-step hash made sig dir (whole made) (image_of made) back in
      let flags : bit_and (directory_in dir).flags flag_mask ≡ 2 = ap (λ (n : ℕ). bit_and n flag_mask) (dir-flags hash sizes request plan (beside request.entitlements) text text-long sized) ∙ masked in
      let same = same-report _ image.cputype _ image.cpusubtype _ image.filetype _ (take 20 (hash Sha256 dir)) _ Sha256 _ 2 _ plan.limit _ (requests.code_slots request plan.limit) _ request.ident _ [] _ (requests.code_slots request plan.limit)
      (cputype-is made ∙ header-kept bytes plan size sig known 4 (omega arith) ∙ sym (cputype-is bytes) ∙ ap (λ (i : Image). i.cputype) (sym image_is))
      (cpusubtype-is made ∙ header-kept bytes plan size sig known 8 (omega arith) ∙ sym (cpusubtype-is bytes) ∙ ap (λ (i : Image). i.cpusubtype) (sym image_is))
      (filetype-is made ∙ header-kept bytes plan size sig known 12 (omega arith) ∙ sym (filetype-is bytes) ∙ ap (λ (i : Image). i.filetype) (sym image_is))
      (dir-cdhash hash sizes request plan (beside request.entitlements) text text-long sized)
      (dir-kind hash sizes request plan (beside request.entitlements) text text-long sized)
      flags
      (dir-limit hash sizes request plan (beside request.entitlements) text text-long sized)
      (dir-codes hash sizes request plan (beside request.entitlements) text text-long sized)
      (dir-named hash sizes request plan (beside request.entitlements) text text-long sized)
      none-bad-pages
      pages-are in
      (thin-kept made (omega (arith, made-long, known.ends)) thin, thin-report hash made _ thin (said ∙ same))

-- the signed file
pub verified-signed : (hash : Hash) → HasSizes hash → (bytes : List ℕ) (request : Request) → IsSignable bytes (plan_of (image_of bytes)) → IsSized request (plan_of (image_of bytes)).limit → IsVerified hash bytes request (signed hash bytes request)
unfolding signed signature accepted_slice
verified-signed hash sizes bytes request known sized =
    let both = made-verified hash sizes bytes request (plan_of (image_of bytes)) known sized (image_of bytes) refl in
    record { unbroken = both.0; accepted = both.1 }

-- the same for the plan of the call
pub verified-along : (hash : Hash) → HasSizes hash → (bytes : List ℕ) (request asked : Request) (image : Image) (plan : Plan) (final : List ℕ) → macho.broken bytes (whole bytes) ≡ None → first (own_rules (image_of bytes) (length bytes) (commands_end bytes) request) ≡ None → image ≡ image_of bytes → image.sig.at + image.sig.len ≤ length bytes → plan ≡ plan_of image → asked ≡ request → IsSized asked plan.limit → final ≡ signed hash bytes request → IsVerified hash bytes request final
verified-along hash sizes bytes request asked image plan final kept own is inside plan_is asked_is sized final_is =
    rw final_is (verified-signed hash sizes bytes request
    (IsSignable-from bytes request kept own (subst (λ (i : Image). i.sig.at + i.sig.len ≤ length bytes) is inside))
    (subst (λ (r : Request). IsSized r (plan_of (image_of bytes)).limit) asked_is (subst (λ (i : Image). IsSized asked (plan_of i).limit) is (subst (λ (p : Plan). IsSized asked p.limit) plan_is sized))))
