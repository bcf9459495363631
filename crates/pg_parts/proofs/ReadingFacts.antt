-- The signature that an attach names was read: its bytes are found by the stamp.
use Rattle.std.proofs.Common.{◌≡◌, ◌⊎◌, ℕ, Bool, true, false, List, [], ◌∷◌, Option, Some, None, refl, sym, ap, subst, ◌∙◌, arith, inl, inr}
use Rattle.std.specs.Prelude.{◌==◌, filter, unwrap_or, if◌then◌else◌}
use Rattle.std.specs.Option.{option_map}
use Rattle.std.specs.List.{AllByRecursion}
use Rattle.std.proofs.lemmas.Grind.{common_steps}
use Rattle.pg_digest.specs.Kinds.{Hash}
use Rattle.cs_policy.specs.declared.file.FileEvent.TheVariants as file
use Rattle.cs_policy.specs.declared.file.FileReply.{FileReply}
use Rattle.cs_policy.specs.declared.file.FileReply.TheVariants as file_reply
use Rattle.cs_policy.specs.declared.entry.Event.{Event}
use Rattle.cs_policy.specs.declared.entry.Event.TheVariants as event
use Rattle.cs_policy.specs.declared.entry.Reply.{Reply}
use Rattle.cs_policy.specs.declared.entry.Reply.TheVariants as reply
use Rattle.pg_history.specs.Machine.{Line, Reading, FilePart, reading_at, slice_read, bytes_read, with_reading, part_step}
use Rattle.pg_history.specs.ByParts.{file_answer, FileAnswers}
use Rattle.pg_history.proofs.ListFacts.{find-front, find-last, all-append}
use Rattle.pg_parts.specs.Replays.{file_after}

-- the element stands in the list
abbrev pub IsIn : {X : Type 0} → X → List X → Type 0
IsIn x [] = ⊥
IsIn x (y ∷ ys) = (y ≡ x) ⊎ IsIn x ys

pub in-filter : {X : Type 0} (test : X → Bool) (x : X) (xs : List X) → test x ≡ true → IsIn x xs → IsIn x (filter test xs)
in-filter test x [] passes is = absurd is
in-filter test x (y ∷ ys) passes (inl same) =
    subst (λ b. IsIn x (if b then y ∷ filter test ys else filter test ys)) (sym (ap test same ∙ passes)) (inl same)
in-filter test x (y ∷ ys) passes (inr later) = by_test (test y) (in-filter test x ys passes later)
  where
    by_test : (b : Bool) → IsIn x (filter test ys) → IsIn x (if b then y ∷ filter test ys else filter test ys)
    by_test true rest = inr rest
    by_test false rest = rest

-- the reading has another stamp
abbrev IsOther : ℕ → Reading → Type 0
IsOther stamp reading = (reading.stamp == stamp) ≡ false

module _ (stamp : ℕ) where
  kept_reading : (at : ℕ) (slice : Option ℕ) (bytes : Option (List ℕ)) (readings : List Reading) (r : Reading) → reading_at readings stamp ≡ Some r
      → reading_at (with_reading at slice bytes readings) stamp ≡ Some r
  kept_reading at (Some slice) (Some bytes) readings r found = find-front (λ reading. reading.stamp == stamp) readings (record { stamp = at; slice = slice; bytes = bytes } ∷ []) r found
  kept_reading at (Some slice) None readings r found = found
  kept_reading at None bytes readings r found = found

  other_readings : (at : ℕ) (slice : Option ℕ) (bytes : Option (List ℕ)) (readings : List Reading) → (at == stamp) ≡ false → AllByRecursion (IsOther stamp) readings
      → AllByRecursion (IsOther stamp) (with_reading at slice bytes readings)
  other_readings at (Some slice) (Some bytes) readings apart all = all-append (IsOther stamp) readings (record { stamp = at; slice = slice; bytes = bytes } ∷ []) all (apart, tt)
  other_readings at (Some slice) None readings apart all = all
  other_readings at None bytes readings apart all = all

  module _ (hash : Hash) where
    abbrev next_of : FilePart → ℕ → Event → FilePart
    next_of part at e = unwrap_or (option_map (λ a. a.1) (file_answer hash part at e)) part

    keeps_found : (part : FilePart) (at : ℕ) (e : Event) (r : Reading) → reading_at part.readings stamp ≡ Some r → reading_at (next_of part at e).readings stamp ≡ Some r
    keeps_found part at (event.File fe) r found = kept_reading at (slice_read fe) (bytes_read (part_step hash at part fe).0) part.readings r found
    keeps_found part at (event.Proc pe) r found = found
    keeps_found part at (event.Trust te) r found = found

    keeps_other : (part : FilePart) (at : ℕ) (e : Event) → (at == stamp) ≡ false → AllByRecursion (IsOther stamp) part.readings → AllByRecursion (IsOther stamp) (next_of part at e).readings
    keeps_other part at (event.File fe) apart all = other_readings at (slice_read fe) (bytes_read (part_step hash at part fe).0) part.readings apart all
    keeps_other part at (event.Proc pe) apart all = all
    keeps_other part at (event.Trust te) apart all = all

    -- what was found is found after more entries
    found_later : (part : FilePart) (es : List Line) (r : Reading) → reading_at part.readings stamp ≡ Some r → reading_at (file_after hash part es).readings stamp ≡ Some r
    found_later part [] r found = found
    found_later part (e ∷ es) r found = found_later (next_of part e.stamp e.entry.event) es r (keeps_found part e.stamp e.entry.event r found)

    module _ (x : Line) (slice : ℕ) (bytes : List ℕ) (has : x.stamp ≡ stamp) (is : x.entry.event ≡ event.File (file.ReadSignature slice)) (gave : x.entry.reply ≡ reply.File (file_reply.Read bytes)) where
      abbrev the_reading : Reading
      the_reading = record { stamp = stamp; slice = slice; bytes = bytes }

      same_reply : (a b : FileReply) → ◌≡◌ {A = Option Reply} (Some (reply.File a)) (Some (reply.File b)) → a ≡ b
      same_reply a b e = grind (arith, common_steps, e)

      new_found : (part : FilePart) → option_map (λ a. reply.File a.0) (file_answer hash part x.stamp x.entry.event) ≡ Some x.entry.reply
          → AllByRecursion (IsOther stamp) part.readings → reading_at (next_of part x.stamp x.entry.event).readings stamp ≡ Some the_reading
      new_found part answers others =
          let replied : (part_step hash x.stamp part (file.ReadSignature slice)).0 ≡ file_reply.Read bytes =
          same_reply _ _ (sym (ap (λ v. option_map (λ (a : FileReply × FilePart). reply.File a.0) (file_answer hash part x.stamp v)) is) ∙ answers ∙ ap (λ (r : Reply). Some r) gave) in
          ap (λ v. reading_at (next_of part x.stamp v).readings stamp) is
          ∙ ap (λ r. reading_at (with_reading x.stamp (Some slice) (bytes_read r) part.readings) stamp) replied
          ∙ ap (λ n. reading_at (with_reading n (Some slice) (Some bytes) part.readings) stamp) has
          ∙ find-last (λ reading. reading.stamp == stamp) part.readings the_reading others (grind (arith, common_steps))

      -- the only entry with the stamp is the one that read the bytes
      pub reading-found : (part : FilePart) (es : List Line) → FileAnswers hash part es → AllByRecursion (λ e. e.stamp ≡ stamp → e ≡ x) es → IsIn x es
          → AllByRecursion (IsOther stamp) part.readings → reading_at (file_after hash part es).readings stamp ≡ Some the_reading
      reading-found part [] answers only there others = absurd there
      reading-found part (e ∷ es) answers only there others = by_stamp (e.stamp == stamp) refl (reading-found (next_of part e.stamp e.entry.event) es answers.1 only.1)
        where
          later : (e.stamp == stamp) ≡ false → (e ≡ x) ⊎ IsIn x es → IsIn x es
          later apart (inl same) = absurd (grind (arith, common_steps, apart, ap (λ (l : Line). l.stamp) same, has))
          later apart (inr there) = there

          by_stamp : (b : Bool) → (e.stamp == stamp) ≡ b
              → (IsIn x es → AllByRecursion (IsOther stamp) (next_of part e.stamp e.entry.event).readings → reading_at (file_after hash (next_of part e.stamp e.entry.event) es).readings stamp ≡ Some the_reading)
              → reading_at (file_after hash part (e ∷ es)).readings stamp ≡ Some the_reading
          by_stamp true same rest =
              let is_x : e ≡ x = only.0 (grind (arith, common_steps, same)) in
              found_later (next_of part e.stamp e.entry.event) es the_reading
              (subst (λ (l : Line). reading_at (next_of part l.stamp l.entry.event).readings stamp ≡ Some the_reading) (sym is_x)
              (new_found part (subst (λ (l : Line). option_map (λ (a : FileReply × FilePart). reply.File a.0) (file_answer hash part l.stamp l.entry.event) ≡ Some l.entry.reply) is_x answers.0) others))
          by_stamp false apart rest = rest (later apart there) (keeps_other part e.stamp e.entry.event apart others)
