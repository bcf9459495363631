-- What is known of a machine before its first event.
use Rattle.std.proofs.Common.{◌≡◌, ◌<◌, ℕ, true, List, [], length, Option, Some, refl, sym, ap, subst, ◌∙◌, arith}
use Rattle.std.specs.Prelude.{slice_get}
use Rattle.std.specs.Option.{option_map, option_map_or, option_and_then}
use Rattle.std.specs.List.{AllByRecursion}
use Rattle.std.proofs.lemmas.Grind.{common_steps}
use Rattle.std.proofs.lemmas.Option.{slice_get-map}
use Rattle.pg_digest.specs.Kinds.{Hash}
use Rattle.cs_policy.specs.declared.layout.Layout.{Layout}
use Rattle.pg_plain.specs.PlainFile.{Attached, PlainFile, opened}
use Rattle.pg_plain.specs.Keep.{Keep}
use Rattle.pg_process.specs.ProcessStep.{PlainProcess}
use Rattle.pg_history.specs.Machine.{FilePart, signed_range}
use Rattle.pg_history.specs.Opening.{Opening, FileNumbers, IsFresh, IsOpening, numbers_of, range_of, seat_in}
use Rattle.pg_history.specs.Content.{Told, opening_pages}
use Rattle.pg_sealing.proofs.UnguardedFacts.{executes_unguarded}
use Rattle.pg_sealing.proofs.ProcessFacts.{HasNumber}
use Rattle.pg_sealing.proofs.Holds.{untold, IsOwned, FileHolds, Holds}

opened_keep : (hash : Hash) (size bytes limit : ℕ) (pages : List (List ℕ)) (layout : Layout) → 0 < limit → Keep hash (opened size bytes limit pages layout)
opened_keep hash size bytes limit pages layout some = record {
  is_sealed = λ id page e. absurd cc;
  unshared = λ id other page e f. absurd cc;
  uncopied = λ id page e. absurd cc;
  copied = λ id page e f. absurd cc;
  private_copies = λ id page e. absurd cc;
  at_hand = λ id page e f. absurd cc;
  records_stand = λ id page e. absurd cc;
  some = some;
  few = omega arith;
  blobs_fit = grind (arith, common_steps);
  one_cover = grind (arith, common_steps);
}

module _ (hash : Hash) (o : Opening) (opens : IsOpening o) where
  module _ (number : ℕ) (part : FilePart) (there : slice_get o.machine.files number ≡ Some part) where
    fresh_part : IsFresh o.page_size part
    fresh_part = opens.files number part there

    abbrev plain : PlainFile
    plain = opened o.page_size part.file.length part.file.limit part.file.pages part.file.layout

    ranges : (slice : ℕ) → range_of (numbers_of o) number slice ≡ signed_range (seat_in slice part.file.layout)
    ranges slice = ap (λ (known : Option FileNumbers). signed_range (option_and_then (λ k. seat_in slice k.layout) known))
        (slice_get-map (λ (p : FilePart). record { pages = length p.file.pages; layout = p.file.layout }) o.machine.files number
        ∙ ap (option_map (λ (p : FilePart). record { pages = length p.file.pages; layout = p.file.layout })) there)

    pages_are : opening_pages o number ≡ part.file.pages
    pages_are = ap (λ (p : Option FilePart). option_map_or (λ p. p.file.pages) p []) there

    told_is : ◌≡◌ {A = Told} (untold o number) (record { pages = part.file.pages; regions = part.file.regions })
    told_is = rw (pages_are, ap (λ (f : PlainFile). f.regions) fresh_part.file) refl

    no_blob : (k : ℕ) (attached : Attached) → slice_get part.file.blobs k ≡ Some attached → ⊥
    no_blob k attached e =
        let none : slice_get {X = Attached} [] k ≡ Some attached = sym (ap (λ (f : PlainFile). slice_get f.blobs k) fresh_part.file) ∙ e in
        absurd (grind (arith, common_steps, none))

    opening_file_holds : FileHolds hash o [] o.machine number part
    opening_file_holds = record {
      keep = subst (Keep hash) (sym fresh_part.file) (opened_keep hash o.page_size part.file.length part.file.limit part.file.pages part.file.layout fresh_part.some);
      page_size = ap (λ (f : PlainFile). f.page_size) fresh_part.file;
      ranges = ranges;
      content = told_is;
      readings = λ k e slice bytes stands at is gives. absurd (grind (arith, common_steps, stands));
      early = subst (AllByRecursion (λ reading. reading.stamp < 0)) (sym fresh_part.unread) tt;
      admitted = λ k attached e. absurd (no_blob k attached e);
      owned = subst (λ (f : PlainFile). AllByRecursion IsOwned f.regions) (sym fresh_part.file) tt;
      unguarded = λ id page e p stands. absurd (none_given id page e);
    }
      where
        none_given : (id page : ℕ) → executes_unguarded part.file id page ≡ true → ⊥
        none_given id page e =
            let none : executes_unguarded plain id page ≡ true = sym (ap (λ (f : PlainFile). executes_unguarded f id page) fresh_part.file) ∙ e in
            absurd (grind (arith, common_steps, none))

  process_numbered : (number : ℕ) (p : PlainProcess) → slice_get o.machine.processes number ≡ Some p → HasNumber number p
  process_numbered number p there = subst (HasNumber number) (sym (opens.processes number p there)) (record { pid = refl; regions = λ few. tt })

  pub opening_holds : Holds hash o [] o.machine
  opening_holds = record {
    files = opening_file_holds;
    processes = process_numbered;
    resolved = λ k e pid addr access id number page flags there at is gives. absurd (grind (arith, common_steps, there));
    inserted = λ k e pid at number file_pages first pages prot shared id there where_at is gives. absurd (grind (arith, common_steps, there));
  }
