-- Taking the permission to execute from the records of one page after another.
use Rattle.std.proofs.Common.{◌≡◌, ℕ, ◌+◌, ◌≤◌, ◌==◌, Bool, true, false, Option, Some, None, refl, sym, ap, ◌∙◌, arith}
use Rattle.std.specs.Prelude.{◌&&◌, nat_le, nat_lt, if◌then◌else◌}
use Rattle.std.specs.Option.{option_map}
use Rattle.std.proofs.lemmas.Grind.{common_steps}
use Rattle.cs_policy.specs.declared.region.Record.{Record}
use Rattle.pg_regions.specs.Lookups.{record_of}
use Rattle.pg_regions.specs.RegionsNow.{RegionsNow, spare, IsSound}
use Rattle.pg_regions.specs.Steps.{without_execute, stripped, FindsStripped}
use Rattle.pg_regions.proofs.Laws.{record_page}
use Rattle.pg_plain.specs.Given.{unexecuted}
use Rattle.pg_object.specs.Strips.{Strips}

-- the records of a page as they are found after it was stripped
pub found_stripped : (old new : RegionsNow) (page : ℕ) → FindsStripped old new page → (i p : ℕ)
    → record_of new.records i p ≡ (if p == page then option_map unexecuted (record_of old.records i p) else record_of old.records i p)
found_stripped old new page found i p = found i p ∙ by_record (record_of old.records i p) refl (p == page) refl
  where
    by_record : (o : Option Record) → record_of old.records i p ≡ o → (b : Bool) → (p == page) ≡ b
        → option_map (without_execute page) o ≡ (if p == page then option_map unexecuted o else o)
    by_record None e true f = ap (λ b. if b then None else None) (sym f)
    by_record None e false f = ap (λ b. if b then None else None) (sym f)
    by_record (Some r) e b f =
        let own = record_page old.records i p r e in
        ap (λ n. Some (if n == page then record r { execute = false } else r)) own ∙ by_test b f
      where
        by_test : (b : Bool) → (p == page) ≡ b → Some (if p == page then record r { execute = false } else r) ≡ (if p == page then Some (record r { execute = false }) else Some r)
        by_test true f = ap (λ b. Some (if b then record r { execute = false } else r)) f ∙ ap (λ b. if b then Some (record r { execute = false }) else Some r) (sym f)
        by_test false f = ap (λ b. Some (if b then record r { execute = false } else r)) f ∙ ap (λ b. if b then Some (record r { execute = false }) else Some r) (sym f)

pub strips_none : (old : RegionsNow) (first : ℕ) → IsSound old → Strips old first first old
strips_none old first sound = record {
  found = λ id page. ap (λ b. if b then option_map unexecuted (record_of old.records id page) else record_of old.records id page) {x = false} {y = nat_le first page && nat_lt page first} (grind (arith, common_steps));
  others = refl;
  room = refl;
  sound = sound;
}

pub strips_more : (old mid new : RegionsNow) (first page : ℕ) → first ≤ page → Strips old first page mid → new ≡ stripped page mid → FindsStripped mid new page → spare new ≡ spare mid → IsSound new
    → Strips old first (page + 1) new
strips_more old mid new first page later so_far after found room sound = record {
  found = λ i p. found_stripped mid new page found i p ∙ by_test i p (p == page) refl (nat_le first p && nat_lt p page) refl;
  others = after ∙ ap (λ (now : RegionsNow). record mid { records = now.records }) (sym after) ∙ ap (λ (now : RegionsNow). record now { records = new.records }) so_far.others;
  room = room ∙ so_far.room;
  sound = sound;
}
  where
    by_test : (i p : ℕ) (a : Bool) → (p == page) ≡ a → (b : Bool) → (nat_le first p && nat_lt p page) ≡ b
        → (if p == page then option_map unexecuted (record_of mid.records i p) else record_of mid.records i p)
        ≡ (if nat_le first p && nat_lt p (page + 1) then option_map unexecuted (record_of old.records i p) else record_of old.records i p)
    by_test i p true e true f = absurd (grind (arith, common_steps, e, f))
    by_test i p true e false f =
        let now : (nat_le first p && nat_lt p (page + 1)) ≡ true = grind (arith, common_steps, e, later) in
        ap (λ b. if b then option_map unexecuted (record_of mid.records i p) else record_of mid.records i p) e
        ∙ ap (option_map unexecuted) (so_far.found i p ∙ ap (λ b. if b then option_map unexecuted (record_of old.records i p) else record_of old.records i p) f)
        ∙ sym (ap (λ b. if b then option_map unexecuted (record_of old.records i p) else record_of old.records i p) now)
    by_test i p false e b f =
        let now : (nat_le first p && nat_lt p (page + 1)) ≡ (nat_le first p && nat_lt p page) = grind (arith, common_steps, e) in
        ap (λ b. if b then option_map unexecuted (record_of mid.records i p) else record_of mid.records i p) e
        ∙ so_far.found i p ∙ ap (λ b. if b then option_map unexecuted (record_of old.records i p) else record_of old.records i p) (sym now)
