-- For the layer above: what two lists of records have in common where the same is found in them.
use Rattle.std.proofs.Common.{◌≡◌, ℕ, Bool, true, false, List, [], ◌∷◌, Option, Some, None, refl, sym, ap, subst, ◌∙◌, arith}
use Rattle.std.specs.Prelude.{All, IsSomeAnd, if◌then◌else◌}
use Rattle.std.specs.List.{AllByRecursion}
use Rattle.std.proofs.lemmas.Grind.{common_steps}
use Rattle.std.proofs.lemmas.List.Elements.{All-from_recursion, recursion_from_All}
use Rattle.cs_policy.specs.declared.region.Region.{Region}
use Rattle.cs_policy.specs.declared.region.Record.{Record}
use Rattle.pg_regions.specs.Lookups.{record_before, is_record, record_of, writer_of, IsWriter, RecordsDiffer, RecordsRise}
use Rattle.pg_regions.proofs.ListFacts.{found_has}
use Rattle.pg_regions.proofs.PairFacts.{Apart, apart_from_pairs, found_itself}
use Rattle.pg_regions.proofs.FoundFacts.{record_swap}
use Rattle.pg_regions.proofs.OrderFacts.{before_later, before_itself}
use Rattle.pg_regions.proofs.WriterFacts.{writer_least, writer_none}

-- the same record is found of each region and page, or none in both
abbrev pub FindSame : List Record → List Record → Type 0
FindSame one other = (id page : ℕ) → record_of one id page ≡ record_of other id page

-- ---- what holds of each record, and of each that is found

pub all_found : (P : Record → Type 0) (records : List Record) → All P records → (id page : ℕ) (r : Record) → record_of records id page ≡ Some r → P r
all_found P records all id page r found = found_has P (is_record id page) records r (recursion_from_All P records all) found

pub each_found : (P : Record → Type 0) (records : List Record) → RecordsDiffer records → ((id page : ℕ) (r : Record) → record_of records id page ≡ Some r → P r) → All P records
each_found P records differ found =
    All-from_recursion P records (each records (found_itself (λ (x : Record). is_record x.region x.page) (λ x. grind (arith, common_steps)) record_swap records differ))
  where
    each : (rs : List Record) → AllByRecursion (λ r. record_of records r.region r.page ≡ Some r) rs → AllByRecursion P rs
    each [] all = tt
    each (r ∷ rs) all = (found r.region r.page r all.0, each rs all.1)

-- ---- one writer

same_writes : (regions : List Region) (one other : List Record) (page : ℕ) → FindSame one other → (id : ℕ) → IsWriter regions one page id → IsWriter regions other page id
same_writes regions one other page same id writer = record {
  shared = writer.shared;
  writes = subst (λ o. IsSomeAnd o (λ r. r.write ≡ true)) (same id page) writer.writes;
}

-- the least writer of a page depends on what is found alone
pub same_writer : (regions : List Region) (one other : List Record) (page : ℕ) → RecordsDiffer one → RecordsDiffer other → FindSame one other → writer_of regions one page ≡ writer_of regions other page
same_writer regions one other page differ_one differ_other same =
    by_both (writer_of regions one page) (writer_of regions other page) refl refl
  where
    back : FindSame other one
    back id p = sym (same id p)

    by_both : (a b : Option ℕ) → a ≡ writer_of regions one page → b ≡ writer_of regions other page → a ≡ b
    by_both None None e f = refl
    by_both None (Some b) e f =
        let least = writer_least regions other page (Some b) f differ_other in
        absurd (writer_none regions one page None e b (same_writes regions other one page back b least.writer))
    by_both (Some a) None e f =
        let least = writer_least regions one page (Some a) e differ_one in
        absurd (writer_none regions other page None f a (same_writes regions one other page same a least.writer))
    by_both (Some a) (Some b) e f =
        let least = writer_least regions one page (Some a) e differ_one in
        let lesser = writer_least regions other page (Some b) f differ_other in
        let below = least.least b (same_writes regions other one page back b lesser.writer) in
        let above = lesser.least a (same_writes regions one other page same a least.writer) in
        ap Some (omega arith)

-- ---- one list

abbrev Rise : List Record → Type 0
Rise records = Apart (λ x y. record_before x y ≡ true) records

-- a record that all others come behind is found among them under no key of its own or before it
none_behind : (r : Record) (rs : List Record) → AllByRecursion (λ y. record_before r y ≡ true) rs → record_of rs r.region r.page ≡ None
none_behind r [] all = refl
none_behind r (y ∷ ys) all = by_test (is_record r.region r.page y) refl (none_behind r ys all.1)
  where
    by_test : (b : Bool) → is_record r.region r.page y ≡ b → record_of ys r.region r.page ≡ None → record_of (y ∷ ys) r.region r.page ≡ None
    by_test true own rest =
        let region : y.region ≡ r.region = grind (arith, common_steps, own) in
        let number : y.page ≡ r.page = grind (arith, common_steps, own) in
        let late : record_before r y ≡ false = rw (region, number) (before_itself r.page r.region) in
        absurd (let before = all.0 in cc)
    by_test false other rest = ap (λ b. if b then Some y else record_of ys r.region r.page) other ∙ rest

-- of two lists that find the same the first records are the same
module _ (r s : Record) (rs ss : List Record) (rise : Rise (r ∷ rs)) (other : Rise (s ∷ ss)) (same : FindSame (r ∷ rs) (s ∷ ss)) where
  first_found : record_of (r ∷ rs) r.region r.page ≡ Some r
  first_found = grind (arith, common_steps)

  other_found : record_of (s ∷ ss) s.region s.page ≡ Some s
  other_found = grind (arith, common_steps)

  -- a record that is found behind the first comes behind it
  found_behind : (x : Record) (xs : List Record) (id page : ℕ) (y : Record) → AllByRecursion (λ z. record_before x z ≡ true) xs → record_of xs id page ≡ Some y → record_before x y ≡ true
  found_behind x xs id page y all found = found_has (λ z. record_before x z ≡ true) (is_record id page) xs y all found

  pub heads : r ≡ s
  heads = by_test (is_record r.region r.page s) refl
    where
      by_test : (b : Bool) → is_record r.region r.page s ≡ b → r ≡ s
      by_test true own =
          let found : record_of (s ∷ ss) r.region r.page ≡ Some s = ap (λ b. if b then Some s else record_of ss r.region r.page) own in
          let one : Some r ≡ Some s = sym first_found ∙ same r.region r.page ∙ found in cc
      by_test false differ =
          let later : record_of ss r.region r.page ≡ Some r = sym (ap (λ b. if b then Some s else record_of ss r.region r.page) differ) ∙ sym (same r.region r.page) ∙ first_found in
          let behind : record_before s r ≡ true = found_behind s ss r.region r.page r other.0 later in
          let apart : is_record s.region s.page r ≡ false = record_swap r s differ in
          let back : record_of rs s.region s.page ≡ Some s = sym (ap (λ b. if b then Some r else record_of rs s.region s.page) apart) ∙ same s.region s.page ∙ other_found in
          let ahead : record_before r s ≡ true = found_behind r rs s.region s.page s rise.0 back in
          let round : record_before s s ≡ true = before_later s.page s.region r.page r.region s.page s.region behind ahead in
          let itself : record_before s s ≡ false = before_itself s.page s.region in
          absurd (cc)

tails : (r : Record) (rs ss : List Record) → Rise (r ∷ rs) → Rise (r ∷ ss) → FindSame (r ∷ rs) (r ∷ ss) → FindSame rs ss
tails r rs ss rise other same id page = by_test (is_record id page r) refl
  where
    by_test : (b : Bool) → is_record id page r ≡ b → record_of rs id page ≡ record_of ss id page
    by_test true own =
        let region : r.region ≡ id = grind (arith, common_steps, own) in
        let number : r.page ≡ page = grind (arith, common_steps, own) in
        rw (← region, ← number) (none_behind r rs rise.0 ∙ sym (none_behind r ss other.0))
    by_test false apart =
        sym (ap (λ b. if b then Some r else record_of rs id page) apart) ∙ same id page ∙ ap (λ b. if b then Some r else record_of ss id page) apart

same_apart : (one other : List Record) → Rise one → Rise other → FindSame one other → one ≡ other
same_apart [] [] rise others same = refl
same_apart [] (s ∷ ss) rise others same =
    let found : record_of (s ∷ ss) s.region s.page ≡ Some s = grind (arith, common_steps) in
    let none : None ≡ record_of (s ∷ ss) s.region s.page = same s.region s.page in absurd (cc)
same_apart (r ∷ rs) [] rise others same =
    let found : record_of (r ∷ rs) r.region r.page ≡ Some r = grind (arith, common_steps) in
    let none : record_of (r ∷ rs) r.region r.page ≡ None = same r.region r.page in absurd (cc)
same_apart (r ∷ rs) (s ∷ ss) rise others same =
    let first : r ≡ s = heads r s rs ss rise others same in
    let back : Rise (r ∷ ss) = subst (λ (x : Record). Rise (x ∷ ss)) (sym first) others in
    let find : FindSame (r ∷ rs) (r ∷ ss) = subst (λ (x : Record). FindSame (r ∷ rs) (x ∷ ss)) (sym first) same in
    ap (λ (x : Record). x ∷ rs) first ∙ ap (λ (l : List Record). s ∷ l) (same_apart rs ss rise.1 others.1 (tails r rs ss rise back find))

-- in their order two lists of records that find the same are the same list
pub same_records : (one other : List Record) → RecordsRise one → RecordsRise other → FindSame one other → one ≡ other
same_records one other rise others same =
    same_apart one other (apart_from_pairs (λ x y. record_before x y ≡ true) one rise) (apart_from_pairs (λ x y. record_before x y ≡ true) other others) same
