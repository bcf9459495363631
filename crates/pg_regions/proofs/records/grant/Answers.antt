use Rattle.std.proofs.Common.{◌≡◌, ◌∙◌, ℕ, List, set, map, Bool, Option, Some, None, ap, sym, subst}
use Rattle.std.specs.Prelude.{position, insert, MatchOption}
use Rattle.cs_policy.specs.declared.access.Access.{Access}
use Rattle.cs_policy.specs.declared.region.Record.{Record}
use Rattle.pg_regions.specs.Lookups.{is_record, record_of, RecordsRise}
use Rattle.pg_regions.specs.Places.{IsGap}
use Rattle.pg_regions.specs.Steps.{blank, given, given_at, IsOneMore, IsGranted}
use Rattle.pg_regions.proofs.ListFacts.{position_first}
use Rattle.pg_regions.proofs.PairFacts.{position-map}
use Rattle.pg_regions.proofs.FoundFacts.{record_alike, given_region, given_page}
use Rattle.pg_regions.proofs.PlaceFacts.{gap_rise, given_set_rise}
use Rattle.pg_regions.proofs.records.grant.Goals as goal

-- by what was found
granted_by : (id page : ℕ) (access : Access) (guarded : Bool) (old new : List Record) (o : Option Record) → record_of old id page ≡ o
    → MatchOption o (IsOneMore old (given access guarded (blank id page)) new) (λ _. new ≡ map (given_at id page access guarded) old)
    → IsGranted id page access guarded old new
granted_by id page access guarded old new o found is =
    subst (λ o. MatchOption o (IsOneMore old (given access guarded (blank id page)) new) (λ _. new ≡ map (given_at id page access guarded) old))
    (sym found) is

pub returns-in-Ok-clause-records : goal.returns-in-Ok-clause-records
returns-in-Ok-clause-records c =
    let records = c.args.records.now.items in
    let is_of = is_record c.args.id c.args.page in
    let give = given c.args.access c.args.guarded in
    let at : position is_of records ≡ Some c.in-Ok.place = ap (position is_of) (sym c.deref.ensures.value) ∙ c.in-Ok.ensures.found in
    let there = position_first is_of records c.in-Ok.place at in
    let new = set records c.in-Ok.place c.give.new.to in
    let changed =
    ap (set records c.in-Ok.place) c.give.ensures
    ∙ position-map (λ (x y : Record). is_record x.region x.page y) is_of (record_alike c.args.id c.args.page) give records
    c.in-Ok.place c.index_mut.result.now at c.index_mut.ensures.value c.requires.one in
    granted_by c.args.id c.args.page c.args.access c.args.guarded records new (Some there.first) there.found changed

pub returns-in-Ok-clause-rises : goal.returns-in-Ok-clause-rises
returns-in-Ok-clause-rises c =
    let records = c.args.records.now.items in
    let at : position (is_record c.args.id c.args.page) records ≡ Some c.in-Ok.place = ap (position (is_record c.args.id c.args.page)) (sym c.deref.ensures.value) ∙ c.in-Ok.ensures.found in
    rw c.give.ensures (given_set_rise c.args.id c.args.page c.args.access c.args.guarded records c.in-Ok.place c.index_mut.result.now at c.index_mut.ensures.value c.requires.one c.requires.rises)

pub returns-in-Err-clause-records : goal.returns-in-Err-clause-records
returns-in-Err-clause-records c =
    let records = c.args.records.now.items in
    let first = given c.args.access c.args.guarded (blank c.args.id c.args.page) in
    let gap : IsGap records c.args.page c.args.id c.in-Err.place = rw c.deref.ensures.value at c.in-Err.ensures.none in
    let made : c.give-in-Err.new.to ≡ first = c.give-in-Err.ensures ∙ ap (given c.args.access c.args.guarded) c.blank-first.ensures in
    let put : c.put.new.records.items ≡ insert records c.in-Err.place first = c.put.ensures.records ∙ ap (insert records c.in-Err.place) made in
    granted_by c.args.id c.args.page c.args.access c.args.guarded records c.put.new.records.items None gap.absent
    (record { place = c.in-Err.place; within = gap.within; inserted = put })

pub returns-in-Err-clause-rises : goal.returns-in-Err-clause-rises
returns-in-Err-clause-rises c =
    let records = c.args.records.now.items in
    let first = given c.args.access c.args.guarded (blank c.args.id c.args.page) in
    let gap : IsGap records c.args.page c.args.id c.in-Err.place = rw c.deref.ensures.value at c.in-Err.ensures.none in
    let made : c.give-in-Err.new.to ≡ first = c.give-in-Err.ensures ∙ ap (given c.args.access c.args.guarded) c.blank-first.ensures in
    let put : c.put.new.records.items ≡ insert records c.in-Err.place first = c.put.ensures.records ∙ ap (insert records c.in-Err.place) made in
    subst RecordsRise (sym put)
    (gap_rise c.args.page c.args.id records c.in-Err.place first (given_region c.args.access c.args.guarded (blank c.args.id c.args.page)) (given_page c.args.access c.args.guarded (blank c.args.id c.args.page)) c.requires.rises gap)
