use Rattle.std.proofs.Common.{◌≡◌, ◌<◌, ◌∙◌, ◌++◌, map, take, drop, length, get_or, set, ap, sym, arith}
use Rattle.std.proofs.lemmas.List.{take-append-drop, get_or_default}
use Rattle.std.proofs.lemmas.List.Edits.{map_over_more}
use Rattle.cs_policy.specs.declared.region.Record.{Record}
use Rattle.pg_bytes.proofs.SplitFacts.{all_before, all_behind}
use Rattle.pg_regions.specs.Steps.{blank, without_execute}
use Rattle.pg_regions.proofs.ListFacts.{all_map, map_none}
use Rattle.std.proofs.lemmas.List.{map-append}
use Rattle.pg_regions.proofs.PlaceFacts.{other_kept, own_stripped, current}
use Rattle.pg_regions.proofs.records.strip.Goals as goal

pub loop-place-init : goal.loop-place-init
loop-place-init c =
    let records = c.args.records.now in
    let start = c.before-place.result in
    let same : map (without_execute c.args.page) (take start records) ≡ take start records =
    map_none (without_execute c.args.page) (take start records)
    (all_map (λ (r : Record). r.page < c.args.page) (λ r. without_execute c.args.page r ≡ r) (take start records) (λ r less. other_kept c.args.page r (λ own. omega arith))
    (all_before (λ (r : Record). r.page < c.args.page) start records c.before-place.ensures.within c.before-place.ensures.lesser)) in
    sym (ap (λ l. l ++ drop start records) same ∙ take-append-drop start records)

pub loop-place-preserved : goal.loop-place-preserved
loop-place-preserved c =
    let page = c.args.page in
    let old = c.args.records.now in
    let place = c.loop-place.place in
    let here : place < length old = omega arith in
    let read = get_or c.loop-place.records place (blank 0 0) in
    let next = map_over_more (without_execute page) old c.loop-place.records place read here c.loop-place.invariant (get_or_default c.loop-place.records place (blank 0 0) read (omega arith)) in
    let same : read ≡ get_or old place (blank 0 0) = current (without_execute page) old c.loop-place.records place (blank 0 0) here c.loop-place.invariant in
    let from = c.before-place.ensures.others place (blank 0 0) (omega arith) here in
    let upto = c.through-end.ensures.others place (blank 0 0) (omega arith) (omega arith) in
    let own : read.page ≡ page = ap (λ (r : Record). r.page) same ∙ omega arith in
    ap (set c.loop-place.records place) (own_stripped page read own) ∙ next

pub returns : goal.returns
returns c =
    let page = c.args.page in
    let old = c.args.records.now in
    let place = c.loop-place.place in
    let rest : map (without_execute page) (drop place old) ≡ drop place old =
    map_none (without_execute page) (drop place old)
    (all_map (λ (r : Record). page < r.page) (λ r. without_execute page r ≡ r) (drop place old) (λ r greater. other_kept page r (λ own. omega arith))
    (all_behind (λ (r : Record). page < r.page) place old (λ k d le lt. c.through-end.ensures.greater k d (omega arith) lt))) in
    c.loop-place.invariant ∙ ap (λ l. map (without_execute page) (take place old) ++ l) (sym rest)
    ∙ sym (map-append (without_execute page) (take place old) (drop place old)) ∙ ap (map (without_execute page)) (take-append-drop place old)
