use Rattle.std.proofs.Common.{rules, ◌≡◌, ◌≤◌, List, length, map, refl, sym, ap, subst, ◌∙◌, arith}
use Rattle.std.specs.Prelude.{zip, filter_map}
use Rattle.pg_book.specs.declared.needs.Needs.{Needs}
use Rattle.pg_book.specs.Needs.{rows, rows_of}
use Rattle.pg_process.specs.ProcessStep.{PlainProcess}
use Rattle.pg_calls.specs.Room.{Within}
use Rattle.pg_parts.specs.Rooms.{part_needs}
use Rattle.scene_text.specs.declared.head.Head.{Head}
use Rattle.scene_open.specs.Opening.{opening_with, part_of, flags_of, processes_from, page_size_of, resident_of}
use Rattle.scene_run.specs.Needs.{most_needed}
use Rattle.scene_run.specs.Parts.{AreFiles}
use Rattle.scene_run.proofs.BoundFacts.{needs-within}
use Rattle.scene_run.proofs.LinesFacts.{few-scripts, all-short}
use Rattle.scene_run.proofs.OpenedFacts.{all-fit, openable, opened-told, numbers-opened, few-fresh, zip-few, needed-as}
use Rattle.scene_run.proofs.solo.open_parts.Goals as goal

pub open_processes-requires-clause-few : goal.open_processes-requires-clause-few
open_processes-requires-clause-few c =
    subst (λ (hs : List Head). length (filter_map flags_of hs) ≤ 64) (sym c.items.ensures)
    (few-fresh (page_size_of c.args.scene.now.head) 0 (filter_map flags_of c.args.scene.now.head) c.requires.opening.bounded.few_processes)

pub overflow_cast-len : goal.overflow_cast-len
overflow_cast-len c =
    let same : c.len.result ≡ length c.args.files.items = search rules in
    let paired : length c.args.files.items ≡ length c.args.layouts.items = search rules in
    let few : length c.args.files.items ≤ 16 =
    zip-few (resident_of c.args.scene.now.head) c.args.files.items c.args.layouts.items paired c.requires.opening.bounded.few_files in
    omega (arith, same, few)

pub needs_of-requires-clause-few : goal.needs_of-requires-clause-few
needs_of-requires-clause-few c = all-short c.args.scene.now.scripts 4096 (few-scripts c.args.scene.now c.requires.within).calls

pub needs_of-requires-clause-parts : goal.needs_of-requires-clause-parts
needs_of-requires-clause-parts c =
    let same : c.len.result ≡ length c.args.files.items = search rules in
    let paired : length c.args.files.items ≡ length c.args.layouts.items = search rules in
    let few : length c.args.files.items ≤ 16 =
    zip-few (resident_of c.args.scene.now.head) c.args.files.items c.args.layouts.items paired c.requires.opening.bounded.few_files in
    let others : c.len-2.result ≡ length c.in_ok-processes.processes.items = search rules in
    let procs : c.in_ok-processes.processes.items ≡ processes_from (page_size_of c.args.scene.now.head) 0 (filter_map flags_of c.args.scene.now.head) =
    c.in_ok-processes.ensures ∙ (λ i. processes_from (c.page_size-page_size.ensures.size i) 0 (filter_map flags_of (c.items.ensures i))) in
    let few_processes : length c.in_ok-processes.processes.items ≤ 64 = subst (λ (ps : List PlainProcess). length ps ≤ 64) (sym procs) c.requires.opening.bounded.few_processes in
    omega (arith, same, few, others, few_processes)

pub open_files-requires-clause-fits : goal.open_files-requires-clause-fits
open_files-requires-clause-fits c =
    all-fit c.resident.result c.args.files.items c.args.layouts.items
    (opening_with c.args.scene.now.head c.args.files.items c.args.layouts.items c.args.trust) c.requires.opening.opening c.requires.opening.bounded
    (ap (λ r. map (part_of r) (zip c.args.files.items c.args.layouts.items)) (sym c.resident.ensures))

pub open_files-requires-clause-small : goal.open_files-requires-clause-small
open_files-requires-clause-small c k =
    subst (λ (ns : List (List Needs)). Within (part_needs ns k) most_needed)
    (sym (ap (λ ns. rows_of ns) c.as_slice.ensures.value ∙ c.in_ok-needs.ensures))
    (needs-within c.len.result c.len-2.result c.args.scene.now.scripts k (few-scripts c.args.scene.now c.requires.within))

pub returns-clause-openable : goal.returns-clause-openable
returns-clause-openable c =
    let paired : length c.args.files.items ≡ length c.args.layouts.items = search rules in
    let one : c.len.result ≡ length c.args.files.items = search rules in
    let other : c.len-2.result ≡ length c.in_ok-processes.processes.items = search rules in
    let are : AreFiles c.resident.result (rows c.in_ok-needs.needs) c.args.files.items c.args.layouts.items c.in_ok-files.files.items =
    subst (λ ns. AreFiles c.resident.result (rows_of ns) c.args.files.items c.args.layouts.items c.in_ok-files.files.items) c.as_slice.ensures.value c.in_ok-files.ensures in
    openable c.resident.result c.args.files.items c.args.layouts.items
    (opening_with c.args.scene.now.head c.args.files.items c.args.layouts.items c.args.trust) c.requires.opening.opening c.requires.opening.bounded
    (ap (λ r. map (part_of r) (zip c.args.files.items c.args.layouts.items)) (sym c.resident.ensures))
    c.args.scene.now.scripts _ are paired c.page_size-page_size.ensures.size c.is_adhoc.ensures refl
    (c.in_ok-processes.ensures ∙ (λ i. processes_from (c.page_size-page_size.ensures.size i) 0 (filter_map flags_of (c.items.ensures i))))
    (needed-as _ _ _ _ c.args.scene.now.scripts (rows c.in_ok-needs.needs) (one ∙ sym are.count) other c.in_ok-needs.ensures)
    (few-scripts c.args.scene.now c.requires.within)

pub returns-clause-opening : goal.returns-clause-opening
returns-clause-opening c =
    let paired : length c.args.files.items ≡ length c.args.layouts.items = search rules in
    let one : c.len.result ≡ length c.args.files.items = search rules in
    let other : c.len-2.result ≡ length c.in_ok-processes.processes.items = search rules in
    let are : AreFiles c.resident.result (rows c.in_ok-needs.needs) c.args.files.items c.args.layouts.items c.in_ok-files.files.items =
    subst (λ ns. AreFiles c.resident.result (rows_of ns) c.args.files.items c.args.layouts.items c.in_ok-files.files.items) c.as_slice.ensures.value c.in_ok-files.ensures in
    opened-told c.resident.result c.args.files.items c.args.layouts.items
    (opening_with c.args.scene.now.head c.args.files.items c.args.layouts.items c.args.trust) c.requires.opening.opening c.requires.opening.bounded
    (ap (λ r. map (part_of r) (zip c.args.files.items c.args.layouts.items)) (sym c.resident.ensures))
    c.args.scene.now.scripts _ are paired c.page_size-page_size.ensures.size c.is_adhoc.ensures refl
    (c.in_ok-processes.ensures ∙ (λ i. processes_from (c.page_size-page_size.ensures.size i) 0 (filter_map flags_of (c.items.ensures i))))
    (needed-as _ _ _ _ c.args.scene.now.scripts (rows c.in_ok-needs.needs) (one ∙ sym are.count) other c.in_ok-needs.ensures)
    (few-scripts c.args.scene.now c.requires.within)

pub returns-clause-numbers : goal.returns-clause-numbers
returns-clause-numbers c =
    let paired : length c.args.files.items ≡ length c.args.layouts.items = search rules in
    let one : c.len.result ≡ length c.args.files.items = search rules in
    let other : c.len-2.result ≡ length c.in_ok-processes.processes.items = search rules in
    let are : AreFiles c.resident.result (rows c.in_ok-needs.needs) c.args.files.items c.args.layouts.items c.in_ok-files.files.items =
    subst (λ ns. AreFiles c.resident.result (rows_of ns) c.args.files.items c.args.layouts.items c.in_ok-files.files.items) c.as_slice.ensures.value c.in_ok-files.ensures in
    numbers-opened c.resident.result c.args.files.items c.args.layouts.items
    (opening_with c.args.scene.now.head c.args.files.items c.args.layouts.items c.args.trust) c.requires.opening.opening c.requires.opening.bounded
    (ap (λ r. map (part_of r) (zip c.args.files.items c.args.layouts.items)) (sym c.resident.ensures))
    c.args.scene.now.scripts _ are paired c.page_size-page_size.ensures.size c.is_adhoc.ensures refl
    (c.in_ok-processes.ensures ∙ (λ i. processes_from (c.page_size-page_size.ensures.size i) 0 (filter_map flags_of (c.items.ensures i))))
    (needed-as _ _ _ _ c.args.scene.now.scripts (rows c.in_ok-needs.needs) (one ∙ sym are.count) other c.in_ok-needs.ensures)
    (few-scripts c.args.scene.now c.requires.within)
