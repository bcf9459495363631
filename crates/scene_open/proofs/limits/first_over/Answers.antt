use Rattle.std.proofs.Common.{length, ◌-◌, ◌^◌, ap, ◌∙◌}
use Rattle.std.specs.Prelude.{min, sum_by, count_by}
use Rattle.std.specs.Option.{option_or}
use Rattle.scene_text.specs.declared.line.Line.TheVariants as line
use Rattle.scene_text.specs.Known.{is_file, is_process, is_cache}
use Rattle.scene_open.specs.Limits.{is_attach, is_static, is_fail}
use Rattle.scene_open.proofs.CountFacts.{first_is}
use Rattle.scene_open.proofs.limits.first_over.Goals as goal

pub returns : goal.returns
returns c =
    let heads = c.items-heads.ensures in
    let scripts = c.items-scripts.ensures in
    let whole = first_is c.args.scene.now c.calls.result (length c.items-scripts.result.now) c.files.result c.processes.result c.statics.result c.caches.result c.fails.result c.attaches.result
    (c.calls.ensures ∙ ap (λ s. min (sum_by length s) (2 ^ 64 - 1)) scripts)
    (ap length scripts)
    (c.files.ensures ∙ ap (count_by (λ h. is_file (line.Head h))) heads)
    (c.processes.ensures ∙ ap (count_by (λ h. is_process (line.Head h))) heads)
    (c.statics.ensures ∙ ap (count_by (λ h. is_static (line.Head h))) heads)
    (c.caches.ensures ∙ ap (count_by (λ h. is_cache (line.Head h))) heads)
    (c.fails.ensures ∙ ap (count_by (λ h. is_fail (line.Head h))) heads)
    (c.attaches.ensures ∙ ap (λ s. min (sum_by (λ cs. count_by (λ x. is_attach (line.Call x)) cs) s) (2 ^ 64 - 1)) scripts) in
    let o1 = c.or.ensures ∙ (λ i. option_or (c.over.ensures i) (c.over-2.ensures i)) in
    let o2 = c.or-2.ensures ∙ (λ i. option_or (o1 i) (c.over-3.ensures i)) in
    let o3 = c.or-3.ensures ∙ (λ i. option_or (o2 i) (c.over-4.ensures i)) in
    let o4 = c.or-4.ensures ∙ (λ i. option_or (o3 i) (c.over-5.ensures i)) in
    let o5 = c.or-5.ensures ∙ (λ i. option_or (o4 i) (c.over-6.ensures i)) in
    let o6 = c.or-6.ensures ∙ (λ i. option_or (o5 i) (c.over-7.ensures i)) in
    let o7 = c.or-7.ensures ∙ (λ i. option_or (o6 i) (c.over-8.ensures i)) in
    o7 ∙ whole
