use Rattle.std.proofs.Common.{◌≡◌, ◌^◌, ◌<◌, List, length, Some, Err, ap, sym, subst, ◌∙◌, arith}
use Rattle.std.specs.Prelude.{All}
use Rattle.scene_text.specs.declared.head.Head.{Head}
use Rattle.scene_open.specs.Items.{items_told, told_after, files_named, files_read, ReadsWithin}
use Rattle.scene_open.specs.Ends.{Opens, OpensSome, ReadsUpToEnd}
use Rattle.scene_open.specs.Drafts.{IsReadable}
use Rattle.scene_open.proofs.FitFacts.{all_readable}
use Rattle.scene_open.proofs.SizeFacts.{few_heads}
use Rattle.scene_open.proofs.OpeningFacts.{opening_fits, paired, few_statics}
use Rattle.scene_open.proofs.ItemFacts.{opens_to, told_all, told_read, told_within, ends_told, ends_some, ends_reads}
use Rattle.scene_open.proofs.items.open_items.Goals as goal

pub take_all-requires-clause-readable : goal.take_all-requires-clause-readable
take_all-requires-clause-readable g c = subst (λ (hs : List Head). All IsReadable hs) (sym c.items.ensures) (all_readable c.args.scene.now c.requires.grammar)

pub take_all-requires-clause-few : goal.take_all-requires-clause-few
take_all-requires-clause-few g c =
    subst (λ (hs : List Head). length hs < 2 ^ 32) (sym c.items.ensures) (few_heads c.args.scene.now c.requires.grammar c.requires.within)

pub finish-requires : goal.finish-requires
finish-requires g c =
    let t = c.in-Ok.ensures.takes in
    let few = few_statics c.args.scene.now t.items (t.lines ∙ c.items.ensures) c.requires.within in
    let long = ap length t.parts.statics in
    omega (arith, few, long)

pub returns-in-Err-clause-told : goal.returns-in-Err-clause-told
returns-in-Err-clause-told g c = λ t is.
    subst (λ (hs : List Head). Opens (items_told t hs) (Err c.in-Err.status)) c.items.ensures (ends_told c.items.result.now _ _ c.in-Err.status c.in-Err.ensures.takes t is)

pub returns-in-Err-clause-some : goal.returns-in-Err-clause-some
returns-in-Err-clause-some g c =
    subst (λ (hs : List Head). OpensSome hs (Err c.in-Err.status)) c.items.ensures (ends_some c.items.result.now _ _ c.in-Err.status c.in-Err.ensures.takes)

pub returns-in-Err-clause-reads : goal.returns-in-Err-clause-reads
returns-in-Err-clause-reads g c = λ t is.
    subst (λ (hs : List Head). ReadsUpToEnd t (items_told t hs) (Err c.in-Err.status) (g.F.Files.tells c.take_all.new.files)) c.items.ensures
    (ends_reads c.items.result.now _ _ c.in-Err.status c.in-Err.ensures.takes t is)

pub returns-in-Ok-finish-clause-opening : goal.returns-in-Ok-finish-clause-opening
returns-in-Ok-finish-clause-opening g c =
    let o = c.in-Ok-finish.opened in
    let all = opens_to c.items.result.now _ c.in-Ok.draft o _ c.in-Ok.ensures.takes c.in-Ok-finish.ensures in
    opening_fits c.args.scene.now all.0 o.files.items o.layouts.items o.trust c.requires.grammar c.requires.within (all.1 ∙ c.items.ensures) all.2.passes all.2.files all.2.layouts all.2.trust

pub returns-in-Ok-finish-clause-paired : goal.returns-in-Ok-finish-clause-paired
returns-in-Ok-finish-clause-paired g c =
    let o = c.in-Ok-finish.opened in
    let all = opens_to c.items.result.now _ c.in-Ok.draft o _ c.in-Ok.ensures.takes c.in-Ok-finish.ensures in
    let same = ap length all.2.files ∙ paired all.0 ∙ sym (ap length all.2.layouts) in
    omega (arith, same, o.files.ok.0, o.layouts.ok.0)

pub returns-in-Ok-finish-clause-read : goal.returns-in-Ok-finish-clause-read
returns-in-Ok-finish-clause-read g c = λ t is.
    subst (λ (hs : List Head). g.F.Files.tells c.take_all.new.files ≡ Some (told_after t (files_named hs))) c.items.ensures
    (told_all c.items.result.now _ c.in-Ok.draft _ c.in-Ok.ensures.takes t is)

pub returns-in-Ok-finish-clause-reads : goal.returns-in-Ok-finish-clause-reads
returns-in-Ok-finish-clause-reads g c = λ t is.
    subst (λ (hs : List Head). g.F.Files.tells c.take_all.new.files ≡ Some (told_after t (files_read (items_told t hs)))) c.items.ensures
    (told_read c.items.result.now _ c.in-Ok.draft _ c.in-Ok.ensures.takes t is)

pub returns-in-Err-finish-clause-reads : goal.returns-in-Err-finish-clause-reads
returns-in-Err-finish-clause-reads g c = λ t is.
    subst (λ (hs : List Head). ReadsWithin t (files_read (items_told t hs)) (g.F.Files.tells c.take_all.new.files)) c.items.ensures
    (told_within c.items.result.now _ c.in-Ok.draft _ c.in-Ok.ensures.takes t is)
