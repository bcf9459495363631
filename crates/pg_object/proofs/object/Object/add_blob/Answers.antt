use Rattle.std.proofs.Common.{◌≡◌, ◌<◌, ℕ, List, Some, None, length, sym, ap, subst, ◌∙◌}
use Rattle.std.specs.Prelude.{position}
use Rattle.pg_bytes.specs.PageSize.{IsPageSize}
use Rattle.cs_blob.specs.Signed.{IsSignature}
use Rattle.cs_policy.specs.declared.file.FileEvent.TheVariants as event
use Rattle.cs_policy.specs.declared.file.FileReply.TheVariants as reply
use Rattle.pg_plain.specs.PlainFile.{Attached}
use Rattle.pg_plain.specs.Covers.{share_a_page}
use Rattle.pg_plain.specs.Steps.{is_same_blob}
use Rattle.pg_object.specs.Object.{ObjectNow, object_of}
use Rattle.pg_object.proofs.QuietFacts.{Does}
use Rattle.pg_object.proofs.SealFacts.{does_from}
use Rattle.pg_object.proofs.AttachFacts.{is_already, overlaps, attached}
use Rattle.pg_object.proofs.object.Object.add_blob.Goals as goal

pub returns-in-Some : goal.returns-in-Some
returns-in-Some g c =
    let hash = g.D.Digester.hash in
    let old = object_of c.self.inside.pages c.self.inside.regions c.self.inside.blobs c.self.inside.length c.self.inside.layout in
    let same : c.same.result ≡ position (is_same_blob c.args.slice c.args.blob.cdhash) c.self.inside.blobs =
    c.same.ensures ∙ ap (λ (h : List ℕ). position (is_same_blob c.args.slice h) c.self.inside.blobs) c.cdhash.ensures in
    let done = does_from hash _ _ _ _ _ _ c.self.view_is (subst (λ (o : ObjectNow). Does hash old (event.AddBlob c.args.slice c.args.blob.cdhash c.args.read c.args.lookup) (Some c.args.blob) (reply.Already c.in-Some.same) o) c.self.view_is
    (is_already hash old c.self.invariant c.args.slice c.args.blob c.args.read c.args.lookup c.in-Some.same (sym same ∙ c.in-Some.is))) in
    record { acts = done.acts; checked = done.checked; unhashed = done.unhashed; kept = done.kept }

pub returns-in-Some-overlapping : goal.returns-in-Some-overlapping
returns-in-Some-overlapping g c =
    let hash = g.D.Digester.hash in
    let old = object_of c.self.inside.pages c.self.inside.regions c.self.inside.blobs c.self.inside.length c.self.inside.layout in
    let same : c.same.result ≡ position (is_same_blob c.args.slice c.args.blob.cdhash) c.self.inside.blobs =
    c.same.ensures ∙ ap (λ (h : List ℕ). position (is_same_blob c.args.slice h) c.self.inside.blobs) c.cdhash.ensures in
    let none : c.same.result ≡ None = c.in_default.is in
    let other : c.overlapping.result ≡ position (λ a. share_a_page c.self.inside.pages.cache.pager.page_size a.signature c.args.blob) c.self.inside.blobs =
    c.overlapping.ensures ∙ ap (λ (size : ℕ). position (λ (a : Attached). share_a_page size a.signature c.args.blob) c.self.inside.blobs) c.page_size.ensures.size in
    let done = does_from hash _ _ _ _ _ _ c.self.view_is (subst (λ (o : ObjectNow). Does hash old (event.AddBlob c.args.slice c.args.blob.cdhash c.args.read c.args.lookup) (Some c.args.blob) (reply.Overlap c.in-Some-overlapping.other) o) c.self.view_is
    (overlaps hash old c.self.invariant c.args.slice c.args.blob c.args.read c.args.lookup c.in-Some-overlapping.other (sym same ∙ none) (sym other ∙ c.in-Some-overlapping.is))) in
    record { acts = done.acts; checked = done.checked; unhashed = done.unhashed; kept = done.kept }

pub invariant_of-self : goal.invariant_of-self
invariant_of-self g c =
    let hash = g.D.Digester.hash in
    let old = object_of c.self.inside.pages c.self.inside.regions c.self.inside.blobs c.self.inside.length c.self.inside.layout in
    let same : c.same.result ≡ position (is_same_blob c.args.slice c.args.blob.cdhash) c.self.inside.blobs =
    c.same.ensures ∙ ap (λ (h : List ℕ). position (is_same_blob c.args.slice h) c.self.inside.blobs) c.cdhash.ensures in
    let none : c.same.result ≡ None = c.in_default.is in
    let other : c.overlapping.result ≡ position (λ a. share_a_page c.self.inside.pages.cache.pager.page_size a.signature c.args.blob) c.self.inside.blobs =
    c.overlapping.ensures ∙ ap (λ (size : ℕ). position (λ (a : Attached). share_a_page size a.signature c.args.blob) c.self.inside.blobs) c.page_size.ensures.size in
    let absent : c.overlapping.result ≡ None = c.in_default-overlapping.is in
    let few = subst (λ (o : ObjectNow). length o.blobs < 64) (sym c.self.view_is) c.requires.room in
    let signed = subst (λ (o : ObjectNow). IsSignature hash c.args.blob.bytes c.args.blob.slice (Some o.pages.cache.pager.page_size) c.args.blob) (sym c.self.view_is) c.requires.signed in
    let known = subst IsPageSize c.page_size.ensures.size c.page_size.ensures.known in
    let made = attached hash old c.self.invariant c.args.slice c.args.blob c.args.read c.args.lookup c.attach.new.self c.attach.result c.attach.ensures.after c.attach.ensures.number
    (sym same ∙ none) (sym other ∙ absent) few known signed in
    made.kept

pub returns : goal.returns
returns g c =
    let hash = g.D.Digester.hash in
    let old = object_of c.self.inside.pages c.self.inside.regions c.self.inside.blobs c.self.inside.length c.self.inside.layout in
    let same : c.same.result ≡ position (is_same_blob c.args.slice c.args.blob.cdhash) c.self.inside.blobs =
    c.same.ensures ∙ ap (λ (h : List ℕ). position (is_same_blob c.args.slice h) c.self.inside.blobs) c.cdhash.ensures in
    let none : c.same.result ≡ None = c.in_default.is in
    let other : c.overlapping.result ≡ position (λ a. share_a_page c.self.inside.pages.cache.pager.page_size a.signature c.args.blob) c.self.inside.blobs =
    c.overlapping.ensures ∙ ap (λ (size : ℕ). position (λ (a : Attached). share_a_page size a.signature c.args.blob) c.self.inside.blobs) c.page_size.ensures.size in
    let absent : c.overlapping.result ≡ None = c.in_default-overlapping.is in
    let few = subst (λ (o : ObjectNow). length o.blobs < 64) (sym c.self.view_is) c.requires.room in
    let signed = subst (λ (o : ObjectNow). IsSignature hash c.args.blob.bytes c.args.blob.slice (Some o.pages.cache.pager.page_size) c.args.blob) (sym c.self.view_is) c.requires.signed in
    let known = subst IsPageSize c.page_size.ensures.size c.page_size.ensures.known in
    let made = attached hash old c.self.invariant c.args.slice c.args.blob c.args.read c.args.lookup c.attach.new.self c.attach.result c.attach.ensures.after c.attach.ensures.number
    (sym same ∙ none) (sym other ∙ absent) few known signed in
    let done = does_from hash _ _ _ _ _ _ c.self.view_is made in
    record { acts = done.acts; checked = done.checked; unhashed = done.unhashed; kept = done.kept }
