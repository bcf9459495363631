use Rattle.std.proofs.Common.{ℕ, List, None, sym, subst}
use Rattle.cs_policy.specs.declared.file.FileEvent.TheVariants as event
use Rattle.cs_policy.specs.declared.file.FileReply.{FileReply}
use Rattle.cs_policy.specs.declared.file.FileReply.TheVariants as reply
use Rattle.pg_object.specs.Acts.{Acts}
use Rattle.pg_object.specs.Checked.{KeepsChecked}
use Rattle.pg_object.specs.Object.{ObjectNow, object_of}
use Rattle.pg_object.specs.Reads.{HasSignature, HasNoSignature}
use Rattle.pg_object.proofs.SealFacts.{does_from}
use Rattle.pg_object.proofs.SignatureFacts.{reads_none, reads, reads_to}
use Rattle.pg_object.proofs.object.Object.read_signature.Goals as goal

pub returns-in-Err-clause-acts : goal.returns-in-Err-clause-acts
returns-in-Err-clause-acts g c =
    let none = subst (λ (r : FileReply). HasNoSignature c.args.self.now c.args.slice r) (sym c.reply.ensures) c.in-Err.ensures.unsigned in
    (reads_none g.D.Digester.hash c.args.self.now c.signature_of.ensures.kept c.args.slice c.reply.result none).acts

pub returns-in-Err-clause-checked : goal.returns-in-Err-clause-checked
returns-in-Err-clause-checked g c =
    let none = subst (λ (r : FileReply). HasNoSignature c.args.self.now c.args.slice r) (sym c.reply.ensures) c.in-Err.ensures.unsigned in
    (reads_none g.D.Digester.hash c.args.self.now c.signature_of.ensures.kept c.args.slice c.reply.result none).checked

pub invariant_of-self : goal.invariant_of-self
invariant_of-self g c =
    let old = object_of c.self.inside.pages c.self.inside.regions c.self.inside.blobs c.self.inside.length c.self.inside.layout in
    let has = subst (λ (o : ObjectNow). HasSignature o c.args.slice c.in-Ok.range) (sym c.self.view_is) c.in-Ok.ensures.signed in
    (reads_to g.D.Digester.hash old c.self.invariant c.args.slice c.in-Ok.range has c.read_range.new.pages c.in-Err-read_range.page c.in-Err-read_range.ensures.failed).kept

pub returns-in-Err-read_range-clause-acts : goal.returns-in-Err-read_range-clause-acts
returns-in-Err-read_range-clause-acts g c =
    let old = object_of c.self.inside.pages c.self.inside.regions c.self.inside.blobs c.self.inside.length c.self.inside.layout in
    let has = subst (λ (o : ObjectNow). HasSignature o c.args.slice c.in-Ok.range) (sym c.self.view_is) c.in-Ok.ensures.signed in
    (does_from g.D.Digester.hash _ _ _ _ _ _ c.self.view_is
    (reads_to g.D.Digester.hash old c.self.invariant c.args.slice c.in-Ok.range has c.read_range.new.pages c.in-Err-read_range.page c.in-Err-read_range.ensures.failed)).acts

pub returns-in-Err-read_range-clause-checked : goal.returns-in-Err-read_range-clause-checked
returns-in-Err-read_range-clause-checked g c =
    let old = object_of c.self.inside.pages c.self.inside.regions c.self.inside.blobs c.self.inside.length c.self.inside.layout in
    let has = subst (λ (o : ObjectNow). HasSignature o c.args.slice c.in-Ok.range) (sym c.self.view_is) c.in-Ok.ensures.signed in
    (does_from g.D.Digester.hash _ _ _ _ _ _ c.self.view_is
    (reads_to g.D.Digester.hash old c.self.invariant c.args.slice c.in-Ok.range has c.read_range.new.pages c.in-Err-read_range.page c.in-Err-read_range.ensures.failed)).checked

pub returns-in-Err-read_range-clause-kept : goal.returns-in-Err-read_range-clause-kept
returns-in-Err-read_range-clause-kept g c =
    let old = object_of c.self.inside.pages c.self.inside.regions c.self.inside.blobs c.self.inside.length c.self.inside.layout in
    let has = subst (λ (o : ObjectNow). HasSignature o c.args.slice c.in-Ok.range) (sym c.self.view_is) c.in-Ok.ensures.signed in
    (reads_to g.D.Digester.hash old c.self.invariant c.args.slice c.in-Ok.range has c.read_range.new.pages c.in-Err-read_range.page c.in-Err-read_range.ensures.failed).kept

pub invariant_of-self-2 : goal.invariant_of-self-2
invariant_of-self-2 g c =
    let old = object_of c.self.inside.pages c.self.inside.regions c.self.inside.blobs c.self.inside.length c.self.inside.layout in
    let has = subst (λ (o : ObjectNow). HasSignature o c.args.slice c.in-Ok.range) (sym c.self.view_is) c.in-Ok.ensures.signed in
    (reads g.D.Digester.hash old c.self.invariant c.args.slice c.in-Ok.range has c.read_range.new.pages c.read_range.new.bytes.items c.self.invariant.sound.sized.size c.in_default.ensures.all).kept

pub returns-clause-acts : goal.returns-clause-acts
returns-clause-acts g c =
    let old = object_of c.self.inside.pages c.self.inside.regions c.self.inside.blobs c.self.inside.length c.self.inside.layout in
    let has = subst (λ (o : ObjectNow). HasSignature o c.args.slice c.in-Ok.range) (sym c.self.view_is) c.in-Ok.ensures.signed in
    let done = does_from g.D.Digester.hash _ _ _ _ _ _ c.self.view_is
    (reads g.D.Digester.hash old c.self.invariant c.args.slice c.in-Ok.range has c.read_range.new.pages c.read_range.new.bytes.items c.self.invariant.sound.sized.size c.in_default.ensures.all) in
    subst (λ (b : List ℕ). Acts g.D.Digester.hash c.args.self.now (event.ReadSignature c.args.slice) None (reply.Read b) (object_of c.read_range.new.pages c.self.inside.regions c.self.inside.blobs c.self.inside.length c.self.inside.layout)) (sym c.new-bytes.ensures) done.acts

pub returns-clause-checked : goal.returns-clause-checked
returns-clause-checked g c =
    let old = object_of c.self.inside.pages c.self.inside.regions c.self.inside.blobs c.self.inside.length c.self.inside.layout in
    let has = subst (λ (o : ObjectNow). HasSignature o c.args.slice c.in-Ok.range) (sym c.self.view_is) c.in-Ok.ensures.signed in
    let done = does_from g.D.Digester.hash _ _ _ _ _ _ c.self.view_is
    (reads g.D.Digester.hash old c.self.invariant c.args.slice c.in-Ok.range has c.read_range.new.pages c.read_range.new.bytes.items c.self.invariant.sound.sized.size c.in_default.ensures.all) in
    subst (λ (b : List ℕ). KeepsChecked c.args.self.now (event.ReadSignature c.args.slice) (reply.Read b) (object_of c.read_range.new.pages c.self.inside.regions c.self.inside.blobs c.self.inside.length c.self.inside.layout)) (sym c.new-bytes.ensures) done.checked

pub returns-clause-kept : goal.returns-clause-kept
returns-clause-kept g c =
    let old = object_of c.self.inside.pages c.self.inside.regions c.self.inside.blobs c.self.inside.length c.self.inside.layout in
    let has = subst (λ (o : ObjectNow). HasSignature o c.args.slice c.in-Ok.range) (sym c.self.view_is) c.in-Ok.ensures.signed in
    let done = does_from g.D.Digester.hash _ _ _ _ _ _ c.self.view_is
    (reads g.D.Digester.hash old c.self.invariant c.args.slice c.in-Ok.range has c.read_range.new.pages c.read_range.new.bytes.items c.self.invariant.sound.sized.size c.in_default.ensures.all) in
    done.kept
