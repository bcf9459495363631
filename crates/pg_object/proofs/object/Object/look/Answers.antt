use Rattle.std.proofs.Common.{◌≡◌, take, drop, true, List, ℕ, [], sym, ap, subst, ◌∙◌}
use Rattle.cs_policy.specs.declared.file.FileReply.TheVariants as reply
use Rattle.pg_cache.specs.Finds.{Finds}
use Rattle.pg_pages.proofs.MarkFacts.{resident_inside, resident_hand}
use Rattle.pg_plain.specs.PlainFile.{has_record}
use Rattle.pg_plain.specs.Steps.{seen_by}
use Rattle.pg_object.specs.Object.{ObjectNow, object_of, seen}
use Rattle.pg_object.proofs.AccessFacts.{mapped_resident, resident_shows}
use Rattle.pg_object.proofs.object.Object.look.Goals as goal

pub bytes-requires : goal.bytes-requires
bytes-requires g c =
    let old = object_of c.self.inside.pages c.self.inside.regions c.self.inside.blobs c.self.inside.length c.self.inside.layout in
    let stands = subst (λ (o : ObjectNow). has_record (seen o []) c.args.id c.args.page ≡ true) (sym c.self.view_is) c.requires.mapped in
    let there = mapped_resident g.D.Digester.hash old c.args.id c.args.page c.self.invariant stands (sym c.in-None.ensures.found) in
    record { inside = resident_inside c.self.inside.pages.cache c.args.page c.self.invariant.sound there; at_hand = resident_hand c.self.inside.pages.cache c.args.page there }

pub returns-in-None : goal.returns-in-None
returns-in-None g c =
    let old = object_of c.self.inside.pages c.self.inside.regions c.self.inside.blobs c.self.inside.length c.self.inside.layout in
    let stands = subst (λ (o : ObjectNow). has_record (seen o []) c.args.id c.args.page ≡ true) (sym c.self.view_is) c.requires.mapped in
    let there = mapped_resident g.D.Digester.hash old c.args.id c.args.page c.self.invariant stands (sym c.in-None.ensures.found) in
    subst (λ (o : ObjectNow). (pages : List (List ℕ)) → Finds o.pages.cache pages → c.got-in-None.result ≡ reply.Got (take c.args.count (drop c.args.at (seen_by (seen o pages) c.args.id c.args.page)))) c.self.view_is
    (λ pages found. c.got-in-None.ensures
    ∙ ap (λ bytes. reply.Got (take c.args.count (drop c.args.at bytes))) (resident_shows old c.args.id c.args.page c.bytes.result.now there (sym c.in-None.ensures.found) c.bytes.ensures.bytes pages found))
