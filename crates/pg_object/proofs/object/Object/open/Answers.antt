use Rattle.pg_object.proofs.OpenFacts.{is_opened, is_kept}
use Rattle.pg_object.proofs.object.Object.open.Goals as goal

pub invariant_of-result : goal.invariant_of-result
invariant_of-result g c =
    let size = c.page_size-page_size in
    is_kept g.D.Digester.hash c.args.pages c.forget_spare.new.self c.args.length c.args.layout c.args.room c.opening_keeps.ensures c.forget_spare.ensures.marks c.requires.empty
    c.in_ok-regions.regions c.in_ok-blobs.blobs size.result size.ensures.size c.in_ok-regions.ensures.opened c.in_ok-blobs.ensures
    size.ensures.sound c.forget_spare.ensures.marked c.in_ok-regions.ensures.sound c.requires.reached c.requires.laid

pub returns : goal.returns
returns g c =
    let size = c.page_size-page_size in
    record {
      opened = is_opened g.D.Digester.hash c.args.pages c.forget_spare.new.self c.args.length c.args.layout c.args.room c.opening_keeps.ensures c.forget_spare.ensures.marks c.requires.empty
          c.in_ok-regions.regions c.in_ok-blobs.blobs size.result size.ensures.size c.in_ok-regions.ensures.opened c.in_ok-blobs.ensures;
      kept = is_kept g.D.Digester.hash c.args.pages c.forget_spare.new.self c.args.length c.args.layout c.args.room c.opening_keeps.ensures c.forget_spare.ensures.marks c.requires.empty
          c.in_ok-regions.regions c.in_ok-blobs.blobs size.result size.ensures.size c.in_ok-regions.ensures.opened c.in_ok-blobs.ensures
          size.ensures.sound c.forget_spare.ensures.marked c.in_ok-regions.ensures.sound c.requires.reached c.requires.laid;
    }
