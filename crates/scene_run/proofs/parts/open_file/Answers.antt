use Rattle.std.proofs.Common.{[], None, refl, ap, subst, ◌∙◌}
use Rattle.pg_io.specs.MemPages.{shown}
use Rattle.pg_pages.specs.Pages.{PagesNow}
use Rattle.pg_object.specs.declared.opening.Room.{Room}
use Rattle.pg_object.specs.Opened.{IsOpened}
use Rattle.scene_open.specs.Opening.{limit_of}
use Rattle.scene_run.proofs.FileFacts.{both-ok, file-of}
use Rattle.scene_run.proofs.parts.open_file.Goals as goal

pub returns : goal.returns
returns c =
    let room : Room = record { regions = c.args.needs.regions; records = c.args.needs.records; copies = c.args.needs.copies } in
    both-ok c.open-3.result _ _ _
    (λ object is kept. file-of c.args.resident c.args.needs c.args.pager c.args.layout c.in_ok-pages.pages room
    (ap (λ (p : PagesNow). p.cache) c.in_ok-pages.ensures.opened ∙ c.in_ok-cache.ensures.opened
    ∙ ap (λ n. record { held = []; limit = n; spare = None; pager = shown c.args.pager }) (c.limit_of-limit.ensures ∙ ap (λ n. limit_of c.args.resident n) c.pages.ensures))
    refl refl refl c.requires.small object
    (subst (λ n. IsOpened c.in_ok-pages.pages n c.args.layout room object) c.length-length.ensures is) kept)
    c.open-3.ensures.opened c.open-3.ensures.kept
