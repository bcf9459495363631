use Rattle.std.proofs.Common.{◌≡◌, ◌*◌, ◌∙◌, Some, ap, sym, rules, take, drop}
use Rattle.pg_io.specs.MemPages.{MemPagerNow}
use Rattle.pg_io.specs.MemPagesLaws.{get-pages_of}
use Rattle.pg_io.proofs.PagerFacts.{bytes_copied}
use Rattle.pg_io.proofs.mem_pager.MemPagerPager.read_page.Goals as goal

pub returns-clause-read : goal.returns-clause-read
returns-clause-read c =
    let old = c.args.self.now in
    let bytes = ap (λ (p : MemPagerNow). p.bytes) c.self-2.view_is ∙ ap (λ (p : MemPagerNow). p.bytes) c.call_fails.ensures.counts ∙ ap (λ (p : MemPagerNow). p.bytes) c.self.view_is in
    let size : c.self-2.inside.page_size ≡ old.page_size = ap (λ (p : MemPagerNow). p.page_size) c.self-2.view_is ∙ ap (λ (p : MemPagerNow). p.page_size) c.call_fails.ensures.counts ∙ ap (λ (p : MemPagerNow). p.page_size) c.self.view_is in
    let copied = bytes_copied c.self-2.inside.page_size c.copy_from_slice.new.self c.deref.result.now old.bytes (c.args.page * c.self-2.inside.page_size) c.copy_from_slice.ensures.after (c.deref.ensures.value ∙ bytes) in
    let piece = copied ∙ ap (λ s. take s (drop (c.args.page * s) old.bytes)) size in
    record {
      pages = search rules;
      page_size = search rules;
      reads = search rules;
      calls = search rules;
      faults = search rules;
      outcome = search rules;
      content = λ _. get-pages_of old.page_size old.bytes c.args.page c.requires.inside ∙ ap Some (sym piece);
      told = search rules;
    }
