use Rattle.std.proofs.Common.{◌≡◌, ◌*◌, ◌/◌, ◌∙◌, List, length, Some, ap, sym, rules}
use Rattle.pg_io.specs.Calls.{next_count}
use Rattle.pg_io.specs.PageBytes.{written_over}
use Rattle.pg_io.specs.MemPages.{MemPagerNow}
use Rattle.pg_io.specs.MemPagesLaws.{set-pages_of, length-over}
use Rattle.pg_io.proofs.PagerFacts.{bytes_after, page_within, told_of}
use Rattle.pg_io.proofs.mem_pager.MemPagerPager.write_page.Goals as goal

pub returns-clause-wrote : goal.returns-clause-wrote
returns-clause-wrote c =
    let old = c.args.self.now in
    let from = c.args.from.now in
    let at = c.args.page * old.page_size in
    let inside = c.requires.inside in
    let whole = c.requires.whole in
    let kept = ap (λ (p : MemPagerNow). p.bytes) c.self.view_is ∙ ap (λ (p : MemPagerNow). p.bytes) c.call_fails.ensures.counts in
    let size : c.self.inside.page_size ≡ old.page_size = ap (λ (p : MemPagerNow). p.page_size) c.self.view_is ∙ ap (λ (p : MemPagerNow). p.page_size) c.call_fails.ensures.counts in
    let long : c.self.inside.bytes.len ≡ length old.bytes = sym c.deref_mut.ensures.len ∙ ap length (c.deref_mut.ensures.value ∙ kept) in
    let puts = c.put_bytes.ensures.after ∙ ap (λ s. written_over c.deref_mut.result.now (c.args.page * s) from) size in
    let now = bytes_after old.page_size c.self.inside.bytes.len old.bytes c.self.inside.bytes.items c.deref_mut.result.now c.put_bytes.new.bytes from c.args.page inside whole
    (c.deref_mut.ensures.value ∙ kept) long puts in
    let made : c.self.inside.calls.made ≡ next_count old.made = search rules in
    let fails : c.self.inside.calls.fails.items ≡ old.fails = search rules in
    let many : length (written_over old.bytes at from) ≡ length old.bytes = length-over old.bytes from at (page_within old.page_size old.bytes from c.args.page inside whole) in
    record {
      pages = ap (λ (b : List _). length b / c.self.inside.page_size) now ∙ ap (λ n. n / c.self.inside.page_size) many ∙ ap (λ s. length old.bytes / s) size;
      page_size = size;
      reads = search rules;
      calls = search rules;
      faults = search rules;
      outcome = search rules;
      told = told_of _ _ _ _ _ _ _ _ now size made fails
          ∙ ap (λ h. Some (record { holds = h; made = next_count old.made; fails = old.fails })) (set-pages_of old.page_size old.bytes from c.args.page inside whole);
    }
