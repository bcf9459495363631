use Rattle.std.proofs.Common.{◌≡◌, ◌-◌, ◌≤◌, ◌++◌, max}
use Rattle.std.specs.List.{filter_map, range_with_len}
use Rattle.pg_bytes.specs.Counts.{RoseBy}
use Rattle.cs_verify.specs.Pages.{bad_page, slotted_between}
use Rattle.cs_verify.proofs.pages.bad_between.Given as goal

abbrev pub invariant-loop-page : goal.invariant-loop-page
invariant-loop-page g l =
    let wrong = bad_page g.D.Digester.hash l.directory l.directory_bytes l.signed in record {
      found : l.bad.items ++ filter_map wrong (range_with_len l.page (l.to - l.page)) ≡ filter_map wrong (range_with_len l.from (l.to - l.from));
      hashed : RoseBy (slotted_between l.directory l.from l.page) (g.D.Digester.calls l.fn.d) (g.D.Digester.calls l.d);
      begun : l.from ≤ l.page;
      within : l.page ≤ max l.from l.to;
    }
