-- How a process is kept, and what each kept process meets.
use Rattle.std.specs.Prelude.{◌≤◌, ◌<◌, All, IsTrue, vec_len}
use Rattle.std.specs.Vec.{vec_capacity}
use Rattle.pg_bytes.specs.PageSize.{is_page_size}
use Rattle.pg_process.specs.declared.process.Process.TheInside.{Inside}
use Rattle.pg_process.specs.ProcessStep.{PlainProcess}
use Rattle.pg_process.specs.Regions.{IsInFile, AreInOrder}

-- the plain process
abbrev pub process_of : Inside → PlainProcess
process_of p =
    record { pid = p.pid; page = p.page; declared = p.declared; flags = p.flags; state = p.state; made = p.made; regions = p.regions.items }

-- Region numbers fit 32 bits, there is room for 256 regions and there are no more, each is in its file, and they stand in
-- the order of their addresses.
pub record IsKept (p : Inside) : Type 0 where
  pub pid : p.pid < 1048576
  pub page : IsTrue (is_page_size p.page)
  pub made : p.made ≤ 4096
  pub few : vec_len p.regions ≤ 256
  pub room : 256 ≤ vec_capacity p.regions
  pub in_files : All IsInFile p.regions.items
  pub in_order : AreInOrder p.page p.regions.items
