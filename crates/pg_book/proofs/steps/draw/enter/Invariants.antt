use Rattle.std.proofs.Common.{Some}
use Rattle.pg_book.proofs.steps.draw.enter.Given as goal

abbrev pub ghosts-draw_as : goal.ghosts-draw_as
ghosts-draw_as g a = record { part = a.part; caller = a.caller; entry = Some a.entry.now }
