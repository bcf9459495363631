-- Receipts as entries of a history.
use Rattle.pg_book.specs.declared.receipt.Receipt.{Receipt}
use Rattle.pg_book.specs.declared.receipt.Stamped.{Stamped}

module _ {E : Type 0} where
  -- the entry of a receipt, as the history of a closed book has it
  abbrev pub stamped : Receipt E → Stamped E
  stamped r = record { stamp = r.stamp; part = r.part; caller = r.caller; entry = r.entry }
