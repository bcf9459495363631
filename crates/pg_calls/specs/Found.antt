-- What an address was found to mean, as calls go by it.
use Rattle.pg_history.specs.Calls.{Found}
use Rattle.pg_calls.specs.declared.replies.Mapped.{Mapped}

abbrev pub as_found : Mapped → Found
as_found m = record { id = m.id; number = m.file; page = m.page; flags = m.flags }
