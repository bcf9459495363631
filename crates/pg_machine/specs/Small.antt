-- The small machine of the tests: a process and a trust list, for one worker.
use Rattle.std.specs.Prelude.{◌≡◌, [], ◌∷◌, length}
use Rattle.pg_book.specs.declared.needs.Needs.{Needs}
use Rattle.pg_parts.specs.Opened.{OpenedNow}

abbrev pub four_entries : Needs
four_entries = record { entries = 4; regions = 0; records = 0; copies = 0; blobs = 0; numbers = 4 }

pub record IsSmall (now : OpenedNow) : Type 0 where
  pub files : now.files ≡ []
  pub processes : length now.processes ≡ 1
  pub needs : now.needs ≡ (four_entries ∷ four_entries ∷ []) ∷ []
