-- The files and the sink that stand in memory.
use Rattle.std.specs.Prelude.{ℕ, ◌-◌, ◌==◌, ◌&&◌, ◌||◌, ◌++◌, nat_lt, min, map, length, take, List, Bool, Result, Ok, Err, if◌then◌else◌, String, string_bytes}
use Rattle.std.specs.List.{zip}
use Rattle.std.specs.Global.{Vec, Global}
use Rattle.pg_io.specs.Calls.{next_count, is_to_fail}
use Rattle.pg_io.specs.Files.{Told, after_read}
use Rattle.pg_io.specs.declared.files.ReadFail.{ReadFail}
use Rattle.pg_io.specs.declared.files.ReadFail.TheVariants.{Failed, NoMemory}

-- files in memory: what they tell, and how many reads have failed
pub record FilesNow : Type 0 where
  pub told : Told
  pub faults : ℕ

-- the names, each with the bytes at its place
abbrev pub files_of : List (String Global) → List (Vec ℕ) → List (List ℕ × List ℕ)
files_of names contents = zip (map string_bytes names) (map (λ v. v.items) contents)

-- the files after a read that answered this: want of memory leaves them as they were
abbrev pub files_after : Result (Vec ℕ) ReadFail → FilesNow → FilesNow
files_after (Ok _) files = record files { told = after_read files.told }
files_after (Err Failed) files = record { told = after_read files.told; faults = next_count files.faults }
files_after (Err NoMemory) files = files

-- a sink in memory
pub record SinkNow : Type 0 where
  -- the bytes that went out so far
  pub written : List ℕ
  -- how many more it takes
  pub room : ℕ
  -- how many bytes of a piece it takes at most
  pub most : ℕ
  -- how many writes were made
  pub made : ℕ
  -- the numbers of the writes that are to fail: the first write is number 1
  pub fails : List ℕ
  -- how many writes have failed, or found no room for any byte
  pub faults : ℕ

-- whether the next write is to fail
abbrev pub next_fails : SinkNow → Bool
next_fails sink = is_to_fail sink.made sink.fails

-- how many bytes of a piece the next write takes: none where it is to fail, else the most that it may and has room for
abbrev pub taken : SinkNow → List ℕ → ℕ
taken sink bytes = if next_fails sink then 0 else min (min (length bytes) sink.most) sink.room

-- whether the next write is a fault: it is to fail, or there is a byte and no room for it
abbrev pub is_fault : SinkNow → List ℕ → Bool
is_fault sink bytes = next_fails sink || (nat_lt 0 (length bytes) && sink.room == 0)

-- the sink after a write of this piece
abbrev pub after_write : SinkNow → List ℕ → SinkNow
after_write sink bytes = record {
  written = sink.written ++ take (taken sink bytes) bytes;
  room = sink.room - taken sink bytes;
  most = sink.most;
  made = next_count sink.made;
  fails = sink.fails;
  faults = if is_fault sink bytes then next_count sink.faults else sink.faults;
}
