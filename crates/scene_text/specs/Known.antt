-- What the lines above a line have declared.
use Rattle.std.specs.Prelude.{ℕ, ◌+◌, ◌==◌, ◌||◌, Bool, true, false, if◌then◌else◌, List, [], ◌∷◌, count_by}
use Rattle.std.specs.List.{list_any}
use Rattle.scene_text.specs.declared.head.Head.TheVariants as head
use Rattle.scene_text.specs.declared.line.Line.{Line}
use Rattle.scene_text.specs.declared.line.Line.TheVariants as line
use Rattle.scene_text.specs.declared.line.Known.{Known}

-- the line declares a file
abbrev pub is_file : Line → Bool
is_file (line.Head (head.File path)) = true
is_file (line.Head (head.Raw path off len)) = true
is_file (line.Head other) = false
is_file line.Script = false
is_file (line.Call call) = false

-- the line declares a process
abbrev pub is_process : Line → Bool
is_process (line.Head (head.Process flags)) = true
is_process (line.Head other) = false
is_process line.Script = false
is_process (line.Call call) = false

-- the line declares a trust cache that can be loaded
abbrev pub is_cache : Line → Bool
is_cache (line.Head (head.Cache path)) = true
is_cache (line.Head other) = false
is_cache line.Script = false
is_cache (line.Call call) = false

-- the line says how many bytes a page has
abbrev pub is_page_size : Line → Bool
is_page_size (line.Head (head.PageSize bytes)) = true
is_page_size (line.Head other) = false
is_page_size line.Script = false
is_page_size (line.Call call) = false

-- the line says how many pages are in memory
abbrev pub is_resident : Line → Bool
is_resident (line.Head (head.Resident pages)) = true
is_resident (line.Head other) = false
is_resident line.Script = false
is_resident (line.Call call) = false

-- the line says that blobs may go unlisted
abbrev pub is_adhoc : Line → Bool
is_adhoc (line.Head head.Adhoc) = true
is_adhoc (line.Head other) = false
is_adhoc line.Script = false
is_adhoc (line.Call call) = false

-- the line begins a script
abbrev pub is_script : Line → Bool
is_script (line.Head head) = false
is_script line.Script = true
is_script (line.Call call) = false

-- pages are large behind the line, where they were so before it or not
abbrev pub large_after : Bool → Line → Bool
large_after before (line.Head (head.PageSize bytes)) = bytes == 16384
large_after before (line.Head other) = before
large_after before line.Script = before
large_after before (line.Call call) = before

-- the last line that says how many bytes a page has says 16,384
abbrev pub large_from : Bool → List Line → Bool
large_from before [] = before
large_from before (first ∷ others) = large_from (large_after before first) others

-- what these lines have declared
abbrev pub known_of : List Line → Known
known_of lines = record {
  files = count_by is_file lines;
  processes = count_by is_process lines;
  caches = count_by is_cache lines;
  large = large_from false lines;
  sized = list_any is_page_size lines;
  limited = list_any is_resident lines;
  adhoc = list_any is_adhoc lines;
  script = list_any is_script lines;
}

-- one more, where a line declares one
abbrev pub counted : ℕ → Bool → ℕ
counted n declares = if declares then n + 1 else n

-- what is declared behind one more line
abbrev pub known_after : Known → Line → Known
known_after known x = record {
  files = counted known.files (is_file x);
  processes = counted known.processes (is_process x);
  caches = counted known.caches (is_cache x);
  large = large_after known.large x;
  sized = known.sized || is_page_size x;
  limited = known.limited || is_resident x;
  adhoc = known.adhoc || is_adhoc x;
  script = known.script || is_script x;
}

-- how many bytes a page has
abbrev pub page_bytes : Bool → ℕ
page_bytes large = if large then 16384 else 4096
