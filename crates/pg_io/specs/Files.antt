-- What is known of files that are read whole.
use Rattle.std.specs.Prelude.{ℕ, ◌≡◌, List, [], ◌∷◌, Option, Some, None, Result, Ok, Err, take, if◌then◌else◌}
use Rattle.std.specs.Str.{bytes_eq}
use Rattle.std.specs.Global.{Vec}
use Rattle.pg_io.specs.declared.files.ReadFail.{ReadFail}
use Rattle.pg_io.specs.declared.files.ReadFail.TheVariants.{Failed, NoMemory}
use Rattle.pg_io.specs.Calls.{next_count, is_to_fail}

-- what a Files that tells its content shows
pub record Told : Type 0 where
  -- the files' names, each with the file's bytes
  pub files : List (List ℕ × List ℕ)
  -- how many reads were made
  pub made : ℕ
  -- the numbers of the reads that are to fail: the first read is number 1
  pub fails : List ℕ

-- the bytes of the first file of that name, if there is one
abbrev pub contents : List (List ℕ × List ℕ) → List ℕ → Option (List ℕ)
contents [] name = None
contents (file ∷ files) name = if bytes_eq file.0 name then Some file.1 else contents files name

-- the whole file that the next read finds: none where that read is to fail, or where no file has the name
abbrev pub next_read : Told → List ℕ → Option (List ℕ)
next_read told name = if is_to_fail told.made told.fails then None else contents told.files name

-- what is told after a read
abbrev pub after_read : Told → Told
after_read told = record told { made = next_count told.made }

-- these are the first bytes, at most so many, of the file that was found
pub record GivesFirst (found : Option (List ℕ)) (most : ℕ) (given : List ℕ) : Type 0 where
  pub whole : List ℕ
  pub found_whole : found ≡ Some whole
  pub given_first : given ≡ take most whole

-- what a read answers where the content was told, and what is told after it:
-- want of memory says nothing of the file, and is no read
abbrev pub ReadGives : Told → List ℕ → ℕ → Result (Vec ℕ) ReadFail → Option Told → Type 0
ReadGives told name most (Ok v) now = GivesFirst (next_read told name) most v.items × (now ≡ Some (after_read told))
ReadGives told name most (Err Failed) now = (next_read told name ≡ None) × (now ≡ Some (after_read told))
ReadGives told name most (Err NoMemory) now = now ≡ Some told
