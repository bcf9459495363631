-- What is true of the opening of each scene that meets the grammar and is within the limits.
use Rattle.std.specs.Prelude.{◌≡◌, ℕ, ◌≤◌, List, length, All}
use Rattle.pg_io.specs.MemPages.{pages_reached}
use Rattle.cs_policy.specs.declared.call.Call.{Call}
use Rattle.pg_history.specs.Machine.{FilePart}
use Rattle.pg_history.specs.Opening.{Opening, IsOpening, Numbers, numbers_of}
use Rattle.scene_text.specs.declared.line.Known.{Known}
use Rattle.scene_text.specs.declared.whole.Scene.{Scene}
use Rattle.scene_text.specs.Known.{known_of, page_bytes}
use Rattle.scene_text.specs.Scenes.{scene_lines}
use Rattle.scene_text.specs.Texts.{IsCallFit}
use Rattle.scene_open.specs.Layouts.{IsLaid}

-- The file has at most 67,108,864 bytes and just the pages that they reach, its slices and their signatures lie in it,
-- and at most 4,096 of its pages can be resident.
pub record IsFileBounded (size : ℕ) (part : FilePart) : Type 0 where
  pub bytes : part.file.length ≤ 67108864
  pub pages : length part.file.pages ≡ pages_reached size part.file.length
  pub laid : IsLaid part.file.length part.file.layout
  pub limit : part.file.limit ≤ 4096

-- The parts of an opening are no more than a scene can declare.
pub record IsBounded (o : Opening) : Type 0 where
  pub few_files : length o.machine.files ≤ 16
  pub few_processes : length o.machine.processes ≤ 64
  pub few_statics : length o.machine.trust.fixed ≤ 64
  pub few_caches : length o.machine.trust.caches ≤ 64
  pub files : All (IsFileBounded o.page_size) o.machine.files

-- The numbers of an opening are those that lines declare.
pub record IsNumbered (known : Known) (numbers : Numbers) : Type 0 where
  pub page_size : numbers.page_size ≡ page_bytes known.large
  pub adhoc : numbers.adhoc ≡ known.adhoc
  pub files : length numbers.files ≡ known.files
  pub processes : numbers.processes ≡ known.processes
  pub caches : numbers.caches ≡ known.caches

-- each call of these scripts has the forms of its columns, names what is declared, and is in its ranges
abbrev pub AreDeclared : Known → List (List Call) → Type 0
AreDeclared known scripts = All (All (IsCallFit known)) scripts

-- What a scene's opening is, what bounds it, and what the scene's calls may name.
pub record IsOpeningFor (scene : Scene) (o : Opening) : Type 0 where
  pub opening : IsOpening o
  pub bounded : IsBounded o
  pub numbers : IsNumbered (known_of (scene_lines scene)) (numbers_of o)
  pub calls : AreDeclared (known_of (scene_lines scene)) scene.scripts
