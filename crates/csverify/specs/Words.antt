-- What the words of the command line name.
use Rattle.std.specs.Prelude.{◌≡◌, ◌⊎◌, List, codes, Bool, true, not, if◌then◌else◌, IsTrue, Option, Some, None}
use Rattle.clap.specs.Words.{App, Rule, Text, new_app, new_rule, with_rule, matches_of, fault_of, first_of, kind_of}
use Rattle.clap.specs.Simple.{on_top}
use Rattle.clap.specs.Walk.{is_empty}
use Rattle.clap.specs.declared.builder.action.ArgAction.TheVariants.{Set}
use Rattle.clap.specs.declared.error.Error.{Error}
use Rattle.clap.specs.declared.error.kind.ErrorKind.TheVariants as kind

-- the one argument: a path, which is required
abbrev pub path_rule : Rule
path_rule = record (new_rule (codes "PATH")) { required = true; action = Some Set }

-- a command whose words do not begin with its name
abbrev pub without_name : App → App
without_name app = on_top (λ s. record s { no_binary_name = true }) app

-- the command line as `clap` is told of it: the one argument, and nothing else but the help that `clap` adds
abbrev pub verifier : App
verifier = with_rule (without_name (new_app (codes "csverify"))) path_rule

-- whether the command finds a fault in the words
unfoldable pub is_refused : List Text → Bool
is_refused words = not (is_empty (fault_of verifier words))

-- the path that the words name, or none where the command finds a fault in them
unfoldable pub path_of : List Text → Option Text
path_of words = if is_refused words then None else first_of (codes "PATH") (matches_of verifier words)

-- memory ran out in the command line
abbrev pub IsShort : Error → Type 0
IsShort error = kind_of error ≡ kind.OutOfMemory

-- why the command line gives no path: memory ran out, or the command finds a fault in the words
abbrev pub IsFaultIn : List Text → Error → Type 0
IsFaultIn words error = IsShort error ⊎ IsTrue (is_refused words)
