-- The limits on what a scene says, and the first of them that is passed.
use Rattle.std.specs.Prelude.{ℕ, ◌≤◌, Bool, true, false, nat_lt, List, [], ◌∷◌, count_by, Option}
use Rattle.pg_bytes.specs.Rules.{Rule, first}
use Rattle.pg_bytes.specs.declared.status.Status.{Status}
use Rattle.pg_bytes.specs.declared.status.Status.TheVariants.{Limit}
use Rattle.pg_bytes.specs.declared.status.Which.{Which}
use Rattle.pg_bytes.specs.declared.status.Which.TheVariants as which
use Rattle.cs_policy.specs.declared.call.Call.TheVariants as call
use Rattle.scene_text.specs.declared.head.Head.TheVariants as head
use Rattle.scene_text.specs.declared.line.Line.{Line}
use Rattle.scene_text.specs.declared.line.Line.TheVariants as line
use Rattle.scene_text.specs.Known.{is_file, is_process, is_cache, is_script}

-- the line is a call
abbrev pub is_call : Line → Bool
is_call (line.Head head) = false
is_call line.Script = false
is_call (line.Call call) = true

-- the line is a call that attaches a signature
abbrev pub is_attach : Line → Bool
is_attach (line.Head head) = false
is_attach line.Script = false
is_attach (line.Call (call.Attach file slice)) = true
is_attach (line.Call other) = false

-- the line is a static module of the trust list
abbrev pub is_static : Line → Bool
is_static (line.Head (head.Static path)) = true
is_static (line.Head (head.Admit cdhash)) = true
is_static (line.Head other) = false
is_static line.Script = false
is_static (line.Call call) = false

-- the line lets a pager call fail
abbrev pub is_fail : Line → Bool
is_fail (line.Head (head.Fail file call)) = true
is_fail (line.Head other) = false
is_fail line.Script = false
is_fail (line.Call call) = false

-- a limit on a count of lines, broken where there are more
abbrev pub above : Which → ℕ → ℕ → Rule Status
above which limit count = (nat_lt limit count, Limit which limit)

-- the limits on the lines of a scene, in their order
abbrev pub count_rules : List Line → List (Rule Status)
count_rules lines =
    above which.Calls 4096 (count_by is_call lines)
    ∷ above which.Workers 8 (count_by is_script lines)
    ∷ above which.Files 16 (count_by is_file lines)
    ∷ above which.Processes 64 (count_by is_process lines)
    ∷ above which.Statics 64 (count_by is_static lines)
    ∷ above which.Caches 64 (count_by is_cache lines)
    ∷ above which.Fails 64 (count_by is_fail lines)
    ∷ above which.Attaches 64 (count_by is_attach lines)
    ∷ []

-- the first limit that the lines of a scene pass, or none
unfoldable pub over_limit : List Line → Option Status
over_limit lines = first (count_rules lines)

-- the lines of a scene are within each limit
pub record IsWithin (lines : List Line) : Type 0 where
  pub calls : count_by is_call lines ≤ 4096
  pub workers : count_by is_script lines ≤ 8
  pub files : count_by is_file lines ≤ 16
  pub processes : count_by is_process lines ≤ 64
  pub statics : count_by is_static lines ≤ 64
  pub caches : count_by is_cache lines ≤ 64
  pub fails : count_by is_fail lines ≤ 64
  pub attaches : count_by is_attach lines ≤ 64
