-- What ends a run early, and by what it is caused.
use Rattle.std.proofs.Common.{◌≡◌, ℕ, suc, ◌+◌, ◌≤◌, Bool, true, false, List, [], ◌∷◌, Option, Some, None, Result, Ok, Err, sym, ap, subst, ◌∙◌, arith}
use Rattle.std.specs.Prelude.{if◌then◌else◌, cond, is_some}
use Rattle.std.specs.Option.{option_or}
use Rattle.pg_bytes.specs.Rules.{Rule, first}
use Rattle.pg_bytes.specs.declared.status.Status.{Status}
use Rattle.pg_bytes.specs.declared.status.Status.TheVariants as status
use Rattle.pg_io.specs.Files.{Told, after_read}
use Rattle.cs_policy.specs.declared.layout.Layout.{Layout}
use Rattle.cs_trust.specs.declared.refusal.TrustRefusal.{TrustRefusal}
use Rattle.cs_trust.specs.Rules as trust
use Rattle.scene_text.specs.declared.head.Head.{Head}
use Rattle.scene_text.specs.declared.head.Head.TheVariants as head
use Rattle.scene_text.specs.declared.line.Line.{Line}
use Rattle.scene_text.specs.declared.whole.Scene.{Scene}
use Rattle.scene_text.specs.Texts.{Flaw, said}
use Rattle.scene_open.specs.declared.open_scene.OpenScene.{OpenScene}
use Rattle.scene_open.specs.Limits.{over_limit, count_rules}
use Rattle.scene_open.specs.Layouts.{macho_layout, raw_layout, has_long}
use Rattle.scene_open.specs.Items.{Item, names_file, file_end, static_end, bytes_end, found_end, item_end, items_end, items_told, files_read, ReadsWithin}
use Rattle.scene_open.specs.Ends as ends
use Rattle.scene_open.specs.Ends.{said_end, text_end, scene_end, IsSceneOf, ReadsScene, ReadsSome, Opens, OpensSome, ReadsUpToEnd}
use Rattle.scene_run.specs.Ending.{heads_in, lines_found, most_behind, EarlyIsCaused}
use Rattle.scene_run.proofs.EndingFacts.{heads-found}

-- the status is one with which a run can end before its first event
abbrev IsEarly : Status → Type 0
IsEarly (status.SceneBad line kind) = Unit {0}
IsEarly (status.FileFault item) = Unit {0}
IsEarly (status.Limit which number) = Unit {0}
IsEarly (status.TrustBad item number arg) = Unit {0}
IsEarly other = ⊥

abbrev EndsEarly : Option Status → Type 0
EndsEarly None = Unit {0}
EndsEarly (Some s) = IsEarly s

by_test : (b : Bool) (s : Status) (others : Option Status) → IsEarly s → EndsEarly others → EndsEarly (if b then Some s else others)
by_test true s others one other = one
by_test false s others one other = other

by_rule : (b : Bool) (s : Status) (others : Option Status) → IsEarly s → EndsEarly others → EndsEarly (cond b (Some s) others)
by_rule true s others one other = one
by_rule false s others one other = other

abbrev EachEarly : List (Rule Status) → Type 0
EachEarly [] = Unit {0}
EachEarly (rule ∷ rules) = IsEarly rule.1 × EachEarly rules

first-early : (rules : List (Rule Status)) → EachEarly rules → EndsEarly (first rules)
first-early [] each = tt
first-early (rule ∷ rules) each = by_rule rule.0 rule.1 (first rules) each.0 (first-early rules each.1)

each-limit : (lines : List Line) → EachEarly (count_rules lines)
each-limit lines = (tt, (tt, (tt, (tt, (tt, (tt, (tt, (tt, tt))))))))

limits-early : (lines : List Line) → EndsEarly (over_limit lines)
limits-early lines = unfold over_limit in first-early (count_rules lines) (each-limit lines)

said-early : (r : Result (List Line) Flaw) → EndsEarly (said_end r)
said-early (Err flaw) = tt
said-early (Ok lines) = limits-early lines

scene-early : (found : Option (List ℕ)) → EndsEarly (scene_end found)
scene-early None = tt
scene-early (Some text) = by_test _ _ _ tt (said-early (said text))

file-early : (bytes : List ℕ) (layout : Layout) → EndsEarly (file_end bytes layout)
file-early bytes layout = by_test _ _ _ tt (by_test (has_long layout) _ _ tt tt)

static-early : (number : ℕ) (refusal : Option TrustRefusal) → EndsEarly (static_end number refusal)
static-early number (Some refusal) = tt
static-early number None = tt

bytes-early : (number : ℕ) (h : Head) (bytes : List ℕ) → EndsEarly (bytes_end number h bytes)
bytes-early number (head.File path) bytes = file-early bytes (macho_layout bytes)
bytes-early number (head.Raw path off len) bytes = file-early bytes (raw_layout bytes (record { at = off; len = len }))
bytes-early number (head.Static path) bytes = static-early number (trust.broken bytes)
bytes-early number (head.PageSize size) bytes = tt
bytes-early number head.Adhoc bytes = tt
bytes-early number (head.Resident pages) bytes = tt
bytes-early number (head.Admit cdhash) bytes = tt
bytes-early number (head.Cache path) bytes = tt
bytes-early number (head.Process flags) bytes = tt
bytes-early number (head.Fail file call) bytes = tt

found-early : (number : ℕ) (h : Head) (found : Option (List ℕ)) → EndsEarly (found_end number h found)
found-early number h None = by_test (names_file h) _ _ tt tt
found-early number h (Some bytes) = bytes-early number h bytes

either-early : (one other : Option Status) → EndsEarly one → EndsEarly other → EndsEarly (option_or one other)
either-early None other a b = b
either-early (Some s) other a b = a

items-early : (number : ℕ) (items : List Item) → EndsEarly (items_end number items)
items-early number [] = tt
items-early number (item ∷ items) = either-early (item_end number item) (items_end (number + 1) items) (found-early number item.head item.found) (items-early (number + 1) items)

-- ---- causes

-- an early end that raised the count of faults where a file could not be read, and else left it
early-caused : (before now : ℕ) (s : Status) → IsEarly s → ends.IsCaused {A = OpenScene} (Err s) before now → EarlyIsCaused before now s
early-caused before now (status.SceneBad line kind) early is = is
early-caused before now (status.FileFault item) early is = is
early-caused before now (status.Limit which number) early is = is
early-caused before now (status.TrustBad item number arg) early is = is
early-caused before now status.Done early is = absurd early
early-caused before now status.NotSealed early is = absurd early
early-caused before now status.Usage early is = absurd early
early-caused before now status.SinkFault early is = absurd early
early-caused before now status.NoMemory early is = absurd early

as-items : (s : Status) (before now : ℕ) → ends.IsCaused {A = Scene} (Err s) before now → ends.IsCaused {A = OpenScene} (Err s) before now
as-items (status.SceneBad line kind) before now is = is
as-items (status.FileFault item) before now is = is
as-items (status.Limit which number) before now is = is
as-items (status.TrustBad item number arg) before now is = is
as-items status.Done before now is = is
as-items status.NotSealed before now is = is
as-items status.Usage before now is = is
as-items status.SinkFault before now is = is
as-items status.NoMemory before now is = is

is-early : (o : Option Status) (s : Status) → EndsEarly o → o ≡ Some s → IsEarly s
is-early o s early is = subst EndsEarly is early

pub scene-caused : (before now : ℕ) (s : Status) → ReadsSome (Err s) → ends.IsCaused {A = Scene} (Err s) before now → EarlyIsCaused before now s
scene-caused before now status.NoMemory some is = is
scene-caused before now (status.SceneBad line kind) some is = early-caused before now (status.SceneBad line kind) (is-early (scene_end some.0) (status.SceneBad line kind) (scene-early some.0) some.1) (as-items (status.SceneBad line kind) before now is)
scene-caused before now (status.FileFault item) some is = early-caused before now (status.FileFault item) (is-early (scene_end some.0) (status.FileFault item) (scene-early some.0) some.1) (as-items (status.FileFault item) before now is)
scene-caused before now (status.Limit which number) some is = early-caused before now (status.Limit which number) (is-early (scene_end some.0) (status.Limit which number) (scene-early some.0) some.1) (as-items (status.Limit which number) before now is)
scene-caused before now (status.TrustBad item number arg) some is = early-caused before now (status.TrustBad item number arg) (is-early (scene_end some.0) (status.TrustBad item number arg) (scene-early some.0) some.1) (as-items (status.TrustBad item number arg) before now is)
scene-caused before now status.Done some is = absurd (is-early (scene_end some.0) status.Done (scene-early some.0) some.1)
scene-caused before now status.NotSealed some is = absurd (is-early (scene_end some.0) status.NotSealed (scene-early some.0) some.1)
scene-caused before now status.Usage some is = absurd (is-early (scene_end some.0) status.Usage (scene-early some.0) some.1)
scene-caused before now status.SinkFault some is = absurd (is-early (scene_end some.0) status.SinkFault (scene-early some.0) some.1)

pub items-caused : (before now : ℕ) (s : Status) (heads : List Head) → OpensSome heads (Err s) → ends.IsCaused {A = OpenScene} (Err s) before now → EarlyIsCaused before now s
items-caused before now status.NoMemory heads some is = is
items-caused before now (status.SceneBad line kind) heads some is = early-caused before now (status.SceneBad line kind) (is-early (items_end 1 some.items) (status.SceneBad line kind) (items-early 1 some.items) some.opens) is
items-caused before now (status.FileFault item) heads some is = early-caused before now (status.FileFault item) (is-early (items_end 1 some.items) (status.FileFault item) (items-early 1 some.items) some.opens) is
items-caused before now (status.Limit which number) heads some is = early-caused before now (status.Limit which number) (is-early (items_end 1 some.items) (status.Limit which number) (items-early 1 some.items) some.opens) is
items-caused before now (status.TrustBad item number arg) heads some is = early-caused before now (status.TrustBad item number arg) (is-early (items_end 1 some.items) (status.TrustBad item number arg) (items-early 1 some.items) some.opens) is
items-caused before now status.Done heads some is = absurd (is-early (items_end 1 some.items) status.Done (items-early 1 some.items) some.opens)
items-caused before now status.NotSealed heads some is = absurd (is-early (items_end 1 some.items) status.NotSealed (items-early 1 some.items) some.opens)
items-caused before now status.Usage heads some is = absurd (is-early (items_end 1 some.items) status.Usage (items-early 1 some.items) some.opens)
items-caused before now status.SinkFault heads some is = absurd (is-early (items_end 1 some.items) status.SinkFault (items-early 1 some.items) some.opens)

-- ---- reads

reads-within : (told : Told) (items : List Item) (r : Result OpenScene Status) (now : Option Told) → ReadsUpToEnd told items r now
    → ReadsWithin told (files_read items) now
reads-within told items (Ok o) now is = record { reads = files_read items; few = omega arith; after = is }
reads-within told items (Err status.Done) now is = record { reads = files_read items; few = omega arith; after = is }
reads-within told items (Err status.NotSealed) now is = record { reads = files_read items; few = omega arith; after = is }
reads-within told items (Err status.Usage) now is = record { reads = files_read items; few = omega arith; after = is }
reads-within told items (Err (status.SceneBad line kind)) now is = record { reads = files_read items; few = omega arith; after = is }
reads-within told items (Err (status.FileFault item)) now is = record { reads = files_read items; few = omega arith; after = is }
reads-within told items (Err status.SinkFault) now is = record { reads = files_read items; few = omega arith; after = is }
reads-within told items (Err (status.Limit which number)) now is = record { reads = files_read items; few = omega arith; after = is }
reads-within told items (Err (status.TrustBad item number arg)) now is = record { reads = files_read items; few = omega arith; after = is }
reads-within told items (Err status.NoMemory) now is = is

most-of : (told : Told) (found : Option (List ℕ)) (scene : Scene) → IsSceneOf found scene
    → most_behind told found ≡ 1 + files_read (items_told told scene.head)
most-of told found scene is =
    ap (λ (e : Option Status). 1 + (if is_some e then 0 else files_read (items_told told (heads_in (lines_found found))))) (ap scene_end is.read ∙ is.passes)
    ∙ ap (λ hs. 1 + files_read (items_told told hs)) (heads-found found scene is)

pub all-reads : (told : Told) (found : Option (List ℕ)) (scene : Scene) (r : Result OpenScene Status) (now : Option Told) → IsSceneOf found scene
    → ReadsUpToEnd (after_read told) (items_told (after_read told) scene.head) r now → ReadsWithin told (most_behind (after_read told) found) now
all-reads told found scene r now is reads =
    let within = reads-within (after_read told) (items_told (after_read told) scene.head) r now reads in record {
      reads = suc within.reads;
      few = subst (λ n. suc within.reads ≤ n) (sym (most-of (after_read told) found scene is)) (omega (arith, within.few));
      after = within.after;
    }

-- the read of the scene's file alone
pub one-read : (told : Told) (found : Option (List ℕ)) (now : Option Told) → ReadsWithin told 1 now → ReadsWithin told (most_behind (after_read told) found) now
one-read told found now within = record { reads = within.reads; few = omega (arith, within.few); after = within.after }
