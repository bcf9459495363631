-- How a scene and its items are opened, and how a run ends where they are not.
use Rattle.std.specs.Prelude.{◌≡◌, ℕ, nat_lt, if◌then◌else◌, List, length, Option, Some, None, Result, Ok, Err}
use Rattle.pg_bytes.specs.Counts.{Rose}
use Rattle.pg_bytes.specs.declared.status.Status.{Status}
use Rattle.pg_bytes.specs.declared.status.Status.TheVariants as status
use Rattle.pg_bytes.specs.declared.status.Which.TheVariants as which
use Rattle.scene_text.specs.declared.head.Head.{Head}
use Rattle.scene_text.specs.declared.line.Line.{Line}
use Rattle.scene_text.specs.declared.whole.Scene.{Scene}
use Rattle.scene_text.specs.Texts.{Flaw, said, IsScene}
use Rattle.scene_open.specs.declared.open_scene.OpenScene.{OpenScene}
use Rattle.scene_open.specs.Limits.{over_limit}
use Rattle.pg_io.specs.Files.{Told}
use Rattle.scene_open.specs.Items.{Item, heads_of, items_end, told_after, files_read, ReadsWithin}
use Rattle.scene_open.specs.Opening.{pagers_of, layouts_of, trust_of}

-- ---- the scene

-- why a run ends at what a text says: its first bad line, or the first limit that its lines pass
abbrev pub said_end : Result (List Line) Flaw → Option Status
said_end (Err flaw) = Some (status.SceneBad flaw.line flaw.kind)
said_end (Ok lines) = over_limit lines

-- why it ends at a text, which may have 1,048,576 bytes
abbrev pub text_end : List ℕ → Option Status
text_end text =
    if nat_lt 1048576 (length text) then Some (status.Limit which.Scene 1048576) else said_end (said text)

-- why it ends at the scene's file: it cannot be read, or its text ends the run
abbrev pub scene_end : Option (List ℕ) → Option Status
scene_end None = Some (status.FileFault 0)
scene_end (Some text) = text_end text

-- The scene's file was read, no step on it ends the run, and this is the scene.
pub record IsSceneOf (found : Option (List ℕ)) (scene : Scene) : Type 0 where
  pub text : List ℕ
  pub read : found ≡ Some text
  pub passes : text_end text ≡ None
  pub says : IsScene text scene

-- the answer is the scene of what was found, or why the run ends there; want of memory is tied to nothing
abbrev pub ReadsScene : Option (List ℕ) → Result Scene Status → Type 0
ReadsScene found (Ok scene) = IsSceneOf found scene
ReadsScene found (Err status.NoMemory) = Unit {0}
ReadsScene found (Err s) = scene_end found ≡ Some s

-- the same of a text
abbrev pub ReadsText : List ℕ → Result Scene Status → Type 0
ReadsText text (Ok scene) = (text_end text ≡ None) × IsScene text scene
ReadsText text (Err status.NoMemory) = Unit {0}
ReadsText text (Err s) = text_end text ≡ Some s

-- the same for whatever was found
abbrev pub ReadsSome : Result Scene Status → Type 0
ReadsSome result = (found : Option (List ℕ)) × ReadsScene found result

-- ---- its items

-- No item ends the run, and the pagers, layouts and the trust list are those of the items.
pub record OpensTo (items : List Item) (o : OpenScene) : Type 0 where
  pub passes : items_end 1 items ≡ None
  pub files : o.files.items ≡ pagers_of items
  pub layouts : o.layouts.items ≡ layouts_of items
  pub trust : o.trust ≡ trust_of items

-- the answer is what the items open to, or why the first of them ends the run; want of memory is tied to nothing
abbrev pub Opens : List Item → Result OpenScene Status → Type 0
Opens items (Ok o) = OpensTo items o
Opens items (Err status.NoMemory) = Unit {0}
Opens items (Err s) = items_end 1 items ≡ Some s

-- the same for whatever bytes the header lines' files have
pub record OpensSome (heads : List Head) (result : Result OpenScene Status) : Type 0 where
  pub items : List Item
  pub lines : heads_of items ≡ heads
  pub opens : Opens items result

-- As many reads were made as the items up to the first that ends the run name files. Where memory ran out, at most so many
-- were.
abbrev pub ReadsUpToEnd : Told → List Item → Result OpenScene Status → Option Told → Type 0
ReadsUpToEnd told items (Ok o) now = now ≡ Some (told_after told (files_read items))
ReadsUpToEnd told items (Err status.NoMemory) now = ReadsWithin told (files_read items) now
ReadsUpToEnd told items (Err s) now = now ≡ Some (told_after told (files_read items))

-- ---- the cause

-- a file that could not be read raised the count of faults, and no other end did
abbrev pub IsEndCaused : Status → ℕ → ℕ → Type 0
IsEndCaused (status.FileFault item) before now = Rose before now
IsEndCaused other before now = now ≡ before

abbrev pub IsCaused : {A : Type 0} → Result A Status → ℕ → ℕ → Type 0
IsCaused (Ok _) before now = now ≡ before
IsCaused (Err s) before now = IsEndCaused s before now
