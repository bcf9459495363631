-- The parts of a scene that were opened so far, item by item.
use Rattle.std.specs.Prelude.{◌≡◌, ℕ, ◌<◌, ◌⊎◌, ◌^◌, List, [], ◌∷◌, ◌++◌, length, take, IsAscii, Option, Some, None, Result, Ok, Err}
use Rattle.std.specs.Global.{Vec}
use Rattle.pg_bytes.specs.declared.status.Status.{Status}
use Rattle.pg_bytes.specs.declared.status.Status.TheVariants as status
use Rattle.pg_io.specs.Files.{Told}
use Rattle.cs_policy.specs.declared.layout.Layout.{Layout}
use Rattle.cs_policy.specs.declared.refusal.Refusal.{Refusal}
use Rattle.cs_trust.specs.Listed.{Table}
use Rattle.cs_trust.specs.Rules as trust
use Rattle.cs_trust.specs.Rules.{IsModule}
use Rattle.pg_trusted.specs.Kept.{opened}
use Rattle.scene_text.specs.declared.head.Head.{Head}
use Rattle.scene_text.specs.declared.head.Head.TheVariants as head
use Rattle.scene_open.specs.declared.draft.Draft.{Draft}
use Rattle.scene_open.specs.declared.open_scene.OpenScene.{OpenScene}
use Rattle.scene_open.specs.Items.{Item, heads_of, path_of, found_by, told_behind, items_told, told_after, files_read, ReadsWithin, file_end, static_end, item_end, items_end}
use Rattle.scene_open.specs.Opening.{page_size_of, fails_of, files_among, pager_of, pagers_from, layouts_of, statics_of, table_by, caches_of}

-- the columns of a header line are such that its file can be read and laid out
abbrev pub IsReadable : Head → Type 0
IsReadable (head.File path) = IsAscii path
IsReadable (head.Raw path off len) = IsAscii path × (off < 2 ^ 32) × (len < 2 ^ 32)
IsReadable (head.Static path) = IsAscii path
IsReadable (head.Cache path) = IsAscii path
IsReadable other = Unit {0}

-- ---- reads

-- The file that a line names was read, where it names one, and this was found.
pub record ReadsOf (path : Option (List ℕ)) (before : Option Told) (found : Option (List ℕ)) (now : Option Told) : Type 0 where
  pub told : (t : Told) → before ≡ Some t → (found ≡ found_by t path) × (now ≡ Some (told_behind t path))

-- The first bytes of a file that was found, at most so many, were read.
pub record ReadsFirst (path : List ℕ) (most : ℕ) (before : Option Told) (bytes : List ℕ) (now : Option Told) : Type 0 where
  pub whole : List ℕ
  pub read : ReadsOf (Some path) before (Some whole) now
  pub first : bytes ≡ take most whole

-- what a read of the item of this number answered
abbrev pub GivesFile : List ℕ → ℕ → ℕ → Option Told → Option Told → Result (Vec ℕ) Status → Type 0
GivesFile path most number before now (Ok v) = ReadsFirst path most before v.items now
GivesFile path most number before now (Err (status.FileFault item)) = (item ≡ number) × ReadsOf (Some path) before None now
GivesFile path most number before now (Err status.NoMemory) = (t : Told) → before ≡ Some t → now ≡ Some t
GivesFile path most number before now (Err other) = ⊥

-- ---- one item

-- One more file stands behind those that were opened.
pub record HasFile (heads : List Head) (old : Draft) (bytes : List ℕ) (layout : Layout) (new : Draft) : Type 0 where
  pub pagers : new.pagers.items ≡ old.pagers.items ++ pager_of (page_size_of heads) (fails_of heads (length old.pagers.items)) bytes ∷ []
  pub layouts : new.layouts.items ≡ old.layouts.items ++ layout ∷ []
  pub statics : new.statics ≡ old.statics
  pub caches : new.caches ≡ old.caches

-- what opening one more file of these bytes answered
abbrev pub AddsFile : List Head → Draft → List ℕ → Layout → Draft → Result (Unit {0}) Status → Type 0
AddsFile heads old bytes layout new (Ok _) = (file_end bytes layout ≡ None) × HasFile heads old bytes layout new
AddsFile heads old bytes layout new (Err status.NoMemory) = Unit {0}
AddsFile heads old bytes layout new (Err s) = file_end bytes layout ≡ Some s

-- what one more part answered: it stands behind the others, unless memory ran out
abbrev pub Adds : Type 0 → Result (Unit {0}) Status → Type 0
Adds added (Ok _) = added
Adds added (Err status.NoMemory) = Unit {0}
Adds added (Err other) = ⊥

-- One more static module stands behind the others.
pub record HasStatic (old : Draft) (table : Table) (new : Draft) : Type 0 where
  pub pagers : new.pagers ≡ old.pagers
  pub layouts : new.layouts ≡ old.layouts
  pub statics : new.statics.items ≡ old.statics.items ++ table ∷ []
  pub caches : new.caches ≡ old.caches

-- One more trust cache that a script may load stands behind the others.
pub record HasCache (old : Draft) (cache : Result Table Refusal) (new : Draft) : Type 0 where
  pub pagers : new.pagers ≡ old.pagers
  pub layouts : new.layouts ≡ old.layouts
  pub statics : new.statics ≡ old.statics
  pub caches : new.caches.items ≡ old.caches.items ++ cache ∷ []

-- what a static trust cache of the item of this number answered
abbrev pub TriesModule : List ℕ → ℕ → Result Table Status → Type 0
TriesModule bytes number (Ok table) = IsModule bytes table
TriesModule bytes number (Err status.NoMemory) = Unit {0}
TriesModule bytes number (Err s) = static_end number (trust.broken bytes) ≡ Some s

-- a trust cache that a script may load
abbrev pub GivesCache : List ℕ → Result Table Refusal → Type 0
GivesCache bytes cache = cache ≡ table_by (trust.broken bytes) bytes

-- One more item stands behind those that were opened, where these are the header lines.
pub record IsAdded (heads : List Head) (old : Draft) (item : Item) (new : Draft) : Type 0 where
  pub pagers : new.pagers.items ≡ old.pagers.items ++ pagers_from heads (length old.pagers.items) (files_among (item ∷ []))
  pub layouts : new.layouts.items ≡ old.layouts.items ++ layouts_of (item ∷ [])
  pub statics : new.statics.items ≡ old.statics.items ++ statics_of (item ∷ [])
  pub caches : new.caches.items ≡ old.caches.items ++ caches_of (item ∷ [])

-- The item was read, does not end the run, and was added.
pub record TakesIt (heads : List Head) (number : ℕ) (h : Head) (old : Draft) (before : Option Told) (new : Draft) (now : Option Told) : Type 0 where
  pub found : Option (List ℕ)
  pub read : ReadsOf (path_of h) before found now
  pub passes : item_end number (record { head = h; found = found }) ≡ None
  pub added : IsAdded heads old (record { head = h; found = found }) new

-- The item was read, and ends the run so.
pub record EndsAt (number : ℕ) (h : Head) (before : Option Told) (s : Status) (now : Option Told) : Type 0 where
  pub found : Option (List ℕ)
  pub read : ReadsOf (path_of h) before found now
  pub ends : item_end number (record { head = h; found = found }) ≡ Some s

-- what taking the item of this number answered; where memory runs out, it was read or not
abbrev pub Takes : List Head → ℕ → Head → Draft → Option Told → Draft → Option Told → Result (Unit {0}) Status → Type 0
Takes heads number h old before new now (Ok _) = TakesIt heads number h old before new now
Takes heads number h old before new now (Err status.NoMemory) =
    (t : Told) → before ≡ Some t → (now ≡ Some t) ⊎ (now ≡ Some (told_behind t (path_of h)))
Takes heads number h old before new now (Err s) = EndsAt number h before s now

-- ---- all items

-- The parts are those of these items, where these are the header lines.
pub record IsDraft (heads : List Head) (items : List Item) (draft : Draft) : Type 0 where
  pub pagers : draft.pagers.items ≡ pagers_from heads 0 (files_among items)
  pub layouts : draft.layouts.items ≡ layouts_of items
  pub statics : draft.statics.items ≡ statics_of items
  pub caches : draft.caches.items ≡ caches_of items

-- what is told behind the reads of header lines
abbrev pub told_behind_all : Told → List Head → Told
told_behind_all told [] = told
told_behind_all told (h ∷ heads) = told_behind_all (told_behind told (path_of h)) heads

-- Some of the header lines were taken, and none of them ends the run.
pub record HasTaken (heads taken : List Head) (before : Option Told) (draft : Draft) (now : Option Told) : Type 0 where
  pub items : List Item
  pub lines : heads_of items ≡ taken
  pub passes : items_end 1 items ≡ None
  pub parts : IsDraft heads items draft
  pub told : (t : Told) → before ≡ Some t → (items ≡ items_told t taken) × (now ≡ Some (told_behind_all t taken))

-- The first of the items that ends the run ends it so, and no file of those behind it was read.
pub record HasEnded (heads : List Head) (before : Option Told) (s : Status) (now : Option Told) : Type 0 where
  pub items : List Item
  pub lines : heads_of items ≡ heads
  pub ends : items_end 1 items ≡ Some s
  pub told : (t : Told) → before ≡ Some t → (items ≡ items_told t heads) × (now ≡ Some (told_after t (files_read items)))

-- what reading all items answered
abbrev pub TakesAll : List Head → Option Told → Option Told → Result Draft Status → Type 0
TakesAll heads before now (Ok draft) = HasTaken heads heads before draft now
TakesAll heads before now (Err status.NoMemory) = (t : Told) → before ≡ Some t → ReadsWithin t (files_read (items_told t heads)) now
TakesAll heads before now (Err s) = HasEnded heads before s now

-- The parts are handed on, and nothing is loaded.
pub record FinishesTo (draft : Draft) (o : OpenScene) : Type 0 where
  pub files : o.files ≡ draft.pagers
  pub layouts : o.layouts ≡ draft.layouts
  pub trust : o.trust ≡ opened draft.statics.items draft.caches.items
