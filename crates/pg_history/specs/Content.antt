-- The content of a file by its history: what was written to it and what was stored through shared regions, put over what
-- it opened with. Nothing else changes it.
use Rattle.std.specs.Prelude.{ℕ, ◌==◌, not, List, [], ◌∷◌, filter, slice_get, is_some, if◌then◌else◌}
use Rattle.std.specs.Option.{option_map_or}
use Rattle.pg_bytes.specs.Order.{in_order}
use Rattle.cs_policy.specs.declared.region.Region.{Region}
use Rattle.cs_policy.specs.declared.file.FileEvent.{FileEvent}
use Rattle.cs_policy.specs.declared.file.FileEvent.TheVariants as file
use Rattle.cs_policy.specs.declared.file.FileReply.{FileReply}
use Rattle.cs_policy.specs.declared.entry.Event.{Event}
use Rattle.cs_policy.specs.declared.entry.Event.TheVariants as event
use Rattle.cs_policy.specs.declared.entry.Reply.{Reply}
use Rattle.cs_policy.specs.declared.entry.Reply.TheVariants as reply
use Rattle.cs_policy.specs.declared.entry.Place.{Place}
use Rattle.cs_policy.specs.declared.entry.Place.TheVariants as place
use Rattle.pg_regions.specs.Lookups.{region_of, region_before}
use Rattle.pg_plain.specs.Content.{content_after}
use Rattle.pg_history.specs.Machine.{Line}
use Rattle.pg_history.specs.Opening.{Opening}

-- the pages of a file and the regions that stand, by which a store is known to be through a shared one
pub record Told : Type 0 where
  pub pages : List (List ℕ)
  pub regions : List Region

-- the regions that stand after an event
abbrev pub regions_after : FileEvent → List Region → List Region
regions_after (file.AddRegion region insert) regions =
    if is_some (region_of regions region.id) then regions else in_order region_before region regions
regions_after (file.DropRegion id) regions = filter (λ region. not (region.id == id)) regions
regions_after (file.DropPid pid) regions = filter (λ region. not (region.pid == pid)) regions
regions_after _ regions = regions

-- what is told after an event of the file and its reply
abbrev pub told_after : ℕ → FileEvent → FileReply → Told → Told
told_after size e answer told = record {
  pages = content_after size told.regions e answer told.pages;
  regions = regions_after e told.regions;
}

-- after an event of any part
abbrev pub told_at : ℕ → ℕ → Place → Event → Reply → Told → Told
told_at size number (place.File other) (event.File e) (reply.File answer) told =
    if other == number then told_after size e answer told else told
told_at size number _ _ _ told = told

-- after the lines of a history
abbrev pub told_over : ℕ → ℕ → List Line → Told → Told
told_over size number [] told = told
told_over size number (e ∷ es) told =
    told_over size number es (told_at size number e.entry.place e.entry.event e.entry.reply told)

-- the pages with which a file opens
abbrev pub opening_pages : Opening → ℕ → List (List ℕ)
opening_pages o number = option_map_or (λ part. part.file.pages) (slice_get o.machine.files number) []

-- the content of a file after a history
abbrev pub content : Opening → ℕ → List Line → List (List ℕ)
content o number history =
    (told_over o.page_size number history (record { pages = opening_pages o number; regions = [] })).pages
