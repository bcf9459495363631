-- An object as it is opened.
use Rattle.std.specs.Prelude.{ℕ, ◌≡◌, List, []}
use Rattle.cs_policy.specs.declared.layout.Layout.{Layout}
use Rattle.pg_pages.specs.Pages.{PagesNow}
use Rattle.pg_regions.specs.RegionsNow.{empty}
use Rattle.pg_plain.specs.PlainFile.{opened}
use Rattle.pg_object.specs.declared.opening.Room.{Room}
use Rattle.pg_object.specs.Object.{ObjectNow, seen}
use Rattle.pg_object.specs.Checked.{checked}

-- The object has these pages and this layout. Nobody has mapped the file yet, nothing is attached, and no page is checked.
pub record IsOpened (pages : PagesNow) (length : ℕ) (layout : Layout) (room : Room) (object : ObjectNow) : Type 0 where
  pub cache : object.pages.cache ≡ pages.cache
  pub calls : object.pages.calls ≡ pages.calls
  pub regions : object.regions ≡ empty pages.cache.pager.page_size room.regions room.records room.copies
  pub plain : (content : List (List ℕ)) → seen object content ≡ opened pages.cache.pager.page_size length pages.cache.limit content layout
  pub unchecked : checked object ≡ []
