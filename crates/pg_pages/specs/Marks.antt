-- What is kept of each page: what it was found sealed by, and whether a writer maps it.
use Rattle.std.specs.Prelude.{ℕ, List, Bool, true, false, Option, Some, None, slice_index_or, slice_set, if◌then◌else◌}
use Rattle.pg_digest.specs.declared.kinds.HashKind.{HashKind}
use Rattle.pg_pages.specs.declared.row.Row.{Row}
use Rattle.pg_pages.specs.declared.row.Row.TheVariants.{FoundOther, Changed, MapsWritable, ClearsWritable, Enters, Goes}

-- what a page is held against: the hash type, the size of a part, and the digests of the parts one after another
pub record Seal : Type 0 where
  pub kind : HashKind
  pub part : ℕ
  pub digests : List ℕ

abbrev pub seal_of : HashKind → ℕ → List ℕ → Seal
seal_of kind part digests = record { kind = kind; part = part; digests = digests }

pub record Marks : Type 0 where
  -- what each part of the page was found equal to, if anything; the page has not changed since
  pub validated : Option Seal
  -- a part of the page was found to be another, and the page has not changed since
  pub tainted : Bool
  -- a writer maps the page
  pub writable : Bool

abbrev pub blank : Marks
blank = record { validated = None; tainted = false; writable = false }

-- ---- the table of what calls do to the marks of a page

-- a check found it sealed: that is kept unless a writer maps it
abbrev pub sealed : Seal → Marks → Marks
sealed seal marks = record {
  validated = if marks.writable then None else Some seal;
  tainted = false;
  writable = marks.writable;
}

abbrev pub after : Row → Marks → Marks
after FoundOther marks = record { validated = None; tainted = true; writable = marks.writable }
after Changed marks = record { validated = None; tainted = false; writable = marks.writable }
after MapsWritable marks = record { validated = None; tainted = marks.tainted; writable = true }
after ClearsWritable marks = record { validated = marks.validated; tainted = marks.tainted; writable = false }
after Enters marks = record { validated = marks.validated; tainted = marks.tainted; writable = false }
after Goes marks = blank

-- ---- the marks of all pages, by page number

abbrev pub marks_of : List Marks → ℕ → Marks
marks_of marks page = slice_index_or marks page blank

-- one row of the table at a page
abbrev pub marked : Row → ℕ → List Marks → List Marks
marked row page marks = slice_set marks page (after row (marks_of marks page))

-- at a page, if there is one
abbrev pub marked_if : Row → Option ℕ → List Marks → List Marks
marked_if row None marks = marks
marked_if row (Some page) marks = marked row page marks

abbrev pub sealed_at : Seal → ℕ → List Marks → List Marks
sealed_at seal page marks = slice_set marks page (sealed seal (marks_of marks page))
