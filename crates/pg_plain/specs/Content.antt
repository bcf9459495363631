-- The content of a file by what happened to it: the data that writes put there, and the bytes that stores through shared
-- regions put there. Nothing else changes it.
use Rattle.std.specs.Prelude.{ℕ, ◌≡◌, Bool, true, List, [], take, slice_set, slice_index_or, Option}
use Rattle.pg_io.specs.PageBytes.{written_over}
use Rattle.cs_policy.specs.declared.region.Region.{Region}
use Rattle.cs_policy.specs.declared.file.FileEvent.{FileEvent}
use Rattle.cs_policy.specs.declared.file.FileEvent.TheVariants as event
use Rattle.cs_policy.specs.declared.file.FileReply.{FileReply}
use Rattle.cs_policy.specs.declared.file.FileReply.TheVariants as reply
use Rattle.cs_policy.specs.Data.{data_bytes}
use Rattle.pg_regions.specs.Lookups.{is_shared}
use Rattle.pg_digest.specs.Kinds.{Hash}
use Rattle.cs_blob.specs.Signature.{Signature}
use Rattle.pg_plain.specs.PlainFile.{PlainFile}
use Rattle.pg_plain.specs.Steps.{written_pages, file_step}

-- how many bytes of its data a write put into the file, by its reply
abbrev pub count_written : FileReply → ℕ
count_written (reply.Written count) = count
count_written (reply.Short written) = written
count_written _ = 0

-- what a store through a region put into the page: its bytes, where the region is shared
abbrev pub page_stored : Bool → FileReply → List (List ℕ) → ℕ → ℕ → List ℕ → List (List ℕ)
page_stored true reply.Stored pages page at bytes = slice_set pages page (written_over (slice_index_or pages page []) at bytes)
page_stored _ _ pages page at bytes = pages

-- the content after an event with its reply; these are the regions that stood, and this is how many bytes a page has
abbrev pub content_after : ℕ → List Region → FileEvent → FileReply → List (List ℕ) → List (List ℕ)
content_after size regions (event.Write at piece) answer pages = written_pages size at (take (count_written answer) (data_bytes piece)) 0 pages
content_after size regions (event.Store id page at bytes resolve) answer pages = page_stored (is_shared regions id) answer pages page at bytes
content_after size regions _ answer pages = pages

-- the pages after a step are the content that the step's reply tells
abbrev pub HasContent : Hash → PlainFile → FileEvent → Option Signature → ℕ → Type 0
HasContent hash file e blob outcome = (file_step hash file e blob outcome).1.pages
    ≡ content_after file.page_size file.regions e (file_step hash file e blob outcome).0 file.pages
