-- What giving a page to a region changes: the resident list, records and copies.
use Rattle.std.specs.Prelude.{ℕ, ◌-◌, ◌==◌, ◌&&◌, Bool, false, not, List, ◌∷◌, filter, find, take, slice_get, Option, Some, None, unwrap_or, if◌then◌else◌}
use Rattle.std.specs.Option.{option_map}
use Rattle.cs_policy.specs.declared.access.Access.{Access}
use Rattle.cs_policy.specs.declared.access.Access.TheVariants.{Read, Write, Execute}
use Rattle.cs_policy.specs.declared.region.Region.{Region}
use Rattle.cs_policy.specs.declared.region.Record.{Record}
use Rattle.pg_regions.specs.Steps.{blank, given}
use Rattle.pg_plain.specs.PlainFile.{Resident, PlainFile, page_of, has_copy, is_page, is_resident}

-- ---- functions of a region and page, changed at one of them

abbrev pub put_at : {X : Type 0} → ℕ → ℕ → X → (ℕ → ℕ → Option X) → ℕ → ℕ → Option X
put_at id page x f i p = if i == id && p == page then Some x else f i p

-- ---- pages that leave

-- the resident page that leaves for another, if the list is full: the last
abbrev pub last_resident : PlainFile → Option Resident
last_resident file = slice_get file.residents (file.limit - 1)

-- the page that leaves where this page enters
abbrev pub victim : PlainFile → ℕ → Option Resident
victim file page = if is_resident file page then None else last_resident file

-- the records that are left where a page leaves: those of other pages, and of regions with a private copy of it
abbrev pub unmapped : ℕ → PlainFile → ℕ → ℕ → Option Record
unmapped page file id p =
    if p == page && not (has_copy file id p) then None else file.records id p

abbrev pub without_page : ℕ → List Resident → List Resident
without_page page residents = filter (λ resident. not (is_page page resident)) residents

-- ---- a page that enters

-- the resident list with the page at its front: a page that was there keeps what it is, and another is clean
abbrev pub fronted : PlainFile → ℕ → List Resident
fronted file page =
    unwrap_or (find (is_page page) file.residents) (record { page = page; dirty = false })
    ∷ take (file.limit - 1) (without_page page file.residents)

-- the records that are left where a page leaves, if one does
abbrev pub records_left : PlainFile → Option Resident → ℕ → ℕ → Option Record
records_left file None = file.records
records_left file (Some resident) = unmapped resident.page file

-- the file with the page resident: the last page leaves where the list was full and the page was not in it
abbrev pub entered : ℕ → PlainFile → PlainFile
entered page file = record file { residents = fronted file page; records = records_left file (victim file page) }

-- the file with the page at hand for a region: its private copy, or else the page itself
abbrev pub at_hand : Region → ℕ → PlainFile → PlainFile
at_hand region page file = if has_copy file region.id page then file else entered page file

-- ---- what the region is given

-- the region's record of the page, which is given the access
abbrev pub granted : Region → ℕ → Access → Bool → PlainFile → PlainFile
granted region page access guarded file =
    record file { records = put_at region.id page (given access guarded (unwrap_or (file.records region.id page) (blank region.id page))) file.records }

-- the record without the permission to execute
abbrev pub unexecuted : Record → Record
unexecuted r = record r { execute = false }

-- no record of the page permits execution
abbrev pub stripped : ℕ → PlainFile → PlainFile
stripped page file = record file { records = λ id p. if p == page then option_map unexecuted (file.records id p) else file.records id p }

-- a private copy of the page's present bytes, where the region has none
abbrev pub copied : Region → ℕ → PlainFile → PlainFile
copied region page file =
    if has_copy file region.id page then file
    else record file { copies = put_at region.id page (page_of file page) file.copies }

-- what a write to a shared or a private region does besides
abbrev pub written_to : Region → ℕ → PlainFile → PlainFile
written_to region page file = if region.shared then stripped page file else copied region page file

abbrev pub given_page : Region → ℕ → Access → Bool → PlainFile → PlainFile
given_page region page Read guarded file = granted region page Read guarded (at_hand region page file)
given_page region page Write guarded file = written_to region page (granted region page Write guarded (at_hand region page file))
given_page region page Execute guarded file = granted region page Execute guarded (at_hand region page file)
