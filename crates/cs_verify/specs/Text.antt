-- The text of a report: the lines of each slice in order, and none for a file without slices.
use Rattle.std.specs.Prelude.{ℕ, ◌-◌, List, ◌++◌, length, codes, Option, Some, None, ◌==◌, if◌then◌else◌}
use Rattle.std.specs.List.{flat_map, enumerate_from}
use Rattle.std.specs.Fmt.{decimal}
use Rattle.std.specs.Int.{w32, to_be_bytes}
use Rattle.hex.specs.Hex.{encode_lower}
use Rattle.pg_digest.specs.declared.kinds.HashKind.{HashKind}
use Rattle.pg_digest.specs.Kinds.{number_of}
use Rattle.cs_policy.specs.declared.refusal.Refusal.{Refusal}
use Rattle.cs_policy.specs.Refusal.{refusal_text}
use Rattle.cs_verify.specs.declared.report.BadPage.{BadPage}
use Rattle.cs_verify.specs.declared.report.SliceReport.{SliceReport}
use Rattle.cs_verify.specs.declared.report.SliceReport.TheVariants.{Refused, Accepted}

-- a number of 32 bits: eight hex digits
abbrev pub word_text : ℕ → List ℕ
word_text number = encode_lower (to_be_bytes w32 number)

-- what each line of slice `i` begins with
abbrev pub slice_text : ℕ → List ℕ
slice_text i = codes "slice " ++ decimal i

-- why slice `i` is refused
abbrev pub refused_line : ℕ → Refusal → List ℕ
refused_line i refusal = slice_text i ++ (codes " refused " ++ (refusal_text refusal ++ codes "\n"))

-- what the image is
abbrev pub arch_line : ℕ → ℕ → ℕ → ℕ → List ℕ
arch_line i cputype cpusubtype filetype =
    slice_text i ++ (codes " arch " ++ (word_text cputype ++ (codes " " ++ (word_text cpusubtype ++ (codes " type " ++ (decimal filetype ++ codes "\n"))))))

-- the identifier in hex, or a dash where it is empty
abbrev pub ident_text : List ℕ → List ℕ
ident_text ident = if length ident == 0 then codes "-" else encode_lower ident

-- by what its best code directory is known, and what that says of the program
abbrev pub directory_text : List ℕ → HashKind → ℕ → List ℕ
directory_text cdhash kind flags =
    codes " cdhash " ++ (encode_lower cdhash ++ (codes " kind " ++ (decimal (number_of kind) ++ (codes " flags " ++ word_text flags))))

-- how much it signs, and its identifier
abbrev pub extent_text : ℕ → ℕ → List ℕ → List ℕ
extent_text limit slots ident =
    codes " limit " ++ (decimal limit ++ (codes " slots " ++ (decimal slots ++ (codes " ident " ++ (ident_text ident ++ codes "\n")))))

-- what the line on the code directory of slice `i` begins with
abbrev pub accepted_text : ℕ → List ℕ
accepted_text i = slice_text i ++ codes " accepted"

-- what its best code directory says
abbrev pub accepted_line : ℕ → List ℕ → HashKind → ℕ → ℕ → ℕ → List ℕ → List ℕ
accepted_line i cdhash kind flags limit slots ident =
    accepted_text i ++ (directory_text cdhash kind flags ++ extent_text limit slots ident)

-- two digests that differ
abbrev pub mismatch_text : List ℕ → List ℕ → List ℕ
mismatch_text found wanted =
    codes "found " ++ (encode_lower found ++ (codes " wanted " ++ (encode_lower wanted ++ codes "\n")))

-- a page that has no slot, or whose digest differs from its slot
abbrev pub digests_text : Option (List ℕ) → Option (List ℕ) → List ℕ
digests_text (Some found) (Some wanted) = codes " mismatch " ++ mismatch_text found wanted
digests_text (Some found) None = codes " noslot\n"
digests_text None wanted = codes " noslot\n"

-- a page of slice `i` that does not match
abbrev pub page_line : ℕ → BadPage → List ℕ
page_line i bad = slice_text i ++ (codes " page " ++ (decimal bad.page ++ digests_text bad.found bad.wanted))

-- how many of its hash pages match
abbrev pub pages_line : ℕ → List BadPage → ℕ → List ℕ
pages_line i bad pages =
    slice_text i ++ (codes " pages " ++ (decimal (pages - length bad) ++ (codes " of " ++ (decimal pages ++ codes "\n"))))

-- all lines of slice `i`
abbrev pub slice_lines : ℕ → SliceReport → List ℕ
slice_lines i (Refused refusal) = refused_line i refusal
slice_lines i (Accepted cputype cpusubtype filetype cdhash kind flags limit slots ident bad pages) =
    arch_line i cputype cpusubtype filetype
    ++ (accepted_line i cdhash kind flags limit slots ident ++ (flat_map (page_line i) bad ++ pages_line i bad pages))

-- the lines of a report
abbrev pub verify_text : List SliceReport → List ℕ
verify_text reports = flat_map (λ numbered. slice_lines numbered.0 numbered.1) (enumerate_from 0 reports)
