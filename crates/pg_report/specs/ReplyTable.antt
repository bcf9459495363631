-- The tables of denials and of replies: the columns behind the keyword of each.
use Rattle.std.specs.Prelude.{ℕ, List, [], ◌∷◌, ◌++◌, codes, if◌then◌else◌, bytes_eq, Option, Some, None, option_map, option_and_then}
use Rattle.cs_policy.specs.declared.denial.Denial.{Denial}
use Rattle.cs_policy.specs.declared.denial.Denial.TheVariants.{PrivateCopy, Unsigned, BeyondLimit, WritableShared, Mismatch, SealedWrite}
use Rattle.cs_policy.specs.declared.file.FileReply.{FileReply}
use Rattle.cs_policy.specs.declared.file.FileReply.TheVariants as file
use Rattle.cs_policy.specs.declared.process.ProcReply.{ProcReply}
use Rattle.cs_policy.specs.declared.process.ProcReply.TheVariants as proc
use Rattle.cs_policy.specs.declared.trust.TrustReply.{TrustReply}
use Rattle.cs_policy.specs.declared.trust.TrustReply.TheVariants as trust
use Rattle.cs_policy.specs.declared.refusal.Refusal.{Refusal}
use Rattle.cs_policy.specs.declared.flags.ProcFlags.{ProcFlags}
use Rattle.pg_words.specs.Rows.{◌>>=◌}
use Rattle.pg_words.specs.Tables.{Row, no_columns, columns1, columns2, columns4}
use Rattle.pg_report.specs.Denials.{denial_words, denial_of, violation_words, violation_of}
use Rattle.pg_report.specs.Columns.{long_column, short_column, only_column, file_column, process_column, flags_column, few_column, refusal_column, files_column}

-- `noslices R`
abbrev pub no_slices : Row Refusal FileReply
no_slices = columns1 refusal_column (λ r. file.NoSlices r)

-- `noslice N`
abbrev pub no_slice : Row ℕ FileReply
no_slice = columns1 short_column (λ n. file.NoSlice n)

-- `noimage R`
abbrev pub no_image : Row Refusal FileReply
no_image = columns1 refusal_column (λ r. file.NoImage r)

-- `pagerfault P`
abbrev pub pager_fault : Row ℕ FileReply
pager_fault = columns1 long_column (λ page. file.PagerFault page)

-- `read N`: of the bytes of a signature the number is printed, which stands beside the reply
abbrev pub Told : Type 0
Told = FileReply × ℕ

abbrev pub read : Row ℕ Told
read = columns1 long_column (λ n. (file.Read [], n))

-- `already B`, `overlap B`, `attached B`
abbrev pub already : Row ℕ FileReply
already = columns1 short_column (λ n. file.Already n)

abbrev pub overlap : Row ℕ FileReply
overlap = columns1 short_column (λ n. file.Overlap n)

abbrev pub attached : Row ℕ FileReply
attached = columns1 short_column (λ n. file.Attached n)

-- `pastend N`, `short N`, `written N`
abbrev pub past_end : Row ℕ FileReply
past_end = columns1 long_column (λ n. file.PastEnd n)

abbrev pub short : Row ℕ FileReply
short = columns1 long_column (λ n. file.Short n)

abbrev pub written : Row ℕ FileReply
written = columns1 long_column (λ n. file.Written n)

-- `noregion ID`
abbrev pub no_region : Row ℕ FileReply
no_region = columns1 short_column (λ id. file.NoRegion id)

-- `dropped N`
abbrev pub dropped_all : Row ℕ FileReply
dropped_all = columns1 short_column (λ n. file.DroppedAll n)

-- `denied D`
abbrev pub denied : Row Denial FileReply
denied = record { words = λ d. denial_words d; says = λ words. option_map (λ d. file.Denied d) (denial_of words) }

-- `given`, then `victim V` where a page left memory, then `violation D` where a rule is broken
abbrev pub victim_key : List ℕ
victim_key = codes "victim"

abbrev pub victim_words : Option ℕ → List (List ℕ)
victim_words None = []
victim_words (Some page) = victim_key ∷ long_column.text page ∷ []

unfoldable pub victim_of : List (List ℕ) → Option FileReply
victim_of [] = None
victim_of (page ∷ words) = do
  page ← long_column.form page
  violation ← violation_of words
  Some (file.Given (Some page) violation)

unfoldable pub given_of : List (List ℕ) → Option FileReply
given_of [] = Some (file.Given None None)
given_of (first ∷ words) =
    if bytes_eq first victim_key then victim_of words
    else option_map (λ violation. file.Given None violation) (violation_of (first ∷ words))

abbrev pub given : Row (Option ℕ × Option Denial) FileReply
given = record { words = λ v. victim_words v.0 ++ violation_words v.1; says = λ words. given_of words }

-- `bytes HEX`
abbrev pub got : Row (List ℕ) FileReply
got = columns1 (few_column 64) (λ bytes. file.Got bytes)

-- `noted`, `added`, `dropped`, `notmapped`, `stored`, `notresident`, `evicted`; `dead`, `killed`, `nomap`, `kill`, `spare`;
-- `unlisted`
abbrev pub alone : {X : Type 0} → X → Row (Unit {0}) X
alone reply = no_columns reply

-- `started pP`, `began FLAGS`
abbrev pub started : Row ℕ ProcReply
started = columns1 process_column (λ pid. proc.Started pid)

abbrev pub began : Row ProcFlags ProcReply
began = columns1 flags_column (λ flags. proc.Began flags)

-- `outoffile N`, `overlap ID`, `full 256`, `inserted ID`
abbrev pub out_of_file : Row ℕ ProcReply
out_of_file = columns1 long_column (λ n. proc.OutOfFile n)

abbrev pub overlapped : Row ℕ ProcReply
overlapped = columns1 short_column (λ id. proc.Overlap id)

abbrev pub regions_full : Row ℕ ProcReply
regions_full = columns1 (only_column 256) (λ n. proc.Full n)

abbrev pub inserted : Row ℕ ProcReply
inserted = columns1 short_column (λ id. proc.Inserted id)

-- `prot ID`
abbrev pub prot : Row ℕ ProcReply
prot = columns1 short_column (λ id. proc.Prot id)

-- `region ID fF PAGE FLAGS`
abbrev pub region : Row (ℕ × ℕ × ℕ × ProcFlags) ProcReply
region = columns4 short_column file_column long_column flags_column (λ id file page flags. proc.Region id file page flags)

-- `removed ID fF`
abbrev pub removed : Row (ℕ × ℕ) ProcReply
removed = columns2 short_column file_column (λ id file. proc.Removed id file)

-- `debugged FLAGS`, `cleared FLAGS`
abbrev pub debugged : Row ProcFlags ProcReply
debugged = columns1 flags_column (λ flags. proc.Debugged flags)

abbrev pub cleared : Row ProcFlags ProcReply
cleared = columns1 flags_column (λ flags. proc.Cleared flags)

-- `exited` and the files
abbrev pub exited : Row ℕ ProcReply
exited = columns1 files_column (λ files. proc.Exited files)

-- `refused R`, `full 64`, `loaded M`
abbrev pub refused : Row Refusal TrustReply
refused = columns1 refusal_column (λ r. trust.Refused r)

abbrev pub modules_full : Row ℕ TrustReply
modules_full = columns1 (only_column 64) (λ n. trust.Full n)

abbrev pub loaded : Row ℕ TrustReply
loaded = columns1 short_column (λ m. trust.Loaded m)

-- `listed M PLACE`
abbrev pub listed : Row (ℕ × ℕ) TrustReply
listed = columns2 short_column long_column (λ m place. trust.Listed m place)
