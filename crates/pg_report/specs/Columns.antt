-- The columns of a journal's lines: how a value is printed there, and what a word says there.
use Rattle.std.specs.Prelude.{ℕ, Bool, List}
use Rattle.std.specs.Fmt.{decimal}
use Rattle.hex.specs.Hex.{encode_lower}
use Rattle.cs_policy.specs.declared.access.Access.{Access}
use Rattle.cs_policy.specs.declared.access.Prot.{Prot}
use Rattle.cs_policy.specs.declared.data.Data.{Data}
use Rattle.cs_policy.specs.declared.refusal.Refusal.{Refusal}
use Rattle.cs_policy.specs.declared.flags.ProcFlags.{ProcFlags}
use Rattle.cs_policy.specs.ProcFlags.{number_of}
use Rattle.cs_policy.specs.Refusal.{refusal_text}
use Rattle.pg_words.specs.Numbers.{address_text}
use Rattle.pg_words.specs.Digits.{flags_text}
use Rattle.pg_words.specs.Names.{file_text, process_text, cache_text, prot_text, prot_word, share_text, share_word, access_text, access_word}
use Rattle.pg_words.specs.Data.{data_text}
use Rattle.pg_words.specs.Tables.{Column}
use Rattle.pg_report.specs.Forms.{long, short, only, file_form, process_form, cache_form, address_form, stamp_text, stamp_form, flags_form, cdhash_form, few_bytes, data_form, refusal_form, files_text, files_form, bit_files}

-- numbers of 64 and of 32 bits, and one that is always the same
abbrev pub long_column : Column ℕ
long_column = record { text = decimal; form = long }

abbrev pub short_column : Column ℕ
short_column = record { text = decimal; form = short }

abbrev pub only_column : ℕ → Column ℕ
only_column limit = record { text = decimal; form = only limit }

-- files, processes and trust caches by their names
abbrev pub file_column : Column ℕ
file_column = record { text = file_text; form = file_form }

abbrev pub process_column : Column ℕ
process_column = record { text = process_text; form = process_form }

abbrev pub cache_column : Column ℕ
cache_column = record { text = cache_text; form = cache_form }

-- an address, and the stamp of an earlier event
abbrev pub address_column : Column ℕ
address_column = record { text = address_text; form = address_form }

abbrev pub stamp_column : Column ℕ
stamp_column = record { text = stamp_text; form = stamp_form }

-- flags, what is asked of a page, what a region permits, and whether its writes change the file
abbrev pub flags_column : Column ProcFlags
flags_column = record { text = λ flags. flags_text (number_of flags); form = flags_form }

abbrev pub access_column : Column Access
access_column = record { text = access_text; form = access_word }

abbrev pub prot_column : Column Prot
prot_column = record { text = prot_text; form = prot_word }

abbrev pub share_column : Column Bool
share_column = record { text = share_text; form = share_word }

-- bytes: a cdhash, some and at most so many, and the data of a write
abbrev pub cdhash_column : Column (List ℕ)
cdhash_column = record { text = encode_lower; form = cdhash_form }

abbrev pub few_column : ℕ → Column (List ℕ)
few_column most = record { text = encode_lower; form = few_bytes most }

abbrev pub data_column : Column Data
data_column = record { text = data_text; form = data_form }

-- a refusal, and files as the bits of a number
abbrev pub refusal_column : Column Refusal
refusal_column = record { text = refusal_text; form = refusal_form }

abbrev pub files_column : Column ℕ
files_column = record { text = λ files. files_text (bit_files 16 0 files); form = files_form }
