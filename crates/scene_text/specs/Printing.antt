-- Parts of lines, as they are printed one behind another.
use Rattle.std.specs.Prelude.{ℕ, Bool, List, [], ◌∷◌, ◌++◌, codes}
use Rattle.std.specs.List.{flat_map}
use Rattle.std.specs.Fmt.{decimal}
use Rattle.cs_policy.specs.declared.access.Prot.{Prot}
use Rattle.cs_policy.specs.declared.call.Call.{Call}
use Rattle.scene_text.specs.declared.line.Line.TheVariants as line
use Rattle.pg_words.specs.Lines.{line_text}
use Rattle.pg_words.specs.Numbers.{address_text}
use Rattle.pg_words.specs.Names.{file_text, process_text, prot_text, share_text}
use Rattle.scene_text.specs.Texts.{printed_line}

-- a word and a name
abbrev pub named_text : List ℕ → ℕ → ℕ → List ℕ
named_text word letter number = line_text (word ∷ (letter ∷ decimal number) ∷ [])

-- a word, a process and an address
abbrev pub at_text : List ℕ → ℕ → ℕ → List ℕ
at_text word pid addr = line_text (word ∷ process_text pid ∷ address_text addr ∷ [])

-- where a file is mapped
abbrev pub mapping_text : ℕ → ℕ → ℕ → List ℕ
mapping_text pid addr file = line_text (codes "map" ∷ process_text pid ∷ address_text addr ∷ file_text file ∷ [])

-- which pages, and how
abbrev pub mapped_text : ℕ → ℕ → Prot → Bool → List ℕ
mapped_text first pages prot shared = line_text ([] ∷ decimal first ∷ decimal pages ∷ prot_text prot ∷ share_text shared ∷ [])

-- a script
abbrev pub script_text : List Call → List ℕ
script_text calls = codes "script\n" ++ flat_map (λ call. printed_line (line.Call call)) calls
