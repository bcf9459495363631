-- The words with which lines begin, and how many words follow each.
use Rattle.std.specs.Prelude.{ℕ, if◌then◌else◌, List, [], ◌∷◌, codes, bytes_eq, Option, Some, option_map}
use Rattle.std.specs.Option.{option_or}
use Rattle.pg_words.specs.Rows.{named}
use Rattle.scene_text.specs.declared.keywords.HeadWord.{HeadWord}
use Rattle.scene_text.specs.declared.keywords.HeadWord.TheVariants as head
use Rattle.scene_text.specs.declared.keywords.CallWord.{CallWord}
use Rattle.scene_text.specs.declared.keywords.CallWord.TheVariants as call
use Rattle.scene_text.specs.declared.keywords.Keyword.{Keyword}
use Rattle.scene_text.specs.declared.keywords.Keyword.TheVariants.{Head, Script, Call}

-- the words of header lines
abbrev pub head_text : HeadWord → List ℕ
head_text head.PageSize = codes "pagesize"
head_text head.Policy = codes "policy"
head_text head.Resident = codes "resident"
head_text head.File = codes "file"
head_text head.Raw = codes "raw"
head_text head.Static = codes "static"
head_text head.Admit = codes "admit"
head_text head.Cache = codes "cache"
head_text head.Process = codes "process"
head_text head.Fail = codes "fail"

-- the words of call lines
abbrev pub call_text : CallWord → List ℕ
call_text call.Spawn = codes "spawn"
call_text call.Map = codes "map"
call_text call.Unmap = codes "unmap"
call_text call.Attach = codes "attach"
call_text call.LoadTrust = codes "loadtrust"
call_text call.Fault = codes "fault"
call_text call.Store = codes "store"
call_text call.Load = codes "load"
call_text call.Fetch = codes "fetch"
call_text call.Write = codes "write"
call_text call.Evict = codes "evict"
call_text call.Debug = codes "debug"
call_text call.Exit = codes "exit"

-- the word with which a line begins
abbrev pub keyword_text : Keyword → List ℕ
keyword_text (Head word) = head_text word
keyword_text Script = codes "script"
keyword_text (Call word) = call_text word

-- all of them
abbrev pub head_words : List HeadWord
head_words =
    head.PageSize ∷ head.Policy ∷ head.Resident ∷ head.File ∷ head.Raw ∷ head.Static ∷ head.Admit ∷ head.Cache
    ∷ head.Process ∷ head.Fail ∷ []

abbrev pub call_words : List CallWord
call_words =
    call.Spawn ∷ call.Map ∷ call.Unmap ∷ call.Attach ∷ call.LoadTrust ∷ call.Fault ∷ call.Store ∷ call.Load
    ∷ call.Fetch ∷ call.Write ∷ call.Evict ∷ call.Debug ∷ call.Exit ∷ []

unfoldable pub head_word : List ℕ → Option HeadWord
head_word word = named head_text head_words word

unfoldable pub call_word : List ℕ → Option CallWord
call_word word = named call_text call_words word

-- the keyword that a word is
unfoldable pub keyword_of : List ℕ → Option Keyword
keyword_of word =
    if bytes_eq word (codes "script") then Some Script
    else option_or (option_map (λ word. Head word) (head_word word)) (option_map (λ word. Call word) (call_word word))

-- how many words follow
abbrev pub head_columns : HeadWord → ℕ
head_columns head.Raw = 3
head_columns head.Fail = 2
head_columns head.PageSize = 1
head_columns head.Policy = 1
head_columns head.Resident = 1
head_columns head.File = 1
head_columns head.Static = 1
head_columns head.Admit = 1
head_columns head.Cache = 1
head_columns head.Process = 1

abbrev pub call_columns : CallWord → ℕ
call_columns call.Map = 7
call_columns call.Fault = 3
call_columns call.Store = 3
call_columns call.Load = 3
call_columns call.Fetch = 3
call_columns call.Write = 3
call_columns call.Unmap = 2
call_columns call.Attach = 2
call_columns call.Evict = 2
call_columns call.Spawn = 1
call_columns call.LoadTrust = 1
call_columns call.Debug = 1
call_columns call.Exit = 1
