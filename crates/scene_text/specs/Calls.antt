-- What call lines say, what they name and which ranges they keep, and how they are printed.
use Rattle.std.specs.Prelude.{ℕ, ◌^◌, ◌+◌, ◌*◌, ◌%◌, ◌<◌, Bool, true, ◌&&◌, ◌==◌, nat_lt, nat_le, List, [], ◌∷◌, length, Option, Some, None}
use Rattle.std.specs.Fmt.{decimal}
use Rattle.hex.specs.Hex.{IsBytes, encode_lower}
use Rattle.cs_policy.specs.declared.call.Call.{Call}
use Rattle.cs_policy.specs.declared.call.Call.TheVariants.{Spawn, Map, Unmap, Attach, LoadTrust, Fault, Store, Load, Fetch, Write, Evict, Debug, Exit}
use Rattle.pg_words.specs.Numbers.{address_word, address_text}
use Rattle.pg_words.specs.Digits.{hex_word}
use Rattle.pg_words.specs.Names.{name_word, file_text, process_text, cache_text, prot_word, prot_text, share_word, share_text, access_word, access_text}
use Rattle.pg_words.specs.Data.{data_word, data_text, data_count, CanWrite}
use Rattle.scene_text.specs.declared.keywords.CallWord.{CallWord}
use Rattle.scene_text.specs.declared.keywords.CallWord.TheVariants as word
use Rattle.scene_text.specs.declared.line.Known.{Known}
use Rattle.scene_text.specs.Keywords.{call_text}
use Rattle.pg_words.specs.Rows.{◌>>=◌, row1, row2, row3}
use Rattle.scene_text.specs.Headers.{number, file_name}

-- the name of a process
abbrev pub process_name : List ℕ → Option ℕ
process_name word = name_word (2 ^ 64) 112 word

-- the name of a trust cache
abbrev pub cache_name : List ℕ → Option ℕ
cache_name word = name_word (2 ^ 64) 99 word

-- an address below 2 ^ 47
abbrev pub address : List ℕ → Option ℕ
address word = address_word (2 ^ 47) word

-- `pP ADDR fF FIRST PAGES PROT SHARE`
unfoldable pub map_row : List (List ℕ) → Option Call
map_row (pid ∷ addr ∷ file ∷ first ∷ pages ∷ prot ∷ share ∷ []) = do
  pid ← process_name pid
  addr ← address addr
  file ← file_name file
  first ← number first
  pages ← number pages
  prot ← prot_word prot
  shared ← share_word share
  Some (Map pid addr file first pages prot shared)
map_row _ = None

-- what the words behind the keyword say
abbrev pub call_says : CallWord → List (List ℕ) → Option Call
call_says word.Spawn words = row1 process_name (λ pid. Spawn pid) words
call_says word.Map words = map_row words
call_says word.Unmap words = row2 process_name address (λ pid addr. Unmap pid addr) words
call_says word.Attach words = row2 file_name number (λ file slice. Attach file slice) words
call_says word.LoadTrust words = row1 cache_name (λ cache. LoadTrust cache) words
call_says word.Fault words = row3 process_name address access_word (λ pid addr access. Fault pid addr access) words
call_says word.Store words = row3 process_name address hex_word (λ pid addr bytes. Store pid addr bytes) words
call_says word.Load words = row3 process_name address number (λ pid addr count. Load pid addr count) words
call_says word.Fetch words = row3 process_name address number (λ pid addr count. Fetch pid addr count) words
call_says word.Write words = row3 file_name number (data_word (2 ^ 64)) (λ file at piece. Write file at piece) words
call_says word.Evict words = row2 file_name number (λ file page. Evict file page) words
call_says word.Debug words = row1 process_name (λ pid. Debug pid) words
call_says word.Exit words = row1 process_name (λ pid. Exit pid) words

-- what the line names is declared
abbrev pub call_known : Known → Call → Bool
call_known known (Spawn pid) = nat_lt pid known.processes
call_known known (Map pid addr file first pages prot shared) = nat_lt pid known.processes && nat_lt file known.files
call_known known (Unmap pid addr) = nat_lt pid known.processes
call_known known (Attach file slice) = nat_lt file known.files
call_known known (LoadTrust cache) = nat_lt cache known.caches
call_known known (Fault pid addr access) = nat_lt pid known.processes
call_known known (Store pid addr bytes) = nat_lt pid known.processes
call_known known (Load pid addr count) = nat_lt pid known.processes
call_known known (Fetch pid addr count) = nat_lt pid known.processes
call_known known (Write file at piece) = nat_lt file known.files
call_known known (Evict file page) = nat_lt file known.files
call_known known (Debug pid) = nat_lt pid known.processes
call_known known (Exit pid) = nat_lt pid known.processes

-- an address is the first of a page
abbrev pub is_page_start : ℕ → ℕ → Bool
is_page_start page addr = addr % page == 0

-- 1 to 64 bytes from an address on stay in the page
abbrev pub stays : ℕ → ℕ → ℕ → Bool
stays page addr count = nat_le 1 count && (nat_le count 64 && nat_le (addr % page + count) page)

-- so many pages can be mapped at an address, from a page of the file on
abbrev pub can_map : ℕ → ℕ → ℕ → ℕ → Bool
can_map page addr first pages =
    is_page_start page addr && (nat_lt first 16384 && (nat_le 1 pages && (nat_le pages 16384
    && nat_le (addr + page * pages) (2 ^ 47))))

-- its numbers, addresses and lengths are in their ranges, where a page has so many bytes
abbrev pub call_in_range : ℕ → Call → Bool
call_in_range page (Map pid addr file first pages prot shared) =
    can_map page addr first pages
call_in_range page (Unmap pid addr) = is_page_start page addr
call_in_range page (Attach file slice) = nat_lt slice (2 ^ 32)
call_in_range page (Store pid addr bytes) = stays page addr (length bytes)
call_in_range page (Load pid addr count) = stays page addr count
call_in_range page (Fetch pid addr count) = stays page addr count
call_in_range page (Write file at piece) = nat_lt at (2 ^ 32) && (nat_le 1 (data_count piece) && nat_le (data_count piece) 65536)
call_in_range page (Evict file number) = nat_lt number (2 ^ 32)
call_in_range page (Spawn pid) = true
call_in_range page (LoadTrust cache) = true
call_in_range page (Fault pid addr access) = true
call_in_range page (Debug pid) = true
call_in_range page (Exit pid) = true

-- the words of the line
abbrev pub call_line : Call → List (List ℕ)
call_line (Spawn pid) = call_text word.Spawn ∷ process_text pid ∷ []
call_line (Map pid addr file first pages prot shared) =
    call_text word.Map ∷ process_text pid ∷ address_text addr ∷ file_text file ∷ decimal first ∷ decimal pages
    ∷ prot_text prot ∷ share_text shared ∷ []
call_line (Unmap pid addr) = call_text word.Unmap ∷ process_text pid ∷ address_text addr ∷ []
call_line (Attach file slice) = call_text word.Attach ∷ file_text file ∷ decimal slice ∷ []
call_line (LoadTrust cache) = call_text word.LoadTrust ∷ cache_text cache ∷ []
call_line (Fault pid addr access) = call_text word.Fault ∷ process_text pid ∷ address_text addr ∷ access_text access ∷ []
call_line (Store pid addr bytes) = call_text word.Store ∷ process_text pid ∷ address_text addr ∷ encode_lower bytes ∷ []
call_line (Load pid addr count) = call_text word.Load ∷ process_text pid ∷ address_text addr ∷ decimal count ∷ []
call_line (Fetch pid addr count) = call_text word.Fetch ∷ process_text pid ∷ address_text addr ∷ decimal count ∷ []
call_line (Write file at piece) = call_text word.Write ∷ file_text file ∷ decimal at ∷ data_text piece ∷ []
call_line (Evict file page) = call_text word.Evict ∷ file_text file ∷ decimal page ∷ []
call_line (Debug pid) = call_text word.Debug ∷ process_text pid ∷ []
call_line (Exit pid) = call_text word.Exit ∷ process_text pid ∷ []

-- its keyword
abbrev pub call_key : Call → CallWord
call_key (Spawn pid) = word.Spawn
call_key (Map pid addr file first pages prot shared) = word.Map
call_key (Unmap pid addr) = word.Unmap
call_key (Attach file slice) = word.Attach
call_key (LoadTrust cache) = word.LoadTrust
call_key (Fault pid addr access) = word.Fault
call_key (Store pid addr bytes) = word.Store
call_key (Load pid addr count) = word.Load
call_key (Fetch pid addr count) = word.Fetch
call_key (Write file at piece) = word.Write
call_key (Evict file page) = word.Evict
call_key (Debug pid) = word.Debug
call_key (Exit pid) = word.Exit

-- each of its columns has a form: it can be printed as a word that says it
abbrev pub CallHasForm : Call → Type 0
CallHasForm (Spawn pid) = pid < 2 ^ 64
CallHasForm (Map pid addr file first pages prot shared) =
    (pid < 2 ^ 64) × (addr < 2 ^ 47) × (file < 2 ^ 64) × (first < 2 ^ 64) × (pages < 2 ^ 64)
CallHasForm (Unmap pid addr) = (pid < 2 ^ 64) × (addr < 2 ^ 47)
CallHasForm (Attach file slice) = (file < 2 ^ 64) × (slice < 2 ^ 64)
CallHasForm (LoadTrust cache) = cache < 2 ^ 64
CallHasForm (Fault pid addr access) = (pid < 2 ^ 64) × (addr < 2 ^ 47)
CallHasForm (Store pid addr bytes) = (pid < 2 ^ 64) × (addr < 2 ^ 47) × IsBytes bytes × (0 < length bytes)
CallHasForm (Load pid addr count) = (pid < 2 ^ 64) × (addr < 2 ^ 47) × (count < 2 ^ 64)
CallHasForm (Fetch pid addr count) = (pid < 2 ^ 64) × (addr < 2 ^ 47) × (count < 2 ^ 64)
CallHasForm (Write file at piece) = (file < 2 ^ 64) × (at < 2 ^ 64) × CanWrite (2 ^ 64) piece
CallHasForm (Evict file page) = (file < 2 ^ 64) × (page < 2 ^ 64)
CallHasForm (Debug pid) = pid < 2 ^ 64
CallHasForm (Exit pid) = pid < 2 ^ 64
