-- A call line as it is printed says the line.
use Rattle.std.proofs.Common.{◌≡◌, ℕ, ◌^◌, ◌<◌, List, [], ◌∷◌, length, Some, refl, arith}
use Rattle.std.specs.Fmt.{decimal}
use Rattle.hex.specs.Hex.{encode_lower}
use Rattle.pg_words.specs.Lines.{AreWords}
use Rattle.pg_words.specs.Numbers.{address_text}
use Rattle.pg_words.specs.Digits.{hex_word}
use Rattle.pg_words.specs.Names.{file_text, process_text, cache_text, prot_text, share_text, access_word, access_text}
use Rattle.pg_words.specs.Data.{data_word, data_text}
use Rattle.pg_words.proofs.NumeralFacts.{number_again, address_again}
use Rattle.pg_words.proofs.NameFacts.{name_again, prot_again, share_again, access_again}
use Rattle.pg_words.proofs.HexFacts.{hex_again}
use Rattle.pg_words.proofs.PieceFacts.{data_again}
use Rattle.pg_words.proofs.PlainFacts.{decimal_is_word, address_is_word, hex_is_word, prot_is_word, share_is_word, access_is_word, data_is_word}
use Rattle.cs_policy.specs.declared.call.Call.{Call}
use Rattle.cs_policy.specs.declared.call.Call.TheVariants.{Spawn, Map, Unmap, Attach, LoadTrust, Fault, Store, Load, Fetch, Write, Evict, Debug, Exit}
use Rattle.scene_text.specs.declared.keywords.CallWord.{CallWord}
use Rattle.scene_text.specs.declared.keywords.CallWord.TheVariants as word
use Rattle.scene_text.specs.declared.keywords.Keyword.TheVariants as key
use Rattle.scene_text.specs.Keywords.{keyword_of, call_text, head_word, call_word, call_columns}
use Rattle.scene_text.specs.Headers.{number, file_name}
use Rattle.scene_text.specs.Calls.{process_name, cache_name, address, map_row, call_says, call_line, call_key, CallHasForm}
use Rattle.scene_text.proofs.HeaderFacts.{row1_again, row2_again, row3_again}

-- the words behind the keyword
abbrev pub call_rest : Call → List (List ℕ)
call_rest (Spawn pid) = process_text pid ∷ []
call_rest (Map pid addr file first pages prot shared) =
    process_text pid ∷ address_text addr ∷ file_text file ∷ decimal first ∷ decimal pages ∷ prot_text prot ∷ share_text shared ∷ []
call_rest (Unmap pid addr) = process_text pid ∷ address_text addr ∷ []
call_rest (Attach file slice) = file_text file ∷ decimal slice ∷ []
call_rest (LoadTrust cache) = cache_text cache ∷ []
call_rest (Fault pid addr access) = process_text pid ∷ address_text addr ∷ access_text access ∷ []
call_rest (Store pid addr bytes) = process_text pid ∷ address_text addr ∷ encode_lower bytes ∷ []
call_rest (Load pid addr count) = process_text pid ∷ address_text addr ∷ decimal count ∷ []
call_rest (Fetch pid addr count) = process_text pid ∷ address_text addr ∷ decimal count ∷ []
call_rest (Write file at piece) = file_text file ∷ decimal at ∷ data_text piece ∷ []
call_rest (Evict file page) = file_text file ∷ decimal page ∷ []
call_rest (Debug pid) = process_text pid ∷ []
call_rest (Exit pid) = process_text pid ∷ []

pub call_line_is : (c : Call) → call_line c ≡ call_text (call_key c) ∷ call_rest c
call_line_is (Spawn pid) = refl
call_line_is (Map pid addr file first pages prot shared) = refl
call_line_is (Unmap pid addr) = refl
call_line_is (Attach file slice) = refl
call_line_is (LoadTrust cache) = refl
call_line_is (Fault pid addr access) = refl
call_line_is (Store pid addr bytes) = refl
call_line_is (Load pid addr count) = refl
call_line_is (Fetch pid addr count) = refl
call_line_is (Write file at piece) = refl
call_line_is (Evict file page) = refl
call_line_is (Debug pid) = refl
call_line_is (Exit pid) = refl

pub call_count : (c : Call) → length (call_rest c) ≡ call_columns (call_key c)
call_count (Spawn pid) = refl
call_count (Map pid addr file first pages prot shared) = refl
call_count (Unmap pid addr) = refl
call_count (Attach file slice) = refl
call_count (LoadTrust cache) = refl
call_count (Fault pid addr access) = refl
call_count (Store pid addr bytes) = refl
call_count (Load pid addr count) = refl
call_count (Fetch pid addr count) = refl
call_count (Write file at piece) = refl
call_count (Evict file page) = refl
call_count (Debug pid) = refl
call_count (Exit pid) = refl

pub call_keyword : (k : CallWord) → keyword_of (call_text k) ≡ Some (key.Call k)
unfolding keyword_of head_word call_word
call_keyword word.Spawn = refl
call_keyword word.Map = refl
call_keyword word.Unmap = refl
call_keyword word.Attach = refl
call_keyword word.LoadTrust = refl
call_keyword word.Fault = refl
call_keyword word.Store = refl
call_keyword word.Load = refl
call_keyword word.Fetch = refl
call_keyword word.Write = refl
call_keyword word.Evict = refl
call_keyword word.Debug = refl
call_keyword word.Exit = refl

number_of_text : (n : ℕ) → n < 2 ^ 64 → number (decimal n) ≡ Some n
number_of_text n lt = number_again (2 ^ 64) n (omega arith) lt

process_of_text : (n : ℕ) → n < 2 ^ 64 → process_name (process_text n) ≡ Some n
process_of_text n lt = name_again (2 ^ 64) 112 n (omega arith) lt

file_of_text : (n : ℕ) → n < 2 ^ 64 → file_name (file_text n) ≡ Some n
file_of_text n lt = name_again (2 ^ 64) 102 n (omega arith) lt

cache_of_text : (n : ℕ) → n < 2 ^ 64 → cache_name (cache_text n) ≡ Some n
cache_of_text n lt = name_again (2 ^ 64) 99 n (omega arith) lt

address_of_text : (a : ℕ) → a < 2 ^ 47 → address (address_text a) ≡ Some a
address_of_text a lt = address_again (2 ^ 47) a (omega arith) lt

pub call_again : (c : Call) → CallHasForm c → call_says (call_key c) (call_rest c) ≡ Some c
unfolding map_row
call_again (Spawn pid) f = row1_again process_name (λ p. Spawn p) _ pid (process_of_text pid f)
call_again (Map pid addr file first pages prot shared) f =
    rw (process_of_text pid f.0, address_of_text addr f.1, file_of_text file f.2, number_of_text first f.3, number_of_text pages f.4, prot_again prot, share_again shared) refl
call_again (Unmap pid addr) f = row2_again process_name address (λ p a. Unmap p a) _ _ pid addr (process_of_text pid f.0) (address_of_text addr f.1)
call_again (Attach file slice) f = row2_again file_name number (λ g s. Attach g s) _ _ file slice (file_of_text file f.0) (number_of_text slice f.1)
call_again (LoadTrust cache) f = row1_again cache_name (λ c. LoadTrust c) _ cache (cache_of_text cache f)
call_again (Fault pid addr access) f = row3_again process_name address access_word (λ p a x. Fault p a x) _ _ _ pid addr access (process_of_text pid f.0) (address_of_text addr f.1) (access_again access)
call_again (Store pid addr bytes) f = row3_again process_name address hex_word (λ p a b. Store p a b) _ _ _ pid addr bytes (process_of_text pid f.0) (address_of_text addr f.1) (hex_again bytes f.2 f.3)
call_again (Load pid addr count) f = row3_again process_name address number (λ p a n. Load p a n) _ _ _ pid addr count (process_of_text pid f.0) (address_of_text addr f.1) (number_of_text count f.2)
call_again (Fetch pid addr count) f = row3_again process_name address number (λ p a n. Fetch p a n) _ _ _ pid addr count (process_of_text pid f.0) (address_of_text addr f.1) (number_of_text count f.2)
call_again (Write file at piece) f = row3_again file_name number (data_word (2 ^ 64)) (λ g a d. Write g a d) _ _ _ file at piece (file_of_text file f.0) (number_of_text at f.1) (data_again (2 ^ 64) piece (omega arith) f.2)
call_again (Evict file page) f = row2_again file_name number (λ g p. Evict g p) _ _ file page (file_of_text file f.0) (number_of_text page f.1)
call_again (Debug pid) f = row1_again process_name (λ p. Debug p) _ pid (process_of_text pid f)
call_again (Exit pid) f = row1_again process_name (λ p. Exit p) _ pid (process_of_text pid f)

wide : (a : ℕ) → a < 2 ^ 47 → a < 2 ^ 64
wide a lt = omega arith

pub call_words_are : (c : Call) → CallHasForm c → AreWords (call_line c)
call_words_are (Spawn pid) f = (refl, (decimal_is_word pid f, tt))
call_words_are (Map pid addr file first pages prot shared) f =
    (refl, (decimal_is_word pid f.0, (address_is_word addr (wide addr f.1), (decimal_is_word file f.2, (decimal_is_word first f.3, (decimal_is_word pages f.4, (prot_is_word prot, (share_is_word shared, tt))))))))
call_words_are (Unmap pid addr) f = (refl, (decimal_is_word pid f.0, (address_is_word addr (wide addr f.1), tt)))
call_words_are (Attach file slice) f = (refl, (decimal_is_word file f.0, (decimal_is_word slice f.1, tt)))
call_words_are (LoadTrust cache) f = (refl, (decimal_is_word cache f, tt))
call_words_are (Fault pid addr access) f = (refl, (decimal_is_word pid f.0, (address_is_word addr (wide addr f.1), (access_is_word access, tt))))
call_words_are (Store pid addr bytes) f = (refl, (decimal_is_word pid f.0, (address_is_word addr (wide addr f.1), (hex_is_word bytes f.2, tt))))
call_words_are (Load pid addr count) f = (refl, (decimal_is_word pid f.0, (address_is_word addr (wide addr f.1), (decimal_is_word count f.2, tt))))
call_words_are (Fetch pid addr count) f = (refl, (decimal_is_word pid f.0, (address_is_word addr (wide addr f.1), (decimal_is_word count f.2, tt))))
call_words_are (Write file at piece) f = (refl, (decimal_is_word file f.0, (decimal_is_word at f.1, (data_is_word (2 ^ 64) piece (omega arith) f.2, tt))))
call_words_are (Evict file page) f = (refl, (decimal_is_word file f.0, (decimal_is_word page f.1, tt)))
call_words_are (Debug pid) f = (refl, (decimal_is_word pid f, tt))
call_words_are (Exit pid) f = (refl, (decimal_is_word pid f, tt))
