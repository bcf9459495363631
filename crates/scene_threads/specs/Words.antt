-- What the words of a command line ask for, and how the program ends that was given them.
use Rattle.std.specs.Prelude.{ℕ, ◌≡◌, ◌≢◌, ◌≤◌, ◌^◌, ◌==◌, ◌||◌, nat_lt, if◌then◌else◌, List, [], ◌∷◌, codes, bytes_eq, Option, Some, None, option_and_then}
use Rattle.pg_words.specs.Numbers.{number_word}
use Rattle.pg_bytes.specs.declared.status.Status.{Status}
use Rattle.pg_bytes.specs.declared.status.Status.TheVariants as status
use Rattle.scene_run.specs.Ending.{AreSolo, path_of, early_end, GoesOut}
use Rattle.scene_threads.specs.declared.words.Request.{Request}
use Rattle.scene_threads.specs.declared.words.Request.TheVariants as request

-- the words are the path of a scene, alone
abbrev pub ArePath : List (List ℕ) → Type 0
ArePath words = (path : List ℕ) × (words ≡ path ∷ [])

-- a number from 1 to 1,000
abbrev pub in_made : ℕ → Option ℕ
in_made number = if number == 0 || nat_lt 1000 number then None else Some number

-- the number from 1 to 1,000 that a word is, without leading zeros
abbrev pub made_of : List ℕ → Option ℕ
made_of word = option_and_then in_made (number_word (2 ^ 64) word)

-- the number of the scene that words ask for behind `gen`
abbrev pub made_number : List (List ℕ) → Option ℕ
made_number (word ∷ other ∷ []) = if bytes_eq word (codes "gen") then made_of other else None
made_number _ = None

-- the words ask for that
abbrev pub AskFor : List (List ℕ) → Request → Type 0
AskFor words (request.Scene path) = words ≡ path.now ∷ []
AskFor words request.Solo = AreSolo words
AskFor words (request.Made n) = (made_number words ≡ Some n) × (1 ≤ n) × (n ≤ 1000)
AskFor words request.Nothing = (path_of words ≡ None) × (made_number words ≡ None)

-- Words that name neither a path nor a number end the run by the usage line, and no others do: the line goes out whole, or the
-- sink faults and a first part of it goes out.
abbrev pub EndsByWords : Option (List ℕ) → Option ℕ → Status → Option (List ℕ) → Option (List ℕ) → Type 0
EndsByWords None None s before now = GoesOut (early_end status.Usage) s before now
EndsByWords None (Some n) s before now = s ≢ status.Usage
EndsByWords (Some path) number s before now = s ≢ status.Usage
