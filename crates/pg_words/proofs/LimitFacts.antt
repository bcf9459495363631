-- What a word says below a limit, by what it says below 2 ^ 64.
use Rattle.std.proofs.Common.{◌≡◌, ℕ, ◌^◌, ◌≤◌, ◌==◌, cond, Bool, true, false, List, [], ◌∷◌, Option, Some, None, refl, arith, codes}
use Rattle.std.specs.Prelude.{bytes_eq}
use Rattle.std.specs.Char.{is_ascii_digit}
use Rattle.std.specs.Str.Parse.{digits_value}
use Rattle.std.proofs.lemmas.Bool.Decides.{nat_tests}
use Rattle.pg_words.specs.Numbers.{is_lower_hex, is_numeral, below, number_word, hex_number, address_word}
use Rattle.pg_words.specs.Names.{name_word}

module _ (limit : ℕ) (most : limit ≤ 2 ^ 64) where
  below_some : (t : Bool) (n m : ℕ) → cond t (below (2 ^ 64) n) None ≡ Some m → cond t (below limit n) None ≡ below limit m
  below_some true n m e = grind (arith, nat_tests)
  below_some false n m e = absurd cc

  below_none : (t : Bool) (n : ℕ) → cond t (below (2 ^ 64) n) None ≡ None → cond t (below limit n) None ≡ None
  below_none true n e = grind (arith, nat_tests)
  below_none false n e = refl

  pub number_some : (word : List ℕ) (m : ℕ) → number_word (2 ^ 64) word ≡ Some m → number_word limit word ≡ below limit m
  unfolding number_word
  number_some word m e = below_some (is_numeral is_ascii_digit word) (digits_value 10 word) m e

  pub number_none : (word : List ℕ) → number_word (2 ^ 64) word ≡ None → number_word limit word ≡ None
  unfolding number_word
  number_none word e = below_none (is_numeral is_ascii_digit word) (digits_value 10 word) e

  hex_some : (word : List ℕ) (m : ℕ) → hex_number (2 ^ 64) word ≡ Some m → hex_number limit word ≡ below limit m
  unfolding hex_number
  hex_some word m e = below_some (is_numeral is_lower_hex word) (digits_value 16 word) m e

  hex_none : (word : List ℕ) → hex_number (2 ^ 64) word ≡ None → hex_number limit word ≡ None
  unfolding hex_number
  hex_none word e = below_none (is_numeral is_lower_hex word) (digits_value 16 word) e

  -- a test in front
  behind_some : (t : Bool) (large small : Option ℕ) (m : ℕ) → (large ≡ Some m → small ≡ below limit m) → cond t large None ≡ Some m → cond t small None ≡ below limit m
  behind_some true large small m step e = step e
  behind_some false large small m step e = absurd cc

  behind_none : (t : Bool) (large small : Option ℕ) → (large ≡ None → small ≡ None) → cond t large None ≡ None → cond t small None ≡ None
  behind_none true large small step e = step e
  behind_none false large small step e = refl

  pub address_some : (word : List ℕ) (m : ℕ) → address_word (2 ^ 64) word ≡ Some m → address_word limit word ≡ below limit m
  unfolding address_word
  address_some [] m e = absurd cc
  address_some (c ∷ []) m e = absurd cc
  address_some (c ∷ d ∷ rest) m e = behind_some (bytes_eq (c ∷ d ∷ []) (codes "0x")) _ _ m (hex_some rest m) e

  pub address_none : (word : List ℕ) → address_word (2 ^ 64) word ≡ None → address_word limit word ≡ None
  unfolding address_word
  address_none [] e = refl
  address_none (c ∷ []) e = refl
  address_none (c ∷ d ∷ rest) e = behind_none (bytes_eq (c ∷ d ∷ []) (codes "0x")) _ _ (hex_none rest) e

  pub name_some : (letter : ℕ) (word : List ℕ) (m : ℕ) → name_word (2 ^ 64) letter word ≡ Some m → name_word limit letter word ≡ below limit m
  unfolding name_word
  name_some letter [] m e = absurd cc
  name_some letter (c ∷ rest) m e = behind_some (c == letter) _ _ m (number_some rest m) e

  pub name_none : (letter : ℕ) (word : List ℕ) → name_word (2 ^ 64) letter word ≡ None → name_word limit letter word ≡ None
  unfolding name_word
  name_none letter [] e = refl
  name_none letter (c ∷ rest) e = behind_none (c == letter) _ _ (number_none rest) e

-- at 32 bits
pub number32_some : (word : List ℕ) (m : ℕ) → number_word (2 ^ 64) word ≡ Some m → number_word (2 ^ 32) word ≡ below (2 ^ 32) m
number32_some word m e = number_some (2 ^ 32) (omega arith) word m e

pub number32_none : (word : List ℕ) → number_word (2 ^ 64) word ≡ None → number_word (2 ^ 32) word ≡ None
number32_none word e = number_none (2 ^ 32) (omega arith) word e

pub name32_some : (letter : ℕ) (word : List ℕ) (m : ℕ) → name_word (2 ^ 64) letter word ≡ Some m → name_word (2 ^ 32) letter word ≡ below (2 ^ 32) m
name32_some letter word m e = name_some (2 ^ 32) (omega arith) letter word m e

pub name32_none : (letter : ℕ) (word : List ℕ) → name_word (2 ^ 64) letter word ≡ None → name_word (2 ^ 32) letter word ≡ None
name32_none letter word e = name_none (2 ^ 32) (omega arith) letter word e

-- at 47 bits
pub address47_some : (word : List ℕ) (m : ℕ) → address_word (2 ^ 64) word ≡ Some m → address_word (2 ^ 47) word ≡ below (2 ^ 47) m
address47_some word m e = address_some (2 ^ 47) (omega arith) word m e

pub address47_none : (word : List ℕ) → address_word (2 ^ 64) word ≡ None → address_word (2 ^ 47) word ≡ None
address47_none word e = address_none (2 ^ 47) (omega arith) word e

-- at 8 bits
pub number8_some : (word : List ℕ) (m : ℕ) → number_word (2 ^ 64) word ≡ Some m → number_word (2 ^ 8) word ≡ below (2 ^ 8) m
number8_some word m e = number_some (2 ^ 8) (omega arith) word m e

pub number8_none : (word : List ℕ) → number_word (2 ^ 64) word ≡ None → number_word (2 ^ 8) word ≡ None
number8_none word e = number_none (2 ^ 8) (omega arith) word e
