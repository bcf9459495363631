-- Lists of receipts.
use Rattle.std.specs.Prelude.{◌≡◌, ℕ, suc, ◌<◌, ◌≤◌, ◌⊎◌, Bool, true, false, ◌&&◌, ◌||◌, eqb, ltb, cond, List, [], ◌∷◌, ◌++◌, length, filter}
use Rattle.pg_book.specs.declared.needs.Needs.{Needs}
use Rattle.pg_book.specs.declared.receipt.Receipt.{Receipt}
use Rattle.pg_book.specs.Needs.{parts_of, entries_at}

module _ {E : Type 0} where
  -- the receipt is one of these
  abbrev pub Among : Receipt E → List (Receipt E) → Type 0
  Among r [] = ⊥
  Among r (x ∷ xs) = (x ≡ r) ⊎ Among r xs

  -- each stamp is above those before it
  abbrev pub Rising : List (Receipt E) → Type 0
  Rising [] = Unit {0}
  Rising (x ∷ xs) = ((r : Receipt E) → Among r xs → x.stamp < r.stamp) × Rising xs

  -- the second list begins with the first
  abbrev pub IsPrefix : List (Receipt E) → List (Receipt E) → Type 0
  IsPrefix xs ys = (zs : List (Receipt E)) × (ys ≡ xs ++ zs)

  -- the stamps count up from n
  abbrev pub Numbered : ℕ → List (Receipt E) → Type 0
  Numbered n [] = Unit {0}
  Numbered n (x ∷ xs) = (x.stamp ≡ n) × Numbered (suc n) xs

  abbrev pub of_part : ℕ → List (Receipt E) → List (Receipt E)
  of_part part xs = filter (λ (r : Receipt E). eqb r.part part) xs

  abbrev pub of_caller : ℕ → List (Receipt E) → List (Receipt E)
  of_caller caller xs = filter (λ (r : Receipt E). eqb r.caller caller) xs

  -- whether the stamp is above all of the list
  abbrev pub is_above : ℕ → List (Receipt E) → Bool
  is_above stamp [] = true
  is_above stamp (x ∷ xs) = ltb x.stamp stamp && is_above stamp xs

  -- whether a receipt of the list has the stamp
  abbrev pub has_stamp : ℕ → List (Receipt E) → Bool
  has_stamp stamp [] = false
  has_stamp stamp (x ∷ xs) = eqb x.stamp stamp || has_stamp stamp xs

  abbrev pub longer : List (Receipt E) → List (Receipt E) → List (Receipt E)
  longer xs ys = cond (ltb (length xs) (length ys)) ys xs

  -- All receipts of a book, in the order of their stamps: each stamp is its place, parts and callers are those of the book, and no caller has more entries on a part than it needs there
  pub record IsLog (needs : List (List Needs)) (log : List (Receipt E)) : Type 0 where
    pub numbered : Numbered 0 log
    pub parts : (r : Receipt E) → Among r log → r.part < parts_of needs
    pub callers : (r : Receipt E) → Among r log → r.caller < length needs
    pub within : (caller part : ℕ) → length (of_caller caller (of_part part log)) ≤ entries_at needs caller part
