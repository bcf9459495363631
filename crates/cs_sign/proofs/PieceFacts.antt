-- How a list grows by one piece for each number.
use Rattle.std.proofs.Common.{◌≡◌, ℕ, suc, ◌+◌, ◌-◌, ◌<◌, ◌≤◌, List, [], ◌∷◌, ◌++◌, sym, ◌∙◌, arith}
use Rattle.std.specs.List.{flat_map, range_with_len}
use Rattle.std.proofs.lemmas.List.{append_assoc, append-nil}

-- one piece more
pub piece_added : (piece : ℕ → List ℕ) (was now whole : List ℕ) (i n : ℕ) → i < n → was ++ flat_map piece (range_with_len i (n - i)) ≡ whole → now ≡ was ++ piece i → now ++ flat_map piece (range_with_len (i + 1) (n - (i + 1))) ≡ whole
piece_added piece was now whole i n lt so_far is =
    let next : n - i ≡ suc (n - (i + 1)) = omega arith in
    let before : was ++ (piece i ++ flat_map piece (range_with_len (i + 1) (n - (i + 1)))) ≡ whole = rw next at so_far in
    rw is (append_assoc was (piece i) (flat_map piece (range_with_len (i + 1) (n - (i + 1)))) ∙ before)

-- no piece is left
pub pieces_done : (piece : ℕ → List ℕ) (now whole : List ℕ) (i n : ℕ) → n ≤ i → now ++ flat_map piece (range_with_len i (n - i)) ≡ whole → now ≡ whole
pieces_done piece now whole i n le so_far =
    let none : n - i ≡ 0 = omega arith in
    sym (append-nil now) ∙ (rw none at so_far)

-- a header, an identifier with a zero byte, and slots, one behind the other
pub directory_joined : (none a b c d e header ident specials codes : List ℕ) → none ≡ [] → a ≡ none ++ header → b ≡ a ++ ident → c ≡ b ++ 0 ∷ [] → d ≡ c ++ specials → e ≡ d ++ codes → e ≡ header ++ (ident ++ (0 ∷ (specials ++ codes)))
directory_joined none a b c d e header ident specials codes p0 p1 p2 p3 p4 p5 =
    rw (p5, p4, p3, p2, p1, p0) (simp append_assoc)
