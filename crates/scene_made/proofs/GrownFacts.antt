-- How a list grows by one piece for each number, and by one call for each draw.
use Rattle.std.proofs.Common.{◌≡◌, ℕ, suc, ◌+◌, ◌-◌, ◌<◌, ◌≤◌, List, [], ◌∷◌, ◌++◌, map, refl, sym, ◌∙◌, arith}
use Rattle.std.specs.List.{flat_map, range_with_len}
use Rattle.std.proofs.lemmas.List.{append_assoc, append-nil}
use Rattle.pg_digest.specs.Kinds.{Hash}
use Rattle.pg_digest.specs.declared.kinds.HashKind.TheVariants.{Sha256}
use Rattle.cs_policy.specs.declared.call.Call.{Call}
use Rattle.scene_made.specs.Made.{next, draws, page_of, body, slots}

-- nothing stands yet, and all pages come
pub body_begun : (n file : ℕ) (none : List ℕ) → none ≡ [] → none ++ flat_map (page_of n file) (range_with_len 0 64) ≡ body n file
body_begun n file none is = unfold body in rw is refl

pub slots_begun : (hash : Hash) (n file : ℕ) (none : List ℕ) → none ≡ [] → none ++ flat_map (λ (page : ℕ). hash Sha256 (page_of n file page)) (range_with_len 0 64) ≡ slots hash n file
slots_begun hash n file none is = unfold slots in rw is refl

-- one piece more
pub piece_added : (piece : ℕ → List ℕ) (was now whole : List ℕ) (i n : ℕ) → i < n → was ++ flat_map piece (range_with_len i (n - i)) ≡ whole → now ≡ was ++ piece i → now ++ flat_map piece (range_with_len (i + 1) (n - (i + 1))) ≡ whole
piece_added piece was now whole i n lt so_far is =
    let left : n - i ≡ suc (n - (i + 1)) = omega arith in
    let before : was ++ (piece i ++ flat_map piece (range_with_len (i + 1) (n - (i + 1)))) ≡ whole = rw left at so_far in
    rw is (append_assoc was (piece i) (flat_map piece (range_with_len (i + 1) (n - (i + 1)))) ∙ before)

-- no piece is left
pub pieces_done : (piece : ℕ → List ℕ) (now whole : List ℕ) (i n : ℕ) → n ≤ i → now ++ flat_map piece (range_with_len i (n - i)) ≡ whole → now ≡ whole
pieces_done piece now whole i n le so_far =
    let none : n - i ≡ 0 = omega arith in
    sym (append-nil now) ∙ (rw none at so_far)

-- the first draw, and those behind it
draws-more : (n x : ℕ) → draws (suc n) x ≡ next x ∷ draws n (next x)
draws-more n x = unfold draws in refl

draws-none : (x : ℕ) → draws 0 x ≡ []
draws-none x = unfold draws in refl

-- one draw more
pub draw_added : (call : ℕ → Call) (was now whole : List Call) (x y i n : ℕ) → i < n → was ++ map call (draws (n - i) x) ≡ whole → y ≡ next x → now ≡ was ++ call y ∷ [] → now ++ map call (draws (n - (i + 1)) y) ≡ whole
draw_added call was now whole x y i n lt so_far drawn is =
    let left : n - i ≡ suc (n - (i + 1)) = omega arith in
    let before : was ++ call (next x) ∷ map call (draws (n - (i + 1)) (next x)) ≡ whole = rw (left, draws-more (n - (i + 1)) x) at so_far in
    rw (is, drawn) (append_assoc was (call (next x) ∷ []) (map call (draws (n - (i + 1)) (next x))) ∙ before)

-- none is left
pub draws_done : (call : ℕ → Call) (now whole : List Call) (x i n : ℕ) → n ≤ i → now ++ map call (draws (n - i) x) ≡ whole → now ≡ whole
draws_done call now whole x i n le so_far =
    let none : n - i ≡ 0 = omega arith in
    sym (append-nil now) ∙ (rw (none, draws-none x) at so_far)
