-- Lists that are told by their places, and results of two facts.
use Rattle.std.proofs.Common.{ℕ, suc, ◌<◌, List, [], ◌∷◌, length, map, get_or, Result, Ok, Err, IfOk, ◌≡◌, arith}
use Rattle.std.specs.List.{AllZip}
use Rattle.pg_book.specs.Opening.{EachFrom}

pub both_ok : {X Y : Type 0} (r : Result X Y) (P Q S : X → Type 0) → ((x : X) → P x → Q x → S x) → IfOk r P → IfOk r Q → IfOk r S
both_ok (Ok x) P Q S f p q = f x p q
both_ok (Err e) P Q S f p q = tt

module _ {A B : Type 0} where
  pub all_zip : (R : A → B → Type 0) (xs : List A) (ys : List B) → length xs ≡ length ys → ((i : ℕ) (d : A) (e : B) → i < length xs → R (get_or xs i d) (get_or ys i e)) → AllZip R xs ys
  all_zip R [] [] same each = tt
  all_zip R [] (y ∷ ys) same each = absurd (omega arith)
  all_zip R (x ∷ xs) [] same each = absurd (omega arith)
  all_zip R (x ∷ xs) (y ∷ ys) same each = (each 0 x y (omega arith), all_zip R xs ys (omega arith) (λ i d e lt. each (suc i) d e (omega arith)))

  pub each_mapped : (P : ℕ → B → Type 0) (f : A → B) (n : ℕ) (xs : List A) → EachFrom (λ k x. P k (f x)) n xs → EachFrom P n (map f xs)
  each_mapped P f n [] h = tt
  each_mapped P f n (x ∷ xs) h = (h.0, each_mapped P f (suc n) xs h.1)
