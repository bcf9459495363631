-- The file of a name, by its place among the names.
use Rattle.std.proofs.Common.{◌≡◌, ◌<◌, ◌≤◌, ℕ, List, [], ◌∷◌, length, Some, None, Bool, refl, arith, map, get_or}
use Rattle.std.specs.List.{zip, position, position_or_len}
use Rattle.std.specs.Str.{bytes_eq}
use Rattle.std.proofs.lemmas.Grind.{common_steps}
use Rattle.pg_io.specs.Files.{contents}

module _ {N V : Type 0} (key : N → List ℕ) (value : V → List ℕ) (name : List ℕ) where
  abbrev pub is_named : N → Bool
  is_named own = bytes_eq (key own) name

  pub contents-at : (names : List N) (files : List V) (v : V) → length names ≡ length files → position_or_len is_named names < length names → v ≡ get_or files (position_or_len is_named names) v → contents (zip (map key names) (map value files)) name ≡ Some (value v)
  contents-at [] files v same inside at = absurd (omega arith)
  contents-at (n ∷ ns) [] v same inside at = absurd (omega arith)
  contents-at (n ∷ ns) (f ∷ fs) v same inside at = grind (arith, common_steps, contents-at ns fs v)

  pub contents-none : (names : List N) (files : List V) → length names ≤ position_or_len is_named names → contents (zip (map key names) (map value files)) name ≡ None
  contents-none [] files past = refl
  contents-none (n ∷ ns) [] past = refl
  contents-none (n ∷ ns) (f ∷ fs) past = grind (arith, common_steps, contents-none ns fs)

  pub contents-place : (names : List N) (files : List V) (at : ℕ) (v : V) → Some at ≡ position is_named names → length names ≡ length files → v ≡ get_or files at v → contents (zip (map key names) (map value files)) name ≡ Some (value v)
  contents-place names files at v place same found = grind (arith, common_steps, contents-at names files v same)

  pub contents-no_place : (names : List N) (files : List V) → None ≡ position is_named names → contents (zip (map key names) (map value files)) name ≡ None
  contents-no_place names files place = grind (arith, common_steps, contents-none names files)
