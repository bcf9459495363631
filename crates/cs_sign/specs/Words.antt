-- What the words of a command line name, without the program's own.
use Rattle.std.specs.Prelude.{ℕ, Bool, is_some, ◌||◌, ◌&&◌, not, ◌==◌, List, [], ◌∷◌, length, codes, Option, Some, None, option_map, nat_le, if◌then◌else◌}
use Rattle.std.specs.Str.{bytes_eq}
use Rattle.cs_sign.specs.declared.request.HashPage.{HashPage}
use Rattle.cs_sign.specs.declared.request.HashPage.TheVariants.{Four, Sixteen}

-- a word
abbrev pub Text : Type 0
Text = List ℕ

-- The path of a file, the identifier, the size of hash pages, and the path of the entitlements if there are some.
pub record SignWords : Type 0 where
  pub path : Text
  pub ident : Text
  pub page : HashPage
  pub entitlements : Option Text

-- the size that a word names
abbrev pub page_named : Text → Option HashPage
page_named word =
    if bytes_eq word (codes "4") then Some Four else (if bytes_eq word (codes "16") then Some Sixteen else None)

-- `sign PATH IDENT 4|16`, and these with the path of entitlements
abbrev signing : Text → Text → Text → Text → Option Text → Option SignWords
signing verb path ident size entitlements =
    if bytes_eq verb (codes "sign")
    then option_map (λ page. record { path = path; ident = ident; page = page; entitlements = entitlements }) (page_named size)
    else None

abbrev pub sign_words : List Text → Option SignWords
sign_words (verb ∷ path ∷ ident ∷ size ∷ []) = signing verb path ident size None
sign_words (verb ∷ path ∷ ident ∷ size ∷ entitlements ∷ []) = signing verb path ident size (Some entitlements)
sign_words _ = None

-- `cache` and 1 to 64 paths
abbrev pub cache_paths : List Text → Option (List Text)
cache_paths [] = None
cache_paths (verb ∷ paths) =
    if bytes_eq verb (codes "cache") && (not (length paths == 0) && nat_le (length paths) 64) then Some paths else None

-- whether the words have one of the forms
abbrev pub is_form : List Text → Bool
is_form words = is_some (sign_words words) || is_some (cache_paths words)
