-- Where the blobs of a signature lie, and what the first rules say of them.
use Rattle.std.proofs.Common.{◌≡◌, ℕ, ◌<◌, ◌==◌, cond, subst, Bool, true, false, List, [], ◌∷◌, All, length, filter, find, is_some, Option, Some, None, refl, arith}
use Rattle.std.proofs.lemmas.List.Elements.{All-nil, All-cons, All-head, All-tail, All-weaker, All-filter}
use Rattle.cs_superblob.specs.declared.entries.Seat.{Seat}
use Rattle.cs_superblob.specs.declared.refusal.SuperFail.{SuperFail}
use Rattle.cs_superblob.specs.declared.refusal.SuperFail.TheVariants as of_index
use Rattle.cs_superblob.specs.Rules as index
use Rattle.cs_superblob.specs.Index.{IsIndex, IsInside}
use Rattle.cs_blob.specs.declared.refusal.BlobRefusal.TheVariants.{NoDirectory}
use Rattle.cs_blob.specs.Fails.{from_index}
use Rattle.cs_blob.specs.Parts.{is_bare, IsWithin, whole, entries, directories, is_directory_type, entry_of}
use Rattle.cs_blob.specs.Rules.{first_of, index_rule, type_rule, Refuses}
use Rattle.cs_blob.specs.Signed.{HasParts}

-- the element that is found is the first, or one of the others
find_cases : {X : Type 0} (P : X → Type 0) (here : Bool) (y x : X) (rest : Option X) → P y → (rest ≡ Some x → P x) → cond here (Some y) rest ≡ Some x → P x
find_cases P true y x rest first more e = let same : y ≡ x = cc in subst P same first
find_cases P false y x rest first more e = more e

-- what holds of each element holds of the one that is found
pub All-find : {X : Type 0} (P : X → Type 0) (test : X → Bool) (xs : List X) (x : X) → All P xs → find test xs ≡ Some x → P x
All-find P test [] x all e = absurd cc
All-find P test (y ∷ xs) x all e = find_cases P (test y) y x (find test xs) (All-head P y xs all) (λ found. All-find P test xs x (All-tail P y xs all) found) e

some_cases : {X : Type 0} (one other : Bool) (x : X) (found : Option X) (rest : List X) → (one ≡ true → other ≡ true) → (is_some found ≡ true → 0 < length rest) → is_some (cond one (Some x) found) ≡ true → 0 < length (cond other (x ∷ rest) rest)
some_cases one true x found rest wider more e = omega arith
some_cases true false x found rest wider more e = let both : false ≡ true = wider refl in absurd cc
some_cases false false x found rest wider more e = more e

-- where an element passes one test, and whatever passes it passes another, some element is left by the other
pub filter-some : {X : Type 0} (test other : X → Bool) → ((x : X) → test x ≡ true → other x ≡ true) → (xs : List X) → is_some (find test xs) ≡ true → 0 < length (filter other xs)
filter-some test other wider [] e = absurd cc
filter-some test other wider (x ∷ xs) e = some_cases (test x) (other x) x (find test xs) (filter other xs) (wider x) (λ found. filter-some test other wider xs found) e

-- an entry of type 0 is one of a code directory
pub first_type : (seat : Seat) → (seat.slot == 0) ≡ true → is_directory_type seat.slot ≡ true
first_type seat e = rw e refl

-- a code directory alone
pub HasParts-bare : (bytes : List ℕ) → is_bare bytes ≡ true → HasParts bytes [] (whole bytes ∷ [])
unfolding entries directories
HasParts-bare bytes bare = record {
  entries = rw bare refl;
  directories = rw bare refl;
  some = omega arith;
  entries_within = All-nil (λ seat. IsWithin bytes seat.range);
  directories_within = All-cons (λ seat. IsWithin bytes seat.range) (whole bytes) [] (record { within = omega arith }) (All-nil (λ seat. IsWithin bytes seat.range));
}

pub bare_kept : (bytes : List ℕ) → is_bare bytes ≡ true → first_of (index_rule bytes) (type_rule bytes) ≡ None
unfolding index_rule type_rule
bare_kept bytes bare = rw bare refl

-- a SuperBlob with a blob of type 0
pub HasParts-super : (bytes : List ℕ) (found placed : List Seat) → is_bare bytes ≡ false → IsIndex bytes found → All (IsInside bytes) found → is_some (entry_of found 0) ≡ true → placed ≡ filter (λ seat. is_directory_type seat.slot) found → HasParts bytes found placed
unfolding entries directories
HasParts-super bytes found placed bare known inside some chosen =
    let within = All-weaker (IsInside bytes) (λ seat. IsWithin bytes seat.range) (λ seat here. record { within = here.given }) found inside in
    record {
      entries = rw bare known.seats;
      directories = rw (bare, ← known.seats) chosen;
      some = rw chosen (filter-some (λ seat. seat.slot == 0) (λ seat. is_directory_type seat.slot) first_type found some);
      entries_within = within;
      directories_within = rw chosen (All-filter (λ seat. is_directory_type seat.slot) (λ seat. IsWithin bytes seat.range) found within);
    }

pub super_kept : (bytes : List ℕ) (found : List Seat) → is_bare bytes ≡ false → IsIndex bytes found → is_some (entry_of found 0) ≡ true → first_of (index_rule bytes) (type_rule bytes) ≡ None
unfolding index_rule type_rule entries
super_kept bytes found bare known some = rw (bare, known.unbroken, ← known.seats, some) refl

-- no SuperBlob
pub Refuses-index : (bytes : List ℕ) (fail : SuperFail) → is_bare bytes ≡ false → index.Refuses (index.broken bytes) fail → Refuses (first_of (index_rule bytes) (type_rule bytes)) (from_index fail)
unfolding index_rule
Refuses-index bytes (of_index.Refused refusal) bare e = rw (bare, e) refl
Refuses-index bytes of_index.NoMemory bare e = tt

-- a SuperBlob with no blob of type 0
pub type_broken : (bytes : List ℕ) (found : List Seat) → is_bare bytes ≡ false → IsIndex bytes found → is_some (entry_of found 0) ≡ false → first_of (index_rule bytes) (type_rule bytes) ≡ Some NoDirectory
unfolding index_rule type_rule entries
type_broken bytes found bare known lacks = rw (bare, known.unbroken, ← known.seats, lacks) refl
