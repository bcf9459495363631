-- A page that enters the list of resident pages.
use Rattle.std.proofs.Common.{◌≡◌, ℕ, ◌+◌, ◌-◌, ◌≤◌, Bool, true, false, List, [], ◌∷◌, Option, Some, None, length, refl, sym, ap, subst, ◌∙◌, arith, not}
use Rattle.std.specs.Prelude.{◌==◌, find, take, is_some, unwrap_or, if◌then◌else◌}
use Rattle.std.specs.Option.{option_map_or}
use Rattle.std.proofs.lemmas.Grind.{common_steps}
use Rattle.std.proofs.lemmas.List.Sums.{length-filter}
use Rattle.std.proofs.lemmas.List.{length-take}
use Rattle.pg_digest.specs.Kinds.{Hash}
use Rattle.pg_plain.specs.PlainFile.{Resident, PlainFile, is_page, is_resident}
use Rattle.pg_plain.specs.Given.{without_page, last_resident, victim, fronted, records_left, entered}
use Rattle.pg_plain.specs.Keep.{Keep}
use Rattle.pg_plain.proofs.ListFacts.{found-take}
use Rattle.pg_plain.proofs.FewerFacts.{Fewer, fewer_keep}
use Rattle.pg_plain.proofs.LeaveFacts.{left_fewer, other_stays}

-- without a page that is not there, a list is as it was
without-absent : (page : ℕ) (residents : List Resident) → find (is_page page) residents ≡ None → without_page page residents ≡ residents
without-absent page [] none = refl
without-absent page (x ∷ xs) none = by_test (is_page page x) refl (without-absent page xs)
  where
    by_test : (b : Bool) → is_page page x ≡ b → (find (is_page page) xs ≡ None → without_page page xs ≡ xs) → without_page page (x ∷ xs) ≡ x ∷ xs
    by_test true f rest = absurd (grind (arith, common_steps, f, none))
    by_test false f rest = grind (arith, common_steps, f, rest (grind (arith, common_steps, f, none)))

-- and without one that is there, it is shorter
without-shorter : (page : ℕ) (residents : List Resident) → is_some (find (is_page page) residents) ≡ true → length (without_page page residents) + 1 ≤ length residents
without-shorter page [] some = absurd (grind (arith, common_steps, some))
without-shorter page (x ∷ xs) some = by_test (is_page page x) refl (without-shorter page xs)
  where
    by_test : (b : Bool) → is_page page x ≡ b → (is_some (find (is_page page) xs) ≡ true → length (without_page page xs) + 1 ≤ length xs)
        → length (without_page page (x ∷ xs)) + 1 ≤ length (x ∷ xs)
    by_test true f rest = grind (arith, common_steps, f, length-filter (λ resident. not (is_page page resident)) xs)
    by_test false f rest = grind (arith, common_steps, f, rest (grind (arith, common_steps, f, some)))

-- the page at the front
front_is : (page : ℕ) (found : Option Resident) → option_map_or (is_page page) found true ≡ true → is_page page (unwrap_or found (record { page = page; dirty = false })) ≡ true
front_is page None e = grind (arith, common_steps)
front_is page (Some resident) e = e

found_passes_or : (page : ℕ) (residents : List Resident) → option_map_or (is_page page) (find (is_page page) residents) true ≡ true
found_passes_or page [] = refl
found_passes_or page (x ∷ xs) = by_test (is_page page x) refl (found_passes_or page xs)
  where
    by_test : (b : Bool) → is_page page x ≡ b → option_map_or (is_page page) (find (is_page page) xs) true ≡ true
        → option_map_or (is_page page) (find (is_page page) (x ∷ xs)) true ≡ true
    by_test true f rest = grind (arith, common_steps, f)
    by_test false f rest = grind (arith, common_steps, f, rest)

-- what is found in a list by its first page and the others
head_found : (q page : ℕ) (x : Resident) (xs : List Resident) → is_page page x ≡ true → (q == page) ≡ true → is_some (find (is_page q) (x ∷ xs)) ≡ true
head_found q page x xs first same = grind (arith, common_steps, first, same)

tail_found : (q page : ℕ) (x : Resident) (xs : List Resident) → is_page page x ≡ true → (q == page) ≡ false
    → is_some (find (is_page q) xs) ≡ true → is_some (find (is_page q) (x ∷ xs)) ≡ true
tail_found q page x xs first other rest = grind (arith, common_steps, first, other, rest)

take_all : {X : Type 0} (n : ℕ) (xs : List X) → length xs ≤ n → take n xs ≡ xs
take_all n xs short = grind (arith, common_steps, short)

module _ (hash : Hash) (file : PlainFile) (page : ℕ) (keep : Keep hash file) where
  abbrev front : Resident
  front = unwrap_or (find (is_page page) file.residents) (record { page = page; dirty = false })

  is_front : is_page page front ≡ true
  is_front = front_is page (find (is_page page) file.residents) (found_passes_or page file.residents)

  -- the page is resident then
  pub front_found : is_some (find (is_page page) (fronted file page)) ≡ true
  front_found = head_found page page front (take (file.limit - 1) (without_page page file.residents)) is_front (grind (arith, common_steps))

  pub fronted_few : length (fronted file page) ≤ file.limit
  fronted_few = grind (arith, common_steps, length-take (file.limit - 1) (without_page page file.residents), keep.some)

  rest_found : (q : ℕ) → (found : Option Resident) → find (is_page page) file.residents ≡ found
      → option_map_or (is_page q) (if is_some found then None else last_resident file) false ≡ false
      → is_some (find (is_page q) file.residents) ≡ true → (q == page) ≡ false
      → is_some (find (is_page q) (take (file.limit - 1) (without_page page file.residents))) ≡ true
  rest_found q None f apart here other =
      subst (λ residents. is_some (find (is_page q) (take (file.limit - 1) residents)) ≡ true) (sym (without-absent page file.residents f))
      (found-take (is_page q) (file.limit - 1) file.residents (grind (arith, common_steps, keep.few, keep.some)) apart here)
  rest_found q (Some resident) f apart here other =
      let shorter = without-shorter page file.residents (ap is_some f) in
      let all = take_all (file.limit - 1) (without_page page file.residents) (omega (arith, shorter, keep.few, keep.some)) in
      subst (λ residents. is_some (find (is_page q) residents) ≡ true) (sym all)
      (ap is_some (other_stays page q file.residents other) ∙ here)

  -- each page that is resident and does not leave is resident then
  pub stays : (q : ℕ) → option_map_or (is_page q) (victim file page) false ≡ false → is_resident file q ≡ true → is_some (find (is_page q) (fronted file page)) ≡ true
  stays q apart here = by_test (q == page) refl
    where
      by_test : (b : Bool) → (q == page) ≡ b → is_some (find (is_page q) (fronted file page)) ≡ true
      by_test true e = head_found q page front (take (file.limit - 1) (without_page page file.residents)) is_front e
      by_test false e = tail_found q page front (take (file.limit - 1) (without_page page file.residents)) is_front e
          (rest_found q (find (is_page page) file.residents) refl apart here e)

  -- what a page that enters leaves of the file
  pub entered_fewer : Fewer file (entered page file)
  entered_fewer = by_victim (victim file page) refl
    where
      by_victim : (left : Option Resident) → victim file page ≡ left
          → Fewer file (record file { residents = fronted file page; records = records_left file left })
      by_victim None e = record {
        page_size = refl;
        limit = refl;
        blobs = refl;
        executes = λ id q f. f;
        bytes = λ id q f. refl;
        writes = λ id q f. f;
        shared = λ id q f. refl;
        copy = λ id q f. refl;
        private_copies = keep.private_copies;
        at_hand = λ id q f g. stays q (ap (λ left. option_map_or (is_page q) left false) e) (keep.at_hand id q f g);
        records_stand = keep.records_stand;
        few = fronted_few;
      }
      by_victim (Some left) e =
          left_fewer hash left.page file keep (fronted file page)
          (λ q apart here. stays q (ap (λ left. option_map_or (is_page q) left false) e ∙ (grind (arith, common_steps, apart))) here)
          fronted_few

  pub entered_keep : Keep hash (entered page file)
  entered_keep = fewer_keep hash file (entered page file) entered_fewer keep
