-- Overlap names the least number of the regions that are met.
use Rattle.std.proofs.Common.{◌≡◌, ℕ, ◌≤◌, ◌+◌, ◌⊎◌, Bool, true, false, cond, List, [], ◌∷◌, length, map, fold, min, Option, Some, None, refl, sym, subst, inl, inr, arith}
use Rattle.std.specs.Prelude.{nat_lt, nat_le, Any}
use Rattle.std.specs.List.{AllByRecursion}
use Rattle.std.proofs.lemmas.List.Elements.{All-from_recursion}
use Rattle.cs_policy.specs.declared.process.ProcReply.{ProcReply}
use Rattle.cs_policy.specs.declared.process.ProcReply.TheVariants as reply
use Rattle.pg_process.specs.declared.mapping.Mapping.{Mapping}
use Rattle.pg_process.specs.declared.state.State.{State}
use Rattle.pg_process.specs.declared.state.State.TheVariants.{Fresh, Alive, Killed, Gone}
use Rattle.pg_process.specs.Regions.{is_met, met, least}
use Rattle.pg_process.specs.ProcessStep.{PlainProcess, next_id, unless_alive, answered, inserted}
use Rattle.pg_process.specs.Laws.{IsLeastMet, OverlapNamesTheLeast}
use Rattle.pg_process.proofs.ListFacts.{any_first, any_later}

-- a number of the list, by recursion
abbrev Member : ℕ → List ℕ → Type 0
Member n [] = ⊥
Member n (x ∷ xs) = (x ≡ n) ⊎ Member n xs

-- the least of some numbers is a lower bound
min_below : (a : ℕ) (xs : List ℕ) → (fold min a xs ≤ a) × AllByRecursion (λ x. fold min a xs ≤ x) xs
min_below a [] = (omega arith, tt)
min_below a (x ∷ xs) =
    let rest = min_below (min a x) xs in
    (omega (arith, rest.0), (omega (arith, rest.0), rest.1))

-- and one of them
min_cases : (a x r : ℕ) → r ≡ min a x → (r ≡ a) ⊎ (r ≡ x)
min_cases a x r e = elim (nat_le a x) as (λ b. nat_le a x ≡ b → (r ≡ a) ⊎ (r ≡ x)) [ true ↦ λ t. inl (grind arith) | false ↦ λ t. inr (grind arith) ] refl

min_reached : (a : ℕ) (xs : List ℕ) → (fold min a xs ≡ a) ⊎ Member (fold min a xs) xs
min_reached a [] = inl refl
min_reached a (x ∷ xs) =
    elim (min_reached (min a x) xs) [
      | inl e ↦ elim (min_cases a x _ e) [ inl f ↦ inl f | inr f ↦ inr (inl (sym f)) ]
      | inr h ↦ inr (inr h)
    ]

least_below : (xs : List ℕ) (n : ℕ) → least xs ≡ Some n → AllByRecursion (λ x. n ≤ x) xs
least_below [] n e = tt
least_below (x ∷ xs) n e =
    let same : fold min x xs ≡ n = cc in
    subst (λ (m : ℕ). AllByRecursion (λ y. m ≤ y) (x ∷ xs)) same (min_below x xs)

least_reached : (xs : List ℕ) (n : ℕ) → least xs ≡ Some n → Member n xs
least_reached [] n e = absurd cc
least_reached (x ∷ xs) n e =
    let same : fold min x xs ≡ n = cc in
    subst (λ (m : ℕ). Member m (x ∷ xs)) same (elim (min_reached x xs) [ inl f ↦ inl (sym f) | inr h ↦ inr h ])

module _ (page at pages : ℕ) where
  -- a number of a region that is met
  reached_by : (regions : List Mapping) (id : ℕ) → Member id (map (λ m. m.id) (met page at pages regions)) → Any (λ m. (m.id ≡ id) × (is_met page at pages m ≡ true)) regions
  reached_by [] id h = absurd h
  reached_by (m ∷ ms) id h =
      elim (is_met page at pages m) as (λ b. is_met page at pages m ≡ b → Member id (map (λ (o : Mapping). o.id) (cond b (m ∷ met page at pages ms) (met page at pages ms))) → Any (λ o. (o.id ≡ id) × (is_met page at pages o ≡ true)) (m ∷ ms)) [
        | true ↦ λ is h. elim h [ inl e ↦ any_first _ m ms (e, is) | inr later ↦ any_later _ m ms (reached_by ms id later) ]
        | false ↦ λ is later. any_later _ m ms (reached_by ms id later)
      ] refl h

  -- each region that is met has no less a number
  below_each : (regions : List Mapping) (id : ℕ) → AllByRecursion (λ n. id ≤ n) (map (λ m. m.id) (met page at pages regions)) → AllByRecursion (λ m. is_met page at pages m ≡ true → id ≤ m.id) regions
  below_each [] id h = tt
  below_each (m ∷ ms) id h =
      elim (is_met page at pages m) as (λ b. AllByRecursion (λ n. id ≤ n) (map (λ (o : Mapping). o.id) (cond b (m ∷ met page at pages ms) (met page at pages ms))) → (b ≡ true → id ≤ m.id) × AllByRecursion (λ o. is_met page at pages o ≡ true → id ≤ o.id) ms) [
        | true ↦ λ all. (λ is. all.0, below_each ms id all.1)
        | false ↦ λ all. (λ is. absurd cc, below_each ms id all)
      ] h

  least_met_is : (regions : List Mapping) (id : ℕ) → least (map (λ m. m.id) (met page at pages regions)) ≡ Some id → IsLeastMet page at pages regions id
  least_met_is regions id e = record {
    reached = reached_by regions id (least_reached _ id e);
    least = All-from_recursion _ regions (below_each regions id (least_below _ id e));
  }

-- Overlap is the row's reply
by_row : (state : State) (p : PlainProcess) (x : ProcReply × PlainProcess) (id : ℕ) → (answered (unless_alive state) p x).0 ≡ reply.Overlap id → x.0 ≡ reply.Overlap id
by_row Fresh p x id e = absurd cc
by_row Alive p x id e = e
by_row Killed p x id e = absurd cc
by_row Gone p x id e = absurd cc

-- it comes where a region is met
by_room : (room : Bool) (p q : PlainProcess) (m id : ℕ) → (cond {A = ProcReply × PlainProcess} room (reply.Inserted m, p) (reply.Full 256, q)).0 ≡ reply.Overlap id → ⊥
by_room true p q m id e = cc
by_room false p q m id e = cc

by_met : (past : Bool) (found : Option ℕ) (p : PlainProcess) (m : Mapping) (n id : ℕ) → (cond past (reply.OutOfFile n, p) (inserted found p m)).0 ≡ reply.Overlap id → found ≡ Some id
by_met true found p m n id e = absurd cc
by_met false None p m n id e = absurd (by_room (nat_lt (length p.regions) 256) _ p m.id id e)
by_met false (Some other) p m n id e = cc

pub names_the_least : OverlapNamesTheLeast
names_the_least p at file file_pages first pages prot shared id e =
    let m : Mapping = record { at = at; id = next_id p; file = file; first = first; pages = pages; prot = prot; shared = shared } in
    let found = least (map (λ (o : Mapping). o.id) (met p.page at pages p.regions)) in
    let past = nat_lt file_pages (first + pages) in
    least_met_is p.page at pages p.regions id
    (by_met past found p m file_pages id (by_row p.state p (cond past (reply.OutOfFile file_pages, p) (inserted found p m)) id e))
