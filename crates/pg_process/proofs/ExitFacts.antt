-- The bits that Exited names are those of the files of the regions.
use Rattle.std.proofs.Common.{◌≡◌, ℕ, ◌^◌, ◌⊎◌, ◌==◌, true, false, List, [], ◌∷◌, fold, refl, subst, inl, inr, arith, bit_or}
use Rattle.std.specs.Prelude.{Any, ◌↔◌}
use Rattle.std.specs.Int.{bit_at}
use Rattle.std.proofs.lemmas.Nat.Bits.{bit_at_or, bit_at-pow_same, bit_at-pow_other, bit_at-lt, bit_at-zero}
use Rattle.cs_policy.specs.declared.process.ProcReply.TheVariants as reply
use Rattle.pg_process.specs.declared.mapping.Mapping.{Mapping}
use Rattle.pg_process.specs.declared.state.State.{State}
use Rattle.pg_process.specs.declared.state.State.TheVariants.{Fresh, Alive, Killed, Gone}
use Rattle.pg_process.specs.Regions.{files_of}
use Rattle.pg_process.specs.ProcessStep.{PlainProcess, unless_standing, answered}
use Rattle.pg_process.specs.Laws.{ExitNamesEachFile}
use Rattle.pg_process.proofs.ListFacts.{any_first, any_later, any_cases, any_none}

-- the files of some regions, beside those so far
abbrev files_from : ℕ → List Mapping → ℕ
files_from files regions = fold (λ f m. bit_or f (2 ^ m.file)) files regions

module _ (k : ℕ) where
  -- a region is of the file
  abbrev IsOf : Mapping → Type 0
  IsOf m = m.file ≡ k

  -- one more file has the bits so far, and its own
  one_more : (files file : ℕ) → bit_at (bit_or files (2 ^ file)) k ≡ 1 → (bit_at files k ≡ 1) ⊎ (file ≡ k)
  one_more files file e =
      elim (file == k) as (λ b. (file == k) ≡ b → (bit_at files k ≡ 1) ⊎ (file ≡ k)) [
        | true ↦ λ same. inr (grind arith)
        | false ↦ λ other. inl (let apart : bit_at (2 ^ file) k ≡ 0 = bit_at-pow_other file k (grind arith) in omega (arith, bit_at_or files (2 ^ file) k, apart, e))
      ] refl

  bit_stays : (files file : ℕ) → bit_at files k ≡ 1 → bit_at (bit_or files (2 ^ file)) k ≡ 1
  bit_stays files file e = omega (arith, bit_at_or files (2 ^ file) k, bit_at-lt (2 ^ file) k, e)

  own_bit : (files file : ℕ) → file ≡ k → bit_at (bit_or files (2 ^ file)) k ≡ 1
  own_bit files file e =
      let own : bit_at (2 ^ file) k ≡ 1 = subst (λ (n : ℕ). bit_at (2 ^ file) n ≡ 1) e (bit_at-pow_same file) in
      omega (arith, bit_at_or files (2 ^ file) k, bit_at-lt files k, own)

  from_bit : (files : ℕ) (regions : List Mapping) → bit_at (files_from files regions) k ≡ 1 → (bit_at files k ≡ 1) ⊎ Any IsOf regions
  from_bit files [] e = inl e
  from_bit files (m ∷ ms) e =
      elim (from_bit (bit_or files (2 ^ m.file)) ms e) [
        | inl f ↦ elim (one_more files m.file f) [ inl g ↦ inl g | inr same ↦ inr (any_first IsOf m ms same) ]
        | inr later ↦ inr (any_later IsOf m ms later)
      ]

  stays : (files : ℕ) (regions : List Mapping) → bit_at files k ≡ 1 → bit_at (files_from files regions) k ≡ 1
  stays files [] e = e
  stays files (m ∷ ms) e = stays (bit_or files (2 ^ m.file)) ms (bit_stays files m.file e)

  to_bit : (files : ℕ) (regions : List Mapping) → Any IsOf regions → bit_at (files_from files regions) k ≡ 1
  to_bit files [] any = absurd (any_none IsOf any)
  to_bit files (m ∷ ms) any =
      elim (any_cases IsOf m ms any) [
        | inl same ↦ stays (bit_or files (2 ^ m.file)) ms (own_bit files m.file same)
        | inr later ↦ to_bit (bit_or files (2 ^ m.file)) ms later
      ]

  no_bit : (regions : List Mapping) → (bit_at 0 k ≡ 1) ⊎ Any IsOf regions → Any IsOf regions
  no_bit regions (inl e) = absurd (omega (arith, bit_at-zero k, e))
  no_bit regions (inr any) = any

  each_file : (regions : List Mapping) → (bit_at (files_of regions) k ≡ 1) ↔ Any IsOf regions
  each_file regions = (λ e. no_bit regions (from_bit 0 regions e), λ any. to_bit 0 regions any)

-- Exited comes of the row
exited : (state : State) (p q : PlainProcess) (all files : ℕ) → (answered (unless_standing state) p (reply.Exited all, q)).0 ≡ reply.Exited files → all ≡ files
exited Fresh p q all files e = absurd cc
exited Alive p q all files e = cc
exited Killed p q all files e = cc
exited Gone p q all files e = absurd cc

pub names_each_file : ExitNamesEachFile
names_each_file p files e k =
    subst (λ (n : ℕ). (bit_at n k ≡ 1) ↔ Any (λ m. m.file ≡ k) p.regions) (exited p.state p _ (files_of p.regions) files e) (each_file k p.regions)
