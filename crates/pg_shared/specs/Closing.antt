-- A run is closed: its parts as they are, and its history.
use Rattle.std.specs.Prelude.{ℕ, ◌≡◌, ◌<◌, List, [], ◌∷◌, suc, length, IfSome}
use Rattle.std.specs.List.{AllByRecursion}
use Rattle.pg_digest.specs.Kinds.{Hash}
use Rattle.pg_book.specs.Models.{SpineOf, PassOf}
use Rattle.pg_book.specs.Opening.{EachFrom}
use Rattle.cs_policy.specs.declared.entry.Entry.{Entry}
use Rattle.pg_object.specs.Object.{ObjectNow}
use Rattle.pg_process.specs.ProcessStep.{PlainProcess}
use Rattle.pg_trusted.specs.TrustStep.{TrustList}
use Rattle.pg_history.specs.Machine.{Line}
use Rattle.pg_history.specs.Legal.{entries_by, IsStamped, Agrees}
use Rattle.pg_parts.specs.Opened.{OpenedNow, numbers_in, opening_in}
use Rattle.pg_machine.specs.Solo.{WentOn, IsAnswered}
use Rattle.pg_shared.specs.Plan.{Plan}
use Rattle.pg_shared.specs.Drawn.{drawn_by}
use Rattle.pg_shared.specs.Passes.{IsPassOf}

-- P of each part and its spine, where the first has the number n
abbrev pub AreKept : {A : Type 0} → (ℕ → A → SpineOf Entry → Type 0) → ℕ → List A → List (SpineOf Entry) → Type 0
AreKept P n [] [] = Unit {0}
AreKept P n [] (s ∷ spines) = ⊥
AreKept P n (x ∷ xs) [] = ⊥
AreKept P n (x ∷ xs) (s ∷ spines) = P n x s × AreKept P (suc n) xs spines

-- all passes of the run, the k-th of the worker k
pub record ArePassesOfRun (plan : Plan) (passes : List (PassOf Entry)) : Type 0 where
  pub count : length passes ≡ length plan.start.needs
  pub each : EachFrom (IsPassOf plan) 0 passes

-- the run's parts as these are now
abbrev pub parts_now : Plan → List ObjectNow → List PlainProcess → TrustList → OpenedNow
parts_now plan files processes trust = record plan.start { files = files; processes = processes; trust = trust }

-- The history has each entry at its stamp, and each worker's entries are those that its pass drew. Each part has gone on by
-- its own entries, and where the pagers of all files told, the machine answers the history.
pub record IsClosed (hash : Hash) (plan : Plan) (passes : List (PassOf Entry)) (history : List Line) (now : OpenedNow) : Type 0 where
  pub stamps : IsStamped history
  pub agrees : Agrees (numbers_in plan.start) history
  pub workers : AllByRecursion (λ e. e.entry.who.worker < length plan.start.needs) history
  pub by_worker : EachFrom (λ worker pass. entries_by worker history ≡ drawn_by pass) 0 passes
  pub went : WentOn hash plan.start history now
  pub answered : IfSome (opening_in plan.start) (IsAnswered hash (numbers_in plan.start) history)
