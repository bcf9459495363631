-- Histories part by part: each part answers its own entries, whatever the others do.
use Rattle.std.specs.Prelude.{ℕ, ◌≡◌, ◌==◌, Bool, true, false, List, [], ◌∷◌, filter, slice_get, Option, Some, None, IsSome, unwrap_or}
use Rattle.std.specs.Option.{option_map}
use Rattle.pg_digest.specs.Kinds.{Hash}
use Rattle.cs_policy.specs.declared.file.FileReply.{FileReply}
use Rattle.cs_policy.specs.declared.process.ProcReply.{ProcReply}
use Rattle.cs_policy.specs.declared.trust.TrustReply.{TrustReply}
use Rattle.cs_policy.specs.declared.entry.Event.{Event}
use Rattle.cs_policy.specs.declared.entry.Event.TheVariants as event
use Rattle.cs_policy.specs.declared.entry.Reply.TheVariants as reply
use Rattle.cs_policy.specs.declared.entry.Place.{Place}
use Rattle.cs_policy.specs.declared.entry.Place.TheVariants as place
use Rattle.pg_process.specs.ProcessStep.{PlainProcess, process_step}
use Rattle.pg_trusted.specs.TrustStep.{TrustList, trust_step}
use Rattle.pg_history.specs.Machine.{Line, FilePart, Machine, part_step}

-- ---- the entries of a part

abbrev pub is_at : Place → Place → Bool
is_at (place.File number) (place.File other) = number == other
is_at (place.Process pid) (place.Process other) = pid == other
is_at place.Trust place.Trust = true
is_at _ _ = false

abbrev pub entries_at : Place → List Line → List Line
entries_at at history = filter (λ e. is_at at e.entry.place) history

-- ---- what a part answers to an event; there is no answer to an event of another kind of part

abbrev pub file_answer : Hash → FilePart → ℕ → Event → Option (FileReply × FilePart)
file_answer hash part stamp (event.File e) = Some (part_step hash stamp part e)
file_answer hash part stamp (event.Proc e) = None
file_answer hash part stamp (event.Trust e) = None

abbrev pub process_answer : PlainProcess → Event → Option (ProcReply × PlainProcess)
process_answer p (event.File e) = None
process_answer p (event.Proc e) = Some (process_step p e)
process_answer p (event.Trust e) = None

abbrev pub trust_answer : TrustList → Event → Option (TrustReply × TrustList)
trust_answer list (event.File e) = None
trust_answer list (event.Proc e) = None
trust_answer list (event.Trust e) = Some (trust_step list e)

-- ---- each reply is what the part replies then

abbrev pub FileAnswers : Hash → FilePart → List Line → Type 0
FileAnswers hash part [] = Unit {0}
FileAnswers hash part (e ∷ es) =
    (option_map (λ a. reply.File a.0) (file_answer hash part e.stamp e.entry.event) ≡ Some e.entry.reply)
    × FileAnswers hash (unwrap_or (option_map (λ a. a.1) (file_answer hash part e.stamp e.entry.event)) part) es

abbrev pub ProcessAnswers : PlainProcess → List Line → Type 0
ProcessAnswers p [] = Unit {0}
ProcessAnswers p (e ∷ es) =
    (option_map (λ a. reply.Proc a.0) (process_answer p e.entry.event) ≡ Some e.entry.reply)
    × ProcessAnswers (unwrap_or (option_map (λ a. a.1) (process_answer p e.entry.event)) p) es

abbrev pub TrustAnswers : TrustList → List Line → Type 0
TrustAnswers list [] = Unit {0}
TrustAnswers list (e ∷ es) =
    (option_map (λ a. reply.Trust a.0) (trust_answer list e.entry.event) ≡ Some e.entry.reply)
    × TrustAnswers (unwrap_or (option_map (λ a. a.1) (trust_answer list e.entry.event)) list) es

-- the machine has such a part
abbrev pub HasPart : Machine → Place → Type 0
HasPart m (place.File number) = IsSome (slice_get m.files number)
HasPart m (place.Process pid) = IsSome (slice_get m.processes pid)
HasPart m place.Trust = Unit {0}

-- each part of the machine answers its own entries, and there are no entries of other parts
pub record AnsweredByParts (hash : Hash) (m : Machine) (history : List Line) : Type 0 where
  pub files : (number : ℕ) (part : FilePart) → slice_get m.files number ≡ Some part → FileAnswers hash part (entries_at (place.File number) history)
  pub processes : (pid : ℕ) (p : PlainProcess) → slice_get m.processes pid ≡ Some p → ProcessAnswers p (entries_at (place.Process pid) history)
  pub trust : TrustAnswers m.trust (entries_at place.Trust history)
  pub placed : (k : ℕ) (e : Line) → slice_get history k ≡ Some e → HasPart m e.entry.place
