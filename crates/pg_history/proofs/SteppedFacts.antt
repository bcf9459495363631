-- What a line that the machine answers does: one part steps, and the others stay.
use Rattle.std.proofs.Common.{◌≡◌, ◌⊎◌, ℕ, Option, Some, None, refl, arith, inl, inr}
use Rattle.std.specs.Prelude.{slice_get, slice_set, unwrap_or}
use Rattle.std.specs.Option.{option_map}
use Rattle.std.proofs.lemmas.Grind.{common_steps}
use Rattle.pg_digest.specs.Kinds.{Hash}
use Rattle.cs_policy.specs.declared.file.FileEvent.{FileEvent}
use Rattle.cs_policy.specs.declared.process.ProcEvent.{ProcEvent}
use Rattle.cs_policy.specs.declared.trust.TrustEvent.{TrustEvent}
use Rattle.cs_policy.specs.declared.entry.Event.{Event}
use Rattle.cs_policy.specs.declared.entry.Event.TheVariants as event
use Rattle.cs_policy.specs.declared.entry.Reply.{Reply}
use Rattle.cs_policy.specs.declared.entry.Reply.TheVariants as reply
use Rattle.cs_policy.specs.declared.entry.Place.{Place}
use Rattle.cs_policy.specs.declared.entry.Place.TheVariants as place
use Rattle.pg_process.specs.ProcessStep.{PlainProcess, process_step}
use Rattle.pg_trusted.specs.TrustStep.{trust_step}
use Rattle.pg_history.specs.Machine.{Line, FilePart, Machine, part_step, with_file, with_process, step, reply_to, after}

pub record FileSteps (hash : Hash) (m : Machine) (e : Line) : Type 0 where
  pub number : ℕ
  pub happened : FileEvent
  pub part : FilePart
  pub here : e.entry.place ≡ place.File number
  pub is : e.entry.event ≡ event.File happened
  pub there : slice_get m.files number ≡ Some part
  pub answer : e.entry.reply ≡ reply.File (part_step hash e.stamp part happened).0
  pub then : after hash m e ≡ record m { files = slice_set m.files number (part_step hash e.stamp part happened).1 }

pub record ProcessSteps (hash : Hash) (m : Machine) (e : Line) : Type 0 where
  pub number : ℕ
  pub happened : ProcEvent
  pub process : PlainProcess
  pub here : e.entry.place ≡ place.Process number
  pub is : e.entry.event ≡ event.Proc happened
  pub there : slice_get m.processes number ≡ Some process
  pub answer : e.entry.reply ≡ reply.Proc (process_step process happened).0
  pub then : after hash m e ≡ record m { processes = slice_set m.processes number (process_step process happened).1 }

pub record TrustSteps (hash : Hash) (m : Machine) (e : Line) : Type 0 where
  pub happened : TrustEvent
  pub here : e.entry.place ≡ place.Trust
  pub is : e.entry.event ≡ event.Trust happened
  pub answer : e.entry.reply ≡ reply.Trust (trust_step m.trust happened).0
  pub then : after hash m e ≡ record m { trust = (trust_step m.trust happened).1 }

abbrev pub Stepped : Hash → Machine → Line → Type 0
Stepped hash m e = FileSteps hash m e ⊎ (ProcessSteps hash m e ⊎ TrustSteps hash m e)

-- where the step gives an answer
abbrev answer_of : Option (Reply × Machine) → Option Reply
answer_of found = option_map (λ a. a.0) found

abbrev after_of : Option (Reply × Machine) → Machine → Machine
after_of found m = unwrap_or (option_map (λ a. a.1) found) m

module _ (hash : Hash) (m : Machine) (e : Line) where
  same_some : (r : Reply) → Some r ≡ Some e.entry.reply → e.entry.reply ≡ r
  same_some r is = grind (arith, common_steps, is)

  by_file : (number : ℕ) (fe : FileEvent) (found : Option FilePart) → slice_get m.files number ≡ found → e.entry.place ≡ place.File number → e.entry.event ≡ event.File fe
      → (answer_of (option_map (λ part. with_file m number (part_step hash e.stamp part fe)) found) ≡ Some e.entry.reply)
      → (after hash m e ≡ after_of (option_map (λ part. with_file m number (part_step hash e.stamp part fe)) found) m) → Stepped hash m e
  by_file number fe None f here is answer then = absurd (grind (arith, common_steps, answer))
  by_file number fe (Some part) f here is answer then = inl (record {
    number = number;
    happened = fe;
    part = part;
    here = here;
    is = is;
    there = f;
    answer = same_some (reply.File (part_step hash e.stamp part fe).0) answer;
    then = then;
  })

  by_process : (number : ℕ) (pe : ProcEvent) (found : Option PlainProcess) → slice_get m.processes number ≡ found → e.entry.place ≡ place.Process number → e.entry.event ≡ event.Proc pe
      → (answer_of (option_map (λ p. with_process m number (process_step p pe)) found) ≡ Some e.entry.reply)
      → (after hash m e ≡ after_of (option_map (λ p. with_process m number (process_step p pe)) found) m) → Stepped hash m e
  by_process number pe None f here is answer then = absurd (grind (arith, common_steps, answer))
  by_process number pe (Some p) f here is answer then = inr (inl (record {
    number = number;
    happened = pe;
    process = p;
    here = here;
    is = is;
    there = f;
    answer = same_some (reply.Proc (process_step p pe).0) answer;
    then = then;
  }))

  by_both : (p : Place) (ev : Event) → e.entry.place ≡ p → e.entry.event ≡ ev → answer_of (step hash m e.stamp p ev) ≡ Some e.entry.reply
      → after hash m e ≡ after_of (step hash m e.stamp p ev) m → Stepped hash m e
  by_both (place.File number) (event.File fe) here is answer then = by_file number fe (slice_get m.files number) refl here is answer then
  by_both (place.File number) (event.Proc pe) here is answer then = absurd (grind (arith, common_steps, answer))
  by_both (place.File number) (event.Trust te) here is answer then = absurd (grind (arith, common_steps, answer))
  by_both (place.Process number) (event.File fe) here is answer then = absurd (grind (arith, common_steps, answer))
  by_both (place.Process number) (event.Proc pe) here is answer then = by_process number pe (slice_get m.processes number) refl here is answer then
  by_both (place.Process number) (event.Trust te) here is answer then = absurd (grind (arith, common_steps, answer))
  by_both place.Trust (event.File fe) here is answer then = absurd (grind (arith, common_steps, answer))
  by_both place.Trust (event.Proc pe) here is answer then = absurd (grind (arith, common_steps, answer))
  by_both place.Trust (event.Trust te) here is answer then = inr (inr (record {
    happened = te;
    here = here;
    is = is;
    answer = same_some (reply.Trust (trust_step m.trust te).0) answer;
    then = then;
  }))

  pub stepped : reply_to hash m e ≡ Some e.entry.reply → Stepped hash m e
  stepped answer = by_both e.entry.place e.entry.event refl refl answer refl
