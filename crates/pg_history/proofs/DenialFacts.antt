-- A denial is the verdict of the file as it was.
use Rattle.std.proofs.Common.{◌≡◌, ℕ, zero, suc, Bool, true, false, List, [], ◌∷◌, Option, Some, None, refl, ap, subst, ◌∙◌, ◌⊎◌, inl, inr, arith}
use Rattle.std.specs.Prelude.{slice_get, take, unwrap_or}
use Rattle.std.specs.Option.{option_map, option_or}
use Rattle.std.proofs.lemmas.Grind.{common_steps}
use Rattle.pg_digest.specs.Kinds.{Hash}
use Rattle.cs_policy.specs.declared.access.Access.{Access}
use Rattle.cs_policy.specs.declared.flags.ProcFlags.{ProcFlags}
use Rattle.cs_policy.specs.declared.region.Region.{Region}
use Rattle.cs_policy.specs.declared.denial.Denial.{Denial}
use Rattle.cs_policy.specs.declared.file.FileEvent.TheVariants as file
use Rattle.cs_policy.specs.declared.file.FileReply.{FileReply}
use Rattle.cs_policy.specs.declared.file.FileReply.TheVariants as file_reply
use Rattle.cs_policy.specs.declared.entry.Event.TheVariants as event
use Rattle.cs_policy.specs.declared.entry.Reply.{Reply}
use Rattle.cs_policy.specs.declared.entry.Reply.TheVariants as reply
use Rattle.cs_policy.specs.declared.entry.Place.TheVariants as place
use Rattle.cs_policy.specs.ProcFlags.{guarded}
use Rattle.pg_plain.specs.PlainFile.{PlainFile, region_with}
use Rattle.pg_plain.specs.Verdict.{verdict_without_bytes, rule_of_bytes, verdict}
use Rattle.pg_plain.specs.Steps.{Answer, denied_or, failed_or, left_for, read_fails, write_fails, give, enter_region}
use Rattle.pg_history.specs.Machine.{Line, FilePart, Machine, outcome_of, part_step, with_file, step, reply_to, after, replay, Answered}
use Rattle.pg_history.specs.Opening.{Opening}
use Rattle.pg_history.specs.Denials.{IsVerdictIn, DenialsAreVerdicts}

-- ---- one fault

-- the region stands, the access is guarded, and this is the verdict
record IsDenied (hash : Hash) (plain : PlainFile) (found : Option Region) (page : ℕ) (access : Access) (under : Bool) (denial : Denial) : Type 0 where
  region : Region
  stands : found ≡ Some region
  is_guarded : under ≡ true
  first : verdict hash plain region page access ≡ Some denial

denial_inside : (a b : Denial) → file_reply.Denied a ≡ file_reply.Denied b → a ≡ b
denial_inside a b e = grind (arith, common_steps, e)

not_failed : (fails : Bool) (page : ℕ) (plain : PlainFile) (other : Answer) (d : Denial) → (failed_or fails page plain other).0 ≡ file_reply.Denied d → other.0 ≡ file_reply.Denied d
not_failed true page plain other d e = absurd (grind (arith, common_steps, e))
not_failed false page plain other d e = e

-- a rule denies, or what follows does
by_rule : (rule : Option Denial) (plain : PlainFile) (other : Answer) (d : Denial) → (denied_or rule plain other).0 ≡ file_reply.Denied d
    → (rule ≡ Some d) ⊎ ((rule ≡ None) × (other.0 ≡ file_reply.Denied d))
by_rule None plain other d e = inr (refl, e)
by_rule (Some denial) plain other d e = inl (ap (λ x. Some x) (denial_inside denial d e))

denied : (hash : Hash) (plain : PlainFile) (found : Option Region) (id page : ℕ) (access : Access) (under : Bool) (outcome : ℕ) (d : Denial)
    → (enter_region hash found plain id page access under outcome).0 ≡ file_reply.Denied d → IsDenied hash plain found page access under d
denied hash plain None id page access under outcome d e = absurd (grind (arith, common_steps, e))
denied hash plain (Some region) id page access false outcome d e =
    absurd (given_not (not_failed (write_fails plain region page outcome) (unwrap_or (left_for plain page) page) plain (give plain region page access false (verdict hash plain region page access)) d
    (not_failed (read_fails plain region page outcome) page plain
    (failed_or (write_fails plain region page outcome) (unwrap_or (left_for plain page) page) plain (give plain region page access false (verdict hash plain region page access))) d e)))
  where
    given_not : (give plain region page access false (verdict hash plain region page access)).0 ≡ file_reply.Denied d → ⊥
    given_not f = absurd (grind (arith, common_steps, f))
denied hash plain (Some region) id page access true outcome d e =
    elim (by_rule (verdict_without_bytes plain region page access) plain
    (failed_or (read_fails plain region page outcome) page plain (denied_or (rule_of_bytes hash plain page access) plain last)) d e) [
      | inl unread ↦ record { region = region; stands = refl; is_guarded = refl; first = ap (λ rule. option_or rule (rule_of_bytes hash plain page access)) unread }
      | inr rest ↦ elim (by_rule (rule_of_bytes hash plain page access) plain last d
          (not_failed (read_fails plain region page outcome) page plain (denied_or (rule_of_bytes hash plain page access) plain last) d rest.1)) [
            | inl read ↦ record { region = region; stands = refl; is_guarded = refl; first = ap (λ rule. option_or rule (rule_of_bytes hash plain page access)) rest.0 ∙ read }
            | inr none ↦ absurd (given_not (not_failed (write_fails plain region page outcome) (unwrap_or (left_for plain page) page) plain (give plain region page access true None) d none.1))
          ]
    ]
  where
    last : Answer
    last = failed_or (write_fails plain region page outcome) (unwrap_or (left_for plain page) page) plain (give plain region page access true None)

    given_not : (give plain region page access true None).0 ≡ file_reply.Denied d → ⊥
    given_not f = absurd (grind (arith, common_steps, f))

-- ---- a history

-- each line is answered by the machine as the lines before it leave it
pub answered_at : (hash : Hash) (m : Machine) (history : List Line) → Answered hash m history → (k : ℕ) (e : Line) → slice_get history k ≡ Some e
    → reply_to hash (replay hash m (take k history)) e ≡ Some e.entry.reply
answered_at hash m [] answered k e there = absurd (grind (arith, common_steps, there))
answered_at hash m (x ∷ xs) answered zero e there = subst (λ y. reply_to hash m y ≡ Some y.entry.reply) (first there) answered.0
  where
    first : slice_get (x ∷ xs) 0 ≡ Some e → x ≡ e
    first f = grind (arith, common_steps, f)
answered_at hash m (x ∷ xs) answered (suc k) e there = answered_at hash (after hash m x) xs answered.1 k e (grind (arith, common_steps, there))

abbrev answer_of : Option (Reply × Machine) → Option Reply
answer_of found = option_map (λ a. a.0) found

file_reply_inside : (a b : FileReply) → Some (reply.File a) ≡ Some (reply.File b) → a ≡ b
file_reply_inside a b e = grind (arith, common_steps, e)

module _ (hash : Hash) (m : Machine) (stamp number id page : ℕ) (access : Access) (flags : ProcFlags) (resolve : ℕ) (d : Denial) where
  by_part : (found : Option FilePart) → slice_get m.files number ≡ found
      → answer_of (option_map (λ part. with_file m number (part_step hash stamp part (file.Enter id page access flags resolve))) found) ≡ Some (reply.File (file_reply.Denied d))
      → IsVerdictIn hash m number id page access flags d
  by_part None e is = absurd (grind (arith, common_steps, is))
  by_part (Some part) e is =
      let x = denied hash part.file (region_with part.file id page) id page access (guarded flags) (outcome_of hash part (file.Enter id page access flags resolve)) d
      (file_reply_inside (part_step hash stamp part (file.Enter id page access flags resolve)).0 (file_reply.Denied d) is) in
      record { part = part; region = x.region; here = e; stands = x.stands; is_guarded = x.is_guarded; first = x.first }

pub denials_are_verdicts : (hash : Hash) (o : Opening) (history : List Line) → Answered hash o.machine history → DenialsAreVerdicts hash o history
denials_are_verdicts hash o history answered k e number id page access flags resolve d there at is gives =
    by_part hash (replay hash o.machine (take k history)) e.stamp number id page access flags resolve d
    (slice_get (replay hash o.machine (take k history)).files number) refl
    (subst (λ r. answer_of (step hash (replay hash o.machine (take k history)) e.stamp (place.File number) (event.File (file.Enter id page access flags resolve))) ≡ Some r) gives
    (subst (λ v. answer_of (step hash (replay hash o.machine (take k history)) e.stamp (place.File number) v) ≡ Some e.entry.reply) is
    (subst (λ p. answer_of (step hash (replay hash o.machine (take k history)) e.stamp p e.entry.event) ≡ Some e.entry.reply) at
    (answered_at hash o.machine history answered k e there))))
