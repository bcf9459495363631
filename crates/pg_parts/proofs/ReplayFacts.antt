-- Parts go on by one entry more.
use Rattle.std.proofs.Common.{◌≡◌, ◌+◌, ◌≤◌, List, [], ◌∷◌, ◌++◌, length, Option, Some, None, refl, sym, ap, subst, ◌∙◌, arith}
use Rattle.std.specs.Prelude.{IfSome, unwrap_or}
use Rattle.std.specs.Option.{option_map}
use Rattle.pg_digest.specs.Kinds.{Hash}
use Rattle.pg_book.specs.declared.needs.Needs.{Needs}
use Rattle.cs_policy.specs.declared.file.FileEvent.{FileEvent}
use Rattle.cs_policy.specs.declared.file.FileReply.{FileReply}
use Rattle.cs_policy.specs.declared.process.ProcEvent.{ProcEvent}
use Rattle.cs_policy.specs.declared.process.ProcReply.{ProcReply}
use Rattle.cs_policy.specs.declared.trust.TrustEvent.{TrustEvent}
use Rattle.cs_policy.specs.declared.trust.TrustReply.{TrustReply}
use Rattle.cs_policy.specs.declared.entry.Event.TheVariants as event
use Rattle.cs_policy.specs.declared.entry.Reply.{Reply}
use Rattle.cs_policy.specs.declared.entry.Reply.TheVariants as reply
use Rattle.cs_blob.specs.Signature.{Signature}
use Rattle.pg_object.specs.Object.{ObjectNow}
use Rattle.pg_object.specs.Acts.{Acts}
use Rattle.pg_object.specs.Kept.{IsKept}
use Rattle.pg_process.specs.ProcessStep.{PlainProcess, process_step}
use Rattle.pg_trusted.specs.TrustStep.{TrustList, trust_step}
use Rattle.pg_history.specs.Machine.{Line, FilePart, blob_of, part_step}
use Rattle.pg_history.specs.Opening.{Numbers}
use Rattle.pg_history.specs.ByParts.{file_answer, process_answer, trust_answer, FileAnswers, ProcessAnswers, TrustAnswers}
use Rattle.pg_calls.specs.Room.{plus, event_uses, file_uses}
use Rattle.pg_calls.specs.Asking.{IsProperOf}
use Rattle.pg_calls.proofs.RoomFacts.{needs-same}
use Rattle.pg_parts.proofs.RoomSums.{NeedsAre}
use Rattle.pg_parts.specs.Opened.{told_part}
use Rattle.pg_parts.specs.Rooms.{uses_in}
use Rattle.pg_parts.specs.Laws.{StepsTold}
use Rattle.pg_parts.specs.Replays.{file_after, process_after, trust_after, LeavesSpare, TellsOn, FileWent, ProcessWent, TrustWent}
use Rattle.pg_parts.proofs.ActFacts.{steps-told, sizes-through, layout-stays, leaves-spare}
use Rattle.pg_parts.proofs.ProcessFacts.{process-files, process-made, trust-caches}

-- what one entry more uses
pub uses-snoc : (es : List Line) (e : Line) → NeedsAre (uses_in (es ++ e ∷ [])) (plus (uses_in es) (event_uses e.entry.event))
uses-snoc [] e = needs-same _ _ (omega arith) (omega arith) (omega arith) (omega arith) (omega arith) (omega arith)
uses-snoc (x ∷ xs) e =
    let rest = uses-snoc xs e in
    ap (λ n. plus (event_uses x.entry.event) n) rest
    ∙ needs-same _ _ (omega arith) (omega arith) (omega arith) (omega arith) (omega arith) (omega arith)

-- ---- a file

module _ (hash : Hash) where
  abbrev next_part : FilePart → Line → FilePart
  next_part part e = unwrap_or (option_map (λ a. a.1) (file_answer hash part e.stamp e.entry.event)) part

  pub file_after-snoc : (part : FilePart) (es : List Line) (e : Line) → file_after hash part (es ++ e ∷ []) ≡ next_part (file_after hash part es) e
  file_after-snoc part [] e = refl
  file_after-snoc part (x ∷ xs) e = file_after-snoc (next_part part x) xs e

  abbrev Replies : FilePart → Line → Type 0
  Replies part e = option_map (λ a. reply.File a.0) (file_answer hash part e.stamp e.entry.event) ≡ Some e.entry.reply

  file_answers-snoc : (part : FilePart) (es : List Line) (e : Line) → FileAnswers hash part es → Replies (file_after hash part es) e → FileAnswers hash part (es ++ e ∷ [])
  file_answers-snoc part [] e all one = (one, tt)
  file_answers-snoc part (x ∷ xs) e all one = (all.0, file_answers-snoc (next_part part x) xs e all.1 one)

  -- an entry of the file with its event and reply
  pub record IsFileLine (e : Line) (asked : FileEvent) (answer : FileReply) : Type 0 where
    pub event : e.entry.event ≡ event.File asked
    pub reply : e.entry.reply ≡ reply.File answer

  tells_on : (part : FilePart) (es : List Line) (e : Line) (asked : FileEvent) (answer : FileReply) (old new : ObjectNow) → TellsOn hash part es old → IsFileLine e asked answer
      → StepsTold hash e.stamp (file_after hash part es) asked answer new → TellsOn hash part (es ++ e ∷ []) new
  tells_on part es e asked answer old new tells line steps =
      let now = file_after hash part es in
      let given : file_answer hash now e.stamp e.entry.event ≡ Some (part_step hash e.stamp now asked) = ap (file_answer hash now e.stamp) line.event in
      let next : next_part now e ≡ (part_step hash e.stamp now asked).1 = ap (λ o. unwrap_or (option_map (λ (a : FileReply × FilePart). a.1) o) now) given in
      let after : file_after hash part (es ++ e ∷ []) ≡ (part_step hash e.stamp now asked).1 = file_after-snoc part es e ∙ next in
      record {
        answers = file_answers-snoc part es e tells.answers
            (ap (option_map (λ (a : FileReply × FilePart). reply.File a.0)) given ∙ ap (λ (r : FileReply). Some (reply.File r)) (sym steps.answers) ∙ ap (λ (r : Reply). Some r) (sym line.reply));
        is = subst (λ p. told_part new p.readings ≡ Some p) (sym after) steps.is;
      }

  -- A file goes on by an entry of its own. Where it told its content, an event that attaches a signature attaches that of
  -- the bytes that were read.
  pub file-goes : (old now new : ObjectNow) (es : List Line) (e : Line) (asked : FileEvent) (blob : Option Signature) (answer : FileReply) → FileWent hash old es now
      → Acts hash now asked blob answer new → IsKept hash new → IsFileLine e asked answer
      → ((part : FilePart) → told_part old [] ≡ Some part → FileAnswers hash part es → told_part now (file_after hash part es).readings ≡ Some (file_after hash part es)
      → blob ≡ blob_of hash (file_after hash part es) asked)
      → FileWent hash old (es ++ e ∷ []) new
  file-goes old now new es e asked blob answer went acts kept line attaches =
      let left = leaves-spare hash now new asked blob answer acts in
      let uses : uses_in (es ++ e ∷ []) ≡ plus (uses_in es) (file_uses asked) = uses-snoc es e ∙ ap (λ v. plus (uses_in es) (event_uses v)) line.event in
      record {
        kept = kept;
        sizes = sizes-through old.pages.cache now.pages.cache new.pages.cache went.sizes acts.sizes;
        layout = layout-stays hash now new asked blob answer acts ∙ went.layout;
        spare = subst (λ n. LeavesSpare n old new) (sym uses) (record {
          regions = omega (arith, left.regions, went.spare.regions);
          records = omega (arith, left.records, went.spare.records);
          copies = omega (arith, left.copies, went.spare.copies);
          blobs = omega (arith, left.blobs, went.spare.blobs);
        });
        told = by_told (told_part old []) refl went.told;
      }
    where
      by_told : (o : Option FilePart) → told_part old [] ≡ o → IfSome o (λ part. TellsOn hash part es now) → IfSome o (λ part. TellsOn hash part (es ++ e ∷ []) new)
      by_told None is tells = tt
      by_told (Some part) is tells =
          let after = file_after hash part es in
          let steps = subst (λ o. IfSome o (λ p. blob ≡ blob_of hash p asked → StepsTold hash e.stamp p asked answer new)) tells.is
          (steps-told hash now new asked blob answer acts e.stamp after.readings) in
          tells_on part es e asked answer now new tells line (steps (attaches part is tells.answers tells.is))

-- ---- a process

abbrev next_process : PlainProcess → Line → PlainProcess
next_process p e = unwrap_or (option_map (λ a. a.1) (process_answer p e.entry.event)) p

process_after-snoc : (p : PlainProcess) (es : List Line) (e : Line) → process_after p (es ++ e ∷ []) ≡ next_process (process_after p es) e
process_after-snoc p [] e = refl
process_after-snoc p (x ∷ xs) e = process_after-snoc (next_process p x) xs e

process_answers-snoc : (p : PlainProcess) (es : List Line) (e : Line) → ProcessAnswers p es
    → option_map (λ a. reply.Proc a.0) (process_answer (process_after p es) e.entry.event) ≡ Some e.entry.reply → ProcessAnswers p (es ++ e ∷ [])
process_answers-snoc p [] e all one = (one, tt)
process_answers-snoc p (x ∷ xs) e all one = (all.0, process_answers-snoc (next_process p x) xs e all.1 one)

pub process-goes : (numbers : Numbers) (old now : PlainProcess) (es : List Line) (e : Line) (asked : ProcEvent) → ProcessWent (length numbers.files) old es now → IsProperOf numbers asked
    → e.entry.event ≡ event.Proc asked → e.entry.reply ≡ reply.Proc (process_step now asked).0 → ProcessWent (length numbers.files) old (es ++ e ∷ []) (process_step now asked).1
process-goes numbers old now es e asked went proper is replied =
    let given : process_answer (process_after old es) e.entry.event ≡ Some (process_step now asked) = ap (process_answer (process_after old es)) is ∙ ap (λ p. Some (process_step p asked)) went.is in
    let uses : uses_in (es ++ e ∷ []) ≡ plus (uses_in es) (event_uses (event.Proc asked)) = uses-snoc es e ∙ ap (λ v. plus (uses_in es) (event_uses v)) is in
    let more = process-made numbers now asked went.declared proper in
    record {
      answers = process_answers-snoc old es e went.answers (ap (option_map (λ (a : ProcReply × PlainProcess). reply.Proc a.0)) given ∙ ap (λ (r : Reply). Some r) (sym replied));
      is = process_after-snoc old es e ∙ ap (λ o. unwrap_or (option_map (λ (a : ProcReply × PlainProcess). a.1) o) (process_after old es)) given;
      made = subst (λ (n : Needs). (process_step now asked).1.made ≤ old.made + n.numbers) (sym uses) (omega (arith, more, went.made));
      declared = process-files numbers now asked went.declared proper;
    }

-- ---- the trust list

abbrev next_list : TrustList → Line → TrustList
next_list list e = unwrap_or (option_map (λ a. a.1) (trust_answer list e.entry.event)) list

trust_after-snoc : (list : TrustList) (es : List Line) (e : Line) → trust_after list (es ++ e ∷ []) ≡ next_list (trust_after list es) e
trust_after-snoc list [] e = refl
trust_after-snoc list (x ∷ xs) e = trust_after-snoc (next_list list x) xs e

trust_answers-snoc : (list : TrustList) (es : List Line) (e : Line) → TrustAnswers list es
    → option_map (λ a. reply.Trust a.0) (trust_answer (trust_after list es) e.entry.event) ≡ Some e.entry.reply → TrustAnswers list (es ++ e ∷ [])
trust_answers-snoc list [] e all one = (one, tt)
trust_answers-snoc list (x ∷ xs) e all one = (all.0, trust_answers-snoc (next_list list x) xs e all.1 one)

pub trust-goes : (old now : TrustList) (es : List Line) (e : Line) (asked : TrustEvent) → TrustWent old es now
    → e.entry.event ≡ event.Trust asked → e.entry.reply ≡ reply.Trust (trust_step now asked).0 → TrustWent old (es ++ e ∷ []) (trust_step now asked).1
trust-goes old now es e asked went is replied =
    let given : trust_answer (trust_after old es) e.entry.event ≡ Some (trust_step now asked) = ap (trust_answer (trust_after old es)) is ∙ ap (λ l. Some (trust_step l asked)) went.is in
    record {
      answers = trust_answers-snoc old es e went.answers (ap (option_map (λ (a : TrustReply × TrustList). reply.Trust a.0)) given ∙ ap (λ (r : Reply). Some r) (sym replied));
      is = trust_after-snoc old es e ∙ ap (λ o. unwrap_or (option_map (λ (a : TrustReply × TrustList). a.1) o) (trust_after old es)) given;
      caches = trust-caches now asked ∙ went.caches;
    }
