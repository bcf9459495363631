-- The words of a reply as it is printed say the reply.
use Rattle.std.proofs.Common.{◌≡◌, ℕ, ◌^◌, ◌<◌, true, false, List, ◌∷◌, Option, Some, refl, ap, sym, ◌∙◌, subst, arith}
use Rattle.std.specs.Fmt.{decimal}
use Rattle.std.proofs.lemmas.Bool.{eq-eqb}
use Rattle.std.specs.Option.{option_and_then}
use Rattle.cs_policy.specs.declared.denial.Denial.{Denial}
use Rattle.cs_policy.specs.declared.denial.Denial.TheVariants as denial
use Rattle.cs_policy.specs.declared.trust.TrustEvent.{TrustEvent}
use Rattle.cs_policy.specs.declared.trust.TrustEvent.TheVariants as trust
use Rattle.cs_policy.specs.declared.trust.TrustReply.{TrustReply}
use Rattle.cs_policy.specs.declared.trust.TrustReply.TheVariants as listed
use Rattle.pg_words.specs.Numbers.{number_word}
use Rattle.pg_words.specs.Lines.{is_word}
use Rattle.pg_words.proofs.PlainFacts.{decimal_is_word}
use Rattle.pg_report.specs.declared.words.DenialWord.{DenialWord}
use Rattle.pg_report.specs.declared.words.DenialWord.TheVariants as denial_key
use Rattle.pg_report.specs.declared.words.ReplyWord.{ReplyWord}
use Rattle.pg_report.specs.declared.words.ReplyWord.TheVariants as key
use Rattle.pg_report.specs.Words.{denial_word, denial_keyword, reply_word, reply_keyword}
use Rattle.pg_report.specs.Forms.{long, short, only, few_bytes, refusal_form}
use Rattle.pg_report.specs.Denials.{denial_words, denial_row, denial_of}
use Rattle.pg_report.specs.Replies.{trust_reply_words}
use Rattle.pg_report.specs.ReplyRows.{trust_reply_row}
use Rattle.pg_report.specs.Reading.{is_arrow}
use Rattle.pg_report.specs.Fits.{DenialFits, TrustReplyFits}
use Rattle.pg_report.proofs.FormAgain.{short_again}
use Rattle.pg_report.proofs.RowAgain.{Row, Col, col, row0_of, row1_of, row2_of, row4_of, long_col, short_col, few_col, refusal_col}

-- ---- denials

denial_key_again : (k : DenialWord) → (denial_word (denial_keyword k) ≡ Some k) × (is_word (denial_keyword k) ≡ true) × (is_arrow (denial_keyword k) ≡ false)
unfolding denial_word
denial_key_again denial_key.PrivateCopy = (refl, refl, refl)
denial_key_again denial_key.Unsigned = (refl, refl, refl)
denial_key_again denial_key.BeyondLimit = (refl, refl, refl)
denial_key_again denial_key.WritableShared = (refl, refl, refl)
denial_key_again denial_key.Mismatch = (refl, refl, refl)
denial_key_again denial_key.SealedWrite = (refl, refl, refl)

denial_keyed : (k : DenialWord) (words : List (List ℕ)) (d : Denial) → Row (denial_row k) words d → Row denial_of (denial_keyword k ∷ words) d
unfolding denial_of
denial_keyed k words d r =
    let key = denial_key_again k in
    record { says = ap (option_and_then (λ key. denial_row key words)) key.0 ∙ r.says; are = (key.1, r.are); plain = (key.2, r.plain) }

pub denial_again : (d : Denial) → DenialFits d → Row denial_of (denial_words d) d
denial_again (denial.PrivateCopy page) f = denial_keyed denial_key.PrivateCopy _ _ (row1_of long (λ p. denial.PrivateCopy p) (long_col page f))
denial_again (denial.Unsigned page) f = denial_keyed denial_key.Unsigned _ _ (row1_of long (λ p. denial.Unsigned p) (long_col page f))
denial_again (denial.BeyondLimit page) f = denial_keyed denial_key.BeyondLimit _ _ (row1_of long (λ p. denial.BeyondLimit p) (long_col page f))
denial_again (denial.WritableShared page region) f = denial_keyed denial_key.WritableShared _ _ (row2_of long short (λ p r. denial.WritableShared p r) (long_col page f.0) (short_col region f.1))
denial_again (denial.Mismatch page slot found wanted) f =
    denial_keyed denial_key.Mismatch _ _ (row4_of long long (few_bytes 48) (few_bytes 48) (λ p s x y. denial.Mismatch p s x y) (long_col page f.0) (long_col slot f.1) (few_col 48 found f.2) (few_col 48 wanted f.3))
denial_again (denial.SealedWrite page) f = denial_keyed denial_key.SealedWrite _ _ (row1_of long (λ p. denial.SealedWrite p) (long_col page f))

-- ---- the words with which replies begin

pub reply_key_again : (k : ReplyWord) → (reply_word (reply_keyword k) ≡ Some k) × (is_word (reply_keyword k) ≡ true) × (is_arrow (reply_keyword k) ≡ false)
unfolding reply_word
reply_key_again key.NoSlices = (refl, refl, refl)
reply_key_again key.NoSlice = (refl, refl, refl)
reply_key_again key.NoImage = (refl, refl, refl)
reply_key_again key.PagerFault = (refl, refl, refl)
reply_key_again key.Read = (refl, refl, refl)
reply_key_again key.Already = (refl, refl, refl)
reply_key_again key.Overlap = (refl, refl, refl)
reply_key_again key.Attached = (refl, refl, refl)
reply_key_again key.Noted = (refl, refl, refl)
reply_key_again key.PastEnd = (refl, refl, refl)
reply_key_again key.Short = (refl, refl, refl)
reply_key_again key.Written = (refl, refl, refl)
reply_key_again key.Added = (refl, refl, refl)
reply_key_again key.NoRegion = (refl, refl, refl)
reply_key_again key.Dropped = (refl, refl, refl)
reply_key_again key.Denied = (refl, refl, refl)
reply_key_again key.Given = (refl, refl, refl)
reply_key_again key.NotMapped = (refl, refl, refl)
reply_key_again key.Stored = (refl, refl, refl)
reply_key_again key.Bytes = (refl, refl, refl)
reply_key_again key.NotResident = (refl, refl, refl)
reply_key_again key.Evicted = (refl, refl, refl)
reply_key_again key.Dead = (refl, refl, refl)
reply_key_again key.Killed = (refl, refl, refl)
reply_key_again key.Started = (refl, refl, refl)
reply_key_again key.Began = (refl, refl, refl)
reply_key_again key.OutOfFile = (refl, refl, refl)
reply_key_again key.Full = (refl, refl, refl)
reply_key_again key.Inserted = (refl, refl, refl)
reply_key_again key.NoMap = (refl, refl, refl)
reply_key_again key.Prot = (refl, refl, refl)
reply_key_again key.Region = (refl, refl, refl)
reply_key_again key.Removed = (refl, refl, refl)
reply_key_again key.Debugged = (refl, refl, refl)
reply_key_again key.Kill = (refl, refl, refl)
reply_key_again key.Spare = (refl, refl, refl)
reply_key_again key.Cleared = (refl, refl, refl)
reply_key_again key.Exited = (refl, refl, refl)
reply_key_again key.Refused = (refl, refl, refl)
reply_key_again key.Loaded = (refl, refl, refl)
reply_key_again key.Listed = (refl, refl, refl)
reply_key_again key.Unlisted = (refl, refl, refl)

-- ---- the trust list

pub only_col : (limit n : ℕ) → limit < 2 ^ 32 → n ≡ limit → Col (only limit) (decimal n) n
unfolding number_word
only_col limit n lt is =
    subst (λ (m : ℕ). Col (only limit) (decimal m) m) (sym is)
    (col (only limit) (decimal limit) limit refl (rw (short_again limit lt, eq-eqb limit limit refl) refl) (decimal_is_word limit (omega arith)))

-- the row of the keyword, and the words
pub record Answered {X : Type 0} (row : ReplyWord → List (List ℕ) → Option X) (all : List (List ℕ)) (x : X) : Type 0 where
  pub key : ReplyWord
  pub rest : List (List ℕ)
  pub is : all ≡ reply_keyword key ∷ rest
  pub reads : Row (row key) rest x

pub trust_again : (e : TrustEvent) (r : TrustReply) → TrustReplyFits e r → Answered (trust_reply_row e) (trust_reply_words r) r
trust_again (trust.LoadModule cache) (listed.Refused r) f = record { key = key.Refused; rest = _; is = refl; reads = row1_of refusal_form (λ x. listed.Refused x) (refusal_col r f) }
trust_again (trust.LoadModule cache) (listed.Full limit) f = record { key = key.Full; rest = _; is = refl; reads = row1_of (only 64) (λ n. listed.Full n) (only_col 64 limit (omega arith) f) }
trust_again (trust.LoadModule cache) (listed.Loaded m) f = record { key = key.Loaded; rest = _; is = refl; reads = row1_of short (λ n. listed.Loaded n) (short_col m f) }
trust_again (trust.LoadModule cache) (listed.Listed m place) f = elim f [ ]
trust_again (trust.LoadModule cache) listed.Unlisted f = elim f [ ]
trust_again (trust.Lookup cdhash) (listed.Listed m place) f = record { key = key.Listed; rest = _; is = refl; reads = row2_of short long (λ n p. listed.Listed n p) (short_col m f.0) (long_col place f.1) }
trust_again (trust.Lookup cdhash) listed.Unlisted f = record { key = key.Unlisted; rest = _; is = refl; reads = row0_of listed.Unlisted }
trust_again (trust.Lookup cdhash) (listed.Refused r) f = elim f [ ]
trust_again (trust.Lookup cdhash) (listed.Full limit) f = elim f [ ]
trust_again (trust.Lookup cdhash) (listed.Loaded m) f = elim f [ ]
