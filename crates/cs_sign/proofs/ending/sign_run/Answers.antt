use Rattle.std.proofs.Common.{◌≡◌, List, ℕ, Option, Some, None, ap, refl, arith}
use Rattle.std.specs.Prelude.{option_map}
use Rattle.std.specs.Borrow.{Bor}
use Rattle.std.specs.Global.{Vec}
use Rattle.std.proofs.lemmas.Result.{err_from_is_err_and}
use Rattle.pg_digest.specs.Digests.{sha_hash}
use Rattle.pg_io.specs.Files.{next_read, after_read}
use Rattle.cs_sign.specs.Ending.{given_told}
use Rattle.cs_sign.specs.WordsView.{words_in}
use Rattle.cs_sign.proofs.ReadingFacts.{reads-behind}
use Rattle.cs_sign.proofs.EndingFacts.{sign-unread, sign-plain, sign-unread-given, sign-entitled, some-unread, some-plain, some-unread-given, some-entitled, caused-later}
use Rattle.cs_sign.proofs.ReadingFacts.{caused-as}
use Rattle.cs_sign.proofs.ending.sign_run.Goals as goal

pub returns-in_err-bytes-clause-told : goal.returns-in_err-bytes-clause-told
returns-in_err-bytes-clause-told g c = λ told tells.
    let exit = err_from_is_err_and c.from_residual.result c.from_residual.ensures.1 in
    rw (exit.1, exit.2) (sign-unread sha_hash (words_in c.args.words.now) (next_read told c.args.words.now.path.now) (given_told told (words_in c.args.words.now)) c.in_err-bytes.field-0.0 (c.in_err-bytes.ensures.told told tells))

pub returns-in_err-bytes-clause-reads : goal.returns-in_err-bytes-clause-reads
returns-in_err-bytes-clause-reads g c = λ told tells. reads-behind told 2 0 1 _ (omega arith) (c.read_item.ensures.reads told tells)

pub returns-in_err-bytes-clause-cause : goal.returns-in_err-bytes-clause-cause
returns-in_err-bytes-clause-cause g c =
    let exit = err_from_is_err_and c.from_residual.result c.from_residual.ensures.1 in
    rw (exit.1, exit.2) c.in_err-bytes.ensures.cause

pub returns-in_err-given-clause-told : goal.returns-in_err-given-clause-told
returns-in_err-given-clause-told g c = λ told tells.
    let exit = err_from_is_err_and c.from_residual-in_err-given.result c.from_residual-in_err-given.ensures.1 in
    let named : given_told told (words_in c.args.words.now) ≡ Some (next_read (after_read told) c.in-Some.path.now) = ap (λ (path : Option (Bor (List ℕ))). option_map (next_read (after_read told)) (option_map (λ (e : Bor (List ℕ)). e.now) path)) c.in-Some.is in
    rw (exit.1, exit.2) (sign-unread-given sha_hash (words_in c.args.words.now) (next_read told c.args.words.now.path.now) (given_told told (words_in c.args.words.now)) _ (next_read (after_read told) c.in-Some.path.now) c.in_err-given.field-0.0 (c.in_ok-bytes.ensures.told told tells) named (c.in_err-given.ensures.told (after_read told) (c.in_ok-bytes.ensures.read told tells)))

pub returns-in_err-given-clause-reads : goal.returns-in_err-given-clause-reads
returns-in_err-given-clause-reads g c = λ told tells.
    reads-behind told 2 1 1 _ (omega arith) (c.read_item-2.ensures.reads (after_read told) (c.in_ok-bytes.ensures.read told tells))

pub returns-in_err-given-clause-cause : goal.returns-in_err-given-clause-cause
returns-in_err-given-clause-cause g c =
    let exit = err_from_is_err_and c.from_residual-in_err-given.result c.from_residual-in_err-given.ensures.1 in
    rw (exit.1, exit.2) (caused-as (Vec ℕ) (Vec ℕ) c.in_err-given.field-0.0 _ _ _ c.in_ok-bytes.ensures.cause c.in_err-given.ensures.cause)

pub returns-in_default-clause-told : goal.returns-in_default-clause-told
returns-in_default-clause-told g c = λ told tells.
    let named : given_told told (words_in c.args.words.now) ≡ None = ap (λ (path : Option (Bor (List ℕ))). option_map (next_read (after_read told)) (option_map (λ (e : Bor (List ℕ)). e.now) path)) c.in_default.is in
    sign-plain sha_hash (words_in c.args.words.now) (next_read told c.args.words.now.path.now) (given_told told (words_in c.args.words.now)) _ _ c.signed.result (c.in_ok-bytes.ensures.told told tells) c.deref.ensures.value named c.signed.ensures.told

pub returns-in_default-clause-reads : goal.returns-in_default-clause-reads
returns-in_default-clause-reads g c = λ told tells. reads-behind told 2 0 1 _ (omega arith) (c.read_item.ensures.reads told tells)

pub returns-in_default-clause-cause : goal.returns-in_default-clause-cause
returns-in_default-clause-cause g c = caused-later c.signed.result _ _ _ refl c.in_ok-bytes.ensures.cause c.signed.ensures.cause

pub returns-clause-told : goal.returns-clause-told
returns-clause-told g c = λ told tells.
    let named : given_told told (words_in c.args.words.now) ≡ Some (next_read (after_read told) c.in-Some.path.now) = ap (λ (path : Option (Bor (List ℕ))). option_map (next_read (after_read told)) (option_map (λ (e : Bor (List ℕ)). e.now) path)) c.in-Some.is in
    sign-entitled sha_hash (words_in c.args.words.now) (next_read told c.args.words.now.path.now) (given_told told (words_in c.args.words.now)) _ _ _ _ (next_read (after_read told) c.in-Some.path.now) c.signed-2.result (c.in_ok-bytes.ensures.told told tells) c.deref-2.ensures.value named
    (c.in_ok-given.ensures.told (after_read told) (c.in_ok-bytes.ensures.read told tells)) c.deref-3.ensures.value c.signed-2.ensures.told

pub returns-clause-reads : goal.returns-clause-reads
returns-clause-reads g c = λ told tells.
    reads-behind told 2 1 1 _ (omega arith) (c.read_item-2.ensures.reads (after_read told) (c.in_ok-bytes.ensures.read told tells))

pub returns-clause-cause : goal.returns-clause-cause
returns-clause-cause g c = caused-later c.signed-2.result _ _ _ c.in_ok-bytes.ensures.cause c.in_ok-given.ensures.cause c.signed-2.ensures.cause

pub returns-in_err-bytes-clause-some : goal.returns-in_err-bytes-clause-some
returns-in_err-bytes-clause-some g c =
    let exit = err_from_is_err_and c.from_residual.result c.from_residual.ensures.1 in
    rw (exit.1, exit.2) (some-unread sha_hash (words_in c.args.words.now) c.in_err-bytes.field-0.0 c.in_err-bytes.ensures.some)

pub returns-in_err-given-clause-some : goal.returns-in_err-given-clause-some
returns-in_err-given-clause-some g c =
    let exit = err_from_is_err_and c.from_residual-in_err-given.result c.from_residual-in_err-given.ensures.1 in
    let named : (words_in c.args.words.now).entitlements ≡ Some c.in-Some.path.now = ap (option_map (λ (e : Bor (List ℕ)). e.now)) c.in-Some.is in
    rw (exit.1, exit.2) (some-unread-given sha_hash (words_in c.args.words.now) _ c.in-Some.path.now c.in_err-given.field-0.0 c.in_ok-bytes.ensures.some named c.in_err-given.ensures.some)

pub returns-in_default-clause-some : goal.returns-in_default-clause-some
returns-in_default-clause-some g c =
    let named : (words_in c.args.words.now).entitlements ≡ None = ap (option_map (λ (e : Bor (List ℕ)). e.now)) c.in_default.is in
    some-plain sha_hash (words_in c.args.words.now) _ _ c.signed.result c.in_ok-bytes.ensures.some c.deref.ensures.value named c.signed.ensures.told

pub returns-clause-some : goal.returns-clause-some
returns-clause-some g c =
    let named : (words_in c.args.words.now).entitlements ≡ Some c.in-Some.path.now = ap (option_map (λ (e : Bor (List ℕ)). e.now)) c.in-Some.is in
    some-entitled sha_hash (words_in c.args.words.now) _ _ _ _ c.in-Some.path.now c.signed-2.result c.in_ok-bytes.ensures.some c.deref-2.ensures.value named
    c.in_ok-given.ensures.some c.deref-3.ensures.value c.signed-2.ensures.told
