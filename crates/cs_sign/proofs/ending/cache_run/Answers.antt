use Rattle.std.proofs.Common.{List, ℕ, string_bytes, map, length, refl}
use Rattle.std.specs.Global.{Vec}
use Rattle.std.proofs.lemmas.Result.{err_from_is_err_and}
use Rattle.pg_digest.specs.Digests.{sha_hash}
use Rattle.cs_sign.proofs.ReadingFacts.{caused-as}
use Rattle.cs_sign.proofs.EndingFacts.{cache-stops, cache-goes, some-cache-stops, some-cache-goes, caused-later}
use Rattle.cs_sign.specs.Reading.{finds}
use Rattle.cs_sign.proofs.ending.cache_run.Goals as goal

pub returns-in_err-found-clause-told : goal.returns-in_err-found-clause-told
returns-in_err-found-clause-told g c = λ told tells.
    let exit = err_from_is_err_and c.from_residual.result c.from_residual.ensures.1 in
    rw (exit.1, exit.2) (cache-stops sha_hash (finds told (map string_bytes c.args.paths.now)) c.in_err-found.field-0.0 (c.in_err-found.ensures.told told tells))

pub returns-in_err-found-clause-cause : goal.returns-in_err-found-clause-cause
returns-in_err-found-clause-cause g c =
    let exit = err_from_is_err_and c.from_residual.result c.from_residual.ensures.1 in
    rw (exit.1, exit.2) (caused-as (Vec (List ℕ)) (Vec ℕ) c.in_err-found.field-0.0 _ _ _ refl c.in_err-found.ensures.cause)

pub returns-clause-told : goal.returns-clause-told
returns-clause-told g c = λ told tells.
    cache-goes sha_hash (finds told (map string_bytes c.args.paths.now)) _ _ c.listed.result (c.in_ok-found.ensures.told told tells) c.deref.ensures.value c.listed.ensures.told

pub returns-clause-cause : goal.returns-clause-cause
returns-clause-cause g c = caused-later c.listed.result _ _ _ refl c.in_ok-found.ensures.cause c.listed.ensures.cause

pub returns-in_err-found-clause-some : goal.returns-in_err-found-clause-some
returns-in_err-found-clause-some g c =
    let exit = err_from_is_err_and c.from_residual.result c.from_residual.ensures.1 in
    rw (exit.1, exit.2) (some-cache-stops sha_hash (length c.args.paths.now) c.in_err-found.field-0.0 c.in_err-found.ensures.some)

pub returns-clause-some : goal.returns-clause-some
returns-clause-some g c =
    some-cache-goes sha_hash (length c.args.paths.now) _ _ c.listed.result c.in_ok-found.ensures.some c.deref.ensures.value c.listed.ensures.told
