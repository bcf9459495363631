-- How a run goes from step to step, and how it ends.
use Rattle.std.proofs.Common.{◌≡◌, ℕ, Bool, true, false, List, [], Option, Some, None, is_some, option_map, Result, Ok, Err, refl, sym, ap, subst, ◌∙◌}
use Rattle.std.specs.Global.{Vec}
use Rattle.std.specs.Io.KnownBytes.{append_known}
use Rattle.pg_bytes.specs.declared.status.Status.{Status}
use Rattle.pg_bytes.specs.declared.status.Status.TheVariants as status
use Rattle.pg_digest.specs.Kinds.{Hash}
use Rattle.cs_sign.specs.declared.early.Early.{Early}
use Rattle.cs_sign.specs.declared.early.Early.TheVariants.{Usage, Unread, TooLarge, Refused, NotSealed}
use Rattle.cs_sign.specs.declared.early.Stop.{Stop}
use Rattle.cs_sign.specs.declared.early.Stop.TheVariants as stop
use Rattle.cs_sign.specs.declared.refusal.SignRefusal.{SignRefusal}
use Rattle.cs_sign.specs.Early.{is_unread}
use Rattle.cs_sign.specs.Reading.{Found, read_of, cached, Answers, GoesAs, ReadsSome, CachedSome, IsCaused, items_of}
use Rattle.cs_sign.specs.Requests.{page_of}
use Rattle.cs_sign.specs.Rules.{broken}
use Rattle.cs_sign.specs.Signed.{IsSigned}
use Rattle.cs_sign.specs.Words.{Text, SignWords}
use Rattle.cs_sign.specs.Ending.{Ending, signed_with, entitled, sign_run, cache_run, cache_of, early_end, Ends, SignsSome, CachesSome, IsMadeCaused, IsEndCaused}
use Rattle.cs_sign.proofs.ReadingFacts.{goes-as}

-- ---- a file that is signed

pub signed-made : (hash : Hash) (bytes : List ℕ) (words : SignWords) (given : Option (List ℕ)) (ident made : List ℕ) → ident ≡ words.ident → IsSigned hash bytes (record { ident = ident; entitlements = given; page = page_of words.page }) made → signed_with hash bytes words given ≡ Ok made
unfolding signed_with
signed-made hash bytes words given ident made same is =
    let P : List ℕ → Type 0 = λ i. IsSigned hash bytes (record { ident = i; entitlements = given; page = page_of words.page }) made in
    let known = subst P same is in
    rw (known.unbroken, known.value) refl

pub signed-refused : (hash : Hash) (bytes : List ℕ) (words : SignWords) (given : Option (List ℕ)) (ident : List ℕ) (refusal : SignRefusal) → ident ≡ words.ident → broken bytes (record { ident = ident; entitlements = given; page = page_of words.page }) ≡ Some refusal → signed_with hash bytes words given ≡ Err (Refused refusal)
unfolding signed_with
signed-refused hash bytes words given ident refusal same is =
    let P : List ℕ → Type 0 = λ i. broken bytes (record { ident = i; entitlements = given; page = page_of words.page }) ≡ Some refusal in
    rw (subst P same is) refl

-- ---- causes

-- of a result that never comes by a read
pub caused-later : {T : Type 0} (result : Result T Stop) (start before now : ℕ) → before ≡ start → now ≡ before → ((count : ℕ) → IsCaused result count count) → IsCaused result start now
caused-later result start before now first second cause =
    let P : ℕ → Type 0 = λ count. IsCaused result start count in
    subst P (sym (second ∙ first)) (cause start)

-- of a run over files, by words of a form
pub made-caused : {T : Type 0} (result : Result T Stop) (before now : ℕ) → IsCaused result before now → IsMadeCaused true result before now
made-caused (Ok made) before now cause = (refl, cause)
made-caused (Err (stop.Early Usage)) before now cause = absurd cause
made-caused (Err (stop.Early (Unread item))) before now cause = (refl, cause)
made-caused (Err (stop.Early TooLarge)) before now cause = (refl, cause)
made-caused (Err (stop.Early (Refused refusal))) before now cause = (refl, cause)
made-caused (Err (stop.Early (NotSealed item))) before now cause = (refl, cause)
made-caused (Err stop.NoMemory) before now cause = cause

-- of an ending
pub end-caused : (T : Type 0) (form : Bool) (early : Early) (before now : ℕ) (e : Ending) → e ≡ early_end early → IsMadeCaused {T = T} form (Err (stop.Early early)) before now → IsEndCaused form before now e.status e.text
end-caused T form Usage before now e is cause = rw is (cause.0, cause.1, refl)
end-caused T form (Unread item) before now e is cause = rw is (cause.0, cause.1, refl)
end-caused T form TooLarge before now e is cause = rw is (cause.0, cause.1, refl, refl, refl)
end-caused T form (Refused refusal) before now e is cause = rw is (cause.0, cause.1)
end-caused T form (NotSealed item) before now e is cause = rw is (cause.0, cause.1)

-- an early end that took memory comes by no read
pub quiet-caused : (T : Type 0) (form : Bool) (early : Early) (before now : ℕ) → is_unread early ≡ false → IsMadeCaused {T = T} form (Err (stop.Early early)) before now → now ≡ before
quiet-caused T form Usage before now is cause = cause.1
quiet-caused T form (Unread item) before now is cause = absurd cc
quiet-caused T form TooLarge before now is cause = cause.1
quiet-caused T form (Refused refusal) before now is cause = cause.1
quiet-caused T form (NotSealed item) before now is cause = cause.1

-- ---- what went out

ends_by : (form : Bool) (old new : ℕ) (s : Status) (text : List ℕ) (f : Ending) (before now : Option (List ℕ)) → IsEndCaused form old new s text → s ≡ f.status → now ≡ append_known before f.text → Ends f s before now
ends_by form old new status.Done text f before now cause is sent = (is, sent)
ends_by form old new status.NotSealed text f before now cause is sent = (is, sent)
ends_by form old new status.Usage text f before now cause is sent = (is, sent)
ends_by form old new (status.SceneBad line kind) text f before now cause is sent = absurd cause
ends_by form old new (status.FileFault item) text f before now cause is sent = (is, sent)
ends_by form old new status.SinkFault text f before now cause is sent = absurd cause
ends_by form old new (status.Limit which number) text f before now cause is sent = (is, sent)
ends_by form old new (status.TrustBad item number arg) text f before now cause is sent = absurd cause
ends_by form old new status.NoMemory text f before now cause is sent = absurd cause

-- a run that wrote its whole text ends as its ending says
pub whole_ends : (form : Bool) (old new : ℕ) (e f : Ending) (before now : Option (List ℕ)) → IsEndCaused form old new e.status e.text → e ≡ f → now ≡ append_known before e.text → Ends f e.status before now
whole_ends form old new e f before now cause same sent =
    ends_by form old new e.status e.text f before now cause (ap (λ (x : Ending). x.status) same)
    (sent ∙ ap (λ (x : Ending). append_known before x.text) same)

-- ---- the run of `sign`

module _ (hash : Hash) (words : SignWords) (found : Found) (given : Option Found) where
  pub sign-unread : (s : Stop) → Answers {T = Vec ℕ} items_of (read_of 0 found) (Err s) → Answers {T = Vec ℕ} items_of (sign_run hash words found given) (Err s)
  sign-unread (stop.Early early) is = rw is refl
  sign-unread stop.NoMemory is = tt

  pub sign-plain : (bytes held : List ℕ) (result : Result (Vec ℕ) Stop) → read_of 0 found ≡ Ok bytes → held ≡ bytes → given ≡ None → Answers items_of (signed_with hash held words None) result → Answers items_of (sign_run hash words found given) result
  sign-plain bytes held result read same none answers =
      let P : List ℕ → Type 0 = λ held. Answers items_of (signed_with hash held words None) result in
      let Q : Option Found → Type 0 = λ second. Answers items_of (entitled hash words bytes second) result in
      rw read (subst Q (sym none) (subst P same answers))

  pub sign-unread-given : (bytes : List ℕ) (second : Found) (s : Stop) → read_of 0 found ≡ Ok bytes → given ≡ Some second → Answers {T = Vec ℕ} items_of (read_of 1 second) (Err s) → Answers {T = Vec ℕ} items_of (sign_run hash words found given) (Err s)
  sign-unread-given bytes second (stop.Early early) read some is =
      let Q : Option Found → Type 0 = λ other. entitled hash words bytes other ≡ Err early in
      rw read (subst Q (sym some) (rw is refl))
  sign-unread-given bytes second stop.NoMemory read some is = tt

  pub sign-entitled : (bytes held others held_others : List ℕ) (second : Found) (result : Result (Vec ℕ) Stop) → read_of 0 found ≡ Ok bytes → held ≡ bytes → given ≡ Some second → read_of 1 second ≡ Ok others → held_others ≡ others → Answers items_of (signed_with hash held words (Some held_others)) result → Answers items_of (sign_run hash words found given) result
  sign-entitled bytes held others held_others second result read same some read_second same_second answers =
      let P : List ℕ → Type 0 = λ held. Answers items_of (signed_with hash held words (Some held_others)) result in
      let P2 : List ℕ → Type 0 = λ held. Answers items_of (signed_with hash bytes words (Some held)) result in
      let Q : Option Found → Type 0 = λ other. Answers items_of (entitled hash words bytes other) result in
      rw read (subst Q (sym some) (rw read_second (subst P2 same_second (subst P same answers))))

-- ---- the same over some bytes of the files

-- where the file could not be read or has too many bytes, nothing is found of the other
abbrev nothing : Text → Found
nothing path = None

unread-given : (named : Option Text) → is_some (option_map nothing named) ≡ is_some named
unread-given None = refl
unread-given (Some path) = refl

pub some-unread : (hash : Hash) (words : SignWords) (s : Stop) → GoesAs {T = Vec ℕ} (ReadsSome 0) items_of (Err s) → GoesAs {T = Vec ℕ} (SignsSome hash words) items_of (Err s)
some-unread hash words (stop.Early early) read = record {
  found = read.found;
  given = option_map nothing words.entitlements;
  named = unread-given words.entitlements;
  is = sym (sign-unread hash words read.found (option_map nothing words.entitlements) (stop.Early early) (sym read.is));
}
some-unread hash words stop.NoMemory read = tt

pub some-plain : (hash : Hash) (words : SignWords) (bytes held : List ℕ) (result : Result (Vec ℕ) Stop) → ReadsSome 0 (Ok bytes) → held ≡ bytes → words.entitlements ≡ None → Answers items_of (signed_with hash held words None) result → GoesAs (SignsSome hash words) items_of result
some-plain hash words bytes held result read same none answers =
    goes-as (SignsSome hash words) items_of (sign_run hash words read.found None) result
    (sign-plain hash words read.found None bytes held result (sym read.is) same refl answers)
    (record { found = read.found; given = None; named = sym (ap (λ (path : Option Text). is_some path) none); is = refl })

pub some-unread-given : (hash : Hash) (words : SignWords) (bytes : List ℕ) (path : Text) (s : Stop) → ReadsSome 0 (Ok bytes) → words.entitlements ≡ Some path → GoesAs {T = Vec ℕ} (ReadsSome 1) items_of (Err s) → GoesAs {T = Vec ℕ} (SignsSome hash words) items_of (Err s)
some-unread-given hash words bytes path (stop.Early early) read some second = record {
  found = read.found;
  given = Some second.found;
  named = sym (ap (λ (other : Option Text). is_some other) some);
  is = sym (sign-unread-given hash words read.found (Some second.found) bytes second.found (stop.Early early) (sym read.is) refl (sym second.is));
}
some-unread-given hash words bytes path stop.NoMemory read some second = tt

pub some-entitled : (hash : Hash) (words : SignWords) (bytes held others held_others : List ℕ) (path : Text) (result : Result (Vec ℕ) Stop) → ReadsSome 0 (Ok bytes) → held ≡ bytes → words.entitlements ≡ Some path → ReadsSome 1 (Ok others) → held_others ≡ others → Answers items_of (signed_with hash held words (Some held_others)) result → GoesAs (SignsSome hash words) items_of result
some-entitled hash words bytes held others held_others path result read same some second same_second answers =
    goes-as (SignsSome hash words) items_of (sign_run hash words read.found (Some second.found)) result
    (sign-entitled hash words read.found (Some second.found) bytes held others held_others second.found result (sym read.is) same refl (sym second.is) same_second answers)
    (record { found = read.found; given = Some second.found; named = sym (ap (λ (other : Option Text). is_some other) some); is = refl })

-- ---- the run of `cache`

pub cache-stops : (hash : Hash) (found : List Found) (s : Stop) → Answers {T = Vec (List ℕ)} items_of (cached hash 0 found []) (Err s) → Answers {T = Vec ℕ} items_of (cache_run hash found) (Err s)
cache-stops hash found (stop.Early early) is = rw is refl
cache-stops hash found stop.NoMemory is = tt

pub cache-goes : (hash : Hash) (found : List Found) (hashes given : List (List ℕ)) (result : Result (Vec ℕ) Stop) → cached hash 0 found [] ≡ Ok hashes → given ≡ hashes → Answers items_of (Ok (cache_of given)) result → Answers items_of (cache_run hash found) result
cache-goes hash found hashes given result is same answers =
    let P : List (List ℕ) → Type 0 = λ held. Answers items_of (Ok (cache_of held)) result in
    rw is (subst P same answers)

pub some-cache-stops : (hash : Hash) (many : ℕ) (s : Stop) → GoesAs {T = Vec (List ℕ)} (CachedSome hash many) items_of (Err s) → GoesAs {T = Vec ℕ} (CachesSome hash many) items_of (Err s)
some-cache-stops hash many (stop.Early early) known = record {
  found = known.found;
  each = known.each;
  is = sym (cache-stops hash known.found (stop.Early early) (sym known.is));
}
some-cache-stops hash many stop.NoMemory known = tt

pub some-cache-goes : (hash : Hash) (many : ℕ) (hashes given : List (List ℕ)) (result : Result (Vec ℕ) Stop) → CachedSome hash many (Ok hashes) → given ≡ hashes → Answers items_of (Ok (cache_of given)) result → GoesAs (CachesSome hash many) items_of result
some-cache-goes hash many hashes given result known same answers =
    goes-as (CachesSome hash many) items_of (cache_run hash known.found) result
    (cache-goes hash known.found hashes given result (sym known.is) same answers)
    (record { found = known.found; each = known.each; is = refl })
