-- A script as far as it was played.
use Rattle.std.proofs.Common.{◌≡◌, ℕ, suc, ◌+◌, ◌<◌, List, [], ◌∷◌, ◌++◌, length, drop, refl, sym, ap, subst, ◌∙◌, arith, append_assoc, append-nil, add-one, drop-cons}
use Rattle.std.proofs.Math.Seq.{drop-length}
use Rattle.std.specs.Prelude.{All, slice_index_or}
use Rattle.std.proofs.lemmas.List.Elements.{All-append}
use Rattle.pg_digest.specs.Kinds.{Hash}
use Rattle.cs_policy.specs.declared.entry.Who.{Who}
use Rattle.cs_policy.specs.declared.call.Call.{Call}
use Rattle.pg_history.specs.Machine.{Line}
use Rattle.pg_history.specs.Opening.{Numbers}
use Rattle.pg_history.specs.Legal.{AreOf, Follows, Scripted}
use Rattle.pg_calls.specs.Room.{plus, Within, IsPlaceIn, used_by, given_to, call_uses}
use Rattle.pg_calls.specs.Parts.{PartsNow}
use Rattle.pg_calls.specs.Calls.{HasRoomFor, IsOf, Adds}
use Rattle.pg_calls.specs.Scripts.{IsMade, calls_use, HasRoomForAll, IsBy, Plays}
use Rattle.pg_calls.proofs.RoomFacts.{within-refl, within-trans, within-plus, within-front, plus-assoc, used_by-append}

-- What the calls before a place of the script have added: whatever follows them as the rest of the script, all of it is the script.
pub record Played (hash : Hash) (worker : ℕ) (script : List Call) (done : ℕ) (start now : PartsNow) : Type 0 where
  pub own : List Line
  pub made : now ≡ record start { made = start.made ++ own }
  pub joins : (rest : List Line) → Scripted hash start.numbers worker done (drop done script) rest → Scripted hash start.numbers worker 0 script (own ++ rest)
  pub by_worker : All (IsBy start.numbers worker) own
  pub room : HasRoomForAll now worker (drop done script)

are-of : (worker call : ℕ) (numbers : Numbers) (xs : List Line) → All (IsOf numbers (record { worker = worker; call = call })) xs → AreOf worker call xs
are-of worker call numbers [] all = tt
are-of worker call numbers (x ∷ xs) all =
    ((all 0 x (omega arith)).by_whom, are-of worker call numbers xs (λ k d lt. all (suc k) d (omega (arith, lt))))

is-by : (worker call : ℕ) (numbers : Numbers) (x : Line) → IsOf numbers (record { worker = worker; call = call }) x → IsBy numbers worker x
is-by worker call numbers x is = record {
  by_whom = ap (λ (w : Who). w.worker) is.by_whom;
  agrees = record { part = is.part; caller = is.caller ∙ ap (λ (w : Who). w.worker) (sym is.by_whom) };
}

module _ (hash : Hash) (worker : ℕ) (script : List Call) (start : PartsNow) where
  pub played-none : HasRoomForAll start worker script → Played hash worker script 0 start start
  played-none has = record {
    own = [];
    made = ap (λ m. record start { made = m }) (sym (append-nil start.made));
    joins = λ rest scripted. scripted;
    by_worker = λ k d lt. absurd (omega (arith, lt));
    room = has;
  }

  -- the call at the next place
  pub next-rest : (done : ℕ) (c : Call) → done < length script → slice_index_or script done c ≡ c → drop done script ≡ c ∷ drop (done + 1) script
  next-rest done c lt is =
      drop-cons script done c lt ∙ ap (λ x. x ∷ drop (suc done) script) is ∙ ap (λ n. c ∷ drop n script) (sym (add-one done))

  pub room-now : (done : ℕ) (now : PartsNow) (c : Call) (w : ℕ) → Played hash worker script done start now → drop done script ≡ c ∷ drop (done + 1) script
      → HasRoomFor now (record { worker = worker; call = w }) c
  room-now done now c w played next p here =
      within-trans _ _ _ (within-plus _ _ _ _ (within-refl (used_by worker p now.made)) (within-front _ _ _ (within-refl (call_uses c p))))
      (subst (λ cs. Within (plus (used_by worker p now.made) (calls_use cs p)) (given_to now.numbers now.needs worker p)) next (played.room p here))

  pub played-one : (done : ℕ) (now : PartsNow) (c : Call) (new : PartsNow) → Played hash worker script done start now → drop done script ≡ c ∷ drop (done + 1) script
      → IsMade hash c (record { worker = worker; call = done }) now new → Played hash worker script (done + 1) start new
  played-one done now c new played next made = record {
    own = played.own ++ own2;
    made = adds.made
        ∙ ap (λ (p : PartsNow). record p { made = p.made ++ own2 }) played.made
        ∙ ap (λ m. record start { made = m }) (append_assoc start.made played.own own2);
    joins = λ rest scripted. subst (λ es. Scripted hash start.numbers worker 0 script es) (sym (append_assoc played.own own2 rest))
        (played.joins (own2 ++ rest) (subst (λ cs. Scripted hash start.numbers worker done cs (own2 ++ rest)) (sym next)
        (own2, rest, record { whole = refl; same_call = are-of worker done start.numbers own2 of_call; follows = follows }, scripted)));
    by_worker = All-append (IsBy start.numbers worker) played.own own2 played.by_worker (λ k d lt. is-by worker done start.numbers (slice_index_or own2 k d) (of_call k d lt));
    room = λ p. subst (λ (q : PartsNow). IsPlaceIn q.numbers p → Within (plus (used_by worker p q.made) (calls_use (drop (done + 1) script) p)) (given_to q.numbers q.needs worker p)) (sym adds.made)
        (λ here. subst (λ n. Within (plus n (calls_use (drop (done + 1) script) p)) (given_to now.numbers now.needs worker p)) (sym (used_by-append worker p now.made own2))
        (subst (λ n. Within n (given_to now.numbers now.needs worker p)) (sym (plus-assoc (used_by worker p now.made) (used_by worker p own2) (calls_use (drop (done + 1) script) p)))
        (within-trans _ _ _
        (within-plus _ _ _ _ (within-refl (used_by worker p now.made)) (within-plus _ _ _ _ (made.enters.room p) (within-refl (calls_use (drop (done + 1) script) p))))
        (subst (λ cs. Within (plus (used_by worker p now.made) (calls_use cs p)) (given_to now.numbers now.needs worker p)) next (played.room p here)))));
  }
    where
      own2 : List Line
      own2 = made.enters.own

      adds : Adds (record { worker = worker; call = done }) now made.enters.own new
      adds = made.enters.adds

      of_call : All (IsOf start.numbers (record { worker = worker; call = done })) made.enters.own
      of_call = subst (λ (p : PartsNow). All (IsOf p.numbers (record { worker = worker; call = done })) made.enters.own) played.made made.enters.adds.of_call

      follows : Follows hash start.numbers c [] made.enters.own
      follows = subst (λ (p : PartsNow). Follows hash p.numbers c [] made.enters.own) played.made made.enters.follows

  pub played-all : (now : PartsNow) → Played hash worker script (length script) start now → Plays hash worker script start now
  played-all now played = record {
    own = played.own;
    made = played.made;
    scripted = subst (λ es. Scripted hash start.numbers worker 0 script es) (append-nil played.own)
        (played.joins [] (subst (λ cs. Scripted hash start.numbers worker (length script) cs []) (sym (drop-length script)) refl));
    by_worker = played.by_worker;
  }
