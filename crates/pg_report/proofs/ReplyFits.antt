-- What the words of a reply say is in the bounds of its types, and its event can have it.
use Rattle.std.proofs.Common.{◌≡◌, ℕ, Bool, true, false, cond, List, [], ◌∷◌, codes, Option, Some, None, option_map, refl, subst}
use Rattle.std.specs.Prelude.{bytes_eq}
use Rattle.std.specs.Option.{option_and_then}
use Rattle.std.proofs.lemmas.Option.{none-some}
use Rattle.cs_policy.specs.declared.denial.Denial.{Denial}
use Rattle.cs_policy.specs.declared.denial.Denial.TheVariants.{PrivateCopy, Unsigned, BeyondLimit, WritableShared, Mismatch, SealedWrite}
use Rattle.cs_policy.specs.declared.file.FileEvent.{FileEvent}
use Rattle.cs_policy.specs.declared.file.FileEvent.TheVariants as file_event
use Rattle.cs_policy.specs.declared.file.FileReply.{FileReply}
use Rattle.cs_policy.specs.declared.file.FileReply.TheVariants as file
use Rattle.cs_policy.specs.declared.process.ProcEvent.{ProcEvent}
use Rattle.cs_policy.specs.declared.process.ProcEvent.TheVariants as proc_event
use Rattle.cs_policy.specs.declared.process.ProcReply.{ProcReply}
use Rattle.cs_policy.specs.declared.process.ProcReply.TheVariants as proc
use Rattle.cs_policy.specs.declared.trust.TrustEvent.{TrustEvent}
use Rattle.cs_policy.specs.declared.trust.TrustEvent.TheVariants as trust_event
use Rattle.cs_policy.specs.declared.trust.TrustReply.{TrustReply}
use Rattle.cs_policy.specs.declared.trust.TrustReply.TheVariants as trust
use Rattle.cs_policy.specs.declared.entry.Event.{Event}
use Rattle.cs_policy.specs.declared.entry.Event.TheVariants as event
use Rattle.cs_policy.specs.declared.entry.Reply.{Reply}
use Rattle.cs_policy.specs.declared.entry.Reply.TheVariants as reply
use Rattle.pg_words.proofs.NameFacts.{chosen}
use Rattle.pg_words.proofs.HexFacts.{map_takes}
use Rattle.pg_report.specs.declared.words.DenialWord.{DenialWord}
use Rattle.pg_report.specs.declared.words.DenialWord.TheVariants as denial_key
use Rattle.pg_report.specs.declared.words.ReplyWord.{ReplyWord}
use Rattle.pg_report.specs.declared.words.ReplyWord.TheVariants as key
use Rattle.pg_report.specs.Words.{denial_word, reply_word}
use Rattle.pg_report.specs.Forms.{long}
use Rattle.pg_report.specs.Denials.{denial_row, denial_of, violation_of, violation_key}
use Rattle.pg_report.specs.ReplyTable.{victim_of, given_of, victim_key, Told}
use Rattle.pg_report.specs.ReplyRows.{plainly, signature_row, blob_row, refuse_row, write_row, region_row, drop_row, drop_all_row, enter_row, store_row, load_row, evict_row, file_reply_row, dead_row, idle_row, start_row, insert_row, resolve_row, remove_row, debug_row, punish_row, clear_row, exit_row, proc_reply_row, load_module_row, lookup_row, trust_reply_row, reply_row, reply_of}
use Rattle.pg_report.specs.Fits.{DenialFits, SignatureFits, BlobFits, RefuseFits, WriteFits, AddFits, DropFits, DropAllFits, ViolationFits, EnterFits, StoreFits, LoadFits, EvictFits, FileReplyFits, IdleFits, StartFits, InsertFits, ResolveFits, RemoveFits, DebugFits, PunishFits, ClearFits, ExitFits, ProcReplyFits, LoadedFits, LookedUpFits, TrustReplyFits, ReplyFits}
use Rattle.pg_report.proofs.TookFacts.{bind_some, some_is}
use Rattle.pg_report.proofs.FormFits.{fit0, fit1, fit2, fit4, long_bound, short_bound, process_bound, file_bound, few_bound, flags_bound, only_bound, refusal_bound, files_bound}

nothing : {A : Type 0} {P : Type 0} (x : A) → None ≡ Some x → P
nothing x e = absurd (none-some x e)

-- ---- denials

denial_row_fits : (k : DenialWord) (ws : List (List ℕ)) (x : Denial) → denial_row k ws ≡ Some x → DenialFits x
denial_row_fits denial_key.PrivateCopy ws x e = fit1 DenialFits x long_bound (λ p. PrivateCopy p) ws (λ v p. p) e
denial_row_fits denial_key.Unsigned ws x e = fit1 DenialFits x long_bound (λ p. Unsigned p) ws (λ v p. p) e
denial_row_fits denial_key.BeyondLimit ws x e = fit1 DenialFits x long_bound (λ p. BeyondLimit p) ws (λ v p. p) e
denial_row_fits denial_key.WritableShared ws x e = fit2 DenialFits x long_bound short_bound (λ p r. WritableShared p r) ws (λ v w p r. (p, r)) e
denial_row_fits denial_key.Mismatch ws x e =
    fit4 DenialFits x long_bound long_bound (few_bound 48) (few_bound 48) (λ p s f w. Mismatch p s f w) ws (λ p s f w a b c d. (a, b, c, d)) e
denial_row_fits denial_key.SealedWrite ws x e = fit1 DenialFits x long_bound (λ p. SealedWrite p) ws (λ v p. p) e

denial_fits : (ws : List (List ℕ)) (x : Denial) → denial_of ws ≡ Some x → DenialFits x
unfolding denial_of
denial_fits [] x e = absurd cc
denial_fits (word ∷ ws) x e = let k = bind_some (λ key. denial_row key ws) (denial_word word) x e in denial_row_fits k.0 ws x k.2

violation_fits : (ws : List (List ℕ)) (x : Option Denial) → violation_of ws ≡ Some x → ViolationFits x
unfolding violation_of
violation_fits [] x e = subst ViolationFits (some_is None x e) tt
violation_fits (word ∷ ws) x e =
    chosen (bytes_eq word violation_key) _ _ _ e
    (λ t e. let m = map_takes (λ (d : Denial). Some d) (denial_of ws) x e in subst ViolationFits m.2 (denial_fits ws m.0 m.1))
    (λ e. nothing x e)

victim_fits : (ws : List (List ℕ)) (x : FileReply) → victim_of ws ≡ Some x → EnterFits x
unfolding victim_of
victim_fits [] x e = absurd cc
victim_fits (page ∷ ws) x e =
    let p = bind_some (λ n. option_and_then (λ v. Some (file.Given (Some n) v)) (violation_of ws)) (long page) x e in
    let v = bind_some (λ v. Some (file.Given (Some p.0) v)) (violation_of ws) x p.2 in
    subst EnterFits (some_is (file.Given (Some p.0) v.0) x v.2) (long_bound.fits page p.0 p.1, violation_fits ws v.0 v.1)

given_fits : (ws : List (List ℕ)) (x : FileReply) → given_of ws ≡ Some x → EnterFits x
unfolding given_of
given_fits [] x e = subst EnterFits (some_is (file.Given None None) x e) (tt, tt)
given_fits (word ∷ ws) x e =
    chosen (bytes_eq word victim_key) _ _ _ e
    (λ t e. victim_fits ws x e)
    (λ e. let m = map_takes (λ v. file.Given None v) (violation_of (word ∷ ws)) x e in subst EnterFits m.2 (tt, violation_fits (word ∷ ws) m.0 m.1))

-- ---- files

-- a reply that tells of no bytes
plainly_fits : (Q : FileReply → Type 0) (o : Option FileReply) (x : Told) → ((r : FileReply) → o ≡ Some r → Q r) → option_map plainly o ≡ Some x → Q x.0 × (x.1 ≡ 0)
plainly_fits Q o x fits e = let m = map_takes plainly o x e in subst (λ (t : Told). Q t.0 × (t.1 ≡ 0)) m.2 (fits m.0 m.1, refl)

abbrev SignatureTold : Told → Type 0
SignatureTold x = SignatureFits x.0 x.1

signed_fits : (made : FileReply) (o : Option FileReply) (x : Told) → ((r : FileReply) → o ≡ Some r → SignatureFits r 0) → option_map plainly o ≡ Some x → SignatureTold x
signed_fits made o x fits e = let m = map_takes plainly o x e in subst SignatureTold m.2 (fits m.0 m.1)

abbrev SignedFits : FileReply → Type 0
SignedFits r = SignatureFits r 0

signature_fits : (k : ReplyWord) (ws : List (List ℕ)) (x : Told) → signature_row k ws ≡ Some x → SignatureTold x
signature_fits key.NoSlices ws x e = signed_fits file.Noted _ x (λ r e. fit1 SignedFits r refusal_bound (λ r. file.NoSlices r) ws (λ v p. (p, refl)) e) e
signature_fits key.NoSlice ws x e = signed_fits file.Noted _ x (λ r e. fit1 SignedFits r short_bound (λ n. file.NoSlice n) ws (λ v p. (p, refl)) e) e
signature_fits key.NoImage ws x e = signed_fits file.Noted _ x (λ r e. fit1 SignedFits r refusal_bound (λ r. file.NoImage r) ws (λ v p. (p, refl)) e) e
signature_fits key.PagerFault ws x e = signed_fits file.Noted _ x (λ r e. fit1 SignedFits r long_bound (λ p. file.PagerFault p) ws (λ v p. (p, refl)) e) e
signature_fits key.Read ws x e = fit1 SignatureTold x long_bound (λ n. (file.Read [], n)) ws (λ v p. (refl, p)) e
signature_fits other ws x e = nothing x e

blob_fits : (k : ReplyWord) (ws : List (List ℕ)) (x : FileReply) → blob_row k ws ≡ Some x → BlobFits x
blob_fits key.Already ws x e = fit1 BlobFits x short_bound (λ n. file.Already n) ws (λ v p. p) e
blob_fits key.Overlap ws x e = fit1 BlobFits x short_bound (λ n. file.Overlap n) ws (λ v p. p) e
blob_fits key.Attached ws x e = fit1 BlobFits x short_bound (λ n. file.Attached n) ws (λ v p. p) e
blob_fits other ws x e = nothing x e

refuse_fits : (k : ReplyWord) (ws : List (List ℕ)) (x : FileReply) → refuse_row k ws ≡ Some x → RefuseFits x
refuse_fits key.Noted ws x e = fit0 RefuseFits x file.Noted ws tt e
refuse_fits other ws x e = nothing x e

write_fits : (k : ReplyWord) (ws : List (List ℕ)) (x : FileReply) → write_row k ws ≡ Some x → WriteFits x
write_fits key.PastEnd ws x e = fit1 WriteFits x long_bound (λ n. file.PastEnd n) ws (λ v p. p) e
write_fits key.Short ws x e = fit1 WriteFits x long_bound (λ n. file.Short n) ws (λ v p. p) e
write_fits key.Written ws x e = fit1 WriteFits x long_bound (λ n. file.Written n) ws (λ v p. p) e
write_fits other ws x e = nothing x e

add_fits : (k : ReplyWord) (ws : List (List ℕ)) (x : FileReply) → region_row k ws ≡ Some x → AddFits x
add_fits key.Added ws x e = fit0 AddFits x file.Added ws tt e
add_fits other ws x e = nothing x e

drop_fits : (k : ReplyWord) (ws : List (List ℕ)) (x : FileReply) → drop_row k ws ≡ Some x → DropFits x
drop_fits key.NoRegion ws x e = fit1 DropFits x short_bound (λ i. file.NoRegion i) ws (λ v p. p) e
drop_fits key.Dropped ws x e = fit0 DropFits x file.Dropped ws tt e
drop_fits other ws x e = nothing x e

drop_all_fits : (k : ReplyWord) (ws : List (List ℕ)) (x : FileReply) → drop_all_row k ws ≡ Some x → DropAllFits x
drop_all_fits key.Dropped ws x e = fit1 DropAllFits x short_bound (λ n. file.DroppedAll n) ws (λ v p. p) e
drop_all_fits other ws x e = nothing x e

enter_fits : (k : ReplyWord) (ws : List (List ℕ)) (x : FileReply) → enter_row k ws ≡ Some x → EnterFits x
enter_fits key.NoRegion ws x e = fit1 EnterFits x short_bound (λ i. file.NoRegion i) ws (λ v p. p) e
enter_fits key.Denied ws x e = let m = map_takes (λ d. file.Denied d) (denial_of ws) x e in subst EnterFits m.2 (denial_fits ws m.0 m.1)
enter_fits key.PagerFault ws x e = fit1 EnterFits x long_bound (λ p. file.PagerFault p) ws (λ v p. p) e
enter_fits key.Given ws x e = given_fits ws x e
enter_fits other ws x e = nothing x e

store_fits : (k : ReplyWord) (ws : List (List ℕ)) (x : FileReply) → store_row k ws ≡ Some x → StoreFits x
store_fits key.NotMapped ws x e = fit0 StoreFits x file.NotMapped ws tt e
store_fits key.Stored ws x e = fit0 StoreFits x file.Stored ws tt e
store_fits other ws x e = nothing x e

load_fits : (k : ReplyWord) (ws : List (List ℕ)) (x : FileReply) → load_row k ws ≡ Some x → LoadFits x
load_fits key.NotMapped ws x e = fit0 LoadFits x file.NotMapped ws tt e
load_fits key.Bytes ws x e = fit1 LoadFits x (few_bound 64) (λ b. file.Got b) ws (λ v p. p) e
load_fits other ws x e = nothing x e

evict_fits : (k : ReplyWord) (ws : List (List ℕ)) (x : FileReply) → evict_row k ws ≡ Some x → EvictFits x
evict_fits key.NotResident ws x e = fit0 EvictFits x file.NotResident ws tt e
evict_fits key.PagerFault ws x e = fit1 EvictFits x long_bound (λ p. file.PagerFault p) ws (λ v p. p) e
evict_fits key.Evicted ws x e = fit0 EvictFits x file.Evicted ws tt e
evict_fits other ws x e = nothing x e

file_reply_fits : (v : FileEvent) (k : ReplyWord) (ws : List (List ℕ)) (x : Told) → file_reply_row v k ws ≡ Some x → FileReplyFits v x.0 x.1
file_reply_fits (file_event.ReadSignature slice) k ws x e = signature_fits k ws x e
file_reply_fits (file_event.AddBlob slice cdhash read lookup) k ws x e = plainly_fits BlobFits (blob_row k ws) x (blob_fits k ws) e
file_reply_fits (file_event.RefuseBlob read refusal) k ws x e = plainly_fits RefuseFits (refuse_row k ws) x (refuse_fits k ws) e
file_reply_fits (file_event.Write at piece) k ws x e = plainly_fits WriteFits (write_row k ws) x (write_fits k ws) e
file_reply_fits (file_event.AddRegion region insert) k ws x e = plainly_fits AddFits (region_row k ws) x (add_fits k ws) e
file_reply_fits (file_event.DropRegion id) k ws x e = plainly_fits DropFits (drop_row k ws) x (drop_fits k ws) e
file_reply_fits (file_event.DropPid pid) k ws x e = plainly_fits DropAllFits (drop_all_row k ws) x (drop_all_fits k ws) e
file_reply_fits (file_event.Enter id page access flags resolve) k ws x e = plainly_fits EnterFits (enter_row k ws) x (enter_fits k ws) e
file_reply_fits (file_event.Store id page at bytes resolve) k ws x e = plainly_fits StoreFits (store_row k ws) x (store_fits k ws) e
file_reply_fits (file_event.Load id page at count resolve) k ws x e = plainly_fits LoadFits (load_row k ws) x (load_fits k ws) e
file_reply_fits (file_event.Fetch id page at count resolve) k ws x e = plainly_fits LoadFits (load_row k ws) x (load_fits k ws) e
file_reply_fits (file_event.Evict page) k ws x e = plainly_fits EvictFits (evict_row k ws) x (evict_fits k ws) e

-- ---- processes

module _ (Q : ProcReply → Type 0) (dead : Q proc.Dead) (x : ProcReply) where
  dead_fits : (k : ReplyWord) (ws : List (List ℕ)) → dead_row k ws ≡ Some x → Q x
  dead_fits key.Dead ws e = fit0 Q x proc.Dead ws dead e
  dead_fits other ws e = nothing x e

  idle_fits : Q proc.Killed → (k : ReplyWord) (ws : List (List ℕ)) → idle_row k ws ≡ Some x → Q x
  idle_fits killed key.Dead ws e = fit0 Q x proc.Dead ws dead e
  idle_fits killed key.Killed ws e = fit0 Q x proc.Killed ws killed e
  idle_fits killed other ws e = nothing x e

start_fits : (k : ReplyWord) (ws : List (List ℕ)) (x : ProcReply) → start_row k ws ≡ Some x → StartFits x
start_fits key.Started ws x e = fit1 StartFits x process_bound (λ p. proc.Started p) ws (λ v p. p) e
start_fits key.Began ws x e = fit1 StartFits x flags_bound (λ f. proc.Began f) ws (λ v p. p) e
start_fits other ws x e = nothing x e

insert_fits : (k : ReplyWord) (ws : List (List ℕ)) (x : ProcReply) → insert_row k ws ≡ Some x → InsertFits x
insert_fits key.OutOfFile ws x e = fit1 InsertFits x long_bound (λ n. proc.OutOfFile n) ws (λ v p. p) e
insert_fits key.Overlap ws x e = fit1 InsertFits x short_bound (λ n. proc.Overlap n) ws (λ v p. p) e
insert_fits key.Full ws x e = fit1 InsertFits x (only_bound 256) (λ n. proc.Full n) ws (λ v p. p) e
insert_fits key.Inserted ws x e = fit1 InsertFits x short_bound (λ n. proc.Inserted n) ws (λ v p. p) e
insert_fits other ws x e = idle_fits InsertFits tt x tt other ws e

resolve_fits : (k : ReplyWord) (ws : List (List ℕ)) (x : ProcReply) → resolve_row k ws ≡ Some x → ResolveFits x
resolve_fits key.NoMap ws x e = fit0 ResolveFits x proc.NoMap ws tt e
resolve_fits key.Prot ws x e = fit1 ResolveFits x short_bound (λ n. proc.Prot n) ws (λ v p. p) e
resolve_fits key.Region ws x e =
    fit4 ResolveFits x short_bound file_bound long_bound flags_bound (λ i f p g. proc.Region i f p g) ws (λ i f p g a b c d. (a, b, c, d)) e
resolve_fits other ws x e = idle_fits ResolveFits tt x tt other ws e

remove_fits : (k : ReplyWord) (ws : List (List ℕ)) (x : ProcReply) → remove_row k ws ≡ Some x → RemoveFits x
remove_fits key.NoMap ws x e = fit0 RemoveFits x proc.NoMap ws tt e
remove_fits key.Removed ws x e = fit2 RemoveFits x short_bound file_bound (λ i f. proc.Removed i f) ws (λ i f a b. (a, b)) e
remove_fits other ws x e = idle_fits RemoveFits tt x tt other ws e

debug_fits : (k : ReplyWord) (ws : List (List ℕ)) (x : ProcReply) → debug_row k ws ≡ Some x → DebugFits x
debug_fits key.Debugged ws x e = fit1 DebugFits x flags_bound (λ f. proc.Debugged f) ws (λ v p. p) e
debug_fits other ws x e = idle_fits DebugFits tt x tt other ws e

punish_fits : (k : ReplyWord) (ws : List (List ℕ)) (x : ProcReply) → punish_row k ws ≡ Some x → PunishFits x
punish_fits key.Kill ws x e = fit0 PunishFits x proc.Kill ws tt e
punish_fits key.Spare ws x e = fit0 PunishFits x proc.Spare ws tt e
punish_fits other ws x e = idle_fits PunishFits tt x tt other ws e

clear_fits : (k : ReplyWord) (ws : List (List ℕ)) (x : ProcReply) → clear_row k ws ≡ Some x → ClearFits x
clear_fits key.Cleared ws x e = fit1 ClearFits x flags_bound (λ f. proc.Cleared f) ws (λ v p. p) e
clear_fits other ws x e = idle_fits ClearFits tt x tt other ws e

exit_fits : (k : ReplyWord) (ws : List (List ℕ)) (x : ProcReply) → exit_row k ws ≡ Some x → ExitFits x
exit_fits key.Exited ws x e = fit1 ExitFits x files_bound (λ f. proc.Exited f) ws (λ v p. p) e
exit_fits other ws x e = dead_fits ExitFits tt x other ws e

proc_reply_fits : (v : ProcEvent) (k : ReplyWord) (ws : List (List ℕ)) (x : ProcReply) → proc_reply_row v k ws ≡ Some x → ProcReplyFits v x
proc_reply_fits proc_event.Start k ws x e = start_fits k ws x e
proc_reply_fits (proc_event.Insert at file file_pages first pages prot shared) k ws x e = insert_fits k ws x e
proc_reply_fits (proc_event.Resolve addr access) k ws x e = resolve_fits k ws x e
proc_reply_fits (proc_event.Remove at) k ws x e = remove_fits k ws x e
proc_reply_fits proc_event.Debug k ws x e = debug_fits k ws x e
proc_reply_fits proc_event.Punish k ws x e = punish_fits k ws x e
proc_reply_fits proc_event.ClearValid k ws x e = clear_fits k ws x e
proc_reply_fits proc_event.Exit k ws x e = exit_fits k ws x e

-- ---- the trust list

load_module_fits : (k : ReplyWord) (ws : List (List ℕ)) (x : TrustReply) → load_module_row k ws ≡ Some x → LoadedFits x
load_module_fits key.Refused ws x e = fit1 LoadedFits x refusal_bound (λ r. trust.Refused r) ws (λ v p. p) e
load_module_fits key.Full ws x e = fit1 LoadedFits x (only_bound 64) (λ n. trust.Full n) ws (λ v p. p) e
load_module_fits key.Loaded ws x e = fit1 LoadedFits x short_bound (λ n. trust.Loaded n) ws (λ v p. p) e
load_module_fits other ws x e = nothing x e

lookup_fits : (k : ReplyWord) (ws : List (List ℕ)) (x : TrustReply) → lookup_row k ws ≡ Some x → LookedUpFits x
lookup_fits key.Listed ws x e = fit2 LookedUpFits x short_bound long_bound (λ m p. trust.Listed m p) ws (λ m p a b. (a, b)) e
lookup_fits key.Unlisted ws x e = fit0 LookedUpFits x trust.Unlisted ws tt e
lookup_fits other ws x e = nothing x e

trust_reply_fits : (v : TrustEvent) (k : ReplyWord) (ws : List (List ℕ)) (x : TrustReply) → trust_reply_row v k ws ≡ Some x → TrustReplyFits v x
trust_reply_fits (trust_event.LoadModule cache) k ws x e = load_module_fits k ws x e
trust_reply_fits (trust_event.Lookup cdhash) k ws x e = lookup_fits k ws x e

-- ---- any part

row_fits : (v : Event) (k : ReplyWord) (ws : List (List ℕ)) (x : Reply × ℕ) → reply_row v k ws ≡ Some x → ReplyFits v x.0 x.1
row_fits (event.File v) k ws x e =
    let m = map_takes (λ (t : Told). (reply.File t.0, t.1)) (file_reply_row v k ws) x e in
    subst (λ (t : Reply × ℕ). ReplyFits (event.File v) t.0 t.1) m.2 (file_reply_fits v k ws m.0 m.1)
row_fits (event.Proc v) k ws x e =
    let m = map_takes (λ r. (reply.Proc r, 0)) (proc_reply_row v k ws) x e in
    subst (λ (t : Reply × ℕ). ReplyFits (event.Proc v) t.0 t.1) m.2 (proc_reply_fits v k ws m.0 m.1, refl)
row_fits (event.Trust v) k ws x e =
    let m = map_takes (λ r. (reply.Trust r, 0)) (trust_reply_row v k ws) x e in
    subst (λ (t : Reply × ℕ). ReplyFits (event.Trust v) t.0 t.1) m.2 (trust_reply_fits v k ws m.0 m.1, refl)

pub reply_fits : (v : Event) (ws : List (List ℕ)) (x : Reply × ℕ) → reply_of v ws ≡ Some x → ReplyFits v x.0 x.1
unfolding reply_of
reply_fits v [] x e = absurd cc
reply_fits v (word ∷ ws) x e = let k = bind_some (λ key. reply_row v key ws) (reply_word word) x e in row_fits v k.0 ws x k.2
