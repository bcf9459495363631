-- The words that say a reply are how the reply is printed.
use Rattle.std.proofs.Common.{◌≡◌, ℕ, Bool, true, false, cond, List, [], ◌∷◌, codes, Option, Some, None, option_map, refl, ap, sym, ◌∙◌}
use Rattle.std.specs.Prelude.{bytes_eq}
use Rattle.std.specs.Option.{option_and_then}
use Rattle.std.proofs.lemmas.Option.{none-some}
use Rattle.cs_policy.specs.declared.denial.Denial.{Denial}
use Rattle.cs_policy.specs.declared.denial.Denial.TheVariants.{PrivateCopy, Unsigned, BeyondLimit, WritableShared, Mismatch, SealedWrite}
use Rattle.cs_policy.specs.declared.file.FileEvent.{FileEvent}
use Rattle.cs_policy.specs.declared.file.FileEvent.TheVariants as file_event
use Rattle.cs_policy.specs.declared.file.FileReply.{FileReply}
use Rattle.cs_policy.specs.declared.file.FileReply.TheVariants as file
use Rattle.cs_policy.specs.declared.process.ProcEvent.{ProcEvent}
use Rattle.cs_policy.specs.declared.process.ProcEvent.TheVariants as proc_event
use Rattle.cs_policy.specs.declared.process.ProcReply.{ProcReply}
use Rattle.cs_policy.specs.declared.process.ProcReply.TheVariants as proc
use Rattle.cs_policy.specs.declared.trust.TrustEvent.{TrustEvent}
use Rattle.cs_policy.specs.declared.trust.TrustEvent.TheVariants as trust_event
use Rattle.cs_policy.specs.declared.trust.TrustReply.{TrustReply}
use Rattle.cs_policy.specs.declared.trust.TrustReply.TheVariants as trust
use Rattle.cs_policy.specs.declared.entry.Event.{Event}
use Rattle.cs_policy.specs.declared.entry.Event.TheVariants as event
use Rattle.cs_policy.specs.declared.entry.Reply.{Reply}
use Rattle.cs_policy.specs.declared.entry.Reply.TheVariants as reply
use Rattle.pg_words.specs.Rows.{named}
use Rattle.pg_words.proofs.NameFacts.{chosen, is_word_text}
use Rattle.pg_words.proofs.HexFacts.{map_takes}
use Rattle.pg_report.specs.declared.words.DenialWord.{DenialWord}
use Rattle.pg_report.specs.declared.words.DenialWord.TheVariants as denial_key
use Rattle.pg_report.specs.declared.words.ReplyWord.{ReplyWord}
use Rattle.pg_report.specs.declared.words.ReplyWord.TheVariants as key
use Rattle.pg_report.specs.Words.{denial_keyword, denial_words as denial_keys, denial_word, reply_keyword, reply_words as reply_keys, reply_word}
use Rattle.pg_report.specs.Forms.{long}
use Rattle.pg_report.specs.Denials.{denial_words, denial_row, denial_of, violation_words, violation_of}
use Rattle.pg_report.specs.ReplyTable.{victim_of, given_of, Told}
use Rattle.pg_report.specs.Replies.{file_reply_words, proc_reply_words, trust_reply_words, reply_words}
use Rattle.pg_report.specs.ReplyRows.{plainly, signature_row, blob_row, refuse_row, write_row, region_row, drop_row, drop_all_row, enter_row, store_row, load_row, evict_row, file_reply_row, dead_row, idle_row, start_row, insert_row, resolve_row, remove_row, debug_row, punish_row, clear_row, exit_row, proc_reply_row, load_module_row, lookup_row, trust_reply_row, reply_row, reply_of}
use Rattle.pg_report.proofs.TookFacts.{named_is, bind_some, some_is, took0, took1, took2, took4, long_took, short_took, process_took, file_took, few_took, flags_took, only_took, refusal_took}
use Rattle.pg_report.proofs.BitsFacts.{files_took}

nothing : {A : Type 0} {P : Type 0} (x : A) → None ≡ Some x → P
nothing x e = absurd (none-some x e)

denial_took : (k : DenialWord) (ws : List (List ℕ)) (x : Denial) → denial_row k ws ≡ Some x → denial_words x ≡ denial_keyword k ∷ ws
denial_took denial_key.PrivateCopy ws x e = took1 long_took (λ p. PrivateCopy p) denial_words ws x _ (λ v. refl) e
denial_took denial_key.Unsigned ws x e = took1 long_took (λ p. Unsigned p) denial_words ws x _ (λ v. refl) e
denial_took denial_key.BeyondLimit ws x e = took1 long_took (λ p. BeyondLimit p) denial_words ws x _ (λ v. refl) e
denial_took denial_key.WritableShared ws x e = took2 long_took short_took (λ p r. WritableShared p r) denial_words ws x _ (λ p r. refl) e
denial_took denial_key.Mismatch ws x e = took4 long_took long_took (few_took 48) (few_took 48) (λ p s f w. Mismatch p s f w) denial_words ws x _ (λ p s f w. refl) e
denial_took denial_key.SealedWrite ws x e = took1 long_took (λ p. SealedWrite p) denial_words ws x _ (λ v. refl) e

denial_is : (ws : List (List ℕ)) (x : Denial) → denial_of ws ≡ Some x → denial_words x ≡ ws
unfolding denial_of denial_word
denial_is [] x e = absurd cc
denial_is (word ∷ ws) x e =
    let k = bind_some (λ key. denial_row key ws) (named denial_keyword denial_keys word) x e in
    denial_took k.0 ws x k.2 ∙ ap (λ (w : List ℕ). w ∷ ws) (sym (named_is denial_keyword denial_keys word k.0 k.1))

guarded : {A P : Type 0} (t : Bool) (o : Option A) (x : A) → cond t o None ≡ Some x → (t ≡ true → o ≡ Some x → P) → P
guarded true o x e then = then refl e
guarded false o x e then = nothing x e

violation_is : (ws : List (List ℕ)) (x : Option Denial) → violation_of ws ≡ Some x → violation_words x ≡ ws
unfolding violation_of
violation_is [] x e = ap violation_words (sym (some_is None x e))
violation_is (word ∷ ws) x e =
    guarded (bytes_eq word (codes "violation")) (option_map (λ d. Some d) (denial_of ws)) x e (λ t e.
    let m = map_takes (λ (d : Denial). Some d) (denial_of ws) x e in
    ap violation_words (sym m.2) ∙ (λ i. sym (is_word_text word (codes "violation") t) i ∷ denial_is ws m.0 m.1 i))

victim_is : (ws : List (List ℕ)) (x : FileReply) → victim_of ws ≡ Some x → file_reply_words 0 x ≡ reply_keyword key.Given ∷ codes "victim" ∷ ws
unfolding victim_of
victim_is [] x e = absurd cc
victim_is (page ∷ ws) x e =
    let p = bind_some (λ n. option_and_then (λ v. Some (file.Given (Some n) v)) (violation_of ws)) (long page) x e in
    let v = bind_some (λ v. Some (file.Given (Some p.0) v)) (violation_of ws) x p.2 in
    ap (file_reply_words 0) (sym (some_is (file.Given (Some p.0) v.0) x v.2))
    ∙ (λ i. reply_keyword key.Given ∷ codes "victim" ∷ sym (long_took.is page p.0 p.1) i ∷ violation_is ws v.0 v.1 i)

given_is : (ws : List (List ℕ)) (x : FileReply) → given_of ws ≡ Some x → file_reply_words 0 x ≡ reply_keyword key.Given ∷ ws
unfolding given_of
given_is [] x e = ap (file_reply_words 0) (sym (some_is (file.Given None None) x e))
given_is (word ∷ ws) x e =
    chosen (bytes_eq word (codes "victim")) _ _ _ e
    (λ t e. victim_is ws x e ∙ ap (λ (w : List ℕ). reply_keyword key.Given ∷ w ∷ ws) (sym (is_word_text word (codes "victim") t)))
    (λ e.
    let m = map_takes (λ v. file.Given None v) (violation_of (word ∷ ws)) x e in
    ap (file_reply_words 0) (sym m.2) ∙ ap (λ (r : List (List ℕ)). reply_keyword key.Given ∷ r) (violation_is (word ∷ ws) m.0 m.1))

-- ---- files

abbrev told_words : Told → List (List ℕ)
told_words told = file_reply_words told.1 told.0

abbrev plain_words : FileReply → List (List ℕ)
plain_words r = file_reply_words 0 r

-- a reply that tells of no bytes
plainly_took : (o : Option FileReply) (words : List (List ℕ)) (x : Told) → ((r : FileReply) → o ≡ Some r → plain_words r ≡ words) → option_map plainly o ≡ Some x → told_words x ≡ words
plainly_took o words x took e = let m = map_takes plainly o x e in ap told_words (sym m.2) ∙ took m.0 m.1

signature_took : (k : ReplyWord) (ws : List (List ℕ)) (x : Told) → signature_row k ws ≡ Some x → told_words x ≡ reply_keyword k ∷ ws
signature_took key.NoSlices ws x e = plainly_took _ _ x (λ r e. took1 refusal_took (λ r. file.NoSlices r) plain_words ws r _ (λ v. refl) e) e
signature_took key.NoSlice ws x e = plainly_took _ _ x (λ r e. took1 short_took (λ n. file.NoSlice n) plain_words ws r _ (λ v. refl) e) e
signature_took key.NoImage ws x e = plainly_took _ _ x (λ r e. took1 refusal_took (λ r. file.NoImage r) plain_words ws r _ (λ v. refl) e) e
signature_took key.PagerFault ws x e = plainly_took _ _ x (λ r e. took1 long_took (λ p. file.PagerFault p) plain_words ws r _ (λ v. refl) e) e
signature_took key.Read ws x e = took1 long_took (λ n. (file.Read [], n)) told_words ws x _ (λ v. refl) e
signature_took other ws x e = nothing x e

blob_took : (k : ReplyWord) (ws : List (List ℕ)) (x : FileReply) → blob_row k ws ≡ Some x → plain_words x ≡ reply_keyword k ∷ ws
blob_took key.Already ws x e = took1 short_took (λ n. file.Already n) plain_words ws x _ (λ v. refl) e
blob_took key.Overlap ws x e = took1 short_took (λ n. file.Overlap n) plain_words ws x _ (λ v. refl) e
blob_took key.Attached ws x e = took1 short_took (λ n. file.Attached n) plain_words ws x _ (λ v. refl) e
blob_took other ws x e = nothing x e

refuse_took : (k : ReplyWord) (ws : List (List ℕ)) (x : FileReply) → refuse_row k ws ≡ Some x → plain_words x ≡ reply_keyword k ∷ ws
refuse_took key.Noted ws x e = took0 file.Noted plain_words ws x _ refl e
refuse_took other ws x e = nothing x e

write_took : (k : ReplyWord) (ws : List (List ℕ)) (x : FileReply) → write_row k ws ≡ Some x → plain_words x ≡ reply_keyword k ∷ ws
write_took key.PastEnd ws x e = took1 long_took (λ n. file.PastEnd n) plain_words ws x _ (λ v. refl) e
write_took key.Short ws x e = took1 long_took (λ n. file.Short n) plain_words ws x _ (λ v. refl) e
write_took key.Written ws x e = took1 long_took (λ n. file.Written n) plain_words ws x _ (λ v. refl) e
write_took other ws x e = nothing x e

region_took : (k : ReplyWord) (ws : List (List ℕ)) (x : FileReply) → region_row k ws ≡ Some x → plain_words x ≡ reply_keyword k ∷ ws
region_took key.Added ws x e = took0 file.Added plain_words ws x _ refl e
region_took other ws x e = nothing x e

drop_took : (k : ReplyWord) (ws : List (List ℕ)) (x : FileReply) → drop_row k ws ≡ Some x → plain_words x ≡ reply_keyword k ∷ ws
drop_took key.NoRegion ws x e = took1 short_took (λ i. file.NoRegion i) plain_words ws x _ (λ v. refl) e
drop_took key.Dropped ws x e = took0 file.Dropped plain_words ws x _ refl e
drop_took other ws x e = nothing x e

drop_all_took : (k : ReplyWord) (ws : List (List ℕ)) (x : FileReply) → drop_all_row k ws ≡ Some x → plain_words x ≡ reply_keyword k ∷ ws
drop_all_took key.Dropped ws x e = took1 short_took (λ n. file.DroppedAll n) plain_words ws x _ (λ v. refl) e
drop_all_took other ws x e = nothing x e

enter_took : (k : ReplyWord) (ws : List (List ℕ)) (x : FileReply) → enter_row k ws ≡ Some x → plain_words x ≡ reply_keyword k ∷ ws
enter_took key.NoRegion ws x e = took1 short_took (λ i. file.NoRegion i) plain_words ws x _ (λ v. refl) e
enter_took key.Denied ws x e =
    let m = map_takes (λ d. file.Denied d) (denial_of ws) x e in
    ap plain_words (sym m.2) ∙ ap (λ (r : List (List ℕ)). reply_keyword key.Denied ∷ r) (denial_is ws m.0 m.1)
enter_took key.PagerFault ws x e = took1 long_took (λ p. file.PagerFault p) plain_words ws x _ (λ v. refl) e
enter_took key.Given ws x e = given_is ws x e
enter_took other ws x e = nothing x e

store_took : (k : ReplyWord) (ws : List (List ℕ)) (x : FileReply) → store_row k ws ≡ Some x → plain_words x ≡ reply_keyword k ∷ ws
store_took key.NotMapped ws x e = took0 file.NotMapped plain_words ws x _ refl e
store_took key.Stored ws x e = took0 file.Stored plain_words ws x _ refl e
store_took other ws x e = nothing x e

load_took : (k : ReplyWord) (ws : List (List ℕ)) (x : FileReply) → load_row k ws ≡ Some x → plain_words x ≡ reply_keyword k ∷ ws
load_took key.NotMapped ws x e = took0 file.NotMapped plain_words ws x _ refl e
load_took key.Bytes ws x e = took1 (few_took 64) (λ b. file.Got b) plain_words ws x _ (λ v. refl) e
load_took other ws x e = nothing x e

evict_took : (k : ReplyWord) (ws : List (List ℕ)) (x : FileReply) → evict_row k ws ≡ Some x → plain_words x ≡ reply_keyword k ∷ ws
evict_took key.NotResident ws x e = took0 file.NotResident plain_words ws x _ refl e
evict_took key.PagerFault ws x e = took1 long_took (λ p. file.PagerFault p) plain_words ws x _ (λ v. refl) e
evict_took key.Evicted ws x e = took0 file.Evicted plain_words ws x _ refl e
evict_took other ws x e = nothing x e

file_reply_took : (v : FileEvent) (k : ReplyWord) (ws : List (List ℕ)) (x : Told) → file_reply_row v k ws ≡ Some x → told_words x ≡ reply_keyword k ∷ ws
file_reply_took (file_event.ReadSignature slice) k ws x e = signature_took k ws x e
file_reply_took (file_event.AddBlob slice cdhash read lookup) k ws x e = plainly_took (blob_row k ws) _ x (blob_took k ws) e
file_reply_took (file_event.RefuseBlob read refusal) k ws x e = plainly_took (refuse_row k ws) _ x (refuse_took k ws) e
file_reply_took (file_event.Write at piece) k ws x e = plainly_took (write_row k ws) _ x (write_took k ws) e
file_reply_took (file_event.AddRegion region insert) k ws x e = plainly_took (region_row k ws) _ x (region_took k ws) e
file_reply_took (file_event.DropRegion id) k ws x e = plainly_took (drop_row k ws) _ x (drop_took k ws) e
file_reply_took (file_event.DropPid pid) k ws x e = plainly_took (drop_all_row k ws) _ x (drop_all_took k ws) e
file_reply_took (file_event.Enter id page access flags resolve) k ws x e = plainly_took (enter_row k ws) _ x (enter_took k ws) e
file_reply_took (file_event.Store id page at bytes resolve) k ws x e = plainly_took (store_row k ws) _ x (store_took k ws) e
file_reply_took (file_event.Load id page at count resolve) k ws x e = plainly_took (load_row k ws) _ x (load_took k ws) e
file_reply_took (file_event.Fetch id page at count resolve) k ws x e = plainly_took (load_row k ws) _ x (load_took k ws) e
file_reply_took (file_event.Evict page) k ws x e = plainly_took (evict_row k ws) _ x (evict_took k ws) e

-- ---- processes

dead_took : (k : ReplyWord) (ws : List (List ℕ)) (x : ProcReply) → dead_row k ws ≡ Some x → proc_reply_words x ≡ reply_keyword k ∷ ws
dead_took key.Dead ws x e = took0 proc.Dead proc_reply_words ws x _ refl e
dead_took other ws x e = nothing x e

idle_took : (k : ReplyWord) (ws : List (List ℕ)) (x : ProcReply) → idle_row k ws ≡ Some x → proc_reply_words x ≡ reply_keyword k ∷ ws
idle_took key.Dead ws x e = took0 proc.Dead proc_reply_words ws x _ refl e
idle_took key.Killed ws x e = took0 proc.Killed proc_reply_words ws x _ refl e
idle_took other ws x e = nothing x e

start_took : (k : ReplyWord) (ws : List (List ℕ)) (x : ProcReply) → start_row k ws ≡ Some x → proc_reply_words x ≡ reply_keyword k ∷ ws
start_took key.Started ws x e = took1 process_took (λ p. proc.Started p) proc_reply_words ws x _ (λ v. refl) e
start_took key.Began ws x e = took1 flags_took (λ f. proc.Began f) proc_reply_words ws x _ (λ v. refl) e
start_took other ws x e = nothing x e

insert_took : (k : ReplyWord) (ws : List (List ℕ)) (x : ProcReply) → insert_row k ws ≡ Some x → proc_reply_words x ≡ reply_keyword k ∷ ws
insert_took key.OutOfFile ws x e = took1 long_took (λ n. proc.OutOfFile n) proc_reply_words ws x _ (λ v. refl) e
insert_took key.Overlap ws x e = took1 short_took (λ n. proc.Overlap n) proc_reply_words ws x _ (λ v. refl) e
insert_took key.Full ws x e = took1 (only_took 256) (λ n. proc.Full n) proc_reply_words ws x _ (λ v. refl) e
insert_took key.Inserted ws x e = took1 short_took (λ n. proc.Inserted n) proc_reply_words ws x _ (λ v. refl) e
insert_took other ws x e = idle_took other ws x e

resolve_took : (k : ReplyWord) (ws : List (List ℕ)) (x : ProcReply) → resolve_row k ws ≡ Some x → proc_reply_words x ≡ reply_keyword k ∷ ws
resolve_took key.NoMap ws x e = took0 proc.NoMap proc_reply_words ws x _ refl e
resolve_took key.Prot ws x e = took1 short_took (λ n. proc.Prot n) proc_reply_words ws x _ (λ v. refl) e
resolve_took key.Region ws x e = took4 short_took file_took long_took flags_took (λ i f p g. proc.Region i f p g) proc_reply_words ws x _ (λ i f p g. refl) e
resolve_took other ws x e = idle_took other ws x e

remove_took : (k : ReplyWord) (ws : List (List ℕ)) (x : ProcReply) → remove_row k ws ≡ Some x → proc_reply_words x ≡ reply_keyword k ∷ ws
remove_took key.NoMap ws x e = took0 proc.NoMap proc_reply_words ws x _ refl e
remove_took key.Removed ws x e = took2 short_took file_took (λ i f. proc.Removed i f) proc_reply_words ws x _ (λ i f. refl) e
remove_took other ws x e = idle_took other ws x e

debug_took : (k : ReplyWord) (ws : List (List ℕ)) (x : ProcReply) → debug_row k ws ≡ Some x → proc_reply_words x ≡ reply_keyword k ∷ ws
debug_took key.Debugged ws x e = took1 flags_took (λ f. proc.Debugged f) proc_reply_words ws x _ (λ v. refl) e
debug_took other ws x e = idle_took other ws x e

punish_took : (k : ReplyWord) (ws : List (List ℕ)) (x : ProcReply) → punish_row k ws ≡ Some x → proc_reply_words x ≡ reply_keyword k ∷ ws
punish_took key.Kill ws x e = took0 proc.Kill proc_reply_words ws x _ refl e
punish_took key.Spare ws x e = took0 proc.Spare proc_reply_words ws x _ refl e
punish_took other ws x e = idle_took other ws x e

clear_took : (k : ReplyWord) (ws : List (List ℕ)) (x : ProcReply) → clear_row k ws ≡ Some x → proc_reply_words x ≡ reply_keyword k ∷ ws
clear_took key.Cleared ws x e = took1 flags_took (λ f. proc.Cleared f) proc_reply_words ws x _ (λ v. refl) e
clear_took other ws x e = idle_took other ws x e

exit_took : (k : ReplyWord) (ws : List (List ℕ)) (x : ProcReply) → exit_row k ws ≡ Some x → proc_reply_words x ≡ reply_keyword k ∷ ws
exit_took key.Exited ws x e = took1 files_took (λ f. proc.Exited f) proc_reply_words ws x _ (λ v. refl) e
exit_took other ws x e = dead_took other ws x e

proc_reply_took : (v : ProcEvent) (k : ReplyWord) (ws : List (List ℕ)) (x : ProcReply) → proc_reply_row v k ws ≡ Some x → proc_reply_words x ≡ reply_keyword k ∷ ws
proc_reply_took proc_event.Start k ws x e = start_took k ws x e
proc_reply_took (proc_event.Insert at file file_pages first pages prot shared) k ws x e = insert_took k ws x e
proc_reply_took (proc_event.Resolve addr access) k ws x e = resolve_took k ws x e
proc_reply_took (proc_event.Remove at) k ws x e = remove_took k ws x e
proc_reply_took proc_event.Debug k ws x e = debug_took k ws x e
proc_reply_took proc_event.Punish k ws x e = punish_took k ws x e
proc_reply_took proc_event.ClearValid k ws x e = clear_took k ws x e
proc_reply_took proc_event.Exit k ws x e = exit_took k ws x e

-- ---- the trust list

load_module_took : (k : ReplyWord) (ws : List (List ℕ)) (x : TrustReply) → load_module_row k ws ≡ Some x → trust_reply_words x ≡ reply_keyword k ∷ ws
load_module_took key.Refused ws x e = took1 refusal_took (λ r. trust.Refused r) trust_reply_words ws x _ (λ v. refl) e
load_module_took key.Full ws x e = took1 (only_took 64) (λ n. trust.Full n) trust_reply_words ws x _ (λ v. refl) e
load_module_took key.Loaded ws x e = took1 short_took (λ n. trust.Loaded n) trust_reply_words ws x _ (λ v. refl) e
load_module_took other ws x e = nothing x e

lookup_took : (k : ReplyWord) (ws : List (List ℕ)) (x : TrustReply) → lookup_row k ws ≡ Some x → trust_reply_words x ≡ reply_keyword k ∷ ws
lookup_took key.Listed ws x e = took2 short_took long_took (λ m p. trust.Listed m p) trust_reply_words ws x _ (λ m p. refl) e
lookup_took key.Unlisted ws x e = took0 trust.Unlisted trust_reply_words ws x _ refl e
lookup_took other ws x e = nothing x e

trust_reply_took : (v : TrustEvent) (k : ReplyWord) (ws : List (List ℕ)) (x : TrustReply) → trust_reply_row v k ws ≡ Some x → trust_reply_words x ≡ reply_keyword k ∷ ws
trust_reply_took (trust_event.LoadModule cache) k ws x e = load_module_took k ws x e
trust_reply_took (trust_event.Lookup cdhash) k ws x e = lookup_took k ws x e

-- ---- any part

reply_took : (v : Event) (k : ReplyWord) (ws : List (List ℕ)) (x : Reply × ℕ) → reply_row v k ws ≡ Some x → reply_words x.1 x.0 ≡ reply_keyword k ∷ ws
reply_took (event.File v) k ws x e =
    let m = map_takes (λ (t : Told). (reply.File t.0, t.1)) (file_reply_row v k ws) x e in
    ap (λ (t : Reply × ℕ). reply_words t.1 t.0) (sym m.2) ∙ file_reply_took v k ws m.0 m.1
reply_took (event.Proc v) k ws x e =
    let m = map_takes (λ r. (reply.Proc r, 0)) (proc_reply_row v k ws) x e in
    ap (λ (t : Reply × ℕ). reply_words t.1 t.0) (sym m.2) ∙ proc_reply_took v k ws m.0 m.1
reply_took (event.Trust v) k ws x e =
    let m = map_takes (λ r. (reply.Trust r, 0)) (trust_reply_row v k ws) x e in
    ap (λ (t : Reply × ℕ). reply_words t.1 t.0) (sym m.2) ∙ trust_reply_took v k ws m.0 m.1

pub reply_is : (v : Event) (ws : List (List ℕ)) (x : Reply × ℕ) → reply_of v ws ≡ Some x → reply_words x.1 x.0 ≡ ws
unfolding reply_of reply_word
reply_is v [] x e = absurd cc
reply_is v (word ∷ ws) x e =
    let k = bind_some (λ key. reply_row v key ws) (named reply_keyword reply_keys word) x e in
    reply_took v k.0 ws x k.2 ∙ ap (λ (w : List ℕ). w ∷ ws) (sym (named_is reply_keyword reply_keys word k.0 k.1))
