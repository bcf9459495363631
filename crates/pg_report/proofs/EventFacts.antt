-- The words that say an event are how the event is printed.
use Rattle.std.proofs.Common.{◌≡◌, ℕ, Bool, true, false, cond, List, [], ◌∷◌, Some, refl, ap, sym, ◌∙◌}
use Rattle.std.specs.Prelude.{bytes_eq}
use Rattle.cs_policy.specs.declared.file.FileEvent.{FileEvent}
use Rattle.cs_policy.specs.declared.file.FileEvent.TheVariants as file
use Rattle.cs_policy.specs.declared.process.ProcEvent.{ProcEvent}
use Rattle.cs_policy.specs.declared.process.ProcEvent.TheVariants as proc
use Rattle.cs_policy.specs.declared.trust.TrustEvent.{TrustEvent}
use Rattle.cs_policy.specs.declared.trust.TrustEvent.TheVariants as trust
use Rattle.cs_policy.specs.declared.entry.Event.{Event}
use Rattle.cs_policy.specs.declared.entry.Event.TheVariants as event
use Rattle.cs_policy.specs.declared.entry.Place.{Place}
use Rattle.cs_policy.specs.declared.entry.Place.TheVariants as place
use Rattle.pg_words.specs.Names.{prot_word, share_word}
use Rattle.pg_words.specs.Rows.{named}
use Rattle.pg_words.proofs.NameFacts.{is_word_text}
use Rattle.pg_words.proofs.HexFacts.{map_takes}
use Rattle.pg_report.specs.declared.words.FileWord.{FileWord}
use Rattle.pg_report.specs.declared.words.FileWord.TheVariants as file_key
use Rattle.pg_report.specs.declared.words.ProcWord.{ProcWord}
use Rattle.pg_report.specs.declared.words.ProcWord.TheVariants as proc_key
use Rattle.pg_report.specs.declared.words.TrustWord.{TrustWord}
use Rattle.pg_report.specs.declared.words.TrustWord.TheVariants as trust_key
use Rattle.pg_report.specs.Words.{file_keyword, file_words, file_word, proc_keyword, proc_words, proc_word, trust_keyword, trust_words, trust_word}
use Rattle.pg_report.specs.Forms.{long, short, file_form, process_form, address_form, stamp_form}
use Rattle.pg_report.specs.Events.{file_event_words, proc_event_words, trust_event_words, event_words}
use Rattle.pg_report.specs.EventTable.{region_made, add_region, insert}
use Rattle.pg_report.specs.EventRows.{file_event_row, proc_event_row, trust_event_row, file_event_of, proc_event_of, trust_event_of, event_of}
use Rattle.pg_report.proofs.TookFacts.{named_is, bind_some, some_is, took0, took1, took2, took4, took5, long_took, short_took, process_took, file_took, cache_took, address_took, stamp_took, cdhash_took, data_took, few_took, flags_took, prot_took, share_took, access_took, refusal_took}

region_took : (ws : List (List ℕ)) (x : FileEvent) → add_region.says ws ≡ Some x → file_event_words x ≡ file_keyword file_key.AddRegion ∷ ws
region_took [] x e = absurd cc
region_took (a ∷ []) x e = absurd cc
region_took (a ∷ b ∷ []) x e = absurd cc
region_took (a ∷ b ∷ c ∷ []) x e = absurd cc
region_took (a ∷ b ∷ c ∷ d ∷ []) x e = absurd cc
region_took (a ∷ b ∷ c ∷ d ∷ f ∷ []) x e = absurd cc
region_took (a ∷ b ∷ c ∷ d ∷ f ∷ g ∷ []) x e = absurd cc
region_took (a ∷ b ∷ c ∷ d ∷ f ∷ g ∷ h ∷ []) x e =
    let i = bind_some _ (short a) x e in
    let p = bind_some _ (process_form b) x i.2 in
    let o = bind_some _ (long c) x p.2 in
    let l = bind_some _ (long d) x o.2 in
    let r = bind_some _ (prot_word f) x l.2 in
    let s = bind_some _ (share_word g) x r.2 in
    let t = bind_some (λ stamp. Some (region_made i.0 p.0 o.0 l.0 r.0 s.0 stamp)) (stamp_form h) x s.2 in
    ap file_event_words (sym (some_is (region_made i.0 p.0 o.0 l.0 r.0 s.0 t.0) x t.2))
    ∙ (λ k. file_keyword file_key.AddRegion ∷ sym (short_took.is a i.0 i.1) k ∷ sym (process_took.is b p.0 p.1) k ∷ sym (long_took.is c o.0 o.1) k
    ∷ sym (long_took.is d l.0 l.1) k ∷ sym (prot_took.is f r.0 r.1) k ∷ sym (share_took.is g s.0 s.1) k ∷ sym (stamp_took.is h t.0 t.1) k ∷ [])
region_took (a ∷ b ∷ c ∷ d ∷ f ∷ g ∷ h ∷ j ∷ ws) x e = absurd cc

insert_took : (ws : List (List ℕ)) (x : ProcEvent) → insert.says ws ≡ Some x → proc_event_words x ≡ proc_keyword proc_key.Insert ∷ ws
insert_took [] x e = absurd cc
insert_took (a ∷ []) x e = absurd cc
insert_took (a ∷ b ∷ []) x e = absurd cc
insert_took (a ∷ b ∷ c ∷ []) x e = absurd cc
insert_took (a ∷ b ∷ c ∷ d ∷ []) x e = absurd cc
insert_took (a ∷ b ∷ c ∷ d ∷ f ∷ []) x e = absurd cc
insert_took (a ∷ b ∷ c ∷ d ∷ f ∷ g ∷ []) x e =
    let i = bind_some _ (address_form a) x e in
    let p = bind_some _ (file_form b) x i.2 in
    let o = bind_some _ (long c) x p.2 in
    let l = bind_some _ (long d) x o.2 in
    let r = bind_some _ (prot_word f) x l.2 in
    let s = bind_some (λ shared. Some (proc.Insert i.0 p.0 0 o.0 l.0 r.0 shared)) (share_word g) x r.2 in
    ap proc_event_words (sym (some_is (proc.Insert i.0 p.0 0 o.0 l.0 r.0 s.0) x s.2))
    ∙ (λ k. proc_keyword proc_key.Insert ∷ sym (address_took.is a i.0 i.1) k ∷ sym (file_took.is b p.0 p.1) k ∷ sym (long_took.is c o.0 o.1) k
    ∷ sym (long_took.is d l.0 l.1) k ∷ sym (prot_took.is f r.0 r.1) k ∷ sym (share_took.is g s.0 s.1) k ∷ [])
insert_took (a ∷ b ∷ c ∷ d ∷ f ∷ g ∷ h ∷ ws) x e = absurd cc

file_took_so : (key : FileWord) (ws : List (List ℕ)) (x : FileEvent) → file_event_row key ws ≡ Some x → file_event_words x ≡ file_keyword key ∷ ws
file_took_so file_key.ReadSignature ws x e = took1 short_took (λ s. file.ReadSignature s) file_event_words ws x _ (λ v. refl) e
file_took_so file_key.AddBlob ws x e = took4 short_took cdhash_took stamp_took stamp_took (λ s c r l. file.AddBlob s c r l) file_event_words ws x _ (λ s c r l. refl) e
file_took_so file_key.RefuseBlob ws x e = took2 stamp_took refusal_took (λ r f. file.RefuseBlob r f) file_event_words ws x _ (λ r f. refl) e
file_took_so file_key.Write ws x e = took2 long_took data_took (λ a p. file.Write a p) file_event_words ws x _ (λ a p. refl) e
file_took_so file_key.AddRegion ws x e = region_took ws x e
file_took_so file_key.DropRegion ws x e = took1 short_took (λ i. file.DropRegion i) file_event_words ws x _ (λ v. refl) e
file_took_so file_key.DropPid ws x e = took1 process_took (λ p. file.DropPid p) file_event_words ws x _ (λ v. refl) e
file_took_so file_key.Enter ws x e =
    took5 short_took long_took access_took flags_took stamp_took (λ i p a f r. file.Enter i p a f r) file_event_words ws x _ (λ i p a f r. refl) e
file_took_so file_key.Store ws x e =
    took5 short_took long_took short_took (few_took 64) stamp_took (λ i p a b r. file.Store i p a b r) file_event_words ws x _ (λ i p a b r. refl) e
file_took_so file_key.Load ws x e =
    took5 short_took long_took short_took short_took stamp_took (λ i p a c r. file.Load i p a c r) file_event_words ws x _ (λ i p a c r. refl) e
file_took_so file_key.Fetch ws x e =
    took5 short_took long_took short_took short_took stamp_took (λ i p a c r. file.Fetch i p a c r) file_event_words ws x _ (λ i p a c r. refl) e
file_took_so file_key.Evict ws x e = took1 long_took (λ p. file.Evict p) file_event_words ws x _ (λ v. refl) e

proc_took_so : (key : ProcWord) (ws : List (List ℕ)) (x : ProcEvent) → proc_event_row key ws ≡ Some x → proc_event_words x ≡ proc_keyword key ∷ ws
proc_took_so proc_key.Start ws x e = took0 proc.Start proc_event_words ws x _ refl e
proc_took_so proc_key.Insert ws x e = insert_took ws x e
proc_took_so proc_key.Resolve ws x e = took2 address_took access_took (λ a c. proc.Resolve a c) proc_event_words ws x _ (λ a c. refl) e
proc_took_so proc_key.Remove ws x e = took1 address_took (λ a. proc.Remove a) proc_event_words ws x _ (λ a. refl) e
proc_took_so proc_key.Debug ws x e = took0 proc.Debug proc_event_words ws x _ refl e
proc_took_so proc_key.Punish ws x e = took0 proc.Punish proc_event_words ws x _ refl e
proc_took_so proc_key.ClearValid ws x e = took0 proc.ClearValid proc_event_words ws x _ refl e
proc_took_so proc_key.Exit ws x e = took0 proc.Exit proc_event_words ws x _ refl e

trust_took_so : (key : TrustWord) (ws : List (List ℕ)) (x : TrustEvent) → trust_event_row key ws ≡ Some x → trust_event_words x ≡ trust_keyword key ∷ ws
trust_took_so trust_key.LoadModule ws x e = took1 cache_took (λ c. trust.LoadModule c) trust_event_words ws x _ (λ c. refl) e
trust_took_so trust_key.Lookup ws x e = took1 cdhash_took (λ c. trust.Lookup c) trust_event_words ws x _ (λ c. refl) e

file_event_is : (ws : List (List ℕ)) (x : FileEvent) → file_event_of ws ≡ Some x → file_event_words x ≡ ws
unfolding file_event_of file_word
file_event_is [] x e = absurd cc
file_event_is (word ∷ ws) x e =
    let k = bind_some (λ key. file_event_row key ws) (named file_keyword file_words word) x e in
    file_took_so k.0 ws x k.2 ∙ ap (λ (w : List ℕ). w ∷ ws) (sym (named_is file_keyword file_words word k.0 k.1))

proc_event_is : (ws : List (List ℕ)) (x : ProcEvent) → proc_event_of ws ≡ Some x → proc_event_words x ≡ ws
unfolding proc_event_of proc_word
proc_event_is [] x e = absurd cc
proc_event_is (word ∷ ws) x e =
    let k = bind_some (λ key. proc_event_row key ws) (named proc_keyword proc_words word) x e in
    proc_took_so k.0 ws x k.2 ∙ ap (λ (w : List ℕ). w ∷ ws) (sym (named_is proc_keyword proc_words word k.0 k.1))

trust_event_is : (ws : List (List ℕ)) (x : TrustEvent) → trust_event_of ws ≡ Some x → trust_event_words x ≡ ws
unfolding trust_event_of trust_word
trust_event_is [] x e = absurd cc
trust_event_is (word ∷ ws) x e =
    let k = bind_some (λ key. trust_event_row key ws) (named trust_keyword trust_words word) x e in
    trust_took_so k.0 ws x k.2 ∙ ap (λ (w : List ℕ). w ∷ ws) (sym (named_is trust_keyword trust_words word k.0 k.1))

pub event_is : (p : Place) (ws : List (List ℕ)) (x : Event) → event_of p ws ≡ Some x → event_words x ≡ ws
event_is (place.File f) ws x e = let m = map_takes (λ v. event.File v) (file_event_of ws) x e in ap event_words (sym m.2) ∙ file_event_is ws m.0 m.1
event_is (place.Process p) ws x e = let m = map_takes (λ v. event.Proc v) (proc_event_of ws) x e in ap event_words (sym m.2) ∙ proc_event_is ws m.0 m.1
event_is place.Trust ws x e = let m = map_takes (λ v. event.Trust v) (trust_event_of ws) x e in ap event_words (sym m.2) ∙ trust_event_is ws m.0 m.1
