-- What the words of an event say is in the bounds of its types.
use Rattle.std.proofs.Common.{◌≡◌, ℕ, Bool, List, [], ◌∷◌, Option, Some, refl, subst}
use Rattle.std.specs.Option.{option_and_then}
use Rattle.cs_policy.specs.declared.file.FileEvent.{FileEvent}
use Rattle.cs_policy.specs.declared.file.FileEvent.TheVariants as file
use Rattle.cs_policy.specs.declared.process.ProcEvent.{ProcEvent}
use Rattle.cs_policy.specs.declared.process.ProcEvent.TheVariants as proc
use Rattle.cs_policy.specs.declared.trust.TrustEvent.{TrustEvent}
use Rattle.cs_policy.specs.declared.trust.TrustEvent.TheVariants as trust
use Rattle.cs_policy.specs.declared.entry.Event.{Event}
use Rattle.cs_policy.specs.declared.entry.Event.TheVariants as event
use Rattle.cs_policy.specs.declared.entry.Place.{Place}
use Rattle.cs_policy.specs.declared.entry.Place.TheVariants as place
use Rattle.cs_policy.specs.declared.access.Access.{Access}
use Rattle.cs_policy.specs.declared.access.Prot.{Prot}
use Rattle.pg_words.specs.Names.{prot_word, share_word, access_word}
use Rattle.pg_words.proofs.HexFacts.{map_takes}
use Rattle.pg_report.specs.declared.words.FileWord.{FileWord}
use Rattle.pg_report.specs.declared.words.FileWord.TheVariants as file_key
use Rattle.pg_report.specs.declared.words.ProcWord.{ProcWord}
use Rattle.pg_report.specs.declared.words.ProcWord.TheVariants as proc_key
use Rattle.pg_report.specs.declared.words.TrustWord.{TrustWord}
use Rattle.pg_report.specs.declared.words.TrustWord.TheVariants as trust_key
use Rattle.pg_report.specs.Words.{file_word, proc_word, trust_word}
use Rattle.pg_report.specs.Forms.{long, short, file_form, process_form, address_form, stamp_form}
use Rattle.pg_report.specs.EventTable.{region_made, add_region, insert}
use Rattle.pg_report.specs.EventRows.{file_event_row, proc_event_row, trust_event_row, file_event_of, proc_event_of, trust_event_of, event_of}
use Rattle.pg_report.specs.Fits.{FileEventFits, ProcEventFits, TrustEventFits, EventFits}
use Rattle.pg_report.proofs.TookFacts.{bind_some, some_is}
use Rattle.pg_report.proofs.FormFits.{fit0, fit1, fit2, fit4, fit5, any_bound, long_bound, short_bound, file_bound, process_bound, cache_bound, stamp_bound, address_bound, flags_bound, cdhash_bound, few_bound, data_bound, refusal_bound}

region_fits : (ws : List (List ℕ)) (x : FileEvent) → add_region.says ws ≡ Some x → FileEventFits x
region_fits [] x e = absurd cc
region_fits (a ∷ []) x e = absurd cc
region_fits (a ∷ b ∷ []) x e = absurd cc
region_fits (a ∷ b ∷ c ∷ []) x e = absurd cc
region_fits (a ∷ b ∷ c ∷ d ∷ []) x e = absurd cc
region_fits (a ∷ b ∷ c ∷ d ∷ f ∷ []) x e = absurd cc
region_fits (a ∷ b ∷ c ∷ d ∷ f ∷ g ∷ []) x e = absurd cc
region_fits (a ∷ b ∷ c ∷ d ∷ f ∷ g ∷ h ∷ []) x e =
    let i = bind_some _ (short a) x e in
    let p = bind_some _ (process_form b) x i.2 in
    let o = bind_some _ (long c) x p.2 in
    let l = bind_some _ (long d) x o.2 in
    let r = bind_some _ (prot_word f) x l.2 in
    let s = bind_some _ (share_word g) x r.2 in
    let t = bind_some (λ stamp. Some (region_made i.0 p.0 o.0 l.0 r.0 s.0 stamp)) (stamp_form h) x s.2 in
    subst FileEventFits (some_is (region_made i.0 p.0 o.0 l.0 r.0 s.0 t.0) x t.2)
    (short_bound.fits a i.0 i.1, process_bound.fits b p.0 p.1, long_bound.fits c o.0 o.1, long_bound.fits d l.0 l.1, stamp_bound.fits h t.0 t.1)
region_fits (a ∷ b ∷ c ∷ d ∷ f ∷ g ∷ h ∷ j ∷ ws) x e = absurd cc

insert_fits : (ws : List (List ℕ)) (x : ProcEvent) → insert.says ws ≡ Some x → ProcEventFits x
insert_fits [] x e = absurd cc
insert_fits (a ∷ []) x e = absurd cc
insert_fits (a ∷ b ∷ []) x e = absurd cc
insert_fits (a ∷ b ∷ c ∷ []) x e = absurd cc
insert_fits (a ∷ b ∷ c ∷ d ∷ []) x e = absurd cc
insert_fits (a ∷ b ∷ c ∷ d ∷ f ∷ []) x e = absurd cc
insert_fits (a ∷ b ∷ c ∷ d ∷ f ∷ g ∷ []) x e =
    let i = bind_some _ (address_form a) x e in
    let p = bind_some _ (file_form b) x i.2 in
    let o = bind_some _ (long c) x p.2 in
    let l = bind_some _ (long d) x o.2 in
    let r = bind_some _ (prot_word f) x l.2 in
    let s = bind_some (λ shared. Some (proc.Insert i.0 p.0 0 o.0 l.0 r.0 shared)) (share_word g) x r.2 in
    subst ProcEventFits (some_is (proc.Insert i.0 p.0 0 o.0 l.0 r.0 s.0) x s.2)
    (address_bound.fits a i.0 i.1, file_bound.fits b p.0 p.1, long_bound.fits c o.0 o.1, long_bound.fits d l.0 l.1, refl)
insert_fits (a ∷ b ∷ c ∷ d ∷ f ∷ g ∷ h ∷ ws) x e = absurd cc

file_row_fits : (key : FileWord) (ws : List (List ℕ)) (x : FileEvent) → file_event_row key ws ≡ Some x → FileEventFits x
file_row_fits file_key.ReadSignature ws x e = fit1 FileEventFits x short_bound (λ s. file.ReadSignature s) ws (λ v p. p) e
file_row_fits file_key.AddBlob ws x e =
    fit4 FileEventFits x short_bound cdhash_bound stamp_bound stamp_bound (λ s c r l. file.AddBlob s c r l) ws (λ s c r l p q t u. (p, q, t, u)) e
file_row_fits file_key.RefuseBlob ws x e = fit2 FileEventFits x stamp_bound refusal_bound (λ r f. file.RefuseBlob r f) ws (λ r f p q. (p, q)) e
file_row_fits file_key.Write ws x e = fit2 FileEventFits x long_bound data_bound (λ a d. file.Write a d) ws (λ a d p q. (p, q)) e
file_row_fits file_key.AddRegion ws x e = region_fits ws x e
file_row_fits file_key.DropRegion ws x e = fit1 FileEventFits x short_bound (λ i. file.DropRegion i) ws (λ v p. p) e
file_row_fits file_key.DropPid ws x e = fit1 FileEventFits x process_bound (λ p. file.DropPid p) ws (λ v p. p) e
file_row_fits file_key.Enter ws x e =
    fit5 FileEventFits x short_bound long_bound (any_bound access_word) flags_bound stamp_bound (λ i p a f r. file.Enter i p a f r) ws (λ i p a f r b c d g h. (b, c, g, h)) e
file_row_fits file_key.Store ws x e =
    fit5 FileEventFits x short_bound long_bound short_bound (few_bound 64) stamp_bound (λ i p a b r. file.Store i p a b r) ws (λ i p a b r c d f g h. (c, d, f, g, h)) e
file_row_fits file_key.Load ws x e =
    fit5 FileEventFits x short_bound long_bound short_bound short_bound stamp_bound (λ i p a n r. file.Load i p a n r) ws (λ i p a n r c d f g h. (c, d, f, g, h)) e
file_row_fits file_key.Fetch ws x e =
    fit5 FileEventFits x short_bound long_bound short_bound short_bound stamp_bound (λ i p a n r. file.Fetch i p a n r) ws (λ i p a n r c d f g h. (c, d, f, g, h)) e
file_row_fits file_key.Evict ws x e = fit1 FileEventFits x long_bound (λ p. file.Evict p) ws (λ v p. p) e

proc_row_fits : (key : ProcWord) (ws : List (List ℕ)) (x : ProcEvent) → proc_event_row key ws ≡ Some x → ProcEventFits x
proc_row_fits proc_key.Start ws x e = fit0 ProcEventFits x proc.Start ws tt e
proc_row_fits proc_key.Insert ws x e = insert_fits ws x e
proc_row_fits proc_key.Resolve ws x e = fit2 ProcEventFits x address_bound (any_bound access_word) (λ a c. proc.Resolve a c) ws (λ a c p q. p) e
proc_row_fits proc_key.Remove ws x e = fit1 ProcEventFits x address_bound (λ a. proc.Remove a) ws (λ v p. p) e
proc_row_fits proc_key.Debug ws x e = fit0 ProcEventFits x proc.Debug ws tt e
proc_row_fits proc_key.Punish ws x e = fit0 ProcEventFits x proc.Punish ws tt e
proc_row_fits proc_key.ClearValid ws x e = fit0 ProcEventFits x proc.ClearValid ws tt e
proc_row_fits proc_key.Exit ws x e = fit0 ProcEventFits x proc.Exit ws tt e

trust_row_fits : (key : TrustWord) (ws : List (List ℕ)) (x : TrustEvent) → trust_event_row key ws ≡ Some x → TrustEventFits x
trust_row_fits trust_key.LoadModule ws x e = fit1 TrustEventFits x cache_bound (λ c. trust.LoadModule c) ws (λ v p. p) e
trust_row_fits trust_key.Lookup ws x e = fit1 TrustEventFits x cdhash_bound (λ c. trust.Lookup c) ws (λ v p. p) e

file_fits : (ws : List (List ℕ)) (x : FileEvent) → file_event_of ws ≡ Some x → FileEventFits x
unfolding file_event_of
file_fits [] x e = absurd cc
file_fits (word ∷ ws) x e = let k = bind_some (λ key. file_event_row key ws) (file_word word) x e in file_row_fits k.0 ws x k.2

proc_fits : (ws : List (List ℕ)) (x : ProcEvent) → proc_event_of ws ≡ Some x → ProcEventFits x
unfolding proc_event_of
proc_fits [] x e = absurd cc
proc_fits (word ∷ ws) x e = let k = bind_some (λ key. proc_event_row key ws) (proc_word word) x e in proc_row_fits k.0 ws x k.2

trust_fits : (ws : List (List ℕ)) (x : TrustEvent) → trust_event_of ws ≡ Some x → TrustEventFits x
unfolding trust_event_of
trust_fits [] x e = absurd cc
trust_fits (word ∷ ws) x e = let k = bind_some (λ key. trust_event_row key ws) (trust_word word) x e in trust_row_fits k.0 ws x k.2

pub event_fits : (p : Place) (ws : List (List ℕ)) (x : Event) → event_of p ws ≡ Some x → EventFits p x
event_fits (place.File f) ws x e = let m = map_takes (λ v. event.File v) (file_event_of ws) x e in subst (EventFits (place.File f)) m.2 (file_fits ws m.0 m.1)
event_fits (place.Process p) ws x e = let m = map_takes (λ v. event.Proc v) (proc_event_of ws) x e in subst (EventFits (place.Process p)) m.2 (proc_fits ws m.0 m.1)
event_fits place.Trust ws x e = let m = map_takes (λ v. event.Trust v) (trust_event_of ws) x e in subst (EventFits place.Trust) m.2 (trust_fits ws m.0 m.1)
