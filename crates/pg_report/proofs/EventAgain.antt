-- The words of an event as it is printed say the event.
use Rattle.std.proofs.Common.{◌≡◌, ℕ, true, false, List, ◌∷◌, Some, option_map, refl, ap, ◌∙◌}
use Rattle.std.specs.Option.{option_and_then}
use Rattle.cs_policy.specs.declared.file.FileEvent.{FileEvent}
use Rattle.cs_policy.specs.declared.file.FileEvent.TheVariants as file
use Rattle.cs_policy.specs.declared.process.ProcEvent.{ProcEvent}
use Rattle.cs_policy.specs.declared.process.ProcEvent.TheVariants as proc
use Rattle.cs_policy.specs.declared.trust.TrustEvent.{TrustEvent}
use Rattle.cs_policy.specs.declared.trust.TrustEvent.TheVariants as trust
use Rattle.cs_policy.specs.declared.entry.Event.{Event}
use Rattle.cs_policy.specs.declared.entry.Event.TheVariants as event
use Rattle.cs_policy.specs.declared.entry.Place.{Place}
use Rattle.cs_policy.specs.declared.entry.Place.TheVariants as place
use Rattle.pg_words.specs.Names.{access_word}
use Rattle.pg_words.specs.Lines.{is_word}
use Rattle.pg_report.specs.declared.words.FileWord.{FileWord}
use Rattle.pg_report.specs.declared.words.FileWord.TheVariants as file_key
use Rattle.pg_report.specs.declared.words.ProcWord.{ProcWord}
use Rattle.pg_report.specs.declared.words.ProcWord.TheVariants as proc_key
use Rattle.pg_report.specs.declared.words.TrustWord.{TrustWord}
use Rattle.pg_report.specs.declared.words.TrustWord.TheVariants as trust_key
use Rattle.pg_report.specs.Words.{file_word, proc_word, trust_word, file_keyword, proc_keyword, trust_keyword}
use Rattle.pg_report.specs.Forms.{long, short, process_form, cache_form, address_form, stamp_form, flags_form, cdhash_form, few_bytes, data_form, refusal_form}
use Rattle.pg_report.specs.EventRows.{file_event_row, proc_event_row, trust_event_row, file_event_of, proc_event_of, trust_event_of, event_of}
use Rattle.pg_report.specs.Events.{file_event_words, proc_event_words, trust_event_words, event_words}
use Rattle.pg_report.specs.Reading.{is_arrow}
use Rattle.pg_report.specs.Fits.{FileEventFits, ProcEventFits, TrustEventFits, EventFits}
use Rattle.pg_report.proofs.RowAgain.{Row, row0_of, row1_of, row2_of, row4_of, row5_of, long_col, short_col, file_col, process_col, cache_col, stamp_col, addr_col, cdhash_col, few_col, flags_col, data_col, prot_col, share_col, access_col, refusal_col}

-- ---- files

file_key_again : (k : FileWord) → (file_word (file_keyword k) ≡ Some k) × (is_word (file_keyword k) ≡ true) × (is_arrow (file_keyword k) ≡ false)
unfolding file_word
file_key_again file_key.ReadSignature = (refl, refl, refl)
file_key_again file_key.AddBlob = (refl, refl, refl)
file_key_again file_key.RefuseBlob = (refl, refl, refl)
file_key_again file_key.Write = (refl, refl, refl)
file_key_again file_key.AddRegion = (refl, refl, refl)
file_key_again file_key.DropRegion = (refl, refl, refl)
file_key_again file_key.DropPid = (refl, refl, refl)
file_key_again file_key.Enter = (refl, refl, refl)
file_key_again file_key.Store = (refl, refl, refl)
file_key_again file_key.Load = (refl, refl, refl)
file_key_again file_key.Fetch = (refl, refl, refl)
file_key_again file_key.Evict = (refl, refl, refl)

file_keyed : (k : FileWord) (words : List (List ℕ)) (e : FileEvent) → Row (file_event_row k) words e → Row file_event_of (file_keyword k ∷ words) e
unfolding file_event_of
file_keyed k words e r =
    let key = file_key_again k in
    record { says = ap (option_and_then (λ key. file_event_row key words)) key.0 ∙ r.says; are = (key.1, r.are); plain = (key.2, r.plain) }

file_event_again : (e : FileEvent) → FileEventFits e → Row file_event_of (file_event_words e) e
file_event_again (file.ReadSignature slice) f = file_keyed file_key.ReadSignature _ _ (row1_of short (λ s. file.ReadSignature s) (short_col slice f))
file_event_again (file.AddBlob slice cdhash read lookup) f =
    file_keyed file_key.AddBlob _ _ (row4_of short cdhash_form stamp_form stamp_form (λ s c r l. file.AddBlob s c r l) (short_col slice f.0) (cdhash_col cdhash f.1) (stamp_col read f.2) (stamp_col lookup f.3))
file_event_again (file.RefuseBlob read refusal) f = file_keyed file_key.RefuseBlob _ _ (row2_of stamp_form refusal_form (λ r x. file.RefuseBlob r x) (stamp_col read f.0) (refusal_col refusal f.1))
file_event_again (file.Write at piece) f = file_keyed file_key.Write _ _ (row2_of long data_form (λ a p. file.Write a p) (long_col at f.0) (data_col piece f.1))
file_event_again (file.AddRegion region insert) f =
    let a = short_col region.id f.0 in
    let b = process_col region.pid f.1 in
    let c = long_col region.first f.2 in
    let d = long_col region.pages f.3 in
    let g = prot_col region.prot in
    let h = share_col region.shared in
    let i = stamp_col insert f.4 in
    file_keyed file_key.AddRegion _ _ (record {
      says = rw (a.says, b.says, c.says, d.says, g.says, h.says, i.says) refl;
      are = (a.word, (b.word, (c.word, (d.word, (g.word, (h.word, (i.word, tt)))))));
      plain = (a.plain, (b.plain, (c.plain, (d.plain, (g.plain, (h.plain, (i.plain, tt)))))));
    })
file_event_again (file.DropRegion id) f = file_keyed file_key.DropRegion _ _ (row1_of short (λ i. file.DropRegion i) (short_col id f))
file_event_again (file.DropPid pid) f = file_keyed file_key.DropPid _ _ (row1_of process_form (λ p. file.DropPid p) (process_col pid f))
file_event_again (file.Enter id page access flags resolve) f =
    file_keyed file_key.Enter _ _ (row5_of short long access_word flags_form stamp_form (λ i p a g r. file.Enter i p a g r) (short_col id f.0) (long_col page f.1) (access_col access) (flags_col flags f.2) (stamp_col resolve f.3))
file_event_again (file.Store id page at bytes resolve) f =
    file_keyed file_key.Store _ _ (row5_of short long short (few_bytes 64) stamp_form (λ i p a b r. file.Store i p a b r) (short_col id f.0) (long_col page f.1) (short_col at f.2) (few_col 64 bytes f.3) (stamp_col resolve f.4))
file_event_again (file.Load id page at count resolve) f =
    file_keyed file_key.Load _ _ (row5_of short long short short stamp_form (λ i p a b r. file.Load i p a b r) (short_col id f.0) (long_col page f.1) (short_col at f.2) (short_col count f.3) (stamp_col resolve f.4))
file_event_again (file.Fetch id page at count resolve) f =
    file_keyed file_key.Fetch _ _ (row5_of short long short short stamp_form (λ i p a b r. file.Fetch i p a b r) (short_col id f.0) (long_col page f.1) (short_col at f.2) (short_col count f.3) (stamp_col resolve f.4))
file_event_again (file.Evict page) f = file_keyed file_key.Evict _ _ (row1_of long (λ p. file.Evict p) (long_col page f))

-- ---- processes

proc_key_again : (k : ProcWord) → (proc_word (proc_keyword k) ≡ Some k) × (is_word (proc_keyword k) ≡ true) × (is_arrow (proc_keyword k) ≡ false)
unfolding proc_word
proc_key_again proc_key.Start = (refl, refl, refl)
proc_key_again proc_key.Insert = (refl, refl, refl)
proc_key_again proc_key.Resolve = (refl, refl, refl)
proc_key_again proc_key.Remove = (refl, refl, refl)
proc_key_again proc_key.Debug = (refl, refl, refl)
proc_key_again proc_key.Punish = (refl, refl, refl)
proc_key_again proc_key.ClearValid = (refl, refl, refl)
proc_key_again proc_key.Exit = (refl, refl, refl)

proc_keyed : (k : ProcWord) (words : List (List ℕ)) (e : ProcEvent) → Row (proc_event_row k) words e → Row proc_event_of (proc_keyword k ∷ words) e
unfolding proc_event_of
proc_keyed k words e r =
    let key = proc_key_again k in
    record { says = ap (option_and_then (λ key. proc_event_row key words)) key.0 ∙ r.says; are = (key.1, r.are); plain = (key.2, r.plain) }

proc_event_again : (e : ProcEvent) → ProcEventFits e → Row proc_event_of (proc_event_words e) e
proc_event_again proc.Start f = proc_keyed proc_key.Start _ _ (row0_of proc.Start)
proc_event_again (proc.Insert at file file_pages first pages prot shared) f =
    let a = addr_col at f.0 in
    let b = file_col file f.1 in
    let c = long_col first f.2 in
    let d = long_col pages f.3 in
    let g = prot_col prot in
    let h = share_col shared in
    proc_keyed proc_key.Insert _ _ (record {
      says = rw (a.says, b.says, c.says, d.says, g.says, h.says, f.4) refl;
      are = (a.word, (b.word, (c.word, (d.word, (g.word, (h.word, tt))))));
      plain = (a.plain, (b.plain, (c.plain, (d.plain, (g.plain, (h.plain, tt))))));
    })
proc_event_again (proc.Resolve addr access) f = proc_keyed proc_key.Resolve _ _ (row2_of address_form access_word (λ a x. proc.Resolve a x) (addr_col addr f) (access_col access))
proc_event_again (proc.Remove at) f = proc_keyed proc_key.Remove _ _ (row1_of address_form (λ a. proc.Remove a) (addr_col at f))
proc_event_again proc.Debug f = proc_keyed proc_key.Debug _ _ (row0_of proc.Debug)
proc_event_again proc.Punish f = proc_keyed proc_key.Punish _ _ (row0_of proc.Punish)
proc_event_again proc.ClearValid f = proc_keyed proc_key.ClearValid _ _ (row0_of proc.ClearValid)
proc_event_again proc.Exit f = proc_keyed proc_key.Exit _ _ (row0_of proc.Exit)

-- ---- the trust list

trust_key_again : (k : TrustWord) → (trust_word (trust_keyword k) ≡ Some k) × (is_word (trust_keyword k) ≡ true) × (is_arrow (trust_keyword k) ≡ false)
unfolding trust_word
trust_key_again trust_key.LoadModule = (refl, refl, refl)
trust_key_again trust_key.Lookup = (refl, refl, refl)

trust_keyed : (k : TrustWord) (words : List (List ℕ)) (e : TrustEvent) → Row (trust_event_row k) words e → Row trust_event_of (trust_keyword k ∷ words) e
unfolding trust_event_of
trust_keyed k words e r =
    let key = trust_key_again k in
    record { says = ap (option_and_then (λ key. trust_event_row key words)) key.0 ∙ r.says; are = (key.1, r.are); plain = (key.2, r.plain) }

trust_event_again : (e : TrustEvent) → TrustEventFits e → Row trust_event_of (trust_event_words e) e
trust_event_again (trust.LoadModule cache) f = trust_keyed trust_key.LoadModule _ _ (row1_of cache_form (λ c. trust.LoadModule c) (cache_col cache f))
trust_event_again (trust.Lookup cdhash) f = trust_keyed trust_key.Lookup _ _ (row1_of cdhash_form (λ c. trust.Lookup c) (cdhash_col cdhash f))

-- an event of its place
pub event_again : (p : Place) (e : Event) → EventFits p e → Row (event_of p) (event_words e) e
event_again (place.File n) (event.File e) f = let r = file_event_again e f in record { says = ap (option_map (λ x. event.File x)) r.says; are = r.are; plain = r.plain }
event_again (place.File n) (event.Proc e) f = elim f [ ]
event_again (place.File n) (event.Trust e) f = elim f [ ]
event_again (place.Process n) (event.Proc e) f = let r = proc_event_again e f in record { says = ap (option_map (λ x. event.Proc x)) r.says; are = r.are; plain = r.plain }
event_again (place.Process n) (event.File e) f = elim f [ ]
event_again (place.Process n) (event.Trust e) f = elim f [ ]
event_again place.Trust (event.Trust e) f = let r = trust_event_again e f in record { says = ap (option_map (λ x. event.Trust x)) r.says; are = r.are; plain = r.plain }
event_again place.Trust (event.File e) f = elim f [ ]
event_again place.Trust (event.Proc e) f = elim f [ ]
