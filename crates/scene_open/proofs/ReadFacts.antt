-- What a read and what is made of its bytes answer of an item.
use Rattle.std.proofs.Common.{◌≡◌, ℕ, ◌≤◌, ◌⊎◌, inl, inr, cond, Bool, true, false, ltb, List, [], ◌∷◌, ◌++◌, length, take, Option, Some, None, Result, Ok, Err, refl, ap, sym, subst, ◌∙◌}
use Rattle.std.specs.Prelude.{is_some}
use Rattle.std.specs.Global.{Vec}
use Rattle.std.proofs.lemmas.List.{take_all, append-nil}
use Rattle.pg_bytes.specs.declared.status.Status.{Status}
use Rattle.pg_bytes.specs.declared.status.Status.TheVariants as status
use Rattle.pg_bytes.specs.declared.status.Which.TheVariants.{FileBytes, SignatureBytes}
use Rattle.pg_io.specs.Files.{Told, next_read, after_read, GivesFirst}
use Rattle.cs_policy.specs.declared.layout.Layout.{Layout}
use Rattle.cs_policy.specs.declared.refusal.Refusal.{Refusal}
use Rattle.cs_trust.specs.declared.refusal.TrustRefusal.{TrustRefusal}
use Rattle.cs_trust.specs.Layout.{entries}
use Rattle.cs_trust.specs.Listed.{Table, listing}
use Rattle.cs_trust.specs.Rules as trust
use Rattle.cs_trust.specs.Rules.{IsModule}
use Rattle.scene_text.specs.declared.head.Head.{Head}
use Rattle.scene_text.specs.declared.head.Head.TheVariants as head
use Rattle.scene_open.specs.declared.draft.Draft.{Draft}
use Rattle.scene_open.specs.Layouts.{macho_layout, raw_layout, has_long}
use Rattle.scene_open.specs.Items.{path_of, told_behind, file_end, static_end, bytes_end}
use Rattle.scene_open.specs.Opening.{table_by}
use Rattle.scene_open.specs.Ends.{IsEndCaused, IsCaused}
use Rattle.scene_open.specs.Drafts.{ReadsOf, ReadsFirst, GivesFile, HasFile, AddsFile, HasStatic, HasCache, Adds, TriesModule, GivesCache, IsAdded, TakesIt, EndsAt, Takes}
use Rattle.scene_open.proofs.CutFacts.{IsCut, is_all, is_longer, cut, long_file, broken_cut, accepted_whole}

-- ---- reads

told_some : (t u : Told) → Some t ≡ Some u → t ≡ u
told_some t u e = cc

pub reads_ok : (path : List ℕ) (most : ℕ) (before : Option Told) (v : Vec ℕ) (now : Option Told)
    → ((t : Told) → before ≡ Some t → GivesFirst (next_read t path) most v.items × (now ≡ Some (after_read t))) → length v.items ≤ most → ReadsFirst path most before v.items now
reads_ok path most None v now gives few = record { whole = v.items; read = record { told = λ t is. absurd cc }; first = sym (take_all most v.items few) }
reads_ok path most (Some t) v now gives few =
    let g = gives t refl in
    record {
      whole = g.0.whole;
      read = record {
        told = λ u is. let same = told_some t u is in
            (sym g.0.found_whole ∙ ap (λ w. next_read w path) same, g.1 ∙ ap (λ w. Some (after_read w)) same);
      };
      first = g.0.given_first;
    }

pub reads_none : (path : List ℕ) (before now : Option Told)
    → ((t : Told) → before ≡ Some t → (next_read t path ≡ None) × (now ≡ Some (after_read t))) → ReadsOf (Some path) before None now
reads_none path before now gives = record { told = λ t is. (sym (gives t is).0, (gives t is).1) }

-- ---- a read that ends the run

pub read_ends : (heads : List Head) (number : ℕ) (h : Head) (path : List ℕ) (most : ℕ) (old new : Draft) (before now : Option Told) (s : Status)
    → path_of h ≡ Some path → GivesFile path most number before now (Err s) → Takes heads number h old before new now (Err s)
read_ends heads number h path most old new before now status.Done is gives = absurd gives
read_ends heads number h path most old new before now status.NotSealed is gives = absurd gives
read_ends heads number h path most old new before now status.Usage is gives = absurd gives
read_ends heads number h path most old new before now (status.SceneBad line kind) is gives = absurd gives
read_ends heads number h path most old new before now (status.FileFault item) is gives = record {
  found = None;
  read = rw is gives.1;
  ends = ap (λ (p : Option (List ℕ)). cond (is_some p) (Some (status.FileFault number)) None) is ∙ ap (λ n. Some (status.FileFault n)) (sym gives.0);
}
read_ends heads number h path most old new before now status.SinkFault is gives = absurd gives
read_ends heads number h path most old new before now (status.Limit which limit) is gives = absurd gives
read_ends heads number h path most old new before now (status.TrustBad item n arg) is gives = absurd gives
read_ends heads number h path most old new before now status.NoMemory is gives = λ t e. inl (gives t e)

-- memory ran out behind a read
pub read_stops : (h : Head) (path : List ℕ) (most : ℕ) (before : Option Told) (bytes : List ℕ) (now : Option Told) → path_of h ≡ Some path → ReadsFirst path most before bytes now
    → (t : Told) → before ≡ Some t → (now ≡ Some t) ⊎ (now ≡ Some (told_behind t (path_of h)))
read_stops h path most before bytes now is read t e = rw is (inr (read.read.told t e).1)

-- ---- files

none_some : {A : Type 0} (x : A) (o : Option A) → o ≡ None → o ≡ Some x → ⊥
none_some x o a b = let e = sym a ∙ b in absurd cc

-- the bytes of a file within the limits are all
whole_file : (lay : List ℕ → Layout) (whole bytes : List ℕ) → IsCut 67108864 whole bytes → file_end bytes (lay bytes) ≡ None → bytes ≡ whole
whole_file lay whole bytes (is_all same) kept = same
whole_file lay whole bytes (is_longer long longer) kept = absurd (none_some _ _ kept (long_file bytes (lay bytes) long))

-- the first bytes of a file end the run as all of them do
same_end : (lay : List ℕ → Layout) (whole bytes : List ℕ) → IsCut 67108864 whole bytes → file_end bytes (lay bytes) ≡ file_end whole (lay whole)
same_end lay whole bytes (is_all same) = ap (λ b. file_end b (lay b)) same
same_end lay whole bytes (is_longer long longer) = long_file bytes (lay bytes) long ∙ sym (long_file whole (lay whole) longer)

module _ (heads : List Head) (number : ℕ) (h : Head) (path : List ℕ) (lay : List ℕ → Layout) (old new : Draft) (before now : Option Told)
    (is : path_of h ≡ Some path)
    (ending : (b : List ℕ) → bytes_end number h b ≡ file_end b (lay b))
    (added : (b : List ℕ) → HasFile heads old b (lay b) new → IsAdded heads old (record { head = h; found = Some b }) new) where
  file_ends : (bytes : List ℕ) (s : Status) → ReadsFirst path 67108865 before bytes now → file_end bytes (lay bytes) ≡ Some s → EndsAt number h before s now
  file_ends bytes s read e = record {
    found = Some read.whole;
    read = rw is read.read;
    ends = ending read.whole ∙ sym (same_end lay read.whole bytes (cut 67108864 read.whole bytes read.first)) ∙ e;
  }

  pub takes_file : (bytes : List ℕ) (result : Result (Unit {0}) Status) → ReadsFirst path 67108865 before bytes now → AddsFile heads old bytes (lay bytes) new result
      → Takes heads number h old before new now result
  takes_file bytes (Ok u) read adds =
      let same = whole_file lay read.whole bytes (cut 67108864 read.whole bytes read.first) adds.0 in
      record {
        found = Some read.whole;
        read = rw is read.read;
        passes = ending read.whole ∙ ap (λ b. file_end b (lay b)) (sym same) ∙ adds.0;
        added = added read.whole (subst (λ b. HasFile heads old b (lay b) new) same adds.1);
      }
  takes_file bytes (Err status.Done) read adds = file_ends bytes _ read adds
  takes_file bytes (Err status.NotSealed) read adds = file_ends bytes _ read adds
  takes_file bytes (Err status.Usage) read adds = file_ends bytes _ read adds
  takes_file bytes (Err (status.SceneBad line kind)) read adds = file_ends bytes _ read adds
  takes_file bytes (Err (status.FileFault item)) read adds = file_ends bytes _ read adds
  takes_file bytes (Err status.SinkFault) read adds = file_ends bytes _ read adds
  takes_file bytes (Err (status.Limit which limit)) read adds = file_ends bytes _ read adds
  takes_file bytes (Err (status.TrustBad item n arg)) read adds = file_ends bytes _ read adds
  takes_file bytes (Err status.NoMemory) read adds = read_stops h path 67108865 before bytes now is read

pub takes_macho : (heads : List Head) (number : ℕ) (path : List ℕ) (old new : Draft) (before now : Option Told) (bytes : List ℕ) (layout : Layout) (result : Result (Unit {0}) Status)
    → layout ≡ macho_layout bytes → ReadsFirst path 67108865 before bytes now → AddsFile heads old bytes layout new result → Takes heads number (head.File path) old before new now result
takes_macho heads number path old new before now bytes layout result is read adds =
    takes_file heads number (head.File path) path macho_layout old new before now refl (λ b. refl)
    (λ b has. record {
      pagers = has.pagers;
      layouts = has.layouts;
      statics = ap (λ v. v.items) has.statics ∙ sym (append-nil old.statics.items);
      caches = ap (λ v. v.items) has.caches ∙ sym (append-nil old.caches.items);
    }) bytes result read (rw is at adds)

pub takes_raw : (heads : List Head) (number : ℕ) (path : List ℕ) (off len : ℕ) (old new : Draft) (before now : Option Told) (bytes : List ℕ) (layout : Layout) (result : Result (Unit {0}) Status)
    → layout ≡ raw_layout bytes (record { at = off; len = len }) → ReadsFirst path 67108865 before bytes now → AddsFile heads old bytes layout new result
    → Takes heads number (head.Raw path off len) old before new now result
takes_raw heads number path off len old new before now bytes layout result is read adds =
    takes_file heads number (head.Raw path off len) path (λ b. raw_layout b (record { at = off; len = len })) old new before now refl (λ b. refl)
    (λ b has. record {
      pagers = has.pagers;
      layouts = has.layouts;
      statics = ap (λ v. v.items) has.statics ∙ sym (append-nil old.statics.items);
      caches = ap (λ v. v.items) has.caches ∙ sym (append-nil old.caches.items);
    }) bytes result read (rw is at adds)

-- ---- trust caches

adds_static : (heads : List Head) (number : ℕ) (path : List ℕ) (old new : Draft) (before now : Option Told) (bytes : List ℕ) (table : Table)
    → ReadsFirst path 1572889 before bytes now → IsModule bytes table → HasStatic old table new → TakesIt heads number (head.Static path) old before new now
adds_static heads number path old new before now bytes table read m has =
    let same = accepted_whole read.whole bytes read.first m.unbroken in
    record {
      found = Some read.whole;
      read = read.read;
      passes = ap (static_end number) (ap trust.broken (sym same) ∙ m.unbroken);
      added = record {
        pagers = ap (λ v. v.items) has.pagers ∙ sym (append-nil old.pagers.items);
        layouts = ap (λ v. v.items) has.layouts ∙ sym (append-nil old.layouts.items);
        statics = has.statics ∙ ap (λ (t : Table). old.statics.items ++ t ∷ []) (m.listed ∙ ap entries same);
        caches = ap (λ v. v.items) has.caches ∙ sym (append-nil old.caches.items);
      };
    }

pub takes_static : (heads : List Head) (number : ℕ) (path : List ℕ) (old new : Draft) (before now : Option Told) (bytes : List ℕ) (table : Table) (result : Result (Unit {0}) Status)
    → ReadsFirst path 1572889 before bytes now → IsModule bytes table → Adds (HasStatic old table new) result → Takes heads number (head.Static path) old before new now result
takes_static heads number path old new before now bytes table (Ok u) read m adds = adds_static heads number path old new before now bytes table read m adds
takes_static heads number path old new before now bytes table (Err status.Done) read m adds = absurd adds
takes_static heads number path old new before now bytes table (Err status.NotSealed) read m adds = absurd adds
takes_static heads number path old new before now bytes table (Err status.Usage) read m adds = absurd adds
takes_static heads number path old new before now bytes table (Err (status.SceneBad line kind)) read m adds = absurd adds
takes_static heads number path old new before now bytes table (Err (status.FileFault item)) read m adds = absurd adds
takes_static heads number path old new before now bytes table (Err status.SinkFault) read m adds = absurd adds
takes_static heads number path old new before now bytes table (Err (status.Limit which limit)) read m adds = absurd adds
takes_static heads number path old new before now bytes table (Err (status.TrustBad item n arg)) read m adds = absurd adds
takes_static heads number path old new before now bytes table (Err status.NoMemory) read m adds = read_stops (head.Static path) path 1572889 before bytes now refl read

static_ends : (number : ℕ) (path : List ℕ) (before now : Option Told) (bytes : List ℕ) (s : Status)
    → ReadsFirst path 1572889 before bytes now → static_end number (trust.broken bytes) ≡ Some s → EndsAt number (head.Static path) before s now
static_ends number path before now bytes s read e = record {
  found = Some read.whole;
  read = read.read;
  ends = ap (static_end number) (sym (broken_cut read.whole bytes read.first)) ∙ e;
}

pub refuses_static : (heads : List Head) (number : ℕ) (path : List ℕ) (old new : Draft) (before now : Option Told) (bytes : List ℕ) (s : Status)
    → ReadsFirst path 1572889 before bytes now → TriesModule bytes number (Err s) → Takes heads number (head.Static path) old before new now (Err s)
refuses_static heads number path old new before now bytes status.Done read e = static_ends number path before now bytes _ read e
refuses_static heads number path old new before now bytes status.NotSealed read e = static_ends number path before now bytes _ read e
refuses_static heads number path old new before now bytes status.Usage read e = static_ends number path before now bytes _ read e
refuses_static heads number path old new before now bytes (status.SceneBad line kind) read e = static_ends number path before now bytes _ read e
refuses_static heads number path old new before now bytes (status.FileFault item) read e = static_ends number path before now bytes _ read e
refuses_static heads number path old new before now bytes status.SinkFault read e = static_ends number path before now bytes _ read e
refuses_static heads number path old new before now bytes (status.Limit which limit) read e = static_ends number path before now bytes _ read e
refuses_static heads number path old new before now bytes (status.TrustBad item n arg) read e = static_ends number path before now bytes _ read e
refuses_static heads number path old new before now bytes status.NoMemory read e = read_stops (head.Static path) path 1572889 before bytes now refl read

-- a trust cache that can be loaded, by its first bytes
table_cut : (whole bytes : List ℕ) → bytes ≡ take 1572889 whole → table_by (trust.broken bytes) bytes ≡ table_by (trust.broken whole) whole
table_cut whole bytes is = by (trust.broken bytes) refl ∙ ap (λ o. table_by o whole) (broken_cut whole bytes is)
  where
    by : (o : Option TrustRefusal) → trust.broken bytes ≡ o → table_by o bytes ≡ table_by o whole
    by (Some refusal) e = refl
    by None e = ap (λ b. Ok (entries b)) (accepted_whole whole bytes is e)

adds_cache : (heads : List Head) (number : ℕ) (path : List ℕ) (old new : Draft) (before now : Option Told) (bytes : List ℕ) (cache : Result Table Refusal)
    → ReadsFirst path 1572889 before bytes now → GivesCache bytes cache → HasCache old cache new → TakesIt heads number (head.Cache path) old before new now
adds_cache heads number path old new before now bytes cache read gives has = record {
  found = Some read.whole;
  read = read.read;
  passes = refl;
  added = record {
    pagers = ap (λ v. v.items) has.pagers ∙ sym (append-nil old.pagers.items);
    layouts = ap (λ v. v.items) has.layouts ∙ sym (append-nil old.layouts.items);
    statics = ap (λ v. v.items) has.statics ∙ sym (append-nil old.statics.items);
    caches = has.caches ∙ ap (λ c. old.caches.items ++ c ∷ []) (gives ∙ table_cut read.whole bytes read.first);
  };
}

pub takes_cache : (heads : List Head) (number : ℕ) (path : List ℕ) (old new : Draft) (before now : Option Told) (bytes : List ℕ) (cache : Result Table Refusal) (result : Result (Unit {0}) Status)
    → ReadsFirst path 1572889 before bytes now → GivesCache bytes cache → Adds (HasCache old cache new) result → Takes heads number (head.Cache path) old before new now result
takes_cache heads number path old new before now bytes cache (Ok u) read m adds = adds_cache heads number path old new before now bytes cache read m adds
takes_cache heads number path old new before now bytes cache (Err status.Done) read m adds = absurd adds
takes_cache heads number path old new before now bytes cache (Err status.NotSealed) read m adds = absurd adds
takes_cache heads number path old new before now bytes cache (Err status.Usage) read m adds = absurd adds
takes_cache heads number path old new before now bytes cache (Err (status.SceneBad line kind)) read m adds = absurd adds
takes_cache heads number path old new before now bytes cache (Err (status.FileFault item)) read m adds = absurd adds
takes_cache heads number path old new before now bytes cache (Err status.SinkFault) read m adds = absurd adds
takes_cache heads number path old new before now bytes cache (Err (status.Limit which limit)) read m adds = absurd adds
takes_cache heads number path old new before now bytes cache (Err (status.TrustBad item n arg)) read m adds = absurd adds
takes_cache heads number path old new before now bytes cache (Err status.NoMemory) read m adds = read_stops (head.Cache path) path 1572889 before bytes now refl read

-- a static module of one entry
pub takes_admitted : (heads : List Head) (number : ℕ) (cdhash : List ℕ) (old new : Draft) (told : Option Told) (table : Table) (result : Result (Unit {0}) Status)
    → table ≡ listing cdhash ∷ [] → Adds (HasStatic old table new) result → Takes heads number (head.Admit cdhash) old told new told result
takes_admitted heads number cdhash old new told table (Ok u) is has = record {
  found = None;
  read = record { told = λ t e. (refl, e) };
  passes = refl;
  added = record {
    pagers = ap (λ v. v.items) has.pagers ∙ sym (append-nil old.pagers.items);
    layouts = ap (λ v. v.items) has.layouts ∙ sym (append-nil old.layouts.items);
    statics = has.statics ∙ ap (λ (t : Table). old.statics.items ++ t ∷ []) is;
    caches = ap (λ v. v.items) has.caches ∙ sym (append-nil old.caches.items);
  };
}
takes_admitted heads number cdhash old new told table (Err status.Done) is adds = absurd adds
takes_admitted heads number cdhash old new told table (Err status.NotSealed) is adds = absurd adds
takes_admitted heads number cdhash old new told table (Err status.Usage) is adds = absurd adds
takes_admitted heads number cdhash old new told table (Err (status.SceneBad line kind)) is adds = absurd adds
takes_admitted heads number cdhash old new told table (Err (status.FileFault item)) is adds = absurd adds
takes_admitted heads number cdhash old new told table (Err status.SinkFault) is adds = absurd adds
takes_admitted heads number cdhash old new told table (Err (status.Limit which limit)) is adds = absurd adds
takes_admitted heads number cdhash old new told table (Err (status.TrustBad item n arg)) is adds = absurd adds
takes_admitted heads number cdhash old new told table (Err status.NoMemory) is adds = λ t e. inl e

-- ---- causes

some_takes : {X : Type 0} (x y : X) → Some x ≡ Some y → x ≡ y
some_takes x y e = cc

-- a status that does not tell of a read
abbrev pub IsQuiet : Status → Type 0
IsQuiet (status.FileFault item) = ⊥
IsQuiet other = Unit {0}

file_quiet : (s t u : Bool) (x y : Status) → IsQuiet x → IsQuiet y → (z : Status) → cond s (Some x) (cond t (Some y) None) ≡ Some z → IsQuiet z
file_quiet true t u x y qx qy z e = subst IsQuiet (some_takes x z e) qx
file_quiet false true u x y qx qy z e = subst IsQuiet (some_takes y z e) qy
file_quiet false false u x y qx qy z e = absurd cc

static_quiet : (number : ℕ) (o : Option TrustRefusal) (z : Status) → static_end number o ≡ Some z → IsQuiet z
static_quiet number None z e = absurd cc
static_quiet number (Some refusal) z e = subst IsQuiet (some_takes (status.TrustBad number _ _) z e) tt

pub quiet_cause : (s : Status) (before now : ℕ) → IsQuiet s → now ≡ before → IsEndCaused s before now
quiet_cause status.Done before now q is = is
quiet_cause status.NotSealed before now q is = is
quiet_cause status.Usage before now q is = is
quiet_cause (status.SceneBad line kind) before now q is = is
quiet_cause (status.FileFault item) before now q is = absurd q
quiet_cause status.SinkFault before now q is = is
quiet_cause (status.Limit which limit) before now q is = is
quiet_cause (status.TrustBad item n arg) before now q is = is
quiet_cause status.NoMemory before now q is = is

adds_quiet : (heads : List Head) (old new : Draft) (bytes : List ℕ) (layout : Layout) (s : Status) → AddsFile heads old bytes layout new (Err s) → IsQuiet s
adds_quiet heads old new bytes layout status.Done e = tt
adds_quiet heads old new bytes layout status.NotSealed e = tt
adds_quiet heads old new bytes layout status.Usage e = tt
adds_quiet heads old new bytes layout (status.SceneBad line kind) e = tt
adds_quiet heads old new bytes layout (status.FileFault item) e = file_quiet (ltb 67108864 (length bytes)) (has_long layout) true (status.Limit FileBytes 67108864) (status.Limit SignatureBytes 1048576) tt tt (status.FileFault item) e
adds_quiet heads old new bytes layout status.SinkFault e = tt
adds_quiet heads old new bytes layout (status.Limit which limit) e = tt
adds_quiet heads old new bytes layout (status.TrustBad item n arg) e = tt
adds_quiet heads old new bytes layout status.NoMemory e = tt

pub adds_cause : (heads : List Head) (old new : Draft) (bytes : List ℕ) (layout : Layout) (result : Result (Unit {0}) Status) (before now : ℕ)
    → now ≡ before → AddsFile heads old bytes layout new result → IsCaused result before now
adds_cause heads old new bytes layout (Ok u) before now is adds = is
adds_cause heads old new bytes layout (Err s) before now is adds = quiet_cause s before now (adds_quiet heads old new bytes layout s adds) is

tries_quiet : (bytes : List ℕ) (number : ℕ) (s : Status) → TriesModule bytes number (Err s) → IsQuiet s
tries_quiet bytes number status.Done e = tt
tries_quiet bytes number status.NotSealed e = tt
tries_quiet bytes number status.Usage e = tt
tries_quiet bytes number (status.SceneBad line kind) e = tt
tries_quiet bytes number (status.FileFault item) e = static_quiet number (trust.broken bytes) (status.FileFault item) e
tries_quiet bytes number status.SinkFault e = tt
tries_quiet bytes number (status.Limit which limit) e = tt
tries_quiet bytes number (status.TrustBad item n arg) e = tt
tries_quiet bytes number status.NoMemory e = tt

pub tries_cause : (bytes : List ℕ) (number : ℕ) (s : Status) (before now : ℕ) → now ≡ before → TriesModule bytes number (Err s) → IsEndCaused s before now
tries_cause bytes number s before now is e = quiet_cause s before now (tries_quiet bytes number s e) is

more_quiet : (P : Type 0) (s : Status) → Adds P (Err s) → IsQuiet s
more_quiet P status.Done e = tt
more_quiet P status.NotSealed e = tt
more_quiet P status.Usage e = tt
more_quiet P (status.SceneBad line kind) e = tt
more_quiet P (status.FileFault item) e = absurd e
more_quiet P status.SinkFault e = tt
more_quiet P (status.Limit which limit) e = tt
more_quiet P (status.TrustBad item n arg) e = tt
more_quiet P status.NoMemory e = tt

pub more_cause : (P : Type 0) (result : Result (Unit {0}) Status) (before now : ℕ) → now ≡ before → Adds P result → IsCaused result before now
more_cause P (Ok u) before now is adds = is
more_cause P (Err s) before now is adds = quiet_cause s before now (more_quiet P s adds) is
