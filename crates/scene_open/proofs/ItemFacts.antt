-- Items are taken one after another.
use Rattle.std.proofs.Common.{◌≡◌, ℕ, zero, suc, ◌+◌, ◌<◌, ◌⊎◌, inl, inr, cond, List, [], ◌∷◌, ◌++◌, map, length, get_or, take, drop, Option, Some, None, Ok, Err, refl, ap, sym, subst, ◌∙◌, append_assoc, arith}
use Rattle.std.specs.Prelude.{is_some, if◌then◌else◌}
use Rattle.std.specs.Option.{option_or}
use Rattle.std.proofs.lemmas.List.{length-map, map-append, take-append-drop, length-take-le, take_more}
use Rattle.std.proofs.Math.Seq.{drop-cons}
use Rattle.std.proofs.lemmas.List.Elements.{filter_map-append}
use Rattle.std.proofs.lemmas.List.Elements.{filter-append}
use Rattle.std.proofs.lemmas.List.Sums.{sum_by-append, sum_by-cons}
use Rattle.pg_bytes.specs.declared.status.Status.{Status}
use Rattle.pg_bytes.specs.declared.status.Status.TheVariants as status
use Rattle.pg_io.specs.Calls.{next_count, count_after}
use Rattle.pg_io.specs.Files.{Told}
use Rattle.pg_io.specs.MemPages.{MemPagerNow}
use Rattle.scene_text.specs.declared.head.Head.{Head}
use Rattle.scene_open.specs.declared.draft.Draft.{Draft}
use Rattle.scene_open.specs.declared.open_scene.OpenScene.{OpenScene}
use Rattle.scene_open.specs.Items.{Item, heads_of, bytes_of, path_of, names_file, found_by, told_behind, items_told, told_after, files_named, ReadsWithin, item_end, items_end, up_to_end, files_read}
use Rattle.scene_open.specs.Opening.{declares_file, files_among, layout_of, layouts_of, page_size_of, fails_of, pager_of, pagers_from, static_by, statics_of, cache_by, caches_of}
use Rattle.pg_trusted.specs.Kept.{opened}
use Rattle.scene_open.specs.Ends.{OpensTo, Opens, OpensSome, ReadsUpToEnd}
use Rattle.scene_open.specs.Drafts.{IsAdded, TakesIt, EndsAt, Takes, IsDraft, told_behind_all, HasTaken, HasEnded, TakesAll, FinishesTo}

-- ---- what items tell, behind others

pagers_join : (heads : List Head) (n : ℕ) (xs ys : List Item) → pagers_from heads n (xs ++ ys) ≡ pagers_from heads n xs ++ pagers_from heads (n + length xs) ys
pagers_join heads n [] ys = let same : n ≡ n + 0 = omega arith in ap (λ m. pagers_from heads m ys) same
pagers_join heads n (x ∷ xs) ys =
    let same : n + 1 + length xs ≡ n + suc (length xs) = omega arith in
    ap (λ (more : List MemPagerNow). pager_of (page_size_of heads) (fails_of heads n) (bytes_of x) ∷ more) (pagers_join heads (n + 1) xs ys ∙ ap (λ m. pagers_from heads (n + 1) xs ++ pagers_from heads m ys) same)

length-pagers : (heads : List Head) (n : ℕ) (files : List Item) → length (pagers_from heads n files) ≡ length files
length-pagers heads n [] = refl
length-pagers heads n (x ∷ files) = ap suc (length-pagers heads (n + 1) files)

-- one more item
pub draft_more : (heads : List Head) (items : List Item) (old new : Draft) (x : Item) → IsDraft heads items old → IsAdded heads old x new → IsDraft heads (items ++ x ∷ []) new
draft_more heads items old new x is added =
    let front = files_among items in
    let count : length old.pagers.items ≡ 0 + length front = ap length is.pagers ∙ length-pagers heads 0 front ∙ from_zero (length front) in
    let files = filter-append (λ (y : Item). declares_file y.head) items (x ∷ []) in
    record {
      pagers = added.pagers
          ∙ (λ i. is.pagers i ++ pagers_from heads (count i) (files_among (x ∷ [])))
          ∙ sym (pagers_join heads 0 front (files_among (x ∷ []))) ∙ ap (pagers_from heads 0) (sym files);
      layouts = added.layouts ∙ ap (λ l. l ++ layouts_of (x ∷ [])) is.layouts
          ∙ sym (map-append layout_of front (files_among (x ∷ []))) ∙ ap (map layout_of) (sym files);
      statics = added.statics ∙ ap (λ l. l ++ statics_of (x ∷ [])) is.statics ∙ sym (filter_map-append (λ (y : Item). static_by y.head (bytes_of y)) items (x ∷ []));
      caches = added.caches ∙ ap (λ l. l ++ caches_of (x ∷ [])) is.caches ∙ sym (filter_map-append (λ (y : Item). cache_by y.head (bytes_of y)) items (x ∷ []));
    }
  where
    from_zero : (n : ℕ) → n ≡ 0 + n
    from_zero n = omega arith

-- ---- why items end the run

or_assoc : {A : Type 0} (a b c : Option A) → option_or (option_or a b) c ≡ option_or a (option_or b c)
or_assoc None b c = refl
or_assoc (Some x) b c = refl

pub ends_join : (n : ℕ) (xs ys : List Item) → items_end n (xs ++ ys) ≡ option_or (items_end n xs) (items_end (n + length xs) ys)
ends_join n [] ys = let same : n ≡ n + 0 = omega arith in ap (λ m. items_end m ys) same
ends_join n (x ∷ xs) ys =
    let same : n + 1 + length xs ≡ n + suc (length xs) = omega arith in
    ap (option_or (item_end n x)) (ends_join (n + 1) xs ys ∙ ap (λ m. option_or (items_end (n + 1) xs) (items_end m ys)) same)
    ∙ sym (or_assoc (item_end n x) (items_end (n + 1) xs) (items_end (n + suc (length xs)) ys))

or_none : {A : Type 0} (a : Option A) → option_or a None ≡ a
or_none None = refl
or_none (Some x) = refl

both_none : {A : Type 0} (a b : Option A) → option_or a b ≡ None → (a ≡ None) × (b ≡ None)
both_none None b is = (refl, is)
both_none (Some x) b is = absurd cc

-- ---- the items up to the end

up_join : (n : ℕ) (xs ys : List Item) → items_end n xs ≡ None → up_to_end n (xs ++ ys) ≡ xs ++ up_to_end (n + length xs) ys
up_join n [] ys passes = let same : n ≡ n + 0 = omega arith in ap (λ m. up_to_end m ys) same
up_join n (x ∷ xs) ys passes =
    let both = both_none (item_end n x) (items_end (n + 1) xs) passes in
    let same : n + 1 + length xs ≡ n + suc (length xs) = omega arith in
    ap (λ (e : Option Status). x ∷ (if is_some e then [] else up_to_end (n + 1) (xs ++ ys))) both.0
    ∙ ap (λ (more : List Item). x ∷ more) (up_join (n + 1) xs ys both.1 ∙ ap (λ m. xs ++ up_to_end m ys) same)

up_all : (n : ℕ) (xs : List Item) → items_end n xs ≡ None → up_to_end n xs ≡ xs
up_all n [] passes = refl
up_all n (x ∷ xs) passes =
    let both = both_none (item_end n x) (items_end (n + 1) xs) passes in
    ap (λ (e : Option Status). x ∷ (if is_some e then [] else up_to_end (n + 1) xs)) both.0
    ∙ ap (λ (more : List Item). x ∷ more) (up_all (n + 1) xs both.1)

up_one : (n : ℕ) (x : Item) (xs : List Item) (s : Status) → item_end n x ≡ Some s → up_to_end n (x ∷ xs) ≡ x ∷ []
up_one n x xs s here = ap (λ (e : Option Status). x ∷ (if is_some e then [] else up_to_end (n + 1) xs)) here

-- ---- what is told

told_join : (t : Told) (xs ys : List Head) → items_told t (xs ++ ys) ≡ items_told t xs ++ items_told (told_behind_all t xs) ys
told_join t [] ys = refl
told_join t (x ∷ xs) ys = ap (λ (more : List Item). record { head = x; found = found_by t (path_of x) } ∷ more) (told_join (told_behind t (path_of x)) xs ys)

behind_join : (t : Told) (xs ys : List Head) → told_behind_all t (xs ++ ys) ≡ told_behind_all (told_behind_all t xs) ys
behind_join t [] ys = refl
behind_join t (x ∷ xs) ys = behind_join (told_behind t (path_of x)) xs ys

told_heads : (t : Told) (heads : List Head) → heads_of (items_told t heads) ≡ heads
told_heads t [] = refl
told_heads t (h ∷ heads) = ap (λ (more : List Head). h ∷ more) (told_heads (told_behind t (path_of h)) heads)

-- so many reads
counts_join : (made n m : ℕ) → count_after (count_after made n) m ≡ count_after made (n + m)
counts_join made zero m = let same : m ≡ 0 + m = omega arith in ap (count_after made) same
counts_join made (suc n) m =
    let same : suc (n + m) ≡ suc n + m = omega arith in
    counts_join (next_count made) n m ∙ ap (count_after made) same

after_more : (t : Told) (n m : ℕ) → told_after (told_after t n) m ≡ told_after t (n + m)
after_more t n m = ap (λ c. record t { made = c }) (counts_join t.made n m)

behind_is : (t : Told) (h : Head) → told_behind t (path_of h) ≡ told_after t (cond (names_file h) 1 0)
behind_is t h = by (path_of h)
  where
    by : (p : Option (List ℕ)) → told_behind t p ≡ told_after t (cond (is_some p) 1 0)
    by None = refl
    by (Some p) = refl

pub behind_all : (t : Told) (heads : List Head) → told_behind_all t heads ≡ told_after t (files_named heads)
behind_all t [] = refl
behind_all t (h ∷ heads) =
    ap (λ u. told_behind_all u heads) (behind_is t h) ∙ behind_all (told_after t (cond (names_file h) 1 0)) heads
    ∙ after_more t (cond (names_file h) 1 0) (files_named heads) ∙ ap (told_after t) (sym (sum_by-cons (λ y. cond (names_file y) 1 0) h heads))

named_join : (xs ys : List Head) → files_named (xs ++ ys) ≡ files_named xs + files_named ys
named_join xs ys = sum_by-append (λ h. cond (names_file h) 1 0) xs ys

-- ---- taking one more item

one_head : (items : List Item) (x : Item) (taken : List Head) → heads_of items ≡ taken → heads_of (items ++ x ∷ []) ≡ taken ++ x.head ∷ []
one_head items x taken lines = map-append (λ (y : Item). y.head) items (x ∷ []) ∙ ap (λ l. l ++ x.head ∷ []) lines

-- the number of the next item
next_number : (items : List Item) (taken : List Head) (number : ℕ) → heads_of items ≡ taken → number ≡ length taken + 1 → 1 + length items ≡ number
next_number items taken number lines is =
    let same = length-map items (λ (y : Item). y.head) in
    let long = ap length lines in
    omega (arith, same, long, is)

-- the next item and those behind it, where those before it do not end the run
ends_next : (items : List Item) (x : Item) (rest : List Item) (number : ℕ) → items_end 1 items ≡ None → 1 + length items ≡ number
    → items_end 1 (items ++ x ∷ rest) ≡ option_or (item_end number x) (items_end (number + 1) rest)
ends_next items x rest number passes is =
    ends_join 1 items (x ∷ rest) ∙ ap (λ o. option_or o (items_end (1 + length items) (x ∷ rest))) passes
    ∙ ap (λ m. option_or (item_end m x) (items_end (m + 1) rest)) is

pub taken_more : (heads taken : List Head) (number : ℕ) (h : Head) (before : Option Told) (old : Draft) (mid : Option Told) (new : Draft) (now : Option Told)
    → number ≡ length taken + 1 → HasTaken heads taken before old mid → TakesIt heads number h old mid new now → HasTaken heads (taken ++ h ∷ []) before new now
taken_more heads taken number h before old mid new now count so_far takes =
    let x : Item = record { head = h; found = takes.found } in
    let items = so_far.items in
    record {
      items = items ++ x ∷ [];
      lines = one_head items x taken so_far.lines;
      passes = ends_next items x [] number so_far.passes (next_number items taken number so_far.lines count) ∙ or_none (item_end number x) ∙ takes.passes;
      parts = draft_more heads items old new x so_far.parts takes.added;
      told = λ t is.
          let a = so_far.told t is in
          let b = takes.read.told (told_behind_all t taken) a.1 in (
            (λ i. a.0 i ++ record { head = h; found = b.0 i } ∷ []) ∙ sym (told_join t taken (h ∷ [])),
            b.1 ∙ ap (λ (u : Told). Some u) (sym (behind_join t taken (h ∷ []))),
          );
    }

pub none_taken : (heads : List Head) (before : Option Told) (draft : Draft) → draft.pagers.items ≡ [] → draft.layouts.items ≡ [] → draft.statics.items ≡ [] → draft.caches.items ≡ []
    → HasTaken heads [] before draft before
none_taken heads before draft p l s c = record {
  items = [];
  lines = refl;
  passes = refl;
  parts = record { pagers = p; layouts = l; statics = s; caches = c };
  told = λ t is. (refl, is);
}

-- ---- an item that ends the run

abbrev unread : List Head → List Item
unread heads = map (λ h. record { head = h; found = None }) heads

unread_heads : (heads : List Head) → heads_of (unread heads) ≡ heads
unread_heads [] = refl
unread_heads (h ∷ heads) = ap (λ l. h ∷ l) (unread_heads heads)

reads_some : (t : Told) (front rest : List Head) (now : Option Told) → now ≡ Some (told_behind_all t front) → ReadsWithin t (files_named (front ++ rest)) now
reads_some t front rest now is =
    let many = named_join front rest in
    record { reads = files_named front; few = omega arith; after = is ∙ ap (λ (u : Told). Some u) (behind_all t front) }

told_some : (t u : Told) → Some t ≡ Some u → t ≡ u
told_some t u e = cc

pub has_ended : (heads taken rest : List Head) (number : ℕ) (h : Head) (before : Option Told) (old : Draft) (mid : Option Told) (s : Status) (now : Option Told)
    → heads ≡ taken ++ h ∷ rest → number ≡ length taken + 1 → HasTaken heads taken before old mid → EndsAt number h mid s now → HasEnded heads before s now
has_ended heads taken rest number h None old mid s now whole count so_far ends =
    let x : Item = record { head = h; found = ends.found } in
    let items = so_far.items in
    record {
      items = items ++ x ∷ unread rest;
      lines = map-append (λ (y : Item). y.head) items (x ∷ unread rest) ∙ (λ i. so_far.lines i ++ h ∷ unread_heads rest i) ∙ sym whole;
      ends = ends_next items x (unread rest) number so_far.passes (next_number items taken number so_far.lines count)
          ∙ ap (λ o. option_or o (items_end (number + 1) (unread rest))) ends.ends;
      told = λ t is. absurd cc;
    }
has_ended heads taken rest number h (Some t) old mid s now whole count so_far ends =
    let a = so_far.told t refl in
    let u = told_behind_all t taken in
    let b = ends.read.told u a.1 in
    let x : Item = record { head = h; found = found_by u (path_of h) } in
    let more = items_told (told_behind u (path_of h)) rest in
    let split : items_told t heads ≡ so_far.items ++ x ∷ more = ap (items_told t) whole ∙ told_join t taken (h ∷ rest) ∙ ap (λ l. l ++ x ∷ more) (sym a.0) in
    let next = next_number so_far.items taken number so_far.lines count in
    let here : item_end number x ≡ Some s = ap (λ (f : Option (List ℕ)). item_end number (record { head = h; found = f })) (sym b.0) ∙ ends.ends in
    let after : now ≡ Some (told_behind_all t (taken ++ h ∷ [])) = b.1 ∙ ap (λ (v : Told). Some v) (sym (behind_join t taken (h ∷ []))) in
    let until : up_to_end 1 (items_told t heads) ≡ so_far.items ++ x ∷ [] =
    ap (up_to_end 1) split ∙ up_join 1 so_far.items (x ∷ more) so_far.passes
    ∙ ap (λ m. so_far.items ++ up_to_end m (x ∷ more)) next ∙ ap (λ l. so_far.items ++ l) (up_one number x more s here) in
    let many : files_read (items_told t heads) ≡ files_named (taken ++ h ∷ []) =
    ap (λ l. files_named (heads_of l)) until ∙ ap files_named (one_head so_far.items x taken so_far.lines) in
    let reads : now ≡ Some (told_after t (files_read (items_told t heads))) =
    after ∙ ap (λ (v : Told). Some v) (behind_all t (taken ++ h ∷ []) ∙ ap (told_after t) (sym many)) in
    record {
      items = items_told t heads;
      lines = told_heads t heads;
      ends = ap (items_end 1) split ∙ ends_next so_far.items x more number so_far.passes next
          ∙ ap (λ o. option_or o (items_end (number + 1) more)) here;
      told = λ v is.
          let same = told_some t v is in
          (ap (λ w. items_told w heads) same, subst (λ w. now ≡ Some (told_after w (files_read (items_told t heads)))) same reads);
    }

-- ---- want of memory

pub has_stopped : (heads taken rest : List Head) (h : Head) (before : Option Told) (old : Draft) (mid now : Option Told)
    → heads ≡ taken ++ h ∷ rest → HasTaken heads taken before old mid
    → ((u : Told) → mid ≡ Some u → (now ≡ Some u) ⊎ (now ≡ Some (told_behind u (path_of h))))
    → (t : Told) → before ≡ Some t → ReadsWithin t (files_read (items_told t heads)) now
has_stopped heads taken rest h before old mid now whole so_far stops t is =
    let a = so_far.told t is in
    let u = told_behind_all t taken in
    let items = so_far.items in
    let x : Item = record { head = h; found = found_by u (path_of h) } in
    let more = items_told (told_behind u (path_of h)) rest in
    let split : items_told t heads ≡ items ++ x ∷ more = ap (items_told t) whole ∙ told_join t taken (h ∷ rest) ∙ ap (λ l. l ++ x ∷ more) (sym a.0) in
    let next = 1 + length items in
    let behind : List Item = if is_some (item_end next x) then [] else up_to_end (next + 1) more in
    let until : up_to_end 1 (items_told t heads) ≡ items ++ x ∷ behind = ap (up_to_end 1) split ∙ up_join 1 items (x ∷ more) so_far.passes in
    let lines : heads_of (items ++ x ∷ behind) ≡ taken ++ h ∷ heads_of behind =
    map-append (λ (y : Item). y.head) items (x ∷ behind) ∙ ap (λ l. l ++ h ∷ heads_of behind) so_far.lines in
    let many : files_read (items_told t heads) ≡ files_named (taken ++ h ∷ heads_of behind) = ap (λ l. files_named (heads_of l)) until ∙ ap files_named lines in
    subst (λ n. ReadsWithin t n now) (sym many) (by (heads_of behind) (stops u a.1))
  where
    by : (others : List Head) → (now ≡ Some (told_behind_all t taken)) ⊎ (now ≡ Some (told_behind (told_behind_all t taken) (path_of h)))
        → ReadsWithin t (files_named (taken ++ h ∷ others)) now
    by others (inl e) = reads_some t taken (h ∷ others) now e
    by others (inr e) =
        let after : now ≡ Some (told_behind_all t (taken ++ h ∷ [])) = e ∙ ap (λ (v : Told). Some v) (sym (behind_join t taken (h ∷ []))) in
        rw (← append_assoc taken (h ∷ []) others) (reads_some t (taken ++ h ∷ []) others now after)

-- the next item is one of the lines
pub split_at : (heads : List Head) (i : ℕ) (d : Head) → i < length heads → heads ≡ take i heads ++ get_or heads i d ∷ drop (suc i) heads
split_at heads i d inside = sym (take-append-drop i heads) ∙ ap (λ l. take i heads ++ l) (drop-cons heads i d inside)

-- the end by an item, or want of memory at it
pub all_end : (heads taken rest : List Head) (number : ℕ) (h : Head) (before : Option Told) (old : Draft) (mid : Option Told) (new : Draft) (now : Option Told) (s : Status)
    → heads ≡ taken ++ h ∷ rest → number ≡ length taken + 1 → HasTaken heads taken before old mid → Takes heads number h old mid new now (Err s) → TakesAll heads before now (Err s)
all_end heads taken rest number h before old mid new now status.Done whole count so_far ends = has_ended heads taken rest number h before old mid _ now whole count so_far ends
all_end heads taken rest number h before old mid new now status.NotSealed whole count so_far ends = has_ended heads taken rest number h before old mid _ now whole count so_far ends
all_end heads taken rest number h before old mid new now status.Usage whole count so_far ends = has_ended heads taken rest number h before old mid _ now whole count so_far ends
all_end heads taken rest number h before old mid new now (status.SceneBad line kind) whole count so_far ends = has_ended heads taken rest number h before old mid _ now whole count so_far ends
all_end heads taken rest number h before old mid new now (status.FileFault item) whole count so_far ends = has_ended heads taken rest number h before old mid _ now whole count so_far ends
all_end heads taken rest number h before old mid new now status.SinkFault whole count so_far ends = has_ended heads taken rest number h before old mid _ now whole count so_far ends
all_end heads taken rest number h before old mid new now (status.Limit which limit) whole count so_far ends = has_ended heads taken rest number h before old mid _ now whole count so_far ends
all_end heads taken rest number h before old mid new now (status.TrustBad item n arg) whole count so_far ends = has_ended heads taken rest number h before old mid _ now whole count so_far ends
all_end heads taken rest number h before old mid new now status.NoMemory whole count so_far ends = has_stopped heads taken rest h before old mid now whole so_far ends

-- the next of the lines is taken
pub step_taken : (heads : List Head) (i number : ℕ) (h : Head) (before : Option Told) (old : Draft) (mid : Option Told) (new : Draft) (now : Option Told)
    → i < length heads → h ≡ get_or heads i h → number ≡ i + 1 → HasTaken heads (take i heads) before old mid → TakesIt heads number h old mid new now → HasTaken heads (take (i + 1) heads) before new now
step_taken heads i number h before old mid new now inside is count so_far takes =
    let long = length-take-le i heads (omega arith) in
    let more : take (i + 1) heads ≡ take i heads ++ h ∷ [] = take_more heads i h inside ∙ ap (λ x. take i heads ++ x ∷ []) (sym is) in
    subst (λ l. HasTaken heads l before new now) (sym more)
    (taken_more heads (take i heads) number h before old mid new now (omega (arith, long, count)) so_far takes)

pub step_ends : (heads : List Head) (i number : ℕ) (h : Head) (before : Option Told) (old : Draft) (mid : Option Told) (new : Draft) (now : Option Told) (s : Status)
    → i < length heads → h ≡ get_or heads i h → number ≡ i + 1 → HasTaken heads (take i heads) before old mid → Takes heads number h old mid new now (Err s) → TakesAll heads before now (Err s)
step_ends heads i number h before old mid new now s inside is count so_far takes =
    let long = length-take-le i heads (omega arith) in
    let whole = split_at heads i h inside ∙ ap (λ x. take i heads ++ x ∷ drop (suc i) heads) (sym is) in
    all_end heads (take i heads) (drop (suc i) heads) number h before old mid new now s whole (omega (arith, long, count)) so_far takes

-- ---- what is answered in the end

pub opens_to : (heads : List Head) (before : Option Told) (draft : Draft) (o : OpenScene) (now : Option Told) → HasTaken heads heads before draft now → FinishesTo draft o
    → (items : List Item) × (heads_of items ≡ heads) × OpensTo items o × ((t : Told) → before ≡ Some t → items ≡ items_told t heads)
opens_to heads before draft o now taken done = (
  taken.items,
  taken.lines,
  record {
    passes = taken.passes;
    files = ap (λ v. v.items) done.files ∙ taken.parts.pagers ∙ ap (λ hs. pagers_from hs 0 (files_among taken.items)) (sym taken.lines);
    layouts = ap (λ v. v.items) done.layouts ∙ taken.parts.layouts;
    trust = done.trust ∙ (λ i. opened (taken.parts.statics i) (taken.parts.caches i));
  },
  λ t is. (taken.told t is).0,
)

pub told_opens : (heads : List Head) (before : Option Told) (draft : Draft) (o : OpenScene) (now : Option Told) → HasTaken heads heads before draft now → FinishesTo draft o
    → (t : Told) → before ≡ Some t → OpensTo (items_told t heads) o
told_opens heads before draft o now taken done t is =
    let all = opens_to heads before draft o now taken done in
    subst (λ items. OpensTo items o) (all.3 t is) all.2

pub some_opens : (heads : List Head) (before : Option Told) (draft : Draft) (o : OpenScene) (now : Option Told) → HasTaken heads heads before draft now → FinishesTo draft o
    → OpensSome heads (Ok o)
some_opens heads before draft o now taken done =
    let all = opens_to heads before draft o now taken done in
    record { items = all.0; lines = all.1; opens = all.2 }

pub told_all : (heads : List Head) (before : Option Told) (draft : Draft) (now : Option Told) → HasTaken heads heads before draft now
    → (t : Told) → before ≡ Some t → now ≡ Some (told_after t (files_named heads))
told_all heads before draft now taken t is = (taken.told t is).1 ∙ ap (λ (u : Told). Some u) (behind_all t heads)

pub told_read : (heads : List Head) (before : Option Told) (draft : Draft) (now : Option Told) → HasTaken heads heads before draft now
    → (t : Told) → before ≡ Some t → now ≡ Some (told_after t (files_read (items_told t heads)))
told_read heads before draft now taken t is =
    let all : files_read (items_told t heads) ≡ files_named heads =
    ap files_read (sym (taken.told t is).0) ∙ ap (λ l. files_named (heads_of l)) (up_all 1 taken.items taken.passes) ∙ ap files_named taken.lines in
    told_all heads before draft now taken t is ∙ ap (λ n. Some (told_after t n)) (sym all)

pub told_within : (heads : List Head) (before : Option Told) (draft : Draft) (now : Option Told) → HasTaken heads heads before draft now
    → (t : Told) → before ≡ Some t → ReadsWithin t (files_read (items_told t heads)) now
told_within heads before draft now taken t is =
    record { reads = files_read (items_told t heads); few = omega arith; after = told_read heads before draft now taken t is }

pub stopped_some : (heads : List Head) → OpensSome heads (Err status.NoMemory)
stopped_some heads = record { items = unread heads; lines = unread_heads heads; opens = tt }

-- the same where reading them ended
module _ (heads : List Head) (before now : Option Told) where
  pub ends_told : (s : Status) → TakesAll heads before now (Err s) → (t : Told) → before ≡ Some t → Opens (items_told t heads) (Err s)
  ends_told status.Done all t is = ap (items_end 1) (sym (all.told t is).0) ∙ all.ends
  ends_told status.NotSealed all t is = ap (items_end 1) (sym (all.told t is).0) ∙ all.ends
  ends_told status.Usage all t is = ap (items_end 1) (sym (all.told t is).0) ∙ all.ends
  ends_told (status.SceneBad line kind) all t is = ap (items_end 1) (sym (all.told t is).0) ∙ all.ends
  ends_told (status.FileFault item) all t is = ap (items_end 1) (sym (all.told t is).0) ∙ all.ends
  ends_told status.SinkFault all t is = ap (items_end 1) (sym (all.told t is).0) ∙ all.ends
  ends_told (status.Limit which limit) all t is = ap (items_end 1) (sym (all.told t is).0) ∙ all.ends
  ends_told (status.TrustBad item n arg) all t is = ap (items_end 1) (sym (all.told t is).0) ∙ all.ends
  ends_told status.NoMemory all t is = tt

  pub ends_some : (s : Status) → TakesAll heads before now (Err s) → OpensSome heads (Err s)
  ends_some status.Done all = record { items = all.items; lines = all.lines; opens = all.ends }
  ends_some status.NotSealed all = record { items = all.items; lines = all.lines; opens = all.ends }
  ends_some status.Usage all = record { items = all.items; lines = all.lines; opens = all.ends }
  ends_some (status.SceneBad line kind) all = record { items = all.items; lines = all.lines; opens = all.ends }
  ends_some (status.FileFault item) all = record { items = all.items; lines = all.lines; opens = all.ends }
  ends_some status.SinkFault all = record { items = all.items; lines = all.lines; opens = all.ends }
  ends_some (status.Limit which limit) all = record { items = all.items; lines = all.lines; opens = all.ends }
  ends_some (status.TrustBad item n arg) all = record { items = all.items; lines = all.lines; opens = all.ends }
  ends_some status.NoMemory all = stopped_some heads

  ended_reads : (s : Status) → HasEnded heads before s now → (t : Told) → before ≡ Some t → now ≡ Some (told_after t (files_read (items_told t heads)))
  ended_reads s ended t is = (ended.told t is).1 ∙ ap (λ l. Some (told_after t (files_read l))) (ended.told t is).0

  pub ends_reads : (s : Status) → TakesAll heads before now (Err s) → (t : Told) → before ≡ Some t → ReadsUpToEnd t (items_told t heads) (Err s) now
  ends_reads status.Done all t is = ended_reads status.Done all t is
  ends_reads status.NotSealed all t is = ended_reads status.NotSealed all t is
  ends_reads status.Usage all t is = ended_reads status.Usage all t is
  ends_reads (status.SceneBad line kind) all t is = ended_reads (status.SceneBad line kind) all t is
  ends_reads (status.FileFault item) all t is = ended_reads (status.FileFault item) all t is
  ends_reads status.SinkFault all t is = ended_reads status.SinkFault all t is
  ends_reads (status.Limit which limit) all t is = ended_reads (status.Limit which limit) all t is
  ends_reads (status.TrustBad item n arg) all t is = ended_reads (status.TrustBad item n arg) all t is
  ends_reads status.NoMemory all t is = all t is
