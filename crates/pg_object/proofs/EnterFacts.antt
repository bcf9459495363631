-- A fault is the plain step of its event.
use Rattle.std.proofs.Common.{◌≡◌, ◌≢◌, ℕ, zero, suc, ◌+◌, ◌-◌, ◌/◌, ◌<◌, ◌≤◌, ◌==◌, Bool, true, false, List, [], ◌∷◌, ◌++◌, length, map, replicate, Option, Some, None, refl, sym, ap, subst, ◌∙◌, arith, not, inl, inr, take}
use Rattle.std.specs.Prelude.{◌&&◌, ◌||◌, ◌⊎◌, IsTrue, IsSome, All, IsSomeAnd, IfSome, IfOk, Result, Ok, Err, find, is_some, is_err, slice_get, unwrap_or, if◌then◌else◌}
use Rattle.std.specs.Option.{option_map, option_map_or, option_or}
use Rattle.std.proofs.lemmas.Grind.{common_steps}
use Rattle.std.proofs.lemmas.Bool.{false≢true}
use Rattle.std.proofs.lemmas.List.Elements.{recursion_from_All}
use Rattle.std.proofs.lemmas.Option.{get_or_from_slice_get}
use mathlib.Core.Path.{fun_ext}
use Rattle.pg_digest.specs.Kinds.{Hash}
use Rattle.cs_policy.specs.declared.access.Access.{Access}
use Rattle.cs_policy.specs.declared.access.Access.TheVariants.{Read, Write, Execute}
use Rattle.cs_policy.specs.declared.flags.ProcFlags.{ProcFlags}
use Rattle.cs_policy.specs.ProcFlags.{guarded}
use Rattle.cs_policy.specs.declared.denial.Denial.{Denial}
use Rattle.cs_policy.specs.declared.denial.Denial.TheVariants.{PrivateCopy, Mismatch}
use Rattle.cs_policy.specs.declared.region.Region.{Region}
use Rattle.cs_policy.specs.declared.region.Record.{Record}
use Rattle.cs_policy.specs.declared.file.FileEvent.{FileEvent}
use Rattle.cs_policy.specs.declared.file.FileEvent.TheVariants as event
use Rattle.cs_policy.specs.declared.file.FileReply.{FileReply}
use Rattle.cs_policy.specs.declared.file.FileReply.TheVariants as reply
use Rattle.cs_blob.specs.Signature.{Signature}
use Rattle.pg_io.specs.Pager.{PagerNow, MadeCalls}
use Rattle.pg_io.proofs.CallLaws.{calls_made}
use Rattle.pg_cache.specs.Held.{Held, find_held}
use Rattle.pg_cache.specs.Cache.{CacheNow, resident_page, at_hand, KeepsSizes, IsSound}
use Rattle.pg_cache.specs.Cache as cache
use Rattle.pg_cache.specs.Contents.{bytes_or}
use Rattle.pg_cache.specs.Finds.{Finds}
use Rattle.pg_cache.specs.Gives.{PeekLeaves, BringGives}
use Rattle.pg_cache.specs.declared.fault.PagerFault.{PagerFault}
use Rattle.pg_cache.proofs.Laws.{some_pages, some_finds, finds_same, bring_failed_finds}
use Rattle.pg_cache.proofs.MadeLaws.{save_calls_of, peek_made, bring_made}
use Rattle.pg_cache.proofs.GiveFacts.{sizes_both}
use Rattle.pg_pages.specs.Marks.{Seal, Marks, marks_of}
use Rattle.pg_pages.specs.MarkSteps.{spare_gone, filled, brought}
use Rattle.pg_pages.specs.Pages.{PagesNow, IsMarked}
use Rattle.pg_regions.specs.Lookups.{Copy, is_region, has_page, region_of, record_of, bytes_of, is_shared, IsWriter, HasNoWriter}
use Rattle.pg_regions.proofs.ListFacts.{found_passes, found_has}
use Rattle.pg_regions.specs.RegionsNow.{RegionsNow}
use Rattle.pg_plain.specs.PlainFile.{Attached, Resident, PlainFile, having, has_copy, is_resident, page_of}
use Rattle.pg_plain.specs.Covers.{hash_page, is_below_limit, parts}
use Rattle.pg_plain.specs.Verdict.{differs, private_copy, unsigned, beyond_limit, writable_shared, verdict_without_bytes, rule_of_bytes, verdict}
use Rattle.pg_plain.specs.Calls.{needs_read, is_denied_unread, is_denied_read, victim_calls, enter_calls, page_calls}
use Rattle.pg_plain.specs.Given.{victim, records_left, entered, given_page, fronted}
use Rattle.pg_plain.specs.Steps.{denied_or, failed_or, left_for, read_fails, write_fails, give, enter_page, enter_region, file_step}
use Rattle.pg_io.specs.declared.pager_call.PagerCall.{PagerCall}
use Rattle.pg_io.specs.declared.pager_call.PagerCall.TheVariants.{Reads, Writes}
use Rattle.pg_cache.proofs.CalledLaws.{called_both, saves_of, peek_called, bring_called}
use Rattle.pg_object.specs.Object.{ObjectNow, resident_of, seen, cover_of}
use Rattle.pg_object.specs.Seals.{seal_for, hashes_to, MarksAgree}
use Rattle.pg_object.specs.Kept.{IsInside, IsKept}
use Rattle.pg_bytes.specs.Counts.{Rose}
use Rattle.pg_object.specs.declared.take.Taken.{Taken}
use Rattle.pg_object.specs.Acts.{LeavesRoom, room_of_access, nothing_back, Acts}
use Rattle.pg_object.specs.Checked.{is_validated, is_checked, is_given, takes_out, takes_in, KeepsChecked, hash_pages, hash_pages_to, told_broken, needs_bytes, IsLazy}
use Rattle.pg_object.specs.Checked as checked
use Rattle.pg_object.specs.Enters.{mapped, against, says, hashed_for, Hashes, Counts, Looks, marks_looked, Brought, Unmaps, records_gone, GivesTo, marks_given}
use Rattle.pg_object.specs.PagerCalls.{calls_of_fault, calls_done, Called, reads_made, ReadsAfter}
use Rattle.pg_object.proofs.PagerCallFacts.{no_reads, reads_are, reads_uncalled, done_uncalled, done_all, fault_reads_to, fault_reads}
use Rattle.pg_object.proofs.ReadFacts.{unread, peek_reads}
use Rattle.pg_object.proofs.TellFacts.{tells_of}
use Rattle.pg_object.proofs.KeepFacts.{resident_is}
use Rattle.pg_object.proofs.CheckedFacts.{checked_is, checked_resident, checked_validated}
use Rattle.pg_object.proofs.QuietFacts.{Quiet, does_nothing, does_quietly}
use Rattle.pg_object.proofs.AfterFacts.{with_parts, Signs, kept_after}
use Rattle.pg_object.proofs.TakeFacts.{read_pages, ReadAs, looked_read, brought_read, brought_list, last_is, dirty_victim}
use Rattle.pg_object.proofs.MarkFacts.{maps, goes, marked_if, marked_here}
use Rattle.pg_object.proofs.MarkFacts.{marked as mark, unmaps as unmaps_mark}
use Rattle.pg_object.proofs.FateFacts.{sealed_by, Marked, Took, looked_marked, took}
use Rattle.pg_object.proofs.RuleFacts.{Against, against_some, against_there}
use Rattle.pg_object.proofs.WantedFacts.{each_hash_page}
use Rattle.pg_object.proofs.GiveFacts.{has_of}
use Rattle.pg_object.proofs.GivenFacts.{seen_parts, given_from, gives_plain, gives_regions, gives_sound, gives_room, gives_gains, Comes, gives_writers}
use Rattle.pg_object.proofs.RoomFacts.{gains_same, gains_given}

-- a page that was looked at
abbrev noted_ok : Option Denial → Result (Option Denial) PagerFault
noted_ok told = Ok told

-- ---- replies that are not one

no_denial : (denial : Denial) → None ≡ Some denial → ⊥
no_denial denial e = cc

denied_apart : (denial : Denial) (page : ℕ) → reply.Denied denial ≡ reply.PagerFault page → ⊥
denied_apart denial page e = cc

given_apart : (left : Option ℕ) (told : Option Denial) (page : ℕ) → reply.Given left told ≡ reply.PagerFault page → ⊥
given_apart left told page e = cc

fault_same : (one other : ℕ) → reply.PagerFault one ≡ reply.PagerFault other → one ≡ other
fault_same one other e = cc

-- a page of a list is not one that is not found in it
get_apart : (held : List Held) (n page : ℕ) (v : Held) → slice_get held n ≡ Some v → find_held held page ≡ None → v.page ≡ page → ⊥
get_apart [] n page v e none same = absurd (cc)
get_apart (h ∷ held) zero page v e none same = by_test (h.page == page) refl none
  where
    by_test : (b : Bool) → (h.page == page) ≡ b → (if b then Some h else find_held held page) ≡ None → ⊥
    by_test true f none = absurd (cc)
    by_test false f none = let is : h ≡ v = cc in let own : h.page ≡ page = ap (λ (x : Held). x.page) is ∙ same in grind (arith, common_steps, f, own)
get_apart (h ∷ held) (suc n) page v e none same = by_test (h.page == page) none (get_apart held n page v e)
  where
    by_test : (b : Bool) → (if b then Some h else find_held held page) ≡ None → (find_held held page ≡ None → v.page ≡ page → ⊥) → ⊥
    by_test true none behind = absurd (cc)
    by_test false none behind = behind none same

-- All that the contract of a fault says.
pub record DoesEnter (hash : Hash) (old : ObjectNow) (id page : ℕ) (access : Access) (flags : ProcFlags) (resolve : ℕ) (answer : FileReply) (new : ObjectNow) : Type 0 where
  pub acts : Acts hash old (event.Enter id page access flags resolve) None answer new
  pub checked : KeepsChecked old (event.Enter id page access flags resolve) answer new
  pub lazy : IsLazy old id page access answer new
  pub kept : IsKept hash new

module _ (hash : Hash) (old : ObjectNow) (kept : IsKept hash old) (id page : ℕ) (access : Access) (flags : ProcFlags) (resolve : ℕ) where
  abbrev ev : FileEvent
  ev = event.Enter id page access flags resolve

  -- ---- nothing changes

  more_or_same : (n more : ℕ) → n ≤ n + more
  more_or_same n more = omega arith

  lazy_nothing : (answer : FileReply) → is_given answer ≡ false → IsLazy old id page access answer old
  lazy_nothing answer ungiven = record {
    unhashed = λ other. refl;
    few = omega arith;
    hashed = more_or_same old.pages.calls (hash_pages old page);
    to_slot = λ p slot found wanted told. more_or_same old.pages.calls (hash_pages_to old page slot);
    unread = λ failed. refl;
    unneeded = λ none. refl;
    no_hash = λ there. refl;
    kept = λ executes none gives. absurd (grind (arith, common_steps, ungiven, gives));
    no_read = λ there. refl;
  }

  nothing : (answer : FileReply) → is_given answer ≡ false → Quiet hash old (event.Enter id page access flags resolve) None answer old → DoesEnter hash old id page access flags resolve answer old
  nothing answer ungiven quiet =
      let does = does_nothing hash old (event.Enter id page access flags resolve) answer kept quiet in
      record { acts = does.acts; checked = does.checked; lazy = lazy_nothing answer ungiven; kept = kept }

  room_nothing : LeavesRoom (room_of_access access) old.regions old.regions
  room_nothing = record { regions = omega arith; records = omega arith; copies = omega arith }

  -- an answer that gives nothing takes no page out
  untaken_none : (q : ℕ) → takes_out old (event.Enter id page access flags resolve) (reply.NoRegion id) q ≡ false
  untaken_none q = by_access access
    where
      by_access : (a : Access) → takes_out old (event.Enter id page a flags resolve) (reply.NoRegion id) q ≡ false
      by_access Read = refl
      by_access Write = refl
      by_access Execute = refl

  untaken_denied : (denial : Denial) (q : ℕ) → takes_out old (event.Enter id page access flags resolve) (reply.Denied denial) q ≡ false
  untaken_denied denial q = by_access access
    where
      by_access : (a : Access) → takes_out old (event.Enter id page a flags resolve) (reply.Denied denial) q ≡ false
      by_access Read = refl
      by_access Write = refl
      by_access Execute = refl

  untaken_fault : (p q : ℕ) → takes_out old (event.Enter id page access flags resolve) (reply.PagerFault p) q ≡ false
  untaken_fault p q = by_access access
    where
      by_access : (a : Access) → takes_out old (event.Enter id page a flags resolve) (reply.PagerFault p) q ≡ false
      by_access Read = refl
      by_access Write = refl
      by_access Execute = refl

  pub enters_none : having page (region_of old.regions.regions id) ≡ None → DoesEnter hash old id page access flags resolve (reply.NoRegion id) old
  enters_none none = nothing (reply.NoRegion id) refl (record {
    same = refl;
    uncalled = λ pages. ap (λ r. enter_calls hash (seen old pages) r page access flags) none;
    step = λ pages. ap (λ r. enter_region hash r (seen old pages) id page access (guarded flags) 0) (sym none);
    room = room_nothing;
    gains = gains_same nothing_back old.regions;
    untaken = untaken_none;
  })

  -- ---- a region that has the page

  module _ (region : Region) (stands : having page (region_of old.regions.regions id) ≡ Some region) (broken : Option Denial) (rule : broken ≡ verdict_without_bytes (seen old []) region page access) where
    -- the step, where the region is this one
    step_is : (content : List (List ℕ)) (outcome : ℕ) → file_step hash (seen old content) (event.Enter id page access flags resolve) None outcome ≡ enter_page hash (seen old content) region page access (guarded flags) outcome
    step_is content outcome = ap (λ r. enter_region hash r (seen old content) id page access (guarded flags) outcome) stands

    calls_are : (content : List (List ℕ)) → page_calls hash (seen old content) (event.Enter id page access flags resolve) ≡ enter_calls hash (seen old content) (Some region) page access flags
    calls_are content = ap (λ r. enter_calls hash (seen old content) r page access flags) stands

    pub enters_denied : (denial : Denial) → guarded flags ≡ true → broken ≡ Some denial → DoesEnter hash old id page access flags resolve (reply.Denied denial) old
    enters_denied denial under is = nothing (reply.Denied denial) refl (record {
      same = refl;
      uncalled = λ pages. calls_are pages
          ∙ ap (λ b. if (b && is_some (verdict_without_bytes (seen old pages) region page access)) || not (needs_read (seen old pages) region page) then []
          else page ∷ (if is_denied_read hash (seen old pages) region page access flags then [] else victim_calls (victim (seen old pages) page))) under
          ∙ ap (λ o. if (true && is_some o) || not (needs_read (seen old pages) region page) then []
          else page ∷ (if is_denied_read hash (seen old pages) region page access flags then [] else victim_calls (victim (seen old pages) page))) (sym rule ∙ is);
      step = λ pages. sym (step_is pages 0
          ∙ ap (λ b. enter_page hash (seen old pages) region page access b 0) under
          ∙ ap (λ o. denied_or o (seen old pages)
          (failed_or (read_fails (seen old pages) region page 0) page (seen old pages)
          (denied_or (rule_of_bytes hash (seen old pages) page access) (seen old pages)
          (failed_or (write_fails (seen old pages) region page 0) (unwrap_or (left_for (seen old pages) page) page) (seen old pages)
          (give (seen old pages) region page access true None))))) (sym rule ∙ is));
      room = room_nothing;
      gains = gains_same nothing_back old.regions;
      untaken = untaken_denied denial;
    })

    -- ---- the region

    found_region : (region_of old.regions.regions id ≡ Some region) × IsTrue (has_page page region)
    found_region = has_of page (region_of old.regions.regions id) region stands

    same_id : region.id ≡ id
    same_id = grind (arith, common_steps, found_passes (is_region id) old.regions.regions region found_region.0)

    shared_is : is_shared old.regions.regions id ≡ region.shared
    shared_is = ap (λ o. option_map_or (λ (r : Region). r.shared) o false) found_region.0

    -- the tests of an outcome
    and_false : (b : Bool) → (b && false) ≡ false
    and_false true = refl
    and_false false = refl

    no_read_fails : (file : PlainFile) → read_fails file region page 0 ≡ false
    no_read_fails file = and_false (needs_read file region page)

    no_write_fails : (file : PlainFile) → write_fails file region page 0 ≡ false
    no_write_fails file = ap (λ b. b && option_map_or (λ (r : Resident). r.dirty) (victim file page) false) (and_false (needs_read file region page))

    given_is : (g : Bool) (file : PlainFile) → given_page region page access g file ≡ given_from region page access g (if has_copy file region.id page then file else entered page file)
    given_is g file = by_access access
      where
        by_access : (a : Access) → given_page region page a g file ≡ given_from region page a g (if has_copy file region.id page then file else entered page file)
        by_access Read = refl
        by_access Write = refl
        by_access Execute = refl

    -- where no call failed and the bytes break no rule, or there is no guard, the page is given
    given_step : (content : List (List ℕ)) (noted : Option Denial) → (guarded flags ≡ true → (broken ≡ None) × (rule_of_bytes hash (seen old content) page access ≡ None) × (noted ≡ None))
        → (guarded flags ≡ false → noted ≡ verdict hash (seen old content) region page access)
        → enter_page hash (seen old content) region page access (guarded flags) 0 ≡ give (seen old content) region page access (guarded flags) noted
    given_step content noted under free = by_guard (guarded flags) refl
      where
        file : PlainFile
        file = seen old content

        by_guard : (g : Bool) → guarded flags ≡ g → enter_page hash (seen old content) region page access g 0 ≡ give (seen old content) region page access g noted
        by_guard true e =
            let facts = under e in
            ap (λ o. denied_or o (seen old content) (failed_or (read_fails (seen old content) region page 0) page (seen old content) (denied_or (rule_of_bytes hash (seen old content) page access) (seen old content) (failed_or (write_fails (seen old content) region page 0) (unwrap_or (left_for (seen old content) page) page) (seen old content) (give (seen old content) region page access true None))))) (sym rule ∙ facts.0)
            ∙ ap (λ b. failed_or b page (seen old content) (denied_or (rule_of_bytes hash (seen old content) page access) (seen old content) (failed_or (write_fails (seen old content) region page 0) (unwrap_or (left_for (seen old content) page) page) (seen old content) (give (seen old content) region page access true None)))) (no_read_fails (seen old content))
            ∙ ap (λ o. denied_or o (seen old content) (failed_or (write_fails (seen old content) region page 0) (unwrap_or (left_for (seen old content) page) page) (seen old content) (give (seen old content) region page access true None))) facts.1
            ∙ ap (λ b. failed_or b (unwrap_or (left_for (seen old content) page) page) (seen old content) (give (seen old content) region page access true None)) (no_write_fails (seen old content))
            ∙ ap (give (seen old content) region page access true) (sym facts.2)
        by_guard false e =
            ap (λ b. failed_or b page (seen old content) (failed_or (write_fails (seen old content) region page 0) (unwrap_or (left_for (seen old content) page) page) (seen old content) (give (seen old content) region page access false (verdict hash (seen old content) region page access)))) (no_read_fails (seen old content))
            ∙ ap (λ b. failed_or b (unwrap_or (left_for (seen old content) page) page) (seen old content) (give (seen old content) region page access false (verdict hash (seen old content) region page access))) (no_write_fails (seen old content))
            ∙ ap (give (seen old content) region page access false) (sym (free e))

    -- ---- a region with a private copy

    module _ (copy : is_some (bytes_of old.regions.copies id page) ≡ true) (under : guarded flags ≡ true → broken ≡ None) (pages : PagesNow) (regions : RegionsNow) (marks : pages ≡ record old.pages { marks = marks_given region page access old.pages.marks })
        (gives : (bytes : List ℕ) → IfSome (resident_page old.pages.cache page) (λ held. bytes ≡ held.bytes) → GivesTo old.regions region page access (guarded flags) bytes regions) where
      own_copy : is_some (bytes_of old.regions.copies region.id page) ≡ true
      own_copy = ap (λ i. is_some (bytes_of old.regions.copies i page)) same_id ∙ copy

      private : region.shared ≡ false
      private =
          let keep = kept.keep (some_pages old.pages.cache) (some_finds old.pages.cache kept.sound) in
          (subst (λ (o : Option Region). IsSomeAnd o (λ r. IsTrue (has_page page r) × (r.shared ≡ false))) found_region.0 (keep.private_copies id page copy)).1

      same_pages : pages ≡ old.pages
      same_pages = marks ∙ by_access access
        where
          by_access : (a : Access) → record old.pages { marks = marks_given region page a old.pages.marks } ≡ old.pages
          by_access Read = refl
          by_access Execute = refl
          by_access Write = ap (λ b. record old.pages { marks = if b then mapped page old.pages.marks else old.pages.marks }) private

      -- the bytes of the page, where it is resident
      bytes : List ℕ
      bytes = bytes_or (resident_page old.pages.cache page) []

      gives_to : GivesTo old.regions region page access (guarded flags) (bytes_or (resident_page old.pages.cache page) []) regions
      gives_to = gives (bytes_or (resident_page old.pages.cache page) []) (by_held (resident_page old.pages.cache page))
        where
          by_held : (o : Option Held) → IfSome o (λ held. bytes_or o [] ≡ held.bytes)
          by_held None = tt
          by_held (Some h) = refl

      -- a private copy is not executed, so its bytes are not looked at
      verdict_copy : (content : List (List ℕ)) → verdict hash (seen old content) region page access ≡ broken
      verdict_copy content = by_access access rule
        where
          or_none : (o : Option Denial) → option_or o None ≡ o
          or_none None = refl
          or_none (Some d) = refl

          copied_rule : private_copy (seen old []) region page ≡ Some (PrivateCopy page)
          copied_rule = ap (λ b. if b then Some (PrivateCopy page) else None) {x = not region.shared && is_some (bytes_of old.regions.copies region.id page)} {y = true} (grind (arith, common_steps, private, own_copy))

          by_access : (a : Access) → broken ≡ verdict_without_bytes (seen old []) region page a → verdict hash (seen old content) region page a ≡ broken
          by_access Read e = sym e
          by_access Write e = or_none (verdict_without_bytes (seen old []) region page Write) ∙ sym e
          by_access Execute e =
              let unread : verdict_without_bytes (seen old []) region page Execute ≡ Some (PrivateCopy page) =
              ap (λ o. option_or o (option_or (unsigned (seen old []) page) (option_or (beyond_limit (seen old []) page) (option_or (writable_shared (seen old []) page) None)))) copied_rule in
              ap (λ o. option_or o (rule_of_bytes hash (seen old content) page Execute)) unread ∙ sym (e ∙ unread)

      second_none : (one other : Option Denial) → option_or one other ≡ None → other ≡ None
      second_none None other e = e
      second_none (Some d) other e = absurd (cc)

      quiet : Quiet hash old (event.Enter id page access flags resolve) None (reply.Given None broken) (record old { regions = regions })
      quiet = record {
        same = refl;
        uncalled = λ content. calls_are content ∙ ap (λ b. if is_denied_unread (seen old content) region page access flags || not (not b && not (is_resident (seen old content) page)) then []
            else page ∷ (if is_denied_read hash (seen old content) region page access flags then [] else victim_calls (victim (seen old content) page))) own_copy
            ∙ ap (λ b. if b then [] else page ∷ (if is_denied_read hash (seen old content) region page access flags then [] else victim_calls (victim (seen old content) page))) (or_true (is_denied_unread (seen old content) region page access flags));
        step = λ content. sym (step_is content 0 ∙ given_step content broken
            (λ g. (under g, second_none (verdict_without_bytes (seen old []) region page access) (rule_of_bytes hash (seen old content) page access) (verdict_copy content ∙ under g), under g)) (λ g. sym (verdict_copy content))
            ∙ ap (λ b. (reply.Given (if b then None else left_for (seen old content) page) broken, given_page region page access (guarded flags) (seen old content))) own_copy
            ∙ ap (λ file. (reply.Given None broken, file)) (given_is (guarded flags) (seen old content)
            ∙ ap (λ b. given_from region page access (guarded flags) (if b then seen old content else entered page (seen old content))) own_copy
            ∙ sym (gives_plain (seen old content) old.regions region page (guarded flags) refl refl regions access (bytes_or (resident_page old.pages.cache page) []) (λ writes none. absurd (grind (arith, common_steps, own_copy, none))) gives_to)
            ∙ sym (seen_parts old old.pages regions content (record_of regions.records) (bytes_of regions.copies) (map resident_of old.pages.cache.held) (record { limit = refl; pages = refl; page_size = refl })
            (gives_regions old.regions region page access (guarded flags) (bytes_or (resident_page old.pages.cache page) []) regions gives_to).0 refl refl refl)));
        room = gives_room old.regions region page access (guarded flags) (bytes_or (resident_page old.pages.cache page) []) regions gives_to;
        gains = gives_gains old.regions region page access (guarded flags) (bytes_or (resident_page old.pages.cache page) []) regions gives_to;
        untaken = λ q. by_access access q;
      }
        where
          or_true : (b : Bool) → (b || true) ≡ true
          or_true true = refl
          or_true false = refl

          by_access : (a : Access) (q : ℕ) → takes_out old (event.Enter id page a flags resolve) (reply.Given None broken) q ≡ false
          by_access Read q = refl
          by_access Execute q = refl
          by_access Write q = grind (arith, common_steps, shared_is, private)

      pub enters_copied : DoesEnter hash old id page access flags resolve (reply.Given None broken) (with_parts old pages regions)
      enters_copied = subst (λ (p : PagesNow). DoesEnter hash old id page access flags resolve (reply.Given None broken) (with_parts old p regions)) (sym same_pages)
          (let does = does_quietly hash old regions (event.Enter id page access flags resolve) (reply.Given None broken) kept quiet (record {
            sound = gives_sound old.regions region page access (guarded flags) (bytes_or (resident_page old.pages.cache page) []) regions gives_to;
            page = (gives_regions old.regions region page access (guarded flags) (bytes_or (resident_page old.pages.cache page) []) regions gives_to).1;
            inside = subst (All (IsInside old.pages.cache.pager.pages)) (sym (gives_regions old.regions region page access (guarded flags) (bytes_or (resident_page old.pages.cache page) []) regions gives_to).0) kept.inside;
            writers = λ q i writer. by_either q i writer (gives_writers old.regions region page access (guarded flags) (bytes_or (resident_page old.pages.cache page) []) regions gives_to q i writer);
          }) in
          record {
            acts = does.acts;
            checked = does.checked;
            lazy = record {
              unhashed = λ other. refl;
              few = omega arith;
              hashed = more_or_same old.pages.calls (hash_pages old page);
              to_slot = λ p slot found wanted told. more_or_same old.pages.calls (hash_pages_to old page slot);
              unread = λ failed. refl;
              unneeded = λ none. refl;
              no_hash = λ there. refl;
              kept = λ executes none given_it. absurd (grind (arith, common_steps, copy, ap (λ o. is_some (option_map (λ (c : Copy). c.bytes) o)) none));
              no_read = λ there. refl;
            };
            kept = does.kept;
          })
        where
          by_either : (q i : ℕ) → IsWriter regions.regions regions.records q i → IsWriter old.regions.regions old.regions.records q i ⊎ Comes region page access q i → IsWriter old.regions.regions old.regions.records q i
          by_either q i writer (inl was) = was
          by_either q i writer (inr comes) =
              let standing = (gives_regions old.regions region page access (guarded flags) (bytes_or (resident_page old.pages.cache page) []) regions gives_to).0 in
              let shared : region.shared ≡ true = sym (ap (λ rs. is_shared rs i) standing ∙ ap (is_shared old.regions.regions) (comes.1.1 ∙ same_id) ∙ shared_is) ∙ writer.shared in
              absurd (grind (arith, common_steps, private, shared))

    -- ---- a page that is looked at: the region has no copy of it

    module _ (no_copy : is_some (bytes_of old.regions.copies id page) ≡ false) (blob : Option Signature) (held_against : blob ≡ against old.pages.cache.pager.page_size old.blobs page access broken)
        (seen_pages : PagesNow) (noted : Result (Option Denial) PagerFault) (looks : Looks hash old.pages.cache.pager.page_size blob old.pages page noted seen_pages) where
      size : ℕ
      size = old.pages.cache.pager.page_size

      inside : page < old.pages.cache.pager.pages
      inside =
          let within = found_has (IsInside old.pages.cache.pager.pages) (is_region id) old.regions.regions region (recursion_from_All (IsInside old.pages.cache.pager.pages) old.regions.regions kept.inside) found_region.0 in
          let has : page < region.first + region.pages = grind (arith, common_steps, found_region.1) in
          omega arith

      own_none : is_some (bytes_of old.regions.copies region.id page) ≡ false
      own_none = ap (λ i. is_some (bytes_of old.regions.copies i page)) same_id ∙ no_copy

      reads_needed : (content : List (List ℕ)) → needs_read (seen old content) region page ≡ not (is_some (resident_page old.pages.cache page))
      reads_needed content = ap (λ b. not b && not (is_resident (seen old content) page)) own_none ∙ ap not (resident_is old content page)

      -- the seal that it was found sealed by
      seal : Option Seal
      seal = sealed_by old.pages.cache.pager.page_size blob page noted

      marked : Marked old.pages page (sealed_by old.pages.cache.pager.page_size blob page noted) seen_pages.marks
      marked = subst (Marked old.pages page (sealed_by old.pages.cache.pager.page_size blob page noted)) (sym looks.marks)
          (looked_marked hash old.pages page kept.sound.listed kept.marked inside old.pages.cache.pager.page_size blob noted)

      -- what is known where it was
      sealed_facts : (s : Seal) → sealed_by old.pages.cache.pager.page_size blob page noted ≡ Some s
          → Signs old.blobs old.pages.cache.pager.page_size page s × ((access ≡ Execute) × ((noted ≡ Ok None) × HasNoWriter old.regions.regions old.regions.records page))
      sealed_facts s e = by_blob blob noted refl refl e
        where
          none_some : {X : Type 0} (x : X) → None ≡ Some x → ⊥
          none_some x e = cc

          by_blob : (b : Option Signature) (n : Result (Option Denial) PagerFault) → blob ≡ b → noted ≡ n → sealed_by old.pages.cache.pager.page_size b page n ≡ Some s
              → Signs old.blobs old.pages.cache.pager.page_size page s × ((access ≡ Execute) × ((noted ≡ Ok None) × HasNoWriter old.regions.regions old.regions.records page))
          by_blob None n f g e = absurd (none_some s e)
          by_blob (Some b) (Err fault) f g e = absurd (none_some s e)
          by_blob (Some b) (Ok (Some d)) f g e = absurd (none_some s e)
          by_blob (Some b) (Ok None) f g e =
              let is = against_some old page kept.regions_sound region access broken b rule (sym held_against ∙ f) in
              let one : seal_for old.pages.cache.pager.page_size b page ≡ s = same e in (
                subst (λ (o : Option Attached). IsSomeAnd o (λ attached. IsTrue (is_below_limit old.pages.cache.pager.page_size attached.signature page) × (s ≡ seal_for old.pages.cache.pager.page_size attached.signature page))) (sym is.cover)
                    (grind (arith, common_steps, is.below), sym (ap (λ c. seal_for old.pages.cache.pager.page_size c page) is.own ∙ one)),
                (is.executes, (g, is.unwritten)),
              )
            where
              same : Some (seal_for old.pages.cache.pager.page_size b page) ≡ Some s → seal_for old.pages.cache.pager.page_size b page ≡ s
              same e = cc

      -- a page that was checked, and is held against its slots, is found sealed without a digest
      checked_lazy : is_checked old page ≡ true → (b : Signature) → blob ≡ Some b → (noted ≡ Ok None) × (seen_pages.calls ≡ old.pages.calls)
      checked_lazy there b f =
          let is = against_some old page kept.regions_sound region access broken b rule (sym held_against ∙ f) in
          by_mark (marks_of old.pages.marks page).validated refl (checked_validated old page there) is (subst (λ o. Counts old.pages.cache.pager.page_size o old.pages page noted seen_pages) f looks.counts)
        where
          by_mark : (o : Option Seal) → (marks_of old.pages.marks page).validated ≡ o → is_some (marks_of old.pages.marks page).validated ≡ true → Against old page access broken b → Hashes old.pages.cache.pager.page_size b old.pages page noted seen_pages
              → (noted ≡ Ok None) × (seen_pages.calls ≡ old.pages.calls)
          by_mark None e some is counts = absurd (grind (arith, common_steps, sym (ap is_some e) ∙ some))
          by_mark (Some s) e some is counts =
              let signs = subst (λ (o : Option Attached). IsSomeAnd o (λ attached. IsTrue (is_below_limit old.pages.cache.pager.page_size attached.signature page) × (s ≡ seal_for old.pages.cache.pager.page_size attached.signature page))) is.cover (kept.seals.signed page s e) in
              counts.lazy (checked_resident old page there) (e ∙ ap Some (signs.1 ∙ ap (λ c. seal_for old.pages.cache.pager.page_size c page) is.own))

      -- how often the digester was called
      lazy_calls : (access ≢ Execute → seen_pages.calls ≡ old.pages.calls) × (seen_pages.calls ≤ old.pages.calls + old.pages.cache.pager.page_size / 4096) × (is_checked old page ≡ true → seen_pages.calls ≡ old.pages.calls)
      lazy_calls = by_blob blob refl looks.counts
        where
          by_blob : (b : Option Signature) → blob ≡ b → Counts old.pages.cache.pager.page_size b old.pages page noted seen_pages
              → (access ≢ Execute → seen_pages.calls ≡ old.pages.calls) × (seen_pages.calls ≤ old.pages.calls + old.pages.cache.pager.page_size / 4096) × (is_checked old page ≡ true → seen_pages.calls ≡ old.pages.calls)
          by_blob None f counts = (λ other. counts, omega arith, λ there. counts)
          by_blob (Some b) f counts = (
            λ other. absurd (other (against_some old page kept.regions_sound region access broken b rule (sym held_against ∙ f)).executes),
            (let few = counts.few in let less = each_hash_page (λ h. old.pages.cache.pager.page_size / h ≤ old.pages.cache.pager.page_size / 4096) b (omega arith) (omega arith) in omega arith),
            λ there. (checked_lazy there b f).1,
          )

      -- not more often than the page has hash pages in the signature that covers it
      hashed_calls : seen_pages.calls ≤ old.pages.calls + hash_pages old page
      hashed_calls = by_blob blob refl looks.counts
        where
          no_more : (now before more : ℕ) → now ≡ before → now ≤ before + more
          no_more now before more same = omega arith

          by_blob : (b : Option Signature) → blob ≡ b → Counts old.pages.cache.pager.page_size b old.pages page noted seen_pages → seen_pages.calls ≤ old.pages.calls + hash_pages old page
          by_blob None f counts = no_more seen_pages.calls old.pages.calls (hash_pages old page) counts
          by_blob (Some b) f counts =
              let is = against_some old page kept.regions_sound region access broken b rule (sym held_against ∙ f) in
              let own : hash_pages old page ≡ old.pages.cache.pager.page_size / hash_page b =
              ap (λ (o : Option Attached). option_map_or (λ attached. old.pages.cache.pager.page_size / hash_page attached.signature) o 0) is.cover
              ∙ ap (λ c. old.pages.cache.pager.page_size / hash_page c) is.own in
              subst (λ n. seen_pages.calls ≤ old.pages.calls + n) (sym own) counts.few

      -- and up to the hash page that is told
      slot_calls : (told : Option Denial) → noted ≡ Ok told → (p slot : ℕ) (found wanted : List ℕ) → option_or broken told ≡ Some (Mismatch p slot found wanted)
          → seen_pages.calls ≤ old.pages.calls + hash_pages_to old page slot
      slot_calls told is p slot found wanted tells = by_blob blob refl looks.counts
        where
          no_more : (now before more : ℕ) → now ≡ before → now ≤ before + more
          no_more now before more same = omega arith

          by_blob : (b : Option Signature) → blob ≡ b → Counts old.pages.cache.pager.page_size b old.pages page noted seen_pages → seen_pages.calls ≤ old.pages.calls + hash_pages_to old page slot
          by_blob None f counts = no_more seen_pages.calls old.pages.calls (hash_pages_to old page slot) counts
          by_blob (Some b) f counts =
              let found_against = against_some old page kept.regions_sound region access broken b rule (sym held_against ∙ f) in
              let own : hash_pages_to old page slot ≡ hashes_to old.pages.cache.pager.page_size b page slot =
              ap (λ (o : Option Attached). option_map_or (λ attached. hashes_to old.pages.cache.pager.page_size attached.signature page slot) o 0) found_against.cover
              ∙ ap (λ c. hashes_to old.pages.cache.pager.page_size c page slot) found_against.own in
              let now_told : noted ≡ Ok (Some (Mismatch p slot found wanted)) = is ∙ ap noted_ok (sym (ap (λ o. option_or o told) found_against.unbroken) ∙ tells) in
              subst (λ n. seen_pages.calls ≤ old.pages.calls + n) (sym own)
              (subst (λ r. seen_pages.calls ≤ old.pages.calls + hashed_for old.pages.cache.pager.page_size b page r) now_told counts.once)

      -- where the page could not be read there are none
      unread_calls : is_err noted ≡ true → seen_pages.calls ≡ old.pages.calls
      unread_calls failed = by_blob blob refl looks.counts
        where
          by_blob : (b : Option Signature) → blob ≡ b → Counts old.pages.cache.pager.page_size b old.pages page noted seen_pages → seen_pages.calls ≡ old.pages.calls
          by_blob None f counts = counts
          by_blob (Some b) f counts = counts.unread failed

      -- and not at all where the access is judged without the page's bytes
      unneeded_calls : needs_bytes old id page access ≡ false → seen_pages.calls ≡ old.pages.calls
      unneeded_calls none = by_blob blob refl looks.counts
        where
          by_blob : (b : Option Signature) → blob ≡ b → Counts old.pages.cache.pager.page_size b old.pages page noted seen_pages → seen_pages.calls ≡ old.pages.calls
          by_blob None f counts = counts
          by_blob (Some b) f counts =
              let is = against_some old page kept.regions_sound region access broken b rule (sym held_against ∙ f) in
              let needed : needs_bytes old id page access ≡ true =
              ap (needs_bytes old id page) is.executes
              ∙ ap (λ (o : Option Region). option_map_or (λ r. not (is_some (verdict_without_bytes (seen old []) r page Execute))) o false) stands
              ∙ ap (λ (o : Option Denial). not (is_some o)) (ap (verdict_without_bytes (seen old []) region page) (sym is.executes) ∙ sym rule ∙ is.unbroken) in
              absurd (false≢true (sym none ∙ needed))

      leaves_of : (b : Bool) → is_err noted ≡ b → PeekLeaves old.pages.cache page b seen_pages.cache
      leaves_of b e = subst (λ c. PeekLeaves old.pages.cache page c seen_pages.cache) e looks.leaves

      -- what is true afterwards, where the list and the regions stay
      module _ (pages : PagesNow) (held : pages.cache.held ≡ old.pages.cache.held) (sizes : KeepsSizes old.pages.cache pages.cache) (sound : IsSound pages.cache) (is_marked : IsMarked hash pages.cache pages.marks)
          (marks : pages.marks ≡ seen_pages.marks) (calls : pages.calls ≡ seen_pages.calls) (reads : is_some (resident_page old.pages.cache page) ≡ true → pages.cache.pager.reads ≡ old.pages.cache.pager.reads)
          (page_ok : is_checked old page ≡ true → is_some (marks_of seen_pages.marks page).validated ≡ true)
          (unsealed : is_some (resident_page old.pages.cache page) ≡ true → sealed_by old.pages.cache.pager.page_size blob page noted ≡ None) where
        abbrev stayed : ObjectNow
        stayed = with_parts old pages old.regions

        resident_same : (q : ℕ) → is_some (resident_page pages.cache q) ≡ is_some (resident_page old.pages.cache q)
        resident_same q = ap (λ (l : List Held). is_some (find_held l q)) held

        stayed_sealed : MarksAgree stayed
        stayed_sealed = record {
          signed = λ q s e. subst (λ n. Signs old.blobs n q s) (sym sizes.page_size) (by_either q s (marked.validated q s (sym (ap (λ ms. (marks_of ms q).validated) marks) ∙ e)));
          unmapped = λ q none. by_mark q none (marks_of pages.marks q).writable refl;
          unwritten = λ q i writer. by_kept q i writer (marks_of pages.marks q).validated refl;
        }
          where
            by_either : (q : ℕ) (s : Seal) → ((marks_of old.pages.marks q).validated ≡ Some s) ⊎ ((q ≡ page) × (sealed_by old.pages.cache.pager.page_size blob page noted ≡ Some s)) → Signs old.blobs old.pages.cache.pager.page_size q s
            by_either q s (inl was) = kept.seals.signed q s was
            by_either q s (inr now) = subst (λ n. Signs old.blobs old.pages.cache.pager.page_size n s) (sym now.0) (sealed_facts s now.1).0

            none_is : {X : Type 0} (o : Option X) → is_some o ≡ false → o ≡ None
            none_is None e = refl
            none_is (Some x) e = absurd (grind (arith, common_steps, e))

            by_mark : (q : ℕ) → resident_page pages.cache q ≡ None → (b : Bool) → (marks_of pages.marks q).writable ≡ b → b ≡ false
            by_mark q none false e = refl
            by_mark q none true e =
                sym (marked.writable q (sym (ap (λ ms. (marks_of ms q).writable) marks) ∙ e))
                ∙ kept.seals.unmapped q (none_is (resident_page old.pages.cache q) (sym (resident_same q) ∙ ap is_some none))

            by_kept : (q i : ℕ) → IsWriter old.regions.regions old.regions.records q i → (o : Option Seal) → (marks_of pages.marks q).validated ≡ o → o ≡ None
            by_kept q i writer None e = refl
            by_kept q i writer (Some s) e = absurd (wrong (marked.validated q s (sym (ap (λ ms. (marks_of ms q).validated) marks) ∙ e)))
              where
                wrong : ((marks_of old.pages.marks q).validated ≡ Some s) ⊎ ((q ≡ page) × (sealed_by old.pages.cache.pager.page_size blob page noted ≡ Some s)) → ⊥
                wrong (inl was) = let none : None ≡ Some s = sym (kept.seals.unwritten q i writer) ∙ was in cc
                wrong (inr now) = (sealed_facts s now.1).1.1.1 i (subst (λ n. IsWriter old.regions.regions old.regions.records n i) now.0 writer)

        stayed_checked : (answer : FileReply) → ((q : ℕ) → takes_out old (event.Enter id page access flags resolve) answer q ≡ false) → KeepsChecked old (event.Enter id page access flags resolve) answer stayed
        stayed_checked answer untaken = record {
          stays = λ q there.
              let resident : checked.is_resident stayed q ≡ true = resident_same q ∙ checked_resident old q there in
              let valid : is_validated stayed q ≡ true = ap (λ ms. is_some (marks_of ms q).validated) marks ∙ valid_of q there (q == page) refl in
              checked_is stayed q ∙ ap (λ b. b && is_validated stayed q) resident ∙ valid
              ∙ sym (ap (λ b. not b && checked.is_resident stayed q) (untaken q) ∙ resident);
          comes = λ q gone there. absurd (comes_of q gone there (marks_of pages.marks q).validated refl (checked_validated stayed q there));
        }
          where
            valid_of : (q : ℕ) → is_checked old q ≡ true → (b : Bool) → (q == page) ≡ b → is_some (marks_of seen_pages.marks q).validated ≡ true
            valid_of q there false e = ap is_some (marked.others q e (checked_resident old q there)) ∙ checked_validated old q there
            valid_of q there true e =
                let same : q ≡ page = grind (arith, common_steps, e) in
                ap (λ n. is_some (marks_of seen_pages.marks n).validated) same ∙ page_ok (ap (is_checked old) (sym same) ∙ there)

            comes_of : (q : ℕ) → is_checked old q ≡ false → is_checked stayed q ≡ true → (o : Option Seal) → (marks_of pages.marks q).validated ≡ o → is_some (marks_of pages.marks q).validated ≡ true → ⊥
            comes_of q gone there None e some = grind (arith, common_steps, sym (ap is_some e) ∙ some)
            comes_of q gone there (Some s) e some = by_either (marked.validated q s (sym (ap (λ ms. (marks_of ms q).validated) marks) ∙ e))
              where
                resident : checked.is_resident old q ≡ true
                resident = sym (resident_same q) ∙ checked_resident stayed q there

                by_either : ((marks_of old.pages.marks q).validated ≡ Some s) ⊎ ((q ≡ page) × (sealed_by old.pages.cache.pager.page_size blob page noted ≡ Some s)) → ⊥
                by_either (inl was) = grind (arith, common_steps, sym gone ∙ checked_is old q ∙ ap (λ b. b && is_validated old q) resident ∙ ap is_some was)
                by_either (inr now) = let none : None ≡ Some s = sym (unsealed (ap (λ n. is_some (resident_page old.pages.cache n)) (sym now.0) ∙ resident)) ∙ now.1 in cc

        stays_does : (answer : FileReply) → is_given answer ≡ false
            → ((p slot : ℕ) (found wanted : List ℕ) → told_broken answer ≡ Some (Mismatch p slot found wanted) → seen_pages.calls ≤ old.pages.calls + hash_pages_to old page slot)
            → (answer ≡ reply.PagerFault page → seen_pages.calls ≡ old.pages.calls) → ((q : ℕ) → takes_out old (event.Enter id page access flags resolve) answer q ≡ false)
            → Acts hash old (event.Enter id page access flags resolve) None answer stayed → DoesEnter hash old id page access flags resolve answer stayed
        stays_does answer ungiven up_to none_hashed untaken acts = record {
          acts = acts;
          checked = stayed_checked answer untaken;
          lazy = record {
            unhashed = λ other. calls ∙ lazy_calls.0 other;
            few = let few = lazy_calls.1 in omega arith;
            hashed = subst (λ n. n ≤ old.pages.calls + hash_pages old page) (sym calls) hashed_calls;
            to_slot = λ p slot found wanted tells. subst (λ n. n ≤ old.pages.calls + hash_pages_to old page slot) (sym calls) (up_to p slot found wanted tells);
            unread = λ is. calls ∙ none_hashed is;
            unneeded = λ none. calls ∙ unneeded_calls none;
            no_hash = λ there. calls ∙ lazy_calls.2 there;
            kept = λ executes none gives. absurd (grind (arith, common_steps, ungiven, gives));
            no_read = reads;
          };
          kept = kept_after hash old pages old.regions (event.Enter id page access flags resolve) answer kept acts sound is_marked kept.regions_sound refl refl stayed_sealed;
        }

        seen_stayed : (content : List (List ℕ)) → seen stayed content ≡ seen old content
        seen_stayed content = seen_parts old pages old.regions content (record_of old.regions.records) (bytes_of old.regions.copies) (map resident_of old.pages.cache.held) sizes refl refl refl (ap (map resident_of) held)

        stays_room : LeavesRoom (room_of_access access) old.regions old.regions
        stays_room = room_nothing

      -- ---- the calls, where no rule was broken before

      module _ (under : guarded flags ≡ true → broken ≡ None) where
        unread_fine : (content : List (List ℕ)) → is_denied_unread (seen old content) region page access flags ≡ false
        unread_fine content = by_guard (guarded flags) refl
          where
            by_guard : (g : Bool) → guarded flags ≡ g → (guarded flags && is_some (verdict_without_bytes (seen old content) region page access)) ≡ false
            by_guard false e = ap (λ b. b && is_some (verdict_without_bytes (seen old content) region page access)) e
            by_guard true e = ap (λ b. b && is_some (verdict_without_bytes (seen old content) region page access)) e ∙ ap is_some (sym rule ∙ under e)

        calls_absent : (content : List (List ℕ)) → is_some (resident_page old.pages.cache page) ≡ false
            → page_calls hash (seen old content) (event.Enter id page access flags resolve) ≡ page ∷ (if is_denied_read hash (seen old content) region page access flags then [] else victim_calls (victim (seen old content) page))
        calls_absent content absent = calls_are content
            ∙ ap (λ b. if b || not (needs_read (seen old content) region page) then [] else page ∷ (if is_denied_read hash (seen old content) region page access flags then [] else victim_calls (victim (seen old content) page))) (unread_fine content)
            ∙ ap (λ b. if not b then [] else page ∷ (if is_denied_read hash (seen old content) region page access flags then [] else victim_calls (victim (seen old content) page))) (reads_needed content ∙ ap not absent)

        calls_resident : (content : List (List ℕ)) → is_some (resident_page old.pages.cache page) ≡ true → page_calls hash (seen old content) (event.Enter id page access flags resolve) ≡ []
        calls_resident content there = calls_are content
            ∙ ap (λ b. if b || not (needs_read (seen old content) region page) then [] else page ∷ (if is_denied_read hash (seen old content) region page access flags then [] else victim_calls (victim (seen old content) page))) (unread_fine content)
            ∙ ap (λ b. if not b then [] else page ∷ (if is_denied_read hash (seen old content) region page access flags then [] else victim_calls (victim (seen old content) page))) (reads_needed content ∙ ap not there)

        -- the step up to the read, and up to the rule on the bytes
        read_step : (content : List (List ℕ)) → is_some (resident_page old.pages.cache page) ≡ false → enter_page hash (seen old content) region page access (guarded flags) 1 ≡ (reply.PagerFault page, seen old content)
        read_step content absent = by_guard (guarded flags) refl
          where
            fails : read_fails (seen old content) region page 1 ≡ true
            fails = ap (λ b. b && (1 == 1)) (reads_needed content ∙ ap not absent)

            by_guard : (g : Bool) → guarded flags ≡ g → enter_page hash (seen old content) region page access g 1 ≡ (reply.PagerFault page, seen old content)
            by_guard true e =
                ap (λ o. denied_or o (seen old content) (failed_or (read_fails (seen old content) region page 1) page (seen old content) (denied_or (rule_of_bytes hash (seen old content) page access) (seen old content) (failed_or (write_fails (seen old content) region page 1) (unwrap_or (left_for (seen old content) page) page) (seen old content) (give (seen old content) region page access true None))))) (sym rule ∙ under e)
                ∙ ap (λ b. failed_or b page (seen old content) (denied_or (rule_of_bytes hash (seen old content) page access) (seen old content) (failed_or (write_fails (seen old content) region page 1) (unwrap_or (left_for (seen old content) page) page) (seen old content) (give (seen old content) region page access true None)))) fails
            by_guard false e =
                ap (λ b. failed_or b page (seen old content) (failed_or (write_fails (seen old content) region page 1) (unwrap_or (left_for (seen old content) page) page) (seen old content) (give (seen old content) region page access false (verdict hash (seen old content) region page access)))) fails

        -- ---- the read failed
        absent_of : is_err noted ≡ true → is_some (resident_page old.pages.cache page) ≡ false
        absent_of failed = by_resident (is_some (resident_page old.pages.cache page)) refl
          where
            by_resident : (b : Bool) → is_some (resident_page old.pages.cache page) ≡ b → b ≡ false
            by_resident false e = refl
            by_resident true e = absurd (grind (arith, common_steps, failed, (looks.leaves.no_call e).0))

        pub enters_unread : (fault : PagerFault) → noted ≡ Err fault → DoesEnter hash old id page access flags resolve (reply.PagerFault page) (with_parts old seen_pages old.regions)
        enters_unread fault is =
            stays_does seen_pages looks.leaves.list looks.leaves.sizes looks.leaves.sound looks.marked refl refl
            (λ there. absurd (grind (arith, common_steps, absent, there))) (λ there. absurd (grind (arith, common_steps, absent, checked_resident old page there)))
            (λ there. absurd (grind (arith, common_steps, absent, there)))
            (reply.PagerFault page) refl (λ p slot found wanted tells. absurd (no_denial (Mismatch p slot found wanted) tells)) (λ same. unread_calls failed) (untaken_fault page) (record {
              pages = some_pages old.pages.cache;
              pages_after = some_pages old.pages.cache;
              outcome = 1;
              few = subst (λ (l : List ℕ). 1 ≤ length l) (sym (calls_absent (some_pages old.pages.cache) absent)) (omega arith);
              calls = subst (λ (calls : List PagerCall). Called old.pages.cache.pager calls seen_pages.cache.pager)
                  (sym (ap (λ (l : List ℕ). take 1 (calls_of_fault l)) (calls_absent (some_pages old.pages.cache) absent)))
                  (subst (λ b. Called old.pages.cache.pager (if b then [] else Reads page ∷ []) seen_pages.cache.pager) absent
                  (peek_called old.pages.cache seen_pages.cache page true (leaves_of true failed).steps));
              reads = reads_are 1 (reads_made hash (seen old (some_pages old.pages.cache)) (event.Enter id page access flags resolve) 1) old.pages.cache.pager.reads seen_pages.cache.pager.reads
                  (sym (fault_reads_to 0 (page_calls hash (seen old (some_pages old.pages.cache)) (event.Enter id page access flags resolve)) page
                  (if is_denied_read hash (seen old (some_pages old.pages.cache)) region page access flags then [] else victim_calls (victim (seen old (some_pages old.pages.cache)) page))
                  (calls_absent (some_pages old.pages.cache) absent)))
                  (subst (λ b. ReadsAfter (length (unread b page)) old.pages.cache.pager.reads seen_pages.cache.pager.reads) absent
                  (peek_reads old.pages.cache seen_pages.cache page true (leaves_of true failed).steps));
              found = some_finds old.pages.cache kept.sound;
              found_after = finds_same old.pages.cache seen_pages.cache (some_pages old.pages.cache) looks.leaves.list looks.leaves.content looks.leaves.sizes (some_finds old.pages.cache kept.sound);
              step = ap (λ file. (reply.PagerFault page, file)) (seen_parts old seen_pages old.regions (some_pages old.pages.cache) (record_of old.regions.records) (bytes_of old.regions.copies) (map resident_of old.pages.cache.held) looks.leaves.sizes refl refl refl (ap (map resident_of) looks.leaves.list))
                  ∙ sym (step_is (some_pages old.pages.cache) 1 ∙ read_step (some_pages old.pages.cache) absent);
              faults = (leaves_of true failed).faults;
              told = tells_of old.pages.cache.pager seen_pages.cache.pager (length (page_calls hash (seen old (some_pages old.pages.cache)) (event.Enter id page access flags resolve))) 1
                  (subst (λ (l : List ℕ). 1 ≤ length l) (sym (calls_absent (some_pages old.pages.cache) absent)) (omega arith))
                  (subst (λ b. MadeCalls old.pages.cache.pager (if b then [] else true ∷ []) seen_pages.cache.pager) absent (peek_made old.pages.cache seen_pages.cache page true (leaves_of true failed).steps));
              sizes = looks.leaves.sizes;
              room = room_nothing;
              gains = gains_same nothing_back old.regions;
            })
          where
            failed : is_err noted ≡ true
            failed = ap is_err is

            absent : is_some (resident_page old.pages.cache page) ≡ false
            absent = absent_of (ap is_err is)

        -- ---- the page was read

        module _ (told : Option Denial) (is : noted ≡ Ok told) where
          not_failed : is_err noted ≡ false
          not_failed = ap is_err is

          hand : (h : Held) × ((at_hand seen_pages.cache page ≡ Some h) × (told ≡ says hash old.pages.cache.pager.page_size blob page h.bytes))
          hand = by_hand (at_hand seen_pages.cache page) refl (subst (λ n. IfOk n (λ told. IsSomeAnd (at_hand seen_pages.cache page) (λ held. told ≡ says hash old.pages.cache.pager.page_size blob page held.bytes))) is looks.says)
            where
              by_hand : (o : Option Held) → at_hand seen_pages.cache page ≡ o → IsSomeAnd o (λ held. told ≡ says hash old.pages.cache.pager.page_size blob page held.bytes)
                  → (h : Held) × ((at_hand seen_pages.cache page ≡ Some h) × (told ≡ says hash old.pages.cache.pager.page_size blob page h.bytes))
              by_hand None e there = absurd there
              by_hand (Some h) e there = (h, (e, there))

          read : ReadAs old.pages.cache seen_pages.cache page hand.0.bytes
          read = looked_read old.pages.cache seen_pages.cache page hand.0 kept.sound inside (leaves_of false not_failed) hand.1.0

          abbrev found_pages : List (List ℕ)
          found_pages = read_pages old.pages.cache page hand.0.bytes

          own_bytes : page_of (seen old found_pages) page ≡ hand.0.bytes
          own_bytes = get_or_from_slice_get found_pages page hand.0.bytes [] read.here

          -- what its bytes say is the rule on them
          says_cover : (o : Option Attached) → says hash old.pages.cache.pager.page_size (option_map (λ attached. attached.signature) o) page hand.0.bytes
              ≡ option_map_or (λ attached. option_map (λ p. Mismatch page p.slot (hash attached.signature.best.kind p.bytes) p.wanted)
              (find (differs hash attached.signature) (parts old.pages.cache.pager.page_size attached.signature page hand.0.bytes))) o None
          says_cover None = refl
          says_cover (Some attached) = refl

          told_rule : broken ≡ None → told ≡ rule_of_bytes hash (seen old found_pages) page access
          told_rule unbroken = hand.1.1 ∙ ap (λ b. says hash old.pages.cache.pager.page_size b page hand.0.bytes) (held_against ∙ ap (against old.pages.cache.pager.page_size old.blobs page access) unbroken) ∙ by_access access
            where
              by_access : (a : Access) → says hash old.pages.cache.pager.page_size (against old.pages.cache.pager.page_size old.blobs page a None) page hand.0.bytes ≡ rule_of_bytes hash (seen old found_pages) page a
              by_access Read = refl
              by_access Write = refl
              by_access Execute = says_cover (cover_of old page)
                  ∙ ap (λ b. option_map_or (λ attached. option_map (λ p. Mismatch page p.slot (hash attached.signature.best.kind p.bytes) p.wanted)
                  (find (differs hash attached.signature) (parts old.pages.cache.pager.page_size attached.signature page b))) (cover_of old page) None) (sym own_bytes)

          told_verdict : option_or broken told ≡ verdict hash (seen old found_pages) region page access
          told_verdict = by_broken broken refl
            where
              by_broken : (o : Option Denial) → broken ≡ o → option_or broken told ≡ option_or (verdict_without_bytes (seen old []) region page access) (rule_of_bytes hash (seen old found_pages) page access)
              by_broken None e = ap (option_or broken) (told_rule e) ∙ ap (λ o. option_or o (rule_of_bytes hash (seen old found_pages) page access)) rule
              by_broken (Some d) e =
                  ap (λ o. option_or o told) e ∙ ap (λ o. option_or o (rule_of_bytes hash (seen old found_pages) page access)) (sym e ∙ rule)

          -- under guard
          under_rule : guarded flags ≡ true → told ≡ rule_of_bytes hash (seen old found_pages) page access
          under_rule g = told_rule (under g)

          peek_calls : (b : Bool) → is_some (resident_page old.pages.cache page) ≡ b → MadeCalls old.pages.cache.pager (if b then [] else false ∷ []) seen_pages.cache.pager
          peek_calls b e = subst (λ c. MadeCalls old.pages.cache.pager (if c then [] else false ∷ []) seen_pages.cache.pager) e (peek_made old.pages.cache seen_pages.cache page false (leaves_of false not_failed).steps)

          peek_called_as : (b : Bool) → is_some (resident_page old.pages.cache page) ≡ b → Called old.pages.cache.pager (if b then [] else Reads page ∷ []) seen_pages.cache.pager
          peek_called_as b e = subst (λ c. Called old.pages.cache.pager (if c then [] else Reads page ∷ []) seen_pages.cache.pager) e (peek_called old.pages.cache seen_pages.cache page false (leaves_of false not_failed).steps)

          same_reads : is_some (resident_page old.pages.cache page) ≡ true → seen_pages.cache.pager.reads ≡ old.pages.cache.pager.reads
          same_reads there = ap (λ (c : CacheNow). c.pager.reads) ((leaves_of false not_failed).no_call there).1

          -- the page is read once, unless it is resident
          reads_found : (reads : ℕ) → reads ≡ seen_pages.cache.pager.reads → (leaving : List ℕ)
              → (is_some (resident_page old.pages.cache page) ≡ false → page_calls hash (seen old found_pages) (event.Enter id page access flags resolve) ≡ page ∷ leaving)
              → ReadsAfter (reads_made hash (seen old found_pages) (event.Enter id page access flags resolve) 0) old.pages.cache.pager.reads reads
          reads_found reads same leaving calls = by_resident (is_some (resident_page old.pages.cache page)) refl
            where
              by_resident : (b : Bool) → is_some (resident_page old.pages.cache page) ≡ b
                  → ReadsAfter (reads_made hash (seen old found_pages) (event.Enter id page access flags resolve) 0) old.pages.cache.pager.reads reads
              by_resident true e =
                  reads_are 0 (reads_made hash (seen old found_pages) (event.Enter id page access flags resolve) 0) old.pages.cache.pager.reads reads
                  (sym (reads_uncalled hash (seen old found_pages) (event.Enter id page access flags resolve) 0 (calls_resident found_pages e)))
                  (no_reads old.pages.cache.pager.reads reads (same ∙ same_reads e))
              by_resident false e =
                  reads_are 1 (reads_made hash (seen old found_pages) (event.Enter id page access flags resolve) 0) old.pages.cache.pager.reads reads
                  (sym (fault_reads (page_calls hash (seen old found_pages) (event.Enter id page access flags resolve)) page leaving (calls e)))
                  (subst (λ n. ReadsAfter 1 old.pages.cache.pager.reads n) (sym same)
                  (subst (λ b. ReadsAfter (length (unread b page)) old.pages.cache.pager.reads seen_pages.cache.pager.reads) e
                  (peek_reads old.pages.cache seen_pages.cache page false (leaves_of false not_failed).steps)))

          -- a checked page says nothing
          checked_ok : is_checked old page ≡ true → is_some (marks_of seen_pages.marks page).validated ≡ true
          checked_ok there = by_blob blob refl
            where
              by_blob : (b : Option Signature) → blob ≡ b → is_some (marks_of seen_pages.marks page).validated ≡ true
              by_blob None f =
                  ap (λ ms. is_some (marks_of ms page).validated) (looks.marks ∙ ap (λ b. marks_looked old.pages.cache.pager.page_size old.pages.cache b page noted old.pages.marks) f)
                  ∙ ap (λ b. is_some (marks_of (if b then old.pages.marks else spare_gone old.pages.cache old.pages.marks) page).validated) (checked_resident old page there)
                  ∙ checked_validated old page there
              by_blob (Some b) f = ap is_some (marked.here (seal_for old.pages.cache.pager.page_size b page)
                  (ap (λ o. sealed_by old.pages.cache.pager.page_size o page noted) f ∙ ap (sealed_by old.pages.cache.pager.page_size (Some b) page) (checked_lazy there b f).0))

          -- ---- the bytes break the rule on them
          module _ (denial : Denial) (breaks : told ≡ Some denial) where
            unsealed_now : sealed_by old.pages.cache.pager.page_size blob page noted ≡ None
            unsealed_now = by_blob blob
              where
                by_blob : (b : Option Signature) → sealed_by old.pages.cache.pager.page_size b page noted ≡ None
                by_blob None = refl
                by_blob (Some b) = ap (sealed_by old.pages.cache.pager.page_size (Some b) page) (is ∙ ap Ok breaks)

            pub enters_mismatch : guarded flags ≡ true → DoesEnter hash old id page access flags resolve (reply.Denied denial) (with_parts old seen_pages old.regions)
            enters_mismatch g =
                stays_does seen_pages looks.leaves.list looks.leaves.sizes looks.leaves.sound looks.marked refl refl same_reads checked_ok (λ there. unsealed_now)
                (reply.Denied denial) refl
                (λ p slot found wanted tells. slot_calls told is p slot found wanted (ap (λ o. option_or o told) (under g) ∙ breaks ∙ tells)) (λ same. absurd (denied_apart denial page same)) (untaken_denied denial) (record {
                  pages = found_pages;
                  pages_after = found_pages;
                  outcome = 0;
                  few = omega arith;
                  calls = called_of (is_some (resident_page old.pages.cache page)) refl;
                  reads = reads_found seen_pages.cache.pager.reads refl []
                      (λ e. calls_absent found_pages e ∙ ap (λ b. page ∷ (if b then [] else victim_calls (victim (seen old found_pages) page))) denied_read);
                  found = read.before;
                  found_after = read.after;
                  step = ap (λ file. (reply.Denied denial, file)) (seen_parts old seen_pages old.regions found_pages (record_of old.regions.records) (bytes_of old.regions.copies) (map resident_of old.pages.cache.held) looks.leaves.sizes refl refl refl (ap (map resident_of) looks.leaves.list))
                      ∙ sym (step_is found_pages 0 ∙ ap (λ b. enter_page hash (seen old found_pages) region page access b 0) g
                      ∙ ap (λ o. denied_or o (seen old found_pages) (failed_or (read_fails (seen old found_pages) region page 0) page (seen old found_pages) (denied_or (rule_of_bytes hash (seen old found_pages) page access) (seen old found_pages) (failed_or (write_fails (seen old found_pages) region page 0) (unwrap_or (left_for (seen old found_pages) page) page) (seen old found_pages) (give (seen old found_pages) region page access true None))))) (sym rule ∙ under g)
                      ∙ ap (λ b. failed_or b page (seen old found_pages) (denied_or (rule_of_bytes hash (seen old found_pages) page access) (seen old found_pages) (failed_or (write_fails (seen old found_pages) region page 0) (unwrap_or (left_for (seen old found_pages) page) page) (seen old found_pages) (give (seen old found_pages) region page access true None)))) (no_read_fails (seen old found_pages))
                      ∙ ap (λ o. denied_or o (seen old found_pages) (failed_or (write_fails (seen old found_pages) region page 0) (unwrap_or (left_for (seen old found_pages) page) page) (seen old found_pages) (give (seen old found_pages) region page access true None))) (sym (under_rule g) ∙ breaks));
                  faults = (leaves_of false not_failed).faults;
                  told = tells_of old.pages.cache.pager seen_pages.cache.pager (length (page_calls hash (seen old found_pages) (event.Enter id page access flags resolve))) 0 (omega arith) (by_resident (is_some (resident_page old.pages.cache page)) refl);
                  sizes = looks.leaves.sizes;
                  room = room_nothing;
                  gains = gains_same nothing_back old.regions;
                })
              where
                denied_read : is_denied_read hash (seen old found_pages) region page access flags ≡ true
                denied_read = ap (λ b. b && is_some (rule_of_bytes hash (seen old found_pages) page access)) g ∙ ap is_some (sym (under_rule g) ∙ breaks)

                called_of : (b : Bool) → is_some (resident_page old.pages.cache page) ≡ b → Called old.pages.cache.pager (calls_done hash (seen old found_pages) (event.Enter id page access flags resolve) 0) seen_pages.cache.pager
                called_of true e = subst (λ (calls : List PagerCall). Called old.pages.cache.pager calls seen_pages.cache.pager)
                    (sym (done_uncalled hash (seen old found_pages) (event.Enter id page access flags resolve) 0 (calls_resident found_pages e))) (peek_called_as true e)
                called_of false e = subst (λ (calls : List PagerCall). Called old.pages.cache.pager calls seen_pages.cache.pager)
                    (sym (done_all hash (seen old found_pages) (event.Enter id page access flags resolve)
                    ∙ ap calls_of_fault (calls_absent found_pages e ∙ ap (λ b. page ∷ (if b then [] else victim_calls (victim (seen old found_pages) page))) denied_read))) (peek_called_as false e)

                by_resident : (b : Bool) → is_some (resident_page old.pages.cache page) ≡ b → MadeCalls old.pages.cache.pager (replicate (length (page_calls hash (seen old found_pages) (event.Enter id page access flags resolve))) false) seen_pages.cache.pager
                by_resident true e = subst (λ (l : List ℕ). MadeCalls old.pages.cache.pager (replicate (length l) false) seen_pages.cache.pager) (sym (calls_resident found_pages e)) (peek_calls true e)
                by_resident false e = subst (λ (l : List ℕ). MadeCalls old.pages.cache.pager (replicate (length l) false) seen_pages.cache.pager)
                    (sym (calls_absent found_pages e ∙ ap (λ b. page ∷ (if b then [] else victim_calls (victim (seen old found_pages) page))) denied_read)) (peek_calls false e)

          -- ---- the page was brought, or could not be

          module _ (result : Taken) (pages : PagesNow) (quiet_under : guarded flags ≡ true → told ≡ None) (brings : Brought hash seen_pages page told result pages) where
            there : IsSome (at_hand seen_pages.cache page)
            there = ap is_some hand.1.0

            seen_resident : is_some (resident_page seen_pages.cache page) ≡ is_some (resident_page old.pages.cache page)
            seen_resident = ap (λ (l : List Held). is_some (find_held l page)) looks.leaves.list

            fine_read : is_denied_read hash (seen old found_pages) region page access flags ≡ false
            fine_read = by_guard (guarded flags) refl
              where
                by_guard : (g : Bool) → guarded flags ≡ g → (guarded flags && is_some (rule_of_bytes hash (seen old found_pages) page access)) ≡ false
                by_guard false e = ap (λ b. b && is_some (rule_of_bytes hash (seen old found_pages) page access)) e
                by_guard true e = ap (λ b. b && is_some (rule_of_bytes hash (seen old found_pages) page access)) e ∙ ap is_some (sym (under_rule e) ∙ quiet_under e)

            -- the page that leaves, in the plain file
            victim_is : is_some (resident_page old.pages.cache page) ≡ false → victim (seen old found_pages) page ≡ option_map resident_of (cache.victim seen_pages.cache)
            victim_is absent =
                ap (λ b. if b then None else slice_get (map resident_of old.pages.cache.held) (old.pages.cache.limit - 1)) (resident_is old found_pages page ∙ absent)
                ∙ last_is old.pages.cache ∙ ap (λ (l : List Held). option_map resident_of (slice_get l (old.pages.cache.limit - 1))) (sym looks.leaves.list)
                ∙ ap (λ n. option_map resident_of (slice_get seen_pages.cache.held (n - 1))) (sym looks.leaves.sizes.limit)

            -- ---- the write of the page that leaves failed
            module _ (fault : PagerFault) (fails : brings.left ≡ Err fault) where
              gives_failed : BringGives seen_pages.cache page (Err fault) pages.cache
              gives_failed = subst (λ r. BringGives seen_pages.cache page r pages.cache) fails brings.gives

              absent_now : is_some (resident_page old.pages.cache page) ≡ false
              absent_now = by_resident (is_some (resident_page old.pages.cache page)) refl
                where
                  by_resident : (b : Bool) → is_some (resident_page old.pages.cache page) ≡ b → b ≡ false
                  by_resident false e = refl
                  by_resident true e = (gives_failed.no_call (seen_resident ∙ e)).0

              absent_seen : resident_page seen_pages.cache page ≡ None
              absent_seen = none_is (resident_page seen_pages.cache page) (seen_resident ∙ absent_now)
                where
                  none_is : (o : Option Held) → is_some o ≡ false → o ≡ None
                  none_is None e = refl
                  none_is (Some x) e = absurd (grind (arith, common_steps, e))

              v : (v : Held) × ((cache.victim seen_pages.cache ≡ Some v) × ((fault.page ≡ v.page) × (v.dirty ≡ true)))
              v = dirty_victim seen_pages.cache pages.cache page fault absent_seen there gives_failed.steps

              victim_now : victim (seen old found_pages) page ≡ Some (resident_of v.0)
              victim_now = victim_is absent_now ∙ ap (option_map resident_of) v.1.0

              same_marks : pages.marks ≡ seen_pages.marks
              same_marks = brings.marks ∙ ap (λ r. brought seen_pages.cache page r seen_pages.marks) fails
                  ∙ ap (λ b. if b then seen_pages.marks else spare_gone seen_pages.cache seen_pages.marks) there

              calls_now : page_calls hash (seen old found_pages) (event.Enter id page access flags resolve) ≡ page ∷ v.0.page ∷ []
              calls_now = calls_absent found_pages absent_now
                  ∙ ap (λ b. page ∷ (if b then [] else victim_calls (victim (seen old found_pages) page))) fine_read
                  ∙ ap (λ o. page ∷ victim_calls o) victim_now
                  ∙ ap (λ b. page ∷ (if b then v.0.page ∷ [] else [])) v.1.1.1

              fails_step : enter_page hash (seen old found_pages) region page access (guarded flags) 2 ≡ (reply.PagerFault v.0.page, seen old found_pages)
              fails_step = by_guard (guarded flags) refl
                where
                  reads : read_fails (seen old found_pages) region page 2 ≡ false
                  reads = and_false (needs_read (seen old found_pages) region page)

                  writes : write_fails (seen old found_pages) region page 2 ≡ true
                  writes = ap (λ b. b && (2 == 2) && option_map_or (λ (r : Resident). r.dirty) (victim (seen old found_pages) page) false) (reads_needed found_pages ∙ ap not absent_now)
                      ∙ ap (λ o. option_map_or (λ (r : Resident). r.dirty) o false) victim_now ∙ v.1.1.1

                  leaves : unwrap_or (left_for (seen old found_pages) page) page ≡ v.0.page
                  leaves = ap (λ o. unwrap_or (option_map (λ (r : Resident). r.page) o) page) victim_now

                  last : failed_or (write_fails (seen old found_pages) region page 2) (unwrap_or (left_for (seen old found_pages) page) page) (seen old found_pages) (give (seen old found_pages) region page access true None) ≡ (reply.PagerFault v.0.page, seen old found_pages)
                  last = ap (λ b. failed_or b (unwrap_or (left_for (seen old found_pages) page) page) (seen old found_pages) (give (seen old found_pages) region page access true None)) writes
                      ∙ ap (λ n. (reply.PagerFault n, seen old found_pages)) leaves

                  by_guard : (g : Bool) → guarded flags ≡ g → enter_page hash (seen old found_pages) region page access g 2 ≡ (reply.PagerFault v.0.page, seen old found_pages)
                  by_guard true e =
                      ap (λ o. denied_or o (seen old found_pages) (failed_or (read_fails (seen old found_pages) region page 2) page (seen old found_pages) (denied_or (rule_of_bytes hash (seen old found_pages) page access) (seen old found_pages) (failed_or (write_fails (seen old found_pages) region page 2) (unwrap_or (left_for (seen old found_pages) page) page) (seen old found_pages) (give (seen old found_pages) region page access true None))))) (sym rule ∙ under e)
                      ∙ ap (λ b. failed_or b page (seen old found_pages) (denied_or (rule_of_bytes hash (seen old found_pages) page access) (seen old found_pages) (failed_or (write_fails (seen old found_pages) region page 2) (unwrap_or (left_for (seen old found_pages) page) page) (seen old found_pages) (give (seen old found_pages) region page access true None)))) reads
                      ∙ ap (λ o. denied_or o (seen old found_pages) (failed_or (write_fails (seen old found_pages) region page 2) (unwrap_or (left_for (seen old found_pages) page) page) (seen old found_pages) (give (seen old found_pages) region page access true None))) (sym (under_rule e) ∙ quiet_under e)
                      ∙ last
                  by_guard false e =
                      ap (λ b. failed_or b page (seen old found_pages) (failed_or (write_fails (seen old found_pages) region page 2) (unwrap_or (left_for (seen old found_pages) page) page) (seen old found_pages) (give (seen old found_pages) region page access false (verdict hash (seen old found_pages) region page access)))) reads
                      ∙ ap (λ b. failed_or b (unwrap_or (left_for (seen old found_pages) page) page) (seen old found_pages) (give (seen old found_pages) region page access false (verdict hash (seen old found_pages) region page access))) writes
                      ∙ ap (λ n. (reply.PagerFault n, seen old found_pages)) leaves

              pub enters_unwritten : DoesEnter hash old id page access flags resolve (reply.PagerFault fault.page) (with_parts old pages old.regions)
              enters_unwritten =
                  stays_does pages (gives_failed.unchanged ∙ looks.leaves.list) (sizes_both old.pages.cache seen_pages.cache pages.cache looks.leaves.sizes gives_failed.sizes) gives_failed.sound brings.marked same_marks brings.calls
                  (λ is_there. absurd (grind (arith, common_steps, absent_now, is_there))) checked_ok (λ is_there. absurd (grind (arith, common_steps, absent_now, is_there)))
                  (reply.PagerFault fault.page) refl (λ p slot found wanted tells. absurd (no_denial (Mismatch p slot found wanted) tells))
                  (λ same. absurd (get_apart seen_pages.cache.held (seen_pages.cache.limit - 1) page v.0 v.1.0 absent_seen (sym v.1.1.0 ∙ fault_same fault.page page same))) (untaken_fault fault.page) (record {
                    pages = found_pages;
                    pages_after = found_pages;
                    outcome = 2;
                    few = subst (λ (l : List ℕ). 2 ≤ length l) (sym calls_now) (omega arith);
                    calls = subst (λ (calls : List PagerCall). Called old.pages.cache.pager calls pages.cache.pager)
                        (sym (ap (λ (l : List ℕ). take 2 (calls_of_fault l)) calls_now))
                        (called_both old.pages.cache.pager seen_pages.cache.pager pages.cache.pager (Reads page ∷ []) (Writes v.0.page ∷ []) (peek_called_as false absent_now)
                        (subst (λ (calls : List PagerCall). Called seen_pages.cache.pager calls pages.cache.pager) (ap saves_of v.1.0 ∙ ap (λ b. if b then Writes v.0.page ∷ [] else []) v.1.1.1)
                        (bring_called seen_pages.cache pages.cache page (Err fault) absent_seen there gives_failed.steps)));
                    reads = reads_are 1 (reads_made hash (seen old found_pages) (event.Enter id page access flags resolve) 2) old.pages.cache.pager.reads pages.cache.pager.reads
                        (sym (fault_reads_to 1 (page_calls hash (seen old found_pages) (event.Enter id page access flags resolve)) page (v.0.page ∷ []) calls_now))
                        (subst (λ n. ReadsAfter 1 old.pages.cache.pager.reads n) (sym (gives_failed.no_read there))
                        (subst (λ b. ReadsAfter (length (unread b page)) old.pages.cache.pager.reads seen_pages.cache.pager.reads) absent_now
                        (peek_reads old.pages.cache seen_pages.cache page false (leaves_of false not_failed).steps)));
                    found = read.before;
                    found_after = bring_failed_finds seen_pages.cache pages.cache page fault found_pages gives_failed read.after;
                    step = ap (λ file. (reply.PagerFault fault.page, file)) (seen_parts old pages old.regions found_pages (record_of old.regions.records) (bytes_of old.regions.copies) (map resident_of old.pages.cache.held)
                        (sizes_both old.pages.cache seen_pages.cache pages.cache looks.leaves.sizes gives_failed.sizes) refl refl refl (ap (map resident_of) (gives_failed.unchanged ∙ looks.leaves.list)))
                        ∙ ap (λ n. (reply.PagerFault n, seen old found_pages)) v.1.1.0
                        ∙ sym (step_is found_pages 2 ∙ fails_step);
                    faults = subst (λ n. Rose n pages.cache.pager.faults) ((leaves_of false not_failed).faults) gives_failed.faults;
                    told = tells_of old.pages.cache.pager pages.cache.pager (length (page_calls hash (seen old found_pages) (event.Enter id page access flags resolve))) 2
                        (subst (λ (l : List ℕ). 2 ≤ length l) (sym calls_now) (omega arith))
                        (calls_made old.pages.cache.pager seen_pages.cache.pager pages.cache.pager (false ∷ []) (true ∷ []) (peek_calls false absent_now)
                        (subst (λ l. MadeCalls seen_pages.cache.pager l pages.cache.pager) (ap (save_calls_of true) v.1.0 ∙ ap (λ b. if b then true ∷ [] else []) v.1.1.1)
                        (bring_made seen_pages.cache pages.cache page (Err fault) absent_seen there gives_failed.steps)));
                    sizes = sizes_both old.pages.cache seen_pages.cache pages.cache looks.leaves.sizes gives_failed.sizes;
                    room = room_nothing;
                    gains = gains_same nothing_back old.regions;
                  })

            -- ---- the page was brought
            module _ (left : Option ℕ) (fine : brings.left ≡ Ok left) (unmapped : RegionsNow) (unmaps : Unmaps old.regions left unmapped) (given_pages : PagesNow) (regions : RegionsNow)
                (given_marks : given_pages ≡ record pages { marks = marks_given region page access pages.marks }) (is_marked : IsMarked hash given_pages.cache given_pages.marks)
                (gives : (bytes : List ℕ) → IfSome (resident_page pages.cache page) (λ held. bytes ≡ held.bytes) → GivesTo unmapped region page access (guarded flags) bytes regions) where
              abbrev final : ObjectNow
              final = with_parts old given_pages regions

              gives_fine : BringGives seen_pages.cache page (Ok left) pages.cache
              gives_fine = subst (λ r. BringGives seen_pages.cache page r pages.cache) fine brings.gives

              marks_fine : pages.marks ≡ brought seen_pages.cache page (Ok left) seen_pages.marks
              marks_fine = brings.marks ∙ ap (λ r. brought seen_pages.cache page r seen_pages.marks) fine

              sizes : KeepsSizes old.pages.cache pages.cache
              sizes = sizes_both old.pages.cache seen_pages.cache pages.cache looks.leaves.sizes gives_fine.sizes

              own_cache : given_pages.cache ≡ pages.cache
              own_cache = ap (λ (p : PagesNow). p.cache) given_marks

              took_it : Took old.pages page (sealed_by old.pages.cache.pager.page_size blob page noted) pages
              took_it = took hash old.pages seen_pages pages page (sealed_by old.pages.cache.pager.page_size blob page noted) left looks.leaves.list marked looks.leaves.sound looks.marked
                  (let count = looks.leaves.sizes.pages in let within = inside in omega arith) there gives_fine marks_fine

              now_held : resident_page pages.cache page ≡ Some hand.0
              now_held = subst (λ o. IfSome o (λ held. resident_page pages.cache page ≡ Some held)) hand.1.0 gives_fine.found.kept

              gives_it : GivesTo unmapped region page access (guarded flags) hand.0.bytes regions
              gives_it = gives hand.0.bytes (subst (λ (o : Option Held). IfSome o (λ held. hand.0.bytes ≡ held.bytes)) (sym now_held) refl)

              -- the page that left, in the plain file
              left_is : left ≡ left_for (seen old found_pages) page
              left_is = gives_fine.left ∙ by_held (resident_page seen_pages.cache page) refl
                where
                  by_held : (o : Option Held) → resident_page seen_pages.cache page ≡ o → cache.leaver_by (resident_page seen_pages.cache page) (cache.victim seen_pages.cache) ≡ option_map (λ (r : Resident). r.page) (victim (seen old found_pages) page)
                  by_held None e =
                      ap (λ o. cache.leaver_by o (cache.victim seen_pages.cache)) e ∙ by_victim (cache.victim seen_pages.cache)
                      ∙ sym (ap (option_map (λ (r : Resident). r.page)) (victim_is (sym seen_resident ∙ ap is_some e)))
                    where
                      by_victim : (w : Option Held) → option_map (λ (h : Held). h.page) w ≡ option_map (λ (r : Resident). r.page) (option_map resident_of w)
                      by_victim None = refl
                      by_victim (Some h) = refl
                  by_held (Some h) e =
                      ap (λ o. cache.leaver_by o (cache.victim seen_pages.cache)) e
                      ∙ sym (ap (λ b. option_map (λ (r : Resident). r.page) (if b then None else slice_get (map resident_of old.pages.cache.held) (old.pages.cache.limit - 1)))
                      (resident_is old found_pages page ∙ sym seen_resident ∙ ap is_some e))

              gone_records : (o : Option Resident) → records_gone old.regions (option_map (λ (r : Resident). r.page) o) ≡ records_left (seen old found_pages) o
              gone_records None = refl
              gone_records (Some r) = refl

              unmapped_records : record_of unmapped.records ≡ records_left (seen old found_pages) (victim (seen old found_pages) page)
              unmapped_records = fun_ext (λ i. fun_ext (λ p. unmaps.records i p)) ∙ ap (records_gone old.regions) left_is ∙ gone_records (victim (seen old found_pages) page)

              -- the file afterwards is what the plain file gives
              seen_final : seen final found_pages ≡ given_page region page access (guarded flags) (seen old found_pages)
              seen_final =
                  seen_parts old given_pages regions found_pages (record_of regions.records) (bytes_of regions.copies) (fronted (seen old found_pages) page)
                  (subst (KeepsSizes old.pages.cache) (sym own_cache) sizes)
                  ((gives_regions unmapped region page access (guarded flags) hand.0.bytes regions gives_it).0 ∙ ap (λ (now : RegionsNow). now.regions) unmaps.others) refl refl
                  (ap (λ (c : CacheNow). map resident_of c.held) own_cache ∙ brought_list old.pages.cache seen_pages.cache pages.cache page looks.leaves.list looks.leaves.sizes.limit gives_fine.list)
                  ∙ gives_plain (entered page (seen old found_pages)) unmapped region page (guarded flags) unmapped_records (ap (λ (now : RegionsNow). bytes_of now.copies) unmaps.others) regions access hand.0.bytes
                  (λ writes none. sym own_bytes) gives_it
                  ∙ sym (given_is (guarded flags) (seen old found_pages) ∙ ap (λ b. given_from region page access (guarded flags) (if b then seen old found_pages else entered page (seen old found_pages))) own_none)

              final_step : (reply.Given left (option_or broken told), seen final found_pages) ≡ file_step hash (seen old found_pages) (event.Enter id page access flags resolve) None 0
              final_step =
                  ap (λ file. (reply.Given left (option_or broken told), file)) seen_final
                  ∙ ap (λ l. (reply.Given l (option_or broken told), given_page region page access (guarded flags) (seen old found_pages))) left_is
                  ∙ sym (step_is found_pages 0 ∙ given_step found_pages (option_or broken told)
                  (λ g. (under g, sym (under_rule g) ∙ quiet_under g, ap (λ o. option_or o told) (under g) ∙ quiet_under g)) (λ g. told_verdict)
                  ∙ ap (λ b. (reply.Given (if b then None else left_for (seen old found_pages) page) (option_or broken told), given_page region page access (guarded flags) (seen old found_pages))) own_none)

              -- the pager calls
              final_made : (b : Bool) → is_some (resident_page old.pages.cache page) ≡ b → MadeCalls old.pages.cache.pager (replicate (length (page_calls hash (seen old found_pages) (event.Enter id page access flags resolve))) false) given_pages.cache.pager
              final_made true e =
                  subst (λ (l : List ℕ). MadeCalls old.pages.cache.pager (replicate (length l) false) given_pages.cache.pager) (sym (calls_resident found_pages e))
                  (subst (λ p. MadeCalls old.pages.cache.pager [] p) (sym (ap (λ (c : CacheNow). c.pager) own_cache ∙ (gives_fine.no_call (seen_resident ∙ e)).1)) (peek_calls true e))
              final_made false e =
                  subst (λ (l : List ℕ). MadeCalls old.pages.cache.pager (replicate (length l) false) given_pages.cache.pager)
                  (sym (calls_absent found_pages e ∙ ap (λ b. page ∷ (if b then [] else victim_calls (victim (seen old found_pages) page))) fine_read ∙ ap (λ o. page ∷ victim_calls o) (victim_is e)))
                  (subst (λ (c : CacheNow). MadeCalls old.pages.cache.pager (replicate (length (page ∷ victim_calls (option_map resident_of (cache.victim seen_pages.cache)))) false) c.pager) (sym own_cache)
                  (by_victim (cache.victim seen_pages.cache)
                  (calls_made old.pages.cache.pager seen_pages.cache.pager pages.cache.pager (false ∷ []) (save_calls_of false (cache.victim seen_pages.cache)) (peek_calls false e)
                  (bring_made seen_pages.cache pages.cache page (Ok left) (none_is (resident_page seen_pages.cache page) (seen_resident ∙ e)) there gives_fine.steps))))
                where
                  none_is : (o : Option Held) → is_some o ≡ false → o ≡ None
                  none_is None e = refl
                  none_is (Some x) e = absurd (grind (arith, common_steps, e))

                  by_victim : (w : Option Held) → MadeCalls old.pages.cache.pager (false ∷ [] ++ save_calls_of false w) pages.cache.pager
                      → MadeCalls old.pages.cache.pager (replicate (length (page ∷ victim_calls (option_map resident_of w))) false) pages.cache.pager
                  by_victim None made = made
                  by_victim (Some h) made = by_dirty h.dirty made
                    where
                      by_dirty : (b : Bool) → MadeCalls old.pages.cache.pager (false ∷ [] ++ (if b then false ∷ [] else [])) pages.cache.pager
                          → MadeCalls old.pages.cache.pager (replicate (length (page ∷ (if b then h.page ∷ [] else []))) false) pages.cache.pager
                      by_dirty true made = made
                      by_dirty false made = made

              final_called : (b : Bool) → is_some (resident_page old.pages.cache page) ≡ b → Called old.pages.cache.pager (calls_done hash (seen old found_pages) (event.Enter id page access flags resolve) 0) given_pages.cache.pager
              final_called true e =
                  subst (λ (calls : List PagerCall). Called old.pages.cache.pager calls given_pages.cache.pager) (sym (done_uncalled hash (seen old found_pages) (event.Enter id page access flags resolve) 0 (calls_resident found_pages e)))
                  (subst (λ p. Called old.pages.cache.pager [] p) (sym (ap (λ (c : CacheNow). c.pager) own_cache ∙ (gives_fine.no_call (seen_resident ∙ e)).1)) (peek_called_as true e))
              final_called false e =
                  subst (λ (calls : List PagerCall). Called old.pages.cache.pager calls given_pages.cache.pager)
                  (sym (done_all hash (seen old found_pages) (event.Enter id page access flags resolve)
                  ∙ ap calls_of_fault (calls_absent found_pages e ∙ ap (λ b. page ∷ (if b then [] else victim_calls (victim (seen old found_pages) page))) fine_read ∙ ap (λ o. page ∷ victim_calls o) (victim_is e))
                  ∙ ap (λ (calls : List PagerCall). Reads page ∷ calls) (by_victim (cache.victim seen_pages.cache))))
                  (subst (λ (c : CacheNow). Called old.pages.cache.pager (Reads page ∷ saves_of (cache.victim seen_pages.cache)) c.pager) (sym own_cache)
                  (called_both old.pages.cache.pager seen_pages.cache.pager pages.cache.pager (Reads page ∷ []) (saves_of (cache.victim seen_pages.cache)) (peek_called_as false e)
                  (bring_called seen_pages.cache pages.cache page (Ok left) (none_is (resident_page seen_pages.cache page) (seen_resident ∙ e)) there gives_fine.steps)))
                where
                  none_is : (o : Option Held) → is_some o ≡ false → o ≡ None
                  none_is None e = refl
                  none_is (Some x) e = absurd (grind (arith, common_steps, e))

                  by_victim : (w : Option Held) → map Writes (victim_calls (option_map resident_of w)) ≡ saves_of w
                  by_victim None = refl
                  by_victim (Some h) = by_dirty h.dirty
                    where
                      by_dirty : (b : Bool) → map Writes (if b then h.page ∷ [] else []) ≡ (if b then Writes h.page ∷ [] else [])
                      by_dirty true = refl
                      by_dirty false = refl

              final_sizes : KeepsSizes old.pages.cache given_pages.cache
              final_sizes = subst (KeepsSizes old.pages.cache) (sym own_cache) sizes

              final_acts : Acts hash old (event.Enter id page access flags resolve) None (reply.Given left (option_or broken told)) final
              final_acts = record {
                pages = found_pages;
                pages_after = found_pages;
                outcome = 0;
                few = omega arith;
                calls = final_called (is_some (resident_page old.pages.cache page)) refl;
                reads = reads_found given_pages.cache.pager.reads (ap (λ (c : CacheNow). c.pager.reads) own_cache ∙ gives_fine.no_read there)
                    (victim_calls (victim (seen old found_pages) page))
                    (λ e. calls_absent found_pages e ∙ ap (λ b. page ∷ (if b then [] else victim_calls (victim (seen old found_pages) page))) fine_read);
                found = read.before;
                found_after = subst (λ (c : CacheNow). Finds c found_pages) (sym own_cache) (brought_read old.pages.cache seen_pages.cache pages.cache page left hand.0 inside (leaves_of false not_failed) hand.1.0 read gives_fine);
                step = final_step;
                faults = ap (λ (c : CacheNow). c.pager.faults) own_cache ∙ gives_fine.faults ∙ (leaves_of false not_failed).faults;
                told = tells_of old.pages.cache.pager given_pages.cache.pager (length (page_calls hash (seen old found_pages) (event.Enter id page access flags resolve))) 0 (omega arith) (final_made (is_some (resident_page old.pages.cache page)) refl);
                sizes = final_sizes;
                gains = gains_given left old.regions unmapped regions unmaps.none unmaps.others (gives_gains unmapped region page access (guarded flags) hand.0.bytes regions gives_it);
                room =
                    let given_room = gives_room unmapped region page access (guarded flags) hand.0.bytes regions gives_it in
                    record {
                      regions = let one = given_room.regions in let two = unmaps.room.regions in omega arith;
                      records = let one = given_room.records in let two = unmaps.room.records in omega arith;
                      copies = let one = given_room.copies in let two = unmaps.room.copies in omega arith;
                    };
              }

              -- ---- the marks afterwards

              none_other : {X : Type 0} (x : X) → None ≡ Some x → ⊥
              none_other x e = cc

              still_there : (q : ℕ) → is_some (resident_page given_pages.cache q) ≡ is_some (resident_page pages.cache q)
              still_there q = ap (λ (c : CacheNow). is_some (resident_page c q)) own_cache

              -- only of this page anything changes besides
              given_other : (q : ℕ) → (q == page) ≡ false → marks_of given_pages.marks q ≡ marks_of pages.marks q
              given_other q apart = ap (λ (p : PagesNow). marks_of p.marks q) given_marks ∙ by_access access
                where
                  by_shared : (b : Bool) → marks_of (if b then mapped page pages.marks else pages.marks) q ≡ marks_of pages.marks q
                  by_shared true = grind (arith, common_steps, apart)
                  by_shared false = refl

                  by_access : (a : Access) → marks_of (marks_given region page a pages.marks) q ≡ marks_of pages.marks q
                  by_access Read = refl
                  by_access Execute = refl
                  by_access Write = by_shared region.shared

              within : page < length pages.marks
              within = let count = brings.marked.count in let same = sizes.pages in let less = inside in omega arith

              -- a writer that is shared takes the page out, and no other does
              given_shared : access ≡ Write → region.shared ≡ true → (marks_of given_pages.marks page).validated ≡ None
              given_shared writes shared =
                  ap (λ (p : PagesNow). (marks_of p.marks page).validated) given_marks
                  ∙ ap (λ a. (marks_of (marks_given region page a pages.marks) page).validated) writes
                  ∙ ap (λ b. (marks_of (if b then mapped page pages.marks else pages.marks) page).validated) shared
                  ∙ ap (λ (m : Marks). m.validated) (marked_here maps page pages.marks within)

              given_same : (takes_out old (event.Enter id page access flags resolve) (reply.Given left (option_or broken told)) page) ≡ false → (marks_of given_pages.marks page).validated ≡ (marks_of pages.marks page).validated
              given_same untaken = ap (λ (p : PagesNow). (marks_of p.marks page).validated) given_marks ∙ by_access access untaken
                where
                  by_access : (a : Access) → takes_out old (event.Enter id page a flags resolve) (reply.Given left (option_or broken told)) page ≡ false → (marks_of (marks_given region page a pages.marks) page).validated ≡ (marks_of pages.marks page).validated
                  by_access Read e = refl
                  by_access Execute e = refl
                  by_access Write e = ap (λ b. (marks_of (if b then mapped page pages.marks else pages.marks) page).validated) {x = region.shared} {y = false} (grind (arith, common_steps, shared_is, e))

              -- what is kept of a page was kept before it was given
              given_validated : (q : ℕ) (s : Seal) → (marks_of given_pages.marks q).validated ≡ Some s → (marks_of pages.marks q).validated ≡ Some s
              given_validated q s e = by_test (q == page) refl
                where
                  by_taken : (b : Bool) → takes_out old (event.Enter id page access flags resolve) (reply.Given left (option_or broken told)) page ≡ b → (marks_of given_pages.marks page).validated ≡ Some s → (marks_of pages.marks page).validated ≡ Some s
                  by_taken false f g = sym (given_same f) ∙ g
                  by_taken true f g = by_access access refl f
                    where
                      by_access : (a : Access) → access ≡ a → takes_out old (event.Enter id page a flags resolve) (reply.Given left (option_or broken told)) page ≡ true → (marks_of pages.marks page).validated ≡ Some s
                      by_access Read h f = absurd (grind (arith, common_steps, f))
                      by_access Execute h f = absurd (grind (arith, common_steps, f))
                      by_access Write h f = absurd (none_other s (sym (given_shared h (grind (arith, common_steps, shared_is, f))) ∙ g))

                  by_test : (b : Bool) → (q == page) ≡ b → (marks_of pages.marks q).validated ≡ Some s
                  by_test false f = sym (ap (λ (m : Marks). m.validated) (given_other q f)) ∙ e
                  by_test true f =
                      let same : q ≡ page = grind (arith, common_steps, f) in
                      ap (λ n. (marks_of pages.marks n).validated) same
                      ∙ by_taken (takes_out old (event.Enter id page access flags resolve) (reply.Given left (option_or broken told)) page) refl (ap (λ n. (marks_of given_pages.marks n).validated) (sym same) ∙ e)

              final_sealed : MarksAgree final
              final_sealed = record {
                signed = λ q s e. subst (λ n. Signs old.blobs n q s) (sym final_sizes.page_size) (by_either q s (took_it.validated q s (given_validated q s e)));
                unmapped = λ q none. by_page q (ap is_some none) (q == page) refl;
                unwritten = λ q i writer. by_writer q i (gives_writers unmapped region page access (guarded flags) hand.0.bytes regions gives_it q i writer) writer (marks_of given_pages.marks q).validated refl;
              }
                where
                  by_either : (q : ℕ) (s : Seal) → ((marks_of old.pages.marks q).validated ≡ Some s) ⊎ ((q ≡ page) × (sealed_by old.pages.cache.pager.page_size blob page noted ≡ Some s)) → Signs old.blobs old.pages.cache.pager.page_size q s
                  by_either q s (inl was) = kept.seals.signed q s was
                  by_either q s (inr now) = subst (λ n. Signs old.blobs old.pages.cache.pager.page_size n s) (sym now.0) (sealed_facts s now.1).0

                  none_is : {X : Type 0} (o : Option X) → is_some o ≡ false → o ≡ None
                  none_is None e = refl
                  none_is (Some x) e = absurd (grind (arith, common_steps, e))

                  by_mark : (q : ℕ) → is_some (resident_page pages.cache q) ≡ false → (b : Bool) → (marks_of pages.marks q).writable ≡ b → b ≡ false
                  by_mark q absent false e = refl
                  by_mark q absent true e = by_old (is_some (resident_page old.pages.cache q)) refl
                    where
                      by_old : (c : Bool) → is_some (resident_page old.pages.cache q) ≡ c → true ≡ false
                      by_old true f = sym e ∙ took_it.gone q f absent
                      by_old false f = sym (took_it.writable q e) ∙ kept.seals.unmapped q (none_is (resident_page old.pages.cache q) f)

                  by_page : (q : ℕ) → is_some (resident_page given_pages.cache q) ≡ false → (b : Bool) → (q == page) ≡ b → (marks_of given_pages.marks q).writable ≡ false
                  by_page q absent true e =
                      let same : q ≡ page = grind (arith, common_steps, e) in
                      absurd (grind (arith, common_steps, sym (still_there q) ∙ absent, ap (λ n. is_some (resident_page pages.cache n)) same ∙ took_it.there))
                  by_page q absent false e = ap (λ (m : Marks). m.writable) (given_other q e) ∙ by_mark q (sym (still_there q) ∙ absent) (marks_of pages.marks q).writable refl

                  was_writer : (q i : ℕ) → IsWriter unmapped.regions unmapped.records q i → IsWriter old.regions.regions old.regions.records q i
                  was_writer q i writer = record {
                    shared = ap (λ (now : RegionsNow). is_shared now.regions i) (sym unmaps.others) ∙ writer.shared;
                    writes = by_left left (subst (λ o. IsSomeAnd o (λ (r : Record). r.write ≡ true)) (unmaps.records i q) writer.writes);
                  }
                    where
                      by_gone : (b : Bool) (o : Option Record) → IsSomeAnd (if b then None else o) (λ (r : Record). r.write ≡ true) → IsSomeAnd o (λ (r : Record). r.write ≡ true)
                      by_gone true o w = absurd w
                      by_gone false o w = w

                      by_left : (l : Option ℕ) → IsSomeAnd (records_gone old.regions l i q) (λ (r : Record). r.write ≡ true) → IsSomeAnd (record_of old.regions.records i q) (λ (r : Record). r.write ≡ true)
                      by_left None w = w
                      by_left (Some v) w = by_gone (q == v && not (is_some (bytes_of old.regions.copies i q))) (record_of old.regions.records i q) w

                  by_writer : (q i : ℕ) → IsWriter unmapped.regions unmapped.records q i ⊎ Comes region page access q i → IsWriter regions.regions regions.records q i → (o : Option Seal) → (marks_of given_pages.marks q).validated ≡ o → o ≡ None
                  by_writer q i either writer None e = refl
                  by_writer q i (inl was) writer (Some s) e = absurd (wrong (took_it.validated q s (given_validated q s e)))
                    where
                      wrong : ((marks_of old.pages.marks q).validated ≡ Some s) ⊎ ((q ≡ page) × (sealed_by old.pages.cache.pager.page_size blob page noted ≡ Some s)) → ⊥
                      wrong (inl kept_it) = none_other s (sym (kept.seals.unwritten q i (was_writer q i was)) ∙ kept_it)
                      wrong (inr now) = (sealed_facts s now.1).1.1.1 i (subst (λ n. IsWriter old.regions.regions old.regions.records n i) now.0 (was_writer q i was))
                  by_writer q i (inr comes) writer (Some s) e =
                      let standing = (gives_regions unmapped region page access (guarded flags) hand.0.bytes regions gives_it).0 ∙ ap (λ (now : RegionsNow). now.regions) unmaps.others in
                      let shared : region.shared ≡ true = sym (ap (λ rs. is_shared rs i) standing ∙ ap (is_shared old.regions.regions) (comes.1.1 ∙ same_id) ∙ shared_is) ∙ writer.shared in
                      absurd (none_other s (sym (given_shared comes.1.0 shared) ∙ ap (λ n. (marks_of given_pages.marks n).validated) (sym comes.0) ∙ e))

              -- ---- which pages are checked afterwards

              -- of a page that was checked the marks that it had stand still
              seen_kept : is_checked old page ≡ true → is_some (marks_of pages.marks page).validated ≡ true
              seen_kept was =
                  ap (λ ms. is_some (marks_of ms page).validated) marks_fine
                  ∙ ap (λ b. is_some (marks_of (if b then seen_pages.marks else marked_if goes left (mark unmaps_mark page (filled seen_pages.cache page seen_pages.marks))) page).validated) (seen_resident ∙ checked_resident old page was)
                  ∙ checked_ok was

              untaken_other : (q : ℕ) → (q == page) ≡ false → takes_out old (event.Enter id page access flags resolve) (reply.Given left (option_or broken told)) q ≡ false
              untaken_other q apart = by_access access
                where
                  by_access : (a : Access) → takes_out old (event.Enter id page a flags resolve) (reply.Given left (option_or broken told)) q ≡ false
                  by_access Read = refl
                  by_access Execute = refl
                  by_access Write = grind (arith, common_steps, apart)

              taken_none : takes_out old (event.Enter id page access flags resolve) (reply.Given left (option_or broken told)) page ≡ true → (marks_of given_pages.marks page).validated ≡ None
              taken_none taken_it = by_access access refl taken_it
                where
                  by_access : (a : Access) → access ≡ a → takes_out old (event.Enter id page a flags resolve) (reply.Given left (option_or broken told)) page ≡ true → (marks_of given_pages.marks page).validated ≡ None
                  by_access Read e f = absurd (grind (arith, common_steps, f))
                  by_access Execute e f = absurd (grind (arith, common_steps, f))
                  by_access Write e f = given_shared e (grind (arith, common_steps, shared_is, f))

              valid_after : (q : ℕ) → is_checked old q ≡ true → checked.is_resident final q ≡ true → (t : Bool) → takes_out old (event.Enter id page access flags resolve) (reply.Given left (option_or broken told)) q ≡ t
                  → is_validated final q ≡ not t
              valid_after q was resident t e = by_test (q == page) refl t e
                where
                  by_test : (b : Bool) → (q == page) ≡ b → (t : Bool) → takes_out old (event.Enter id page access flags resolve) (reply.Given left (option_or broken told)) q ≡ t → is_validated final q ≡ not t
                  by_test false f t e =
                      ap (λ (m : Marks). is_some m.validated) (given_other q f)
                      ∙ ap is_some (took_it.stays q f (sym (still_there q) ∙ resident) (checked_resident old q was)) ∙ checked_validated old q was
                      ∙ ap not (sym (untaken_other q f) ∙ e)
                  by_test true f true e =
                      let same : q ≡ page = grind (arith, common_steps, f) in
                      ap (λ n. is_some (marks_of given_pages.marks n).validated) same
                      ∙ ap is_some (taken_none (ap (takes_out old (event.Enter id page access flags resolve) (reply.Given left (option_or broken told))) (sym same) ∙ e))
                  by_test true f false e =
                      let same : q ≡ page = grind (arith, common_steps, f) in
                      ap (λ n. is_some (marks_of given_pages.marks n).validated) same
                      ∙ ap is_some (given_same (ap (takes_out old (event.Enter id page access flags resolve) (reply.Given left (option_or broken told))) (sym same) ∙ e))
                      ∙ seen_kept (ap (is_checked old) (sym same) ∙ was)

              final_checked : KeepsChecked old (event.Enter id page access flags resolve) (reply.Given left (option_or broken told)) final
              final_checked = record {
                stays = λ q was. checked_is final q ∙ by_resident q was (checked.is_resident final q) refl;
                comes = λ q gone now. comes_of q gone now (marks_of given_pages.marks q).validated refl (checked_validated final q now);
              }
                where
                  by_resident : (q : ℕ) → is_checked old q ≡ true → (b : Bool) → checked.is_resident final q ≡ b
                      → (checked.is_resident final q && is_validated final q) ≡ (not (takes_out old (event.Enter id page access flags resolve) (reply.Given left (option_or broken told)) q) && checked.is_resident final q)
                  by_resident q was false e =
                      ap (λ b. b && is_validated final q) e
                      ∙ sym (ap (λ b. not (takes_out old (event.Enter id page access flags resolve) (reply.Given left (option_or broken told)) q) && b) e
                      ∙ and_false (not (takes_out old (event.Enter id page access flags resolve) (reply.Given left (option_or broken told)) q)))
                  by_resident q was true e =
                      ap (λ b. b && is_validated final q) e ∙ valid_after q was e (takes_out old (event.Enter id page access flags resolve) (reply.Given left (option_or broken told)) q) refl
                      ∙ sym (ap (λ b. not (takes_out old (event.Enter id page access flags resolve) (reply.Given left (option_or broken told)) q) && b) e
                      ∙ and_true (not (takes_out old (event.Enter id page access flags resolve) (reply.Given left (option_or broken told)) q)))
                    where
                      and_true : (b : Bool) → (b && true) ≡ b
                      and_true true = refl
                      and_true false = refl

                  -- a page that comes was found sealed now
                  was_checked : (q : ℕ) (s : Seal) → is_checked old q ≡ false → is_some (resident_page old.pages.cache q) ≡ true → (marks_of old.pages.marks q).validated ≡ Some s → ⊥
                  was_checked q s gone resident was = grind (arith, common_steps, sym gone ∙ checked_is old q ∙ ap (λ b. b && is_validated old q) resident ∙ ap is_some was)

                  taken_in : (s : Seal) → sealed_by old.pages.cache.pager.page_size blob page noted ≡ Some s → takes_in (event.Enter id page access flags resolve) (reply.Given left (option_or broken told)) page ≡ true
                  taken_in s e =
                      let facts = sealed_facts s e in
                      let nothing_told : told ≡ None = ok_same told None (sym is ∙ facts.1.1.0) in
                      let found = against_of s e in
                      ap (λ a. takes_in (event.Enter id page a flags resolve) (reply.Given left (option_or broken told)) page) facts.1.0
                      ∙ ap (λ o. (page == page) && not (is_some (option_or broken o))) nothing_told
                      ∙ ap (λ o. (page == page) && not (is_some (option_or o None))) found ∙ grind (arith, common_steps)
                    where
                      ok_same : (a b : Option Denial) → noted_ok a ≡ noted_ok b → a ≡ b
                      ok_same a b e = cc

                      against_of : (s : Seal) → sealed_by old.pages.cache.pager.page_size blob page noted ≡ Some s → broken ≡ None
                      against_of s e = by_blob blob refl e
                        where
                          by_blob : (b : Option Signature) → blob ≡ b → sealed_by old.pages.cache.pager.page_size b page noted ≡ Some s → broken ≡ None
                          by_blob None f e = absurd (none_other s e)
                          by_blob (Some b) f e = (against_some old page kept.regions_sound region access broken b rule (sym held_against ∙ f)).unbroken

                  comes_of : (q : ℕ) → is_checked old q ≡ false → is_checked final q ≡ true → (o : Option Seal) → (marks_of given_pages.marks q).validated ≡ o → is_some (marks_of given_pages.marks q).validated ≡ true
                      → takes_in (event.Enter id page access flags resolve) (reply.Given left (option_or broken told)) q ≡ true
                  comes_of q gone now None e some = absurd (grind (arith, common_steps, sym (ap is_some e) ∙ some))
                  comes_of q gone now (Some s) e some = by_test (q == page) refl
                    where
                      by_seal : (o : Option Seal) → sealed_by old.pages.cache.pager.page_size blob page noted ≡ o → q ≡ page → takes_in (event.Enter id page access flags resolve) (reply.Given left (option_or broken told)) q ≡ true
                      by_seal (Some t) f same = ap (takes_in (event.Enter id page access flags resolve) (reply.Given left (option_or broken told))) same ∙ taken_in t f
                      by_seal None f same =
                          let fresh = took_it.fresh f s (ap (λ n. (marks_of pages.marks n).validated) (sym same) ∙ given_validated q s e) in
                          absurd (was_checked page s (ap (is_checked old) (sym same) ∙ gone) fresh.0 fresh.1)

                      by_test : (b : Bool) → (q == page) ≡ b → takes_in (event.Enter id page access flags resolve) (reply.Given left (option_or broken told)) q ≡ true
                      by_test true f = by_seal (sealed_by old.pages.cache.pager.page_size blob page noted) refl (grind (arith, common_steps, f))
                      by_test false f =
                          let resident = sym (still_there q) ∙ checked_resident final q now in
                          let old_resident = took_it.arrived q f resident in
                          absurd (was_checked q s gone old_resident (sym (took_it.stays q f resident old_resident) ∙ given_validated q s e))

              -- a page that is given to be executed, and breaks no rule, is checked
              final_kept : access ≡ Execute → is_given (reply.Given left (option_or broken told)) ≡ true → is_checked final page ≡ true
              final_kept executes gives_all = checked_is final page ∙ ap (λ b. b && is_validated final page) (still_there page ∙ took_it.there) ∙ valid
                where
                  nothing_noted : (one other : Option Denial) → not (is_some (option_or one other)) ≡ true → (one ≡ None) × (other ≡ None)
                  nothing_noted None None e = (refl, refl)
                  nothing_noted None (Some d) e = absurd (grind (arith, common_steps, e))
                  nothing_noted (Some d) other e = absurd (grind (arith, common_steps, e))

                  both : (broken ≡ None) × (told ≡ None)
                  both = nothing_noted broken told gives_all

                  sealed_now : (b : Signature) × (blob ≡ Some b)
                  sealed_now =
                      let one = against_there old page region (ap (verdict_without_bytes (seen old []) region page) (sym executes) ∙ sym rule ∙ both.0) in
                      (one.0, held_against ∙ ap (λ a. against old.pages.cache.pager.page_size old.blobs page a broken) executes ∙ ap (against old.pages.cache.pager.page_size old.blobs page Execute) both.0 ∙ one.1)

                  seal_now : sealed_by old.pages.cache.pager.page_size blob page noted ≡ Some (seal_for old.pages.cache.pager.page_size sealed_now.0 page)
                  seal_now = ap (λ o. sealed_by old.pages.cache.pager.page_size o page noted) sealed_now.1
                      ∙ ap (sealed_by old.pages.cache.pager.page_size (Some sealed_now.0) page) (is ∙ ap Ok both.1)

                  valid : is_validated final page ≡ true
                  valid = ap is_some (given_same (ap (λ a. takes_out old (event.Enter id page a flags resolve) (reply.Given left (option_or broken told)) page) executes) ∙ took_it.here (seal_for old.pages.cache.pager.page_size sealed_now.0 page) seal_now)

              pub enters_given : DoesEnter hash old id page access flags resolve (reply.Given left (option_or broken told)) final
              enters_given = record {
                acts = final_acts;
                checked = final_checked;
                lazy = record {
                  unhashed = λ other. own_calls ∙ lazy_calls.0 other;
                  few = let few = lazy_calls.1 in let same = own_calls in omega arith;
                  hashed = subst (λ n. n ≤ old.pages.calls + hash_pages old page) (sym own_calls) hashed_calls;
                  to_slot = λ p slot found wanted tells. subst (λ n. n ≤ old.pages.calls + hash_pages_to old page slot) (sym own_calls) (slot_calls told is p slot found wanted tells);
                  unread = λ failed. absurd (given_apart left (option_or broken told) page failed);
                  unneeded = λ none. own_calls ∙ unneeded_calls none;
                  no_hash = λ was. own_calls ∙ lazy_calls.2 was;
                  kept = λ executes none gives_all. final_kept executes gives_all;
                  no_read = λ resident. ap (λ (c : CacheNow). c.pager.reads) own_cache ∙ ap (λ (p : PagerNow). p.reads) (gives_fine.no_call (seen_resident ∙ resident)).1 ∙ same_reads resident;
                };
                kept = kept_after hash old given_pages regions (event.Enter id page access flags resolve) (reply.Given left (option_or broken told)) kept final_acts
                    (subst IsSound (sym own_cache) gives_fine.sound) is_marked (gives_sound unmapped region page access (guarded flags) hand.0.bytes regions gives_it)
                    ((gives_regions unmapped region page access (guarded flags) hand.0.bytes regions gives_it).1 ∙ ap (λ (now : RegionsNow). now.page) unmaps.others)
                    ((gives_regions unmapped region page access (guarded flags) hand.0.bytes regions gives_it).0 ∙ ap (λ (now : RegionsNow). now.regions) unmaps.others) final_sealed;
              }
                where
                  own_calls : given_pages.calls ≡ seen_pages.calls
                  own_calls = ap (λ (p : PagesNow). p.calls) given_marks ∙ brings.calls
