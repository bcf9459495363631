use Rattle.std.proofs.Common.{◌≡◌, ℕ, ◌<◌, arith, [], true, false, List, Option, None, Some, refl, sym, ap, subst, ◌∙◌, inr}
use Rattle.std.specs.Prelude.{IfSome, is_some}
use Rattle.std.specs.Option.{option_copied, option_or}
use Rattle.std.specs.Borrow.{Bor}
use Rattle.cs_policy.specs.ProcFlags.{guarded}
use Rattle.cs_policy.specs.declared.access.Access.TheVariants.{Write}
use Rattle.cs_policy.specs.declared.denial.Denial.{Denial}
use Rattle.cs_policy.specs.declared.file.FileReply.TheVariants as reply
use Rattle.pg_cache.specs.Cache.{resident_page}
use Rattle.pg_regions.specs.Lookups.{region_of, bytes_of}
use Rattle.pg_regions.specs.RegionsNow.{RegionsNow, spare}
use Rattle.pg_regions.specs.Steps.{KeepsRoom}
use Rattle.pg_plain.specs.PlainFile.{Attached, having}
use Rattle.pg_plain.specs.Verdict.{verdict_without_bytes}
use Rattle.pg_object.specs.Object.{ObjectNow, object_of, seen}
use Rattle.pg_object.specs.Enters.{against, Takes, GivesTo}
use Rattle.pg_object.proofs.AfterFacts.{with_parts}
use Rattle.pg_object.proofs.GiveFacts.{some_bytes}
use Rattle.pg_object.proofs.HandFacts.{own_stands, inside_file, copy_at_hand, lent_holds}
use Rattle.pg_object.proofs.EnterFacts.{DoesEnter, enters_none, enters_denied, enters_copied}
use Rattle.pg_object.proofs.TakenFacts.{taken_failed, taken_denied, ready_resident, ready_sizes, taken_ready}
use Rattle.pg_object.proofs.object.Object.enter.Goals as goal
use Rattle.pg_object.proofs.object.Object.enter.Goals.{then-guarded+in_default-broken, else-guarded}

true_false : {X : Type 0} → true ≡ false → X
true_false e = absurd (cc)

is_some_copied : {X : Type 0} (o : Option (Bor X)) → is_some (option_copied o) ≡ is_some o
is_some_copied None = refl
is_some_copied (Some x) = refl

more : (old new : RegionsNow) → KeepsRoom old new → 0 < (spare old).records → 0 < (spare new).records
more old new room some = let few = room.records in omega arith

more_copies : (old new : RegionsNow) → KeepsRoom old new → 0 < (spare old).copies → 0 < (spare new).copies
more_copies old new room some = let few = room.copies in omega arith

pub returns-in_default : goal.returns-in_default
returns-in_default g c =
    let hash = g.D.Digester.hash in
    let old = object_of c.self.inside.pages c.self.inside.regions c.self.inside.blobs c.self.inside.length c.self.inside.layout in
    let done = subst (λ (n : ObjectNow). DoesEnter hash n c.args.id c.args.page c.args.access c.args.flags c.args.resolve (reply.NoRegion c.args.id) n) c.self.view_is
    (enters_none hash old c.self.invariant c.args.id c.args.page c.args.access c.args.flags c.args.resolve (sym c.region_with.ensures ∙ c.in_default.is)) in
    record { acts = done.acts; checked = done.checked; lazy = done.lazy; kept = done.kept }

pub returns-in-Some-broken : goal.returns-in-Some-broken
returns-in-Some-broken g c =
    let hash = g.D.Digester.hash in
    let old = object_of c.self.inside.pages c.self.inside.regions c.self.inside.blobs c.self.inside.length c.self.inside.layout in
    let region = c.in-Some.region in
    let stands : having c.args.page (region_of old.regions.regions c.args.id) ≡ Some region = sym c.region_with.ensures ∙ c.in-Some.is in
    let broken = c.broken_unread-broken.result in
    let rule : broken ≡ verdict_without_bytes (seen old []) region c.args.page c.args.access =
    subst (λ (n : ObjectNow). broken ≡ verdict_without_bytes (seen n []) region c.args.page c.args.access) (sym c.self.view_is) c.broken_unread-broken.ensures in
    let done = subst (λ (n : ObjectNow). DoesEnter hash n c.args.id c.args.page c.args.access c.args.flags c.args.resolve (reply.Denied c.in-Some-broken.denial) n) c.self.view_is
    (enters_denied hash old c.self.invariant c.args.id c.args.page c.args.access c.args.flags c.args.resolve region stands broken rule c.in-Some-broken.denial (sym c.guarded-guarded.ensures ∙ c.if-guarded.true) c.in-Some-broken.is) in
    record { acts = done.acts; checked = done.checked; lazy = done.lazy; kept = done.kept }

pub give-requires : goal.give-requires
give-requires g c =
    let hash = g.D.Digester.hash in
    let old = object_of c.self.inside.pages c.self.inside.regions c.self.inside.blobs c.self.inside.length c.self.inside.layout in
    let region = c.in-Some.region in
    let stands : having c.args.page (region_of old.regions.regions c.args.id) ≡ Some region = sym c.region_with.ensures ∙ c.in-Some.is in
    let copy : is_some (bytes_of old.regions.copies c.args.id c.args.page) ≡ true =
    some_bytes old.regions c.args.id c.args.page c.copy.result (sym c.is_some.ensures ∙ c.if-is_some.true) c.copy.ensures.found in
    let records = subst (λ (n : ObjectNow). 0 < (spare n.regions).records) (sym c.self.view_is) c.requires.records in
    let copies = subst (λ (n : ObjectNow). c.args.access ≡ Write → 0 < (spare n.regions).copies) (sym c.self.view_is) c.requires.copies in
    record {
      stands = own_stands hash old c.self.invariant c.args.id c.args.page region stands;
      inside = inside_file hash old c.self.invariant c.args.id c.args.page region stands;
      at_hand = copy_at_hand hash old c.self.invariant c.args.id c.args.page region stands copy;
      size = c.self.invariant.page;
      records = records;
      copies = copies;
      marked = c.self.invariant.marked;
    }

pub invariant_of-self : goal.invariant_of-self
invariant_of-self g c =
    let hash = g.D.Digester.hash in
    let old = object_of c.self.inside.pages c.self.inside.regions c.self.inside.blobs c.self.inside.length c.self.inside.layout in
    let region = c.in-Some.region in
    let stands : having c.args.page (region_of old.regions.regions c.args.id) ≡ Some region = sym c.region_with.ensures ∙ c.in-Some.is in
    let broken = c.broken_unread-broken.result in
    let rule : broken ≡ verdict_without_bytes (seen old []) region c.args.page c.args.access =
    subst (λ (n : ObjectNow). broken ≡ verdict_without_bytes (seen n []) region c.args.page c.args.access) (sym c.self.view_is) c.broken_unread-broken.ensures in
    let under : guarded c.args.flags ≡ true → broken ≡ None = λ is. elim c.if-guarded.branch [
      | then-guarded+in_default-broken w ↦ w.in_default-broken.is
      | else-guarded w ↦ true_false (sym is ∙ sym c.guarded-guarded.ensures ∙ w.if-guarded.false)
    ] in
    let copy : is_some (bytes_of old.regions.copies c.args.id c.args.page) ≡ true =
    some_bytes old.regions c.args.id c.args.page c.copy.result (sym c.is_some.ensures ∙ c.if-is_some.true) c.copy.ensures.found in
    let gives = subst (λ b. (bytes : List ℕ) → IfSome (resident_page c.self.inside.pages.cache c.args.page) (λ held. bytes ≡ held.bytes) → GivesTo c.self.inside.regions region c.args.page c.args.access b bytes c.give.new.regions)
    c.guarded-guarded.ensures c.give.ensures.regions in
    (enters_copied hash old c.self.invariant c.args.id c.args.page c.args.access c.args.flags c.args.resolve region stands broken rule copy under c.give.new.pages c.give.new.regions c.give.ensures.marks gives).kept

pub returns-then-is_some : goal.returns-then-is_some
returns-then-is_some g c =
    let hash = g.D.Digester.hash in
    let old = object_of c.self.inside.pages c.self.inside.regions c.self.inside.blobs c.self.inside.length c.self.inside.layout in
    let region = c.in-Some.region in
    let stands : having c.args.page (region_of old.regions.regions c.args.id) ≡ Some region = sym c.region_with.ensures ∙ c.in-Some.is in
    let broken = c.broken_unread-broken.result in
    let rule : broken ≡ verdict_without_bytes (seen old []) region c.args.page c.args.access =
    subst (λ (n : ObjectNow). broken ≡ verdict_without_bytes (seen n []) region c.args.page c.args.access) (sym c.self.view_is) c.broken_unread-broken.ensures in
    let under : guarded c.args.flags ≡ true → broken ≡ None = λ is. elim c.if-guarded.branch [
      | then-guarded+in_default-broken w ↦ w.in_default-broken.is
      | else-guarded w ↦ true_false (sym is ∙ sym c.guarded-guarded.ensures ∙ w.if-guarded.false)
    ] in
    let copy : is_some (bytes_of old.regions.copies c.args.id c.args.page) ≡ true =
    some_bytes old.regions c.args.id c.args.page c.copy.result (sym c.is_some.ensures ∙ c.if-is_some.true) c.copy.ensures.found in
    let gives = subst (λ b. (bytes : List ℕ) → IfSome (resident_page c.self.inside.pages.cache c.args.page) (λ held. bytes ≡ held.bytes) → GivesTo c.self.inside.regions region c.args.page c.args.access b bytes c.give.new.regions)
    c.guarded-guarded.ensures c.give.ensures.regions in
    let done = subst (λ (n : ObjectNow). DoesEnter hash n c.args.id c.args.page c.args.access c.args.flags c.args.resolve (reply.Given None broken) (with_parts old c.give.new.pages c.give.new.regions)) c.self.view_is
    (enters_copied hash old c.self.invariant c.args.id c.args.page c.args.access c.args.flags c.args.resolve region stands broken rule copy under c.give.new.pages c.give.new.regions c.give.ensures.marks gives) in
    record { acts = done.acts; checked = done.checked; lazy = done.lazy; kept = done.kept }

pub take_page-requires : goal.take_page-requires
take_page-requires g c =
    let hash = g.D.Digester.hash in
    let old = object_of c.self.inside.pages c.self.inside.regions c.self.inside.blobs c.self.inside.length c.self.inside.layout in
    let region = c.in-Some.region in
    let stands : having c.args.page (region_of old.regions.regions c.args.id) ≡ Some region = sym c.region_with.ensures ∙ c.in-Some.is in
    let broken = c.broken_unread-broken.result in
    let rule : broken ≡ verdict_without_bytes (seen old []) region c.args.page c.args.access =
    subst (λ (n : ObjectNow). broken ≡ verdict_without_bytes (seen n []) region c.args.page c.args.access) (sym c.self.view_is) c.broken_unread-broken.ensures in
    let size : c.page_size-size.result ≡ old.pages.cache.pager.page_size = c.page_size-size.ensures.size in
    let blob = option_copied c.blob_for-blob.result in
    let held_against : blob ≡ against old.pages.cache.pager.page_size old.blobs c.args.page c.args.access broken =
    c.blob_for-blob.ensures
    ∙ ap (λ s. against s c.list.result.now c.args.page c.args.access broken) size
    ∙ ap (λ (bs : List Attached). against old.pages.cache.pager.page_size bs c.args.page c.args.access broken) c.list.ensures.value in
    record {
      inside = inside_file hash old c.self.invariant c.args.id c.args.page region stands;
      holds = lent_holds hash old c.self.invariant c.args.id c.args.page region stands c.args.access broken rule c.blob_for-blob.result held_against;
    }

pub invariant_of-self-in-Failed : goal.invariant_of-self-in-Failed
invariant_of-self-in-Failed g c =
    let hash = g.D.Digester.hash in
    let old = object_of c.self.inside.pages c.self.inside.regions c.self.inside.blobs c.self.inside.length c.self.inside.layout in
    let region = c.in-Some.region in
    let stands : having c.args.page (region_of old.regions.regions c.args.id) ≡ Some region = sym c.region_with.ensures ∙ c.in-Some.is in
    let broken = c.broken_unread-broken.result in
    let rule : broken ≡ verdict_without_bytes (seen old []) region c.args.page c.args.access =
    subst (λ (n : ObjectNow). broken ≡ verdict_without_bytes (seen n []) region c.args.page c.args.access) (sym c.self.view_is) c.broken_unread-broken.ensures in
    let under : guarded c.args.flags ≡ true → broken ≡ None = λ is. elim c.if-guarded.branch [
      | then-guarded+in_default-broken w ↦ w.in_default-broken.is
      | else-guarded w ↦ true_false (sym is ∙ sym c.guarded-guarded.ensures ∙ w.if-guarded.false)
    ] in
    let no_copy : is_some (bytes_of old.regions.copies c.args.id c.args.page) ≡ false =
    ap is_some (sym c.copy.ensures.found) ∙ is_some_copied c.copy.result ∙ sym c.is_some.ensures ∙ c.if-is_some.false in
    let size : c.page_size-size.result ≡ old.pages.cache.pager.page_size = c.page_size-size.ensures.size in
    let blob = option_copied c.blob_for-blob.result in
    let held_against : blob ≡ against old.pages.cache.pager.page_size old.blobs c.args.page c.args.access broken =
    c.blob_for-blob.ensures
    ∙ ap (λ s. against s c.list.result.now c.args.page c.args.access broken) size
    ∙ ap (λ (bs : List Attached). against old.pages.cache.pager.page_size bs c.args.page c.args.access broken) c.list.ensures.value in
    let pages = c.take_page.new.pages in
    let takes = subst (λ b. Takes hash old.pages.cache.pager.page_size blob b old.pages c.args.page c.take_page.result pages) c.guarded-guarded.ensures c.take_page.ensures in
    (taken_failed hash old c.self.invariant c.args.id c.args.page c.args.access c.args.flags c.args.resolve region stands broken rule no_copy blob held_against under c.take_page.result pages takes c.in-Failed.page c.in-Failed.is).kept

pub invariant_of-self-in-Denied : goal.invariant_of-self-in-Denied
invariant_of-self-in-Denied g c =
    let hash = g.D.Digester.hash in
    let old = object_of c.self.inside.pages c.self.inside.regions c.self.inside.blobs c.self.inside.length c.self.inside.layout in
    let region = c.in-Some.region in
    let stands : having c.args.page (region_of old.regions.regions c.args.id) ≡ Some region = sym c.region_with.ensures ∙ c.in-Some.is in
    let broken = c.broken_unread-broken.result in
    let rule : broken ≡ verdict_without_bytes (seen old []) region c.args.page c.args.access =
    subst (λ (n : ObjectNow). broken ≡ verdict_without_bytes (seen n []) region c.args.page c.args.access) (sym c.self.view_is) c.broken_unread-broken.ensures in
    let under : guarded c.args.flags ≡ true → broken ≡ None = λ is. elim c.if-guarded.branch [
      | then-guarded+in_default-broken w ↦ w.in_default-broken.is
      | else-guarded w ↦ true_false (sym is ∙ sym c.guarded-guarded.ensures ∙ w.if-guarded.false)
    ] in
    let no_copy : is_some (bytes_of old.regions.copies c.args.id c.args.page) ≡ false =
    ap is_some (sym c.copy.ensures.found) ∙ is_some_copied c.copy.result ∙ sym c.is_some.ensures ∙ c.if-is_some.false in
    let size : c.page_size-size.result ≡ old.pages.cache.pager.page_size = c.page_size-size.ensures.size in
    let blob = option_copied c.blob_for-blob.result in
    let held_against : blob ≡ against old.pages.cache.pager.page_size old.blobs c.args.page c.args.access broken =
    c.blob_for-blob.ensures
    ∙ ap (λ s. against s c.list.result.now c.args.page c.args.access broken) size
    ∙ ap (λ (bs : List Attached). against old.pages.cache.pager.page_size bs c.args.page c.args.access broken) c.list.ensures.value in
    let pages = c.take_page.new.pages in
    let takes = subst (λ b. Takes hash old.pages.cache.pager.page_size blob b old.pages c.args.page c.take_page.result pages) c.guarded-guarded.ensures c.take_page.ensures in
    (taken_denied hash old c.self.invariant c.args.id c.args.page c.args.access c.args.flags c.args.resolve region stands broken rule no_copy blob held_against under c.take_page.result pages takes c.in-Denied.denial c.in-Denied.is).kept

pub give-requires-in-Ready : goal.give-requires-in-Ready
give-requires-in-Ready g c =
    let hash = g.D.Digester.hash in
    let old = object_of c.self.inside.pages c.self.inside.regions c.self.inside.blobs c.self.inside.length c.self.inside.layout in
    let region = c.in-Some.region in
    let stands : having c.args.page (region_of old.regions.regions c.args.id) ≡ Some region = sym c.region_with.ensures ∙ c.in-Some.is in
    let broken = c.broken_unread-broken.result in
    let rule : broken ≡ verdict_without_bytes (seen old []) region c.args.page c.args.access =
    subst (λ (n : ObjectNow). broken ≡ verdict_without_bytes (seen n []) region c.args.page c.args.access) (sym c.self.view_is) c.broken_unread-broken.ensures in
    let under : guarded c.args.flags ≡ true → broken ≡ None = λ is. elim c.if-guarded.branch [
      | then-guarded+in_default-broken w ↦ w.in_default-broken.is
      | else-guarded w ↦ true_false (sym is ∙ sym c.guarded-guarded.ensures ∙ w.if-guarded.false)
    ] in
    let no_copy : is_some (bytes_of old.regions.copies c.args.id c.args.page) ≡ false =
    ap is_some (sym c.copy.ensures.found) ∙ is_some_copied c.copy.result ∙ sym c.is_some.ensures ∙ c.if-is_some.false in
    let size : c.page_size-size.result ≡ old.pages.cache.pager.page_size = c.page_size-size.ensures.size in
    let blob = option_copied c.blob_for-blob.result in
    let held_against : blob ≡ against old.pages.cache.pager.page_size old.blobs c.args.page c.args.access broken =
    c.blob_for-blob.ensures
    ∙ ap (λ s. against s c.list.result.now c.args.page c.args.access broken) size
    ∙ ap (λ (bs : List Attached). against old.pages.cache.pager.page_size bs c.args.page c.args.access broken) c.list.ensures.value in
    let pages = c.take_page.new.pages in
    let takes = subst (λ b. Takes hash old.pages.cache.pager.page_size blob b old.pages c.args.page c.take_page.result pages) c.guarded-guarded.ensures c.take_page.ensures in
    let records = subst (λ (n : ObjectNow). 0 < (spare n.regions).records) (sym c.self.view_is) c.requires.records in
    let copies = subst (λ (n : ObjectNow). c.args.access ≡ Write → 0 < (spare n.regions).copies) (sym c.self.view_is) c.requires.copies in
    let sizes = ready_sizes hash old c.self.invariant c.args.id c.args.page c.args.access c.args.flags c.args.resolve region stands broken rule no_copy blob held_against under c.take_page.result pages takes c.in-Ready.left c.in-Ready.noted c.in-Ready.is in
    let others = c.unmap.ensures.others in
    let room = c.unmap.ensures.room in
    record {
      stands = ap (λ (r : RegionsNow). having c.args.page (region_of r.regions region.id)) others ∙ own_stands hash old c.self.invariant c.args.id c.args.page region stands;
      inside = subst (λ n. c.args.page < n) (sym sizes.0) (inside_file hash old c.self.invariant c.args.id c.args.page region stands);
      at_hand = inr (ready_resident hash old c.self.invariant c.args.id c.args.page c.args.access c.args.flags c.args.resolve region stands broken rule no_copy blob held_against under c.take_page.result pages takes c.in-Ready.left c.in-Ready.noted c.in-Ready.is);
      size = ap (λ (r : RegionsNow). r.page) others ∙ c.self.invariant.page ∙ sym sizes.1.0;
      records = more old.regions c.unmap.new.regions room records;
      copies = λ writes. more_copies old.regions c.unmap.new.regions room (copies writes);
      marked = sizes.1.1;
    }

pub invariant_of-self-in-Ready : goal.invariant_of-self-in-Ready
invariant_of-self-in-Ready g c =
    let hash = g.D.Digester.hash in
    let old = object_of c.self.inside.pages c.self.inside.regions c.self.inside.blobs c.self.inside.length c.self.inside.layout in
    let region = c.in-Some.region in
    let stands : having c.args.page (region_of old.regions.regions c.args.id) ≡ Some region = sym c.region_with.ensures ∙ c.in-Some.is in
    let broken = c.broken_unread-broken.result in
    let rule : broken ≡ verdict_without_bytes (seen old []) region c.args.page c.args.access =
    subst (λ (n : ObjectNow). broken ≡ verdict_without_bytes (seen n []) region c.args.page c.args.access) (sym c.self.view_is) c.broken_unread-broken.ensures in
    let under : guarded c.args.flags ≡ true → broken ≡ None = λ is. elim c.if-guarded.branch [
      | then-guarded+in_default-broken w ↦ w.in_default-broken.is
      | else-guarded w ↦ true_false (sym is ∙ sym c.guarded-guarded.ensures ∙ w.if-guarded.false)
    ] in
    let no_copy : is_some (bytes_of old.regions.copies c.args.id c.args.page) ≡ false =
    ap is_some (sym c.copy.ensures.found) ∙ is_some_copied c.copy.result ∙ sym c.is_some.ensures ∙ c.if-is_some.false in
    let size : c.page_size-size.result ≡ old.pages.cache.pager.page_size = c.page_size-size.ensures.size in
    let blob = option_copied c.blob_for-blob.result in
    let held_against : blob ≡ against old.pages.cache.pager.page_size old.blobs c.args.page c.args.access broken =
    c.blob_for-blob.ensures
    ∙ ap (λ s. against s c.list.result.now c.args.page c.args.access broken) size
    ∙ ap (λ (bs : List Attached). against old.pages.cache.pager.page_size bs c.args.page c.args.access broken) c.list.ensures.value in
    let pages = c.take_page.new.pages in
    let takes = subst (λ b. Takes hash old.pages.cache.pager.page_size blob b old.pages c.args.page c.take_page.result pages) c.guarded-guarded.ensures c.take_page.ensures in
    let gives = subst (λ b. (bytes : List ℕ) → IfSome (resident_page pages.cache c.args.page) (λ held. bytes ≡ held.bytes) → GivesTo c.unmap.new.regions region c.args.page c.args.access b bytes c.give-in-Ready.new.regions)
    c.guarded-guarded.ensures c.give-in-Ready.ensures.regions in
    (taken_ready hash old c.self.invariant c.args.id c.args.page c.args.access c.args.flags c.args.resolve region stands broken rule no_copy blob held_against under c.take_page.result pages takes c.in-Ready.left c.in-Ready.noted c.in-Ready.is c.unmap.new.regions c.unmap.ensures c.give-in-Ready.new.pages c.give-in-Ready.new.regions c.give-in-Ready.ensures.marks c.give-in-Ready.ensures.marked gives).kept

pub returns-in-Failed : goal.returns-in-Failed
returns-in-Failed g c =
    let hash = g.D.Digester.hash in
    let old = object_of c.self.inside.pages c.self.inside.regions c.self.inside.blobs c.self.inside.length c.self.inside.layout in
    let region = c.in-Some.region in
    let stands : having c.args.page (region_of old.regions.regions c.args.id) ≡ Some region = sym c.region_with.ensures ∙ c.in-Some.is in
    let broken = c.broken_unread-broken.result in
    let rule : broken ≡ verdict_without_bytes (seen old []) region c.args.page c.args.access =
    subst (λ (n : ObjectNow). broken ≡ verdict_without_bytes (seen n []) region c.args.page c.args.access) (sym c.self.view_is) c.broken_unread-broken.ensures in
    let under : guarded c.args.flags ≡ true → broken ≡ None = λ is. elim c.if-guarded.branch [
      | then-guarded+in_default-broken w ↦ w.in_default-broken.is
      | else-guarded w ↦ true_false (sym is ∙ sym c.guarded-guarded.ensures ∙ w.if-guarded.false)
    ] in
    let no_copy : is_some (bytes_of old.regions.copies c.args.id c.args.page) ≡ false =
    ap is_some (sym c.copy.ensures.found) ∙ is_some_copied c.copy.result ∙ sym c.is_some.ensures ∙ c.if-is_some.false in
    let size : c.page_size-size.result ≡ old.pages.cache.pager.page_size = c.page_size-size.ensures.size in
    let blob = option_copied c.blob_for-blob.result in
    let held_against : blob ≡ against old.pages.cache.pager.page_size old.blobs c.args.page c.args.access broken =
    c.blob_for-blob.ensures
    ∙ ap (λ s. against s c.list.result.now c.args.page c.args.access broken) size
    ∙ ap (λ (bs : List Attached). against old.pages.cache.pager.page_size bs c.args.page c.args.access broken) c.list.ensures.value in
    let pages = c.take_page.new.pages in
    let takes = subst (λ b. Takes hash old.pages.cache.pager.page_size blob b old.pages c.args.page c.take_page.result pages) c.guarded-guarded.ensures c.take_page.ensures in
    let done = subst (λ (n : ObjectNow). DoesEnter hash n c.args.id c.args.page c.args.access c.args.flags c.args.resolve (reply.PagerFault c.in-Failed.page) (with_parts old pages old.regions)) c.self.view_is
    (taken_failed hash old c.self.invariant c.args.id c.args.page c.args.access c.args.flags c.args.resolve region stands broken rule no_copy blob held_against under c.take_page.result pages takes c.in-Failed.page c.in-Failed.is) in
    record { acts = done.acts; checked = done.checked; lazy = done.lazy; kept = done.kept }

pub returns-in-Denied : goal.returns-in-Denied
returns-in-Denied g c =
    let hash = g.D.Digester.hash in
    let old = object_of c.self.inside.pages c.self.inside.regions c.self.inside.blobs c.self.inside.length c.self.inside.layout in
    let region = c.in-Some.region in
    let stands : having c.args.page (region_of old.regions.regions c.args.id) ≡ Some region = sym c.region_with.ensures ∙ c.in-Some.is in
    let broken = c.broken_unread-broken.result in
    let rule : broken ≡ verdict_without_bytes (seen old []) region c.args.page c.args.access =
    subst (λ (n : ObjectNow). broken ≡ verdict_without_bytes (seen n []) region c.args.page c.args.access) (sym c.self.view_is) c.broken_unread-broken.ensures in
    let under : guarded c.args.flags ≡ true → broken ≡ None = λ is. elim c.if-guarded.branch [
      | then-guarded+in_default-broken w ↦ w.in_default-broken.is
      | else-guarded w ↦ true_false (sym is ∙ sym c.guarded-guarded.ensures ∙ w.if-guarded.false)
    ] in
    let no_copy : is_some (bytes_of old.regions.copies c.args.id c.args.page) ≡ false =
    ap is_some (sym c.copy.ensures.found) ∙ is_some_copied c.copy.result ∙ sym c.is_some.ensures ∙ c.if-is_some.false in
    let size : c.page_size-size.result ≡ old.pages.cache.pager.page_size = c.page_size-size.ensures.size in
    let blob = option_copied c.blob_for-blob.result in
    let held_against : blob ≡ against old.pages.cache.pager.page_size old.blobs c.args.page c.args.access broken =
    c.blob_for-blob.ensures
    ∙ ap (λ s. against s c.list.result.now c.args.page c.args.access broken) size
    ∙ ap (λ (bs : List Attached). against old.pages.cache.pager.page_size bs c.args.page c.args.access broken) c.list.ensures.value in
    let pages = c.take_page.new.pages in
    let takes = subst (λ b. Takes hash old.pages.cache.pager.page_size blob b old.pages c.args.page c.take_page.result pages) c.guarded-guarded.ensures c.take_page.ensures in
    let done = subst (λ (n : ObjectNow). DoesEnter hash n c.args.id c.args.page c.args.access c.args.flags c.args.resolve (reply.Denied c.in-Denied.denial) (with_parts old pages old.regions)) c.self.view_is
    (taken_denied hash old c.self.invariant c.args.id c.args.page c.args.access c.args.flags c.args.resolve region stands broken rule no_copy blob held_against under c.take_page.result pages takes c.in-Denied.denial c.in-Denied.is) in
    record { acts = done.acts; checked = done.checked; lazy = done.lazy; kept = done.kept }

pub returns-in-Ready : goal.returns-in-Ready
returns-in-Ready g c =
    let hash = g.D.Digester.hash in
    let old = object_of c.self.inside.pages c.self.inside.regions c.self.inside.blobs c.self.inside.length c.self.inside.layout in
    let region = c.in-Some.region in
    let stands : having c.args.page (region_of old.regions.regions c.args.id) ≡ Some region = sym c.region_with.ensures ∙ c.in-Some.is in
    let broken = c.broken_unread-broken.result in
    let rule : broken ≡ verdict_without_bytes (seen old []) region c.args.page c.args.access =
    subst (λ (n : ObjectNow). broken ≡ verdict_without_bytes (seen n []) region c.args.page c.args.access) (sym c.self.view_is) c.broken_unread-broken.ensures in
    let under : guarded c.args.flags ≡ true → broken ≡ None = λ is. elim c.if-guarded.branch [
      | then-guarded+in_default-broken w ↦ w.in_default-broken.is
      | else-guarded w ↦ true_false (sym is ∙ sym c.guarded-guarded.ensures ∙ w.if-guarded.false)
    ] in
    let no_copy : is_some (bytes_of old.regions.copies c.args.id c.args.page) ≡ false =
    ap is_some (sym c.copy.ensures.found) ∙ is_some_copied c.copy.result ∙ sym c.is_some.ensures ∙ c.if-is_some.false in
    let size : c.page_size-size.result ≡ old.pages.cache.pager.page_size = c.page_size-size.ensures.size in
    let blob = option_copied c.blob_for-blob.result in
    let held_against : blob ≡ against old.pages.cache.pager.page_size old.blobs c.args.page c.args.access broken =
    c.blob_for-blob.ensures
    ∙ ap (λ s. against s c.list.result.now c.args.page c.args.access broken) size
    ∙ ap (λ (bs : List Attached). against old.pages.cache.pager.page_size bs c.args.page c.args.access broken) c.list.ensures.value in
    let pages = c.take_page.new.pages in
    let takes = subst (λ b. Takes hash old.pages.cache.pager.page_size blob b old.pages c.args.page c.take_page.result pages) c.guarded-guarded.ensures c.take_page.ensures in
    let gives = subst (λ b. (bytes : List ℕ) → IfSome (resident_page pages.cache c.args.page) (λ held. bytes ≡ held.bytes) → GivesTo c.unmap.new.regions region c.args.page c.args.access b bytes c.give-in-Ready.new.regions)
    c.guarded-guarded.ensures c.give-in-Ready.ensures.regions in
    let done = subst (λ (o : Option Denial). DoesEnter hash c.args.self.now c.args.id c.args.page c.args.access c.args.flags c.args.resolve (reply.Given c.in-Ready.left o) (with_parts old c.give-in-Ready.new.pages c.give-in-Ready.new.regions)) (sym c.or.ensures)
    (subst (λ (n : ObjectNow). DoesEnter hash n c.args.id c.args.page c.args.access c.args.flags c.args.resolve (reply.Given c.in-Ready.left (option_or broken c.in-Ready.noted)) (with_parts old c.give-in-Ready.new.pages c.give-in-Ready.new.regions)) c.self.view_is
    (taken_ready hash old c.self.invariant c.args.id c.args.page c.args.access c.args.flags c.args.resolve region stands broken rule no_copy blob held_against under c.take_page.result pages takes c.in-Ready.left c.in-Ready.noted c.in-Ready.is c.unmap.new.regions c.unmap.ensures c.give-in-Ready.new.pages c.give-in-Ready.new.regions c.give-in-Ready.ensures.marks c.give-in-Ready.ensures.marked gives)) in
    record { acts = done.acts; checked = done.checked; lazy = done.lazy; kept = done.kept }
