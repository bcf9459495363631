use Rattle.std.proofs.Common.{true, false, ◌≡◌, ℕ, ◌+◌, ◌-◌, ◌*◌, ◌/◌, ◌<◌, ◌≤◌, None, sym, ap, subst, ◌∙◌, inl, inr, length}
use Rattle.std.specs.Prelude.{◌⊎◌, ◌^◌, nat_lt}
use Rattle.std.specs.Bool.{OnFalse}
use Rattle.cs_policy.specs.Data.{data_bytes}
use Rattle.cs_policy.specs.declared.file.FileEvent.TheVariants as event
use Rattle.cs_policy.specs.declared.file.FileReply.TheVariants as reply
use Rattle.pg_object.specs.Object.{ObjectNow, object_of}
use Rattle.pg_object.specs.Strips.{Strips}
use Rattle.pg_object.specs.Writes.{end_reached}
use Rattle.cs_policy.specs.declared.file.FileReply.{FileReply}
use Rattle.pg_object.proofs.QuietFacts.{Does}
use Rattle.pg_object.proofs.AfterFacts.{with_parts}
use Rattle.pg_object.proofs.WriteFacts.{writes_past, AllDone, StoppedAt, ends_late, writes, short_fits}
use Rattle.pg_object.proofs.object.Object.write.Goals as goal
use Rattle.pg_object.proofs.object.Object.write.Goals.{in-Ok, in-Err}

pub returns-then-passes : goal.returns-then-passes
returns-then-passes g c =
    let old = object_of c.self.inside.pages c.self.inside.regions c.self.inside.blobs c.self.inside.length c.self.inside.layout in
    let past : nat_lt old.length (c.args.at + length (data_bytes c.args.piece.now)) ≡ true =
    ap (λ n. nat_lt old.length (c.args.at + n)) (sym c.count_of-count.ensures) ∙ sym c.passes.ensures.value ∙ c.if-passes.true in
    let done = subst (λ (now : ObjectNow). Does g.D.Digester.hash now (event.Write c.args.at c.args.piece.now) None (reply.PastEnd old.length) now) c.self.view_is
    (writes_past g.D.Digester.hash old c.args.at c.args.piece.now c.self.invariant past) in
    record { acts = done.acts; checked = done.checked; unhashed = done.unhashed; kept = done.kept }

pub short-requires : goal.short-requires
short-requires g c =
    let bytes = data_bytes c.args.piece.now in
    let counted : c.count_of-count.result ≡ length bytes = c.count_of-count.ensures in
    record {
      fits = short_fits g.D.Digester.hash c.self.inside.pages c.write_pages.new.pages c.args.at c.count_of-count.result bytes c.in-Err.page c.page_size-size.result c.self.invariant.sound.sized.size
          c.in-Err.ensures.before c.page_size-size.ensures.size counted
          (subst (λ b. OnFalse b (c.args.at + c.count_of-count.result < 2 ^ 64)) c.if-passes.false c.passes.ensures.below);
    }

pub strip_pages-requires-clause-order : goal.strip_pages-requires-clause-order
strip_pages-requires-clause-order g c =
    let hash = g.D.Digester.hash in
    let old = object_of c.self.inside.pages c.self.inside.regions c.self.inside.blobs c.self.inside.length c.self.inside.layout in
    let bytes = data_bytes c.args.piece.now in
    let counted : c.count_of-count.result ≡ length bytes = c.count_of-count.ensures in
    let within : nat_lt old.length (c.args.at + length bytes) ≡ false = ap (λ n. nat_lt old.length (c.args.at + n)) (sym counted) ∙ sym c.passes.ensures.value ∙ c.if-passes.false in
    let size : c.page_size-size.result ≡ old.pages.cache.pager.page_size = c.page_size-size.ensures.size in
    let end = c.match-write_pages.end in
    let regions = c.self.inside.regions in
    let ended : AllDone hash old c.args.at c.args.piece.now c.write_pages.new.pages regions c.self.invariant within end ⊎ StoppedAt hash old c.args.at c.args.piece.now c.write_pages.new.pages regions c.self.invariant within end =
    elim c.match-write_pages.branch [
      | in-Ok w ↦ inl (record {
        all = w.in-Ok.ensures.all;
        to = ap (λ (e : ℕ × FileReply). e.0) w.end-is ∙ w.end_reached.ensures ∙ ap (λ s. end_reached s c.args.at c.count_of-count.result) size ∙ ap (end_reached old.pages.cache.pager.page_size c.args.at) counted;
        answer = ap (λ (e : ℕ × FileReply). e.1) w.end-is ∙ ap reply.Written counted;
      })
      | in-Err w ↦ inr (record {
        stop = w.in-Err.page;
        before = w.in-Err.ensures.before;
        to = ap (λ (e : ℕ × FileReply). e.0) w.end-is;
        answer = ap (λ (e : ℕ × FileReply). e.1) w.end-is ∙ w.short.ensures ∙ ap (λ s. reply.Short (w.in-Err.page * s - c.args.at)) size;
      })
    ] in
    subst (λ n. c.args.at / n ≤ c.match-write_pages.end.0) (sym (c.from.ensures ∙ size))
    (ends_late hash old c.args.at c.args.piece.now c.write_pages.new.pages regions c.self.invariant within end ended)

pub invariant_of-self : goal.invariant_of-self
invariant_of-self g c =
    let hash = g.D.Digester.hash in
    let old = object_of c.self.inside.pages c.self.inside.regions c.self.inside.blobs c.self.inside.length c.self.inside.layout in
    let bytes = data_bytes c.args.piece.now in
    let counted : c.count_of-count.result ≡ length bytes = c.count_of-count.ensures in
    let within : nat_lt old.length (c.args.at + length bytes) ≡ false = ap (λ n. nat_lt old.length (c.args.at + n)) (sym counted) ∙ sym c.passes.ensures.value ∙ c.if-passes.false in
    let size : c.page_size-size.result ≡ old.pages.cache.pager.page_size = c.page_size-size.ensures.size in
    let end = c.match-write_pages.end in
    let regions = c.strip_pages.new.regions in
    let ended : AllDone hash old c.args.at c.args.piece.now c.write_pages.new.pages regions c.self.invariant within end ⊎ StoppedAt hash old c.args.at c.args.piece.now c.write_pages.new.pages regions c.self.invariant within end =
    elim c.match-write_pages.branch [
      | in-Ok w ↦ inl (record {
        all = w.in-Ok.ensures.all;
        to = ap (λ (e : ℕ × FileReply). e.0) w.end-is ∙ w.end_reached.ensures ∙ ap (λ s. end_reached s c.args.at c.count_of-count.result) size ∙ ap (end_reached old.pages.cache.pager.page_size c.args.at) counted;
        answer = ap (λ (e : ℕ × FileReply). e.1) w.end-is ∙ ap reply.Written counted;
      })
      | in-Err w ↦ inr (record {
        stop = w.in-Err.page;
        before = w.in-Err.ensures.before;
        to = ap (λ (e : ℕ × FileReply). e.0) w.end-is;
        answer = ap (λ (e : ℕ × FileReply). e.1) w.end-is ∙ w.short.ensures ∙ ap (λ s. reply.Short (w.in-Err.page * s - c.args.at)) size;
      })
    ] in
    (writes hash old c.args.at c.args.piece.now c.write_pages.new.pages regions c.self.invariant within end ended
    (subst (λ n. Strips old.regions (c.args.at / n) end.0 regions) (c.from.ensures ∙ size) c.strip_pages.ensures)).kept

pub returns : goal.returns
returns g c =
    let hash = g.D.Digester.hash in
    let old = object_of c.self.inside.pages c.self.inside.regions c.self.inside.blobs c.self.inside.length c.self.inside.layout in
    let bytes = data_bytes c.args.piece.now in
    let counted : c.count_of-count.result ≡ length bytes = c.count_of-count.ensures in
    let within : nat_lt old.length (c.args.at + length bytes) ≡ false = ap (λ n. nat_lt old.length (c.args.at + n)) (sym counted) ∙ sym c.passes.ensures.value ∙ c.if-passes.false in
    let size : c.page_size-size.result ≡ old.pages.cache.pager.page_size = c.page_size-size.ensures.size in
    let end = c.match-write_pages.end in
    let regions = c.strip_pages.new.regions in
    let ended : AllDone hash old c.args.at c.args.piece.now c.write_pages.new.pages regions c.self.invariant within end ⊎ StoppedAt hash old c.args.at c.args.piece.now c.write_pages.new.pages regions c.self.invariant within end =
    elim c.match-write_pages.branch [
      | in-Ok w ↦ inl (record {
        all = w.in-Ok.ensures.all;
        to = ap (λ (e : ℕ × FileReply). e.0) w.end-is ∙ w.end_reached.ensures ∙ ap (λ s. end_reached s c.args.at c.count_of-count.result) size ∙ ap (end_reached old.pages.cache.pager.page_size c.args.at) counted;
        answer = ap (λ (e : ℕ × FileReply). e.1) w.end-is ∙ ap reply.Written counted;
      })
      | in-Err w ↦ inr (record {
        stop = w.in-Err.page;
        before = w.in-Err.ensures.before;
        to = ap (λ (e : ℕ × FileReply). e.0) w.end-is;
        answer = ap (λ (e : ℕ × FileReply). e.1) w.end-is ∙ w.short.ensures ∙ ap (λ s. reply.Short (w.in-Err.page * s - c.args.at)) size;
      })
    ] in
    let done = subst (λ (now : ObjectNow). Does hash now (event.Write c.args.at c.args.piece.now) None end.1 (with_parts old c.write_pages.new.pages regions)) c.self.view_is
    (writes hash old c.args.at c.args.piece.now c.write_pages.new.pages regions c.self.invariant within end ended
    (subst (λ n. Strips old.regions (c.args.at / n) end.0 regions) (c.from.ensures ∙ size) c.strip_pages.ensures)) in
    record { acts = done.acts; checked = done.checked; unhashed = done.unhashed; kept = done.kept }
