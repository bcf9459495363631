use Rattle.std.proofs.Common.{◌∙◌, false, ap}
use Rattle.std.specs.Prelude.{slice_set}
use Rattle.pg_frames.specs.Arena.{Arena, frame_bytes}
use Rattle.pg_cache.specs.Held.{clean}
use Rattle.pg_cache.specs.Store.{Stored, stored_of}
use Rattle.pg_cache.proofs.StoreFacts.{read_seen}
use Rattle.pg_cache.proofs.store.Store.read_spare.Goals as goal

pub returns-clause-spare : goal.returns-clause-spare
returns-clause-spare g c =
    let i = c.self.inside in
    let bytes = frame_bytes c.read_in.new.arena i.spare in
    ap (λ (a : Arena). stored_of (record { arena = a; cards = slice_set i.cards.items i.spare (record { page = c.args.page; dirty = false }); table = i.table.items; spare = i.spare; used = i.used; limit = i.limit })) c.read_in.ensures.frame
    ∙ read_seen _ c.self.invariant (record { page = c.args.page; dirty = false }) bytes
    ∙ ap (λ (s : Stored). record s { spare = clean c.args.page bytes }) c.self.view_is
