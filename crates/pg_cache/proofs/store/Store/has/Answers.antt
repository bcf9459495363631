use Rattle.std.proofs.Common.{◌≡◌, Option, Some, None, refl, ap, sym, ◌∙◌, subst, ℕ}
use Rattle.std.specs.Prelude.{is_some}
use Rattle.std.specs.Option.{option_map}
use Rattle.pg_cache.specs.Held.{Held, find_held}
use Rattle.pg_cache.specs.Store.{Stored}
use Rattle.pg_cache.proofs.StoreFacts.{found_by}
use Rattle.pg_cache.proofs.store.Store.has.Goals as goal

is_some_map : (seen : ℕ → Held) (o : Option ℕ) → is_some o ≡ is_some (option_map seen o)
is_some_map seen None = refl
is_some_map seen (Some frame) = refl

pub returns : goal.returns
returns c = subst (λ (s : Stored). c.is_some.result ≡ is_some (find_held s.held c.args.page)) c.self.view_is
    (c.is_some.ensures ∙ is_some_map _ c.frame_at.result ∙ ap is_some (sym (found_by _ c.self.invariant _ c.args.page c.frame_at.result c.frame_at.ensures c.deref.ensures.value)))
