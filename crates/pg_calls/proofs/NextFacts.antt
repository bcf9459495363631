-- The next event of a call by what the reply before it tells.
use Rattle.std.proofs.Common.{◌≡◌, Option, Some, None, sym, ap, ◌∙◌}
use Rattle.std.specs.Option.{option_map, option_and_then}
use Rattle.cs_policy.specs.declared.entry.Reply.{Reply}
use Rattle.pg_history.specs.Calls.{Asked, Found, of_process, found}
use Rattle.pg_calls.specs.declared.replies.Mapped.{Mapped}
use Rattle.pg_calls.specs.Found.{as_found}

-- by what was found, where the reply tells something
pub next-some : {A : Type 0} (make : A → Asked) (told : Option A) (result : Option A) (x : A) → result ≡ told → result ≡ Some x
    → ◌≡◌ {A = Option Asked} (option_map make told) (Some (make x))
next-some make told result x e is = ap (λ o. option_map make o) (sym e ∙ is)

pub next-none : {A : Type 0} (make : A → Asked) (told : Option A) (result : Option A) → result ≡ told → result ≡ None
    → ◌≡◌ {A = Option Asked} (option_map make told) None
next-none make told result e is = ap (λ o. option_map make o) (sym e ∙ is)

pub next-mapped : (make : Found → Asked) (answer : Reply) (result : Option Mapped) (x : Mapped)
    → option_map as_found result ≡ option_and_then found (of_process answer) → result ≡ Some x
    → ◌≡◌ {A = Option Asked} (option_map make (option_and_then found (of_process answer))) (Some (make (as_found x)))
next-mapped make answer result x e is = ap (λ o. option_map make o) (sym e ∙ ap (λ o. option_map as_found o) is)

pub next-unmapped : (make : Found → Asked) (answer : Reply) (result : Option Mapped)
    → option_map as_found result ≡ option_and_then found (of_process answer) → result ≡ None
    → ◌≡◌ {A = Option Asked} (option_map make (option_and_then found (of_process answer))) None
next-unmapped make answer result e is = ap (λ o. option_map make o) (sym e ∙ ap (λ o. option_map as_found o) is)
