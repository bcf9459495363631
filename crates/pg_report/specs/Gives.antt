-- What the readers answer, beside what words say.
use Rattle.std.specs.Prelude.{◌≡◌, Option, Some, None, Result, Ok, Err}
use Rattle.pg_report.specs.declared.forms.Unread.{Unread}
use Rattle.pg_report.specs.declared.forms.Unread.TheVariants.{NoMemory, OtherForm}

-- the words say nothing, unless memory ran out
abbrev pub Refuses : {X : Type 0} → Unread → Option X → Type 0
Refuses NoMemory said = Unit {0}
Refuses OtherForm said = said ≡ None

-- what was answered is what the words say, unless memory ran out
abbrev pub Gives : {X : Type 0} → Result X Unread → Option X → Type 0
Gives (Ok x) said = said ≡ Some x
Gives (Err e) said = Refuses e said
