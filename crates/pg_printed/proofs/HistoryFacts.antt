-- Legal histories whose lines are told alike are equal.
use Rattle.std.proofs.Common.{◌≡◌, ℕ, suc, List, [], ◌∷◌, length, map, Option, Some, None, refl, ap, sym, subst, ◌∙◌, arith}
use Rattle.std.specs.Prelude.{slice_get}
use Rattle.std.specs.List.{AllByRecursion}
use Rattle.std.specs.Option.{option_map}
use Rattle.std.proofs.lemmas.Grind.{common_steps}
use Rattle.pg_digest.specs.Kinds.{Hash}
use Rattle.cs_policy.specs.declared.call.Call.{Call}
use Rattle.cs_policy.specs.declared.process.ProcEvent.{ProcEvent}
use Rattle.cs_policy.specs.declared.process.ProcEvent.TheVariants as proc
use Rattle.cs_policy.specs.declared.entry.Event.{Event}
use Rattle.cs_policy.specs.declared.entry.Event.TheVariants as event
use Rattle.cs_policy.specs.declared.entry.Reply.{Reply}
use Rattle.cs_policy.specs.declared.entry.Who.{Who}
use Rattle.cs_policy.specs.declared.entry.Place.{Place}
use Rattle.cs_policy.specs.declared.entry.Place.TheVariants as place
use Rattle.cs_policy.specs.Entry.{part_number}
use Rattle.pg_report.specs.declared.line.Line as told_line
use Rattle.pg_report.specs.Journal.{journal}
use Rattle.pg_history.specs.Machine.{Line, Machine, step, reply_to, after, Answered}
use Rattle.pg_history.specs.Opening.{Opening, Numbers, pages_of, numbers_of}
use Rattle.pg_history.specs.Links.{IsLinkedAt, IsLinked}
use Rattle.pg_history.specs.Legal.{AgreesIn, Legal}
use Rattle.pg_printed.specs.Printed.{proc_event_told, event_told, line_told, IsHeld}
use Rattle.pg_printed.proofs.TextFacts.{same_lines}

-- ---- an event is found again in what is told of it

-- a file that is mapped has the pages of the opening
abbrev HasPages : Numbers → Event → Type 0
HasPages numbers (event.Proc (proc.Insert at file file_pages first pages prot shared)) = file_pages ≡ pages_of numbers file
HasPages numbers _ = Unit {0}

abbrev proc_again : Numbers → ProcEvent → ProcEvent
proc_again numbers (proc.Insert at file file_pages first pages prot shared) = proc.Insert at file (pages_of numbers file) first pages prot shared
proc_again numbers other = other

abbrev again : Numbers → Event → Event
again numbers (event.Proc e) = event.Proc (proc_again numbers e)
again numbers other = other

proc_is : (numbers : Numbers) (e : ProcEvent) → HasPages numbers (event.Proc e) → proc_again numbers (proc_event_told e) ≡ e
proc_is numbers (proc.Insert at file file_pages first pages prot shared) has = ap (λ (n : ℕ). proc.Insert at file n first pages prot shared) (sym has)
proc_is numbers proc.Start has = refl
proc_is numbers (proc.Resolve addr access) has = refl
proc_is numbers (proc.Remove at) has = refl
proc_is numbers proc.Debug has = refl
proc_is numbers proc.Punish has = refl
proc_is numbers proc.ClearValid has = refl
proc_is numbers proc.Exit has = refl

event_is : (numbers : Numbers) (e : Event) → HasPages numbers e → again numbers (event_told e) ≡ e
event_is numbers (event.File e) has = refl
event_is numbers (event.Proc e) has = ap (λ (x : ProcEvent). event.Proc x) (proc_is numbers e has)
event_is numbers (event.Trust e) has = refl

-- an event of a process, at the place of a process
proc_pages : (hash : Hash) (numbers : Numbers) (history : List Line) (e : Line) (pid : ℕ) (x : ProcEvent) → IsLinkedAt hash numbers history e (place.Process pid) (event.Proc x) → HasPages numbers (event.Proc x)
proc_pages hash numbers history e pid (proc.Insert at file file_pages first pages prot shared) linked = linked
proc_pages hash numbers history e pid proc.Start linked = tt
proc_pages hash numbers history e pid (proc.Resolve addr access) linked = tt
proc_pages hash numbers history e pid (proc.Remove at) linked = tt
proc_pages hash numbers history e pid proc.Debug linked = tt
proc_pages hash numbers history e pid proc.Punish linked = tt
proc_pages hash numbers history e pid proc.ClearValid linked = tt
proc_pages hash numbers history e pid proc.Exit linked = tt

no_reply : (r : Reply) → ◌≡◌ {A = Option Reply} None (Some r) → ⊥
no_reply r e = absurd (grind (arith, common_steps, e))

has_pages : (hash : Hash) (numbers : Numbers) (history : List Line) (e : Line) (m : Machine) (r : Reply) (p : Place) (x : Event)
    → option_map (λ (a : Reply × Machine). a.0) (step hash m e.stamp p x) ≡ Some r → IsLinkedAt hash numbers history e p x → HasPages numbers x
has_pages hash numbers history e m r (place.Process pid) (event.Proc x) answered linked = proc_pages hash numbers history e pid x linked
has_pages hash numbers history e m r (place.File f) (event.Proc x) answered linked = absurd (no_reply r answered)
has_pages hash numbers history e m r place.Trust (event.Proc x) answered linked = absurd (no_reply r answered)
has_pages hash numbers history e m r p (event.File x) answered linked = tt
has_pages hash numbers history e m r p (event.Trust x) answered linked = tt

-- ---- lists of entries

-- what stands with an entry is fixed by the opening, and each file that is mapped has its pages
pub record IsFixed (numbers : Numbers) (e : Line) : Type 0 where
  agrees : AgreesIn numbers e
  pages : HasPages numbers e.entry.event

-- the entry of these parts
abbrev made_of : Numbers → ℕ → Who → Place → Event → Reply → Line
made_of numbers stamp who p x r = record {
  stamp = stamp;
  part = part_number (length numbers.files) numbers.processes p;
  caller = who.worker;
  entry = record { who = who; place = p; event = x; reply = r };
}

-- an entry is that of its parts
is_made : (numbers : Numbers) (e : Line) → IsFixed numbers e → made_of numbers e.stamp e.entry.who e.entry.place (again numbers (line_told e).entry.event) e.entry.reply ≡ e
is_made numbers e fixed =
    ap (λ (x : Event). made_of numbers e.stamp e.entry.who e.entry.place x e.entry.reply) (event_is numbers e.entry.event fixed.pages)
    ∙ ap (λ (n : ℕ). whole n (e.entry.who.worker)) (sym fixed.agrees.part)
    ∙ ap (λ (n : ℕ). whole e.part n) (sym fixed.agrees.caller)
  where
    whole : ℕ → ℕ → Line
    whole part caller = record { stamp = e.stamp; part = part; caller = caller; entry = e.entry }

module _ (hash : Hash) (numbers : Numbers) where
  -- entries that are told alike and answered by one machine are equal
  same_entry : (m : Machine) (e f : Line) → IsFixed numbers e → IsFixed numbers f → reply_to hash m e ≡ Some e.entry.reply → reply_to hash m f ≡ Some f.entry.reply
      → line_told e ≡ line_told f → e ≡ f
  same_entry m e f a b answered replied told =
      let event : e.entry.event ≡ f.entry.event
      = sym (event_is numbers e.entry.event a.pages) ∙ ap (λ (l : told_line.Line). again numbers l.entry.event) told ∙ event_is numbers f.entry.event b.pages in
      let stamp : e.stamp ≡ f.stamp = ap (λ (l : told_line.Line). l.stamp) told in
      let here : e.entry.place ≡ f.entry.place = ap (λ (l : told_line.Line). l.entry.place) told in
      let asked : reply_to hash m e ≡ reply_to hash m f
      = ap (λ (n : ℕ). option_map (λ (x : Reply × Machine). x.0) (step hash m n e.entry.place e.entry.event)) stamp
      ∙ ap (λ (p : Place). option_map (λ (x : Reply × Machine). x.0) (step hash m f.stamp p e.entry.event)) here
      ∙ ap (λ (x : Event). option_map (λ (x : Reply × Machine). x.0) (step hash m f.stamp f.entry.place x)) event in
      let reply : e.entry.reply ≡ f.entry.reply = inside (sym answered ∙ asked ∙ replied) in
      sym (is_made numbers e a)
      ∙ ap (λ (l : told_line.Line). made_of numbers l.stamp l.entry.who l.entry.place (again numbers l.entry.event) e.entry.reply) told
      ∙ ap (λ (r : Reply). made_of numbers f.stamp f.entry.who f.entry.place (again numbers (line_told f).entry.event) r) reply
      ∙ is_made numbers f b
    where
      inside : {r s : Reply} → Some r ≡ Some s → r ≡ s
      inside same = grind (arith, common_steps, same)

  same_entries : (m : Machine) (es fs : List Line) → AllByRecursion (IsFixed numbers) es → AllByRecursion (IsFixed numbers) fs → Answered hash m es → Answered hash m fs
      → map line_told es ≡ map line_told fs → es ≡ fs
  same_entries m [] [] a b x y told = refl
  same_entries m [] (f ∷ fs) a b x y told = absurd (grind (arith, common_steps, told))
  same_entries m (e ∷ es) [] a b x y told = absurd (grind (arith, common_steps, told))
  same_entries m (e ∷ es) (f ∷ fs) a b x y told =
      let parts = both told in
      let first : e ≡ f = same_entry m e f a.0 b.0 x.0 y.0 parts.0 in
      ap (λ (l : Line). l ∷ es) first
      ∙ ap (λ (l : List Line). f ∷ l) (same_entries (after hash m f) es fs a.1 b.1 (subst (λ (l : Line). Answered hash (after hash m l) es) first x.1) y.1 parts.1)
    where
      both : {g h : told_line.Line} {gs hs : List told_line.Line} → (g ∷ gs) ≡ (h ∷ hs) → (g ≡ h) × (gs ≡ hs)
      both same = (grind (arith, common_steps, same), grind (arith, common_steps, same))

-- ---- histories

module _ (hash : Hash) (o : Opening) (scripts : List (List Call)) (history : List Line) (legal : Legal hash o scripts history) where
  fixed_all : (m : Machine) (es : List Line) → Answered hash m es → ((i : ℕ) (e : Line) → slice_get es i ≡ Some e → AgreesIn (numbers_of o) e × IsLinked hash (numbers_of o) history e)
      → AllByRecursion (IsFixed (numbers_of o)) es
  fixed_all m [] answered are = tt
  fixed_all m (e ∷ es) answered are =
      let is = are 0 e refl in (
        record { agrees = is.0; pages = has_pages hash (numbers_of o) history e m e.entry.reply e.entry.place e.entry.event answered.0 is.1 },
        fixed_all (after hash m e) es answered.1 (λ i f there. are (suc i) f there),
      )

  pub is_fixed : AllByRecursion (IsFixed (numbers_of o)) history
  is_fixed = fixed_all o.machine history legal.linked.replies (λ i e there. (legal.linked.agrees i e there, legal.linked.links i e there))

pub one_history : (hash : Hash) (o : Opening) (scripts others : List (List Call)) (one other : List Line) (calls more : ℕ)
    → Legal hash o scripts one → Legal hash o others other → IsHeld one calls → IsHeld other more
    → journal one calls ≡ journal other more → (one ≡ other) × (calls ≡ more)
one_history hash o scripts others one other calls more a b held kept same =
    let told = same_lines one other calls more held kept same in
    (same_entries hash (numbers_of o) o.machine one other (is_fixed hash o scripts one a) (is_fixed hash o others other b) a.linked.replies b.linked.replies told.0, told.1)
