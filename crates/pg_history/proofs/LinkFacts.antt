-- The entries of a call rest on its earlier ones: that each names what it does follows from the events that calls make.
use Rattle.std.proofs.Common.{◌≡◌, ℕ, Bool, true, false, List, [], ◌∷◌, ◌++◌, length, Option, Some, None, refl, sym, ap, subst, ◌∙◌, arith}
use Rattle.std.specs.Prelude.{slice_get}
use Rattle.std.specs.List.{AllByRecursion}
use Rattle.std.specs.Option.{option_map, option_and_then}
use Rattle.std.proofs.lemmas.Grind.{common_steps}
use Rattle.pg_bytes.specs.declared.fields.Range.{Range}
use Rattle.pg_digest.specs.Kinds.{Hash}
use Rattle.cs_policy.specs.declared.access.Access.{Access}
use Rattle.cs_policy.specs.declared.access.Access.TheVariants.{Read, Write, Execute}
use Rattle.cs_policy.specs.declared.access.Prot.{Prot}
use Rattle.cs_policy.specs.declared.call.Call.{Call}
use Rattle.cs_policy.specs.declared.call.Call.TheVariants as call
use Rattle.cs_policy.specs.declared.file.FileEvent.TheVariants as file
use Rattle.cs_policy.specs.declared.file.FileReply.{FileReply}
use Rattle.cs_policy.specs.declared.process.ProcEvent.TheVariants as process
use Rattle.cs_policy.specs.declared.trust.TrustReply.{TrustReply}
use Rattle.cs_policy.specs.declared.entry.Event.TheVariants as event
use Rattle.cs_policy.specs.declared.entry.Place.TheVariants as place
use Rattle.cs_blob.specs.declared.refusal.BlobRefusal.{BlobRefusal}
use Rattle.cs_blob.specs.Rules.{broken}
use Rattle.cs_blob.specs.Signature.{Signature}
use Rattle.cs_blob.specs.Signed.{signature}
use Rattle.pg_history.specs.Machine.{Line}
use Rattle.pg_history.specs.Opening.{Numbers, pages_of, range_of}
use Rattle.pg_history.specs.Calls.{Asked, Found, admits, of_file, of_process, of_trust, inserted, removed, exited, judged, tried_by, tried, attached_if, attached_by, bytes_of, found_by, faulted, files_in, next_event}
use Rattle.pg_history.specs.Links.{IsNamed, NamesReading, LinksRegion, LinksResolved, LinksFound, IsLinkedAt}
use Rattle.pg_history.proofs.FewFacts.{judged_is}
use Rattle.pg_history.proofs.ReplyFacts.{inserted_is, found_is, read_is, answer_is}

asked_is : (P : Asked → Type 0) (a b : Asked) → Some a ≡ Some b → P a → P b
asked_is P a b e p = subst P (inside e) p
  where
    inside : Some a ≡ Some b → a ≡ b
    inside g = grind (arith, common_steps, g)

first_is : (a b : Asked) → Some a ≡ Some b → a.0 ≡ b.0
first_is a b e = grind (arith, common_steps, e)

second_is : (a b : Asked) → Some a ≡ Some b → a.1 ≡ b.1
second_is a b e = grind (arith, common_steps, e)

-- the entry is of this event, at this place
abbrev Asks : Asked → Line → Type 0
Asks asked x = ◌≡◌ {A = Option Asked} (Some asked) (Some (x.entry.place, x.entry.event))

-- the entries are the events that the call makes after those before them
abbrev pub MadeFrom : Hash → Numbers → Call → List Line → List Line → Type 0
MadeFrom hash numbers c before [] = Unit {0}
MadeFrom hash numbers c before (x ∷ xs) =
    ◌≡◌ {A = Option Asked} (next_event hash numbers c before) (Some (x.entry.place, x.entry.event)) × MadeFrom hash numbers c (before ++ x ∷ []) xs

-- an entry of a file is answered by the file
abbrev pub OfItsKind : Line → Type 0
OfItsKind x = (number : ℕ) → x.entry.place ≡ place.File number → of_trust x.entry.reply ≡ None

module _ (hash : Hash) (numbers : Numbers) (history : List Line) (e : Line) where
  abbrev Linked : Asked → Type 0
  Linked asked = IsLinkedAt hash numbers history e asked.0 asked.1

  lifted : {X : Type 0} (f : X → Asked) (found : Option X) (asked : Asked) → ((x : X) → found ≡ Some x → Linked (f x)) → option_map f found ≡ Some asked → Linked asked
  lifted f None asked link is = absurd (grind (arith, common_steps, is))
  lifted f (Some x) asked link is = asked_is Linked (f x) asked is (link x refl)

  chained : {X : Type 0} (f : X → Option Asked) (found : Option X) (asked : Asked) → ((x : X) → found ≡ Some x → f x ≡ Some asked → Linked asked) → option_and_then f found ≡ Some asked → Linked asked
  chained f None asked link is = absurd (grind (arith, common_steps, is))
  chained f (Some x) asked link is = link x refl is

  -- ---- an entry that was made before it by this call

  module _ (x : Line) (named : IsNamed history e x.stamp x) where
    map_links : (pid addr number first pages : ℕ) (prot : Prot) (shared : Bool) (id : ℕ)
        → Asks (place.Process pid, event.Proc (process.Insert addr number (pages_of numbers number) first pages prot shared)) x
        → option_and_then inserted (of_process x.entry.reply) ≡ Some id
        → LinksRegion history e number (record { id = id; pid = pid; first = first; pages = pages; prot = prot; shared = shared }) x.stamp
    map_links pid addr number first pages prot shared id began gave =
        let asked : Asked = (place.Process pid, event.Proc (process.Insert addr number (pages_of numbers number) first pages prot shared)) in
        record {
          insert = x;
          at = addr;
          file_pages = pages_of numbers number;
          named = named;
          place = sym (first_is asked (x.entry.place, x.entry.event) began);
          event = sym (second_is asked (x.entry.place, x.entry.event) began);
          reply = inserted_is x.entry.reply id gave;
        }

    resolve_links : (pid addr : ℕ) (access : Access) (found : Found) → Asks (place.Process pid, event.Proc (process.Resolve addr access)) x
        → found_by x ≡ Some found → LinksResolved history e found.number found.id found.page found.flags x.stamp
    resolve_links pid addr access found began gave =
        let asked : Asked = (place.Process pid, event.Proc (process.Resolve addr access)) in
        record {
          resolve = x;
          pid = pid;
          addr = addr;
          access = access;
          named = named;
          place = sym (first_is asked (x.entry.place, x.entry.event) began);
          event = sym (second_is asked (x.entry.place, x.entry.event) began);
          reply = found_is x.entry.reply found gave;
        }

    found_links : (pid addr : ℕ) (access : Access) (found : Found) → Asks (place.Process pid, event.Proc (process.Resolve addr access)) x
        → found_by x ≡ Some found → LinksFound history e found.number found.id found.page x.stamp
    found_links pid addr access found began gave = record { flags = found.flags; resolved = resolve_links pid addr access found began gave }

    reading_links : (number slice : ℕ) (bytes : List ℕ) → Asks (place.File number, event.File (file.ReadSignature slice)) x
        → bytes_of x ≡ Some bytes → NamesReading history e x.stamp number slice bytes
    reading_links number slice bytes began gave =
        let asked : Asked = (place.File number, event.File (file.ReadSignature slice)) in
        record {
          reading = x;
          named = named;
          place = sym (first_is asked (x.entry.place, x.entry.event) began);
          event = sym (second_is asked (x.entry.place, x.entry.event) began);
          reply = read_is x.entry.reply bytes gave;
        }

    -- bytes that were tried
    tried_links : (number slice : ℕ) (bytes : List ℕ) (range : Range) → NamesReading history e x.stamp number slice bytes → range_of numbers number slice ≡ Some range
        → Linked (tried hash numbers.page_size number x.stamp bytes range)
    tried_links number slice bytes range reading there = by_rule (broken hash bytes range (Some numbers.page_size)) refl
      where
        by_rule : (rule : Option BlobRefusal) → broken hash bytes range (Some numbers.page_size) ≡ rule
            → Linked (tried_by rule number x.stamp (signature hash bytes range (Some numbers.page_size)))
        by_rule (Some rule) is = record { slice = slice; bytes = bytes; range = range; rule = rule; is_read = reading; signed = there; is_broken = is; same = refl }
        by_rule None is = tt

    -- what follows a Lookup, by the event that was tried before it
    attached_links : (y : Line) → IsNamed history e y.stamp y → ((number : ℕ) → y.entry.place ≡ place.File number → of_trust y.entry.reply ≡ None) → (number slice : ℕ) (bytes : List ℕ) (range : Range)
        → NamesReading history e x.stamp number slice bytes → range_of numbers number slice ≡ Some range → ◌≡◌ {A = Asked} (tried hash numbers.page_size number x.stamp bytes range) (y.entry.place, y.entry.event)
        → (answer : TrustReply) → of_trust y.entry.reply ≡ Some answer → (asked : Asked)
        → attached_if (admits numbers.adhoc (signature hash bytes range (Some numbers.page_size)) answer) number slice x.stamp y.stamp (signature hash bytes range (Some numbers.page_size)) ≡ Some asked
        → Linked asked
    attached_links y y_named kinds number slice bytes range reading there was answer gave asked is =
        by_both (broken hash bytes range (Some numbers.page_size)) (admits numbers.adhoc (signature hash bytes range (Some numbers.page_size)) answer) refl refl was is
      where
        signed : Signature
        signed = signature hash bytes range (Some numbers.page_size)

        by_both : (rule : Option BlobRefusal) (admitted : Bool) → broken hash bytes range (Some numbers.page_size) ≡ rule
            → admits numbers.adhoc (signature hash bytes range (Some numbers.page_size)) answer ≡ admitted
            → ◌≡◌ {A = Asked} (tried_by rule number x.stamp (signature hash bytes range (Some numbers.page_size))) (y.entry.place, y.entry.event)
            → attached_if admitted number slice x.stamp y.stamp (signature hash bytes range (Some numbers.page_size)) ≡ Some asked → Linked asked
        by_both (Some rule) admitted f g before h =
            let none : of_trust y.entry.reply ≡ None = kinds number (sym (ap (λ (a : Asked). a.0) before)) in
            absurd (grind (arith, common_steps, none, gave))
        by_both None false f g before h = absurd (grind (arith, common_steps, h))
        by_both None true f g before h = asked_is Linked (place.File number, event.File (file.AddBlob slice (signature hash bytes range (Some numbers.page_size)).cdhash x.stamp y.stamp)) asked h (record {
          bytes = bytes;
          range = range;
          answer = answer;
          is_read = reading;
          signed = there;
          unbroken = f;
          same = refl;
          looked_up = record {
            lookup = y;
            named = y_named;
            place = sym (ap (λ (a : Asked). a.0) before);
            event = sym (ap (λ (a : Asked). a.1) before);
            reply = answer_is y.entry.reply answer gave;
          };
          admitted = g;
        })

  -- ---- what a call makes next rests on what it has made

  abbrev pub Named : Line → Type 0
  Named x = IsNamed history e x.stamp x

  looked_links : (number slice : ℕ) (x y : Line) → Named x → Named y → OfItsKind y → Asks (place.File number, event.File (file.ReadSignature slice)) x
      → ◌≡◌ {A = Option Asked} (next_event hash numbers (call.Attach number slice) (x ∷ [])) (Some (y.entry.place, y.entry.event))
      → (bytes : Option (List ℕ)) (range : Option Range) (answer : Option TrustReply) → bytes_of x ≡ bytes → range_of numbers number slice ≡ range → of_trust y.entry.reply ≡ answer
      → (asked : Asked) → attached_by hash numbers number slice x.stamp y.stamp bytes range answer ≡ Some asked → Linked asked
  looked_links number slice x y x_named y_named kind began tried_was (Some bytes) (Some range) (Some answer) f g h asked is =
      attached_links x x_named y y_named kind number slice bytes range (reading_links x x_named number slice bytes began f) g
      (inside (tried hash numbers.page_size number x.stamp bytes range) (y.entry.place, y.entry.event)
      (sym (ap (λ (b : Option (List ℕ)). option_and_then (λ bs. option_map (tried hash numbers.page_size number x.stamp bs) (range_of numbers number slice)) b) f
      ∙ ap (λ (r : Option Range). option_map (tried hash numbers.page_size number x.stamp bytes) r) g) ∙ tried_was))
      answer h asked is
    where
      inside : (a b : Asked) → Some a ≡ Some b → a ≡ b
      inside a b q = grind (arith, common_steps, q)
  looked_links number slice x y x_named y_named kind began tried_was (Some bytes) (Some range) None f g h asked is = absurd (grind (arith, common_steps, is))
  looked_links number slice x y x_named y_named kind began tried_was (Some bytes) None answer f g h asked is = absurd (grind (arith, common_steps, is))
  looked_links number slice x y x_named y_named kind began tried_was None range answer f g h asked is = absurd (grind (arith, common_steps, is))

  judged_links : (pid : ℕ) (answer : Option FileReply) (asked : Asked) → option_map (λ v. (place.Process pid, event.Proc v)) (option_and_then judged answer) ≡ Some asked → Linked asked
  judged_links pid None asked is = absurd (grind (arith, common_steps, is))
  judged_links pid (Some r) asked is =
      lifted (λ v. (place.Process pid, event.Proc v)) (judged r) asked (λ v f. judged_is (λ w. Linked (place.Process pid, event.Proc w)) tt tt r v f) is

  pub next_links : (c : Call) (made : List Line) → AllByRecursion Named made → AllByRecursion OfItsKind made → MadeFrom hash numbers c [] made → (asked : Asked) → next_event hash numbers c made ≡ Some asked → Linked asked
  next_links (call.Spawn pid) [] named kinds was asked is = asked_is Linked _ asked is tt
  next_links (call.Spawn pid) (x ∷ xs) named kinds was asked is = absurd (grind (arith, common_steps, is))
  next_links (call.Map pid addr number first pages prot shared) [] named kinds was asked is = asked_is Linked _ asked is refl
  next_links (call.Map pid addr number first pages prot shared) (x ∷ []) named kinds was asked is =
      lifted _ (option_and_then inserted (of_process x.entry.reply)) asked (λ id gave. map_links x named.0 pid addr number first pages prot shared id was.0 gave) is
  next_links (call.Map pid addr number first pages prot shared) (x ∷ y ∷ ys) named kinds was asked is = absurd (grind (arith, common_steps, is))
  next_links (call.Unmap pid addr) [] named kinds was asked is = asked_is Linked _ asked is tt
  next_links (call.Unmap pid addr) (x ∷ []) named kinds was asked is = lifted _ (option_and_then removed (of_process x.entry.reply)) asked (λ gone gave. tt) is
  next_links (call.Unmap pid addr) (x ∷ y ∷ ys) named kinds was asked is = absurd (grind (arith, common_steps, is))
  next_links (call.Attach number slice) [] named kinds was asked is = asked_is Linked _ asked is tt
  next_links (call.Attach number slice) (x ∷ []) named kinds was asked is =
      chained (λ bytes. option_map (tried hash numbers.page_size number x.stamp bytes) (range_of numbers number slice)) (bytes_of x) asked
      (λ bytes gave then_is. lifted (tried hash numbers.page_size number x.stamp bytes) (range_of numbers number slice) asked
      (λ range there. tried_links x named.0 number slice bytes range (reading_links x named.0 number slice bytes was.0 gave) there) then_is)
      is
  next_links (call.Attach number slice) (x ∷ y ∷ []) named kinds was asked is =
      looked_links number slice x y named.0 named.1.0 kinds.1.0 was.0 was.1.0 (bytes_of x) (range_of numbers number slice) (of_trust y.entry.reply) refl refl refl asked is
  next_links (call.Attach number slice) (x ∷ y ∷ z ∷ zs) named kinds was asked is = absurd (grind (arith, common_steps, is))
  next_links (call.LoadTrust cache) [] named kinds was asked is = asked_is Linked _ asked is tt
  next_links (call.LoadTrust cache) (x ∷ xs) named kinds was asked is = absurd (grind (arith, common_steps, is))
  next_links (call.Fault pid addr access) [] named kinds was asked is = asked_is Linked _ asked is tt
  next_links (call.Fault pid addr access) (x ∷ []) named kinds was asked is =
      lifted (faulted access x.stamp) (found_by x) asked (λ found gave. resolve_links x named.0 pid addr access found was.0 gave) is
  next_links (call.Fault pid addr access) (x ∷ y ∷ []) named kinds was asked is = judged_links pid (of_file y.entry.reply) asked is
  next_links (call.Fault pid addr access) (x ∷ y ∷ z ∷ zs) named kinds was asked is = absurd (grind (arith, common_steps, is))
  next_links (call.Store pid addr bytes) [] named kinds was asked is = asked_is Linked _ asked is tt
  next_links (call.Store pid addr bytes) (x ∷ []) named kinds was asked is =
      lifted _ (found_by x) asked (λ found gave. found_links x named.0 pid addr Write found was.0 gave) is
  next_links (call.Store pid addr bytes) (x ∷ y ∷ ys) named kinds was asked is = absurd (grind (arith, common_steps, is))
  next_links (call.Load pid addr count) [] named kinds was asked is = asked_is Linked _ asked is tt
  next_links (call.Load pid addr count) (x ∷ []) named kinds was asked is =
      lifted _ (found_by x) asked (λ found gave. found_links x named.0 pid addr Read found was.0 gave) is
  next_links (call.Load pid addr count) (x ∷ y ∷ ys) named kinds was asked is = absurd (grind (arith, common_steps, is))
  next_links (call.Fetch pid addr count) [] named kinds was asked is = asked_is Linked _ asked is tt
  next_links (call.Fetch pid addr count) (x ∷ []) named kinds was asked is =
      lifted _ (found_by x) asked (λ found gave. found_links x named.0 pid addr Execute found was.0 gave) is
  next_links (call.Fetch pid addr count) (x ∷ y ∷ ys) named kinds was asked is = absurd (grind (arith, common_steps, is))
  next_links (call.Write number at piece) [] named kinds was asked is = asked_is Linked _ asked is tt
  next_links (call.Write number at piece) (x ∷ xs) named kinds was asked is = absurd (grind (arith, common_steps, is))
  next_links (call.Evict number page) [] named kinds was asked is = asked_is Linked _ asked is tt
  next_links (call.Evict number page) (x ∷ xs) named kinds was asked is = absurd (grind (arith, common_steps, is))
  next_links (call.Debug pid) [] named kinds was asked is = asked_is Linked _ asked is tt
  next_links (call.Debug pid) (x ∷ xs) named kinds was asked is = absurd (grind (arith, common_steps, is))
  next_links (call.Exit pid) [] named kinds was asked is = asked_is Linked _ asked is tt
  next_links (call.Exit pid) (x ∷ xs) named kinds was asked is =
      chained (λ files. option_map (λ number. (place.File number, event.File (file.DropPid pid))) (slice_get (files_in files) (length xs))) (option_and_then exited (of_process x.entry.reply)) asked
      (λ files gave then_is. lifted (λ number. (place.File number, event.File (file.DropPid pid))) (slice_get (files_in files) (length xs)) asked (λ number there. tt) then_is) is
