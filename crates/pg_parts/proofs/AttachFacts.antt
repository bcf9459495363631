-- What an event attaches: a plain one nothing, and another the signature of the bytes that it names.
use Rattle.std.proofs.Common.{◌≡◌, ℕ, false, List, [], Option, Some, None, refl, sym, ap, subst, ◌∙◌}
use Rattle.std.specs.Prelude.{◌==◌, IfSome}
use Rattle.std.specs.Option.{option_map}
use Rattle.std.specs.List.{AllByRecursion}
use Rattle.pg_digest.specs.Kinds.{Hash}
use Rattle.pg_io.specs.Pager.{ToldPages}
use Rattle.cs_policy.specs.declared.file.FileEvent.{FileEvent}
use Rattle.cs_policy.specs.declared.file.FileEvent.TheVariants as file
use Rattle.cs_policy.specs.declared.file.FileReply.TheVariants as file_reply
use Rattle.cs_policy.specs.declared.entry.Event.TheVariants as event
use Rattle.cs_policy.specs.declared.entry.Reply.TheVariants as reply
use Rattle.cs_blob.specs.Signature.{Signature}
use Rattle.cs_blob.specs.Signed.{signature, IsSignature}
use Rattle.pg_cache.specs.Contents.{overlaid}
use Rattle.pg_object.specs.Object.{ObjectNow, seen}
use Rattle.pg_history.specs.Machine.{Line, Reading, FilePart, signed_range, blob_of}
use Rattle.pg_history.specs.Opening.{seat_in}
use Rattle.pg_history.specs.ByParts.{FileAnswers}
use Rattle.pg_sealing.proofs.BlobFacts.{blob_is}
use Rattle.pg_parts.specs.Opened.{told_part}
use Rattle.pg_parts.specs.Asking.{MayAskPlain}
use Rattle.pg_parts.specs.Replays.{file_after}
use Rattle.pg_parts.proofs.ReadingFacts.{IsIn, reading-found}

pub attaches-none : (hash : Hash) (object : ObjectNow) (part : FilePart) (e : FileEvent) → MayAskPlain object e → ◌≡◌ {A = Option Signature} None (blob_of hash part e)
attaches-none hash object part (file.AddBlob slice cdhash read lookup) may = absurd may
attaches-none hash object part (file.ReadSignature slice) may = refl
attaches-none hash object part (file.RefuseBlob read refusal) may = refl
attaches-none hash object part (file.Write at piece) may = refl
attaches-none hash object part (file.AddRegion region insert) may = refl
attaches-none hash object part (file.DropRegion id) may = refl
attaches-none hash object part (file.DropPid pid) may = refl
attaches-none hash object part (file.Enter id page access flags resolve) may = refl
attaches-none hash object part (file.Store id page at bytes resolve) may = refl
attaches-none hash object part (file.Load id page at count resolve) may = refl
attaches-none hash object part (file.Fetch id page at count resolve) may = refl
attaches-none hash object part (file.Evict page) may = refl

-- ---- what is told of an object

abbrev part_told : ObjectNow → List Reading → ToldPages → FilePart
part_told now readings told = record {
  file = seen now (overlaid now.pages.cache.held 0 told.holds);
  made = told.made;
  fails = told.fails;
  readings = readings;
}

-- its layout, its page size and the readings
pub record IsToldOf (now : ObjectNow) (readings : List Reading) (part : FilePart) : Type 0 where
  pub layout : part.file.layout ≡ now.layout
  pub page_size : part.file.page_size ≡ now.pages.cache.pager.page_size
  pub readings_are : part.readings ≡ readings

pub told-of : (now : ObjectNow) (readings : List Reading) (part : FilePart) → told_part now readings ≡ Some part → IsToldOf now readings part
told-of now readings part is = subst (λ o. IfSome o (IsToldOf now readings)) is (by_told now.pages.cache.pager.told)
  where
    by_told : (o : Option ToldPages) → IfSome (option_map (part_told now readings) o) (IsToldOf now readings)
    by_told None = tt
    by_told (Some told) = record { layout = refl; page_size = refl; readings_are = refl }

-- ---- the signature that an attach names

module _ (hash : Hash) (old now : ObjectNow) (es : List Line) (part : FilePart) (told : told_part old [] ≡ Some part) (answers : FileAnswers hash part es)
    (is_now : told_part now (file_after hash part es).readings ≡ Some (file_after hash part es)) where
  -- an entry read the bytes of the slice, and is the only one with its stamp
  pub attaches : (x : Line) (slice : ℕ) (blob : Signature) (lookup : ℕ) → x.entry.event ≡ event.File (file.ReadSignature slice) → x.entry.reply ≡ reply.File (file_reply.Read blob.bytes)
      → AllByRecursion (λ e. e.stamp ≡ x.stamp → e ≡ x) es → IsIn x es
      → signed_range (seat_in slice now.layout) ≡ Some blob.slice
      → IsSignature hash blob.bytes blob.slice (Some now.pages.cache.pager.page_size) blob
      → Some blob ≡ blob_of hash (file_after hash part es) (file.AddBlob slice blob.cdhash x.stamp lookup)
  attaches x slice blob lookup is gave only there range signed =
      let before = told-of old [] part told in
      let after = told-of now (file_after hash part es).readings (file_after hash part es) is_now in
      let none : AllByRecursion (λ (r : Reading). (r.stamp == x.stamp) ≡ false) part.readings = subst (λ rs. AllByRecursion (λ (r : Reading). (r.stamp == x.stamp) ≡ false) rs) (sym before.readings_are) tt in
      let found = reading-found x.stamp hash x slice blob.bytes refl is gave part es answers only there none in
      let there_too : signed_range (seat_in slice (file_after hash part es).file.layout) ≡ Some blob.slice = ap (λ l. signed_range (seat_in slice l)) after.layout ∙ range in
      sym (blob_is hash (file_after hash part es) slice blob.cdhash x.stamp lookup (record { stamp = x.stamp; slice = slice; bytes = blob.bytes }) blob.slice found there_too
      ∙ ap (λ size. Some (signature hash blob.bytes blob.slice (Some size))) after.page_size
      ∙ ap (λ (b : Signature). Some b) (sym signed.value))
