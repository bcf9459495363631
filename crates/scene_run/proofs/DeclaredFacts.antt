-- What a scene's calls name is declared.
use Rattle.std.proofs.Common.{◌≡◌, ℕ, ◌<◌, ◌%◌, Bool, true, length, sym, subst, arith}
use Rattle.std.specs.Prelude.{◌&&◌, nat_lt}
use Rattle.std.proofs.lemmas.Grind.{common_steps}
use Rattle.std.proofs.lemmas.Bool.Decides.{nat_tests}
use Rattle.cs_policy.specs.declared.call.Call.{Call}
use Rattle.cs_policy.specs.declared.call.Call.TheVariants as call
use Rattle.pg_history.specs.Opening.{Numbers}
use Rattle.pg_calls.specs.Asking.{StaysInPage}
use Rattle.pg_calls.specs.Calls.{IsDeclared}
use Rattle.scene_text.specs.declared.line.Known.{Known}
use Rattle.scene_text.specs.Known.{page_bytes}
use Rattle.scene_text.specs.Calls.{call_known, call_in_range, stays, can_map}

below : (a b c : ℕ) → nat_lt a b ≡ true → c ≡ b → a < c
below a b c lt same = grind (arith, common_steps, nat_tests, lt, same)

left : (a b : Bool) → (a && b) ≡ true → a ≡ true
left a b e = grind (arith, common_steps, e)

right : (a b : Bool) → (a && b) ≡ true → b ≡ true
right a b e = grind (arith, common_steps, e)

stays-in : (page size addr count : ℕ) → size ≡ page → stays page addr count ≡ true → StaysInPage size (addr % size) count
stays-in page size addr count same e = subst (λ s. StaysInPage s (addr % s) count) (sym same) (record {
  some = grind (arith, common_steps, nat_tests, e);
  most = grind (arith, common_steps, nat_tests, e);
  fits = grind (arith, common_steps, nat_tests, e);
})

some-pages : (page addr first pages : ℕ) → can_map page addr first pages ≡ true → 0 < pages
some-pages page addr first pages e = grind (arith, common_steps, nat_tests, e)

module _ (known : Known) (numbers : Numbers) (size : numbers.page_size ≡ page_bytes known.large) (files : length numbers.files ≡ known.files)
    (processes : numbers.processes ≡ known.processes) (caches : numbers.caches ≡ known.caches) where
  pub declared-call : (c : Call) → call_known known c ≡ true → call_in_range (page_bytes known.large) c ≡ true → IsDeclared numbers c
  declared-call (call.Spawn pid) is ranged = below _ _ _ is processes
  declared-call (call.Map pid addr file first pages prot shared) is ranged =
      (below _ _ _ (left _ _ is) processes, below _ _ _ (right _ _ is) files, some-pages _ addr first pages ranged)
  declared-call (call.Unmap pid addr) is ranged = below _ _ _ is processes
  declared-call (call.Attach file slice) is ranged = below _ _ _ is files
  declared-call (call.LoadTrust cache) is ranged = below _ _ _ is caches
  declared-call (call.Fault pid addr access) is ranged = below _ _ _ is processes
  declared-call (call.Store pid addr bytes) is ranged = (below _ _ _ is processes, stays-in _ _ addr (length bytes) size ranged)
  declared-call (call.Load pid addr count) is ranged = (below _ _ _ is processes, stays-in _ _ addr count size ranged)
  declared-call (call.Fetch pid addr count) is ranged = (below _ _ _ is processes, stays-in _ _ addr count size ranged)
  declared-call (call.Write file at piece) is ranged = below _ _ _ is files
  declared-call (call.Evict file page) is ranged = below _ _ _ is files
  declared-call (call.Debug pid) is ranged = below _ _ _ is processes
  declared-call (call.Exit pid) is ranged = below _ _ _ is processes
