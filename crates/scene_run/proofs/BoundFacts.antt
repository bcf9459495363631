-- What scripts need is bounded by how many calls they have.
use Rattle.std.proofs.Common.{◌≡◌, ℕ, zero, suc, ◌+◌, ◌*◌, ◌<◌, ◌≤◌, Bool, true, false, List, [], ◌∷◌, length, map, refl, arith}
use Rattle.std.specs.Prelude.{slice_index_or, if◌then◌else◌, ◌^◌}
use Rattle.std.specs.List.{range_with_len}
use Rattle.pg_book.specs.declared.needs.Needs.{Needs}
use Rattle.pg_book.specs.Needs.{nothing_needed, row_entries, all_entries}
use Rattle.cs_policy.specs.declared.access.Access.TheVariants as access
use Rattle.cs_policy.specs.declared.entry.Place.{Place}
use Rattle.cs_policy.specs.declared.call.Call.{Call}
use Rattle.cs_policy.specs.declared.call.Call.TheVariants as call
use Rattle.pg_history.specs.Legal.{calls_in}
use Rattle.pg_calls.specs.Room.{plus, Within, is_within, Use, use_at, uses_at, uses_of, call_uses}
use Rattle.pg_calls.specs.Scripts.{calls_use}
use Rattle.pg_calls.proofs.RoomFacts.{within-refl, within-trans, within-plus, within-nothing}
use Rattle.pg_parts.specs.Rooms.{part_needs}
use Rattle.scene_run.specs.Needs.{place_of, row_of, played, needs_of, attaches_one, attaches, attaches_in, AreFew, most_needed}

-- ---- a call

abbrev total : List Use → Needs
total [] = nothing_needed
total (one ∷ others) = plus one.uses (total others)

use-within : (at : Place) (one : Use) → Within (use_at at one) one.uses
use-within at one = by_test (is_within one.where_it_is at)
  where
    by_test : (b : Bool) → Within (if b then one.uses else nothing_needed) one.uses
    by_test true = within-refl one.uses
    by_test false = within-nothing one.uses

uses-within : (at : Place) (us : List Use) → Within (uses_at at us) (total us)
uses-within at [] = within-refl nothing_needed
uses-within at (u ∷ us) = within-plus _ _ _ _ (use-within at u) (uses-within at us)

abbrev most_one : Call → Needs
most_one c = record { entries = 3; regions = 1; records = 1; copies = 1; blobs = attaches_one c; numbers = 1 }

few : (c : Call) → Within (total (uses_of c)) (most_one c)
few (call.Spawn pid) = record { entries = omega arith; regions = omega arith; records = omega arith; copies = omega arith; blobs = omega arith; numbers = omega arith }
few (call.Map pid addr file first pages prot shared) = record { entries = omega arith; regions = omega arith; records = omega arith; copies = omega arith; blobs = omega arith; numbers = omega arith }
few (call.Unmap pid addr) = record { entries = omega arith; regions = omega arith; records = omega arith; copies = omega arith; blobs = omega arith; numbers = omega arith }
few (call.Attach file slice) = record { entries = omega arith; regions = omega arith; records = omega arith; copies = omega arith; blobs = omega arith; numbers = omega arith }
few (call.LoadTrust cache) = record { entries = omega arith; regions = omega arith; records = omega arith; copies = omega arith; blobs = omega arith; numbers = omega arith }
few (call.Fault pid addr access.Read) = record { entries = omega arith; regions = omega arith; records = omega arith; copies = omega arith; blobs = omega arith; numbers = omega arith }
few (call.Fault pid addr access.Write) = record { entries = omega arith; regions = omega arith; records = omega arith; copies = omega arith; blobs = omega arith; numbers = omega arith }
few (call.Fault pid addr access.Execute) = record { entries = omega arith; regions = omega arith; records = omega arith; copies = omega arith; blobs = omega arith; numbers = omega arith }
few (call.Store pid addr bytes) = record { entries = omega arith; regions = omega arith; records = omega arith; copies = omega arith; blobs = omega arith; numbers = omega arith }
few (call.Load pid addr count) = record { entries = omega arith; regions = omega arith; records = omega arith; copies = omega arith; blobs = omega arith; numbers = omega arith }
few (call.Fetch pid addr count) = record { entries = omega arith; regions = omega arith; records = omega arith; copies = omega arith; blobs = omega arith; numbers = omega arith }
few (call.Write file at piece) = record { entries = omega arith; regions = omega arith; records = omega arith; copies = omega arith; blobs = omega arith; numbers = omega arith }
few (call.Evict file page) = record { entries = omega arith; regions = omega arith; records = omega arith; copies = omega arith; blobs = omega arith; numbers = omega arith }
few (call.Debug pid) = record { entries = omega arith; regions = omega arith; records = omega arith; copies = omega arith; blobs = omega arith; numbers = omega arith }
few (call.Exit pid) = record { entries = omega arith; regions = omega arith; records = omega arith; copies = omega arith; blobs = omega arith; numbers = omega arith }

call-within : (c : Call) (at : Place) → Within (call_uses c at) (most_one c)
call-within c at = within-trans _ _ _ (uses-within at (uses_of c)) (few c)

-- ---- a script

abbrev most_of : List Call → Needs
most_of script = record {
  entries = 3 * length script;
  regions = length script;
  records = length script;
  copies = length script;
  blobs = attaches script;
  numbers = length script;
}

script-within : (script : List Call) (at : Place) → Within (calls_use script at) (most_of script)
script-within [] at = within-nothing (most_of [])
script-within (c ∷ cs) at = within-trans _ _ _ (within-plus _ _ _ _ (call-within c at) (script-within cs at)) (record {
  entries = omega arith;
  regions = omega arith;
  records = omega arith;
  copies = omega arith;
  blobs = omega arith;
  numbers = omega arith;
})

-- each element of a list, and what stands behind its end
get-all : (P : Needs → Type 0) (f : ℕ → Needs) → ((n : ℕ) → P (f n)) → P nothing_needed → (a n k : ℕ) → P (slice_index_or (map f (range_with_len a n)) k nothing_needed)
get-all P f all none a zero zero = none
get-all P f all none a zero (suc k) = none
get-all P f all none a (suc n) zero = all a
get-all P f all none a (suc n) (suc k) = get-all P f all none (a + 1) n k

row-within : (files processes : ℕ) (script : List Call) (part : ℕ) → Within (slice_index_or (row_of files processes script) part nothing_needed) (most_of script)
row-within files processes script part =
    get-all (λ n. Within n (most_of script)) (λ k. calls_use script (place_of files processes k))
    (λ k. script-within script (place_of files processes k)) (within-nothing (most_of script)) 0 (files + processes + 1) part

-- ---- all scripts

abbrev most_in : List (List Call) → Needs
most_in scripts = record {
  entries = 3 * calls_in scripts;
  regions = calls_in scripts;
  records = calls_in scripts;
  copies = calls_in scripts;
  blobs = attaches_in scripts;
  numbers = calls_in scripts;
}

rows-within : (files processes : ℕ) (scripts : List (List Call)) (part : ℕ) → Within (part_needs (map (row_of files processes) scripts) part) (most_in scripts)
rows-within files processes [] part = within-nothing (most_in [])
rows-within files processes (script ∷ scripts) part =
    within-trans _ _ _ (within-plus _ _ _ _ (row-within files processes script part) (rows-within files processes scripts part)) (record {
      entries = omega arith;
      regions = omega arith;
      records = omega arith;
      copies = omega arith;
      blobs = omega arith;
      numbers = omega arith;
    })

played-calls : (scripts : List (List Call)) → calls_in (played scripts) ≡ calls_in scripts
played-calls [] = refl
played-calls (script ∷ scripts) = refl

played-attaches : (scripts : List (List Call)) → attaches_in (played scripts) ≡ attaches_in scripts
played-attaches [] = refl
played-attaches (script ∷ scripts) = refl

played-length : (scripts : List (List Call)) → length scripts ≤ 8 → length (played scripts) ≤ 8
played-length [] le = omega arith
played-length (script ∷ scripts) le = le

pub needs-within : (files processes : ℕ) (scripts : List (List Call)) (part : ℕ) → AreFew scripts
    → Within (part_needs (needs_of files processes scripts) part) most_needed
needs-within files processes scripts part are = within-trans _ _ _ (rows-within files processes (played scripts) part) (record {
  entries = omega (arith, are.calls, played-calls scripts);
  regions = omega (arith, are.calls, played-calls scripts);
  records = omega (arith, are.calls, played-calls scripts);
  copies = omega (arith, are.calls, played-calls scripts);
  blobs = omega (arith, are.attaches, played-attaches scripts);
  numbers = omega (arith, are.calls, played-calls scripts);
})

-- ---- all entries

row-entries : (f : ℕ → Needs) → ((n : ℕ) → (f n).entries ≤ 12288) → (a n : ℕ) → row_entries (map f (range_with_len a n)) ≤ 12288 * n
row-entries f all a zero = omega arith
row-entries f all a (suc n) = omega (arith, all a, row-entries f all (a + 1) n)

all-rows : (files processes : ℕ) (scripts : List (List Call)) → files + processes + 1 ≤ 81 → calls_in scripts ≤ 4096
    → all_entries (map (row_of files processes) scripts) ≤ 995328 * length scripts
all-rows files processes [] parts calls = omega arith
all-rows files processes (script ∷ scripts) parts calls =
    let one : row_entries (row_of files processes script) ≤ 12288 * (files + processes + 1) =
    row-entries (λ k. calls_use script (place_of files processes k)) (λ k. omega (arith, (script-within script (place_of files processes k)).entries, calls)) 0 (files + processes + 1) in
    omega (arith, parts, one, all-rows files processes scripts parts (omega (arith, calls)))

pub entries-few : (files processes : ℕ) (scripts : List (List Call)) → files ≤ 16 → processes ≤ 64 → AreFew scripts
    → all_entries (needs_of files processes scripts) < 2 ^ 63
entries-few files processes scripts files_few processes_few are =
    omega (arith, played-length scripts are.workers, all-rows files processes (played scripts) (omega (arith, files_few, processes_few)) (omega (arith, are.calls, played-calls scripts)))
