-- What a reply was, by what it tells.
use Rattle.std.proofs.Common.{◌≡◌, ℕ, List, Some, ap, arith}
use Rattle.std.specs.Option.{option_and_then}
use Rattle.std.proofs.lemmas.Grind.{common_steps}
use Rattle.cs_policy.specs.declared.file.FileReply.{FileReply}
use Rattle.cs_policy.specs.declared.file.FileReply.TheVariants as file_reply
use Rattle.cs_policy.specs.declared.process.ProcReply.{ProcReply}
use Rattle.cs_policy.specs.declared.process.ProcReply.TheVariants as process_reply
use Rattle.cs_policy.specs.declared.trust.TrustReply.{TrustReply}
use Rattle.cs_policy.specs.declared.entry.Reply.{Reply}
use Rattle.cs_policy.specs.declared.entry.Reply.TheVariants as reply
use Rattle.pg_history.specs.Machine.{bytes_read}
use Rattle.pg_history.specs.Calls.{Found, of_file, of_process, of_trust, inserted, found}

inside : {X : Type 0} (x y : X) → Some x ≡ Some y → x ≡ y
inside x y e = grind (arith, common_steps, e)

inserted_by : (r : ProcReply) (id : ℕ) → inserted r ≡ Some id → r ≡ process_reply.Inserted id
inserted_by process_reply.Dead id e = absurd (grind (arith, common_steps, e))
inserted_by process_reply.Killed id e = absurd (grind (arith, common_steps, e))
inserted_by (process_reply.Started pid) id e = absurd (grind (arith, common_steps, e))
inserted_by (process_reply.Began flags) id e = absurd (grind (arith, common_steps, e))
inserted_by (process_reply.OutOfFile pages) id e = absurd (grind (arith, common_steps, e))
inserted_by (process_reply.Overlap n) id e = absurd (grind (arith, common_steps, e))
inserted_by (process_reply.Full limit) id e = absurd (grind (arith, common_steps, e))
inserted_by (process_reply.Inserted n) id e = ap (λ m. process_reply.Inserted m) (inside n id e)
inserted_by process_reply.NoMap id e = absurd (grind (arith, common_steps, e))
inserted_by (process_reply.Prot n) id e = absurd (grind (arith, common_steps, e))
inserted_by (process_reply.Region n number page flags) id e = absurd (grind (arith, common_steps, e))
inserted_by (process_reply.Removed n number) id e = absurd (grind (arith, common_steps, e))
inserted_by (process_reply.Debugged flags) id e = absurd (grind (arith, common_steps, e))
inserted_by process_reply.Kill id e = absurd (grind (arith, common_steps, e))
inserted_by process_reply.Spare id e = absurd (grind (arith, common_steps, e))
inserted_by (process_reply.Cleared flags) id e = absurd (grind (arith, common_steps, e))
inserted_by (process_reply.Exited files) id e = absurd (grind (arith, common_steps, e))

found_by_reply : (r : ProcReply) (x : Found) → found r ≡ Some x → r ≡ process_reply.Region x.id x.number x.page x.flags
found_by_reply process_reply.Dead x e = absurd (grind (arith, common_steps, e))
found_by_reply process_reply.Killed x e = absurd (grind (arith, common_steps, e))
found_by_reply (process_reply.Started pid) x e = absurd (grind (arith, common_steps, e))
found_by_reply (process_reply.Began flags) x e = absurd (grind (arith, common_steps, e))
found_by_reply (process_reply.OutOfFile pages) x e = absurd (grind (arith, common_steps, e))
found_by_reply (process_reply.Overlap id) x e = absurd (grind (arith, common_steps, e))
found_by_reply (process_reply.Full limit) x e = absurd (grind (arith, common_steps, e))
found_by_reply (process_reply.Inserted id) x e = absurd (grind (arith, common_steps, e))
found_by_reply process_reply.NoMap x e = absurd (grind (arith, common_steps, e))
found_by_reply (process_reply.Prot id) x e = absurd (grind (arith, common_steps, e))
found_by_reply (process_reply.Region id number page flags) x e = ap (λ (y : Found). process_reply.Region y.id y.number y.page y.flags) (inside (record { id = id; number = number; page = page; flags = flags }) x e)
found_by_reply (process_reply.Removed id number) x e = absurd (grind (arith, common_steps, e))
found_by_reply (process_reply.Debugged flags) x e = absurd (grind (arith, common_steps, e))
found_by_reply process_reply.Kill x e = absurd (grind (arith, common_steps, e))
found_by_reply process_reply.Spare x e = absurd (grind (arith, common_steps, e))
found_by_reply (process_reply.Cleared flags) x e = absurd (grind (arith, common_steps, e))
found_by_reply (process_reply.Exited files) x e = absurd (grind (arith, common_steps, e))

read_by : (r : FileReply) (bytes : List ℕ) → bytes_read r ≡ Some bytes → r ≡ file_reply.Read bytes
read_by (file_reply.NoSlices refusal) bytes e = absurd (grind (arith, common_steps, e))
read_by (file_reply.NoSlice count) bytes e = absurd (grind (arith, common_steps, e))
read_by (file_reply.NoImage refusal) bytes e = absurd (grind (arith, common_steps, e))
read_by (file_reply.PagerFault page) bytes e = absurd (grind (arith, common_steps, e))
read_by (file_reply.Read found) bytes e = ap (λ b. file_reply.Read b) (inside found bytes e)
read_by (file_reply.Already blob) bytes e = absurd (grind (arith, common_steps, e))
read_by (file_reply.Overlap blob) bytes e = absurd (grind (arith, common_steps, e))
read_by (file_reply.Attached blob) bytes e = absurd (grind (arith, common_steps, e))
read_by file_reply.Noted bytes e = absurd (grind (arith, common_steps, e))
read_by (file_reply.PastEnd length) bytes e = absurd (grind (arith, common_steps, e))
read_by (file_reply.Short written) bytes e = absurd (grind (arith, common_steps, e))
read_by (file_reply.Written count) bytes e = absurd (grind (arith, common_steps, e))
read_by file_reply.Added bytes e = absurd (grind (arith, common_steps, e))
read_by (file_reply.NoRegion id) bytes e = absurd (grind (arith, common_steps, e))
read_by file_reply.Dropped bytes e = absurd (grind (arith, common_steps, e))
read_by (file_reply.DroppedAll count) bytes e = absurd (grind (arith, common_steps, e))
read_by (file_reply.Denied denial) bytes e = absurd (grind (arith, common_steps, e))
read_by file_reply.NotMapped bytes e = absurd (grind (arith, common_steps, e))
read_by file_reply.Stored bytes e = absurd (grind (arith, common_steps, e))
read_by (file_reply.Got got) bytes e = absurd (grind (arith, common_steps, e))
read_by file_reply.NotResident bytes e = absurd (grind (arith, common_steps, e))
read_by file_reply.Evicted bytes e = absurd (grind (arith, common_steps, e))
read_by (file_reply.Given left noted) bytes e = absurd (grind (arith, common_steps, e))

pub inserted_is : (r : Reply) (id : ℕ) → option_and_then inserted (of_process r) ≡ Some id → r ≡ reply.Proc (process_reply.Inserted id)
inserted_is (reply.File r) id e = absurd (grind (arith, common_steps, e))
inserted_is (reply.Proc r) id e = ap (λ p. reply.Proc p) (inserted_by r id e)
inserted_is (reply.Trust r) id e = absurd (grind (arith, common_steps, e))

pub found_is : (r : Reply) (x : Found) → option_and_then found (of_process r) ≡ Some x → r ≡ reply.Proc (process_reply.Region x.id x.number x.page x.flags)
found_is (reply.File r) x e = absurd (grind (arith, common_steps, e))
found_is (reply.Proc r) x e = ap (λ p. reply.Proc p) (found_by_reply r x e)
found_is (reply.Trust r) x e = absurd (grind (arith, common_steps, e))

pub read_is : (r : Reply) (bytes : List ℕ) → option_and_then bytes_read (of_file r) ≡ Some bytes → r ≡ reply.File (file_reply.Read bytes)
read_is (reply.File r) bytes e = ap (λ f. reply.File f) (read_by r bytes e)
read_is (reply.Proc r) bytes e = absurd (grind (arith, common_steps, e))
read_is (reply.Trust r) bytes e = absurd (grind (arith, common_steps, e))

pub answer_is : (r : Reply) (answer : TrustReply) → of_trust r ≡ Some answer → r ≡ reply.Trust answer
answer_is (reply.File r) answer e = absurd (grind (arith, common_steps, e))
answer_is (reply.Proc r) answer e = absurd (grind (arith, common_steps, e))
answer_is (reply.Trust r) answer e = ap (λ t. reply.Trust t) (inside r answer e)
