-- Which replies an event has.
use Rattle.std.specs.Prelude.{Bool, true, false}
use Rattle.cs_policy.specs.declared.file.FileEvent.{FileEvent}
use Rattle.cs_policy.specs.declared.file.FileEvent.TheVariants as event
use Rattle.cs_policy.specs.declared.file.FileReply.{FileReply}
use Rattle.cs_policy.specs.declared.file.FileReply.TheVariants as reply

-- the reply is one of those that a file has to the event
abbrev pub is_reply_to : FileEvent → FileReply → Bool
is_reply_to (event.ReadSignature slice) (reply.NoSlices refusal) = true
is_reply_to (event.ReadSignature slice) (reply.NoSlice count) = true
is_reply_to (event.ReadSignature slice) (reply.NoImage refusal) = true
is_reply_to (event.ReadSignature slice) (reply.PagerFault page) = true
is_reply_to (event.ReadSignature slice) (reply.Read bytes) = true
is_reply_to (event.AddBlob slice cdhash read lookup) (reply.Already blob) = true
is_reply_to (event.AddBlob slice cdhash read lookup) (reply.Overlap blob) = true
is_reply_to (event.AddBlob slice cdhash read lookup) (reply.Attached blob) = true
is_reply_to (event.RefuseBlob read refusal) reply.Noted = true
is_reply_to (event.Write at piece) (reply.PastEnd length) = true
is_reply_to (event.Write at piece) (reply.Short written) = true
is_reply_to (event.Write at piece) (reply.Written count) = true
is_reply_to (event.AddRegion region insert) reply.Added = true
is_reply_to (event.DropRegion id) (reply.NoRegion none) = true
is_reply_to (event.DropRegion id) reply.Dropped = true
is_reply_to (event.DropPid pid) (reply.DroppedAll count) = true
is_reply_to (event.Enter id page access flags resolve) (reply.NoRegion none) = true
is_reply_to (event.Enter id page access flags resolve) (reply.Denied denial) = true
is_reply_to (event.Enter id page access flags resolve) (reply.PagerFault failed) = true
is_reply_to (event.Enter id page access flags resolve) (reply.Given left noted) = true
is_reply_to (event.Store id page at bytes resolve) reply.NotMapped = true
is_reply_to (event.Store id page at bytes resolve) reply.Stored = true
is_reply_to (event.Load id page at count resolve) reply.NotMapped = true
is_reply_to (event.Load id page at count resolve) (reply.Got bytes) = true
is_reply_to (event.Fetch id page at count resolve) reply.NotMapped = true
is_reply_to (event.Fetch id page at count resolve) (reply.Got bytes) = true
is_reply_to (event.Evict page) reply.NotResident = true
is_reply_to (event.Evict page) (reply.PagerFault failed) = true
is_reply_to (event.Evict page) reply.Evicted = true
is_reply_to _ _ = false
