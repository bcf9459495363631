-- The words of a file's reply as it is printed say the reply.
use Rattle.std.proofs.Common.{◌≡◌, ℕ, List, [], ◌++◌, Option, Some, None, option_map, refl, ap, sym, subst}
use Rattle.cs_policy.specs.declared.denial.Denial.{Denial}
use Rattle.cs_policy.specs.declared.file.FileEvent.{FileEvent}
use Rattle.cs_policy.specs.declared.file.FileEvent.TheVariants as file
use Rattle.cs_policy.specs.declared.file.FileReply.{FileReply}
use Rattle.cs_policy.specs.declared.file.FileReply.TheVariants as told
use Rattle.pg_report.specs.declared.words.ReplyWord.{ReplyWord}
use Rattle.pg_report.specs.declared.words.ReplyWord.TheVariants as key
use Rattle.pg_report.specs.Forms.{long, short, few_bytes, refusal_form}
use Rattle.pg_report.specs.Denials.{violation_words, violation_of}
use Rattle.pg_report.specs.ReplyTable.{victim_words, victim_of, given_of}
use Rattle.pg_report.specs.Replies.{file_reply_words}
use Rattle.pg_report.specs.ReplyRows.{plainly, signature_row, file_reply_row}
use Rattle.pg_report.specs.ReplyRows as rows
use Rattle.pg_report.specs.Fits.{SignatureFits, BlobFits, RefuseFits, WriteFits, AddFits, DropFits, DropAllFits, VictimFits, ViolationFits, EnterFits, StoreFits, LoadFits, EvictFits, FileReplyFits}
use Rattle.pg_report.proofs.RowAgain.{Row, row0_of, row1_of, long_col, short_col, few_col, refusal_col}
use Rattle.pg_report.proofs.AnswerAgain.{Answered, denial_again}

violation_again : (w : Option Denial) → ViolationFits w → Row violation_of (violation_words w) w
unfolding violation_of
violation_again None f = record { says = refl; are = tt; plain = tt }
violation_again (Some d) f = let r = denial_again d f in record { says = rw (r.says) refl; are = (refl, r.are); plain = (refl, r.plain) }

given_again : (v : Option ℕ) (w : Option Denial) → VictimFits v → ViolationFits w → Row given_of (victim_words v ++ violation_words w) (told.Given v w)
unfolding given_of victim_of
given_again None None fv fw = record { says = refl; are = tt; plain = tt }
given_again None (Some d) fv fw = let r = violation_again (Some d) fw in record { says = ap (option_map (λ x. told.Given None x)) r.says; are = r.are; plain = r.plain }
given_again (Some page) w fv fw =
    let c = long_col page fv in
    let r = violation_again w fw in
    record { says = rw (c.says, r.says) refl; are = (refl, (c.word, r.are)); plain = (refl, (c.plain, r.plain)) }

file_blob_again : (r : FileReply) → BlobFits r → Answered rows.blob_row (file_reply_words 0 r) r
file_blob_again (told.NoSlices x) f = elim f [ ]
file_blob_again (told.NoSlice n) f = elim f [ ]
file_blob_again (told.NoImage x) f = elim f [ ]
file_blob_again (told.PagerFault page) f = elim f [ ]
file_blob_again (told.Read bytes) f = elim f [ ]
file_blob_again (told.Already n) f = record { key = key.Already; rest = _; is = refl; reads = row1_of short (λ x. told.Already x) (short_col n f) }
file_blob_again (told.Overlap n) f = record { key = key.Overlap; rest = _; is = refl; reads = row1_of short (λ x. told.Overlap x) (short_col n f) }
file_blob_again (told.Attached n) f = record { key = key.Attached; rest = _; is = refl; reads = row1_of short (λ x. told.Attached x) (short_col n f) }
file_blob_again told.Noted f = elim f [ ]
file_blob_again (told.PastEnd n) f = elim f [ ]
file_blob_again (told.Short n) f = elim f [ ]
file_blob_again (told.Written n) f = elim f [ ]
file_blob_again told.Added f = elim f [ ]
file_blob_again (told.NoRegion n) f = elim f [ ]
file_blob_again told.Dropped f = elim f [ ]
file_blob_again (told.DroppedAll n) f = elim f [ ]
file_blob_again (told.Denied d) f = elim f [ ]
file_blob_again (told.Given v w) f = elim f [ ]
file_blob_again told.NotMapped f = elim f [ ]
file_blob_again told.Stored f = elim f [ ]
file_blob_again (told.Got b) f = elim f [ ]
file_blob_again told.NotResident f = elim f [ ]
file_blob_again told.Evicted f = elim f [ ]

file_refuse_again : (r : FileReply) → RefuseFits r → Answered rows.refuse_row (file_reply_words 0 r) r
file_refuse_again (told.NoSlices x) f = elim f [ ]
file_refuse_again (told.NoSlice n) f = elim f [ ]
file_refuse_again (told.NoImage x) f = elim f [ ]
file_refuse_again (told.PagerFault page) f = elim f [ ]
file_refuse_again (told.Read bytes) f = elim f [ ]
file_refuse_again (told.Already n) f = elim f [ ]
file_refuse_again (told.Overlap n) f = elim f [ ]
file_refuse_again (told.Attached n) f = elim f [ ]
file_refuse_again told.Noted f = record { key = key.Noted; rest = _; is = refl; reads = row0_of told.Noted }
file_refuse_again (told.PastEnd n) f = elim f [ ]
file_refuse_again (told.Short n) f = elim f [ ]
file_refuse_again (told.Written n) f = elim f [ ]
file_refuse_again told.Added f = elim f [ ]
file_refuse_again (told.NoRegion n) f = elim f [ ]
file_refuse_again told.Dropped f = elim f [ ]
file_refuse_again (told.DroppedAll n) f = elim f [ ]
file_refuse_again (told.Denied d) f = elim f [ ]
file_refuse_again (told.Given v w) f = elim f [ ]
file_refuse_again told.NotMapped f = elim f [ ]
file_refuse_again told.Stored f = elim f [ ]
file_refuse_again (told.Got b) f = elim f [ ]
file_refuse_again told.NotResident f = elim f [ ]
file_refuse_again told.Evicted f = elim f [ ]

file_write_again : (r : FileReply) → WriteFits r → Answered rows.write_row (file_reply_words 0 r) r
file_write_again (told.NoSlices x) f = elim f [ ]
file_write_again (told.NoSlice n) f = elim f [ ]
file_write_again (told.NoImage x) f = elim f [ ]
file_write_again (told.PagerFault page) f = elim f [ ]
file_write_again (told.Read bytes) f = elim f [ ]
file_write_again (told.Already n) f = elim f [ ]
file_write_again (told.Overlap n) f = elim f [ ]
file_write_again (told.Attached n) f = elim f [ ]
file_write_again told.Noted f = elim f [ ]
file_write_again (told.PastEnd n) f = record { key = key.PastEnd; rest = _; is = refl; reads = row1_of long (λ x. told.PastEnd x) (long_col n f) }
file_write_again (told.Short n) f = record { key = key.Short; rest = _; is = refl; reads = row1_of long (λ x. told.Short x) (long_col n f) }
file_write_again (told.Written n) f = record { key = key.Written; rest = _; is = refl; reads = row1_of long (λ x. told.Written x) (long_col n f) }
file_write_again told.Added f = elim f [ ]
file_write_again (told.NoRegion n) f = elim f [ ]
file_write_again told.Dropped f = elim f [ ]
file_write_again (told.DroppedAll n) f = elim f [ ]
file_write_again (told.Denied d) f = elim f [ ]
file_write_again (told.Given v w) f = elim f [ ]
file_write_again told.NotMapped f = elim f [ ]
file_write_again told.Stored f = elim f [ ]
file_write_again (told.Got b) f = elim f [ ]
file_write_again told.NotResident f = elim f [ ]
file_write_again told.Evicted f = elim f [ ]

file_region_again : (r : FileReply) → AddFits r → Answered rows.region_row (file_reply_words 0 r) r
file_region_again (told.NoSlices x) f = elim f [ ]
file_region_again (told.NoSlice n) f = elim f [ ]
file_region_again (told.NoImage x) f = elim f [ ]
file_region_again (told.PagerFault page) f = elim f [ ]
file_region_again (told.Read bytes) f = elim f [ ]
file_region_again (told.Already n) f = elim f [ ]
file_region_again (told.Overlap n) f = elim f [ ]
file_region_again (told.Attached n) f = elim f [ ]
file_region_again told.Noted f = elim f [ ]
file_region_again (told.PastEnd n) f = elim f [ ]
file_region_again (told.Short n) f = elim f [ ]
file_region_again (told.Written n) f = elim f [ ]
file_region_again told.Added f = record { key = key.Added; rest = _; is = refl; reads = row0_of told.Added }
file_region_again (told.NoRegion n) f = elim f [ ]
file_region_again told.Dropped f = elim f [ ]
file_region_again (told.DroppedAll n) f = elim f [ ]
file_region_again (told.Denied d) f = elim f [ ]
file_region_again (told.Given v w) f = elim f [ ]
file_region_again told.NotMapped f = elim f [ ]
file_region_again told.Stored f = elim f [ ]
file_region_again (told.Got b) f = elim f [ ]
file_region_again told.NotResident f = elim f [ ]
file_region_again told.Evicted f = elim f [ ]

file_drop_again : (r : FileReply) → DropFits r → Answered rows.drop_row (file_reply_words 0 r) r
file_drop_again (told.NoSlices x) f = elim f [ ]
file_drop_again (told.NoSlice n) f = elim f [ ]
file_drop_again (told.NoImage x) f = elim f [ ]
file_drop_again (told.PagerFault page) f = elim f [ ]
file_drop_again (told.Read bytes) f = elim f [ ]
file_drop_again (told.Already n) f = elim f [ ]
file_drop_again (told.Overlap n) f = elim f [ ]
file_drop_again (told.Attached n) f = elim f [ ]
file_drop_again told.Noted f = elim f [ ]
file_drop_again (told.PastEnd n) f = elim f [ ]
file_drop_again (told.Short n) f = elim f [ ]
file_drop_again (told.Written n) f = elim f [ ]
file_drop_again told.Added f = elim f [ ]
file_drop_again (told.NoRegion n) f = record { key = key.NoRegion; rest = _; is = refl; reads = row1_of short (λ x. told.NoRegion x) (short_col n f) }
file_drop_again told.Dropped f = record { key = key.Dropped; rest = _; is = refl; reads = row0_of told.Dropped }
file_drop_again (told.DroppedAll n) f = elim f [ ]
file_drop_again (told.Denied d) f = elim f [ ]
file_drop_again (told.Given v w) f = elim f [ ]
file_drop_again told.NotMapped f = elim f [ ]
file_drop_again told.Stored f = elim f [ ]
file_drop_again (told.Got b) f = elim f [ ]
file_drop_again told.NotResident f = elim f [ ]
file_drop_again told.Evicted f = elim f [ ]

file_drop_all_again : (r : FileReply) → DropAllFits r → Answered rows.drop_all_row (file_reply_words 0 r) r
file_drop_all_again (told.NoSlices x) f = elim f [ ]
file_drop_all_again (told.NoSlice n) f = elim f [ ]
file_drop_all_again (told.NoImage x) f = elim f [ ]
file_drop_all_again (told.PagerFault page) f = elim f [ ]
file_drop_all_again (told.Read bytes) f = elim f [ ]
file_drop_all_again (told.Already n) f = elim f [ ]
file_drop_all_again (told.Overlap n) f = elim f [ ]
file_drop_all_again (told.Attached n) f = elim f [ ]
file_drop_all_again told.Noted f = elim f [ ]
file_drop_all_again (told.PastEnd n) f = elim f [ ]
file_drop_all_again (told.Short n) f = elim f [ ]
file_drop_all_again (told.Written n) f = elim f [ ]
file_drop_all_again told.Added f = elim f [ ]
file_drop_all_again (told.NoRegion n) f = elim f [ ]
file_drop_all_again told.Dropped f = elim f [ ]
file_drop_all_again (told.DroppedAll n) f = record { key = key.Dropped; rest = _; is = refl; reads = row1_of short (λ x. told.DroppedAll x) (short_col n f) }
file_drop_all_again (told.Denied d) f = elim f [ ]
file_drop_all_again (told.Given v w) f = elim f [ ]
file_drop_all_again told.NotMapped f = elim f [ ]
file_drop_all_again told.Stored f = elim f [ ]
file_drop_all_again (told.Got b) f = elim f [ ]
file_drop_all_again told.NotResident f = elim f [ ]
file_drop_all_again told.Evicted f = elim f [ ]

file_enter_again : (r : FileReply) → EnterFits r → Answered rows.enter_row (file_reply_words 0 r) r
file_enter_again (told.NoSlices x) f = elim f [ ]
file_enter_again (told.NoSlice n) f = elim f [ ]
file_enter_again (told.NoImage x) f = elim f [ ]
file_enter_again (told.PagerFault page) f = record { key = key.PagerFault; rest = _; is = refl; reads = row1_of long (λ x. told.PagerFault x) (long_col page f) }
file_enter_again (told.Read bytes) f = elim f [ ]
file_enter_again (told.Already n) f = elim f [ ]
file_enter_again (told.Overlap n) f = elim f [ ]
file_enter_again (told.Attached n) f = elim f [ ]
file_enter_again told.Noted f = elim f [ ]
file_enter_again (told.PastEnd n) f = elim f [ ]
file_enter_again (told.Short n) f = elim f [ ]
file_enter_again (told.Written n) f = elim f [ ]
file_enter_again told.Added f = elim f [ ]
file_enter_again (told.NoRegion n) f = record { key = key.NoRegion; rest = _; is = refl; reads = row1_of short (λ x. told.NoRegion x) (short_col n f) }
file_enter_again told.Dropped f = elim f [ ]
file_enter_again (told.DroppedAll n) f = elim f [ ]
file_enter_again (told.Denied d) f = record { key = key.Denied; rest = _; is = refl; reads = let r = denial_again d f in record { says = ap (option_map (λ x. told.Denied x)) r.says; are = r.are; plain = r.plain } }
file_enter_again (told.Given v w) f = record { key = key.Given; rest = _; is = refl; reads = given_again v w f.0 f.1 }
file_enter_again told.NotMapped f = elim f [ ]
file_enter_again told.Stored f = elim f [ ]
file_enter_again (told.Got b) f = elim f [ ]
file_enter_again told.NotResident f = elim f [ ]
file_enter_again told.Evicted f = elim f [ ]

file_store_again : (r : FileReply) → StoreFits r → Answered rows.store_row (file_reply_words 0 r) r
file_store_again (told.NoSlices x) f = elim f [ ]
file_store_again (told.NoSlice n) f = elim f [ ]
file_store_again (told.NoImage x) f = elim f [ ]
file_store_again (told.PagerFault page) f = elim f [ ]
file_store_again (told.Read bytes) f = elim f [ ]
file_store_again (told.Already n) f = elim f [ ]
file_store_again (told.Overlap n) f = elim f [ ]
file_store_again (told.Attached n) f = elim f [ ]
file_store_again told.Noted f = elim f [ ]
file_store_again (told.PastEnd n) f = elim f [ ]
file_store_again (told.Short n) f = elim f [ ]
file_store_again (told.Written n) f = elim f [ ]
file_store_again told.Added f = elim f [ ]
file_store_again (told.NoRegion n) f = elim f [ ]
file_store_again told.Dropped f = elim f [ ]
file_store_again (told.DroppedAll n) f = elim f [ ]
file_store_again (told.Denied d) f = elim f [ ]
file_store_again (told.Given v w) f = elim f [ ]
file_store_again told.NotMapped f = record { key = key.NotMapped; rest = _; is = refl; reads = row0_of told.NotMapped }
file_store_again told.Stored f = record { key = key.Stored; rest = _; is = refl; reads = row0_of told.Stored }
file_store_again (told.Got b) f = elim f [ ]
file_store_again told.NotResident f = elim f [ ]
file_store_again told.Evicted f = elim f [ ]

file_load_again : (r : FileReply) → LoadFits r → Answered rows.load_row (file_reply_words 0 r) r
file_load_again (told.NoSlices x) f = elim f [ ]
file_load_again (told.NoSlice n) f = elim f [ ]
file_load_again (told.NoImage x) f = elim f [ ]
file_load_again (told.PagerFault page) f = elim f [ ]
file_load_again (told.Read bytes) f = elim f [ ]
file_load_again (told.Already n) f = elim f [ ]
file_load_again (told.Overlap n) f = elim f [ ]
file_load_again (told.Attached n) f = elim f [ ]
file_load_again told.Noted f = elim f [ ]
file_load_again (told.PastEnd n) f = elim f [ ]
file_load_again (told.Short n) f = elim f [ ]
file_load_again (told.Written n) f = elim f [ ]
file_load_again told.Added f = elim f [ ]
file_load_again (told.NoRegion n) f = elim f [ ]
file_load_again told.Dropped f = elim f [ ]
file_load_again (told.DroppedAll n) f = elim f [ ]
file_load_again (told.Denied d) f = elim f [ ]
file_load_again (told.Given v w) f = elim f [ ]
file_load_again told.NotMapped f = record { key = key.NotMapped; rest = _; is = refl; reads = row0_of told.NotMapped }
file_load_again told.Stored f = elim f [ ]
file_load_again (told.Got b) f = record { key = key.Bytes; rest = _; is = refl; reads = row1_of (few_bytes 64) (λ x. told.Got x) (few_col 64 b f) }
file_load_again told.NotResident f = elim f [ ]
file_load_again told.Evicted f = elim f [ ]

file_evict_again : (r : FileReply) → EvictFits r → Answered rows.evict_row (file_reply_words 0 r) r
file_evict_again (told.NoSlices x) f = elim f [ ]
file_evict_again (told.NoSlice n) f = elim f [ ]
file_evict_again (told.NoImage x) f = elim f [ ]
file_evict_again (told.PagerFault page) f = record { key = key.PagerFault; rest = _; is = refl; reads = row1_of long (λ x. told.PagerFault x) (long_col page f) }
file_evict_again (told.Read bytes) f = elim f [ ]
file_evict_again (told.Already n) f = elim f [ ]
file_evict_again (told.Overlap n) f = elim f [ ]
file_evict_again (told.Attached n) f = elim f [ ]
file_evict_again told.Noted f = elim f [ ]
file_evict_again (told.PastEnd n) f = elim f [ ]
file_evict_again (told.Short n) f = elim f [ ]
file_evict_again (told.Written n) f = elim f [ ]
file_evict_again told.Added f = elim f [ ]
file_evict_again (told.NoRegion n) f = elim f [ ]
file_evict_again told.Dropped f = elim f [ ]
file_evict_again (told.DroppedAll n) f = elim f [ ]
file_evict_again (told.Denied d) f = elim f [ ]
file_evict_again (told.Given v w) f = elim f [ ]
file_evict_again told.NotMapped f = elim f [ ]
file_evict_again told.Stored f = elim f [ ]
file_evict_again (told.Got b) f = elim f [ ]
file_evict_again told.NotResident f = record { key = key.NotResident; rest = _; is = refl; reads = row0_of told.NotResident }
file_evict_again told.Evicted f = record { key = key.Evicted; rest = _; is = refl; reads = row0_of told.Evicted }

-- what a row says, told with no bytes
told_plainly : (row : ReplyWord → List (List ℕ) → Option FileReply) (r : FileReply) (n : ℕ) → n ≡ 0 → Answered row (file_reply_words 0 r) r
    → Answered (λ k ws. option_map plainly (row k ws)) (file_reply_words n r) (r, n)
told_plainly row r n is a =
    subst (λ (m : ℕ). Answered (λ k ws. option_map plainly (row k ws)) (file_reply_words m r) (r, m)) (sym is)
    (record { key = a.key; rest = a.rest; is = a.is; reads = record { says = ap (option_map plainly) a.reads.says; are = a.reads.are; plain = a.reads.plain } })

plainly_of : {row : List (List ℕ) → Option FileReply} {ws : List (List ℕ)} {r : FileReply} → Row row ws r → Row (λ ws. option_map plainly (row ws)) ws (plainly r)
plainly_of c = record { says = ap (option_map plainly) c.says; are = c.are; plain = c.plain }

signature_again : (r : FileReply) (n : ℕ) → SignatureFits r n → Answered signature_row (file_reply_words n r) (r, n)
signature_again (told.NoSlices x) n f = subst (λ (m : ℕ). Answered signature_row (file_reply_words m (told.NoSlices x)) (told.NoSlices x, m)) (sym f.1) (record { key = key.NoSlices; rest = _; is = refl; reads = plainly_of (row1_of refusal_form (λ y. told.NoSlices y) (refusal_col x f.0)) })
signature_again (told.NoSlice c) n f = subst (λ (m : ℕ). Answered signature_row (file_reply_words m (told.NoSlice c)) (told.NoSlice c, m)) (sym f.1) (record { key = key.NoSlice; rest = _; is = refl; reads = plainly_of (row1_of short (λ y. told.NoSlice y) (short_col c f.0)) })
signature_again (told.NoImage x) n f = subst (λ (m : ℕ). Answered signature_row (file_reply_words m (told.NoImage x)) (told.NoImage x, m)) (sym f.1) (record { key = key.NoImage; rest = _; is = refl; reads = plainly_of (row1_of refusal_form (λ y. told.NoImage y) (refusal_col x f.0)) })
signature_again (told.PagerFault page) n f = subst (λ (m : ℕ). Answered signature_row (file_reply_words m (told.PagerFault page)) (told.PagerFault page, m)) (sym f.1) (record { key = key.PagerFault; rest = _; is = refl; reads = plainly_of (row1_of long (λ y. told.PagerFault y) (long_col page f.0)) })
signature_again (told.Read bytes) n f = subst (λ (b : List ℕ). Answered signature_row (file_reply_words n (told.Read b)) (told.Read b, n)) (sym f.0) (record { key = key.Read; rest = _; is = refl; reads = row1_of long (λ y. (told.Read [], y)) (long_col n f.1) })
signature_again (told.Already c) n f = elim f [ ]
signature_again (told.Overlap c) n f = elim f [ ]
signature_again (told.Attached c) n f = elim f [ ]
signature_again told.Noted n f = elim f [ ]
signature_again (told.PastEnd c) n f = elim f [ ]
signature_again (told.Short c) n f = elim f [ ]
signature_again (told.Written c) n f = elim f [ ]
signature_again told.Added n f = elim f [ ]
signature_again (told.NoRegion c) n f = elim f [ ]
signature_again told.Dropped n f = elim f [ ]
signature_again (told.DroppedAll c) n f = elim f [ ]
signature_again (told.Denied d) n f = elim f [ ]
signature_again (told.Given v w) n f = elim f [ ]
signature_again told.NotMapped n f = elim f [ ]
signature_again told.Stored n f = elim f [ ]
signature_again (told.Got b) n f = elim f [ ]
signature_again told.NotResident n f = elim f [ ]
signature_again told.Evicted n f = elim f [ ]

pub file_again : (e : FileEvent) (r : FileReply) (n : ℕ) → FileReplyFits e r n → Answered (file_reply_row e) (file_reply_words n r) (r, n)
file_again (file.ReadSignature slice) r n f = signature_again r n f
file_again (file.AddBlob slice cdhash read lookup) r n f = told_plainly rows.blob_row r n f.1 (file_blob_again r f.0)
file_again (file.RefuseBlob read refusal) r n f = told_plainly rows.refuse_row r n f.1 (file_refuse_again r f.0)
file_again (file.Write at piece) r n f = told_plainly rows.write_row r n f.1 (file_write_again r f.0)
file_again (file.AddRegion region insert) r n f = told_plainly rows.region_row r n f.1 (file_region_again r f.0)
file_again (file.DropRegion id) r n f = told_plainly rows.drop_row r n f.1 (file_drop_again r f.0)
file_again (file.DropPid pid) r n f = told_plainly rows.drop_all_row r n f.1 (file_drop_all_again r f.0)
file_again (file.Enter id page access flags resolve) r n f = told_plainly rows.enter_row r n f.1 (file_enter_again r f.0)
file_again (file.Store id page at bytes resolve) r n f = told_plainly rows.store_row r n f.1 (file_store_again r f.0)
file_again (file.Load id page at count resolve) r n f = told_plainly rows.load_row r n f.1 (file_load_again r f.0)
file_again (file.Fetch id page at count resolve) r n f = told_plainly rows.load_row r n f.1 (file_load_again r f.0)
file_again (file.Evict page) r n f = told_plainly rows.evict_row r n f.1 (file_evict_again r f.0)
