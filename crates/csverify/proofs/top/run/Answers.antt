use Rattle.std.proofs.Common.{◌∙◌, ap, rules}
use Rattle.std.specs.Io.KnownBytes.{append_known}
use Rattle.pg_digest.specs.Digests.{sha_hash}
use Rattle.csverify.proofs.EndingFacts.{whole_ends, ends_verdict}
use Rattle.csverify.proofs.top.run.Goals as goal

pub returns-in-Ok-write_whole : goal.returns-in-Ok-write_whole
returns-in-Ok-write_whole g c = record {
  run = record {
    output = search rules;
    verdict = λ told tells. rw c.status.ensures (ends_verdict sha_hash _ told c.in-Ok.ending.status _ _
        (whole_ends _ _ _ c.in-Ok.ending _ _ _ c.in-Ok.ensures.cause (c.in-Ok.ensures.told told tells)
        (c.in-Ok-write_whole.ensures.whole ∙ ap (append_known _) c.text.ensures)));
    usage = search rules;
    read_fault = search rules;
    limit = search rules;
    early_text = search rules;
    no_bad_line = search rules;
    no_cache = search rules;
    reads = search rules;
    reads_short = search rules;
    quiet = search rules;
    sound = search rules;
    sink_fault = search rules;
    no_memory = search rules;
  };
}
