use Rattle.std.proofs.Common.{◌≡◌, ◌<◌, ◌+◌, [], length, true}
use Rattle.std.specs.Prelude.{if◌then◌else◌}
use Rattle.gq_tables.proofs.BatchSteps.{unread}
use Rattle.gq_tables.proofs.RelSteps.{Gathering}
use Rattle.gq_tables.specs.Answers.{seen_end}
use Rattle.gq_tables.specs.steps.Batches.{rels_by}
use Rattle.gq_tables.specs.steps.Unread.{IsOpen, records_left}
use Rattle.gq_tables.proofs.rels.read_records.Given as goal

abbrev pub invariant-loop-more : goal.invariant-loop-more
invariant-loop-more l = record {
  room : 0 < length l.batch;
  is_open : l.more ≡ true → IsOpen l.reader;
  size : length l.rels + length (unread l.more (records_left l.reader)) ≡ length (records_left l.initial.reader);
  taken : Gathering (seen_end l.form.ends.sources.now.end) (seen_end l.form.ends.targets.now.end) l.form.limit (length l.form.fields.now + 2) l.form.fields.now l.form.mult
      (rels_by l.form [] (records_left l.initial.reader)) (unread l.more (records_left l.reader)) l.rels l.sides.sources l.sides.targets;
}

abbrev pub decreases-loop-more : goal.decreases-loop-more
decreases-loop-more l = if l.more then length (records_left l.reader) + 1 else 0
