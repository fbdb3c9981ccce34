use Rattle.std.proofs.Common.{◌≡◌, take}
use Rattle.std.specs.Prelude.{All}
use Rattle.gq_tables.specs.Answers.{seen_end}
use Rattle.gq_tables.specs.steps.Batches.{HasEnds, HasKeys, texts_of}
use Rattle.gq_tables.proofs.batch.find_ends.Given as goal

abbrev pub invariant-loop-pending : goal.invariant-loop-pending
invariant-loop-pending l = record {
  texts : texts_of l.batch ≡ texts_of l.initial.batch;
  keys : All (HasKeys l.ends.sources.now.end.kind l.ends.targets.now.end.kind) l.batch;
  found : All (HasEnds (seen_end l.ends.sources.now.end) (seen_end l.ends.targets.now.end)) (take l.pending-index l.batch);
}
