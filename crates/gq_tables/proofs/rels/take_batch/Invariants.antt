use Rattle.std.proofs.Common.{◌≡◌, ◌+◌, ◌++◌, [], List, ℕ, drop, length}
use Rattle.gq_tables.proofs.RelSteps.{Gathering}
use Rattle.gq_tables.specs.Answers.{seen_end}
use Rattle.gq_tables.specs.steps.Batches.{rels_by, texts_of}
use Rattle.gq_tables.proofs.rels.take_batch.Given as goal

abbrev pub invariant-loop-pending : goal.invariant-loop-pending
invariant-loop-pending l = record {
  empty : l.room ≡ [];
  size : length l.rels ≡ length l.initial.rels + l.pending-index;
  taken : (left : List (List (List ℕ)))
      → Gathering (seen_end l.form.ends.sources.now.end) (seen_end l.form.ends.targets.now.end) l.form.limit (length l.form.fields.now + 2) l.form.fields.now l.form.mult
      (rels_by l.form l.initial.rels (texts_of l.batch ++ left)) (texts_of (drop l.pending-index l.batch) ++ left) l.rels l.sides.sources l.sides.targets;
}
