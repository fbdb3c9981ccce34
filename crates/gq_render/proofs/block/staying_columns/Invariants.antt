use Rattle.gq_render.specs.steps.Blocks.{AllStaying}
use Rattle.gq_render.proofs.block.staying_columns.Given as goal

abbrev pub invariant-loop-column : goal.invariant-loop-column
invariant-loop-column l = record {
  same : AllStaying l.listing.lines l.first l.end l.column;
}
