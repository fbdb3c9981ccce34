use Rattle.gq_render.specs.steps.Blocks.{IsSame}
use Rattle.gq_render.proofs.block.stays_in.Given as goal

abbrev pub invariant-loop-row : goal.invariant-loop-row
invariant-loop-row l = record {
  same : IsSame l.listing.lines l.first l.row l.column;
}
