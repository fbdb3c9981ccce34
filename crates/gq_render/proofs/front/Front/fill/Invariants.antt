use Rattle.std.proofs.Common.{◌≡◌}
use Rattle.gq_render.specs.steps.Blocks.{line_of}
use Rattle.gq_render.specs.steps.Fronts.{IsFront}
use Rattle.gq_render.proofs.front.Front.fill.Given as goal

abbrev pub invariant-loop-column : goal.invariant-loop-column
invariant-loop-column l = record {
  front : IsFront l.block.graph (line_of l.block l.row) l.self;
  reached : l.self.held ≡ l.column;
}
