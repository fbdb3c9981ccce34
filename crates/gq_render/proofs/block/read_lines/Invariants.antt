use Rattle.std.proofs.Common.{◌≡◌, length}
use Rattle.gq_render.specs.steps.Blocks.{HaveRead}
use Rattle.gq_render.proofs.block.read_lines.Given as goal

abbrev pub invariant-loop-column : goal.invariant-loop-column
invariant-loop-column l = record {
  size : length l.lanes ≡ 8;
  read : HaveRead l.listing.lines l.first l.end l.staying l.column l.lanes;
}
