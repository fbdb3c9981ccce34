use Rattle.std.proofs.Common.{◌≡◌, ◌+◌, take}
use Rattle.gq_render.specs.steps.Blocks.{line_of}
use Rattle.gq_render.proofs.front.shared.Given as goal

abbrev pub invariant-loop-column : goal.invariant-loop-column
invariant-loop-column l =
    take l.column (line_of l.block l.row) ≡ take l.column (line_of l.block (l.row + 1))
