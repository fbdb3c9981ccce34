use Rattle.std.proofs.Common.{ap, ◌∙◌}
use Rattle.gq_filter.specs.Equal.{row_cell}
use Rattle.gq_pipe.specs.steps.Valued.{number_in}
use Rattle.gq_pipe.proofs.ByValue.{filled_more}
use Rattle.gq_pipe.proofs.valued.fill.Goals as goal

pub loop-row-preserved : goal.loop-row-preserved
loop-row-preserved c = filled_more c.args.build.now c.args.own c.loop-row.row _ _ _ (c.number_in.ensures ∙ ap number_in (c.row_cell.ensures ∙ ap (row_cell c.args.own) c.node-node.ensures)) c.in-Ok.ensures c.loop-row.invariant
