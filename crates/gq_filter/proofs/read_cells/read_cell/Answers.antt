use Rattle.std.proofs.Common.{◌∙◌, sym, ap, subst}
use Rattle.gq_column.specs.Cells.{cell_at}
use Rattle.gq_filter.proofs.ReadLanes.{node_filled}
use Rattle.gq_filter.specs.steps.ReadCells.{IsFilled}
use Rattle.gq_filter.proofs.read_cells.read_cell.Goals as goal

pub returns-then-node-column : goal.returns-then-node-column
returns-then-node-column g c =
    let here = g.R.Assigned.assignment c.args.row.now in
    let node = c.in-Some.node in
    subst (IsFilled c.args.graph.now here c.args.feed.now) (sym (c.cell_at.ensures ∙ ap (λ cells. cell_at cells node.row) c.column.ensures.is))
    (node_filled c.args.graph.now here c.args.feed.now c.in-Node.variable node c.requires c.in-Node.is (sym c.in-Some.ensures) c.if-node-column.true)
