use Rattle.std.proofs.Common.{◌∙◌, ◌++◌, ap, sym}
use Rattle.gq_plan.specs.Assignments.{nodes_of}
use Rattle.gq_reference.proofs.Products.{pieces_next, nodes_of_is}
use Rattle.gq_reference.proofs.assignments.all_nodes.Goals as goal

pub loop-table-preserved : goal.loop-table-preserved
loop-table-preserved c =
    let pushed = rw c.len.ensures at c.in_ok-push_nodes.ensures in
    pieces_next (nodes_of c.args.graph.now) _ _ c.loop-table.table c.loop-table.invariant
    (pushed ∙ ap (λ l. c.loop-table.nodes ++ l) (sym (nodes_of_is c.args.graph.now c.loop-table.table _ c.node_rows.ensures)))
