use Rattle.std.proofs.Common.{◌∙◌, ◌++◌, ap, sym}
use Rattle.gq_plan.specs.Assignments.{rels_of}
use Rattle.gq_reference.proofs.Products.{pieces_next, rels_of_is}
use Rattle.gq_reference.proofs.assignments.all_rels.Goals as goal

pub loop-table-preserved : goal.loop-table-preserved
loop-table-preserved c =
    let pushed = rw c.len.ensures at c.in_ok-push_rels.ensures in
    pieces_next (rels_of c.args.graph.now) _ _ c.loop-table.table c.loop-table.invariant
    (pushed ∙ ap (λ l. c.loop-table.rels ++ l) (sym (rels_of_is c.args.graph.now c.loop-table.table _ c.rel_rows.ensures)))
