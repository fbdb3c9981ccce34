use Rattle.std.proofs.Common.{◌≡◌, ◌∷◌, []}
use Rattle.gq_base.specs.declared.operator.CompareOp.TheVariants.{Equal as equal}
use Rattle.gq_expr.specs.Reading.{node_property, property_at}
use Rattle.gq_expr.specs.declared.expr.Expr.TheVariants.{Compare, NodeProperty}
use Rattle.gq_filter.specs.Equal.{node_cell}
use Rattle.gq_plan.specs.Rows.{as_read}
use Rattle.gq_same_texts.proofs.Asking.{one_text, passes_equal}
use Rattle.gq_same_texts.proofs.asked.equal_texts.Goals as goal

pub returns : goal.returns
returns c = λ row is.
    let g = c.args.graph.now in
    let read = as_read c.args.typed.now row in
    let m = c.in_ok-asked.asked.left in
    let n = c.in_ok-asked.asked.right in
    let left = c.in_ok-left.left in
    let right = c.in_ok-right.right in
    let expr : c.args.condition.now.expr ≡ Compare (NodeProperty m.node m.name.now) (record { op = equal; expr = NodeProperty n.node n.name.now } ∷ []) = cc (c.get.ensures, c.in_ok-asked.ensures) in
    one_text left.dict.now right.dict.now
    (property_at (node_property g) (read.nodes m.node) m.name.now) (property_at (node_property g) (read.nodes n.node) n.name.now)
    (node_cell left.cells row) (node_cell right.cells row)
    c.in_ok-left.ensures.ascending c.in_ok-right.ensures.ascending (c.in_ok-left.ensures.text row) (c.in_ok-right.ensures.text row)
    (passes_equal g read c.args.condition.now m.node n.node m.name.now n.name.now expr is)
