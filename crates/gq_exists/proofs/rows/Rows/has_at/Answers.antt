use Rattle.std.proofs.Common.{◌∙◌, None, Some, sym}
use Rattle.gq_exists.proofs.Singles.{stands_at, stands_long, stands_missing, stands_none, stands_one}
use Rattle.gq_exists.proofs.rows.Rows.has_at.Goals as goal

pub returns-in_default : goal.returns-in_default
returns-in_default g c =
    let rows = (g.R.Assigned.assignment c.args.row.now).nodes in
    sym (stands_none c.args.nodes.now rows c.args.self.now.nodes.items c.in_default.ensures.cases)

pub returns-then-not-is_empty : goal.returns-then-not-is_empty
returns-then-not-is_empty g c =
    let rows = (g.R.Assigned.assignment c.args.row.now).nodes in
    let nodes = c.args.self.now.nodes.items in
    sym (stands_long c.args.nodes.now c.in-Some.variable.now c.in-Some.others.now rows nodes c.in-Some.ensures.cases.0 (sym c.is_empty.ensures ∙ c.if-not-is_empty.true))

pub returns-in-None : goal.returns-in-None
returns-in-None g c =
    let rows = (g.R.Assigned.assignment c.args.row.now).nodes in
    let nodes = c.args.self.now.nodes.items in
    sym (stands_at c.args.nodes.now c.in-Some.variable.now c.in-Some.others.now rows nodes c.in-Some.ensures.cases.0 (sym c.is_empty.ensures ∙ c.if-not-is_empty.false) None c.in-None.ensures ∙ stands_missing nodes)

pub returns-in-Some-node : goal.returns-in-Some-node
returns-in-Some-node g c =
    let rows = (g.R.Assigned.assignment c.args.row.now).nodes in
    let nodes = c.args.self.now.nodes.items in
    c.has_node.ensures
    ∙ sym (stands_at c.args.nodes.now c.in-Some.variable.now c.in-Some.others.now rows nodes c.in-Some.ensures.cases.0 (sym c.is_empty.ensures ∙ c.if-not-is_empty.false) (Some c.in-Some-node.node) c.in-Some-node.ensures ∙ stands_one c.in-Some-node.node nodes)
