use Rattle.std.proofs.Common.{ap, length, arith}
use Rattle.gq_join.specs.Kept.{row_at}
use Rattle.gq_outer.specs.Rows.{Wide, item_at}
use Rattle.gq_optional.proofs.Placed.{all_head, all_tail, placed_nodes}
use Rattle.gq_optional.proofs.placing.+place_nodes.Goals as goal

pub overflow_add-place : goal.overflow_add-place
overflow_add-place t c = omega (arith, c.requires.fits, ap length c.in-Some-split_first.ensures.cases.0)

pub place_nodes-requires : goal.place_nodes-requires
place_nodes-requires t c =
    let e = c.in-Some.ensures.cases.0 in
    let f = ap length c.in-Some-split_first.ensures.cases.0 in
    (omega (arith, c.decreases, ap length e), (c.requires.at, (omega (arith, c.requires.inside, f), (omega (arith, c.requires.fits, f), (c.requires.sized, all_tail _ _ _ _ e c.requires.variables)))))

pub returns-clause-nodes : goal.returns-clause-nodes
returns-clause-nodes t c =
    let e = c.in-Some.ensures.cases.0 in
    let f = c.in-Some-split_first.ensures.cases.0 in
    let v = all_head _ _ _ _ e c.requires.variables in
    placed_nodes c.place_nodes.new.row.nodes c.set_node.new.self.nodes c.in-Some.variable.now c.in-Some.variables.now c.args.variables.now c.in-Some-split_first.table.now c.in-Some-split_first.tables.now c.args.tables.now
    (row_at c.args.build.now c.args.at).nodes c.args.place c.node_at.result (item_at c.args.row.now.nodes)
    (ap (λ (w : Wide). w.nodes) c.set_node.ensures) c.node_at.ensures e f (omega (arith, c.requires.inside, c.requires.sized, ap length f)) (omega (arith, v, c.place_nodes.ensures.count)) c.place_nodes.ensures.nodes
