use Rattle.std.proofs.Common.{◌∙◌, ap, arith}
use Rattle.gq_outer.specs.Rows.{Wide}
use Rattle.gq_drain.proofs.Copying.{copied_more}
use Rattle.gq_drain.proofs.copied.copy_nodes.Goals as goal

pub variables-preserved : goal.variables-preserved
variables-preserved g c =
    let i = c.variables.invariant in
    let low = c.variables-test.true in
    record {
      nodes = copied_more (g.R.Assigned.assignment c.args.row.now).nodes c.variables.variable c.args.wide.now.nodes c.variables.wide.nodes c.set_node.new.self.nodes c.node.result i.nodes (omega (arith, low, c.requires.there)) c.node.ensures
          (ap (λ (w : Wide). w.nodes) c.set_node.ensures);
      rels = ap (λ (w : Wide). w.rels) c.set_node.ensures ∙ i.rels;
    }
