use Rattle.std.proofs.Common.{◌∙◌, ap, arith}
use Rattle.gq_outer.specs.Rows.{Wide}
use Rattle.gq_drain.proofs.Copying.{copied_more}
use Rattle.gq_drain.proofs.copied.copy_rels.Goals as goal

pub variables-preserved : goal.variables-preserved
variables-preserved g c =
    let i = c.variables.invariant in
    let low = c.variables-test.true in
    record {
      rels = copied_more (g.R.Assigned.assignment c.args.row.now).rels c.variables.variable c.args.wide.now.rels c.variables.wide.rels c.set_rel.new.self.rels c.rel.result i.rels (omega (arith, low, c.requires.there)) c.rel.ensures
          (ap (λ (w : Wide). w.rels) c.set_rel.ensures);
      nodes = ap (λ (w : Wide). w.nodes) c.set_rel.ensures ∙ i.nodes;
    }
