use Rattle.std.proofs.Common.{◌∙◌, length}
use Rattle.gq_drain.proofs.Copying.{blank_further, new_blank}
use Rattle.gq_drain.proofs.trailing.Walking.new.Goals as goal

pub returns-clause-ready : goal.returns-clause-ready
returns-clause-ready c =
    let p = c.args.prepared.now in
    let y = c.args.typed.now in
    let b = p.bound.now in
    let w = c.in_ok-row.row in
    record {
      row_is = blank_further (length y.nodes) (length y.rels) (length b.node_names) (length b.rel_names) w
          (rw (← c.requires.shape_nodes, ← c.requires.shape_rels) (new_blank p.shape.nodes p.shape.rels w c.in_ok-row.ensures.nodes c.in_ok-row.ensures.rels));
      trails = record {
        graph = c.in_ok-trails.ensures.graph;
        parts = c.in_ok-trails.ensures.parts ∙ c.as_slice.ensures;
        once = c.in_ok-trails.ensures.once;
        nodes = c.in_ok-trails.ensures.nodes ∙ c.requires.shape_nodes;
        rels = c.in_ok-trails.ensures.rels ∙ c.requires.shape_rels;
      };
      walks = c.requires.walks;
      nodes = c.requires.nodes;
      rels = c.requires.rels;
      few_nodes = c.requires.few_nodes;
      few_rels = c.requires.few_rels;
    }
