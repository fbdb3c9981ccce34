use Rattle.std.proofs.Common.{length}
use Rattle.gq_drain.proofs.Copying.{blank_further, new_blank}
use Rattle.gq_drain.proofs.behind.Behind.new.Goals as goal

pub returns-clause-ready : goal.returns-clause-ready
returns-clause-ready c =
    let p = c.args.prepared.now in
    let y = c.args.typed.now in
    let w = c.in_ok-row.row in
    let held = p.optionals.held in
    record {
      row = blank_further (length y.nodes) (length y.rels) held.shape.nodes held.shape.rels w
          (rw c.requires.shape (new_blank p.shape.nodes p.shape.rels w c.in_ok-row.ensures.nodes c.in_ok-row.ensures.rels));
      walk = c.in_ok-walk.ensures.held;
      nodes = c.requires.nodes;
      rels = c.requires.rels;
      few_nodes = c.requires.few_nodes;
      few_rels = c.requires.few_rels;
    }
