use Rattle.std.proofs.Common.{◌∙◌, ap, length, sym}
use Rattle.gq_outer.specs.Rows.{Wide}
use Rattle.gq_trails.specs.declared.reached.Ends.{Ends}
use Rattle.gq_trails.proofs.Placed.{long_at, read_at}
use Rattle.gq_trails.proofs.chain.copy_row.Goals as goal

pub copy_from-requires-clause-nodes : goal.copy_from-requires-clause-nodes
copy_from-requires-clause-nodes c = (long_at c.args.at c.args.ends.now.items c.index.result.now c.args.row.now c.requires.low c.requires.long c.index.ensures).0

pub copy_from-requires-clause-rels : goal.copy_from-requires-clause-rels
copy_from-requires-clause-rels c = (long_at c.args.at c.args.ends.now.items c.index.result.now c.args.row.now c.requires.low c.requires.long c.index.ensures).1

pub returns-clause-row : goal.returns-clause-row
returns-clause-row c e rest is = c.copy_from.ensures ∙ ap (λ (x : Ends). x.row) (read_at c.args.at c.args.ends.now.items c.index.result.now e rest is c.index.ensures)

pub returns-clause-nodes : goal.returns-clause-nodes
returns-clause-nodes c = ap (λ (r : Wide). length r.nodes) c.copy_from.ensures ∙ sym (long_at c.args.at c.args.ends.now.items c.index.result.now c.args.row.now c.requires.low c.requires.long c.index.ensures).0

pub returns-clause-rels : goal.returns-clause-rels
returns-clause-rels c = ap (λ (r : Wide). length r.rels) c.copy_from.ensures ∙ sym (long_at c.args.at c.args.ends.now.items c.index.result.now c.args.row.now c.requires.low c.requires.long c.index.ensures).1
