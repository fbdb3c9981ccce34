use Rattle.std.proofs.Common.{length}
use Rattle.gq_drain.proofs.Copying.{row_copied}
use Rattle.gq_drain.proofs.copied.copy_row.Goals as goal

pub returns : goal.returns
returns c =
    let old = c.args.wide.now in
    let copied = row_copied c.args.row.now c.args.typed.now (length old.nodes) (length old.rels) c.len.result c.len-2.result old c.copy_nodes.new.wide c.copy_rels.new.wide c.requires.nodes c.requires.rels c.len.ensures c.len-2.ensures
    c.requires.blank c.copy_nodes.ensures.nodes c.copy_nodes.ensures.rels c.copy_rels.ensures.rels c.copy_rels.ensures.nodes in
    record { reads = copied.0; blank = copied.1 }
