use Rattle.std.proofs.Common.{◌<◌, length, sym, ap, ◌∙◌, arith}
use Rattle.gq_base.specs.declared.direction.Direction.TheVariants.{Forward, Backward}
use Rattle.gq_store.specs.Neighbours.{end_rows, mult_of}
use Rattle.gq_store.proofs.Validity.{node_tables_are, rel_table_is}
use Rattle.gq_store.proofs.building.shape_of.Goals as goal

pub bounds-nodes-table : goal.bounds-nodes-table
bounds-nodes-table c =
    let is = (rel_table_is c.args.of.now.value c.args.rel c.args.table.now c.requires.valid c.requires.table).1 in
    omega (arith, is.from, node_tables_are c.args.of.now.value c.requires.valid, c.requires.nodes.len)

pub bounds-nodes-table-2 : goal.bounds-nodes-table-2
bounds-nodes-table-2 c =
    let is = (rel_table_is c.args.of.now.value c.args.rel c.args.table.now c.requires.valid c.requires.table).1 in
    omega (arith, is.from, node_tables_are c.args.of.now.value c.requires.valid, c.requires.nodes.len)

pub bounds-nodes-table-3 : goal.bounds-nodes-table-3
bounds-nodes-table-3 c =
    let is = (rel_table_is c.args.of.now.value c.args.rel c.args.table.now c.requires.valid c.requires.table).1 in
    omega (arith, is.to, node_tables_are c.args.of.now.value c.requires.valid, c.requires.nodes.len)

pub bounds-nodes-table-4 : goal.bounds-nodes-table-4
bounds-nodes-table-4 c =
    let is = (rel_table_is c.args.of.now.value c.args.rel c.args.table.now c.requires.valid c.requires.table).1 in
    omega (arith, is.to, node_tables_are c.args.of.now.value c.requires.valid, c.requires.nodes.len)

pub returns : goal.returns
returns c =
    let g = c.args.of.now.value in
    let t = c.args.table.now in
    let is = (rel_table_is g c.args.rel t c.requires.valid c.requires.table).1 in
    let from : t.from < length c.args.nodes.now = omega (arith, is.from, node_tables_are g c.requires.valid, c.requires.nodes.len) in
    let to : t.to < length c.args.nodes.now = omega (arith, is.to, node_tables_are g c.requires.valid, c.requires.nodes.len) in
    record {
      mult_is = ap mult_of c.requires.table;
      sources_are = (c.requires.nodes.each t.from c.index-nodes-table.result from).rows_are ∙ sym (ap (end_rows g.nodes Forward) c.requires.table);
      targets_are = (c.requires.nodes.each t.to c.index-nodes-table-2.result to).rows_are ∙ sym (ap (end_rows g.nodes Backward) c.requires.table);
    }
